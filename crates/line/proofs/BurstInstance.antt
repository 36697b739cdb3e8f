-- A burst of six damaged cells: forty cells of a new sender, in one feed to a new receiving end, every octet of six of them changed.
use Rattle.std.proofs.Common.{◌≡◌, ℕ, suc, ◌+◌, ◌*◌, ◌<◌, ◌≤◌, Bool, ◌⊎◌, List, [], ◌∷◌, ◌++◌, map, length, take, drop, sym, refl, ap, ◌∙◌, subst, inr, append_assoc, append-nil, arith, length-append, take_at, drop_at}
use Rattle.std.proofs.lemmas.List.{length-map, map-append}
use Rattle.cell.specs.declared.header.Kind.TheVariants.{User}
use Rattle.ports.specs.Cell.{of_connection}
use Rattle.sender.specs.Sender.{SenderState, Octets, fresh, advanced}
use Rattle.sender.specs.Stream.{Send, SentStream, lost}
use Rattle.receiver.specs.Handing.{Moment, bits}
use Rattle.receiver.specs.Run.{bits_of}
use Rattle.line.specs.Heard.{join}
use Rattle.line.specs.Instances.{BurstArrives}
use Rattle.line.specs.Laws.{header_bits, payload_bits, complete, last_bit, Right, Follows, Undamaged}
use Rattle.line.specs.Sending as sending
use Rattle.line.specs.Sending.{History, sent}
use Rattle.line.proofs.Bits.{length-bits_of}
use Rattle.line.proofs.Carried.{CarriedOn}
use Rattle.line.proofs.CodeFacts.{code_laws}
use Rattle.line.proofs.Damage.{Octets53, lines_of, bits-joined, bits_whole, stream_octets, damaged, damaged_lines, burst, length_burst, outside_six, inside_six}
use Rattle.line.proofs.FedStream.{fed_ends, fed_laws, sent_stream, FedInStep, fed_in_step}
use Rattle.line.proofs.LawC.{length-join}
use Rattle.line.proofs.Roomy.{roomy_ready}
use Rattle.line.proofs.Runs.{length-bits, all_front, all_rest, all_joined}
use Rattle.line.proofs.SampleSends.{sample_connection, send_on, sends_on, sent_on, fresh-octets, grown}
use Rattle.line.proofs.Sends.{cell_bits, stream_carried, header_long_lem, payload_long_lem}

follows_by : (past rest : List Moment) (p : ℕ) (front : List Send) (x : Send) (back : List Send) (lines : List (List ℕ)) → (right : Right past p front x back) → right.in_step.confidence ≡ 24
    → length (header_bits x) ≡ 40 → length lines ≡ length back → Octets53 (x.line ∷ lines) → bits rest ≡ payload_bits x ++ bits_of (join lines)
    → (follows : Follows past rest p front x back (map bits_of (x.line ∷ lines))) × (follows.right.in_step.confidence ≡ 24)
follows_by past rest p front x back lines right sure long many octets is =
    let tail : List Bool = payload_bits x ++ join (map bits_of lines) in
    let all : join (map bits_of (x.line ∷ lines)) ≡ header_bits x ++ tail =
    ap (λ (w : List Bool). w ++ join (map bits_of lines)) (cell_bits x) ∙ append_assoc (header_bits x) (payload_bits x) (join (map bits_of lines)) in (
      record {
        right = right;
        as_many = ap suc (length-map lines bits_of ∙ many);
        whole = bits_whole (x.line ∷ lines) octets;
        first = ap (take 40) all ∙ take_at (header_bits x) tail 40 long;
        comes = ([], append-nil (bits rest) ∙ is ∙ ap (λ (w : List Bool). payload_bits x ++ w) (sym (bits-joined lines)) ∙ sym (ap (drop 40) all ∙ drop_at (header_bits x) tail 40 long));
      },
      sure,
    )

-- any stream of 23 cells or more, the right header's cell, six cells to be damaged, and the user cell y with others after it, 77 cells at most
burst_comes : {cs : List sending.Call} {s : SenderState} (g : History cs s) (x₀ : Send) (ys : List Send) (x : Send) (six : List Send) (y : Send) (zs : List Send) (k : ℕ)
    → (sent g).newest.sends ≡ (x₀ ∷ ys) ++ x ∷ (six ++ y ∷ zs) → 22 ≤ length ys → length six ≡ 6 → length ys + length zs ≤ 68 → y.kind ≡ User → of_connection k (lost y) ≡ y.cell ∷ []
    → BurstArrives
burst_comes g x₀ ys x six y zs k sends many count few user own =
    let p : ℕ = (sent g).newest.begins in
    let later : List Send = y ∷ zs in
    let back : List Send = six ++ later in
    let stream : SentStream p ((x₀ ∷ ys) ++ x ∷ back) = sent_stream g ((x₀ ∷ ys) ++ x ∷ back) sends in
    let carried : CarriedOn x.phase (x ∷ back) = stream_carried p (x₀ ∷ ys) x back stream in
    let octets : Octets53 (lines_of (x ∷ back)) = stream_octets p ((x₀ ∷ ys) ++ x ∷ back) stream (x₀ ∷ ys) (x ∷ back) refl in
    let back-octets : Octets53 (lines_of six ++ lines_of later) = subst Octets53 (map-append (λ (z : Send). z.line) six later) octets.1 in
    let six-octets : Octets53 (lines_of six) = all_front (Octets 53) (lines_of six) (lines_of later) back-octets in
    let lines : List (List ℕ) = burst six later in
    let line-octets : Octets53 lines =
    all_joined (Octets 53) (map (λ (z : Send). damaged z.line) six) (lines_of later) (damaged_lines six six-octets) (all_rest (Octets 53) (lines_of six) (lines_of later) back-octets) in
    let n₁ : length lines ≡ 6 + suc (length zs) = length_burst six later ∙ length-append six later ∙ ap (λ (n : ℕ). n + suc (length zs)) count in
    let n₂ : length (join lines) ≡ 53 * length lines =
    (let a = length-bits_of (join lines) in let b = ap length (bits-joined lines) in let c = length-join (map bits_of lines) (bits_whole lines line-octets) in let e = length-map lines bits_of in omega arith) in
    let v : FedInStep p (x₀ ∷ ys) x back (join lines) = fed_in_step p x₀ ys x back (join lines) stream many (omega arith) in
    let got : List (List Bool) = map bits_of (x.line ∷ lines) in
    let f = follows_by v.past v.rest p (x₀ ∷ ys) x back lines v.right v.sure (header_long_lem code_laws carried.0) (length_burst six later) (octets.0, line-octets) v.others in
    let out : (i : ℕ) → (i < 1) ⊎ (1 + 6 ≤ i) → Undamaged (x ∷ back) got i = λ i h. outside_six x six later i count h in
    let gains = ((fed_laws v.fed).six v.past v.rest p (x₀ ∷ ys) back x got 1 v.is f.0 f.1 out).1 k in
    let long : length v.rest ≡ 384 + 8 * length (join lines) =
    sym (length-bits v.rest) ∙ ap length v.others ∙ length-append (payload_bits x) (bits_of (join lines))
    ∙ (let a = payload_long_lem code_laws carried.0 in let b = length-bits_of (join lines) in omega arith) in
    let seven : length (x ∷ six) ≡ 7 = ap suc count in
    let came : length (x ∷ six) < complete (length v.rest) = (let a = seven in let b = long in omega arith) in
    let ready = roomy_ready v.rest v.ready (last_bit (length (x ∷ six))) y.cell in
    record {
      ends = fed_ends g (x₀ ∷ ys) x back sends v.fed;
      past = v.past;
      rest = v.rest;
      heard = v.is;
      got = got;
      follows = f.0;
      confidence = f.1;
      d = 1;
      outside = out;
      inside = λ i h l e. inside_six x six later i six-octets count h l e;
      before = x ∷ six;
      y = y;
      later = zs;
      place = refl;
      after = (let a = seven in omega arith);
      user = user;
      came = came;
      ready = ready;
      connection = k;
      gains = gains;
      gained = gains.as_sent (x ∷ six) zs y refl (let a = seven in omega arith) came (out (length (x ∷ six)) (inr (let a = seven in omega arith))) (λ _. ready) ∙ own;
    }

pub burst_arrives : BurstArrives
burst_arrives =
    let g = grown 40 sending.made fresh-octets in
    let t : SenderState = sent_on 30 fresh in
    let u : SenderState = sent_on 37 fresh in
    burst_comes g.history (send_on fresh) (sends_on 29 (advanced fresh)) (send_on t) (sends_on 6 (advanced t)) (send_on u) (sends_on 2 (advanced u)) sample_connection g.sends (omega arith) refl (omega arith) refl refl
