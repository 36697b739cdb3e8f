-- One and two wrong bits in a header: twenty-six cells of a new sender, in one feed to a new receiving end, the last with its first octet
-- changed.
--
--   changed k l  the octets l, the first with the bits of k turned
use Rattle.std.proofs.Common.{◌≡◌, ℕ, suc, ◌≤◌, Bool, true, false, T, eqb, List, [], ◌∷◌, ◌++◌, length, take, drop, sym, refl, ap, ◌∙◌, subst, ap₂, append_assoc, arith, length-append, length-take, take-append-drop, take_at, drop_at, eqb→eq}
use lib.Bits.{bit_xor}
use Rattle.std.specs.List.{AllByRecursion}
use Rattle.cell.specs.declared.header.Kind.TheVariants.{User}
use Rattle.cell.specs.Tests.{below}
use Rattle.cell.proofs.Table.{below_at}
use Rattle.ports.specs.Cell.{of_connection}
use Rattle.sender.specs.Sender.{SenderState, Octets, fresh, advanced}
use Rattle.sender.specs.Stream.{Send, SentStream, lost}
use Rattle.sender.proofs.Streams.{stream_laws}
use Rattle.receiver.specs.Handing.{Moment, bits}
use Rattle.receiver.specs.Run.{octet_bits, bits_of}
use Rattle.line.specs.Heard.{Gains, ReadyAt}
use Rattle.line.specs.Instances.{MendedArrives, TwoWrongArrives}
use Rattle.line.specs.Laws.{header_bits, payload_bits, last_bit, differing}
use Rattle.line.specs.Sending as sending
use Rattle.line.specs.Sending.{History, sent}
use Rattle.line.proofs.Bits.{length-bits_of}
use Rattle.line.proofs.Carried.{CarriedOn}
use Rattle.line.proofs.Cells.{Ended, ended}
use Rattle.line.proofs.CodeFacts.{code_laws}
use Rattle.line.proofs.FedStream.{fed_ends, fed_laws, sent_stream, FedInStep, fed_in_step}
use Rattle.line.proofs.Roomy.{RoomyAt, roomy_ready}
use Rattle.line.proofs.Runs.{length-bits, all_rest, parted_at}
use Rattle.line.proofs.SampleSends.{sample_connection, send_on, sends_on, sent_on, fresh-octets, Grown, grown}
use Rattle.line.proofs.Sends.{stream_carried, payload_long_lem}

-- ---- wrong bits in the first octet

abbrev changed : ℕ → List ℕ → List ℕ
changed k [] = []
changed k (o ∷ os) = bit_xor o k ∷ os

octet_apart : ℕ → ℕ → ℕ → Bool
octet_apart k n o = eqb (differing (octet_bits (bit_xor o k)) (octet_bits o)) n

one_apart : T (below 256 (octet_apart 1 1))
unfolding octet_apart octet_bits
one_apart = tt

two_apart : T (below 256 (octet_apart 3 2))
unfolding octet_apart octet_bits
two_apart = tt

same_differing : (w : List Bool) → differing w w ≡ 0
same_differing [] = refl
same_differing (true ∷ w) = same_differing w
same_differing (false ∷ w) = same_differing w

differing_front : (v w u : List Bool) → length v ≡ length w → differing (v ++ u) (w ++ u) ≡ differing v w
differing_front [] [] u l = same_differing u
differing_front [] (c ∷ w) u l = absurd (omega arith)
differing_front (b ∷ v) [] u l = absurd (omega arith)
differing_front (true ∷ v) (true ∷ w) u l = differing_front v w u (omega arith)
differing_front (true ∷ v) (false ∷ w) u l = ap suc (differing_front v w u (omega arith))
differing_front (false ∷ v) (true ∷ w) u l = ap suc (differing_front v w u (omega arith))
differing_front (false ∷ v) (false ∷ w) u l = differing_front v w u (omega arith)

-- how a line comes in with n bits of its first octet wrong
record Wrong (n : ℕ) (l : List ℕ) (came : List ℕ) : Type 0 where
  header : List Bool
  is : bits_of came ≡ header ++ drop 40 (bits_of l)
  long : length came ≡ 53
  header_long : length header ≡ 40
  apart : differing header (take 40 (bits_of l)) ≡ n

wrong_by : (k n : ℕ) → T (below 256 (octet_apart k n)) → (l : List ℕ) → Octets 53 l → Wrong n l (changed k l)
unfolding octet_apart octet_bits
wrong_by k n t [] h = absurd (let z = h.0 in omega arith)
wrong_by k n t (o ∷ os) h =
    let w : List Bool = bits_of (bit_xor o k ∷ os) in
    let many : length (bits_of os) ≡ 416 = length-bits_of os ∙ (let z = h.0 in omega arith) in
    record {
      header = take 40 w;
      is = sym (take-append-drop 40 w);
      long = h.0;
      header_long = length-take 40 w ∙ (omega arith);
      apart = differing_front (octet_bits (bit_xor o k)) (octet_bits o) (take 32 (bits_of os)) refl ∙ eqb→eq _ n (below_at 256 (octet_apart k n) t o h.1.0);
    }

-- ---- the whole feed

-- the stream x₀ ∷ ys of 23 cells or more, x with the right header, and y, of which n bits come wrong
module _ {cs : List sending.Call} {s : SenderState} (g : History cs s) (x₀ : Send) (ys : List Send) (x y : Send) (sends : (sent g).newest.sends ≡ (x₀ ∷ ys) ++ x ∷ (y ∷ [])) (many : 22 ≤ length ys) (few : length ys ≤ 70) (user : y.kind ≡ User) where
  abbrev p : ℕ
  p = (sent g).newest.begins

  stream : SentStream p ((x₀ ∷ ys) ++ x ∷ (y ∷ []))
  stream = sent_stream g ((x₀ ∷ ys) ++ x ∷ (y ∷ [])) sends

  carried : CarriedOn x.phase (x ∷ (y ∷ []))
  carried = stream_carried p (x₀ ∷ ys) x (y ∷ []) stream

  octets : Octets 53 y.line
  octets = (stream_laws.cells p ((x₀ ∷ ys) ++ x ∷ (y ∷ [])) stream ((x₀ ∷ ys) ++ x ∷ []) y [] (sym (append_assoc (x₀ ∷ ys) (x ∷ []) (y ∷ [])))).line

  module _ (n : ℕ) (came : List ℕ) (w : Wrong n y.line came) where
    fed : FedInStep p (x₀ ∷ ys) x (y ∷ []) came
    fed = fed_in_step p x₀ ys x (y ∷ []) came stream many (let z = w.long in omega arith)

    others : bits fed.rest ≡ payload_bits x ++ (w.header ++ payload_bits y)
    others = fed.others ∙ ap (λ (v : List Bool). payload_bits x ++ v) w.is

    paid : length (payload_bits x) ≡ 384
    paid = payload_long_lem code_laws carried.0

    f : Ended 383 (payload_bits y)
    f = ended 383 (payload_bits y) (payload_long_lem code_laws carried.1.0)

  mended_comes : (k : ℕ) → of_connection k (lost y) ≡ y.cell ∷ [] → MendedArrives
  mended_comes k own =
      let w = wrong_by 1 1 one_apart y.line octets in
      let came : List ℕ = changed 1 y.line in
      let v = fed 1 came w in
      let e : Ended 39 w.header = ended 39 w.header w.header_long in
      let h = parted_at (payload_bits x ++ e.front) e.last (payload_bits y) v.rest
      (others 1 came w ∙ ap (λ (z : List Bool). payload_bits x ++ (z ++ payload_bits y)) e.is
      ∙ ap (λ (z : List Bool). payload_bits x ++ z) (append_assoc e.front (e.last ∷ []) (payload_bits y)) ∙ sym (append_assoc (payload_bits x) e.front (e.last ∷ payload_bits y))) in
      let u = parted_at (f 1 came w).front (f 1 came w).last [] h.rest (h.others ∙ (f 1 came w).is) in
      let is = v.is ∙ ap (λ (z : List Moment). v.past ++ z) h.is in
      let long : length h.past ≡ 423 =
      sym (length-bits h.past) ∙ ap length h.heard ∙ length-append (payload_bits x) e.front ∙ (let a = paid 1 came w in let b = e.long in omega arith) in
      let got : drop 384 (bits h.past ++ h.m.bit ∷ []) ≡ w.header =
      ap₂ (λ (z : List Bool) (b : Bool). drop 384 (z ++ b ∷ [])) h.heard h.bit ∙ ap (drop 384) (append_assoc (payload_bits x) e.front (e.last ∷ []) ∙ ap (λ (z : List Bool). payload_bits x ++ z) (sym e.is))
      ∙ drop_at (payload_bits x) w.header 384 (paid 1 came w) in
      let wrong : differing (drop 384 (bits h.past ++ h.m.bit ∷ [])) (header_bits y) ≡ 1 = ap (λ (z : List Bool). differing z (header_bits y)) got ∙ w.apart in
      let as_sent : bits u.past ++ u.m.bit ∷ [] ≡ payload_bits y = ap₂ (λ (z : List Bool) (b : Bool). z ++ b ∷ []) u.heard u.bit ∙ sym (f 1 came w).is in
      let ready : ReadyAt h.rest (last_bit 0) y.cell =
      roomy_ready h.rest (all_rest RoomyAt (h.past ++ h.m ∷ []) h.rest (subst (AllByRecursion RoomyAt) (h.is ∙ sym (append_assoc h.past (h.m ∷ []) h.rest)) v.ready)) (last_bit 0) y.cell in
      let law = (fed_laws v.fed).one v.past h.past h.rest h.m p (x₀ ∷ ys) [] x y is long v.right wrong in
      record {
        ends = fed_ends g (x₀ ∷ ys) x (y ∷ []) sends v.fed;
        past = v.past;
        body = h.past;
        m = h.m;
        rest = h.rest;
        heard = is;
        many = long;
        y = y;
        later = [];
        next = refl;
        right = v.right;
        wrong = wrong;
        user = user;
        payload = u.past;
        n = u.m;
        others = u.rest;
        cut = u.is;
        as_sent = as_sent;
        ready = ready;
        connection = k;
        gains = subst (Gains k (u.past ++ u.m ∷ [])) own ((law.1 u.past u.rest u.m u.is as_sent).gains (λ _. ready) k);
      }

  two_wrong_comes : TwoWrongArrives
  two_wrong_comes =
      let w = wrong_by 3 2 two_apart y.line octets in
      let came : List ℕ = changed 3 y.line in
      let v = fed 2 came w in
      let l : Ended 383 (payload_bits y) = f 2 came w in
      let front : List Bool = payload_bits x ++ (w.header ++ l.front) in
      let h = parted_at front l.last [] v.rest
      (others 2 came w ∙ ap (λ (z : List Bool). payload_bits x ++ (w.header ++ z)) l.is
      ∙ ap (λ (z : List Bool). payload_bits x ++ z) (sym (append_assoc w.header l.front (l.last ∷ []))) ∙ sym (append_assoc (payload_bits x) (w.header ++ l.front) (l.last ∷ []))) in
      let long : length h.past ≡ 807 =
      sym (length-bits h.past) ∙ ap length h.heard ∙ length-append (payload_bits x) (w.header ++ l.front)
      ∙ (let a = paid 2 came w in let b = length-append w.header l.front in let c = w.header_long in let d = l.long in omega arith) in
      let after : drop 384 (bits h.past) ≡ w.header ++ l.front = ap (drop 384) h.heard ∙ drop_at (payload_bits x) (w.header ++ l.front) 384 (paid 2 came w) in
      record {
        ends = fed_ends g (x₀ ∷ ys) x (y ∷ []) sends v.fed;
        past = v.past;
        body = h.past;
        m = h.m;
        rest = h.rest;
        heard = v.is ∙ ap (λ (z : List Moment). v.past ++ z) h.is;
        least = omega arith;
        most = omega arith;
        y = y;
        later = [];
        next = refl;
        stream = stream;
        in_step = v.right.in_step;
        wrong = ap (λ (z : List Bool). differing (take 40 z) (header_bits y)) after ∙ ap (λ (z : List Bool). differing z (header_bits y)) (take_at w.header l.front 40 w.header_long) ∙ w.apart;
        user = user;
        as_sent = ap₂ (λ (z : List Bool) (b : Bool). drop 424 z ++ b ∷ []) h.heard h.bit
            ∙ ap (λ (z : List Bool). z ++ l.last ∷ [])
            (ap (drop 424) (sym (append_assoc (payload_bits x) w.header l.front)) ∙ drop_at (payload_bits x ++ w.header) l.front 424 (length-append (payload_bits x) w.header ∙ (let a = paid 2 came w in let c = w.header_long in omega arith)))
            ∙ sym l.is;
      }

grown_26 : Grown 26 fresh (sent sending.made).newest
grown_26 = grown 26 sending.made fresh-octets

pub mended_arrives : MendedArrives
mended_arrives =
    let x : SenderState = sent_on 24 fresh in
    mended_comes grown_26.history (send_on fresh) (sends_on 23 (advanced fresh)) (send_on x) (send_on (advanced x)) grown_26.sends (omega arith) (omega arith) refl sample_connection refl

pub two_wrong_arrives : TwoWrongArrives
two_wrong_arrives =
    let x : SenderState = sent_on 24 fresh in
    two_wrong_comes grown_26.history (send_on fresh) (sends_on 23 (advanced fresh)) (send_on x) (send_on (advanced x)) grown_26.sends (omega arith) (omega arith) refl
