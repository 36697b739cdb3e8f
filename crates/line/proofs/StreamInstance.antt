-- A stream that arrives as sent: forty cells of a new sender, in one feed to a new receiving end.
use Rattle.std.proofs.Common.{◌≡◌, ℕ, suc, ◌+◌, ◌*◌, ◌≤◌, Bool, List, [], ◌∷◌, ◌++◌, length, take, drop, sym, refl, ap, ◌∙◌, subst, ap₂, append_assoc, append-nil, arith, length-append, take_all}
use Rattle.std.specs.List.{AllByRecursion}
use Rattle.ports.specs.Cell.{Cell, of_connection}
use Rattle.sender.specs.Sender.{SenderState, fresh, advanced}
use Rattle.sender.specs.Stream.{Send, SentStream, line_of, sent_users}
use Rattle.sender.proofs.Streams.{stream_laws}
use Rattle.tracker.specs.Tracker.{start}
use Rattle.receiver.specs.Run.{bits_of, step, after}
use Rattle.line.specs.Heard.{Gains}
use Rattle.line.specs.Headers.{hunting}
use Rattle.line.specs.Instances.{StreamArrives}
use Rattle.line.specs.Laws.{payload_bits, complete, last_bit, Arrives, ReadyFrom}
use Rattle.line.specs.Receiving.{heard}
use Rattle.line.specs.Sending as sending
use Rattle.line.specs.Sending.{History, sent}
use Rattle.line.proofs.Bits.{length-bits_of}
use Rattle.line.proofs.Carried.{CarriedOn}
use Rattle.line.proofs.CodeFacts.{code_laws}
use Rattle.line.proofs.FedStream.{fed_ends, fed_laws, sent_stream}
use Rattle.line.proofs.Locking.{Caught, caught}
use Rattle.line.proofs.Roomy.{RoomyAt, roomy_ready, FedNew, feed_new}
use Rattle.line.proofs.Runs.{length-bits, all_rest, parted_at}
use Rattle.line.proofs.SampleSends.{sample_cell, sample_connection, send_on, sends_on, fresh-octets, grown}
use Rattle.line.proofs.Sends.{stream_bits, stream_carried, payload_long_lem}

-- any stream of 25 to 77 cells, of which the twenty-fifth and later ones bring the connection k the cell c
stream_comes : {cs : List sending.Call} {s : SenderState} (g : History cs s) (x : Send) (back : List Send) (k : ℕ) (c : Cell) (cells : List Cell) → (sent g).newest.sends ≡ x ∷ back
    → 24 ≤ length back → length back ≤ 76 → of_connection k (sent_users (drop 24 (x ∷ back))) ≡ c ∷ cells → StreamArrives
stream_comes g x back k c cells sends some few users =
    let p : ℕ = (sent g).newest.begins in
    let stream : SentStream p (x ∷ back) = sent_stream g (x ∷ back) sends in
    let octets : length (line_of (x ∷ back)) ≡ 53 * suc (length back) = (stream_laws.octets p (x ∷ back) stream).0 in
    let own : length x.line ≡ 53 = (stream_laws.cells p (x ∷ back) stream [] x back refl).line.0 in
    let others : length (line_of (x ∷ back)) ≡ length x.line + length (line_of back) = length-append x.line (line_of back) in
    let fed : FedNew (line_of (x ∷ back)) = feed_new (line_of (x ∷ back)) (omega arith) (omega arith) in
    let carried : CarriedOn x.phase (x ∷ back) = stream_carried p [] x back stream in
    let left : List Bool = payload_bits x ++ bits_of (line_of back) in
    let u : Caught x = caught code_laws x x.phase carried.0 in
    let v = parted_at u.front u.last left (heard fed.history).newest
    (fed.hears ∙ stream_bits x back ∙ ap (λ (w : List Bool). w ++ left) u.is ∙ append_assoc u.front (u.last ∷ []) left) in
    let long : length v.rest ≡ 384 + 424 * length back =
    sym (length-bits v.rest) ∙ ap length v.others ∙ length-append (payload_bits x) (bits_of (line_of back))
    ∙ (let a = payload_long_lem code_laws carried.0 in let b = length-bits_of (line_of back) in omega arith) in
    let arrives : Arrives v.past v.m v.rest p [] x back =
    record {
      stream = stream;
      hunts = ap (λ (w : List Bool). hunting (after start w).control.place) v.heard ∙ u.hunts;
      ends = ap₂ (λ (w : List Bool) (b : Bool). hunting (step (after start w) b).control.place) v.heard v.bit ∙ u.ends;
      on_header = ([], ap₂ (λ (w : List Bool) (b : Bool). w ++ b ∷ []) v.heard v.bit ∙ sym u.is);
      as_sent = ([], append-nil _ ∙ v.others);
    } in
    let all : take (complete (length v.rest)) (x ∷ back) ≡ x ∷ back = take_all (complete (length v.rest)) (x ∷ back) (omega arith) in
    let ready : ReadyFrom 24 v.rest (x ∷ back) =
    λ before later y e n user. roomy_ready v.rest (all_rest RoomyAt (v.past ++ v.m ∷ []) v.rest (subst (AllByRecursion RoomyAt) (v.is ∙ sym (append_assoc v.past (v.m ∷ []) v.rest)) fed.ready)) (last_bit (length before)) y.cell in
    record {
      ends = fed_ends g [] x back sends fed;
      past = v.past;
      m = v.m;
      rest = v.rest;
      heard = v.is;
      arrives = arrives;
      ready = ready;
      many = omega arith;
      connection = k;
      cell = c;
      others = cells;
      gains = subst (Gains k v.rest) (ap (λ (xs : List Send). of_connection k (sent_users (drop 24 xs))) all ∙ users)
          ((fed_laws fed).b v.past v.rest v.m p [] back x v.is arrives ready k);
    }

pub stream_arrives : StreamArrives
stream_arrives =
    let g = grown 40 sending.made fresh-octets in
    stream_comes g.history (send_on fresh) (sends_on 39 (advanced fresh)) sample_connection sample_cell _ g.sends (omega arith) (omega arith) refl
