-- A sender's stream, and a new receiving end to which octets are fed: the calls on both ends, and the end in step after the header of a
-- cell of that stream, whatever lines come after that cell.
--
--   fed_ends         the calls on both ends
--   FedInStep        the end is in step, at confidence 24, after the header of x; then come the payload of x and the octets os
use Rattle.std.proofs.Common.{◌≡◌, ℕ, suc, ◌+◌, ◌*◌, ◌≤◌, Bool, List, [], ◌∷◌, ◌++◌, length, sym, refl, ap, ◌∙◌, subst, append_assoc, arith, length-append}
use Rattle.std.specs.List.{AllByRecursion}
use Rattle.sender.specs.Sender.{SenderState}
use Rattle.sender.specs.Stream.{Send, SentStream, line_of}
use Rattle.sender.proofs.Streams.{stream_laws}
use Rattle.tracker.specs.declared.tracker.Tracker.{Tracker}
use Rattle.tracker.specs.Tracker.{start}
use Rattle.receiver.specs.Handing.{Moment, bits}
use Rattle.receiver.specs.Run.{bits_of, after}
use Rattle.receiver.proofs.Runs.{bits_of-append}
use Rattle.line.specs.Instances.{BothEnds}
use Rattle.line.specs.Laws.{header_bits, payload_bits, Right, Laws}
use Rattle.line.specs.Receiving.{heard}
use Rattle.line.specs.Sending as sending
use Rattle.line.specs.Sending.{History, sent}
use Rattle.line.proofs.Carried.{CarriedOn}
use Rattle.line.proofs.CodeFacts.{code_laws}
use Rattle.line.proofs.CodeLaws.{moved}
use Rattle.line.proofs.Histories.{history_stands}
use Rattle.line.proofs.LawsHold.{laws_hold}
use Rattle.line.proofs.Locking.{between, between_bits, Locked, locked}
use Rattle.line.proofs.Roomy.{RoomyAt, FedNew, feed_new}
use Rattle.line.proofs.Runs.{parted, all_rest}
use Rattle.line.proofs.Sends.{cell_bits, stream_carried, carried_at}
use Rattle.line.proofs.Streams.{streams-sent}

-- the calls on both ends
abbrev pub fed_ends : {cs : List sending.Call} {s : SenderState} (g : History cs s) (front : List Send) (x : Send) (back : List Send) → (sent g).newest.sends ≡ front ++ x ∷ back
    → {os : List ℕ} → FedNew os → BothEnds
fed_ends {cs = cs} {s = s} g front x back sends fed =
    record {
      sender_calls = cs;
      sender = s;
      sender_history = g;
      front = front;
      x = x;
      back = back;
      sends = sends;
      calls = fed.call ∷ [];
      receiver = fed.receiver;
      history = fed.history;
    }

pub fed_laws : {os : List ℕ} (fed : FedNew os) → Laws (heard fed.history).newest
fed_laws fed = laws_hold (heard fed.history).newest (history_stands fed.history).newest

pub sent_stream : {cs : List sending.Call} {s : SenderState} (g : History cs s) (xs : List Send) → (sent g).newest.sends ≡ xs → SentStream (sent g).newest.begins xs
sent_stream g xs sends = subst (SentStream (sent g).newest.begins) sends (streams-sent g).0

-- ---- in step

-- the stream x₀ ∷ ys, of 23 cells or more, leads to being in step after the next header
right-after : (p : ℕ) (x₀ : Send) (ys : List Send) (x : Send) (back : List Send) (past : List Moment) → SentStream p ((x₀ ∷ ys) ++ x ∷ back) → 22 ≤ length ys
    → bits past ≡ bits_of (line_of (x₀ ∷ ys)) ++ header_bits x → (right : Right past p (x₀ ∷ ys) x back) × (right.in_step.confidence ≡ 24)
right-after p x₀ ys x back past stream many is =
    let carried : CarriedOn x₀.phase (x₀ ∷ (ys ++ x ∷ back)) = stream_carried p [] x₀ (ys ++ x ∷ back) stream in
    let first : CarriedOn x₀.phase (x₀ ∷ (ys ++ x ∷ [])) = carried_front (x₀ ∷ (ys ++ x ∷ [])) back x₀.phase (subst (λ (zs : List Send). CarriedOn x₀.phase (x₀ ∷ zs)) (sym (append_assoc ys (x ∷ []) back)) carried) in
    let n : length (ys ++ x ∷ []) ≡ suc (length ys) = length-append ys (x ∷ []) ∙ (let z : length ys + 1 ≡ suc (length ys) = omega arith in z) in
    let l : Locked (after start (header_bits x₀ ++ between x₀ (ys ++ x ∷ []))) (moved (length (ys ++ x ∷ [])) x₀.phase) = locked code_laws x₀ (ys ++ x ∷ []) x₀.phase first (omega arith) in
    let phase : moved (length (ys ++ x ∷ [])) x₀.phase ≡ x.phase =
    ap (λ (j : ℕ). moved j x₀.phase) n ∙ sym (carried_at (x₀ ∷ ys) x back x₀.phase carried).phase in
    let here : after start (header_bits x₀ ++ between x₀ (ys ++ x ∷ [])) ≡ after start (bits past) = ap (after start) (between_bits ys x₀ x ∙ sym is) in
    let k : Locked (after start (bits past)) x.phase = subst (λ (t : Tracker). Locked t x.phase) here (subst (Locked (after start (header_bits x₀ ++ between x₀ (ys ++ x ∷ [])))) phase l) in (
      record {
        stream = stream;
        in_step = record { confidence = 24; kept = k.kept; wrong = 0; mode = k.mode; samples = k.samples; is = k.is.control };
        on_header = (bits_of (line_of (x₀ ∷ ys)), is);
      },
      refl,
    )
  where
    carried_front : (xs zs : List Send) (q : ℕ) → CarriedOn q (xs ++ zs) → CarriedOn q xs
    carried_front [] zs q f = tt
    carried_front (y ∷ xs) zs q f = (f.0, carried_front xs zs _ f.1)

pub record FedInStep (p : ℕ) (front : List Send) (x : Send) (back : List Send) (os : List ℕ) : Type 0 where
  pub all : List ℕ
  pub fed : FedNew all
  pub past : List Moment
  pub rest : List Moment
  pub is : (heard fed.history).newest ≡ past ++ rest
  pub right : Right past p front x back
  pub sure : right.in_step.confidence ≡ 24
  pub others : bits rest ≡ payload_bits x ++ bits_of os
  pub ready : AllByRecursion RoomyAt rest

-- x₀ and 22 cells or more, then x, and then any octets
pub fed_in_step : (p : ℕ) (x₀ : Send) (ys : List Send) (x : Send) (back : List Send) (os : List ℕ) → SentStream p ((x₀ ∷ ys) ++ x ∷ back) → 22 ≤ length ys
    → 53 * (length ys + 2) + length os ≤ 4096 → FedInStep p (x₀ ∷ ys) x back os
fed_in_step p x₀ ys x back os stream many few =
    let front : List ℕ = line_of (x₀ ∷ ys) in
    let cut = stream_laws.parted stream.first stream.last (x₀ ∷ ys) (x ∷ back) stream.run in
    let n₁ : length front ≡ 53 * suc (length ys) = (stream_laws.octets p (x₀ ∷ ys) (record { first = stream.first; last = cut.middle; begins = stream.begins; run = cut.front })).0 in
    let n₂ : length x.line ≡ 53 = (stream_laws.cells p ((x₀ ∷ ys) ++ x ∷ back) stream (x₀ ∷ ys) x back refl).line.0 in
    let n₃ : length (front ++ (x.line ++ os)) ≡ length front + (length x.line + length os) = length-append front (x.line ++ os) ∙ ap (λ (n : ℕ). length front + n) (length-append x.line os) in
    let fed : FedNew (front ++ (x.line ++ os)) = feed_new (front ++ (x.line ++ os)) (omega arith) (omega arith) in
    let before : List Bool = bits_of front ++ header_bits x in
    let left : List Bool = payload_bits x ++ bits_of os in
    let v = parted before left (heard fed.history).newest
    (fed.hears ∙ bits_of-append front (x.line ++ os) ∙ ap (λ (w : List Bool). bits_of front ++ w)
    (bits_of-append x.line os ∙ ap (λ (w : List Bool). w ++ bits_of os) (cell_bits x) ∙ append_assoc (header_bits x) (payload_bits x) (bits_of os))
    ∙ sym (append_assoc (bits_of front) (header_bits x) left)) in
    let r = right-after p x₀ ys x back v.past stream many v.heard in
    record {
      all = front ++ (x.line ++ os);
      fed = fed;
      past = v.past;
      rest = v.rest;
      is = v.is;
      right = r.0;
      sure = r.1;
      others = v.others;
      ready = all_rest RoomyAt v.past v.rest (subst (AllByRecursion RoomyAt) v.is fed.ready);
    }
