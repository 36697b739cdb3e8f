-- The cells of a sent stream as frames, and the user cells among them. Knows of sinks only what an offer adds to a connection.
--
--   frames xs       the cells of sends, each as header and payload
--   from_cell d xs  what the sends xs offer, one after the other, where the first d of them offer nothing
use Rattle.std.proofs.Common.{◌≡◌, ℕ, zero, suc, ◌≤◌, nat_eq, List, [], ◌∷◌, ◌++◌, length, get_or, take, drop, Some, None, Option, sym, refl, ap, ◌∙◌, arith}
use Rattle.std.proofs.lemmas.List.Elements.{filter-append}
use Rattle.cell.specs.Header.{connection_of}
use Rattle.cell.specs.declared.header.Kind.TheVariants.{User}
use Rattle.ports.specs.Cell.{Cell, of_connection}
use Rattle.scrambler.specs.Generator.{next_phase}
use Rattle.sender.specs.Stream.{Send, line_of, lost, sent_users}
use Rattle.receiver.specs.Run.{bits_of}
use Rattle.line.specs.Laws.{header_bits, payload_bits}
use Rattle.line.proofs.Carried.{Carried, CarriedOn, sent_user}
use Rattle.line.proofs.CodeLaws.{CodeLaws}
use Rattle.line.proofs.Gained.{gained_all}
use Rattle.line.proofs.Offers.{Frame, flat, Sized}
use Rattle.line.proofs.Sends.{stream_bits, header_long_lem, payload_long_lem, listed, listed_is_lost, sent_user_is}
use Rattle.line.proofs.Puts.{gained}

abbrev pub frames : List Send → List Frame
frames [] = []
frames (x ∷ xs) = record { head = header_bits x; body = payload_bits x } ∷ frames xs

pub flat_frames : (xs : List Send) → flat (frames xs) ≡ bits_of (line_of xs)
flat_frames [] = refl
flat_frames (x ∷ xs) = ap (λ z. header_bits x ++ (payload_bits x ++ z)) (flat_frames xs) ∙ sym (stream_bits x xs)

pub sized_frames : CodeLaws → (xs : List Send) (q : ℕ) → CarriedOn q xs → Sized (frames xs)
sized_frames laws [] q e = tt
sized_frames laws (x ∷ xs) q e = (header_long_lem laws e.0, payload_long_lem laws e.0, sized_frames laws xs (next_phase q) e.1)

-- ---- user cells

gained_listed : (k : ℕ) (o : Option Cell) → gained k o ≡ of_connection k (listed o)
gained_listed k None = refl
gained_listed k (Some c) = refl

-- what a sent cell adds to a connection is what its source's list lost to it
pub sent_gained : (k : ℕ) {q : ℕ} {x : Send} → Carried q x → gained k (sent_user x) ≡ of_connection k (lost x)
sent_gained k {x = x} f = gained_listed k (sent_user x) ∙ ap (of_connection k) (listed_is_lost f)

users_append : (k : ℕ) {q : ℕ} {x : Send} (xs : List Send) → Carried q x
    → gained k (sent_user x) ++ of_connection k (sent_users xs) ≡ of_connection k (sent_users (x ∷ xs))
users_append k {x = x} xs f = ap (λ z. z ++ of_connection k (sent_users xs)) (sent_gained k f) ∙ sym (filter-append (λ (c : Cell). nat_eq (connection_of c.header) k) (lost x) (sent_users xs))

abbrev pub from_cell : ℕ → List Send → List (Option Cell)
from_cell d [] = []
from_cell zero (x ∷ xs) = sent_user x ∷ from_cell zero xs
from_cell (suc d) (x ∷ xs) = None ∷ from_cell d xs

pub from_gained : (k d m : ℕ) (xs : List Send) (q : ℕ) → CarriedOn q xs
    → gained_all k (take m (from_cell d xs)) ≡ of_connection k (sent_users (drop d (take m xs)))
from_gained k zero zero xs q e = refl
from_gained k zero (suc m) [] q e = refl
from_gained k zero (suc m) (x ∷ xs) q e = ap (λ z. gained k (sent_user x) ++ z) (from_gained k zero m xs (next_phase q) e.1)
    ∙ users_append k (take m xs) e.0
from_gained k (suc d) zero xs q e = refl
from_gained k (suc d) (suc m) [] q e = refl
from_gained k (suc d) (suc m) (x ∷ xs) q e = from_gained k d m xs (next_phase q) e.1

-- the send of a user cell that is offered
pub record SentAt (d i : ℕ) (xs : List Send) (c : Cell) : Type 0 where
  pub before : List Send
  pub send : Send
  pub later : List Send
  pub is : xs ≡ before ++ send ∷ later
  pub count : length before ≡ i
  pub enough : d ≤ i
  pub kind : send.kind ≡ User
  pub cell : send.cell ≡ c

sent-after : (d i : ℕ) (x : Send) (xs : List Send) (c : Cell) → SentAt d i xs c → (e : ℕ) → e ≤ suc i → SentAt e (suc i) (x ∷ xs) c
sent-after d i x xs c r e h = record {
  before = x ∷ r.before;
  send = r.send;
  later = r.later;
  is = ap (λ z. x ∷ z) r.is;
  count = ap suc r.count;
  enough = h;
  kind = r.kind;
  cell = r.cell;
}

pub sent_at : (d i : ℕ) (xs : List Send) (c : Cell) (q : ℕ) → CarriedOn q xs → get_or (from_cell d xs) i None ≡ Some c → SentAt d i xs c
sent_at zero i [] c q f e = let z : ◌≡◌ {A = ℕ} 0 1 = cc in absurd (omega arith)
sent_at zero zero (x ∷ xs) c q f e =
    let u = sent_user_is f.0 c e in
    record { before = []; send = x; later = xs; is = refl; count = refl; enough = omega arith; kind = u.0; cell = u.1 }
sent_at zero (suc i) (x ∷ xs) c q f e = sent-after zero i x xs c (sent_at zero i xs c (next_phase q) f.1 e) zero (omega arith)
sent_at (suc d) i [] c q f e = let z : ◌≡◌ {A = ℕ} 0 1 = cc in absurd (omega arith)
sent_at (suc d) zero (x ∷ xs) c q f e = let z : ◌≡◌ {A = ℕ} 0 1 = cc in absurd (omega arith)
sent_at (suc d) (suc i) (x ∷ xs) c q f e =
    let r = sent_at d i xs c (next_phase q) f.1 e in
    sent-after d i x xs c r (suc d) (let z = r.enough in omega arith)
