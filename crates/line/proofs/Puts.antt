-- One moment: what handing up an offer adds to a connection. It is all that the proofs know of a put.
--
--   gained k o      what the offer o adds to the connection k where the sink is ready
--   Ready s c       the sink s serves the cell c and has space for its connection
--   Piece k o s s'  what handing up o added to k: one cell at most, and gained k o where the sink was ready
use Rattle.std.proofs.Common.{◌≡◌, ℕ, ◌<◌, ◌≤◌, Bool, true, false, cond, eqb, List, [], ◌∷◌, ◌++◌, length, Some, None, Ok, Err, Option, sym, refl, ap, ◌∙◌, subst, append_assoc, append-nil, arith, eqb-true}
use mathlib.Core.Bool.{false≢true}
use borrow.Author.Tests.{eqb-false}
use Rattle.cell.specs.Header.{connection_of}
use Rattle.ports.specs.Cell.{Cell, of_connection}
use Rattle.ports.specs.Sink.{SinkState, Put}
use Rattle.receiver.specs.declared.event.SinkCause.TheVariants.{Full, NotServed}
use Rattle.receiver.specs.Handing.{Reply, Moment, Handed}
use Rattle.line.specs.Heard.{Gains}

pub gains_append : (k : ℕ) (xs ys : List Moment) (g h : List Cell) → Gains k xs g → Gains k ys h → Gains k (xs ++ ys) (g ++ h)
gains_append k [] ys g h a b = subst (λ z. Gains k ys (z ++ h)) (sym a) b
gains_append k (x ∷ xs) ys g h a b =
    (a.0, a.1 ++ h, a.2, gains_append k xs ys a.1 h a.3 b, ap (λ z. z ++ h) a.4 ∙ append_assoc a.0 a.1 h)

pub one_more : (k : ℕ) (m : Moment) (x : List Cell) → m.sink'.held k ≡ m.sink.held k ++ x → Gains k (m ∷ []) x
one_more k m x e = (x, [], e, refl, sym (append-nil x))

abbrev pub gained : ℕ → Option Cell → List Cell
gained k None = []
gained k (Some c) = of_connection k (c ∷ [])

-- ---- one put

abbrev pub Ready : SinkState → Cell → Type 0
Ready s c = (s.serves c.header ≡ true) × (0 < s.space (connection_of c.header))

pub record Piece (k : ℕ) (o : Option Cell) (s s' : SinkState) : Type 0 where
  pub cells : List Cell
  pub grew : s'.held k ≡ s.held k ++ cells
  pub few : length cells ≤ 1
  pub whole : ((c : Cell) → o ≡ Some c → Ready s c) → cells ≡ gained k o

-- no offer adds nothing
pub none_adds : (k : ℕ) (s : SinkState) (r : Reply) (s' : SinkState) → Handed None s r s' → s'.held k ≡ s.held k ++ []
none_adds k s r s' h = ap (λ (z : SinkState). z.held k) h.1 ∙ sym (append-nil (s.held k))

put_adds : (t : Bool) (k : ℕ) (c : Cell) (s s' : SinkState) → eqb (connection_of c.header) k ≡ t → Put s c.header c.payload s'
    → s'.held k ≡ s.held k ++ cond t (c ∷ []) []
put_adds true k c s s' e h =
    subst (λ j. s'.held j ≡ s.held j ++ c ∷ []) (eqb-true (connection_of c.header) k e) h.appended
put_adds false k c s s' e h =
    h.others k (λ q. eqb-false (connection_of c.header) k e (sym q)) ∙ sym (append-nil (s.held k))

at_most_one : (t : Bool) (c : Cell) → length (cond t (c ∷ []) []) ≤ 1
at_most_one true c = omega arith
at_most_one false c = omega arith

piece_same : (k : ℕ) (c : Cell) (s s' : SinkState) → s' ≡ s → (Ready s c → ⊥) → Piece k (Some c) s s'
piece_same k c s s' e r = record {
  cells = [];
  grew = ap (λ (z : SinkState). z.held k) e ∙ sym (append-nil (s.held k));
  few = omega arith;
  whole = λ f. absurd (r (f c refl));
}

pub piece_of : (k : ℕ) (o : Option Cell) (s : SinkState) (r : Reply) (s' : SinkState) → Handed o s r s' → Piece k o s s'
piece_of k None s r s' h = record {
  cells = [];
  grew = none_adds k s r s' h;
  few = omega arith;
  whole = λ f. refl;
}
piece_of k (Some c) s None s' h = absurd h
piece_of k (Some c) s (Some (Ok x)) s' h = record {
  cells = gained k (Some c);
  grew = put_adds (eqb (connection_of c.header) k) k c s s' refl h;
  few = at_most_one (eqb (connection_of c.header) k) c;
  whole = λ g. refl;
}
piece_of k (Some c) s (Some (Err Full)) s' h = piece_same k c s s' h.1 (λ r. let z = h.0.4 in let y = r.1 in omega arith)
piece_of k (Some c) s (Some (Err NotServed)) s' h = piece_same k c s s' h.1 (λ r. false≢true (sym h.0.3 ∙ r.0))
