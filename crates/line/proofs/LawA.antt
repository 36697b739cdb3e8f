-- Each cell handed up is preceded by sixteen agreeing headers in a row and eight more as predicted.
-- Knows nothing of the check octet and the generator.
--
--   Locked l hs  what is known while a boundary is assumed says so much of the headers hs
--   Owned hs     the own header of a cell in front, and the evidence behind it
--   Stands a hs  what a place says of the headers since the last hunt: a cell that is kept has its own header and the evidence
use Rattle.std.proofs.Common.{◌≡◌, ℕ, zero, suc, ◌-◌, Bool, true, false, cond, eqb, ltb, List, [], ◌∷◌, Some, None, Option, sym, refl, subst, arith, lt-ltb}
use mathlib.Core.Bool.{false≢true}
use lib.Dec.{eqb-suc-zero}
use Rattle.cell.specs.declared.header.Header as headers
use Rattle.ports.specs.Cell.{Cell}
use Rattle.tracker.specs.declared.events.HeaderEvents.{HeaderEvents}
use Rattle.tracker.specs.declared.state.Mode.{Mode}
use Rattle.tracker.specs.declared.state.Delineation.{Delineation}
use Rattle.tracker.specs.declared.state.Delineation.TheVariants.{Presync, Sync}
use Rattle.tracker.specs.declared.state.Descrambler.{Descrambler}
use Rattle.tracker.specs.declared.state.Descrambler.TheVariants.{Acquisition, Verification, Steady}
use Rattle.tracker.specs.declared.state.Lock.{Lock}
use Rattle.tracker.specs.declared.state.Place.{Place}
use Rattle.tracker.specs.declared.state.Place.TheVariants.{Hunt, Payload, Header}
use Rattle.tracker.specs.declared.tracker.Tracker.{Tracker}
use Rattle.tracker.specs.declared.tracker.Moment.TheVariants as moment
use Rattle.tracker.specs.Window.{agrees, counted, shifted}
use Rattle.tracker.specs.Rules.{both, descrambler_after, right, delineation_after, header_taken, is_sync, is_steady, sampled, entered, locked_on}
use Rattle.tracker.specs.Tracker.{start, hunted, control_after, brought, cell_ends}
use Rattle.receiver.specs.Run.{step, after, kept_cell, cell_in, user_cell}
use Rattle.receiver.specs.Handing.{Moment, bits}
use Rattle.line.specs.Headers.{Preceded, headers as headersSeen, noted, ending, hunting}
use Rattle.line.specs.Laws.{CellsPreceded}
use Rattle.line.proofs.CodeLaws.{CodeLaws}
use Rattle.line.proofs.Evidence.{Knows, preceded, Keeps, keeps_more, knows_after}

none≢some : {A : Type 0} {x : A} → ◌≡◌ {A = Option A} None (Some x) → ⊥
none≢some e = let z : ◌≡◌ {A = ℕ} 0 1 = cc in omega arith

pub record Locked (l : Lock) (hs : List ℕ) : Type 0 where
  pub knows : Knows l.descrambler hs
  pub samples : Keeps l.samples hs

abbrev Owned : List ℕ → Type 0
Owned hs = (own : ℕ) × (before : List ℕ) × (hs ≡ own ∷ before) × Preceded before

abbrev Kept : Option headers.Header → List ℕ → Type 0
Kept None hs = Unit {0}
Kept (Some h) hs = Owned hs

abbrev Stands : Place → List ℕ → Type 0
Stands Hunt hs = hs ≡ []
Stands (Payload o b k l) hs = Locked l hs × Kept k hs
Stands (Header n l) hs = Locked l hs

-- whatever the verdict, a header taken in SYNC and Steady has the evidence before it
kept_if : (t : Bool) (o : Option headers.Header) (hs : List ℕ) → (t ≡ true → Owned hs) → Kept (cond t o None) hs
kept_if false o hs h = tt
kept_if true None hs h = tt
kept_if true (Some x) hs h = h refl

owned_steady : (b : Delineation) (d : Descrambler) (t : Bool) (hs : List ℕ) (w : ℕ) → Knows d hs → both (both (is_sync b) (is_steady d)) t ≡ true
    → Owned (w ∷ hs)
owned_steady (Presync n) d t hs w k e = absurd (false≢true e)
owned_steady (Sync n) (Acquisition c) t hs w k e = absurd (false≢true e)
owned_steady (Sync n) (Verification c p) t hs w k e = absurd (false≢true e)
owned_steady (Sync n) (Steady c p) t hs w k e = (w, hs, refl, preceded p hs k)

module _ (laws : CodeLaws) where
  stands-entered : (l : Lock) (t : Option headers.Header) (m : Mode) (o : Option Delineation) (hs : List ℕ) (w : ℕ) → Locked l hs
      → Stands (entered l t (descrambler_after l.descrambler (sampled l.samples w) w) (sampled l.samples w) m o).place
      (noted true (hunting (entered l t (descrambler_after l.descrambler (sampled l.samples w) w) (sampled l.samples w) m o).place) w hs)
  stands-entered l t m None hs w k = refl
  stands-entered l t m (Some b) hs w k = (
    record {
      knows = knows_after laws l.descrambler hs l.samples w k.samples k.knows;
      samples = keeps_more l.samples hs w
          k.samples;
    },
    kept_if _ _ (w ∷ hs) (owned_steady l.delineation l.descrambler _ hs w k.knows),
  )

  stands-hunted : (t a : Bool) (w : ℕ) → agrees w ≡ a
      → Stands (cond (both t a) (Payload 47 7 None (locked_on w)) Hunt)
      (noted true (hunting (cond (both t a) (Payload 47 7 None (locked_on w)) Hunt)) w [])
  stands-hunted false a w e = refl
  stands-hunted true false w e = refl
  stands-hunted true true w e = (
    record {
      knows = record {
        row = w ∷ [];
        earlier = [];
        split = refl;
        count = refl;
        agree = (e, tt);
        most = omega arith;
      };
      samples = keeps_more 0 [] w refl;
    },
    tt,
  )

  stands_pay : (t u : Bool) (o b : ℕ) (k : Option headers.Header) (l : Lock) (hs : List ℕ) → Locked l hs × Kept k hs
      → Stands (cond t (Payload o (b - 1) k l) (cond u (Payload (o - 1) 7 k l) (Header 39 l))) hs
  stands_pay true u o b k l hs s = s
  stands_pay false true o b k l hs s = s
  stands_pay false false o b k l hs s = s.0

  stands-place : (m : Mode) (p : Place) (n w : ℕ) (hs : List ℕ) → Stands p hs
      → Stands (control_after m p n w).place (noted (ending p) (hunting (control_after m p n w).place) w hs)
  stands-place m Hunt n w hs k =
      subst (λ l. Stands (hunted n w) (noted true (hunting (hunted n w)) w l)) (sym k) (stands-hunted (eqb n 40) (agrees w) w refl)
  stands-place m (Payload o b x l) n w hs k = stands_pay (ltb 0 b) (ltb 0 o) o b x l hs k
  stands-place m (Header zero l) n w hs k = stands-entered l (header_taken l.descrambler m w) _
      (delineation_after l.delineation (right l.descrambler w)) hs w k
  stands-place m (Header (suc j) l) n w hs k = let e : ltb 0 (suc j) ≡ true = lt-ltb 0 (suc j) (omega arith) in rw (e, eqb-suc-zero j) k

  stands_run : (s : Tracker) (hs : List ℕ) (bs : List Bool) → Stands s.control.place hs
      → Stands (after s bs).control.place (headersSeen s hs bs)
  unfolding step
  stands_run s hs [] k = k
  stands_run s hs (b ∷ bs) k =
      stands_run (step s b) _ bs (stands-place s.control.mode s.control.place (counted s.window.come) (shifted s.window.bits b) hs k)

  handed_if : (t u : Bool) (k : Option headers.Header) (xs : List ℕ) (hs : List ℕ) (c : Cell) → Kept k hs
      → user_cell (cell_in (cond t None (cond u None (cell_ends k))) xs) ≡ Some c → Owned hs
  handed_if true u k xs hs c h e = absurd (none≢some e)
  handed_if false true k xs hs c h e = absurd (none≢some e)
  handed_if false false None xs hs c h e = absurd (none≢some e)
  handed_if false false (Some x) xs hs c h e = h

  ended_none : (t : Bool) (e : HeaderEvents) (xs : List ℕ) (c : Cell) → user_cell (cell_in (cond t (Some (moment.Header e)) None) xs) ≡ Some c → ⊥
  ended_none true e xs c f = none≢some f
  ended_none false e xs c f = none≢some f

  header_none : (t : Bool) (e : HeaderEvents) (xs : List ℕ) (c : Cell) → user_cell (cell_in (cond t None (Some (moment.Header e))) xs) ≡ Some c → ⊥
  header_none true e xs c f = none≢some f
  header_none false e xs c f = none≢some f

  handed : (m : Mode) (p : Place) (n w : ℕ) (xs hs : List ℕ) (c : Cell) → Stands p hs → user_cell (cell_in (brought m p n w) xs) ≡ Some c → Owned hs
  handed m Hunt n w xs hs c k e = absurd (ended_none _ _ xs c e)
  handed m (Payload o b x l) n w xs hs c k e = handed_if (ltb 0 b) (ltb 0 o) x xs hs c k.1 e
  handed m (Header j l) n w xs hs c k e = absurd (header_none _ _ xs c e)

  pub cells_preceded : (all : List Moment) → CellsPreceded all
  unfolding kept_cell
  cells_preceded all past rest m c split e =
      handed (after start (bits past)).control.mode (after start (bits past)).control.place _ _ _ (headersSeen start [] (bits past)) c
      (stands_run start [] (bits past) refl) e
