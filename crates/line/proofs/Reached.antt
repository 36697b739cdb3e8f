-- The places that an end reaches: the confidence of Steady is 16 to 24, and a payload has 48 octets of 8 bits.
-- Knows nothing of the check octet and the generator.
--
--   Sure d    the descrambler d is not in Steady, or its confidence is 16 to 24
--   raised c  one more of confidence, up to 24
--   Fine a    the place a is one that an end reaches
use Rattle.std.proofs.Common.{◌≡◌, ℕ, ◌+◌, ◌-◌, ◌%◌, ◌^◌, ◌≤◌, Bool, true, false, cond, eqb, ltb, List, [], ◌∷◌, Some, None, Ok, Err, Option, Result, refl, arith, ltb-true}
use Rattle.cell.specs.declared.header.Header as headers
use Rattle.cell.specs.declared.refusal.Refusal.{Refusal}
use Rattle.scrambler.specs.Finder.{found}
use Rattle.scrambler.specs.Generator.{next_phase}
use Rattle.tracker.specs.declared.state.Mode.{Mode}
use Rattle.tracker.specs.declared.state.Delineation.{Delineation}
use Rattle.tracker.specs.declared.state.Descrambler.{Descrambler}
use Rattle.tracker.specs.declared.state.Descrambler.TheVariants.{Acquisition, Verification, Steady}
use Rattle.tracker.specs.declared.state.Lock.{Lock}
use Rattle.tracker.specs.declared.state.Place.{Place}
use Rattle.tracker.specs.declared.state.Place.TheVariants.{Hunt, Payload, Header}
use Rattle.tracker.specs.declared.tracker.Tracker.{Tracker}
use Rattle.tracker.specs.Window.{agrees, samples_in, predicted, freed, sample_fault, counted, shifted}
use Rattle.tracker.specs.Rules.{both, found_phase, hold, descrambler_after, right, delineation_after, header_taken, entered, sampled, headed, locked_on}
use Rattle.tracker.specs.Tracker.{control_after}
use Rattle.receiver.specs.Run.{step, after}
use Rattle.line.proofs.Cells.{at}

abbrev pub Sure : Descrambler → Type 0
Sure (Acquisition c) = Unit {0}
Sure (Verification c p) = Unit {0}
Sure (Steady c p) = (16 ≤ c) × (c ≤ 24)

sure_found : (r : Result ℕ Refusal) → Sure (found_phase r)
sure_found (Ok p) = tt
sure_found (Err e) = tt

sure_acquire : (a t : Bool) (c : ℕ) (r : Result ℕ Refusal) → Sure (cond a (cond t (Acquisition c) (found_phase r)) (Acquisition 0))
sure_acquire true true c r = tt
sure_acquire true false c r = sure_found r
sure_acquire false t c r = tt

sure_verify : (a m t u : Bool) (c d e p : ℕ)
    → Sure (cond a (cond m (cond t (Verification d p) (Steady 24 p)) (cond u (Verification e p) (Acquisition 0))) (Verification c p))
sure_verify true true true u c d e p = tt
sure_verify true true false u c d e p = (omega arith, omega arith)
sure_verify true false t true c d e p = tt
sure_verify true false t false c d e p = tt
sure_verify false m t u c d e p = tt

abbrev pub raised : ℕ → ℕ
raised c = cond (ltb c 24) (c + 1) 24

raised_if : (t : Bool) (c : ℕ) → ltb c 24 ≡ t → c ≤ 24 → (c ≤ cond t (c + 1) 24) × (cond t (c + 1) 24 ≤ 24) × (16 ≤ c → 17 ≤ cond t (c + 1) 24)
raised_if true c e h = let z = ltb-true c 24 e in (omega arith, omega arith, λ k. omega arith)
raised_if false c e h = (omega arith, omega arith, λ k. omega arith)

pub raised_is : (c : ℕ) → c ≤ 24 → (c ≤ raised c) × (raised c ≤ 24) × (16 ≤ c → 17 ≤ raised c)
raised_is c h = raised_if (ltb c 24) c refl h

sure_down : (t : Bool) (c p : ℕ) → ltb 16 c ≡ t → c ≤ 24 → Sure (cond t (Steady (c - 1) p) (Acquisition 0))
sure_down true c p e h = let z = ltb-true 16 c e in (omega arith, omega arith)
sure_down false c p e h = tt

sure_hold : (f : Bool) (c p : ℕ) → 16 ≤ c → c ≤ 24 → Sure (hold f c p)
sure_hold true c p l h = sure_down (ltb 16 c) c p refl h
sure_hold false c p l h = let r = raised_is c h in let a = r.0 in (omega arith, r.1)

sure_after : (d : Descrambler) (u w : ℕ) → Sure d → Sure (descrambler_after d u w)
sure_after (Acquisition c) u w s = sure_acquire (agrees w) (ltb (c + 1) 16) (c + 1) (found (u % 2 ^ 31))
sure_after (Verification c p) u w s = sure_verify (agrees w) (eqb (samples_in w) (predicted (next_phase p))) (ltb (c + 1) 24) (ltb 8 c) c (c + 1) (c - 1)
    (next_phase p)
sure_after (Steady c p) u w s = sure_hold (sample_fault (freed (next_phase p) w)) c (next_phase p) s.0 s.1

abbrev pub Fine : Place → Type 0
Fine Hunt = Unit {0}
Fine (Payload o b k l) = (o ≤ 47) × (b ≤ 7) × Sure l.descrambler
Fine (Header n l) = Sure l.descrambler

fine_hunted : (t : Bool) (w : ℕ) → Fine (cond t (Payload 47 7 None (locked_on w)) Hunt)
fine_hunted true w = (omega arith, omega arith, tt)
fine_hunted false w = tt

fine_pay : (t u : Bool) (o b : ℕ) (k : Option headers.Header) (l : Lock) → o ≤ 47 → b ≤ 7 → Sure l.descrambler
    → Fine (cond t (Payload o (b - 1) k l) (cond u (Payload (o - 1) 7 k l) (Header 39 l)))
fine_pay true u o b k l h g s = (h, omega arith, s)
fine_pay false true o b k l h g s = (omega arith, omega arith, s)
fine_pay false false o b k l h g s = s

fine_entered : (o : Option Delineation) (l : Lock) (t : Option headers.Header) (d : Descrambler) (u : ℕ) (m : Mode) → Sure d
    → Fine (entered l t d u m o).place
fine_entered None l t d u m s = tt
fine_entered (Some b) l t d u m s = (omega arith, omega arith, s)

fine_head : (t : Bool) (m : Mode) (j : ℕ) (l : Lock) (w : ℕ) → Sure l.descrambler → Fine (cond t (at m (Header (j - 1) l)) (headed m l w)).place
fine_head true m j l w s = s
fine_head false m j l w s =
    fine_entered (delineation_after l.delineation (right l.descrambler w)) l (header_taken l.descrambler m w) _ _ _
    (sure_after l.descrambler (sampled l.samples w) w s)

fine_after : (m : Mode) (p : Place) (n w : ℕ) → Fine p → Fine (control_after m p n w).place
fine_after m Hunt n w f = fine_hunted (both (eqb n 40) (agrees w)) w
fine_after m (Payload o b k l) n w f = fine_pay (ltb 0 b) (ltb 0 o) o b k l f.0 f.1 f.2
fine_after m (Header j l) n w f = fine_head (ltb 0 j) m j l w f

pub fine_run : (bs : List Bool) (s : Tracker) → Fine s.control.place → Fine (after s bs).control.place
unfolding step
fine_run [] s f = f
fine_run (b ∷ bs) s f = fine_run bs (step s b) (fine_after s.control.mode s.control.place (counted s.window.come) (shifted s.window.bits b) f)

-- the end before the last of some bits
pub step_last : (b : Bool) (bs : List Bool) (s : Tracker) → Fine s.control.place
    → (s₀ : Tracker) × (c : Bool) × (after s (b ∷ bs) ≡ step s₀ c) × Fine s₀.control.place
unfolding step
step_last b [] s f = (s, b, refl, f)
step_last b (c ∷ bs) s f = step_last c bs (step s b) (fine_after s.control.mode s.control.place (counted s.window.come) (shifted s.window.bits b) f)
