-- After a right header an end that is in step has no wrong header counted, is in correction mode, and has a confidence of 17 to 24.
-- Knows nothing of the check octet and the generator.
--
--   Entered  what made a state in step: the boundary, the mode and the descrambler after a header
--   Cleared  what a right header leaves
use Rattle.std.proofs.Common.{◌≡◌, ℕ, zero, suc, ◌+◌, ◌-◌, ◌%◌, ◌^◌, ◌≤◌, Bool, true, false, cond, eqb, ltb, List, [], ◌∷◌, length, Some, None, Ok, Err, Option, Result, sym, refl, ap, ◌∙◌, subst, arith, lt-ltb}
use Rattle.cell.specs.Verdict.{verdict_of}
use Rattle.cell.specs.declared.header.Header as headers
use Rattle.cell.specs.declared.refusal.Refusal.{Refusal}
use Rattle.cell.specs.declared.verdict.Verdict.TheVariants.{Clean}
use Rattle.scrambler.specs.Finder.{found}
use Rattle.scrambler.specs.Generator.{next_phase}
use Rattle.tracker.specs.declared.state.Mode.{Mode}
use Rattle.tracker.specs.declared.state.Mode.TheVariants.{Correction}
use Rattle.tracker.specs.declared.state.Delineation.{Delineation}
use Rattle.tracker.specs.declared.state.Delineation.TheVariants.{Presync, Sync}
use Rattle.tracker.specs.declared.state.Descrambler.{Descrambler}
use Rattle.tracker.specs.declared.state.Descrambler.TheVariants.{Acquisition, Verification, Steady}
use Rattle.tracker.specs.declared.state.Lock.{Lock}
use Rattle.tracker.specs.declared.state.Place.{Place}
use Rattle.tracker.specs.declared.state.Place.TheVariants.{Hunt, Payload, Header}
use Rattle.tracker.specs.declared.state.Control.{Control}
use Rattle.tracker.specs.declared.tracker.Tracker.{Tracker}
use Rattle.tracker.specs.Window.{agrees, samples_in, predicted, freed, sample_fault, counted}
use Rattle.tracker.specs.Rules.{both, found_phase, hold, descrambler_after, right, is_clean, verdict_at, delineation_after, mode_on, mode_after, header_taken, entered, sampled, headed, locked_on}
use Rattle.tracker.specs.Tracker.{control_after}
use Rattle.receiver.specs.Run.{step, after}
use Rattle.line.proofs.Bits.{value, window_header}
use Rattle.line.proofs.Cells.{at, synced}
use Rattle.line.proofs.Reached.{Sure, raised, raised_is, Fine, step_last}

no_way : {A : Type 0} → ◌≡◌ {A = ℕ} 0 1 → A
no_way e = absurd (omega arith)

-- ---- what made a state in step

if_sync : (t : Bool) (n x : ℕ) → cond t (Presync n) (Sync 0) ≡ Sync x → x ≡ 0
if_sync false n x e = cc
if_sync true n x e = no_way cc

bound_zero : (b₀ b : Delineation) (x : ℕ) → delineation_after b₀ true ≡ Some b → b ≡ Sync x → x ≡ 0
bound_zero (Presync n) b x e f = if_sync (ltb (n + 1) 8) (n + 1) x (let y : cond (ltb (n + 1) 8) (Presync (n + 1)) (Sync 0) ≡ b = cc in y ∙ f)
bound_zero (Sync n) b x e f = cc

hold_phase : (f t u : Bool) (c₀ c p q : ℕ) → cond f (cond t (Steady (c₀ - 1) p) (Acquisition 0)) (Steady (cond u (c₀ + 1) 24) p) ≡ Steady c q → p ≡ q
hold_phase true true u c₀ c p q e = cc
hold_phase true false u c₀ c p q e = no_way cc
hold_phase false t u c₀ c p q e = cc

found_not : (o : Result ℕ Refusal) (c q : ℕ) → found_phase o ≡ Steady c q → ⊥
found_not (Ok p) c q e = no_way cc
found_not (Err r) c q e = no_way cc

acquire_not : (a t : Bool) (o : Result ℕ Refusal) (n c q : ℕ) → cond a (cond t (Acquisition n) (found_phase o)) (Acquisition 0) ≡ Steady c q → ⊥
acquire_not true false o n c q e = found_not o c q e
acquire_not true true o n c q e = no_way cc
acquire_not false t o n c q e = no_way cc

verify_full : (a m t u : Bool) (c₀ d e p c q : ℕ)
    → cond a (cond m (cond t (Verification d p) (Steady 24 p)) (cond u (Verification e p) (Acquisition 0))) (Verification c₀ p) ≡ Steady c q → 24 ≡ c
verify_full true true true u c₀ d e p c q h = no_way cc
verify_full true true false u c₀ d e p c q h = cc
verify_full true false t true c₀ d e p c q h = no_way cc
verify_full true false t false c₀ d e p c q h = no_way cc
verify_full false m t u c₀ d e p c q h = no_way cc

record Entered (o : Option Delineation) (m m' : Mode) (d : Descrambler) (x c q : ℕ) : Type 0 where
  boundary : Delineation
  some : o ≡ Some boundary
  sync : boundary ≡ Sync x
  descrambler : d ≡ Steady c q
  mode : m ≡ m'

entered_by : (o : Option Delineation) (l : Lock) (t : Option headers.Header) (m m' : Mode) (d : Descrambler) (u : ℕ) (kept : Option headers.Header)
    (x c q v : ℕ)
    → entered l t d u m o ≡ at m' (Payload 47 7 kept (synced x c q v)) → Entered o m m' d x c q
entered_by None l t m m' d u kept x c q v e = let p : Hunt ≡ Payload 47 7 kept (synced x c q v) = ap (λ (z : Control). z.place) e in no_way cc
entered_by (Some b) l t m m' d u kept x c q v e =
    let p = ap (λ (z : Control). z.place) e in
    let lk : ◌≡◌ {A = Lock} (record { delineation = b; descrambler = d; samples = u }) (synced x c q v) = cc in
    record {
      boundary = b;
      some = refl;
      sync = ap (λ (l : Lock). l.delineation) lk;
      descrambler = ap (λ (l : Lock). l.descrambler) lk;
      mode = ap
          (λ (z : Control). z.mode) e;
    }

pub record Cleared (n c : ℕ) (m : Mode) : Type 0 where
  pub none : n ≡ 0
  pub mends : m ≡ Correction
  pub least : 17 ≤ c
  pub most : c ≤ 24

module _ (w q : ℕ) (agree : agrees w ≡ true) (clean : freed q w ≡ 0) (no_fault : verdict_of 0 ≡ Clean) where
  verdict : (p : ℕ) → p ≡ q → verdict_at p w ≡ Clean
  verdict p t = ap (λ z. verdict_of (freed z w)) t ∙ ap verdict_of clean ∙ no_fault

  right_true : (d : Descrambler) (u c : ℕ) → descrambler_after d u w ≡ Steady c q → right d w ≡ true
  right_true (Acquisition n) u c e = agree
  right_true (Verification n p) u c e = agree
  right_true (Steady n p) u c e = ap is_clean
      (verdict (next_phase p) (hold_phase (sample_fault (freed (next_phase p) w)) (ltb 16 n) (ltb n 24) n c (next_phase p) q e))

  mode_by : (d : Descrambler) (u c : ℕ) (m : Mode) → descrambler_after d u w ≡ Steady c q → mode_after d (descrambler_after d u w) m w ≡ Correction
  mode_by (Acquisition n) u c m e = absurd (acquire_not (agrees w) (ltb (n + 1) 16) (found (u % 2 ^ 31)) (n + 1) c q e)
  mode_by (Verification n p) u c m e = ap (λ t. mode_after (Verification n p) t m w) e
  mode_by (Steady n p) u c m e = ap mode_on
      (verdict (next_phase p) (hold_phase (sample_fault (freed (next_phase p) w)) (ltb 16 n) (ltb n 24) n c (next_phase p) q e))

  raised_by : (n p c : ℕ) → p ≡ q → hold (sample_fault (freed p w)) n p ≡ Steady c q → raised n ≡ c
  raised_by n p c t e =
      let h : hold (sample_fault (freed p w)) n p ≡ Steady (raised n) p = ap (λ z. hold (sample_fault z) n p) (ap (λ z. freed z w) t ∙ clean) in
      let k : Steady (raised n) p ≡ Steady c q = sym h ∙ e in
      cc

  sure_by : (d : Descrambler) (u c : ℕ) → Sure d → descrambler_after d u w ≡ Steady c q → (17 ≤ c) × (c ≤ 24)
  sure_by (Acquisition n) u c s e = absurd (acquire_not (agrees w) (ltb (n + 1) 16) (found (u % 2 ^ 31)) (n + 1) c q e)
  sure_by (Verification n p) u c s e =
      let z = verify_full (agrees w) (eqb (samples_in w) (predicted (next_phase p))) (ltb (n + 1) 24) (ltb 8 n) n (n + 1) (n - 1) (next_phase p) c q e in
      (omega arith, omega arith)
  sure_by (Steady n p) u c s e =
      let z = raised_by n (next_phase p) c (hold_phase (sample_fault (freed (next_phase p) w)) (ltb 16 n) (ltb n 24) n c (next_phase p) q e) e in
      let r = raised_is n s.1 in
      (subst (λ (y : ℕ). 17 ≤ y) z (r.2 s.0), subst (λ (y : ℕ). y ≤ 24) z r.1)

  hunted_not : (t : Bool) (kept : Option headers.Header) (x c u : ℕ)
      → cond t (Payload 47 7 None (locked_on w)) Hunt ≡ Payload 47 7 kept (synced x c q u) → ⊥
  hunted_not true kept x c u e =
      let lk : locked_on w ≡ synced x c q u = cc in
      let d : Acquisition 1 ≡ Steady c q = ap (λ (l : Lock). l.descrambler) lk in no_way cc
  hunted_not false kept x c u e = no_way cc

  pay_not : (t v : Bool) (o b : ℕ) (k kept : Option headers.Header) (l l' : Lock) → o ≤ 47 → b ≤ 7 → ltb 0 o ≡ v
      → cond t (Payload o (b - 1) k l) (cond v (Payload (o - 1) 7 k l) (Header 39 l)) ≡ Payload 47 7 kept l' → ⊥
  pay_not true v o b k kept l l' h g z e = let y : b - 1 ≡ 7 = cc in omega arith
  pay_not false true o b k kept l l' h g z e = let y : o - 1 ≡ 47 = cc in omega arith
  pay_not false false o b k kept l l' h g z e = no_way cc

  place_cleared : (m₀ : Mode) (p : Place) (n : ℕ) (m : Mode) (kept : Option headers.Header) (x c u : ℕ) → Fine p
      → control_after m₀ p n w ≡ at m (Payload 47 7 kept (synced x c q u)) → Cleared x c m
  place_cleared m₀ Hunt n m kept x c u f e = absurd (hunted_not (both (eqb n 40) (agrees w)) kept x c u (ap (λ (z : Control). z.place) e))
  place_cleared m₀ (Payload o b k l) n m kept x c u f e = absurd
      (pay_not (ltb 0 b) (ltb 0 o) o b k kept l (synced x c q u) f.0 f.1 refl (ap (λ (z : Control). z.place) e))
  place_cleared m₀ (Header zero l) n m kept x c u f e =
      let v : ℕ = sampled l.samples w in
      let t = entered_by (delineation_after l.delineation (right l.descrambler w)) l (header_taken l.descrambler m₀ w) _ m
      (descrambler_after l.descrambler v w) v kept x c q u e in
      let b = sure_by l.descrambler v c f t.descrambler in
      record {
        none = bound_zero l.delineation t.boundary x
            (ap (delineation_after l.delineation) (sym (right_true l.descrambler v c t.descrambler)) ∙ t.some) t.sync;
        mends = sym t.mode ∙ mode_by l.descrambler v c m₀ t.descrambler;
        least = b.0;
        most = b.1;
      }
  place_cleared m₀ (Header (suc j) l) n m kept x c u f e =
      let g : ltb 0 (suc j) ≡ true = lt-ltb 0 (suc j) (omega arith) in
      let y : at m₀ (Header (suc j - 1) l) ≡ at m (Payload 47 7 kept (synced x c q u)) = sym
      (ap (λ z. cond z (at m₀ (Header (suc j - 1) l)) (headed m₀ l w)) g) ∙ e in
      let p = ap (λ (z : Control). z.place) y in no_way cc

  pub right_clears : (v : List Bool) (s : Tracker) (m : Mode) (kept : Option headers.Header) (x c u : ℕ) → Fine s.control.place → length v ≡ 40
      → value v ≡ w → (after s v).control ≡ at m (Payload 47 7 kept (synced x c q u)) → Cleared x c m
  unfolding step
  right_clears [] s m kept x c u f len i e = absurd (omega arith)
  right_clears (b ∷ bs) s m kept x c u f len i e =
      let t = step_last b bs s f in
      let win : (step t.0 t.1).window.bits ≡ w = ap (λ (z : Tracker). z.window.bits) (sym t.2) ∙ window_header (b ∷ bs) s len ∙ i in
      place_cleared t.0.control.mode t.0.control.place (counted t.0.window.come) m kept x c u t.3
      (ap (control_after t.0.control.mode t.0.control.place (counted t.0.window.come)) (sym win) ∙ ap (λ (z : Tracker). z.control) (sym t.2)
      ∙ e)
