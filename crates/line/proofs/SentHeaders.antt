-- One header as sent, in each state of the end, and its cell. Knows the code by the record CodeLaws only.
--
--   steady q u, verifying c q u, acquiring b c u  what is known in each state of the descrambler, where every header was right
--   bound_at c                                    the boundary after c agreeing headers in a row
use Rattle.std.proofs.Common.{◌≡◌, ℕ, suc, ◌+◌, ◌-◌, ◌*◌, ◌%◌, ◌^◌, ◌<◌, ◌≤◌, Bool, true, false, cond, eqb, ltb, List, Some, None, sym, refl, ap, ◌∙◌, subst, ap₂, true≢false, arith, le-ltb, lt-ltb, eq-eqb}
use mathlib.Core.Bool.{false≢true}
use native.Mathlib.Decide.{dec_lt}
use Rattle.cell.specs.Verdict.{verdict_of}
use Rattle.cell.specs.declared.header.Header as headers
use Rattle.cell.specs.declared.verdict.Verdict.{Verdict}
use Rattle.cell.specs.declared.verdict.Verdict.TheVariants.{Clean}
use Rattle.scrambler.specs.Finder.{found}
use Rattle.scrambler.specs.Generator.{next_phase}
use Rattle.sender.specs.Stream.{Send}
use Rattle.tracker.specs.declared.state.Mode.{Mode}
use Rattle.tracker.specs.declared.state.Mode.TheVariants.{Correction, Detection}
use Rattle.tracker.specs.declared.state.Delineation.{Delineation}
use Rattle.tracker.specs.declared.state.Delineation.TheVariants.{Presync, Sync}
use Rattle.tracker.specs.declared.state.Descrambler.TheVariants.{Acquisition, Verification}
use Rattle.tracker.specs.declared.state.Lock.{Lock}
use Rattle.tracker.specs.declared.state.Place.{Place}
use Rattle.tracker.specs.declared.state.Place.TheVariants.{Hunt, Payload, Header}
use Rattle.tracker.specs.declared.state.Control.{Control}
use Rattle.tracker.specs.Window.{agrees, samples_in, predicted, freed, header_in}
use Rattle.tracker.specs.Rules.{both, found_phase, delineation_after, sampled, headed, locked_on, verdict_at, taken_by}
use Rattle.tracker.specs.Tracker.{control_after}
use Rattle.receiver.specs.Run.{user_cell}
use Rattle.line.specs.Headers.{hunting}
use Rattle.line.specs.Laws.{header_bits, payload_bits}
use Rattle.line.proofs.Bits.{value}
use Rattle.line.proofs.Carried.{Carried, sent_user}
use Rattle.line.proofs.CellOffers.{cell_from}
use Rattle.line.proofs.Cells.{at, synced}
use Rattle.line.proofs.CodeLaws.{CodeLaws, moved, trail}
use Rattle.line.proofs.Sends.{header_agrees, header_samples, header_clean, header_descrambled, payload_descrambled}

abbrev pub steady : ℕ → ℕ → Lock
steady q u = synced 0 24 q u

abbrev pub verifying : ℕ → ℕ → ℕ → Lock
verifying c q u = record { delineation = Sync 0; descrambler = Verification c q; samples = u }

abbrev pub acquiring : Delineation → ℕ → ℕ → Lock
acquiring b c u = record { delineation = b; descrambler = Acquisition c; samples = u }

-- ---- one right header in each state

-- a clean header is taken
pub clean_taken : (m : Mode) (v : Verdict) (q w : ℕ) (h : headers.Header) → v ≡ Clean → header_in q w ≡ h → taken_by m v q w ≡ Some h
clean_taken Correction v q w h e f = ap (λ z. taken_by Correction z q w) e ∙ ap Some f
clean_taken Detection v q w h e f = ap (λ z. taken_by Detection z q w) e ∙ ap Some f

pub steady_next : (q : ℕ) (m : Mode) (u w : ℕ) (h : headers.Header) → verdict_of 0 ≡ Clean → freed (next_phase q) w ≡ 0 → header_in (next_phase q) w ≡ h
    → headed m (steady q u) w ≡ at Correction (Payload 47 7 (Some h) (steady (next_phase q) (sampled u w)))
steady_next q m u w h v e f =
    let j : taken_by m (verdict_at (next_phase q) w) (next_phase q) w ≡ Some h = clean_taken m (verdict_at (next_phase q) w) (next_phase q) w h
    (ap verdict_of e ∙ v) f in
    rw (j, e, v) refl

pub verify_next : (c q : ℕ) (m : Mode) (u w : ℕ) → agrees w ≡ true → samples_in w ≡ predicted (next_phase q) → ltb (c + 1) 24 ≡ true
    → headed m (verifying c q u) w ≡ at m (Payload 47 7 None (verifying (c + 1) (next_phase q) (sampled u w)))
verify_next c q m u w a s t = let e : eqb (samples_in w) (predicted (next_phase q)) ≡ true = eq-eqb (samples_in w) (predicted (next_phase q)) s in rw
    (a, e, t) refl

pub verify_last : (c q : ℕ) (m : Mode) (u w : ℕ) → agrees w ≡ true → samples_in w ≡ predicted (next_phase q) → ltb (c + 1) 24 ≡ false
    → headed m (verifying c q u) w ≡ at Correction (Payload 47 7 None (steady (next_phase q) (sampled u w)))
verify_last c q m u w a s t = let e : eqb (samples_in w) (predicted (next_phase q)) ≡ true = eq-eqb (samples_in w) (predicted (next_phase q)) s in rw
    (a, e, t) refl

abbrev pub acquired : Mode → ℕ → ℕ → ℕ → Delineation → Control
acquired m c u w b = at m (Payload 47 7 None
    (record {
      delineation = b;
      descrambler = cond (ltb (c + 1) 16) (Acquisition (c + 1)) (found_phase (found (sampled u w % 2 ^ 31)));
      samples = sampled u w;
    }))

pub acquire_next : (b b' : Delineation) (m : Mode) (c u w : ℕ) → delineation_after b true ≡ Some b' → agrees w ≡ true
    → headed m (acquiring b c u) w ≡ acquired m c u w b'
acquire_next (Presync n) b' m c u w e a = rw a (let q : cond (ltb (n + 1) 8) (Presync (n + 1)) (Sync 0) ≡ b' = cc in ap (acquired m c u w) q)
acquire_next (Sync n) b' m c u w e a = rw a (let q : Sync 0 ≡ b' = cc in ap (acquired m c u w) q)

abbrev pub bound_at : ℕ → Delineation
bound_at c = cond (ltb c 9) (Presync (c - 1)) (Sync 0)

pub bound_next : (c : ℕ) → 1 ≤ c → delineation_after (bound_at c) true ≡ Some (bound_at (c + 1))
bound_next c h = go (dec_lt c 8) (dec_lt c 9)
  where
    go : Dec (c < 8) → Dec (c < 9) → delineation_after (bound_at c) true ≡ Some (bound_at (c + 1))
    go (yes l) (yes m) =
        let t : ltb c 9 ≡ true = lt-ltb c 9 m in
        let u : ltb (c + 1) 9 ≡ true = lt-ltb (c + 1) 9 (omega arith) in
        let v : ltb (c - 1 + 1) 8 ≡ true = lt-ltb (c - 1 + 1) 8 (omega arith) in
        let x : c - 1 + 1 ≡ c + 1 - 1 = omega arith in
        rw (t, u, v, x) refl
    go (yes l) (no m) = absurd (m (omega arith))
    go (no l) (yes m) = let e : 8 ≡ c = omega arith in subst (λ z. delineation_after (bound_at z) true ≡ Some (bound_at (z + 1))) e refl
    go (no l) (no m) =
        let t : ltb c 9 ≡ false = le-ltb c 9 (omega arith) in
        let u : ltb (c + 1) 9 ≡ false = le-ltb (c + 1) 9 (omega arith) in
        rw (t, u) refl

-- ---- the header that ends the hunt

found_lock : (m : Mode) (w : ℕ) (t : Bool) → hunting (cond t (Payload 47 7 None (locked_on w)) Hunt) ≡ false
    → at m (cond t (Payload 47 7 None (locked_on w)) Hunt) ≡ at m (Payload 47 7 None (locked_on w))
found_lock m w true e = refl
found_lock m w false e = absurd (true≢false e)

pub hunt_ends_lem : (m : Mode) (p : Place) (n w : ℕ) → hunting p ≡ true → hunting (control_after m p n w).place ≡ false
    → control_after m p n w ≡ at m (Payload 47 7 None (locked_on w))
hunt_ends_lem m Hunt n w e f = found_lock m w (both (eqb n 40) (agrees w)) f
hunt_ends_lem m (Payload o b k l) n w e f = absurd (false≢true e)
hunt_ends_lem m (Header j l) n w e f = absurd (false≢true e)

pub sampled_trail : (i q w : ℕ) → samples_in w ≡ predicted (moved (suc i) q) → sampled (trail i q) w ≡ trail (suc i) q
unfolding sampled
sampled_trail i q w e = ap (λ (z : ℕ). trail i q % 2 ^ 30 * 2 ^ 2 + z) e

pub sampled_first : (q w : ℕ) → samples_in w ≡ predicted q → sampled 0 w ≡ trail 0 q
unfolding sampled
sampled_first q w e = ap (λ (z : ℕ). 0 % 2 ^ 30 * 2 ^ 2 + z) e

-- ---- a sent header and its cell

module _ (laws : CodeLaws) where
  -- a cell with the header as sent, whose payload comes as sent, comes up as sent
  pub sent_up : (q : ℕ) (x : Send) (n c u : ℕ) → Carried q x
      → user_cell (cell_from (Some (record { 0 = x.cell.header })) (synced n c q u) (payload_bits x)) ≡ sent_user x
  sent_up q x n c u f = ap (λ (z : List ℕ). user_cell (Some (record { header = x.cell.header; payload = z }))) (payload_descrambled laws f)

  pub steady_sent : (q : ℕ) (m : Mode) (u : ℕ) (y : Send) → Carried (next_phase q) y
      → headed m (steady q u) (value (header_bits y)) ≡ at Correction
      (Payload 47 7 (Some (record { 0 = y.cell.header })) (steady (next_phase q) (sampled u (value (header_bits y)))))
  steady_sent q m u y g = steady_next q m u (value (header_bits y)) (record { 0 = y.cell.header }) laws.no_fault (header_clean laws g)
      (header_descrambled laws g)

  -- the header of y is that of the cell i + 1, where the first that agreed was the cell 0; the sixteenth gives the phase
  pub acquired_sent : (m : Mode) (i q : ℕ) (y : Send) → i < 14 → Carried (moved (suc i) q) y
      → headed m (acquiring (bound_at (i + 1)) (i + 1) (trail i q)) (value (header_bits y)) ≡ at m (Payload 47 7 None (acquiring (bound_at (suc i + 1)) (suc i + 1) (trail (suc i) q)))
  acquired_sent m i q y n f =
      let w : ℕ = value (header_bits y) in
      let t : ltb (i + 1 + 1) 16 ≡ true = lt-ltb (i + 1 + 1) 16 (omega arith) in
      let l : i + 1 ≡ suc i = omega arith in
      acquire_next (bound_at (i + 1)) (bound_at (i + 1 + 1)) m (i + 1) (trail i q) w (bound_next (i + 1) (omega arith)) (header_agrees laws f)
      ∙ ap (λ z. at m (Payload 47 7 None (record { delineation = bound_at (i + 1 + 1); descrambler = cond z (Acquisition (i + 1 + 1)) (found_phase (found (sampled (trail i q) w % 2 ^ 31))); samples = sampled (trail i q) w }))) t
      ∙ ap₂ (λ (j u : ℕ). at m (Payload 47 7 None (acquiring (bound_at (j + 1)) (j + 1) u))) l (sampled_trail i q w (header_samples laws f))

  pub found_sent : (m : Mode) (i q : ℕ) (y : Send) → i ≡ 14 → q < 2 ^ 31 → Carried (moved (suc i) q) y
      → headed m (acquiring (bound_at (i + 1)) (i + 1) (trail i q)) (value (header_bits y)) ≡ at m (Payload 47 7 None (verifying 16 (moved (suc i) q) (trail (suc i) q)))
  found_sent m i q y l h f =
      let w : ℕ = value (header_bits y) in
      subst (λ (z : ℕ). samples_in w ≡ predicted (moved (suc z) q) → headed m (acquiring (bound_at (z + 1)) (z + 1) (trail z q)) w ≡ at m (Payload 47 7 None (verifying 16 (moved (suc z) q) (trail (suc z) q)))) (sym l)
      (λ e. acquire_next (bound_at 15) (bound_at 16) m 15 (trail 14 q) w (bound_next 15 (omega arith)) (header_agrees laws f)
      ∙ ap (λ z. at m (Payload 47 7 None (record { delineation = bound_at 16; descrambler = found_phase (found (z % 2 ^ 31)); samples = z }))) (sampled_trail 14 q w e)
      ∙ ap (λ z. at m (Payload 47 7 None (record { delineation = bound_at 16; descrambler = found_phase z; samples = trail 15 q }))) (laws.finds q h))
      (header_samples laws f)
