-- In step, a cell with exactly two wrong header bits is never handed up. Knows the code by the record CodeLaws only, and
-- nothing of sinks.
--
--   Idle j a  at the place a nothing is handed up with the next bit, nor with the j bits after it
use Rattle.std.proofs.Common.{◌≡◌, ℕ, suc, ◌+◌, ◌-◌, ◌*◌, ◌≤◌, Bool, true, false, cond, eqb, ltb, List, [], ◌∷◌, ◌++◌, length, take, drop, Some, None, Option, sym, refl, ap, ◌∙◌, subst, append-nil, arith, length-append, length-drop, take-append-drop, length-take, ltb-false, ltb-true}
use Rattle.cell.specs.declared.header.Header as headers
use Rattle.cell.specs.declared.verdict.Verdict.{Verdict}
use Rattle.cell.specs.declared.verdict.Verdict.TheVariants.{PastMending}
use Rattle.scrambler.specs.Generator.{next_phase}
use Rattle.sender.specs.Stream.{Send}
use Rattle.tracker.specs.declared.events.HeaderEvents.{HeaderEvents}
use Rattle.tracker.specs.declared.state.Mode.{Mode}
use Rattle.tracker.specs.declared.state.Mode.TheVariants.{Correction, Detection}
use Rattle.tracker.specs.declared.state.Delineation.{Delineation}
use Rattle.tracker.specs.declared.state.Delineation.TheVariants.{Sync}
use Rattle.tracker.specs.declared.state.Descrambler.{Descrambler}
use Rattle.tracker.specs.declared.state.Lock.{Lock}
use Rattle.tracker.specs.declared.state.Place.{Place}
use Rattle.tracker.specs.declared.state.Place.TheVariants.{Hunt, Payload, Header}
use Rattle.tracker.specs.declared.state.Control.{Control}
use Rattle.tracker.specs.declared.tracker.Tracker.{Tracker}
use Rattle.tracker.specs.declared.tracker.Moment.TheVariants as moment
use Rattle.tracker.specs.Window.{agrees, counted, shifted}
use Rattle.tracker.specs.Rules.{both, in_step, is_clean, verdict_at, delineation_after, taken_by, entered, locked_on}
use Rattle.tracker.specs.Tracker.{start, control_after, brought, bit_step}
use Rattle.receiver.specs.Run.{step, after, offered, kept_cell, cell_in, user_cell}
use Rattle.receiver.specs.Handing.{Moment, bits}
use Rattle.receiver.proofs.Runs.{after-append, bits-append}
use Rattle.line.specs.Heard.{Begins}
use Rattle.line.specs.Laws.{header_bits, InStep, differing, TwoBitsDiscarded}
use Rattle.line.proofs.Bits.{value}
use Rattle.line.proofs.Carried.{Carried}
use Rattle.line.proofs.Cells.{long_run, synced}
use Rattle.line.proofs.CodeLaws.{CodeLaws}
use Rattle.line.proofs.Offers.{Frame, Whole, whole_of}
use Rattle.line.proofs.Runs.{length-bits}
use Rattle.line.proofs.Sends.{stream_carried, header_long_lem, header_clean}
use Rattle.line.proofs.Survives.{taken}

-- ---- a cell that is not kept

abbrev Idle : ℕ → Place → Type 0
Idle j Hunt = Unit {0}
Idle j (Payload o b None l) = j ≤ 8 * o + b
Idle j (Payload o b (Some h) l) = ⊥
Idle j (Header n l) = ⊥

idle_fewer : (p : Place) (i j : ℕ) → i ≤ j → Idle j p → Idle i p
idle_fewer Hunt i j h d = tt
idle_fewer (Payload o b None l) i j h d = omega arith
idle_fewer (Payload o b (Some k) l) i j h d = d
idle_fewer (Header n l) i j h d = d

idle_if : (t : Bool) (w j : ℕ) → j ≤ 383 → Idle j (cond t (Payload 47 7 None (locked_on w)) Hunt)
idle_if true w j h = omega arith
idle_if false w j h = tt

idle_pay : (t u : Bool) (o b : ℕ) (l : Lock) (j : ℕ) → ltb 0 b ≡ t → ltb 0 o ≡ u → suc j ≤ 8 * o + b
    → Idle j (cond t (Payload o (b - 1) None l) (cond u (Payload (o - 1) 7 None l) (Header 39 l)))
idle_pay true u o b l j e f h = let z = ltb-true 0 b e in omega arith
idle_pay false true o b l j e f h = let z = ltb-true 0 o f in let y = ltb-false 0 b e in omega arith
idle_pay false false o b l j e f h = let z = ltb-false 0 o f in let y = ltb-false 0 b e in absurd (let x : ⊥ = omega arith in x)

idle_place : (m : Mode) (p : Place) (n w j : ℕ) → j ≤ 383 → Idle (suc j) p → Idle j (control_after m p n w).place
idle_place m Hunt n w j h i = idle_if (both (eqb n 40) (agrees w)) w j h
idle_place m (Payload o b None l) n w j h i = idle_pay (ltb 0 b) (ltb 0 o) o b l j refl refl i
idle_place m (Payload o b (Some k) l) n w j h i = absurd i
idle_place m (Header k l) n w j h i = absurd i

idle_run : (bs : List Bool) (s : Tracker) → length bs ≤ 383 → Idle (length bs) s.control.place → Idle 0 (after s bs).control.place
unfolding step
idle_run [] s h i = i
idle_run (b ∷ bs) s h i = idle_run bs (step s b) (omega arith)
    (idle_place s.control.mode s.control.place (counted s.window.come) (shifted s.window.bits b) (length bs) (omega arith) i)

quiet_hunt : (t : Bool) (e : HeaderEvents) (xs : List ℕ) → user_cell (cell_in (cond t (Some (moment.Header e)) None) xs) ≡ None
quiet_hunt true e xs = refl
quiet_hunt false e xs = refl

quiet_pay : (t u : Bool) (xs : List ℕ) → user_cell (cell_in (cond t None (cond u None None)) xs) ≡ None
quiet_pay true u xs = refl
quiet_pay false true xs = refl
quiet_pay false false xs = refl

idle_quiet : (m : Mode) (p : Place) (n w : ℕ) (xs : List ℕ) → Idle 0 p → user_cell (cell_in (brought m p n w) xs) ≡ None
idle_quiet m Hunt n w xs i = quiet_hunt (both (eqb n 40) (agrees w)) _ xs
idle_quiet m (Payload o b None l) n w xs i = quiet_pay (ltb 0 b) (ltb 0 o) xs
idle_quiet m (Payload o b (Some k) l) n w xs i = absurd i
idle_quiet m (Header j l) n w xs i = absurd i

idle_offers_none : (s : Tracker) (b : Bool) → Idle 0 s.control.place → offered s b ≡ None
unfolding kept_cell
idle_offers_none s b i = idle_quiet s.control.mode s.control.place (counted s.window.come) (shifted s.window.bits b) (bit_step s b).payload i

idle_kept : (t : Bool) (k : Lock) → Idle 383 (Payload 47 7 (cond t None None) k)
idle_kept true k = omega arith
idle_kept false k = omega arith

-- a header that is not taken leaves its cell unkept, or a hunt
idle_entered : (o : Option Delineation) (l : Lock) (t : Option headers.Header) (d : Descrambler) (u : ℕ) (m : Mode) → t ≡ None
    → Idle 383 (entered l t d u m o).place
idle_entered None l t d u m e = tt
idle_entered (Some b) l t d u m e =
    subst (λ z. Idle 383 (entered l z d u m (Some b)).place) (sym e)
    (idle_kept (both (in_step l) (in_step (record { delineation = b; descrambler = d; samples = u })))
    (record { delineation = b; descrambler = d; samples = u }))

discards : (m : Mode) (v : Verdict) (q w : ℕ) → v ≡ PastMending → taken_by m v q w ≡ None
discards Correction v q w e = ap (λ z. taken_by Correction z q w) e
discards Detection v q w e = ap (λ z. taken_by Detection z q w) e

-- ---- the law

module _ (laws : CodeLaws) where
  two_core : (past body : List Moment) (q : ℕ) (y : Send) (b : Bool) → 424 ≤ length body → length body ≤ 807 → Carried (next_phase q) y
      → InStep (after start (bits past)) q → differing (take 40 (drop 384 (bits body))) (header_bits y) ≡ 2
      → offered (after start (bits (past ++ body))) b ≡ None
  two_core past body q y b least most f I D = ap (λ (z : Tracker). offered z b) e ∙ idle_offers_none (after (after s v.front) v.back) b i₁
    where
      s : Tracker
      s = after start (bits past)

      l_b : length (bits body) ≡ length body
      l_b = length-bits body

      hd : List Bool
      hd = take 40 (drop 384 (bits body))

      fr : Frame
      fr = record { head = take 40 (drop 384 (bits body)); body = drop 40 (drop 384 (bits body)) }

      l : Lock
      l = synced I.wrong I.confidence q I.samples

      lhd : length (take 40 (drop 384 (bits body))) ≡ 40
      lhd = length-take 40 (drop 384 (bits body)) ∙ (let z = length-drop 384 (bits body) in let y = l_b in omega arith)

      bg : Begins (bits body) (take 384 (bits body) ++ (hd ++ (drop 40 (drop 384 (bits body)) ++ [])))
      bg = (
        [],
        append-nil (bits body) ∙ sym (take-append-drop 384 (bits body))
            ∙ ap (λ z. take 384 (bits body) ++ z)
            (sym (take-append-drop 40 (drop 384 (bits body))) ∙ ap (λ z. hd ++ z) (sym (append-nil (drop 40 (drop 384 (bits body)))))),
      )

      w : ℕ
      w = value (take 40 (drop 384 (bits body)))

      v : Whole I.mode I.kept l (take 384 (bits body)) fr [] s (bits body)
      v = whole_of I.mode I.kept l (take 384 (bits body)) fr [] s (bits body) (record { control = I.is; long = long_run (bits past) start })
          (length-take 384 (bits body) ∙ (let z = l_b in omega arith)) lhd bg (let z = l_b in omega arith)

      e : after start (bits (past ++ body)) ≡ after (after s v.front) v.back
      e = ap (after start) (bits-append past body) ∙ after-append start (bits past) (bits body) ∙ ap (after s) v.is
          ∙ after-append s v.front v.back

      vd : taken I.mode (next_phase q) w ≡ None
      vd = discards I.mode (verdict_at (next_phase q) w) (next_phase q) w
          (laws.two_wrong (next_phase q) (header_bits y) hd (header_long_lem laws f) lhd (header_clean laws f) D)

      i₀ : Idle 383 (after s v.front).control.place
      i₀ = subst (Idle 383) (sym (ap (λ (z : Control). z.place) v.control))
          (idle_entered (delineation_after (Sync I.wrong) (is_clean (verdict_at (next_phase q) w))) l (taken I.mode (next_phase q) w) _ _ _ vd)

      n₀ : length v.back ≤ 383
      n₀ = let z = ap length v.is ∙ length-append v.front v.back in let c = v.count in let k = l_b in omega arith

      i₁ : Idle 0 (after (after s v.front) v.back).control.place
      i₁ = idle_run v.back (after s v.front) n₀ (idle_fewer (after s v.front).control.place (length v.back) 383 n₀ i₀)

  pub two_bits_discarded : (all : List Moment) → TwoBitsDiscarded all
  two_bits_discarded all past body rest m p front back x y split least most stream I D =
      two_core past body x.phase y m.bit least most (stream_carried p front x (y ∷ back) stream).1.0 I D
