-- The rules of the receiving end at a header. Each reads the state before the header; w is the header, the last 40 bits.
--
--   found_at, steady_at      the confidences at which the phase is found and Steady begins
--   least_in_verification, least_in_steady
--                            the confidences below which these two states are left for Acquisition
--   confirmations            so many right headers after the one that ended the hunt lead from PRESYNC to SYNC
--   wrong_to_hunt            so many wrong headers in a row lead from SYNC to HUNT
--   found_phase r            what the finder's answer r to the samples leads to
--   acquire a c u            Acquisition with confidence c, after a header that agrees or not (a): sixteen that agree in a row
--                            give the phase, by the last 31 of the samples u of sixteen headers
--   verify a m c p           Verification at the phase p of this cell; m: both samples are as predicted
--   hold f c p               Steady; f: the freed syndrome is 0x80, 0x40 or 0xC0
--   descrambler_after d u w  the descrambler d after the header, whichever state it is in
--   phase_of d               the phase of the cell whose header came last, once one is found
--   sampled u w              the samples of the last sixteen headers, this one the newest
--   verdict_at p w           the verdict on the header freed of the samples of the phase p
--   is_clean v               the verdict v is that nothing is wrong
--   right d w                the header is not wrong: it agrees, and in Steady it is clean
--   confirmed b              the boundary b after a right header
--   delineation_after b r    the boundary b after a header that is right or not (r); None is HUNT
--   mode_on v                the mode after a header in Steady with the verdict v
--   begun d m                the mode m after a header in Verification, which leads to the descrambler d
--   mode_after d e m w       the mode m after the header, where the descrambler d becomes e
--   in_mode m v              the verdict v in the mode m: in detection mode one wrong bit is past mending
--   taken_by m v p w         the header of the cell in Steady, by the mode m and the verdict v, descrambled at the phase p
--   header_taken d m w       the same in any state, where it is valid or mended; outside Steady there is none
--   is_sync b, is_steady d   the boundary b is in SYNC; the descrambler d is in Steady
--   in_step l                SYNC and Steady
--   payload_to l k h         the payload of the cell, which is kept if a header h was taken and the end is in step both before (l) and
--                            after (k) it
--   entered l h d u m b      a boundary b is still assumed after the header, and its payload comes; or b is None, and the hunt begins
--   headed m l w             the state after the header
--   locked_on w              what is known after a header that ends a hunt
--   both a b                 a and b
use Rattle.std.specs.Prelude.{ℕ, ◌+◌, ◌-◌, ◌*◌, ◌%◌, ◌^◌, Bool, true, false, cond, Some, None, Ok, Err, Option, Result, ◌==◌, nat_lt}
use Rattle.cell.specs.Verdict.{verdict_of}
use Rattle.cell.specs.declared.header.Header as headers
use Rattle.cell.specs.declared.refusal.Refusal.{Refusal}
use Rattle.cell.specs.declared.verdict.Verdict.{Verdict}
use Rattle.cell.specs.declared.verdict.Verdict.TheVariants.{Clean, OneWrongBit, PastMending}
use Rattle.scrambler.specs.Finder.{found}
use Rattle.scrambler.specs.Generator.{next_phase}
use Rattle.tracker.specs.declared.state.Mode.{Mode}
use Rattle.tracker.specs.declared.state.Mode.TheVariants.{Correction, Detection}
use Rattle.tracker.specs.declared.state.Delineation.{Delineation}
use Rattle.tracker.specs.declared.state.Delineation.TheVariants.{Presync, Sync}
use Rattle.tracker.specs.declared.state.Descrambler.{Descrambler}
use Rattle.tracker.specs.declared.state.Descrambler.TheVariants.{Acquisition, Verification, Steady}
use Rattle.tracker.specs.declared.state.Lock.{Lock}
use Rattle.tracker.specs.declared.state.Place.{Place}
use Rattle.tracker.specs.declared.state.Place.TheVariants.{Hunt, Payload}
use Rattle.tracker.specs.declared.state.Control.{Control}
use Rattle.tracker.specs.Window.{agrees, samples_in, predicted, freed, sample_fault, header_in, mended_in}

abbrev pub both : Bool → Bool → Bool
both true b = b
both false b = false

-- ---- the numbers

abbrev pub found_at : ℕ
found_at = 16

abbrev pub steady_at : ℕ
steady_at = 24

abbrev pub least_in_verification : ℕ
least_in_verification = 8

abbrev pub least_in_steady : ℕ
least_in_steady = 16

abbrev pub confirmations : ℕ
confirmations = 8

abbrev pub wrong_to_hunt : ℕ
wrong_to_hunt = 7

-- ---- the descrambler

-- if the samples fitted no phase, Acquisition would begin again
abbrev pub found_phase : Result ℕ Refusal → Descrambler
found_phase (Ok p) = Verification found_at p
found_phase (Err e) = Acquisition 0

abbrev pub acquire : Bool → ℕ → ℕ → Descrambler
acquire a c u = cond a (cond (nat_lt (c + 1) found_at) (Acquisition (c + 1)) (found_phase (found (u % 2 ^ 31)))) (Acquisition 0)

-- up by one to Steady at 24, or down by one, and below 8 back to Acquisition; a header that disagrees leaves the confidence
abbrev pub verify : Bool → Bool → ℕ → ℕ → Descrambler
verify a m c p =
    cond a
    (cond m (cond (nat_lt (c + 1) steady_at) (Verification (c + 1) p) (Steady steady_at p))
    (cond (nat_lt least_in_verification c) (Verification (c - 1) p) (Acquisition 0)))
    (Verification c p)

-- down by one, and below 16 back to Acquisition; or up by one, to at most 24
abbrev pub hold : Bool → ℕ → ℕ → Descrambler
hold f c p = cond f (cond (nat_lt least_in_steady c) (Steady (c - 1) p) (Acquisition 0)) (Steady (cond (nat_lt c steady_at) (c + 1) steady_at) p)

abbrev pub descrambler_after : Descrambler → ℕ → ℕ → Descrambler
descrambler_after (Acquisition c) u w = acquire (agrees w) c u
descrambler_after (Verification c p) u w = verify (agrees w) (samples_in w == predicted (next_phase p)) c (next_phase p)
descrambler_after (Steady c p) u w = hold (sample_fault (freed (next_phase p) w)) c (next_phase p)

abbrev pub phase_of : Descrambler → Option ℕ
phase_of (Acquisition c) = None
phase_of (Verification c p) = Some p
phase_of (Steady c p) = Some p

-- two bits a header, in 32 bits
unfoldable pub sampled : ℕ → ℕ → ℕ
sampled u w = u % 2 ^ 30 * 2 ^ 2 + samples_in w

-- ---- the boundary

abbrev pub verdict_at : ℕ → ℕ → Verdict
verdict_at p w = verdict_of (freed p w)

abbrev pub is_clean : Verdict → Bool
is_clean Clean = true
is_clean (OneWrongBit i) = false
is_clean PastMending = false

abbrev pub right : Descrambler → ℕ → Bool
right (Acquisition c) w = agrees w
right (Verification c p) w = agrees w
right (Steady c p) w = is_clean (verdict_at (next_phase p) w)

abbrev pub confirmed : Delineation → Delineation
confirmed (Presync n) = cond (nat_lt (n + 1) confirmations) (Presync (n + 1)) (Sync 0)
confirmed (Sync n) = Sync 0

-- eight right headers in a row lead from PRESYNC to SYNC, a wrong one to HUNT; seven wrong ones in a row from SYNC to HUNT. PRESYNC goes by right
-- headers in every state of the descrambler: in Steady these would be the clean ones, but PRESYNC is never in Steady
abbrev pub delineation_after : Delineation → Bool → Option Delineation
delineation_after (Presync n) r = cond r (Some (confirmed (Presync n))) None
delineation_after (Sync n) r = cond r (Some (confirmed (Sync n))) (cond (nat_lt (n + 1) wrong_to_hunt) (Some (Sync (n + 1))) None)

-- ---- mending, in Steady

abbrev pub mode_on : Verdict → Mode
mode_on Clean = Correction
mode_on (OneWrongBit i) = Detection
mode_on PastMending = Detection

-- Steady begins in correction mode
abbrev pub begun : Descrambler → Mode → Mode
begun (Acquisition c) m = m
begun (Verification c p) m = m
begun (Steady c p) m = Correction

-- in Steady a clean header sets correction mode, and a wrong one detection mode
abbrev pub mode_after : Descrambler → Descrambler → Mode → ℕ → Mode
mode_after (Acquisition c) e m w = m
mode_after (Verification c p) e m w = begun e m
mode_after (Steady c p) e m w = mode_on (verdict_at (next_phase p) w)

abbrev pub in_mode : Mode → Verdict → Verdict
in_mode m Clean = Clean
in_mode Correction (OneWrongBit i) = OneWrongBit i
in_mode Detection (OneWrongBit i) = PastMending
in_mode m PastMending = PastMending

-- a clean header is valid, and one wrong bit is mended
abbrev pub taken_by : Mode → Verdict → ℕ → ℕ → Option headers.Header
taken_by m v p w = elim (in_mode m v) [ Clean ↦ Some (header_in p w) | OneWrongBit i ↦ Some (mended_in p w i) | PastMending ↦ None ]

abbrev pub header_taken : Descrambler → Mode → ℕ → Option headers.Header
header_taken (Acquisition c) m w = None
header_taken (Verification c p) m w = None
header_taken (Steady c p) m w = taken_by m (verdict_at (next_phase p) w) (next_phase p) w

-- ---- the state after a header

abbrev pub is_sync : Delineation → Bool
is_sync (Presync n) = false
is_sync (Sync n) = true

abbrev pub is_steady : Descrambler → Bool
is_steady (Acquisition c) = false
is_steady (Verification c p) = false
is_steady (Steady c p) = true

abbrev pub in_step : Lock → Bool
in_step l = both (is_sync l.delineation) (is_steady l.descrambler)

-- 384 bits of payload come before the next header
abbrev pub payload_to : Lock → Lock → Option headers.Header → Place
payload_to l k h = Payload 47 7 (cond (both (in_step l) (in_step k)) h None) k

abbrev pub entered : Lock → Option headers.Header → Descrambler → ℕ → Mode → Option Delineation → Control
entered l h d u m None = record { mode = m; place = Hunt }
entered l h d u m (Some b) = record { mode = m; place = payload_to l (record { delineation = b; descrambler = d; samples = u }) h }

abbrev pub headed : Mode → Lock → ℕ → Control
headed m l w =
    let u : ℕ = sampled l.samples w in
    let d : Descrambler = descrambler_after l.descrambler u w in
    entered l (header_taken l.descrambler m w) d u (mode_after l.descrambler d m w) (delineation_after l.delineation (right l.descrambler w))

-- PRESYNC and Acquisition with confidence 1
abbrev pub locked_on : ℕ → Lock
locked_on w = record { delineation = Presync 0; descrambler = Acquisition 1; samples = sampled 0 w }
