-- What the code decides by on its way to `decided`. Nobody needs these to believe it: that is what the whole has to come to.
--
--   at_next_cell d     the descrambler d at the phase of the next cell, whose header has come
--   at_header l w      the lock l with this header's samples, at the phase of its cell
--   verdict_in d m w   one verdict in every state d, at the phase of its cell: in Steady that on the freed syndrome, in the mode m; else clean where
--                      the header agrees and past mending where not
--   lost_cause d v     layer 1 on a header with the verdict v that loses the boundary: outside Steady there is none
--   lost_mode d m v    the mode m after it, which stays outside Steady
--   hunt_from d c m v  HUNT for the cause c, after a header with the verdict v, and the events on it
use Rattle.std.specs.Prelude.{ℕ, cond, Some, None, Option}
use Rattle.cell.specs.declared.verdict.Verdict.{Verdict}
use Rattle.cell.specs.declared.verdict.Verdict.TheVariants.{Clean, PastMending}
use Rattle.scrambler.specs.Generator.{next_phase}
use Rattle.tracker.specs.Events.{cause_of, descrambler_event}
use Rattle.tracker.specs.Rules.{sampled, verdict_at, in_mode, mode_on}
use Rattle.tracker.specs.Window.{agrees}
use Rattle.tracker.specs.declared.events.BoundaryCause.{BoundaryCause}
use Rattle.tracker.specs.declared.events.HeaderCause.{HeaderCause}
use Rattle.tracker.specs.declared.state.Mode.{Mode}
use Rattle.tracker.specs.declared.state.Descrambler.{Descrambler}
use Rattle.tracker.specs.declared.state.Descrambler.TheVariants.{Acquisition, Verification, Steady}
use Rattle.tracker.specs.declared.state.Lock.{Lock}
use Rattle.tracker.specs.declared.state.Headed.{Headed}
use Rattle.tracker.specs.declared.state.Place.TheVariants.{Hunt}

abbrev pub at_next_cell : Descrambler → Descrambler
at_next_cell (Acquisition c) = Acquisition c
at_next_cell (Verification c p) = Verification c (next_phase p)
at_next_cell (Steady c p) = Steady c (next_phase p)

abbrev pub at_header : Lock → ℕ → Lock
at_header l w = record { delineation = l.delineation; descrambler = at_next_cell l.descrambler; samples = sampled l.samples w }

abbrev pub verdict_in : Descrambler → Mode → ℕ → Verdict
verdict_in (Acquisition c) m w = cond (agrees w) Clean PastMending
verdict_in (Verification c p) m w = cond (agrees w) Clean PastMending
verdict_in (Steady c p) m w = in_mode m (verdict_at p w)

abbrev pub lost_cause : Descrambler → Verdict → Option HeaderCause
lost_cause (Acquisition c) v = None
lost_cause (Verification c p) v = None
lost_cause (Steady c p) v = cause_of v

abbrev pub lost_mode : Descrambler → Mode → Verdict → Mode
lost_mode (Acquisition c) m v = m
lost_mode (Verification c p) m v = m
lost_mode (Steady c p) m v = mode_on v

abbrev pub hunt_from : Descrambler → BoundaryCause → Mode → Verdict → Headed
hunt_from d c m v = record {
  control = record { mode = lost_mode d m v; place = Hunt };
  events = record { header = lost_cause d v; boundary = Some c; descrambler = descrambler_event d (Acquisition 0) };
}
