-- The events of a header, at most one in each layer, by the state before it and what becomes of that.
--
--   cause_of v                    layer 1 in Steady, by the verdict in its mode: one wrong bit is mended
--   header_cause m v              the same by the mode before the header and the verdict on it
--   header_event d m w            the same in any state: outside Steady there is none
--   boundary_event b b'           layer 2: the boundary b becomes b'; None is HUNT
--   descrambler_event d d'        layer 3: the descrambler d becomes d'
--   descrambler_event_to d d' b'  layer 3, whether or not the hunt begins
--   events_on m l w               the events of the header w
--   decided m l w                 the state after the header w and the events on it
--   hunt_ends                     the events of a header that ends a hunt
use Rattle.std.specs.Prelude.{ℕ, Some, None, Option}
use Rattle.cell.specs.declared.verdict.Verdict.{Verdict}
use Rattle.cell.specs.declared.verdict.Verdict.TheVariants.{Clean, OneWrongBit, PastMending}
use Rattle.scrambler.specs.Generator.{next_phase}
use Rattle.tracker.specs.declared.events.HeaderCause.{HeaderCause}
use Rattle.tracker.specs.declared.events.HeaderCause.TheVariants.{Mended, Discarded}
use Rattle.tracker.specs.declared.events.BoundaryCause.{BoundaryCause}
use Rattle.tracker.specs.declared.events.BoundaryCause.TheVariants as boundary
use Rattle.tracker.specs.declared.events.DescramblerCause.{DescramblerCause}
use Rattle.tracker.specs.declared.events.DescramblerCause.TheVariants as descrambler
use Rattle.tracker.specs.declared.events.HeaderEvents.{HeaderEvents}
use Rattle.tracker.specs.declared.state.Mode.{Mode}
use Rattle.tracker.specs.declared.state.Delineation.{Delineation}
use Rattle.tracker.specs.declared.state.Delineation.TheVariants.{Presync, Sync}
use Rattle.tracker.specs.declared.state.Descrambler.{Descrambler}
use Rattle.tracker.specs.declared.state.Descrambler.TheVariants.{Acquisition, Verification, Steady}
use Rattle.tracker.specs.declared.state.Lock.{Lock}
use Rattle.tracker.specs.declared.state.Headed.{Headed}
use Rattle.tracker.specs.Rules.{sampled, descrambler_after, delineation_after, right, verdict_at, in_mode, headed}

abbrev pub cause_of : Verdict → Option HeaderCause
cause_of Clean = None
cause_of (OneWrongBit i) = Some Mended
cause_of PastMending = Some Discarded

abbrev pub header_cause : Mode → Verdict → Option HeaderCause
header_cause m v = cause_of (in_mode m v)

abbrev pub header_event : Descrambler → Mode → ℕ → Option HeaderCause
header_event (Acquisition c) m w = None
header_event (Verification c p) m w = None
header_event (Steady c p) m w = header_cause m (verdict_at (next_phase p) w)

abbrev pub boundary_event : Delineation → Option Delineation → Option BoundaryCause
boundary_event (Presync n) None = Some boundary.LostFromPresync
boundary_event (Presync n) (Some (Presync k)) = None
boundary_event (Presync n) (Some (Sync k)) = Some boundary.Sync
boundary_event (Sync n) None = Some boundary.LostFromSync
boundary_event (Sync n) (Some b) = None

abbrev pub descrambler_event : Descrambler → Descrambler → Option DescramblerCause
descrambler_event (Acquisition c) (Acquisition d) = None
descrambler_event (Acquisition c) (Verification d q) = Some descrambler.Verification
descrambler_event (Acquisition c) (Steady d q) = Some descrambler.Steady
descrambler_event (Verification c p) (Acquisition d) = Some descrambler.LeftForAcquisition
descrambler_event (Verification c p) (Verification d q) = None
descrambler_event (Verification c p) (Steady d q) = Some descrambler.Steady
descrambler_event (Steady c p) (Acquisition d) = Some descrambler.LeftForAcquisition
descrambler_event (Steady c p) (Verification d q) = None
descrambler_event (Steady c p) (Steady d q) = None

-- HUNT always brings Acquisition with confidence 0
abbrev pub descrambler_event_to : Descrambler → Descrambler → Option Delineation → Option DescramblerCause
descrambler_event_to d e None = descrambler_event d (Acquisition 0)
descrambler_event_to d e (Some b) = descrambler_event d e

abbrev pub events_on : Mode → Lock → ℕ → HeaderEvents
events_on m l w =
    let b : Option Delineation = delineation_after l.delineation (right l.descrambler w) in
    record {
      header = header_event l.descrambler m w;
      boundary = boundary_event l.delineation b;
      descrambler = descrambler_event_to l.descrambler (descrambler_after l.descrambler (sampled l.samples w) w) b;
    }

abbrev pub decided : Mode → Lock → ℕ → Headed
decided m l w = record { control = headed m l w; events = events_on m l w }

abbrev pub hunt_ends : HeaderEvents
hunt_ends = record { header = None; boundary = Some boundary.Presync; descrambler = None }
