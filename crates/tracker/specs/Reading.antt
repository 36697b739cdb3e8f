-- What is read of a tracker's state.
--
--   boundary_of b     the boundary that is assumed, as it is read
--   locked_state l m  the state while a boundary is assumed
--   state_at m a      the state at the place a: in HUNT the descrambler is in Acquisition with confidence 0
--   state_of s        the state of a tracker
use Rattle.tracker.specs.declared.reading.Boundary.{Boundary}
use Rattle.tracker.specs.declared.reading.Boundary.TheVariants as boundary
use Rattle.tracker.specs.declared.reading.State.{State}
use Rattle.tracker.specs.declared.state.Mode.{Mode}
use Rattle.tracker.specs.declared.state.Delineation.{Delineation}
use Rattle.tracker.specs.declared.state.Delineation.TheVariants.{Presync, Sync}
use Rattle.tracker.specs.declared.state.Descrambler.TheVariants.{Acquisition}
use Rattle.tracker.specs.declared.state.Lock.{Lock}
use Rattle.tracker.specs.declared.state.Place.{Place}
use Rattle.tracker.specs.declared.state.Place.TheVariants.{Hunt, Payload, Header}
use Rattle.tracker.specs.declared.tracker.Tracker.{Tracker}

abbrev pub boundary_of : Delineation → Boundary
boundary_of (Presync n) = boundary.Presync n
boundary_of (Sync n) = boundary.Sync n

abbrev pub locked_state : Lock → Mode → State
locked_state l m = record { boundary = boundary_of l.delineation; descrambler = l.descrambler; mode = m }

abbrev pub state_at : Mode → Place → State
state_at m Hunt = record { boundary = boundary.Hunt; descrambler = Acquisition 0; mode = m }
state_at m (Payload o b k l) = locked_state l m
state_at m (Header j l) = locked_state l m

abbrev pub state_of : Tracker → State
state_of s = state_at s.control.mode s.control.place
