-- The receiving end on the line's bits alone: what one bit does to it, and what it brings.
--
--   hunt_ended n w         once 40 bits have come (n), a header w that agrees ends the hunt
--   hunted n w             hunting: a payload follows, or the hunt goes on
--   control_after m a n w  the state after a bit that fell at the place a, where w are the last 40 bits with it
--   unmasked p xs          the payload xs descrambled at the phase p, or as it is where there is none
--   descrambled h l xs     the payload xs of a cell that is kept, with the header h, or not: only that of a kept one is descrambled
--   filled a w xs          the payload xs with that bit: each whole octet goes to its place, and the last bit of a kept cell descrambles it
--   cell_ends h            what the last bit of a cell brings: the cell, if it is kept with the header h, or nothing
--   brought m a n w        what the bit brings: a header and its events, the last bit of a kept cell, or nothing
--   moved a s              the end s after its newest bit, which fell at the place a
--   brings_at a s          what that bit brings
--   with_bit s b           the end s with the bit b among the last 40, and not moved on
--   bit_step s b           the end s after the bit b
--   bit_brings s b         what the bit b brings
--   start                  an end that was made or reset: HUNT, correction mode, no bits
use Rattle.std.specs.Prelude.{ℕ, ◌-◌, ◌%◌, ◌^◌, Bool, cond, List, replicate, Some, None, Option, ◌==◌, nat_lt, slice_set}
use Rattle.cell.specs.declared.header.Header as headers
use Rattle.scrambler.specs.Coding.{masked}
use Rattle.tracker.specs.declared.state.Mode.{Mode}
use Rattle.tracker.specs.declared.state.Mode.TheVariants.{Correction}
use Rattle.tracker.specs.declared.state.Lock.{Lock}
use Rattle.tracker.specs.declared.state.Place.{Place}
use Rattle.tracker.specs.declared.state.Place.TheVariants.{Hunt, Payload, Header}
use Rattle.tracker.specs.declared.state.Control.{Control}
use Rattle.tracker.specs.declared.tracker.Tracker.{Tracker}
use Rattle.tracker.specs.declared.tracker.Moment.{Moment}
use Rattle.tracker.specs.declared.tracker.Moment.TheVariants as moment
use Rattle.tracker.specs.Window.{agrees, pushed}
use Rattle.tracker.specs.Rules.{both, headed, locked_on, phase_of}
use Rattle.tracker.specs.Events.{events_on, hunt_ends}

abbrev pub hunt_ended : ℕ → ℕ → Bool
hunt_ended n w = both (n == 40) (agrees w)

abbrev pub hunted : ℕ → ℕ → Place
hunted n w = cond (hunt_ended n w) (Payload 47 7 None (locked_on w)) Hunt

-- a payload has 48 octets of 8 bits, a header 40 bits
abbrev pub control_after : Mode → Place → ℕ → ℕ → Control
control_after m Hunt n w = record { mode = m; place = hunted n w }
control_after m (Payload o b k l) n w =
    record { mode = m; place = cond (nat_lt 0 b) (Payload o (b - 1) k l) (cond (nat_lt 0 o) (Payload (o - 1) 7 k l) (Header 39 l)) }
control_after m (Header j l) n w = cond (nat_lt 0 j) (record { mode = m; place = Header (j - 1) l }) (headed m l w)

-- a kept cell has a phase
abbrev pub unmasked : Option ℕ → List ℕ → List ℕ
unmasked None xs = xs
unmasked (Some p) xs = masked 8 p xs

abbrev pub descrambled : Option headers.Header → Lock → List ℕ → List ℕ
descrambled None l xs = xs
descrambled (Some h) l xs = unmasked (phase_of l.descrambler) xs

abbrev pub filled : Place → ℕ → List ℕ → List ℕ
filled Hunt w xs = xs
filled (Payload o b k l) w xs =
    cond (nat_lt 0 b) xs (cond (nat_lt 0 o) (slice_set xs (47 - o) (w % 2 ^ 8)) (descrambled k l (slice_set xs (47 - o) (w % 2 ^ 8))))
filled (Header j l) w xs = xs

abbrev pub cell_ends : Option headers.Header → Option Moment
cell_ends None = None
cell_ends (Some h) = Some (moment.Cell h)

abbrev pub brought : Mode → Place → ℕ → ℕ → Option Moment
brought m Hunt n w = cond (hunt_ended n w) (Some (moment.Header hunt_ends)) None
brought m (Payload o b k l) n w = cond (nat_lt 0 b) None (cond (nat_lt 0 o) None (cell_ends k))
brought m (Header j l) n w = cond (nat_lt 0 j) None (Some (moment.Header (events_on m l w)))

abbrev pub moved : Place → Tracker → Tracker
moved a s = record {
  window = s.window;
  control = control_after s.control.mode a s.window.come s.window.bits;
  payload = filled a s.window.bits s.payload;
}

abbrev pub brings_at : Place → Tracker → Option Moment
brings_at a s = brought s.control.mode a s.window.come s.window.bits

-- the bit b joins the others before its place is looked at
abbrev pub with_bit : Tracker → Bool → Tracker
with_bit s b = record { window = pushed s.window b; control = s.control; payload = s.payload }

abbrev pub bit_step : Tracker → Bool → Tracker
bit_step s b = moved s.control.place (with_bit s b)

abbrev pub bit_brings : Tracker → Bool → Option Moment
bit_brings s b = brings_at s.control.place (with_bit s b)

abbrev pub start : Tracker
start = record {
  window = record { bits = 0; come = 0 };
  control = record { mode = Correction; place = Hunt };
  payload = replicate 48 0;
}
