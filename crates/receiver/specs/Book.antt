-- What the receiving end writes down of each bit: counters, the bits seen, the last F3 payload, and events in the ring lent to it.
--
--   Log                 the book of a receiving end, and the events held and the places of the ring
--   log_of book ring    that of a book and a ring
--   blank               the book as it is made: all zero
--   bump n              a counter, one on: it stops at 4,294,967,295
--   bits_on n           the bit count, one on: it stops at 2^63 - 1
--   bit_counted k       the book k, with one bit more seen
--   counting k c        the book k, with the counters c
--   took_one c          the counters c, with one cell more that a sink took; so mended_one, discarded_one, full_one, unserved_one, f3_one and
--                       lost_one, each by its name
--   f3_stored p k       the book k, with one F3 cell more, whose payload is p
--   marked o k          the book k, with one header more mended or discarded, as o says, if it says so
--   lost k              the book k, with one event more lost
--   booked k g          what is written down, g, with the book k in place of its own
--   posted g e          the event e goes into the ring behind all others; where no place is free it is lost and counted
--   posted_if g o       the same of the event of o, if there is one
--   header_noted e g    the counter and the events e of a header, in the order of the layers
--   replied r g         what the sink answered for a user cell: counted and, where it is a refusal, told
--   cell_noted k p r g  a kept cell of the kind k with the payload p: idle cells vanish, the payload of F3 cells is stored
--   brought o p r g     what a bit brought, o: nothing, a header, or a kept cell with the payload p, of which the sink replied r
--   noted s b r g       all that is written down of the bit b after the tracker s, where the sink replied r
--   log_run s g ms      all that is written down of the moments ms
use Rattle.std.specs.Prelude.{ℕ, ◌+◌, ◌-◌, ◌^◌, min, Bool, cond, List, [], ◌∷◌, ◌++◌, length, replicate, Some, None, Option, option_map, ⊤, Ok, Err, Result, nat_lt}
use Rattle.cell.specs.Header.{kind_of}
use Rattle.cell.specs.declared.header.Kind.{Kind}
use Rattle.cell.specs.declared.header.Kind.TheVariants.{Idle, F3, User}
use Rattle.ring.specs.declared.ring.Ring.{Ring}
use Rattle.ring.specs.Ring.{held, places}
use Rattle.tracker.specs.declared.events.HeaderCause.{HeaderCause}
use Rattle.tracker.specs.declared.events.HeaderCause.TheVariants.{Mended, Discarded}
use Rattle.tracker.specs.declared.events.HeaderEvents.{HeaderEvents}
use Rattle.receiver.specs.declared.book.Book.{Book}
use Rattle.receiver.specs.declared.book.Counters.{Counters}
use Rattle.receiver.specs.declared.event.Event.{Event}
use Rattle.receiver.specs.declared.event.Event.TheVariants.{Header, Boundary, Descrambler, Sink}
use Rattle.receiver.specs.declared.event.EventRecord.{EventRecord}
use Rattle.receiver.specs.declared.event.SinkCause.{SinkCause}
use Rattle.receiver.specs.declared.event.SinkCause.TheVariants as sink
use Rattle.tracker.specs.declared.tracker.Tracker.{Tracker}
use Rattle.tracker.specs.declared.tracker.Moment.{Moment as Brought}
use Rattle.tracker.specs.declared.tracker.Moment.TheVariants as moment
use Rattle.tracker.specs.Tracker.{bit_step, bit_brings}
use Rattle.receiver.specs.Event.{record_of}
use Rattle.receiver.specs.Handing.{Reply, Moment}
use Rattle.receiver.specs.Run.{step}

pub record Log : Type 0 where
  pub book : Book
  pub events : List EventRecord
  pub places : ℕ

abbrev pub log_of : Book → Ring EventRecord → Log
log_of book ring = record { book = book; events = held ring; places = places ring }

-- ---- the book

abbrev pub blank : Book
blank = record {
  counters = record { taken = 0; mended = 0; discarded = 0; full = 0; unserved = 0; f3 = 0; lost = 0 };
  bits = 0;
  f3 = replicate 48 0;
}

abbrev pub bump : ℕ → ℕ
bump n = min (n + 1) 4294967295

abbrev pub bits_on : ℕ → ℕ
bits_on n = min (n + 1) (2 ^ 63 - 1)

abbrev pub bit_counted : Book → Book
bit_counted k = record k { bits = bits_on k.bits }

-- the book with other counters
abbrev pub counting : Book → Counters → Book
counting k c = record k { counters = c }

abbrev pub took_one : Counters → Counters
took_one c = record c { taken = bump c.taken }

abbrev pub mended_one : Counters → Counters
mended_one c = record c { mended = bump c.mended }

abbrev pub discarded_one : Counters → Counters
discarded_one c = record c { discarded = bump c.discarded }

abbrev pub full_one : Counters → Counters
full_one c = record c { full = bump c.full }

abbrev pub unserved_one : Counters → Counters
unserved_one c = record c { unserved = bump c.unserved }

abbrev pub f3_one : Counters → Counters
f3_one c = record c { f3 = bump c.f3 }

abbrev pub lost_one : Counters → Counters
lost_one c = record c { lost = bump c.lost }

abbrev pub f3_stored : List ℕ → Book → Book
f3_stored p k = record k { counters = f3_one k.counters; f3 = p }

abbrev pub marked : Option HeaderCause → Book → Book
marked None k = k
marked (Some Mended) k = counting k (mended_one k.counters)
marked (Some Discarded) k = counting k (discarded_one k.counters)

abbrev pub lost : Book → Book
lost k = counting k (lost_one k.counters)

-- ---- the book and the ring

abbrev pub booked : Book → Log → Log
booked k g = record g { book = k }

unfoldable pub posted : Log → Event → Log
posted g e =
    cond (nat_lt (length g.events) g.places)
    (record g { events = g.events ++ record_of g.book.bits e ∷ [] })
    (booked (lost g.book) g)

abbrev pub posted_if : Log → Option Event → Log
posted_if g None = g
posted_if g (Some e) = posted g e

abbrev pub header_noted : HeaderEvents → Log → Log
header_noted e g =
    posted_if (posted_if (posted_if (booked (marked e.header g.book) g) (option_map Header e.header)) (option_map Boundary e.boundary))
    (option_map Descrambler e.descrambler)

abbrev pub replied : Result ⊤ SinkCause → Log → Log
replied (Ok x) g = booked (counting g.book (took_one g.book.counters)) g
replied (Err sink.Full) g = posted (booked (counting g.book (full_one g.book.counters)) g) (Sink sink.Full)
replied (Err sink.NotServed) g = posted (booked (counting g.book (unserved_one g.book.counters)) g) (Sink sink.NotServed)

-- ---- a bit, and a run of bits

abbrev pub cell_noted : Kind → List ℕ → Reply → Log → Log
cell_noted Idle p r g = g
cell_noted F3 p r g = booked (f3_stored p g.book) g
cell_noted User p None g = g
cell_noted User p (Some r) g = replied r g

abbrev pub brought : Option Brought → List ℕ → Reply → Log → Log
brought None p r g = g
brought (Some (moment.Header e)) p r g = header_noted e g
brought (Some (moment.Cell h)) p r g = cell_noted (kind_of h.0) p r g

abbrev pub noted : Tracker → Bool → Reply → Log → Log
noted s b r g = brought (bit_brings s b) (bit_step s b).payload r (booked (bit_counted g.book) g)

abbrev pub log_run : Tracker → Log → List Moment → Log
log_run s g [] = g
log_run s g (m ∷ ms) = log_run (step s m.bit) (noted s m.bit m.reply g) ms
