-- Few cells and few events come in a feed. Each place of the line has a credit, each bit adds 1 to it, and what a bit brings is paid for out of it: so
-- all that is brought costs no more than the bits and the first credit.
use Rattle.std.proofs.Common.{◌≡◌, ℕ, ◌+◌, ◌-◌, ◌*◌, ◌<◌, ◌≤◌, Bool, true, false, cond, nat_lt, ltb, List, [], ◌∷◌, ◌++◌, length, None, Some, Ok, Err, Option, Result, option_map, refl, sym, ap, ◌∙◌, subst, arith, lt-ltb}
use Rattle.std.specs.Bool.{⊤}
use Rattle.std.proofs.lemmas.Bool.{false≢true, ltb-true, ltb-false}
use Rattle.std.proofs.lemmas.List.{length-append}
use Rattle.cell.specs.declared.header.Header as headers
use Rattle.cell.specs.declared.header.Kind.{Kind}
use Rattle.cell.specs.declared.header.Kind.TheVariants.{Idle, F3, User}
use Rattle.cell.specs.Header.{connection_of, kind_of, reserved}
use Rattle.ports.specs.Cell.{Cell}
use Rattle.ports.specs.Sink.{SinkState}
use Rattle.tracker.specs.Events.{events_on, hunt_ends}
use Rattle.tracker.specs.Rules.{delineation_after, descrambler_after, entered, headed, header_taken, locked_on, mode_after, right, sampled}
use Rattle.tracker.specs.Tracker.{bit_brings, bit_step, brought as brings, cell_ends, control_after, hunt_ended}
use Rattle.tracker.specs.declared.events.HeaderCause.{HeaderCause}
use Rattle.tracker.specs.declared.events.HeaderCause.TheVariants.{Mended, Discarded}
use Rattle.tracker.specs.declared.events.HeaderEvents.{HeaderEvents}
use Rattle.tracker.specs.declared.state.Control.{Control}
use Rattle.tracker.specs.declared.state.Delineation.{Delineation}
use Rattle.tracker.specs.declared.state.Descrambler.{Descrambler}
use Rattle.tracker.specs.declared.state.Lock.{Lock}
use Rattle.tracker.specs.declared.state.Mode.{Mode}
use Rattle.tracker.specs.declared.state.Place.{Place}
use Rattle.tracker.specs.declared.state.Place.TheVariants.{Hunt, Payload, Header}
use Rattle.tracker.specs.declared.tracker.Moment.{Moment as Brought}
use Rattle.tracker.specs.declared.tracker.Moment.TheVariants as moment
use Rattle.tracker.specs.declared.tracker.Tracker.{Tracker}
use Rattle.receiver.specs.Book.{Log, booked, bit_counted, brought, cell_noted, header_noted, log_run, lost, marked, noted, posted, posted_if, replied}
use Rattle.receiver.specs.Event.{record_of}
use Rattle.receiver.specs.Feed.{Events, Feeds, Room, log}
use Rattle.receiver.specs.Handing.{Along, Handed, Moment, Reply, bits, taken, taken_in}
use Rattle.receiver.specs.Run.{bits_of, cell_in, how_many, kept_cell, octet_bits, offered, offers, step, user_by, user_cell}
use Rattle.receiver.specs.declared.event.Event.{Event}
use Rattle.receiver.specs.declared.event.Event.TheVariants as event
use Rattle.receiver.specs.declared.event.SinkCause.{SinkCause}
use Rattle.receiver.specs.declared.event.SinkCause.TheVariants as sink
use Rattle.receiver.specs.declared.receiver.Receiver.{Receiver}

-- ---- credits

-- what a header and a kept cell cost
abbrev cost : ℕ → ℕ → Option Brought → ℕ
cost e c None = 0
cost e c (Some (moment.Header told)) = e
cost e c (Some (moment.Cell h)) = c

abbrev costs : ℕ → ℕ → Tracker → List Bool → ℕ
costs e c s [] = 0
costs e c s (b ∷ bs) = cost e c (bit_brings s b) + costs e c (step s b) bs

-- in HUNT x; while a payload comes up to y, while a header comes up to z
abbrev credit : ℕ → ℕ → ℕ → Place → ℕ
credit x y z Hunt = x
credit x y z (Payload o b k l) = y - (8 * o + b)
credit x y z (Header j l) = z - j

-- 383 bits behind the first one of a payload, 39 behind the first one of a header
record Enough (e c x y z : ℕ) : Type 0 where
  hunt_ends : e + (y - 383) ≤ x + 1
  cell_ends : c + (z - 39) ≤ y + 1
  boundary_lost : e + x ≤ z + 1
  boundary_held : e + (y - 383) ≤ z + 1

module _ (e c x y z : ℕ) (h : Enough e c x y z) where
  paid_hunt : (t : Bool) (told : HeaderEvents) (l : Lock)
      → cost e c (cond t (Some (moment.Header told)) None) + credit x y z (cond t (Payload 47 7 None l) Hunt) ≤ x + 1
  paid_hunt true told l = omega arith
  paid_hunt false told l = omega arith

  paid_end : (k : Option headers.Header) → cost e c (cell_ends k) + (z - 39) ≤ y + 1
  paid_end None = omega arith
  paid_end (Some k) = omega arith

  paid_payload : (t u : Bool) (o b : ℕ) (k : Option headers.Header) (l : Lock) → nat_lt 0 b ≡ t → nat_lt 0 o ≡ u
      → cost e c (cond t None (cond u None (cell_ends k))) + credit x y z (cond t (Payload o (b - 1) k l) (cond u (Payload (o - 1) 7 k l) (Header 39 l)))
      ≤ y - (8 * o + b) + 1
  paid_payload true u o b k l some is = let p = ltb-true 0 b some in omega arith
  paid_payload false true o b k l none some = let p = ltb-false 0 b none in let q = ltb-true 0 o some in omega arith
  paid_payload false false o b k l none last = let p = ltb-false 0 b none in let q = ltb-false 0 o last in let r = paid_end k in omega arith

  paid_entered : (l : Lock) (k : Option headers.Header) (d : Descrambler) (u : ℕ) (m : Mode) (b : Option Delineation)
      → e + credit x y z (entered l k d u m b).place ≤ z + 1
  paid_entered l k d u m None = omega arith
  paid_entered l k d u m (Some b) = omega arith

  paid_headed : (m : Mode) (l : Lock) (w : ℕ) → e + credit x y z (headed m l w).place ≤ z + 1
  paid_headed m l w =
      let u : ℕ = sampled l.samples w in
      let d : Descrambler = descrambler_after l.descrambler u w in
      paid_entered l (header_taken l.descrambler m w) d u (mode_after l.descrambler d m w) (delineation_after l.delineation (right l.descrambler w))

  paid_header : (t : Bool) (j : ℕ) (l : Lock) (m : Mode) (told : HeaderEvents) (next : Control) → nat_lt 0 j ≡ t → e + credit x y z next.place ≤ z + 1
      → cost e c (cond t None (Some (moment.Header told))) + credit x y z (cond t (record { mode = m; place = Header (j - 1) l }) next).place ≤ z - j + 1
  paid_header true j l m told next some held = let p = ltb-true 0 j some in omega arith
  paid_header false j l m told next none held = let p = ltb-false 0 j none in omega arith

  paid : (m : Mode) (a : Place) (n w : ℕ) → cost e c (brings m a n w) + credit x y z (control_after m a n w).place ≤ credit x y z a + 1
  paid m Hunt n w = paid_hunt (hunt_ended n w) hunt_ends (locked_on w)
  paid m (Payload o b k l) n w = paid_payload (nat_lt 0 b) (nat_lt 0 o) o b k l refl refl
  paid m (Header j l) n w = paid_header (nat_lt 0 j) j l m (events_on m l w) (headed m l w) refl (paid_headed m l w)

  paid_run : (bs : List Bool) (s : Tracker) → costs e c s bs ≤ credit x y z s.control.place + length bs
  unfolding step
  paid_run [] s = omega arith
  paid_run (b ∷ bs) s =
      let here : cost e c (bit_brings s b) + credit x y z (bit_step s b).control.place ≤ credit x y z s.control.place + 1 = paid _ _ _ _ in
      let more : costs e c (bit_step s b) bs ≤ credit x y z (bit_step s b).control.place + length bs = paid_run bs (bit_step s b) in
      omega arith

bits_long : (os : List ℕ) → length (bits_of os) ≡ 8 * length os
unfolding octet_bits
bits_long [] = omega arith
bits_long (o ∷ os) = let p = bits_long os in simp length-append (omega arith)

-- ---- cells

offer_costs : (o : Option Brought) (p : List ℕ) → 424 * how_many (user_cell (cell_in o p)) ≤ cost 0 424 o
offer_costs None p = omega arith
offer_costs (Some (moment.Header told)) p = omega arith
offer_costs (Some (moment.Cell h)) p = by_kind (kind_of h.0)
  where
    by_kind : (k : Kind) → 424 * how_many (user_by k (record { header = h.0; payload = p })) ≤ 424
    by_kind Idle = omega arith
    by_kind F3 = omega arith
    by_kind User = omega arith

offers_cost : (bs : List Bool) (s : Tracker) → 424 * offers s bs ≤ costs 0 424 s bs
unfolding kept_cell
offers_cost [] s = omega arith
offers_cost (b ∷ bs) s =
    let here : 424 * how_many (offered s b) ≤ cost 0 424 (bit_brings s b) = offer_costs (bit_brings s b) (bit_step s b).payload in
    let more : 424 * offers (step s b) bs ≤ costs 0 424 (step s b) bs = offers_cost bs (step s b) in
    omega arith

for_cells : Enough 0 424 39 423 39
for_cells = record { hunt_ends = omega arith; cell_ends = omega arith; boundary_lost = omega arith; boundary_held = omega arith }

most_for_cells : (a : Place) → credit 39 423 39 a ≤ 423
most_for_cells Hunt = omega arith
most_for_cells (Payload o b k l) = omega arith
most_for_cells (Header j l) = omega arith

pub few_offers : (s : Tracker) (os : List ℕ) → 424 * offers s (bits_of os) ≤ 8 * length os + 423
few_offers s os =
    let p = offers_cost (bits_of os) s in
    let q = paid_run 0 424 39 423 39 for_cells (bits_of os) s in
    let r = most_for_cells s.control.place in
    let e = bits_long os in
    omega arith

taken_offered : (o : Option Cell) (r : Reply) (k k' : SinkState) → Handed o k r k' → taken r ≤ how_many o
taken_offered None r k k' h = let e : taken r ≡ 0 = ap taken h.0 in omega arith
taken_offered (Some c) None k k' h = absurd h
taken_offered (Some c) (Some (Ok x)) k k' h = omega arith
taken_offered (Some c) (Some (Err e)) k k' h = omega arith

taken_offers : (ms : List Moment) (s : Tracker) (k k' : SinkState) → Along s k ms k' → taken_in ms ≤ offers s (bits ms)
taken_offers [] s k k' a = omega arith
taken_offers (m ∷ ms) s k k' a =
    let here = taken_offered (offered s m.bit) m.reply m.sink m.sink' a.1 in
    let more = taken_offers ms (step s m.bit) m.sink' k' a.2 in
    omega arith

-- ---- events: each costs 60

-- from the log g to the log g' no event was lost, and those that came cost n at the most
record Kept (n : ℕ) (g g' : Log) : Type 0 where
  places : g'.places ≡ g.places
  lost : g'.book.counters.lost ≡ g.book.counters.lost
  few : 60 * length g'.events ≤ 60 * length g.events + n

posted_kept : (g : Log) (e : Event) → length g.events < g.places → Kept 60 g (posted g e)
unfolding posted
posted_kept g e free =
    let is : ltb (length g.events) g.places ≡ true = lt-ltb (length g.events) g.places free in
    rw is (record { places = refl; lost = refl; few = omega (arith, length-append g.events (record_of g.book.bits e ∷ [])) })

posted_if_kept : (g : Log) (o : Option Event) → length g.events < g.places → Kept 60 g (posted_if g o)
posted_if_kept g None free = record { places = refl; lost = refl; few = omega arith }
posted_if_kept g (Some e) free = posted_kept g e free

marked_kept : (g : Log) (o : Option HeaderCause) → Kept 0 g (booked (marked o g.book) g)
marked_kept g None = record { places = refl; lost = refl; few = omega arith }
marked_kept g (Some Mended) = record { places = refl; lost = refl; few = omega arith }
marked_kept g (Some Discarded) = record { places = refl; lost = refl; few = omega arith }

header_kept : (g : Log) (e : HeaderEvents) → length g.events + 2 < g.places → Kept 180 g (header_noted e g)
header_kept g e free =
    let g0 : Log = booked (marked e.header g.book) g in
    let k0 : Kept 0 g g0 = marked_kept g e.header in
    let g1 : Log = posted_if g0 (option_map event.Header e.header) in
    let k1 : Kept 60 g0 g1 = posted_if_kept g0 (option_map event.Header e.header) (omega arith) in
    let g2 : Log = posted_if g1 (option_map event.Boundary e.boundary) in
    let k2 : Kept 60 g1 g2 = posted_if_kept g1 (option_map event.Boundary e.boundary) (omega arith) in
    let k3 : Kept 60 g2 (header_noted e g) = posted_if_kept g2 (option_map event.Descrambler e.descrambler) (omega arith) in
    record { places = k3.places ∙ k2.places ∙ k1.places ∙ k0.places; lost = k3.lost ∙ k2.lost ∙ k1.lost ∙ k0.lost; few = omega arith }

replied_kept : (g : Log) (r : Result ⊤ SinkCause) → length g.events < g.places → Kept 60 g (replied r g)
replied_kept g (Ok x) free = record { places = refl; lost = refl; few = omega arith }
replied_kept g (Err sink.Full) free = let k = posted_kept _ (event.Sink sink.Full) free in record { places = k.places; lost = k.lost; few = k.few }
replied_kept g (Err sink.NotServed) free = let k = posted_kept _ (event.Sink sink.NotServed) free in record { places = k.places; lost = k.lost; few = k.few }

cell_kept : (k : Kind) (p : List ℕ) (r : Reply) (g : Log) → length g.events < g.places → Kept 60 g (cell_noted k p r g)
cell_kept Idle p r g free = record { places = refl; lost = refl; few = omega arith }
cell_kept F3 p r g free = record { places = refl; lost = refl; few = omega arith }
cell_kept User p None g free = record { places = refl; lost = refl; few = omega arith }
cell_kept User p (Some r) g free = replied_kept g r free

bit_kept : (o : Option Brought) (p : List ℕ) (r : Reply) (g : Log) → 60 * length g.events + cost 180 60 o ≤ 60 * g.places → Kept (cost 180 60 o) g (brought o p r g)
bit_kept None p r g room = record { places = refl; lost = refl; few = omega arith }
bit_kept (Some (moment.Header told)) p r g room = header_kept g told (omega arith)
bit_kept (Some (moment.Cell h)) p r g room = cell_kept (kind_of h.0) p r g (omega arith)

run_kept : (ms : List Moment) (s : Tracker) (g : Log) → 60 * length g.events + costs 180 60 s (bits ms) ≤ 60 * g.places → Kept (costs 180 60 s (bits ms)) g (log_run s g ms)
run_kept [] s g room = record { places = refl; lost = refl; few = omega arith }
run_kept (m ∷ ms) s g room =
    let g0 : Log = booked (bit_counted g.book) g in
    let g1 : Log = noted s m.bit m.reply g in
    let here : Kept (cost 180 60 (bit_brings s m.bit)) g0 g1 = bit_kept (bit_brings s m.bit) (bit_step s m.bit).payload m.reply g0 (omega arith) in
    let more : Kept (costs 180 60 (step s m.bit) (bits ms)) g1 (log_run (step s m.bit) g1 ms) = run_kept ms (step s m.bit) g1 (omega arith) in
    record { places = more.places ∙ here.places; lost = more.lost ∙ here.lost; few = omega arith }

for_events : Enough 180 60 240 440 420
for_events = record { hunt_ends = omega arith; cell_ends = omega arith; boundary_lost = omega arith; boundary_held = omega arith }

most_for_events : (a : Place) → credit 240 440 420 a ≤ 440
most_for_events Hunt = omega arith
most_for_events (Payload o b k l) = omega arith
most_for_events (Header j l) = omega arith

-- ---- no sink is full

-- a sink's space falls by what is handed up at the most
space_left : (o : Option Cell) (k k' : SinkState) (r : Reply) (n : ℕ) → Handed o k r k' → ((c : ℕ) → how_many o + n ≤ k.space c) → (c : ℕ) → n ≤ k'.space c
space_left None k k' r n h room c = let e : k'.space c ≡ k.space c = ap (λ (s : SinkState). s.space c) h.1 in omega (arith, room c)
space_left (Some x) k k' None n h room c = absurd h
space_left (Some x) k k' (Some (Ok y)) n h room c = omega (arith, room c, h.falls c)
space_left (Some x) k k' (Some (Err sink.Full)) n h room c = let e : k'.space c ≡ k.space c = ap (λ (s : SinkState). s.space c) h.1 in omega (arith, room c)
space_left (Some x) k k' (Some (Err sink.NotServed)) n h room c = let e : k'.space c ≡ k.space c = ap (λ (s : SinkState). s.space c) h.1 in omega (arith, room c)

posted_full : (g : Log) (e : Event) → (posted g e).book.counters.full ≡ g.book.counters.full
unfolding posted
posted_full g e = either (nat_lt (length g.events) g.places)
  where
    either : (t : Bool) → (cond t (record g { events = g.events ++ record_of g.book.bits e ∷ [] }) (booked (lost g.book) g)).book.counters.full ≡ g.book.counters.full
    either true = refl
    either false = refl

posted_if_full : (g : Log) (o : Option Event) → (posted_if g o).book.counters.full ≡ g.book.counters.full
posted_if_full g None = refl
posted_if_full g (Some e) = posted_full g e

marked_full : (g : Log) (o : Option HeaderCause) → (marked o g.book).counters.full ≡ g.book.counters.full
marked_full g None = refl
marked_full g (Some Mended) = refl
marked_full g (Some Discarded) = refl

header_full : (g : Log) (e : HeaderEvents) → (header_noted e g).book.counters.full ≡ g.book.counters.full
header_full g e = posted_if_full _ (option_map event.Descrambler e.descrambler) ∙ posted_if_full _ (option_map event.Boundary e.boundary)
    ∙ posted_if_full _ (option_map event.Header e.header) ∙ marked_full g e.header

cell_full : (d : Kind) (x : Cell) (p : List ℕ) (r : Reply) (k k' : SinkState) (g : Log) → Handed (user_by d x) k r k' → ((c : ℕ) → how_many (user_by d x) ≤ k.space c)
    → (cell_noted d p r g).book.counters.full ≡ g.book.counters.full
cell_full Idle x p r k k' g h room = refl
cell_full F3 x p r k k' g h room = refl
cell_full User x p None k k' g h room = absurd h
cell_full User x p (Some (Ok y)) k k' g h room = refl
cell_full User x p (Some (Err sink.Full)) k k' g h room = absurd (omega (arith, room (connection_of x.header), h.0.4))
cell_full User x p (Some (Err sink.NotServed)) k k' g h room = posted_full _ (event.Sink sink.NotServed)

bit_full : (o : Option Brought) (p : List ℕ) (r : Reply) (k k' : SinkState) (g : Log) → Handed (user_cell (cell_in o p)) k r k'
    → ((c : ℕ) → how_many (user_cell (cell_in o p)) ≤ k.space c) → (brought o p r g).book.counters.full ≡ g.book.counters.full
bit_full None p r k k' g h room = refl
bit_full (Some (moment.Header told)) p r k k' g h room = header_full g told
bit_full (Some (moment.Cell x)) p r k k' g h room = cell_full (kind_of x.0) (record { header = x.0; payload = p }) p r k k' g h room

run_full : (ms : List Moment) (s : Tracker) (k k' : SinkState) (g : Log) → Along s k ms k' → ((c : ℕ) → offers s (bits ms) ≤ k.space c)
    → (log_run s g ms).book.counters.full ≡ g.book.counters.full
unfolding kept_cell
run_full [] s k k' g a room = refl
run_full (m ∷ ms) s k k' g a room =
    let here : (c : ℕ) → how_many (offered s m.bit) + offers (step s m.bit) (bits ms) ≤ m.sink.space c
    = subst (λ (x : SinkState). (c : ℕ) → offers s (bits (m ∷ ms)) ≤ x.space c) (sym a.0) room in
    let some : (c : ℕ) → how_many (offered s m.bit) ≤ m.sink.space c = λ c. omega (arith, here c) in
    run_full ms (step s m.bit) m.sink' k' (noted s m.bit m.reply g) a.2
    (space_left (offered s m.bit) m.sink m.sink' m.reply (offers (step s m.bit) (bits ms)) a.1 here)
    ∙ bit_full (bit_brings s m.bit) (bit_step s m.bit).payload m.reply m.sink m.sink' (booked (bit_counted g.book) g) a.1 some

-- ---- a sink that serves all user headers takes each cell

abbrev ServesAll : SinkState → Type 0
ServesAll k = (h : ℕ) → reserved h ≡ false → k.serves h ≡ true

serves_on : (o : Option Cell) (r : Reply) (k k' : SinkState) → Handed o k r k' → ServesAll k → ServesAll k'
serves_on None r k k' h all = subst ServesAll (sym h.1) all
serves_on (Some x) None k k' h all = absurd h
serves_on (Some x) (Some (Ok y)) k k' h all = λ c user. h.serving c ∙ all c user
serves_on (Some x) (Some (Err sink.Full)) k k' h all = subst ServesAll (sym h.1) all
serves_on (Some x) (Some (Err sink.NotServed)) k k' h all = subst ServesAll (sym h.1) all

takes : (o : Option Cell) (r : Reply) (k k' : SinkState) → Handed o k r k' → ((c : ℕ) → how_many o ≤ k.space c) → ServesAll k → taken r ≡ how_many o
takes None r k k' h room all = ap taken h.0
takes (Some x) None k k' h room all = absurd h
takes (Some x) (Some (Ok y)) k k' h room all = refl
takes (Some x) (Some (Err sink.Full)) k k' h room all = absurd (omega (arith, room (connection_of x.header), h.0.4))
takes (Some x) (Some (Err sink.NotServed)) k k' h room all = absurd (false≢true (sym h.0.3 ∙ all x.header h.0.2))

run_takes : (ms : List Moment) (s : Tracker) (k k' : SinkState) → Along s k ms k' → ((c : ℕ) → offers s (bits ms) ≤ k.space c) → ServesAll k
    → taken_in ms ≡ offers s (bits ms)
run_takes [] s k k' a room all = refl
run_takes (m ∷ ms) s k k' a room all =
    let here : (c : ℕ) → how_many (offered s m.bit) + offers (step s m.bit) (bits ms) ≤ m.sink.space c
    = subst (λ (x : SinkState). (c : ℕ) → offers s (bits (m ∷ ms)) ≤ x.space c) (sym a.0) room in
    let some : (c : ℕ) → how_many (offered s m.bit) ≤ m.sink.space c = λ c. omega (arith, here c) in
    let served : ServesAll m.sink = subst ServesAll (sym a.0) all in
    let took : taken m.reply ≡ how_many (offered s m.bit) = takes (offered s m.bit) m.reply m.sink m.sink' a.1 some served in
    let more : taken_in ms ≡ offers (step s m.bit) (bits ms)
    = run_takes ms (step s m.bit) m.sink' k' a.2
    (space_left (offered s m.bit) m.sink m.sink' m.reply (offers (step s m.bit) (bits ms)) a.1 here)
    (serves_on (offered s m.bit) m.reply m.sink m.sink' a.1 served) in
    omega arith

-- ---- a feed

module _ (os : List ℕ) (r r' : Receiver) (k k' : SinkState) (q q' : Events) (n : ℕ) (f : Feeds os r k q n r' k' q') where
  same_offers : offers r.tracker (bits f.works.moments) ≡ offers r.tracker (bits_of os)
  same_offers = ap (offers r.tracker) f.works.fed

  offers_few : ((c : ℕ) → 78 ≤ k.space c) → (c : ℕ) → offers r.tracker (bits f.works.moments) ≤ k.space c
  offers_few room c =
      let few : 424 * offers r.tracker (bits_of os) ≤ 8 * length os + 423 = few_offers r.tracker os in
      omega (arith, room c, f.few, same_offers)

  events_cost : costs 180 60 r.tracker (bits f.works.moments) ≤ 33208
  events_cost =
      let paid : costs 180 60 r.tracker (bits_of os) ≤ credit 240 440 420 r.tracker.control.place + length (bits_of os)
      = paid_run 180 60 240 440 420 for_events (bits_of os) r.tracker in
      let same : costs 180 60 r.tracker (bits f.works.moments) ≡ costs 180 60 r.tracker (bits_of os) = ap (costs 180 60 r.tracker) f.works.fed in
      let first = most_for_events r.tracker.control.place in
      let long = bits_long os in
      omega (arith, f.few)

  feed_kept : q.held ≡ [] → q.places ≡ 1024 → Kept 33208 (log r q) (log r' q')
  feed_kept empty places =
      let none : length q.held ≡ 0 = ap length empty in
      let cost = events_cost in
      let kept : Kept (costs 180 60 r.tracker (bits f.works.moments)) (log r q) (log_run r.tracker (log r q) f.works.moments)
      = run_kept f.works.moments r.tracker (log r q) (omega arith) in
      subst (λ (g : Log). Kept 33208 (log r q) g) (sym f.works.written) (record { places = kept.places; lost = kept.lost; few = omega arith })

  free_left : q.held ≡ [] → q.places ≡ 1024 → length q'.held < 1024
  free_left empty places = let none : length q.held ≡ 0 = ap length empty in let kept = feed_kept empty places in omega arith

  pub feed_room : Room os r k q n r' q'
  feed_room = record {
    taken = (let few = taken_offers f.works.moments r.tracker k k' f.works.along in omega (arith, f.works.answer, same_offers));
    free = free_left;
    none_lost = λ empty places. (feed_kept empty places).lost;
    none_full = λ room. ap (λ (g : Log). g.book.counters.full) f.works.written
        ∙ run_full f.works.moments r.tracker k k' (log r q) f.works.along (offers_few room);
    all_taken = λ room all. f.works.answer ∙ run_takes f.works.moments r.tracker k k' f.works.along (offers_few room) all ∙ same_offers;
  }
