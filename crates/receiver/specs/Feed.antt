-- Feeding octets of the line: the whole outcome.
--
--   Events          the events that a ring holds, the oldest first, and its places
--   events_of ring  those of a ring
--   made            a receiving end as it is made
--   was_reset r     the receiving end r after a reset: what it has written down stays
--   log r q         what is written down, with the events q
--   Works           the bits bs are worked, by moments: from the receiving end r, the sink k and the events q to r', k' and q',
--                   where the sink took n cells
--   Feeds           an accepted feed of the octets os
--   FeedWhy os e    why a feed of the octets os is refused with e
--   FeedAnswer      what a feed answers and leaves, also where it is refused
--   Untouched       a refused call leaves the very same sink and ring
--   Room            the accepted feed of the octets os, of which the sink k took n cells, overran no room for 78 cells and 1,024 events
--   FeedLaws        runs of bits join: on a receiving end while the same sink and ring are lent on, and on its tracker whatever is lent;
--                   and no feed overruns room for 78 cells and 1,024 events
use Rattle.std.specs.Prelude.{◌≡◌, ℕ, ◌+◌, ◌*◌, ◌<◌, ◌≤◌, Bool, true, false, List, [], ◌++◌, length, Result, MatchResult, OnErr}
use Rattle.cell.specs.Header.{reserved}
use Rattle.cell.specs.Refusal.{number_of}
use Rattle.cell.specs.declared.refusal.Refusal.{Refusal}
use Rattle.cell.specs.declared.refusal.Refusal.TheVariants.{NoOctets, TooManyOctets}
use Rattle.ports.specs.Sink.{SinkState}
use Rattle.ring.specs.declared.ring.Ring.{Ring}
use Rattle.ring.specs.Ring.{held, places}
use Rattle.tracker.specs.Tracker.{start}
use Rattle.tracker.specs.declared.tracker.Tracker.{Tracker}
use Rattle.receiver.specs.declared.event.EventRecord.{EventRecord}
use Rattle.receiver.specs.declared.receiver.Receiver.{Receiver}
use Rattle.receiver.specs.Book.{Log, blank, log_run}
use Rattle.receiver.specs.Handing.{Moment, bits, Along, taken_in}
use Rattle.receiver.specs.Run.{bits_of, after, offers}

pub record Events : Type 0 where
  pub held : List EventRecord
  pub places : ℕ

abbrev pub events_of : Ring EventRecord → Events
events_of ring = record { held = held ring; places = places ring }

abbrev pub made : Receiver
made = record { tracker = start; book = blank }

abbrev pub was_reset : Receiver → Receiver
was_reset r = record { tracker = start; book = r.book }

abbrev pub log : Receiver → Events → Log
log r q = record { book = r.book; events = q.held; places = q.places }

pub record Works (r : Receiver) (k : SinkState) (q : Events) (bs : List Bool) (n : ℕ) (r' : Receiver) (k' : SinkState) (q' : Events) : Type 0 where
  pub moments : List Moment
  -- each bit is worked, in order
  pub fed : bits moments ≡ bs
  -- each user cell that was kept is handed up to the sink, with its last bit
  pub along : Along r.tracker k moments k'
  pub tracker : r'.tracker ≡ after r.tracker bs
  pub written : log r' q' ≡ log_run r.tracker (log r q) moments
  pub answer : n ≡ taken_in moments

pub record Feeds (os : List ℕ) (r : Receiver) (k : SinkState) (q : Events) (n : ℕ) (r' : Receiver) (k' : SinkState) (q' : Events) : Type 0 where
  pub some : 0 < length os
  pub few : length os ≤ 4096
  pub works : Works r k q (bits_of os) n r' k' q'

abbrev pub FeedWhy : List ℕ → Refusal → Type 0
FeedWhy os NoOctets = (number_of NoOctets ≡ 1) × (length os ≡ 0)
FeedWhy os TooManyOctets = (number_of TooManyOctets ≡ 2) × (4096 < length os)
FeedWhy os _ = ⊥

abbrev pub FeedAnswer : List ℕ → Receiver → SinkState → Events → Result ℕ Refusal → Receiver → SinkState → Events → Type 0
FeedAnswer os r k q answer r' k' q' =
    MatchResult answer (λ n. Feeds os r k q n r' k' q') (λ e. FeedWhy os e × (r' ≡ r) × (k' ≡ k) × (q' ≡ q))

abbrev pub Untouched : {X K R : Type 0} → Result X Refusal → K → K → R → R → Type 0
Untouched answer sink sink' ring ring' = OnErr answer ((sink' ≡ sink) × (ring' ≡ ring))

-- ---- what holds of runs

-- the counters alone would say less, since they stop
pub record Room (os : List ℕ) (r : Receiver) (k : SinkState) (q : Events) (n : ℕ) (r' : Receiver) (q' : Events) : Type 0 where
  pub taken : n ≤ offers r.tracker (bits_of os)
  -- no event is lost to a ring that was empty and has 1,024 places: some are still free then
  pub free : q.held ≡ [] → q.places ≡ 1024 → length q'.held < 1024
  pub none_lost : q.held ≡ [] → q.places ≡ 1024 → r'.book.counters.lost ≡ r.book.counters.lost
  -- of a sink that has space for 78 cells of each connection no cell is counted as one that found it full, and it takes each cell if it serves all
  -- user headers
  pub none_full : ((c : ℕ) → 78 ≤ k.space c) → r'.book.counters.full ≡ r.book.counters.full
  pub all_taken : ((c : ℕ) → 78 ≤ k.space c) → ((h : ℕ) → reserved h ≡ false → k.serves h ≡ true) → n ≡ offers r.tracker (bits_of os)

pub record FeedLaws : Type 0 where
  -- the tracker after one run and then another is that after one run over both, whatever is lent to either: how the line's octets are cut
  -- into feeds makes no difference to hunting, phase and mending, nor to which cells are offered
  pub tracked : (s : Tracker) (bs cs : List Bool) → after s (bs ++ cs) ≡ after (after s bs) cs
  -- one run after another is one run over both, while the same sink and ring are lent on, with nothing taken out or put in between
  pub joined : (r r' r'' : Receiver) (k k' k'' : SinkState) (q q' q'' : Events) (bs cs : List Bool) (n m : ℕ)
      → Works r k q bs n r' k' q' → Works r' k' q' cs m r'' k'' q'' → Works r k q (bs ++ cs) (n + m) r'' k'' q''
  -- the bits of octets in a row are those of the first and then those of the others
  pub bits : (xs ys : List ℕ) → bits_of (xs ++ ys) ≡ bits_of xs ++ bits_of ys
  -- so few user cells end in octets that a feed hands up at most 78, whatever the sink answers: a cell has 424 bits, of which in the first cell all
  -- but the last may have come before
  pub few : (s : Tracker) (os : List ℕ) → 424 * offers s (bits_of os) ≤ 8 * length os + 423
  pub room : (os : List ℕ) (r r' : Receiver) (k k' : SinkState) (q q' : Events) (n : ℕ) → Feeds os r k q n r' k' q' → Room os r k q n r' q'
