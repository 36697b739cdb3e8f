-- The rings are new, so they are empty, and the laws of feeds say that they suffice: whether what they hold is written or not, the octets were taken in.
use Rattle.incoming_line.proofs.Places.{all_in}
use Rattle.incoming_line.proofs.line.Line.pass_on.Goals as goal

pub returns-in-Ok : goal.returns-in-Ok
returns-in-Ok g c = record {
  cells = c.feed.new.sink;
  events = c.feed.new.events;
  taken_in = all_in c.feed_laws_hold.ensures _ _ _ _ _ _ _ _ c.new-cells.ensures.empty c.new-events.ensures.empty c.new-cells.ensures.places c.new-events.ensures.places
      (c.in_ok-feed.ensures.answer, c.in_ok-feed.ensures.tally);
  written = c.in-Ok.ensures.written;
  listed = c.in-Ok.ensures.listed;
}

pub returns-in-Err : goal.returns-in-Err
returns-in-Err g c = (
  c.feed.new.sink,
  c.feed.new.events,
  all_in c.feed_laws_hold.ensures _ _ _ _ _ _ _ _ c.new-cells.ensures.empty c.new-events.ensures.empty c.new-cells.ensures.places c.new-events.ensures.places
      (c.in_ok-feed.ensures.answer, c.in_ok-feed.ensures.tally),
)
