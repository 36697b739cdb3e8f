use Rattle.std.proofs.Common.{refl, rules}
use Rattle.damaged_line.proofs.trial.Trial.feed.Goals as goal

pub returns : goal.returns
returns c = record {
  blank = c.new-cells.result;
  up = c.feed.new.sink;
  empty = c.new-cells.ensures.empty;
  places = c.new-cells.ensures.places;
  taken = c.in-Ok.field-0;
  feeds = c.in-Ok.ensures.answer;
  counted = search rules;
  sender = c.in-Ok.ensures.sender;
  number = refl;
}
