use Rattle.std.proofs.Common.{◌<◌, length, arith, length-set}
use Rattle.ring.specs.Ring.{held, places}
use Rattle.ring.proofs.Windows.{length-held, some_free, window_push_around}
use Rattle.ring.proofs.ring.Ring.push.Goals as goal

pub place_after-at-requires-clause-at : goal.place_after-at-requires-clause-at
place_after-at-requires-clause-at g c = omega (arith, some_free c.args.self.now _ c.if-is_full.false c.is_full.ensures)

pub invariant_of-self : goal.invariant_of-self
invariant_of-self g c =
    let free = some_free c.args.self.now _ c.if-is_full.false c.is_full.ensures in
    record { small = simp length-set (omega arith); inside = simp length-set (omega arith); fits = simp length-set (omega arith) }

pub returns : goal.returns
unfolding held places
returns g c =
    let free : c.args.self.now.count < length c.args.self.now.slots.now = some_free c.args.self.now _ c.if-is_full.false c.is_full.ensures in
    record {
      free = omega (arith, length-held c.args.self.now);
      held = window_push_around _ _ _ _ _ (omega arith) free c.place_after-at.ensures.value;
      places = length-set _ _ _;
    }
