use Rattle.std.proofs.Common.{refl, arith}
use Rattle.ring.specs.Ring.{held, places}
use Rattle.ring.proofs.Windows.{some_held, popped_drop}
use Rattle.ring.proofs.ring.Ring.pop.Goals as goal

pub place_after-self-requires-clause-at : goal.place_after-self-requires-clause-at
place_after-self-requires-clause-at g c = omega (arith, some_held c.args.self.now _ c.in_ok-x.ensures)

pub place_after-self-requires-clause-steps : goal.place_after-self-requires-clause-steps
place_after-self-requires-clause-steps g c = omega (arith, some_held c.args.self.now _ c.in_ok-x.ensures)

pub overflow_sub-self : goal.overflow_sub-self
overflow_sub-self g c = omega (arith, some_held c.args.self.now _ c.in_ok-x.ensures)

pub returns : goal.returns
unfolding held places
returns g c = record { held = popped_drop c.args.self.now _ _ c.in_ok-x.ensures c.place_after-self.ensures.value; places = refl }
