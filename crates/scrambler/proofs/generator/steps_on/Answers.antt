use Rattle.std.proofs.Common.{rules}
use Rattle.scrambler.proofs.Steps.{some_at_once}
use Rattle.scrambler.proofs.generator.steps_on.Goals as goal

pub returns : goal.returns
returns c =
    let both = some_at_once c.args.count c.args.phase c.requires.some c.requires.few (search rules) in
    record { on = both.0; small = both.1 }
