-- The test over the whole table gives the rule at the entry.
use Rattle.std.proofs.Common.{◌<◌, length, rules}
use Rattle.cell.specs.Verdict.{entry}
use Rattle.cell.proofs.Verdicts.{table_rule, table_two, table_value}
use Rattle.cell.proofs.verdict.look_up.Goals as goal

pub returns : goal.returns
unfolding entry
returns c =
    let table = c.args.table.now in
    let s = c.args.syndrome in
    let within : s < length table = search rules in
    record {
      value = table_value table s _ (search rules) within c.requires;
      rule = table_rule table s _ (search rules) within c.requires;
      two = table_two table s _ (search rules) within c.requires;
    }
