use Rattle.std.proofs.Common.{ap, ◌∙◌, rules}
use Rattle.captured_headers.specs.Finding.{finding_of}
use Rattle.captured_headers.proofs.Mending.{finds}
use Rattle.captured_headers.proofs.finding.FindingFromLineHeader.from.Goals as goal

pub returns : goal.returns
returns c =
    let l = c.args.received in
    finds l c.under.result (c.under.ensures ∙ ap (finding_of l) c.judge.ensures.value) (search rules) (search rules)
