use Rattle.std.proofs.Common.{◌≡◌, ℕ, List, sym, ap, ◌∙◌, subst, rules}
use Rattle.scrambler.specs.Finder.{times_rows, phase_rows, OnePhase}
use Rattle.scrambler.proofs.Rows.{one_phase_lem}
use Rattle.scrambler.proofs.finder.phase_by.Goals as goal

pub returns : goal.returns
unfolding times_rows
returns c =
    let w : ℕ = c.args.word in
    let folded : c.fold.result ≡ times_rows c.args.rows.now w = search rules in
    let value : c.fold.result ≡ times_rows phase_rows w = folded ∙ ap (λ (rs : List ℕ). times_rows rs w) c.requires.undo in
    record { value = value; one = subst (OnePhase w) (sym value) (one_phase_lem w c.requires.small) }
