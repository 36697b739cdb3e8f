use Rattle.std.proofs.lemmas.Slice.Eq.{strip_prefix_is}
use Rattle.coding_vectors.proofs.cases.after.Goals as goal
use Rattle.std.proofs.lemmas.Bool.Decides.{Decides-eqb}

pub returns : goal.returns
returns c = strip_prefix_is Decides-eqb _ _ _ c.strip_prefix.ensures.cases
