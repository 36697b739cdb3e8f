use Rattle.std.proofs.Common.{◌≡◌, drop, sym, ◌∙◌, rules}
use Rattle.std.proofs.lemmas.Bool.Decides.{Decides-eqb}
use Rattle.std.proofs.lemmas.Option.{MatchOption-at_some}
use Rattle.std.proofs.lemmas.Slice.Eq.{slice_eq-Decides}
use Rattle.scrambler.specs.Coding.{masked}
use Rattle.coding_vectors.proofs.outcomes.comes_back.Goals as goal

pub returns-then-eq : goal.returns-then-eq
returns-then-eq c =
    let cut = MatchOption-at_some _ _ _ c.unwrap.ensures c.split_first_chunk.ensures.cases in
    let same = slice_eq-Decides Decides-eqb c.as_slice.result.now c.unwrap.result.1.now c.eq-then-eq.result c.eq-then-eq.ensures in
    let descrambled : c.as_slice.result.now ≡ masked 8 c.args.phase (drop 5 c.args.line.now) = c.as_slice.ensures ∙ c.descramble_payload.ensures in
    (λ t. record { header = search (rules, cut); payload = sym descrambled ∙ same.0 t ∙ cut.1 }, λ back. same.1 (descrambled ∙ back.payload ∙ sym cut.1))
