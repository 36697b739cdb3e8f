use Rattle.std.proofs.Common.{rules, ◌≡◌, ℕ, ◌/◌, ◌∙◌, ap, length}
use Rattle.std.specs.Simd.{first_chunks}
use Rattle.scrambler.proofs.payload.in_parts.Goals as goal

pub returns : goal.returns
returns c =
    let xs = c.args.payload.now in
    let long : length xs ≡ 48 = search rules in
    c.in-Some.ensures.cases.same ∙ c.as_chunks.ensures.front ∙ ap (λ (n : ℕ). first_chunks 3 (n / 3) xs) long
