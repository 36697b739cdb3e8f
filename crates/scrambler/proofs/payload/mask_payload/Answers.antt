use Rattle.std.proofs.Common.{rules, ◌≡◌, ℕ, ◌+◌, ◌*◌, ◌^◌, ◌<◌, ◌≢◌, List, [], length, get_or, get_or-set_same, get_or-set_other, below_more, refl, ap, ◌∙◌, arith}
use Rattle.std.proofs.lemmas.List.{length-set}
use Rattle.scrambler.specs.Generator.{step, iterate}
use Rattle.scrambler.specs.Coding.{masked}
use Rattle.scrambler.proofs.Payloads.{steps_of, parts_masked}
use Rattle.scrambler.proofs.payload.mask_payload.Goals as goal

pub loop-part-init : goal.loop-part-init
loop-part-init c = (
  c.past_hec-after.ensures.small,
  steps_of 8 c.args.phase c.past_hec-after.result c.past_hec-after.ensures.on,
  (λ j h. absurd (omega arith)),
  ap length c.in_parts-parts.ensures,
  λ j h. refl,
)

pub loop-part-preserved : goal.loop-part-preserved
loop-part-preserved c =
    let i : ℕ = c.loop-part.part-index in
    let p : ℕ = c.args.phase in
    let inv = c.loop-part.invariant in
    let on = c.steps_on-after.ensures.on (8 + 24 * i) p inv.1 in
    let small : iterate (8 + 24 * i) step p < 2 ^ 31 = omega (arith, inv.0, inv.1) in
    let within : i < length c.loop-part.part-items = omega (arith, inv.3, c.loop-part-test.true) in (
      c.steps_on-after.ensures.small,
      on ∙ ap (λ (n : ℕ). iterate n step p) (omega arith),
      below_more _ _
          (λ j h. let ne : j ≢ i = omega arith in get_or-set_other _ i j _ [] ne ∙ inv.2 j h)
          (get_or-set_same _ i _ [] within ∙ c.mask_part.ensures (8 + 24 * i) p small on ∙ ap (masked (8 + 24 * i) p) (inv.4 i (omega arith))),
      length-set _ i _ ∙ inv.3,
      λ j h. let ne : j ≢ i = omega arith in get_or-set_other _ i j _ [] ne ∙ inv.4 j (omega arith),
    )

pub returns : goal.returns
returns c =
    let xs = c.args.payload.now in
    let inv = c.loop-part.invariant in
    let long : length xs ≡ 48 = search rules in
    c.copy_from_slice.ensures.after ∙ c.as_flattened.ensures.value
    ∙ parts_masked 16 xs c.loop-part.part-items 8 c.args.phase long inv.3
    (λ j h. inv.2 j (omega (arith, h, c.loop-part-test.false))
    ∙ ap (λ (parts : List (List ℕ)). masked (8 + 24 * j) c.args.phase (get_or parts j [])) c.in_parts-parts.ensures)
