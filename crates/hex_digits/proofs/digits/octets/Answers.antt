use Rattle.std.proofs.Common.{◌≡◌, Some, None, length, ◌/◌, ◌∙◌, ◌<◌, arith}
use Rattle.std.proofs.lemmas.Grind.{common_steps}
use Rattle.hex_digits.specs.Digits.{octet_at}
use Rattle.hex_digits.proofs.Pairs.{octet_of_pair, told_more}
use Rattle.hex_digits.proofs.digits.octets.Goals as goal

pub returns-in_default-octet : goal.returns-in_default-octet
returns-in_default-octet c =
    let text = c.args.text.now in
    let here : None ≡ octet_at text c.loop-high.high-index =
    c.in_default-octet.ensures ∙ rw c.as_chunks.ensures.front (octet_of_pair text (length text / 2) c.loop-high.high-index (omega arith)) in
    λ xs t.
    let within : c.loop-high.high-index < length xs = omega (arith, t.len) in
    let said = t.each c.loop-high.high-index within in
    (cc)

pub loop-high-preserved : goal.loop-high-preserved
loop-high-preserved c =
    let text = c.args.text.now in
    let here : Some c.in-Some.octet ≡ octet_at text c.loop-high.high-index =
    c.in-Some.ensures ∙ rw c.as_chunks.ensures.front (octet_of_pair text (length text / 2) c.loop-high.high-index (omega arith)) in
    rw c.in_ok-push.ensures.items (
      grind (arith, common_steps),
      told_more (octet_at text) c.loop-high.octets.items c.in-Some.octet c.loop-high.invariant.1 (rw c.loop-high.invariant.0 here),
    )
