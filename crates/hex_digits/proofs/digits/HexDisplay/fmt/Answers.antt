use Rattle.std.proofs.Common.{◌≡◌, refl, arith, ◌+◌, ◌/◌, ◌%◌, [], ◌∷◌, ◌++◌, get_or, take, false, ap, ◌∙◌}
use Rattle.std.proofs.lemmas.Fmt.{hex_byte}
use Rattle.std.proofs.lemmas.Grind.{put_two}
use Rattle.std.proofs.lemmas.List.{take_more, flat_map_more}
use Rattle.hex_digits.specs.Digits.{spelled, letter_of}
use Rattle.hex_digits.proofs.digits.HexDisplay.fmt.Goals as goal

pub loop-octet-preserved : goal.loop-octet-preserved
loop-octet-preserved g c =
    λ p.
    let xs = c.args.self.now.0.now in
    let i = c.loop-octet.octet-index in
    let x = get_or xs i 0 in
    let before = c.loop-octet.invariant p in
    let written = (rw (c.laid_out.ensures, c.in_radix.ensures) at c.in_ok-write.ensures.writes) before.plain refl in
    let more : spelled (take i xs) ++ (letter_of (x / 16) ∷ letter_of (x % 16) ∷ []) ≡ spelled (take (i + 1) xs) =
    rw (take_more xs i 0 c.loop-octet-test.true) (flat_map_more (λ y. letter_of (y / 16) ∷ letter_of (y % 16) ∷ []) [] (take i xs) x) in
    put_two _ _ _ _ _ _ _ before written (ap (λ ys. spelled (take i xs) ++ ys) (hex_byte false x (omega arith)) ∙ more)
