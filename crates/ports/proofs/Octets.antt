-- The header of a cell's octets, read again.
use Rattle.std.proofs.Common.{◌≡◌, ℕ, ◌+◌, ◌*◌, ◌/◌, ◌%◌, ◌^◌, ◌<◌, sym, ap, ◌∙◌, mod-eq_of_lt, arith}
use Rattle.std.proofs.lemmas.Nat.{shr-shr, shr_split, shr_below}
use Rattle.cell.specs.Sorting.{header_of}
use Rattle.ports.specs.Cell.{Cell, octets}

-- the header is read back from its octets
pub header_read : (c : Cell) → c.header < 2 ^ 32 → header_of (octets c) ≡ c.header
header_read c h =
    let n = c.header in
    let f0 : n / 256 * 256 + n % 256 ≡ n = shr_split n 8 in
    let f1 : n / 65536 * 256 + n / 256 % 256 ≡ n / 256 = ap (λ x. x * 256 + n / 256 % 256) (sym (shr-shr n 8 8)) ∙ shr_split (n / 256) 8 in
    let f2 : n / 16777216 * 256 + n / 65536 % 256 ≡ n / 65536 = ap (λ x. x * 256 + n / 65536 % 256) (sym (shr-shr n 16 8)) ∙ shr_split (n / 65536) 8 in
    let f3 : n / 16777216 % 256 ≡ n / 16777216 = mod-eq_of_lt (shr_below n 8 24 h) in
    linear n (n / 256) (n / 65536) (n / 16777216) _ _ _ _ f0 f1 f2 f3
  where
    linear : (n a b d w x y z : ℕ) → a * 256 + w ≡ n → b * 256 + x ≡ a → d * 256 + y ≡ b → z ≡ d → z * 16777216 + y * 65536 + x * 256 + w ≡ n
    linear n a b d w x y z f0 f1 f2 f3 = omega arith
