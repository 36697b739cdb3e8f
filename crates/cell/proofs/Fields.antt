-- The fields of a header, joined from the top, are the header.
use Rattle.std.proofs.Common.{◌≡◌, ℕ, ◌+◌, ◌*◌, ◌/◌, ◌%◌, ◌^◌, ◌<◌, sym, ap, ◌∙◌, arith, shr-shr}
use lib.Pow.{split}
use Rattle.cell.specs.Header.{fields_of, joined}
use Rattle.cell.specs.declared.header.Fields.{Fields}

-- what lies from bit k up is what lies from bit j + k up, and the j bits below it
pub level : (h j k : ℕ) → h / 2 ^ (k + j) * 2 ^ j + h / 2 ^ k % 2 ^ j ≡ h / 2 ^ k
level h j k = ap (λ (x : ℕ). x * 2 ^ j + h / 2 ^ k % 2 ^ j) (sym (shr-shr h k j)) ∙ split (h / 2 ^ k) j

joined_fields : (h : ℕ) → h < 2 ^ 32 → joined (fields_of h) ≡ h
joined_fields h b =
    let a : h / 2 ^ 28 * 2 ^ 8 + h / 2 ^ 20 % 2 ^ 8 ≡ h / 2 ^ 20 = level h 8 20 in
    let c : h / 2 ^ 20 * 2 ^ 16 + h / 2 ^ 4 % 2 ^ 16 ≡ h / 2 ^ 4 = level h 16 4 in
    let d : h / 2 ^ 4 * 2 ^ 3 + h / 2 ^ 1 % 2 ^ 3 ≡ h / 2 ^ 1 = level h 3 1 in
    omega arith

pub joined_of : (f : Fields) (h : ℕ) → f ≡ fields_of h → h < 2 ^ 32 → joined f ≡ h
joined_of f h e b = ap joined e ∙ joined_fields h b
