-- The samples and the bit before a phase, by the rows of the code, and that they are bits.
use Rattle.std.proofs.Common.{◌≡◌, ℕ, ◌-◌, ◌/◌, ◌%◌, ◌^◌, ◌<◌, mod-lt, pow_pos}
use lib.Bits.{bit_xor, bit_and}
use lib.Count.{ones}
use Rattle.cell.proofs.Linear.{lin_id, lin_xor, lin_shr, lin_mod, basis}
use Rattle.scrambler.specs.Generator.{step, back, iterate, ahead, ago}
use Rattle.scrambler.specs.Coding.{sample8, sample7}
use Rattle.scrambler.proofs.Parity.{parity, row_sums}
use Rattle.scrambler.proofs.Steps.{lin_ahead, lin_ago}

pub ago_32_is : (p : ℕ) → p < 2 ^ 32 → ones (bit_and p 0x1000_0001) % 2 ≡ ago 32 p
unfolding parity ago iterate back
ago_32_is = row_sums 0x1000_0001 (ago 32) (lin_ago 32) tt

-- the same by its two bits
pub ago_32_sum : (p : ℕ) → p < 2 ^ 32 → bit_xor p (p / 2 ^ 28) % 2 ≡ ago 32 p
unfolding ago iterate back
ago_32_sum p h =
    basis (λ p. bit_xor p (p / 2 ^ 28) % 2) (ago 32)
    (lin_mod 1 (λ p. bit_xor p (p / 2 ^ 28)) (lin_xor (λ p. p) (λ p. p / 2 ^ 28) lin_id (lin_shr 28 (λ p. p) lin_id))) (lin_ago 32) 32 tt p h

pub sample8_is : (p : ℕ) → p < 2 ^ 32 → ones (bit_and p 0x53b3_0fe3) % 2 ≡ sample8 p
unfolding parity ago iterate back
sample8_is = row_sums 0x53b3_0fe3 (ago 211) (lin_ago 211) tt

pub sample7_is : (p : ℕ) → p < 2 ^ 32 → ones (bit_and p 0x2400_0000) % 2 ≡ sample7 p
unfolding parity ahead iterate step
sample7_is = row_sums 0x2400_0000 (ahead 1) (lin_ahead 1) tt

pub ago_lt : (k p : ℕ) → ago k p < 2
unfolding ago
ago_lt k p = mod-lt (iterate (k - 1) back p) (pow_pos 1)

pub sample7_lt : (p : ℕ) → sample7 p < 2
unfolding ahead
sample7_lt p = mod-lt (iterate 2 step p) (pow_pos 1)
