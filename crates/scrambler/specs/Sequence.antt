-- The generator as an endless sequence u of bits, and what the definitions on phases say of it. A phase that begins at place n
-- belongs to the moment t = n + 31.
--
--   Generated u     u is a sequence of bits that obeys the recurrence
--   bits_at u n k   k bits of u from place n on as a number, the first on top
--   phase_at u n    the 31 of them that are a phase
--   OnSequence p m  a sequence that obeys the recurrence has the phase p at place m
--   SequenceLaws    each phase lies on such a sequence, and its steps, bits, octets, mask and sample word are those of the sequence
use Rattle.std.specs.Prelude.{◌≡◌, ℕ, zero, suc, ◌+◌, ◌-◌, ◌*◌, ◌/◌, ◌%◌, ◌^◌, ◌<◌, bit_xor}
use Rattle.scrambler.specs.Generator.{step, back, ahead, ago, octet_ahead, next_phase, before}
use Rattle.scrambler.specs.Coding.{header_mask}
use Rattle.scrambler.specs.Finder.{sample_word}

pub record Generated (u : ℕ → ℕ) : Type 0 where
  pub bit : (n : ℕ) → u n < 2
  pub rule : (n : ℕ) → u (n + 31) ≡ bit_xor (u (n + 3)) (u n)

unfoldable pub bits_at : (ℕ → ℕ) → ℕ → ℕ → ℕ
bits_at u n zero = 0
bits_at u n (suc k) = bits_at u n k * 2 + u (n + k)

abbrev pub phase_at : (ℕ → ℕ) → ℕ → ℕ
phase_at u n = bits_at u n 31

pub record OnSequence (p m : ℕ) : Type 0 where
  pub u : ℕ → ℕ
  pub generated : Generated u
  pub here : phase_at u m ≡ p

pub record SequenceLaws : Type 0 where
  pub each : (p m : ℕ) → p < 2 ^ 31 → OnSequence p m
  pub stepped : (u : ℕ → ℕ) → Generated u → (n : ℕ) → step (phase_at u n) ≡ phase_at u (n + 1)
  pub backed : (u : ℕ → ℕ) → Generated u → (n : ℕ) → back (phase_at u (n + 1)) ≡ phase_at u n
  pub next : (u : ℕ → ℕ) → Generated u → (n : ℕ) → next_phase (phase_at u n) ≡ phase_at u (n + 424)
  pub previous : (u : ℕ → ℕ) → Generated u → (n : ℕ) → before (phase_at u (n + 424)) ≡ phase_at u n
  pub later : (u : ℕ → ℕ) → Generated u → (n k : ℕ) → ahead k (phase_at u n) ≡ u (n + 31 + k)
  pub earlier : (u : ℕ → ℕ) → Generated u → (n k : ℕ) → ago (k + 1) (phase_at u (n + k)) ≡ u (n + 30)
  pub octet : (u : ℕ → ℕ) → Generated u → (n k : ℕ) → octet_ahead k (phase_at u n) ≡ bits_at u (n + 31 + k) 8
  pub mask : (u : ℕ → ℕ) → Generated u → (n : ℕ) → header_mask (phase_at u (n + 1)) ≡ bits_at u n 32
  -- bit j of the sample word, the last sample being bit 0, is U(t + 1 - 212 j); 6784 is 16 cells
  pub sampled : (u : ℕ → ℕ) → Generated u → (n j : ℕ) → j < 31
      → sample_word (phase_at u (n + 6784)) / 2 ^ j % 2 ≡ u (n + 6784 + 31 + 1 - 212 * j)
