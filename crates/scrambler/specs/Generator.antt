-- The generator of the scrambler: bits U that obey U(n) = U(n - 28) xor U(n - 31). Any 31 bits in a row fix all the others.
-- The phase at a moment t is U(t - 31) to U(t - 1) as a number of 31 bits, the oldest on top: U(t - k) is bit k - 1. Of a larger
-- number the low 31 bits count.
--
--   step p, back p   the phase one step on, and one step back
--   iterate n f x    f, n times over
--   ahead k p        U(t + k), where p is the phase at t
--   ago k p          U(t - k), for k from 1
--   octet_ahead k p  U(t + k) to U(t + k + 7) as an octet, the first on top
--   Steps k p r      the phase r lies k steps on from p; said of the place q that p was reached from, so that runs of steps add up
--   next_phase p     the phase of the next cell, 424 steps on
--   before p         the phase of the cell before, 424 steps back
--   Running p        cells are coded at p: it has 31 bits and is not 0, at which the generator would stand still
--   NotRunning p     they are not
--   PhaseAnswer p r  what the test of p answers
--   phase_text p     what is printed of the phase p, as octets of text: eight hexadecimal digits, in upper case
use Rattle.std.specs.Prelude.{◌≡◌, ℕ, zero, suc, ◌+◌, ◌-◌, ◌*◌, ◌/◌, ◌%◌, ◌^◌, ◌<◌, ◌≤◌, ◌⊎◌, false, true, List, [], Result, MatchResult, bit_xor}
use Rattle.std.specs.Fmt.{digits, format_spec, padded_integral}
use Rattle.cell.specs.declared.refusal.Refusal.{Refusal}
use Rattle.cell.specs.declared.refusal.Refusal.TheVariants.{BadPhase}

-- U(t) = U(t - 28) xor U(t - 31) comes in below, and U(t - 31) leaves on top
unfoldable pub step : ℕ → ℕ
step p = bit_xor (p * 2 % 2 ^ 31) (bit_xor (p / 2 ^ 27) (p / 2 ^ 30) % 2)

-- U(t - 32) = U(t - 1) xor U(t - 29) comes in on top, and U(t - 1) leaves below
unfoldable pub back : ℕ → ℕ
back p = bit_xor (p / 2 % 2 ^ 30) (bit_xor p (p / 2 ^ 28) % 2 * 2 ^ 30)

unfoldable pub iterate : ℕ → (ℕ → ℕ) → ℕ → ℕ
iterate zero f x = x
iterate (suc n) f x = iterate n f (f x)

abbrev pub Steps : ℕ → ℕ → ℕ → Type 0
Steps k p r = (n q : ℕ) → p ≡ iterate n step q → r ≡ iterate (n + k) step q

unfoldable pub ahead : ℕ → ℕ → ℕ
ahead k p = iterate (k + 1) step p % 2

unfoldable pub ago : ℕ → ℕ → ℕ
ago k p = iterate (k - 1) back p % 2

unfoldable pub octet_ahead : ℕ → ℕ → ℕ
octet_ahead k p = iterate (k + 8) step p % 2 ^ 8

abbrev pub next_phase : ℕ → ℕ
next_phase p = iterate 424 step p

abbrev pub before : ℕ → ℕ
before p = iterate 424 back p

abbrev pub Running : ℕ → Type 0
Running p = (0 < p) × (p < 2 ^ 31)

abbrev pub NotRunning : ℕ → Type 0
NotRunning p = (p ≡ 0) ⊎ (2 ^ 31 ≤ p)

abbrev pub PhaseAnswer : {X : Type 0} → ℕ → Result X Refusal → Type 0
PhaseAnswer p r = MatchResult r (λ _. Running p) (λ e. (e ≡ BadPhase) × NotRunning p)

abbrev pub phase_text : ℕ → List ℕ
phase_text p = padded_integral (format_spec 32 0 4 8 (2 ^ 64 - 1)) false [] (digits 16 true p)
