-- Finding the phase from samples. A cell gives two, U(t - 211) and then U(t + 1), and cells are 424 steps apart, so that samples
-- lie 212 steps apart. The sample word has 31 consecutive ones, the first on top; the last is the HEC7 sample of the cell whose
-- phase is found. They come from 16 cells, and the very first sample, HEC8 of the first cell, is left out.
--
--   samples_of n p   the samples of n cells, the last of which has the phase p: two bits a cell, the first cell's on top
--   sample_word p    the sample word of a cell with the phase p
--   OnePhase w p     p is the one phase with the sample word w
--   PhaseOf w r      what the finder answers to the word w, also where it refuses
--   phase_rows       for each bit of the phase, the top bit first, the bits of the sample word whose sum it is
--   times_rows rs w  for each row the sum of the bits of w that it picks, the first row's on top
--   found w          the finder's answer, by the rows
use Rattle.std.specs.Prelude.{◌≡◌, ℕ, zero, suc, ◌*◌, ◌%◌, ◌^◌, ◌<◌, ◌≤◌, cond, List, [], ◌∷◌, fold, Ok, Err, Result, bit_and, bit_xor, count_ones, nat_lt}
use Rattle.cell.specs.Refusal.{number_of}
use Rattle.cell.specs.declared.refusal.Refusal.{Refusal}
use Rattle.cell.specs.declared.refusal.Refusal.TheVariants.{BadSampleWord, NoOnePhase}
use Rattle.scrambler.specs.Generator.{before}
use Rattle.scrambler.specs.Coding.{sample8, sample7}

unfoldable pub samples_of : ℕ → ℕ → ℕ
samples_of zero p = 0
samples_of (suc n) p = bit_xor (bit_xor (samples_of n (before p) * 2 ^ 2) (sample8 p * 2 ^ 1)) (sample7 p)

unfoldable pub sample_word : ℕ → ℕ
sample_word p = samples_of 16 p % 2 ^ 31

abbrev pub OnePhase : ℕ → ℕ → Type 0
OnePhase w p = (p < 2 ^ 31) × (sample_word p ≡ w) × ((q : ℕ) → q < 2 ^ 31 → sample_word q ≡ w → q ≡ p)

abbrev pub PhaseOf : ℕ → Result ℕ Refusal → Type 0
PhaseOf w (Ok p) = OnePhase w p
PhaseOf w (Err BadSampleWord) = (number_of BadSampleWord ≡ 9) × (2 ^ 31 ≤ w)
PhaseOf w (Err NoOnePhase) = (number_of NoOnePhase ≡ 10) × (w < 2 ^ 31) × ((p : ℕ) → OnePhase w p → ⊥)
PhaseOf w (Err _) = ⊥

-- ---- by rows. The receiving end's rules cite found. That found w meets PhaseOf w for every word w is a part of find_phase's contract, and PhaseOf
--      alone fixes the answer to each word: so the rows need not be believed

unfoldable pub times_rows : List ℕ → ℕ → ℕ
times_rows rs w = fold (λ a r. bit_xor (a * 2 % 2 ^ 32) (count_ones (bit_and w r) % 2)) 0 rs

abbrev pub phase_rows : List ℕ
phase_rows =
    0x7400ca4b ∷ 0x6d55cb9c ∷ 0x783ddb0f ∷ 0x23199ede ∷ 0x6d55cb9d ∷ 0x5b33ab17 ∷ 0x55c91de4 ∷ 0x63177a20
    ∷ 0x7aa48517 ∷ 0x6266a693 ∷ 0x0e4cba24 ∷ 0x15ef5902 ∷ 0x2359d37a ∷ 0x537742f6 ∷ 0x6fa16e69 ∷ 0x4b458e10
    ∷ 0x113d50db ∷ 0x5a73db7e ∷ 0x0d7ee42d ∷ 0x266681a5 ∷ 0x5fee218a ∷ 0x73cc0f2e ∷ 0x2393dd7f ∷ 0x17f28580
    ∷ 0x64cb5d4b ∷ 0x2d039a27 ∷ 0x4e903b0d ∷ 0x4f3dfcd4 ∷ 0x164bfd69 ∷ 0x75ae577e ∷ 0x336f8a51 ∷ []

abbrev pub found : ℕ → Result ℕ Refusal
found w = cond (nat_lt 0x7fff_ffff w) (Err BadSampleWord) (Ok (times_rows phase_rows w))
