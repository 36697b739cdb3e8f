-- The rows undo the sampling, and the sampling undoes the rows.
use Rattle.std.proofs.Common.{◌≡◌, ℕ, zero, suc, ◌*◌, ◌%◌, ◌^◌, ◌<◌, List, [], ◌∷◌, fold, sym, refl, ap, ◌∙◌, subst, mod-lt, arith, pow_pos}
use lib.Bits.{bit_xor, bit_and}
use lib.Count.{ones}
use Rattle.cell.specs.Linear.{Linear}
use Rattle.cell.proofs.Linear.{lin_id, lin_zero_word, lin_xor, lin_comp, lin_shl, lin_mod, basis}
use Rattle.scrambler.specs.Generator.{step, back, iterate, ahead, ago, before}
use Rattle.scrambler.specs.Coding.{sample8, sample7}
use Rattle.scrambler.specs.Finder.{samples_of, sample_word, OnePhase, times_rows, phase_rows}
use Rattle.scrambler.proofs.Parity.{parity, lin_row, counted_parity}
use Rattle.scrambler.proofs.Steps.{lin_iterate, lin_back, lin_ahead, lin_ago}

-- ---- sampling is linear

lin_before : Linear before
lin_before = lin_iterate 424 back lin_back

lin_samples : (n : ℕ) → Linear (samples_of n)
unfolding samples_of
lin_samples zero = lin_zero_word
lin_samples (suc n) =
    lin_xor (λ p. bit_xor (samples_of n (before p) * 2 ^ 2) (sample8 p * 2 ^ 1)) sample7
    (lin_xor (λ p. samples_of n (before p) * 2 ^ 2) (λ p. sample8 p * 2 ^ 1)
    (lin_shl 2 (λ p. samples_of n (before p)) (lin_comp (samples_of n) before (lin_samples n) lin_before))
    (lin_shl 1 sample8 (lin_ago 211)))
    (lin_ahead 1)

lin_sample_word : Linear sample_word
unfolding sample_word
lin_sample_word = lin_mod 31 (samples_of 16) (lin_samples 16)

-- ---- so are rows, by a sum that computes

times_from : List ℕ → ℕ → ℕ → ℕ
times_from rs w a = fold (λ a r. bit_xor (a * 2 % 2 ^ 32) (ones (bit_and w r) % 2)) a rs

sums : List ℕ → ℕ → ℕ → ℕ
sums [] w a = a
sums (r ∷ rs) w a = sums rs w (bit_xor (a * 2 % 2 ^ 32) (parity 32 (bit_and w r)))

sums_is : (rs : List ℕ) (w a : ℕ) → w < 2 ^ 32 → times_from rs w a ≡ sums rs w a
unfolding sums times_from
sums_is [] w a h = refl
sums_is (r ∷ rs) w a h =
    ap (λ (b : ℕ). times_from rs w (bit_xor (a * 2 % 2 ^ 32) b)) (counted_parity w r h)
    ∙ sums_is rs w (bit_xor (a * 2 % 2 ^ 32) (parity 32 (bit_and w r))) h

lin_sums : (rs : List ℕ) (f : ℕ → ℕ) → Linear f → Linear (λ w. sums rs w (f w))
unfolding sums
lin_sums [] f h = h
lin_sums (r ∷ rs) f h =
    lin_sums rs (λ w. bit_xor (f w * 2 % 2 ^ 32) (parity 32 (bit_and w r)))
    (lin_xor (λ w. f w * 2 % 2 ^ 32) (λ w. parity 32 (bit_and w r)) (lin_mod 32 (λ w. f w * 2) (lin_shl 1 f h)) (lin_row r))

-- ---- the two undo each other, at the powers of two and so everywhere

by_rows : ℕ → ℕ
by_rows w = sums phase_rows w 0

lin_by_rows : Linear by_rows
unfolding by_rows
lin_by_rows = lin_sums phase_rows (λ w. 0) lin_zero_word

by_rows_lt : (w : ℕ) → w < 2 ^ 31 → by_rows w < 2 ^ 31
unfolding by_rows sums parity
by_rows_lt w h =
    subst (λ (x : ℕ). x < 2 ^ 31) (basis (λ x. by_rows x % 2 ^ 31) by_rows (lin_mod 31 by_rows lin_by_rows) lin_by_rows 31 tt w h)
    (mod-lt (by_rows w) (pow_pos 31))

rows_undo_samples : (p : ℕ) → p < 2 ^ 31 → by_rows (sample_word p) ≡ p
unfolding by_rows sums parity sample_word samples_of ago ahead iterate step back
rows_undo_samples p h =
    basis (λ x. by_rows (sample_word x)) (λ x. x) (lin_comp by_rows sample_word lin_by_rows lin_sample_word) lin_id 31 tt p h

samples_undo_rows : (w : ℕ) → w < 2 ^ 31 → sample_word (by_rows w) ≡ w
unfolding by_rows sums parity sample_word samples_of ago ahead iterate step back
samples_undo_rows w h =
    basis (λ x. sample_word (by_rows x)) (λ x. x) (lin_comp sample_word by_rows lin_sample_word lin_by_rows) lin_id 31 tt w h

pub one_phase_lem : (w : ℕ) → w < 2 ^ 31 → OnePhase w (times_rows phase_rows w)
unfolding times_rows times_from by_rows
one_phase_lem w h =
    let e : by_rows w ≡ times_rows phase_rows w = sym (sums_is phase_rows w 0 (omega arith)) in
    subst (OnePhase w) e (
      by_rows_lt w h,
      samples_undo_rows w h,
      λ q l s. sym (rows_undo_samples q l) ∙ ap by_rows s,
    )
