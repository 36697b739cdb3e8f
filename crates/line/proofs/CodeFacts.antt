-- The laws of the code, from the algebra of the check octet, the generator and the phase finder.
use Rattle.std.proofs.Common.{◌≡◌, ℕ, zero, suc, ◌+◌, ◌*◌, ◌/◌, ◌%◌, ◌^◌, ◌<◌, Bool, true, false, cond, ltb, List, [], ◌∷◌, length, Ok, Err, sym, refl, ap, ◌∙◌, subst, ap₂, mod-lt, arith, pow_pos, ltb-false, le-ltb}
use lib.Bits.{bit_xor, xor_assoc, xor_self, xor_zero_r, xor_lt}
use Rattle.std.specs.List.{AllByRecursion}
use Rattle.cell.specs.LineHeader.{bits40, of_bits, syndrome_of}
use Rattle.cell.specs.Verdict.{agreeing, verdict_of}
use Rattle.cell.specs.declared.line_header.LineHeader.{LineHeader}
use Rattle.cell.specs.declared.refusal.Refusal.TheVariants.{BadSampleWord}
use Rattle.cell.specs.declared.verdict.Verdict.TheVariants.{Clean}
use Rattle.scrambler.specs.Generator.{step, iterate, next_phase, before}
use Rattle.scrambler.specs.Coding.{header_mask, sample8, sample7, samples, coded_header, masked}
use Rattle.scrambler.specs.Finder.{samples_of, sample_word, OnePhase, times_rows, phase_rows, found}
use Rattle.scrambler.proofs.Codes.{header_mask_lt, syndrome_is_samples, carries_samples, header_of_octets}
use Rattle.scrambler.proofs.Masks.{sample7_lt}
use Rattle.scrambler.proofs.Payloads.{length-masked, masked_twice}
use Rattle.scrambler.proofs.Rows.{one_phase_lem}
use Rattle.scrambler.proofs.SampleSequence.{samples_sum}
use Rattle.scrambler.proofs.Steps.{step_lt, steps_lt}
use Rattle.sender.specs.Sender.{Octets}
use Rattle.sender.proofs.Octets.{masked-octets, hec_lt}
use Rattle.sender.proofs.Phases.{backs_steps}
use Rattle.tracker.specs.Window.{syndrome_in, agrees, samples_in, predicted, freed, header_in}
use Rattle.receiver.specs.Run.{octet_bits, bits_of}
use Rattle.line.proofs.Bits.{value, value_from, octets_of, value_from_lem, value_append, value_octet, octets_of_lem, length-bits_of}
use Rattle.line.proofs.CodeLaws.{CodeLaws, head_octets, head_word, moved, trail}
use Rattle.line.proofs.Errors.{one_wrong_lem, two_wrong_lem}

-- ---- a coded header as a number

octet_more : (o n : ℕ) → o < 2 ^ 8 → value_from n (octet_bits o) ≡ n * 2 ^ 8 + o
unfolding value octet_bits
octet_more o n h = value_from_lem (octet_bits o) n ∙ ap (λ (z : ℕ). n * 2 ^ 8 + z) (value_octet o h)

-- the number of octets, the first on top, below n
number_from : ℕ → List ℕ → ℕ
number_from n [] = n
number_from n (o ∷ os) = number_from (n * 2 ^ 8 + o) os

value_octets : (os : List ℕ) (n : ℕ) → AllByRecursion (λ x. x < 2 ^ 8) os → value_from n (bits_of os) ≡ number_from n os
unfolding number_from
value_octets [] n h = refl
value_octets (o ∷ os) n h =
    value_append (octet_bits o) (bits_of os) n ∙ ap (λ (z : ℕ). value_from z (bits_of os)) (octet_more o n h.0) ∙ value_octets os (n * 2 ^ 8 + o) h.1

scrambled_lt : (p h : ℕ) → h < 2 ^ 32 → (coded_header h p).header.0 < 2 ^ 32
scrambled_lt p h b = xor_lt 32 h (header_mask p) b (header_mask_lt p)

coded_hec_lt : (p h : ℕ) → h < 2 ^ 32 → (coded_header h p).hec < 2 ^ 8
coded_hec_lt p h b = hec_lt (bit_xor h (header_mask p)) p (scrambled_lt p h b)

-- the 40 bits of a coded header are its number
pub head_word_is : (p h : ℕ) → h < 2 ^ 32 → head_word p h ≡ bits40 (coded_header h p)
unfolding value head_octets number_from
head_word_is p h b =
    let x : ℕ = (coded_header h p).header.0 in
    let low : (n : ℕ) → n % 2 ^ 8 < 2 ^ 8 = λ n. mod-lt n (pow_pos 8) in
    value_octets (head_octets p h) 0 (low _, (low _, (low _, (low _, (coded_hec_lt p h b, tt)))))
    ∙ joined (x / 2 ^ 24 % 2 ^ 8) (x / 2 ^ 16 % 2 ^ 8) (x / 2 ^ 8 % 2 ^ 8) (x % 2 ^ 8) (coded_header h p).hec x (header_of_octets x [] (scrambled_lt p h b))
  where
    joined : (a b c d o x : ℕ) → a * 2 ^ 24 + b * 2 ^ 16 + c * 2 ^ 8 + d ≡ x
        → ((((0 * 2 ^ 8 + a) * 2 ^ 8 + b) * 2 ^ 8 + c) * 2 ^ 8 + d) * 2 ^ 8 + o ≡ x * 2 ^ 8 + o
    joined a b c d o x e = omega arith

of_bits_lem : (l : LineHeader) → l.header.0 < 2 ^ 32 → l.hec < 2 ^ 8 → of_bits (bits40 l) ≡ l
of_bits_lem l h o =
    let x : ℕ = l.header.0 in
    let c : ℕ = l.hec in
    let e : (x * 2 ^ 8 + c) / 2 ^ 8 % 2 ^ 32 ≡ x = omega arith in
    let f : (x * 2 ^ 8 + c) % 2 ^ 8 ≡ c = omega arith in
    ap₂ (λ (y : ℕ) (z : ℕ). record { header = record { 0 = y }; hec = z }) e f

-- and as a header on the line they are that header
pub head_word_of : (p h : ℕ) → h < 2 ^ 32 → of_bits (head_word p h) ≡ coded_header h p
head_word_of p h b = ap of_bits (head_word_is p h b) ∙ of_bits_lem (coded_header h p) (scrambled_lt p h b) (coded_hec_lt p h b)

-- ---- headers

syndrome-sent : (p h : ℕ) → h < 2 ^ 32 → syndrome_in (head_word p h) ≡ samples p
unfolding syndrome_in
syndrome-sent p h b = ap syndrome_of (head_word_of p h b) ∙ syndrome_is_samples h p

agree_law : (p h : ℕ) → p < 2 ^ 31 → h < 2 ^ 32 → agrees (head_word p h) ≡ true
unfolding agrees syndrome_in
agree_law p h k b = ap (λ (l : LineHeader). agreeing (syndrome_of l)) (head_word_of p h b) ∙ (carries_samples h p).agrees

sample_law : (p h : ℕ) → p < 2 ^ 31 → h < 2 ^ 32 → samples_in (head_word p h) ≡ predicted p
unfolding samples_in predicted
sample_law p h k b =
    let seven : sample7 p < 2 = sample7_lt p in
    ap (λ (s : ℕ). s / 2 ^ 6) (syndrome-sent p h b) ∙ (let e : samples p / 2 ^ 6 ≡ sample8 p * 2 + sample7 p = omega arith in e)

clean_law : (p h : ℕ) → p < 2 ^ 31 → h < 2 ^ 32 → freed p (head_word p h) ≡ 0
unfolding freed
clean_law p h k b = ap (λ (s : ℕ). bit_xor s (samples p)) (syndrome-sent p h b) ∙ xor_self (samples p)

undo_law : (p h : ℕ) → p < 2 ^ 31 → h < 2 ^ 32 → header_in p (head_word p h) ≡ record { 0 = h }
unfolding header_in
undo_law p h k b =
    ap (λ (l : LineHeader). record { 0 = bit_xor l.header.0 (header_mask p) }) (head_word_of p h b)
    ∙ ap (λ (x : ℕ). record { 0 = x }) (xor_assoc h (header_mask p) (header_mask p) ∙ ap (bit_xor h) (xor_self (header_mask p)) ∙ xor_zero_r h)

no_fault_lem : verdict_of 0 ≡ Clean
unfolding verdict_of
no_fault_lem = refl

-- ---- payloads

body_law : (p : ℕ) (xs : List ℕ) → Octets 48 xs → masked 8 p (octets_of (bits_of (masked 8 p xs))) ≡ xs
body_law p xs o = ap (masked 8 p) (octets_of_lem (masked 8 p xs) (masked-octets xs 8 p o.1)) ∙ masked_twice xs 8 p

payload_long_lem : (p : ℕ) (xs : List ℕ) → Octets 48 xs → length (bits_of (masked 8 p xs)) ≡ 384
payload_long_lem p xs o = length-bits_of (masked 8 p xs) ∙ ap (λ (z : ℕ). 8 * z) (length-masked xs 8 p ∙ o.0)

-- ---- the finder

next_lt : (p : ℕ) → next_phase p < 2 ^ 31
unfolding iterate
next_lt p = steps_lt 423 (step p) (step_lt p)

moved_lt : (i q : ℕ) → q < 2 ^ 31 → moved i q < 2 ^ 31
moved_lt zero q h = h
moved_lt (suc i) q h = next_lt (moved i q)

trail_is : (i q : ℕ) → q < 2 ^ 31 → trail i q % 2 ^ 32 ≡ samples_of (suc i) (moved i q) % 2 ^ 32
unfolding samples_of predicted
trail_is zero q h = ap (λ (z : ℕ). z % 2 ^ 32) (sym (samples_sum 0 q))
trail_is (suc i) q h =
    let before_is : before (moved (suc i) q) ≡ moved i q = backs_steps 424 (moved i q) (moved_lt i q h) in
    let e : samples_of (suc (suc i)) (moved (suc i) q) ≡ samples_of (suc i) (moved i q) * 2 ^ 2 + predicted (moved (suc i) q) =
    samples_sum (suc i) (moved (suc i) q) ∙ ap (λ (z : ℕ). samples_of (suc i) z * 2 ^ 2 + predicted (moved (suc i) q)) before_is in
    up (trail i q) (samples_of (suc i) (moved i q)) (predicted (moved (suc i) q)) (trail_is i q h) ∙ ap (λ (z : ℕ). z % 2 ^ 32) (sym e)
  where
    up : (a b c : ℕ) → a % 2 ^ 32 ≡ b % 2 ^ 32 → (a % 2 ^ 30 * 2 ^ 2 + c) % 2 ^ 32 ≡ (b * 2 ^ 2 + c) % 2 ^ 32
    up a b c h = omega arith

trail_word : (q : ℕ) → q < 2 ^ 31 → trail 15 q % 2 ^ 31 ≡ sample_word (moved 15 q)
unfolding sample_word
trail_word q h = sym (lower (trail 15 q)) ∙ ap (λ (z : ℕ). z % 2 ^ 31) (trail_is 15 q h) ∙ lower (samples_of 16 (moved 15 q))
  where
    lower : (x : ℕ) → x % 2 ^ 32 % 2 ^ 31 ≡ x % 2 ^ 31
    lower x = omega arith

found_is : (w : ℕ) → w < 2 ^ 31 → found w ≡ Ok (times_rows phase_rows w)
found_is w h = ap (λ (b : Bool). cond b (Err BadSampleWord) (Ok (times_rows phase_rows w))) (le-ltb 0x7fff_ffff w (omega arith))

finds_law : (q : ℕ) → q < 2 ^ 31 → found (trail 15 q % 2 ^ 31) ≡ Ok (moved 15 q)
finds_law q h =
    let w : ℕ = trail 15 q % 2 ^ 31 in
    let small : w < 2 ^ 31 = mod-lt (trail 15 q) (pow_pos 31) in
    found_is w small ∙ ap Ok (sym ((one_phase_lem w small).2 (moved 15 q) (next_lt (moved 14 q)) (sym (trail_word q h))))

one_phase_law : (w p : ℕ) → found w ≡ Ok p → OnePhase w p
one_phase_law w p e = by (ltb 0x7fff_ffff w) refl
  where
    by : (b : Bool) → ltb 0x7fff_ffff w ≡ b → OnePhase w p
    by true t = absurd (let z : ◌≡◌ {A = ℕ} 0 1 = cc in omega arith)
    by false t =
        let small : w < 2 ^ 31 = (let l = ltb-false 0x7fff_ffff w t in omega arith) in
        let is : times_rows phase_rows w ≡ p = (let f = found_is w small in cc) in
        subst (OnePhase w) is (one_phase_lem w small)

pub code_laws : CodeLaws
code_laws =
    record {
      agree = agree_law;
      sample = sample_law;
      clean = clean_law;
      undo = undo_law;
      body = body_law;
      payload_long = payload_long_lem;
      fits = next_lt;
      no_fault = no_fault_lem;
      finds = finds_law;
      one_phase = one_phase_law;
      one_wrong = one_wrong_lem;
      two_wrong = two_wrong_lem;
    }
