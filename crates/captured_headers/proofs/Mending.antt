-- What no wrong bit, one and two make of a finding.
use Rattle.std.proofs.Common.{◌≡◌, ℕ, ◌/◌, ◌%◌, ◌^◌, ◌<◌, sym, refl, ap, ◌∙◌, subst, arith}
use Rattle.cell.specs.LineHeader.{bits40, of_bits, syndrome_of, turned, OneTold, TwoPast}
use Rattle.cell.specs.CheckOctet.{syndrome}
use Rattle.cell.specs.Header.{kind_of}
use Rattle.cell.specs.Verdict.{verdict_of}
use Rattle.cell.specs.declared.line_header.LineHeader.{LineHeader}
use Rattle.cell.specs.declared.verdict.Verdict.{Verdict}
use Rattle.cell.specs.declared.verdict.Verdict.TheVariants as verdict
use Rattle.cell.proofs.Verdicts.{verdict_rule}
use Rattle.cell.proofs.WrongBits.{one_told, two_past, turned_twice}
use Rattle.captured_headers.specs.Finding.{finding_of, CleanSent, OneMended, TwoFound, Finds}
use Rattle.captured_headers.specs.declared.finding.Finding.{Finding}
use Rattle.captured_headers.specs.declared.finding.Finding.TheVariants.{Clean, OneWrongBit}

one_mended : (l : LineHeader) (v : Verdict) → OneTold (bits40 l) v → OneMended (bits40 l) (finding_of l v)
one_mended l v told w i right within e =
    let sent : turned (bits40 l) i ≡ w = ap (λ (x : ℕ). turned x i) e ∙ turned_twice w i in
    let header : w / 2 ^ 8 % 2 ^ 32 ≡ w / 2 ^ 8 = omega (arith, right.0) in
    ap (finding_of l) (told w i right within e)
    ∙ ap (λ (x : ℕ). OneWrongBit i (of_bits x) (kind_of (x / 2 ^ 8 % 2 ^ 32))) sent
    ∙ ap (λ (x : ℕ). OneWrongBit i (of_bits w) (kind_of x)) header

two_found : (l : LineHeader) (v : Verdict) → TwoPast (bits40 l) v → TwoFound (bits40 l) (finding_of l v)
two_found l v told w i j right p q apart e = ap (finding_of l) (told w i j right p q apart e)

clean_only : (l : LineHeader) (v : Verdict) → finding_of l v ≡ Clean → v ≡ verdict.Clean
clean_only l verdict.Clean e = refl
clean_only l (verdict.OneWrongBit i) e = let z : ◌≡◌ {A = ℕ} 0 1 = cc in absurd (omega arith)
clean_only l verdict.PastMending e = let z : ◌≡◌ {A = ℕ} 0 1 = cc in absurd (omega arith)

clean_sent : (l : LineHeader) → l.header.0 < 2 ^ 32 → l.hec < 2 ^ 8 → CleanSent (bits40 l) (finding_of l (verdict_of (syndrome_of l)))
clean_sent l p q =
    let s = syndrome_of l in
    let high : bits40 l / 2 ^ 8 ≡ l.header.0 = omega arith in
    let low : bits40 l % 2 ^ 8 ≡ l.hec = omega arith in
    let same : syndrome (bits40 l / 2 ^ 8) (bits40 l % 2 ^ 8) ≡ s = λ i. syndrome (high i) (low i) in
    let rule = (verdict_rule s).clean in
    (λ e. (omega arith, same ∙ rule.0 (clean_only l (verdict_of s) e)), λ right. ap (finding_of l) (rule.1 (sym same ∙ right.1)))

pub finds : (l : LineHeader) (r : Finding) → r ≡ finding_of l (verdict_of (syndrome_of l)) → l.header.0 < 2 ^ 32 → l.hec < 2 ^ 8 → Finds l r
finds l r is p q =
    record {
      value = is;
      clean = subst (CleanSent (bits40 l)) (sym is) (clean_sent l p q);
      one = subst (OneMended (bits40 l)) (sym is) (one_mended l (verdict_of (syndrome_of l)) (one_told l q));
      two = subst (TwoFound (bits40 l)) (sym is) (two_found l (verdict_of (syndrome_of l)) (two_past l q));
    }
