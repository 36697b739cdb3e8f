-- The verdict on a syndrome: trying the 40 bits finds it, and a table that passes the test has it at each entry.
use Rattle.std.proofs.Common.{◌≡◌, ℕ, zero, suc, ◌-◌, ◌<◌, ◌≤◌, Bool, true, false, cond, not, T, eqb, ltb, ◌⊎◌, List, length, get_or, sym, refl, ap, ◌∙◌, subst, inl, inr, le_refl, arith, eqb→eq, ltb→lt}
use native.Mathlib.Decide.{dec_lt}
use Rattle.cell.specs.Tests.{below}
use Rattle.cell.specs.Verdict.{error_at, NoSuch, Rule, TwoErrors, wrong_below, verdict_of, entry}
use Rattle.cell.specs.VerdictTest.{power_x, ruled, every_ruled}
use Rattle.cell.specs.declared.verdict.Verdict.{Verdict}
use Rattle.cell.specs.declared.verdict.Verdict.TheVariants.{Clean, OneWrongBit, PastMending}
use Rattle.cell.proofs.Table.{both_left, both_right, below_at, every_at, same_eqb, not_eqb}
use Rattle.cell.proofs.SingleErrors.{errors_differ, error_not_0, two_none, power_is}

-- the rule one way: what the verdict says of the syndrome
abbrev pub Says : ℕ → Verdict → Type 0
Says s Clean = s ≡ 0
Says s (OneWrongBit i) = (i < 40) × (s ≡ error_at i)
Says s PastMending = NoSuch s

-- since no two syndromes of the rule coincide, it holds the other way too
pub rule_of : (s : ℕ) (v : Verdict) → Says s v → Rule s v
rule_of s Clean z =
    record {
      clean = (λ e. z, λ e. refl);
      bit = λ i. ((λ e. absurd (let n : ◌≡◌ {A = ℕ} 0 1 = cc in omega arith)), λ h e. absurd (error_not_0 i h (sym e ∙ z)));
      past = ((λ e. absurd (let n : ◌≡◌ {A = ℕ} 0 1 = cc in omega arith)), λ n. absurd (n.0 z));
    }
rule_of s (OneWrongBit k) (b, z) =
    record {
      clean = ((λ e. absurd (let n : ◌≡◌ {A = ℕ} 0 1 = cc in omega arith)), λ e. absurd (error_not_0 k b (sym z ∙ e)));
      bit = λ i. (
        (λ e. let k-i : k ≡ i = cc in subst (λ (m : ℕ). (m < 40) × (s ≡ error_at m)) k-i (b, z)),
        λ h e. ap OneWrongBit (errors_differ k i b h (sym z ∙ e)),
      );
      past = ((λ e. absurd (let n : ◌≡◌ {A = ℕ} 0 1 = cc in omega arith)), λ n. absurd (n.1 k b z));
    }
rule_of s PastMending n =
    record {
      clean = ((λ e. absurd (let m : ◌≡◌ {A = ℕ} 0 1 = cc in omega arith)), λ e. absurd (n.0 e));
      bit = λ i. ((λ e. absurd (let m : ◌≡◌ {A = ℕ} 0 1 = cc in omega arith)), λ h e. absurd (n.1 i h e));
      past = ((λ e. n), λ m. refl);
    }

only : (s : ℕ) (v w : Verdict) → Rule s v → Says s w → v ≡ w
only s v Clean r z = r.clean.1 z
only s v (OneWrongBit i) r (b, z) = (r.bit i).1 b z
only s v PastMending r n = r.past.1 n

-- ---- the verdict that is found by trying

differs : (a b : ℕ) → eqb a b ≡ false → a ≡ b → ⊥
differs a b e d = subst T e (same_eqb a b d)

same : (a b : ℕ) → eqb a b ≡ true → a ≡ b
same a b e = eqb→eq a b (subst T (sym e) tt)

le_cases : (n j : ℕ) → n ≤ j → (n < j) ⊎ (n ≡ j)
le_cases n j h = elim (dec_lt n j) [ yes l ↦ inl l | no l ↦ inr (omega arith) ]

wrong_below_says : (n s : ℕ) → n ≤ 40 → (s ≡ 0 → ⊥) → ((j : ℕ) → n ≤ j → j < 40 → s ≡ error_at j → ⊥) → Says s (wrong_below n s)
unfolding wrong_below
wrong_below_says zero s h z none = (z, λ j l. none j (omega arith) l)
wrong_below_says (suc n) s h z none =
    let by : (b : Bool) → eqb s (error_at n) ≡ b → Says s (cond b (OneWrongBit n) (wrong_below n s)) =
    λ b. elim b as (λ v. eqb s (error_at n) ≡ v → Says s (cond v (OneWrongBit n) (wrong_below n s))) [
      | true ↦ λ e. (h, same s (error_at n) e)
      | false ↦ λ e. wrong_below_says n s (omega arith) z
          (λ j l m d. elim (le_cases n j l) [ inl lt ↦ none j lt m d | inr eq ↦ differs s (error_at n) e (d ∙ ap error_at (sym eq)) ])
    ] in
    by (eqb s (error_at n)) refl

pub verdict_says : (s : ℕ) → Says s (verdict_of s)
unfolding verdict_of
verdict_says s =
    let by : (b : Bool) → eqb s 0 ≡ b → Says s (cond b Clean (wrong_below 40 s)) =
    λ b. elim b as (λ v. eqb s 0 ≡ v → Says s (cond v Clean (wrong_below 40 s))) [
      | true ↦ λ e. same s 0 e
      | false ↦ λ e. wrong_below_says 40 s (le_refl 40) (differs s 0 e) (λ j l m d. absurd (let z : ⊥ = omega arith in z))
    ] in
    by (eqb s 0) refl

pub verdict_rule : (s : ℕ) → Rule s (verdict_of s)
verdict_rule s = rule_of s (verdict_of s) (verdict_says s)

-- ---- the verdict that a table has

ruled_says : (s : ℕ) (v : Verdict) → T (ruled s v) → Says s v
ruled_says s Clean t = eqb→eq s 0 t
ruled_says s (OneWrongBit i) t =
    let b : i < 40 = ltb→lt i 40 (both_left (ltb i 40) (eqb s (power_x (39 - i))) t) in
    (b, eqb→eq s (power_x (39 - i)) (both_right (ltb i 40) (eqb s (power_x (39 - i))) t) ∙ power_is i b)
ruled_says s PastMending t = (
  not_eqb s 0 (both_left (not (eqb s 0)) (below 40 (λ i. not (eqb s (power_x (39 - i))))) t),
  λ i b e. not_eqb s (power_x (39 - i))
      (below_at 40 (λ i. not (eqb s (power_x (39 - i)))) (both_right (not (eqb s 0)) (below 40 (λ i. not (eqb s (power_x (39 - i))))) t) i b)
      (e ∙ sym (power_is i b)),
)

pub ruled_value : (s : ℕ) (v : Verdict) → T (ruled s v) → verdict_of s ≡ v
ruled_value s v t = only s (verdict_of s) v (verdict_rule s) (ruled_says s v t)

module _ (table : List Verdict) (s : ℕ) (v : Verdict) (is : v ≡ entry table s) (within : s < length table) (passed : every_ruled table ≡ true) where
  pub table_rule : Rule s v
  unfolding entry
  table_rule = subst (Rule s) (sym is) (rule_of s (get_or table s Clean) (ruled_says s (get_or table s Clean) (every_at ruled Clean table (subst T (sym passed) tt) s within)))

  pub table_two : TwoErrors s v
  table_two i j h k apart e =
      table_rule.past.1 (
        (λ z. (two_none i j h k apart).0 (sym e ∙ z)),
        λ m l z. (two_none i j h k apart).1 m l (sym e ∙ z),
      )

  pub table_value : v ≡ verdict_of s
  table_value = only s v (verdict_of s) table_rule (verdict_says s)
