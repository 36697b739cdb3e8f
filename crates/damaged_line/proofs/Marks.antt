-- The text of marked bits, one bit more.
use Rattle.std.proofs.Common.{◌≡◌, ℕ, zero, suc, ◌+◌, true, false, cond, [], ◌∷◌, ◌++◌, codes, append-nil, sym, ap, ◌∙◌, zero-add, arith}
use Rattle.std.specs.Fmt.{decimal}
use Rattle.std.specs.List.{flat_map, range_with_len}
use Rattle.std.proofs.lemmas.List.{flat_map_more}
use Rattle.damaged_line.specs.Damage.{turns, mark_text}
use Rattle.damaged_line.specs.declared.damage.Damage.{Damage}

counting_more : (a n j : ℕ) → a + n ≡ j → range_with_len a (suc n) ≡ range_with_len a n ++ j ∷ []
counting_more a zero j e = let same : a ≡ j = omega arith in ap (λ (k : ℕ). k ∷ []) same
counting_more a (suc n) j e = ap (λ l. a ∷ l) (counting_more (a + 1) n j (omega arith))

module _ (d : Damage) (n : ℕ) where
  one_more : flat_map (mark_text d) (range_with_len 0 n) ++ mark_text d n ≡ flat_map (mark_text d) (range_with_len 0 (n + 1))
  one_more =
      let on : suc n ≡ n + 1 = omega arith in
      flat_map_more (mark_text d) [] (range_with_len 0 n) n
      ∙ sym (ap (flat_map (mark_text d)) (counting_more 0 n n (zero-add n)))
      ∙ ap (λ (k : ℕ). flat_map (mark_text d) (range_with_len 0 k)) on

  pub marked_more : turns d n ≡ true → flat_map (mark_text d) (range_with_len 0 n) ++ (codes " " ++ decimal n) ≡ flat_map (mark_text d) (range_with_len 0 (n + 1))
  marked_more e = ap (λ b. flat_map (mark_text d) (range_with_len 0 n) ++ cond b (codes " " ++ decimal n) []) (sym e) ∙ one_more

  pub unmarked_more : turns d n ≡ false → flat_map (mark_text d) (range_with_len 0 n) ≡ flat_map (mark_text d) (range_with_len 0 (n + 1))
  unmarked_more e =
      sym (append-nil (flat_map (mark_text d) (range_with_len 0 n)))
      ∙ ap (λ b. flat_map (mark_text d) (range_with_len 0 n) ++ cond b (codes " " ++ decimal n) []) (sym e)
      ∙ one_more
