-- The words of a text, one by one.
use Rattle.std.proofs.Common.{◌≡◌, ℕ, suc, ◌+◌, ◌<◌, Bool, true, false, List, [], ◌∷◌, length, take, Some, None, Option, refl, sym, ap, ◌∙◌, arith, rules}
use Rattle.std.specs.List.{slice_split, onto_first, list_any, position_or_len}
use Rattle.std.proofs.lemmas.List.Splits.{slice_split_first}
use Rattle.text.specs.Words.{is_blank, first_word, other_words, one_word}
use Rattle.damaged_line.specs.Damage.{marked_by, marked_all}
use Rattle.damaged_line.specs.declared.damage.Damage.{Damage}

-- a text with a blank has a first one
blank_stands : (text : List ℕ) → list_any is_blank text ≡ true → position_or_len is_blank text < length text
blank_stands [] e = absurd (cc)
blank_stands (c ∷ text) e = go (is_blank c) refl e (blank_stands text)
  where
    go : (b : Bool) → is_blank c ≡ b → list_any is_blank (c ∷ text) ≡ true → (list_any is_blank text ≡ true → position_or_len is_blank text < length text)
        → position_or_len is_blank (c ∷ text) < length (c ∷ text)
    go true h e later = rw h (omega arith)
    go false h e later = let there = later (rw h at e) in rw h (omega (arith, there))

take_more : (n c : ℕ) (text : List ℕ) → take (1 + n) (c ∷ text) ≡ c ∷ take n text
take_more n c text = let more : 1 + n ≡ suc n = omega arith in rw more refl

-- a text without one is its only word
only_word : (text : List ℕ) → list_any is_blank text ≡ false → (slice_split is_blank text ≡ text ∷ []) × (first_word text ≡ text)
only_word [] e = (refl, refl)
only_word (c ∷ text) e = go (is_blank c) refl e (only_word text)
  where
    go : (b : Bool) → is_blank c ≡ b → list_any is_blank (c ∷ text) ≡ false → (list_any is_blank text ≡ false → (slice_split is_blank text ≡ text ∷ []) × (first_word text ≡ text))
        → (slice_split is_blank (c ∷ text) ≡ (c ∷ text) ∷ []) × (first_word (c ∷ text) ≡ c ∷ text)
    go true h e rest = absurd (let no = rw h at e in cc)
    go false h e rest =
        let others = rest (rw h at e) in
        (rw h (ap (onto_first c) others.0), rw h (take_more _ c text ∙ ap (λ w. c ∷ w) others.1))

-- the damage by all words, from the first word and the others
abbrev onwards : Option Damage → List (List ℕ) → Option Damage
onwards None words = None
onwards (Some d) words = marked_all d words

by_words : (d : Damage) (text word : List ℕ) (words : List (List ℕ)) → slice_split is_blank text ≡ word ∷ words → marked_all d (slice_split is_blank text) ≡ onwards (marked_by d word) words
unfolding marked_all
by_words d text word words e = ap (marked_all d) e ∙ go (marked_by d word)
  where
    go : (o : Option Damage) → elim o [ None ↦ None | Some f ↦ marked_all f words ] ≡ onwards o words
    go None = refl
    go (Some f) = refl

splits : (text : List ℕ) → one_word text ≡ false → slice_split is_blank text ≡ first_word text ∷ slice_split is_blank (other_words text)
splits text e = slice_split_first is_blank text 0 (blank_stands text (several text e))
  where
    several : (text : List ℕ) → one_word text ≡ false → list_any is_blank text ≡ true
    several text e = search (rules, e)

alone : (text : List ℕ) → one_word text ≡ true → slice_split is_blank text ≡ first_word text ∷ []
alone text e =
    let none : list_any is_blank text ≡ false = search (rules, e) in
    (only_word text none).0 ∙ ap (λ w. w ∷ []) (sym (only_word text none).1)

pub by_last : (d e : Damage) (text : List ℕ) → Some e ≡ marked_by d (first_word text) → one_word text ≡ true → Some e ≡ marked_all d (slice_split is_blank text)
unfolding marked_all
by_last d e text marked one = sym (by_words d text (first_word text) [] (alone text one) ∙ ap (λ o. onwards o []) (sym marked))

pub by_more : (d e : Damage) (text : List ℕ) → Some e ≡ marked_by d (first_word text) → one_word text ≡ false
    → marked_all e (slice_split is_blank (other_words text)) ≡ marked_all d (slice_split is_blank text)
by_more d e text marked several =
    sym (by_words d text (first_word text) _ (splits text several) ∙ ap (λ o. onwards o (slice_split is_blank (other_words text))) (sym marked))

pub by_none : (d : Damage) (text : List ℕ) → None ≡ marked_by d (first_word text) → None ≡ marked_all d (slice_split is_blank text)
by_none d text none = go (one_word text) refl
  where
    go : (b : Bool) → one_word text ≡ b → None ≡ marked_all d (slice_split is_blank text)
    go true one = sym (by_words d text (first_word text) [] (alone text one) ∙ ap (λ o. onwards o []) (sym none))
    go false several = sym (by_words d text (first_word text) _ (splits text several) ∙ ap (λ o. onwards o (slice_split is_blank (other_words text))) (sym none))
