-- The words of a text, a blank (32) between each two.
--
--   is_blank c        the octet c is a blank
--   first_word text   what stands before the first blank, and the whole text where it has none
--   other_words text  what stands behind the first blank
--   one_word text     no blank stands in the text
use Rattle.std.specs.Prelude.{ℕ, Bool, not, List, ◌==◌}
use Rattle.std.specs.List.{before_first, after_first, list_any}

abbrev pub is_blank : ℕ → Bool
is_blank c = c == 32

abbrev pub first_word : List ℕ → List ℕ
first_word text = before_first is_blank text

abbrev pub other_words : List ℕ → List ℕ
other_words text = after_first is_blank text

abbrev pub one_word : List ℕ → Bool
one_word text = not (list_any is_blank text)
