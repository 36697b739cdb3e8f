-- The numbers that words spell.
--
--   SpellsNumber word  the word is decimal digits, behind a plus or not, of a number below 2^32
--   Number word n      n is the number that the word spells, or it spells none and n is None
use Rattle.std.specs.Prelude.{◌≡◌, ℕ, ◌^◌, ◌<◌, List, Some, None, Option}
use Rattle.std.specs.Str.Parse.{IsNumeral, digits_value, without_leading_plus}

abbrev pub SpellsNumber : List ℕ → Type 0
SpellsNumber word = IsNumeral 10 (without_leading_plus word) × (digits_value 10 (without_leading_plus word) < 2 ^ 32)

abbrev pub Number : List ℕ → Option ℕ → Type 0
Number word (Some n) = SpellsNumber word × (n ≡ digits_value 10 (without_leading_plus word))
Number word None = SpellsNumber word → ⊥
