-- Numbers as words spell them, by the octets of the text, read as ASCII. digit_value c is std's: the value of the digit c, 0 to 9 and
-- from 10 on A to Z or a to z, and 36 where c is none.
--
--   hexadecimal text        the text begins with 0x
--   base_of radix           10 or 16
--   digit_in base c         the value of the digit c, where it is one of the base
--   pushed base n c         the number n with the digit c behind it: none where c is no digit of the base, or where it passes 2^32 - 1
--   value_from base n text  the number n with all digits of the text behind it
--   value_of base text      the number that the digits of a text spell; an empty text spells none
--   number_of text          the number that a text spells
use Rattle.std.specs.Prelude.{ℕ, ◌+◌, ◌*◌, ◌^◌, Bool, false, cond, List, [], ◌∷◌, length, drop, Some, None, Option, ◌==◌, nat_lt, slice_index}
use Rattle.std.specs.Char.{digit_value}
use Rattle.text.specs.declared.number.Radix.{Radix}
use Rattle.text.specs.declared.number.Radix.TheVariants.{Decimal, Hexadecimal}

abbrev pub hexadecimal : List ℕ → Bool
hexadecimal text = cond (nat_lt 1 (length text)) (cond (slice_index text 0 == 48) (slice_index text 1 == 120) false) false

abbrev pub base_of : Radix → ℕ
base_of Decimal = 10
base_of Hexadecimal = 16

abbrev pub digit_in : ℕ → ℕ → Option ℕ
digit_in base c = cond (nat_lt (digit_value c) base) (Some (digit_value c)) None

abbrev pub below_top : ℕ → Option ℕ
below_top n = cond (nat_lt n (2 ^ 32)) (Some n) None

abbrev pub pushed : ℕ → ℕ → ℕ → Option ℕ
pushed base n c = elim (digit_in base c) [ None ↦ None | Some d ↦ below_top (n * base + d) ]

unfoldable pub value_from : ℕ → ℕ → List ℕ → Option ℕ
value_from base n [] = Some n
value_from base n (c ∷ text) = elim (pushed base n c) [ None ↦ None | Some m ↦ value_from base m text ]

abbrev pub value_of : ℕ → List ℕ → Option ℕ
value_of base text = cond (length text == 0) None (value_from base 0 text)

abbrev pub number_of : List ℕ → Option ℕ
number_of text = cond (hexadecimal text) (value_of 16 (drop 2 text)) (value_of 10 text)
