-- Lower-case hexadecimal digits: two to an octet, eight to a word.
--
--   digit_of c            the value of the digit that the letter c is, if it is one
--   joined unit a b       a times the unit plus b, where both are there
--   octet_of a b          the value of two letters
--   octet_at text i       the octet that the letters 2i and 2i + 1 spell
--   word_of text          the word that a text of eight letters spells
--   SpellsOctets text xs  the text spells the octets xs, and nothing else
--   letter_of d           the digit of the value d, below 16
--   spelled xs            the text that octets are written as
use Rattle.std.specs.Prelude.{◌≡◌, ℕ, ◌+◌, ◌-◌, ◌*◌, ◌^◌, ◌<◌, cond, List, length, Some, None, Option, ◌==◌, nat_lt, slice_index, ◌/◌, ◌%◌, [], ◌∷◌, flat_map}

abbrev pub digit_of : ℕ → Option ℕ
digit_of c =
    cond (nat_lt c 48) None
    (cond (nat_lt c 58) (Some (c - 48)) (cond (nat_lt c 97) None (cond (nat_lt c 103) (Some (c - 87)) None)))

abbrev pub joined : ℕ → Option ℕ → Option ℕ → Option ℕ
joined unit None low = None
joined unit (Some high) None = None
joined unit (Some high) (Some low) = Some (high * unit + low)

abbrev pub octet_of : ℕ → ℕ → Option ℕ
octet_of a b = joined 16 (digit_of a) (digit_of b)

abbrev pub octet_at : List ℕ → ℕ → Option ℕ
octet_at text i = octet_of (slice_index text (2 * i)) (slice_index text (2 * i + 1))

abbrev pub word_of : List ℕ → Option ℕ
word_of text =
    cond (length text == 8)
    (joined (2 ^ 16) (joined (2 ^ 8) (octet_at text 0) (octet_at text 1)) (joined (2 ^ 8) (octet_at text 2) (octet_at text 3)))
    None

pub record SpellsOctets (text : List ℕ) (xs : List ℕ) : Type 0 where
  pub len : length text ≡ 2 * length xs
  pub each : (i : ℕ) → i < length xs → octet_at text i ≡ Some (slice_index xs i)

abbrev pub letter_of : ℕ → ℕ
letter_of d = cond (nat_lt d 10) (48 + d) (87 + d)

abbrev pub spelled : List ℕ → List ℕ
spelled xs = flat_map (λ x. letter_of (x / 16) ∷ letter_of (x % 16) ∷ []) xs
