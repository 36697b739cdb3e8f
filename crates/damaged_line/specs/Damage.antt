-- Damage to a cell of 424 bits on the line, and the words that name it. Bit 0 is the first sent: the top bit of octet 0.
--
--   none             no bit is turned
--   octet_at bit     the octet in which a bit stands
--   mask_at bit      its place there, from the top
--   turns d bit      the damage d turns a bit
--   marked d bit     the damage d with a bit besides
--   marked_if d bit  the same; none where a cell has no such bit, and where d turns it already
--   marked_by d w    the damage d with the bit besides that the word w names, if it names one
--   marked_all d ws  the damage d with the bits besides that all of the words ws name, each once
--   damage_of text   the damage that the words of a text name, a blank between each two
--   turned d line    the octets of a cell on the line, with the bits of d turned
--   mark_text d bit  what is printed of a bit, if d turns it: its number, behind a blank
--   damage_text d    what is printed of all bits, in order
use Rattle.std.specs.Prelude.{ℕ, ◌/◌, ◌%◌, ◌^◌, Bool, cond, not, List, [], ◌∷◌, ◌++◌, map, replicate, codes, decimal, Some, None, Option, ◌==◌, bit_and, bit_or, bit_xor, nat_lt, slice_index, slice_set}
use Rattle.std.specs.List.{flat_map, range_with_len, slice_split}
use Rattle.text.specs.Number.{number_of}
use Rattle.text.specs.Words.{is_blank}
use Rattle.damaged_line.specs.declared.damage.Damage.{Damage}

abbrev pub none : Damage
none = record { marks = replicate 53 0 }

abbrev pub octet_at : ℕ → ℕ
octet_at bit = bit / 8

abbrev pub mask_at : ℕ → ℕ
mask_at bit = 0x80 / 2 ^ (bit % 8)

abbrev pub turns : Damage → ℕ → Bool
turns d bit = not (bit_and (slice_index d.marks (octet_at bit)) (mask_at bit) == 0)

abbrev pub marked : Damage → ℕ → Damage
marked d bit = record { marks = slice_set d.marks (octet_at bit) (bit_or (slice_index d.marks (octet_at bit)) (mask_at bit)) }

abbrev pub marked_if : Damage → ℕ → Option Damage
marked_if d bit = cond (nat_lt bit 424) (cond (turns d bit) None (Some (marked d bit))) None

abbrev pub marked_by : Damage → List ℕ → Option Damage
marked_by d word = elim (number_of word) [ None ↦ None | Some bit ↦ marked_if d bit ]

unfoldable pub marked_all : Damage → List (List ℕ) → Option Damage
marked_all d [] = Some d
marked_all d (word ∷ words) = elim (marked_by d word) [ None ↦ None | Some e ↦ marked_all e words ]

abbrev pub damage_of : List ℕ → Option Damage
damage_of text = marked_all none (slice_split is_blank text)

unfoldable pub turned : Damage → List ℕ → List ℕ
turned d line = map (λ i. bit_xor (slice_index line i) (slice_index d.marks i)) (range_with_len 0 53)

abbrev pub mark_text : Damage → ℕ → List ℕ
mark_text d bit = cond (turns d bit) (codes " " ++ decimal bit) []

unfoldable pub damage_text : Damage → List ℕ
damage_text d = flat_map (mark_text d) (range_with_len 0 424)
