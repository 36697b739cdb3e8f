-- What a line of the input spells: a word and a blank, and then a text.
--
--   CellText text p xs  the text has a phase p, a blank and octets xs, and nothing else
--   CellCase text c     c is the cell that the text spells, or the text spells none and c is None
--   Begins word line R  the line begins with the word, and of its rest R holds
--   NoWord line c       the line begins with none of the words, and c is None
--   Reads line c        c is the case that the line spells, made of the number that follows the word find or next; None where it
--                       spells no case
use Rattle.std.specs.Prelude.{◌≡◌, ℕ, ◌≤◌, List, ◌++◌, length, take, drop, Some, None, vec_items, codes, Option, ◌≢◌, slice_index_or}
use Rattle.std.specs.Option.{option_map}
use Rattle.hex_digits.specs.Digits.{word_of, SpellsOctets}
use Rattle.coding_vectors.specs.declared.cases.Case.{Case}
use Rattle.coding_vectors.specs.declared.cases.Case.TheVariants.{Cell, Find, Next}

pub record CellText (text : List ℕ) (p : ℕ) (xs : List ℕ) : Type 0 where
  pub long : 9 ≤ length text
  pub phase : word_of (take 8 text) ≡ Some p
  pub blank : slice_index_or text 8 0 ≡ 32
  pub octets : SpellsOctets (drop 9 text) xs

abbrev pub CellCase : List ℕ → Option Case → Type 0
CellCase text (Some (Cell p v)) = CellText text p (vec_items v)
CellCase text (Some (Find w)) = ⊥
CellCase text (Some (Next p)) = ⊥
CellCase text None = (p : ℕ) (xs : List ℕ) → CellText text p xs → ⊥

pub record Begins (word : List ℕ) (line : List ℕ) (Rest : List ℕ → Type 0) : Type 0 where
  pub rest : List ℕ
  pub whole : line ≡ word ++ rest
  pub says : Rest rest

pub record NoWord (line : List ℕ) (c : Option Case) : Type 0 where
  pub cell : (rest : List ℕ) → line ≢ codes "cell " ++ rest
  pub find : (rest : List ℕ) → line ≢ codes "find " ++ rest
  pub next : (rest : List ℕ) → line ≢ codes "next " ++ rest
  pub says : c ≡ None

pub data Reads (line : List ℕ) (c : Option Case) : Type 0 where
  of_cell : Begins (codes "cell ") line (λ rest. CellCase rest c) → Reads line c
  of_find : Begins (codes "find ") line (λ rest. c ≡ option_map Find (word_of rest)) → Reads line c
  of_next : Begins (codes "next ") line (λ rest. c ≡ option_map Next (word_of rest)) → Reads line c
  of_none : NoWord line c → Reads line c
