-- Runs of the line's bits, and the cells that they bring.
--
--   bit_at o k     bit k of an octet, the most significant being 0
--   octet_bits o   the bits of an octet, the most significant first
--   bits_of os     the bits of octets, in the order in which they come
--   step s b       the tracker s after the bit b
--   after s bs     the tracker s after the bits bs
--   kept_cell s b  the kept cell whose last bit is b, descrambled, if it is one (cell_in: by what the bit brings)
--   user_cell o    the user cell among a cell, if it is one: by its header alone (user_by: by its kind)
--   offered s b    the user cell that is handed up with the bit b, if one is
--   how_many o     one, where there is a cell o, and else none
--   offers s bs    how many user cells are handed up over the bits bs, from the tracker s on
use Rattle.std.specs.Prelude.{ℕ, ◌+◌, ◌-◌, ◌/◌, ◌%◌, ◌^◌, Bool, List, [], ◌∷◌, ◌++◌, Some, None, Option, ◌==◌}
use Rattle.cell.specs.Header.{kind_of}
use Rattle.cell.specs.declared.header.Kind.{Kind}
use Rattle.cell.specs.declared.header.Kind.TheVariants.{Idle, F3, User}
use Rattle.ports.specs.Cell.{Cell}
use Rattle.tracker.specs.declared.tracker.Tracker.{Tracker}
use Rattle.tracker.specs.declared.tracker.Moment.{Moment}
use Rattle.tracker.specs.declared.tracker.Moment.TheVariants as moment
use Rattle.tracker.specs.Tracker.{bit_step, bit_brings}

abbrev pub bit_at : ℕ → ℕ → Bool
bit_at o k = o / 2 ^ (7 - k) % 2 == 1

unfoldable pub octet_bits : ℕ → List Bool
octet_bits o =
    (o / 2 ^ 7 % 2 == 1) ∷ (o / 2 ^ 6 % 2 == 1) ∷ (o / 2 ^ 5 % 2 == 1) ∷ (o / 2 ^ 4 % 2 == 1)
    ∷ (o / 2 ^ 3 % 2 == 1) ∷ (o / 2 ^ 2 % 2 == 1) ∷ (o / 2 % 2 == 1) ∷ (o % 2 == 1) ∷ []

abbrev pub bits_of : List ℕ → List Bool
bits_of [] = []
bits_of (o ∷ os) = octet_bits o ++ bits_of os

unfoldable pub step : Tracker → Bool → Tracker
step s b = bit_step s b

abbrev pub after : Tracker → List Bool → Tracker
after s [] = s
after s (b ∷ bs) = after (step s b) bs

abbrev pub cell_in : Option Moment → List ℕ → Option Cell
cell_in None p = None
cell_in (Some (moment.Header e)) p = None
cell_in (Some (moment.Cell h)) p = Some (record { header = h.0; payload = p })

unfoldable pub kept_cell : Tracker → Bool → Option Cell
kept_cell s b = cell_in (bit_brings s b) (bit_step s b).payload

abbrev pub user_by : Kind → Cell → Option Cell
user_by Idle c = None
user_by F3 c = None
user_by User c = Some c

abbrev pub user_cell : Option Cell → Option Cell
user_cell None = None
user_cell (Some c) = user_by (kind_of c.header) c

abbrev pub offered : Tracker → Bool → Option Cell
offered s b = user_cell (kept_cell s b)

abbrev pub how_many : Option Cell → ℕ
how_many None = 0
how_many (Some c) = 1

abbrev pub offers : Tracker → List Bool → ℕ
offers s [] = 0
offers s (b ∷ bs) = how_many (offered s b) + offers (step s b) bs
