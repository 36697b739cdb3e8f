-- The header of a cell: 32 bits, read as a number h from the top.
--
--   bit    31 .. 28   27 .. 20   19 .. 4   3 .. 1   0
--   field  GFC        VPI        VCI       PT       CLP
--
--   header_of xs                      the header that the first four octets write, the most significant first
--   header_octets h                   the four octets of a header
--   gfc h, vpi h, vci h, pt h, clp h  the fields
--   fields_of h, joined f             all five of a header; the header of five fields
--   connection_of h                   the number of its connection
--   kind_of h                         which kind of cell it heads
--   kind_number k                     the number of the kind k
--   kind_name k                       its name, as printed
--   reserved h                        whether no user cell may carry it
use Rattle.std.specs.Prelude.{ℕ, ◌+◌, ◌*◌, ◌/◌, ◌%◌, ◌^◌, Bool, true, false, cond, List, [], ◌∷◌, ◌==◌, codes, slice_index}
use Rattle.cell.specs.declared.header.Fields.{Fields}
use Rattle.cell.specs.declared.header.Kind.{Kind}
use Rattle.cell.specs.declared.header.Kind.TheVariants.{Idle, F3, User}

abbrev pub header_of : List ℕ → ℕ
header_of xs = slice_index xs 0 * 2 ^ 24 + slice_index xs 1 * 2 ^ 16 + slice_index xs 2 * 2 ^ 8 + slice_index xs 3

abbrev pub header_octets : ℕ → List ℕ
header_octets h = h / 2 ^ 24 % 2 ^ 8 ∷ h / 2 ^ 16 % 2 ^ 8 ∷ h / 2 ^ 8 % 2 ^ 8 ∷ h % 2 ^ 8 ∷ []

abbrev pub gfc : ℕ → ℕ
gfc h = h / 2 ^ 28 % 2 ^ 4

abbrev pub vpi : ℕ → ℕ
vpi h = h / 2 ^ 20 % 2 ^ 8

abbrev pub vci : ℕ → ℕ
vci h = h / 2 ^ 4 % 2 ^ 16

abbrev pub pt : ℕ → ℕ
pt h = h / 2 % 2 ^ 3

abbrev pub clp : ℕ → ℕ
clp h = h % 2

abbrev pub fields_of : ℕ → Fields
fields_of h = record { gfc = gfc h; vpi = vpi h; vci = vci h; pt = pt h; clp = clp h }

abbrev pub joined : Fields → ℕ
joined f = (((f.gfc * 2 ^ 8 + f.vpi) * 2 ^ 16 + f.vci) * 2 ^ 3 + f.pt) * 2 + f.clp

abbrev pub connection_of : ℕ → ℕ
connection_of h = vpi h * 65536 + vci h

-- the reserved headers are those of idle and F3 cells; every other header is a user cell's
abbrev pub kind_of : ℕ → Kind
kind_of h = cond (h == 0x00000001) Idle (cond (h == 0x00000009) F3 User)

abbrev pub kind_number : Kind → ℕ
kind_number Idle = 0
kind_number F3 = 1
kind_number User = 2

abbrev pub kind_name : Kind → List ℕ
kind_name Idle = codes "idle"
kind_name F3 = codes "F3"
kind_name User = codes "user"

abbrev pub reserved : ℕ → Bool
reserved h = elim (kind_of h) [ Idle ↦ true | F3 ↦ true | User ↦ false ]
