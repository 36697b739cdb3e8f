-- Sorting the octets of a cell: four of the header, the most significant first, and 48 of the payload.
--
--   PartFrom s n p      the slice p is the very part of the slice s that begins at octet n: it lies in the same block of memory,
--                       n octets on, and holds what s holds from there
--   NoCell s e          the slice s is refused with 4, since it has not 52 octets
--   SortsAs s c         c is the kind of the cell in s, with its header and payload
--   SortsPartsAs h p c  the same of a cell with the header h and the payload p, which c has for its own
--   Sorts s r           what sorting the slice s answers, also where it is refused
use Rattle.std.specs.Prelude.{◌≡◌, ℕ, ◌+◌, List, length, drop, Ok, Err, Result, ◌≢◌}
use Rattle.std.specs.Borrow.{Bor}
use Rattle.cell.specs.Header.{kind_of}
pub use Rattle.cell.specs.Header.{header_of, header_octets}
use Rattle.cell.specs.Refusal.{number_of}
use Rattle.cell.specs.declared.header.Kind as kinds
use Rattle.cell.specs.declared.refusal.Refusal.{Refusal}
use Rattle.cell.specs.declared.refusal.Refusal.TheVariants.{WrongLength}
use Rattle.cell.specs.declared.sorting.SortedCell.{SortedCell}
use Rattle.cell.specs.declared.sorting.SortedCell.TheVariants.{Idle, F3, User}

abbrev pub PartFrom : Bor (List ℕ) → ℕ → Bor (List ℕ) → Type 0
PartFrom s n p = (p.ref_ptr.0 ≡ s.ref_ptr.0) × (p.ref_ptr.1 ≡ s.ref_ptr.1 + n) × (p.now ≡ drop n s.now)

abbrev pub NoCell : Bor (List ℕ) → Refusal → Type 0
NoCell s e = (number_of e ≡ 4) × (e ≡ WrongLength) × (length s.now ≢ 52)

abbrev pub SortsAs : Bor (List ℕ) → SortedCell → Type 0
SortsAs s Idle = kind_of (header_of s.now) ≡ kinds.TheVariants.Idle
SortsAs s (F3 p) = (kind_of (header_of s.now) ≡ kinds.TheVariants.F3) × PartFrom s 4 p
SortsAs s (User h p) = (kind_of (header_of s.now) ≡ kinds.TheVariants.User) × (h.0 ≡ header_of s.now) × PartFrom s 4 p

abbrev pub SortsPartsAs : ℕ → Bor (List ℕ) → SortedCell → Type 0
SortsPartsAs h p Idle = kind_of h ≡ kinds.TheVariants.Idle
SortsPartsAs h p (F3 q) = (kind_of h ≡ kinds.TheVariants.F3) × (q ≡ p)
SortsPartsAs h p (User k q) = (kind_of h ≡ kinds.TheVariants.User) × (k.0 ≡ h) × (q ≡ p)

abbrev pub Sorts : Bor (List ℕ) → Result SortedCell Refusal → Type 0
Sorts s (Ok c) = (length s.now ≡ 52) × SortsAs s c
Sorts s (Err e) = NoCell s e
