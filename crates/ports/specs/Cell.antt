-- A cell as sources and sinks have it: header and payload, without the check octet.
--
--   Cell                a header, as a number, and the octets of a payload
--   octets c            the 52 octets of a cell
--   User c              c is a user cell: its header has 32 bits and is not reserved, its payload has 48 octets
--   of_connection k cs  those of the cells cs that belong to connection k, in their order
use Rattle.std.specs.Prelude.{◌≡◌, ℕ, ◌^◌, ◌<◌, false, List, ◌++◌, length, filter, nat_eq}
use Rattle.cell.specs.Header.{connection_of, reserved}
pub use Rattle.cell.specs.Sorting.{header_octets}

pub record Cell : Type 0 where
  pub header : ℕ
  pub payload : List ℕ

abbrev pub octets : Cell → List ℕ
octets c = header_octets c.header ++ c.payload

pub record User (c : Cell) : Type 0 where
  pub fits : c.header < 2 ^ 32
  pub user : reserved c.header ≡ false
  pub whole : length c.payload ≡ 48

abbrev pub of_connection : ℕ → List Cell → List Cell
of_connection k cs = filter (λ c. nat_eq (connection_of c.header) k) cs
