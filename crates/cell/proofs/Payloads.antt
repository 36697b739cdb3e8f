-- The payload of a cell's octets.
use Rattle.std.proofs.Common.{◌≡◌, ℕ, List, length, drop, arith}
use Rattle.std.proofs.lemmas.List.{length-drop, take_all}
use borrow.Rule.Slice.PartMut.{mid_of}

pub payload_part : (cell : List ℕ) → length cell ≡ 52 → mid_of 4 48 cell ≡ drop 4 cell
payload_part cell long = take_all 48 (drop 4 cell) (simp length-drop (omega (arith, long)))
