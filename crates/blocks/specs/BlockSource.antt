-- A block of octets as a source.
--
--   block_cells b           the cells that wait: those of the octets that are left
--   block_users b           each of them is a user cell
--   source_of header block  the cells of a block: at most its first 65,536 octets count, and under a reserved header there are none
use Rattle.std.specs.Prelude.{◌≡◌, ℕ, zero, suc, ◌+◌, ◌/◌, Bool, true, false, cond, List, [], map, length, take, refl}
use Rattle.std.proofs.Common.{sym, ap, subst}
use Rattle.std.specs.List.{range_with_len, AllByRecursion}
use Rattle.cell.specs.Header.{reserved}
use Rattle.ports.specs.Cell.{Cell, User}
use Rattle.blocks.specs.Block.{payload_at, payload_count, cells_of}
use Rattle.blocks.specs.declared.block_source.BlockSource.{BlockSource}

abbrev pub block_cells : BlockSource → List Cell
block_cells b = cells_of b.header.0 b.rest.now

length_payload : (block : List ℕ) (i : ℕ) → length (payload_at block i) ≡ 48
unfolding payload_at
length_payload block i = refl

module _ (b : BlockSource) where
  user_cells : (i n : ℕ) → reserved b.header.0 ≡ false → AllByRecursion User (map (λ k. record { header = b.header.0; payload = payload_at b.rest.now k }) (range_with_len i n))
  user_cells i zero u = tt
  user_cells i (suc n) u = (record { fits = b.fits; user = u; whole = length_payload b.rest.now i }, user_cells (i + 1) n u)

  no_cells : (i n : ℕ) → n ≡ 0 → AllByRecursion User (map (λ k. record { header = b.header.0; payload = payload_at b.rest.now k }) (range_with_len i n))
  no_cells i n e = subst (λ (m : ℕ). AllByRecursion User (map (λ k. record { header = b.header.0; payload = payload_at b.rest.now k }) (range_with_len i m))) (sym e) tt

  pub block_users : AllByRecursion User (block_cells b)
  block_users = go (reserved b.header.0) refl
    where
      go : (r : Bool) → reserved b.header.0 ≡ r → AllByRecursion User (block_cells b)
      go true e = no_cells 0 (payload_count b.rest.now) (ap (λ n. (n + 47) / 48) (b.user e))
      go false e = user_cells 0 (payload_count b.rest.now) e

abbrev pub source_of : ℕ → List ℕ → List Cell
source_of header block = cond (reserved header) [] (cells_of header (take 65536 block))
