-- Blocks of octets, cut into payloads of 48.
--
--   octet_at block n         octet number n of a block, and 0 where the block has ended
--   payload_at block i       payload number i of a block: so the last one is filled with zeros
--   payload_count block      how many payloads a block is cut into; the last one may be filled
--   cells_of header block    the cells of all payloads of a block, under one header
--   place_at block i         what stands in payload place number i of a block
--   cells_in header block n  the cells in its first n payload places, under one header
use Rattle.std.specs.Prelude.{ℕ, ◌+◌, ◌*◌, ◌/◌, cond, List, map, length, take, drop, slice_index, nat_lt}
use Rattle.std.specs.List.{range_with_len}
use Rattle.ports.specs.Cell.{Cell}

abbrev pub octet_at : List ℕ → ℕ → ℕ
octet_at block n = cond (nat_lt n (length block)) (slice_index block n) 0

unfoldable pub payload_at : List ℕ → ℕ → List ℕ
payload_at block i = map (λ k. octet_at block (48 * i + k)) (range_with_len 0 48)

abbrev pub payload_count : List ℕ → ℕ
payload_count block = (length block + 47) / 48

abbrev pub cells_of : ℕ → List ℕ → List Cell
cells_of header block = map (λ k. record { header = header; payload = payload_at block k }) (range_with_len 0 (payload_count block))

unfoldable pub place_at : List ℕ → ℕ → List ℕ
place_at block i = take 48 (drop (48 * i) block)

abbrev pub cells_in : ℕ → List ℕ → ℕ → List Cell
cells_in header block n = map (λ k. record { header = header; payload = place_at block k }) (range_with_len 0 n)
