-- A payload stored in the first free place of a block is put into it as a sink.
use Rattle.std.proofs.Common.{◌≡◌, ℕ, ◌+◌, ◌-◌, ◌*◌, ◌/◌, ◌<◌, ◌≤◌, Bool, true, false, cond, not, eqb, List, [], ◌∷◌, ◌++◌, map, length, take, drop, sym, refl, ap, ◌∙◌, append_assoc, arith, eqb-true}
use borrow.Rule.Slice.PartMut.{put_mid}
use Rattle.std.proofs.lemmas.Slice.{put_mid-paste}
use lib.Seq.{paste}
use Rattle.std.specs.List.{range_with_len}
use Rattle.std.proofs.lemmas.List.FromFn.{fill_by_all, get_or-map-range_with_len, length-map-range_with_len, map-range_with_len_more}
use Rattle.std.proofs.lemmas.List.Edits.{length-paste}
use Rattle.std.proofs.lemmas.List.{take-append-le, take-take, drop-take, drop_at, take_at, take_all, length-take-le, length-append}
use Rattle.std.proofs.lemmas.Bool.{eq-eqb, ne_eqb}
use Rattle.cell.specs.Header.{connection_of, reserved}
use Rattle.ports.specs.Cell.{Cell}
use Rattle.ports.specs.Sink.{Put}
use Rattle.blocks.specs.Block.{place_at, cells_in}
use Rattle.blocks.specs.BlockSink.{block_state, Filled}
use Rattle.blocks.specs.declared.block_sink.BlockSink.{BlockSink}

module _ (block payload : List ℕ) (f : ℕ) (room : 48 * f + 48 ≤ length block) (whole : length payload ≡ 48) where
  front : length (take (48 * f) block) ≡ 48 * f
  front = length-take-le (48 * f) block (omega arith)

  take_below : (n : ℕ) → n ≤ 48 * f → take n (paste block (48 * f) payload 48) ≡ take n block
  take_below n h =
      take-append-le n (take (48 * f) block ++ take 48 payload) (drop (48 * f + 48) block) (omega (arith, length-append (take (48 * f) block) (take 48 payload), front))
      ∙ take-append-le n (take (48 * f) block) (take 48 payload) (omega (arith, front))
      ∙ take-take n (48 * f) block h

  place-below : (i : ℕ) → i < f → place_at (paste block (48 * f) payload 48) i ≡ place_at block i
  unfolding place_at
  place-below i h =
      sym (drop-take (48 * i) 48 (paste block (48 * f) payload 48))
      ∙ ap (drop (48 * i)) (take_below (48 * i + 48) (omega arith))
      ∙ drop-take (48 * i) 48 block

  place_stored : place_at (paste block (48 * f) payload 48) f ≡ payload
  unfolding place_at
  place_stored =
      ap (λ xs. take 48 (drop (48 * f) xs)) (append_assoc (take (48 * f) block) (take 48 payload) (drop (48 * f + 48) block))
      ∙ ap (take 48) (drop_at (take (48 * f) block) (take 48 payload ++ drop (48 * f + 48) block) (48 * f) front)
      ∙ take_at (take 48 payload) (drop (48 * f + 48) block) 48 (length-take-le 48 payload (omega arith))
      ∙ take_all 48 payload (omega arith)

  pub stored : (header : ℕ) → cells_in header (paste block (48 * f) payload 48) (f + 1) ≡ cells_in header block f ++ record { header = header; payload = payload } ∷ []
  stored header =
      let after : ℕ → Cell = λ k. record { header = header; payload = place_at (paste block (48 * f) payload 48) k } in
      let before : ℕ → Cell = λ k. record { header = header; payload = place_at block k } in
      let d : Cell = record { header = 0; payload = [] } in
      let same : map before (range_with_len 0 f) ≡ map after (range_with_len 0 f) = fill_by_all after (map before (range_with_len 0 f)) f d (length-map-range_with_len before 0 f) (λ k h. get_or-map-range_with_len before 0 f k k d h (omega arith) ∙ ap (λ p. record { header = header; payload = p }) (sym (place-below k h))) in
      map-range_with_len_more after 0 f f (omega arith) ∙ rw (place_stored, same)

fall : (b : Bool) (places filled : ℕ) → (cond b (places - (filled + 1)) 0 ≤ cond b (places - filled) 0) × (cond b (places - filled) 0 ≤ cond b (places - (filled + 1)) 0 + 1)
fall true places filled = (omega arith, omega arith)
fall false places filled = (omega arith, omega arith)

pub served : (a b : ℕ) → false ≡ not (eqb a b) → a ≡ b
served a b e = go (eqb a b) refl e
  where
    go : (t : Bool) → eqb a b ≡ t → false ≡ not t → a ≡ b
    go true h e = eqb-true a b h
    go false h e = absurd (let z : false ≡ true = e in cc)

-- after a write to the 48 octets from `at` on
pub written_at : (block payload part : List ℕ) (at k : ℕ) → part ≡ payload → length payload ≡ 48 → k ≡ 48 → put_mid at k block part ≡ paste block at payload 48
written_at block payload part at k e n h = put_mid-paste at k block part payload 48 e (sym h) (sym n)

pub ruleset storing = (written_at)

-- the state of a block sink after a put
pub put_in_block : (b b' : BlockSink) (header : ℕ) (payload : List ℕ) → length payload ≡ 48 → reserved header ≡ false → header ≡ b.header.0 →
    b.filled < length b.block.now / 48 → Filled b payload b' → Put (block_state b) header payload (block_state b')
put_in_block b b' header payload whole user mine room p =
    let own = b.header.0 in
    let block = b.block.now in
    let filled = b.filled in
    let r : 48 * filled + 48 ≤ length block = omega arith in
    let len : length b'.block.now ≡ length block = ap length p.block ∙ length-paste block (48 * filled) payload 48 r (omega arith) in
    let s = stored block payload filled r whole header in
    let t = eq-eqb (connection_of header) (connection_of header) refl in
    record {
      whole = whole;
      user = user;
      served = rw user (eq-eqb header own mine);
      appended = rw (p.header, ← mine, p.filled, p.block, t) s;
      others = λ k q. rw (p.header, ← mine, ne_eqb k (connection_of header) q);
      lowered = rw (p.header, ← mine, p.filled, t, len) (omega arith);
      falls = λ k. rw (p.header, p.filled, len) (fall (eqb k (connection_of own)) (length block / 48) filled);
      serving = λ k. rw p.header;
    }
