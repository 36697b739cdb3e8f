-- The cells that a block is cut into.
use Rattle.std.proofs.Common.{◌≡◌, ℕ, zero, suc, ◌+◌, ◌-◌, ◌*◌, ◌/◌, ◌<◌, ◌≤◌, min, Bool, true, false, cond, leb, ltb, ltb-false, List, [], ◌∷◌, ◌++◌, map, length, take, drop, get_or, replicate, sym, refl, ap, ◌∙◌, subst, ap₂, arith, leb-true, leb-false, length-drop, length-take}
use Rattle.std.specs.List.{range_with_len}
use Rattle.ring.proofs.Cut.{take_min}
use Rattle.std.proofs.lemmas.List.{get_or-append-add, get_or_append_left, get_or-drop, get_or_past, get_or-replicate, get_or-take, length-append, length-replicate, drop_all, take_all}
use Rattle.std.proofs.lemmas.List.FromFn.{fill_by_all, length-map-range_with_len}
use Rattle.cell.specs.Header.{reserved}
use Rattle.ports.specs.Cell.{Cell}
use Rattle.ports.specs.Source.{Taken}
use Rattle.blocks.specs.Block.{octet_at, payload_at, payload_count, cells_of}
use Rattle.blocks.specs.BlockSource.{source_of}

same_at : {X : Type 0} (f g : ℕ → X) (a n : ℕ) → ((k : ℕ) → f k ≡ g k) → map f (range_with_len a n) ≡ map g (range_with_len a n)
same_at f g a zero h = refl
same_at f g a (suc n) h = ap₂ ◌∷◌ (h a) (same_at f g (a + 1) n h)

one_on : {X : Type 0} (f g : ℕ → X) (a n : ℕ) → ((k : ℕ) → f (k + 1) ≡ g k) → map f (range_with_len (a + 1) n) ≡ map g (range_with_len a n)
one_on f g a zero h = refl
one_on f g a (suc n) h = ap₂ ◌∷◌ (h a) (one_on f g (a + 1) n h)

-- behind the end of a block both are zero
octet_is : (block : List ℕ) (n : ℕ) → octet_at block n ≡ get_or block n 0
octet_is block n = go (ltb n (length block)) refl
  where
    go : (b : Bool) → ltb n (length block) ≡ b → cond b (get_or block n 0) 0 ≡ get_or block n 0
    go true t = refl
    go false t = sym (get_or_past block n 0 (ltb-false _ _ t))

abbrev octets_at : List ℕ → ℕ → List ℕ
octets_at block i = map (λ k. get_or block (48 * i + k) 0) (range_with_len 0 48)

payload_is : (block : List ℕ) (i : ℕ) → payload_at block i ≡ octets_at block i
unfolding payload_at
payload_is block i = same_at (λ k. octet_at block (48 * i + k)) (λ k. get_or block (48 * i + k) 0) 0 48 (λ k. octet_is block (48 * i + k))

payload_on : (block : List ℕ) (k : ℕ) → payload_at block (k + 1) ≡ payload_at (drop 48 block) k
payload_on block k =
    payload_is block (k + 1)
    ∙ same_at (λ j. get_or block (48 * (k + 1) + j) 0) (λ j. get_or (drop 48 block) (48 * k + j) 0) 0 48
    (λ j. let e : 48 * (k + 1) + j ≡ 48 + (48 * k + j) = omega arith in ap (λ m. get_or block m 0) e ∙ sym (get_or-drop 48 block (48 * k + j) 0))
    ∙ sym (payload_is (drop 48 block) k)

-- the first of the cells, and the others
pub cells_next : (header : ℕ) (block : List ℕ) → 0 < length block → cells_of header block ≡ record { header = header; payload = payload_at block 0 } ∷ cells_of header (drop 48 block)
cells_next header block h =
    let n = payload_count (drop 48 block) in
    let e : payload_count block ≡ suc n = simp length-drop (omega arith) in
    let f : ℕ → Cell = λ k. record { header = header; payload = payload_at block k } in
    let g : ℕ → Cell = λ k. record { header = header; payload = payload_at (drop 48 block) k } in
    ap (λ m. map f (range_with_len 0 m)) e
    ∙ ap (λ cs. f 0 ∷ cs) (one_on f g 0 n (λ k. ap (λ p. record { header = header; payload = p }) (payload_on block k)))

pub no_cells : (header : ℕ) (block : List ℕ) → length block ≡ 0 → cells_of header block ≡ []
no_cells header block h = rw h

pub cells_counted : (header : ℕ) (block : List ℕ) → length (cells_of header block) ≡ (length block + 47) / 48
cells_counted header block = length-map-range_with_len (λ k. record { header = header; payload = payload_at block k }) 0 (payload_count block)

pub cut : (header used : ℕ) (block : List ℕ) → used ≡ cond (reserved header) 0 (min (length block) 65536) → cells_of header (take used block) ≡ source_of header block
cut header used block e = go (reserved header) e
  where
    go : (r : Bool) → used ≡ cond r 0 (min (length block) 65536) → cells_of header (take used block) ≡ cond r [] (cells_of header (take 65536 block))
    go true e = rw e refl
    go false e = rw (e, take_min 65536 block) refl

-- the octets that are left behind the first payload
pub left_over : (block : List ℕ) (used : ℕ) → used ≡ min (length block) 48 → take (length block - used) (drop used block) ≡ drop 48 block
left_over block used e = take_all (length block - used) (drop used block) (simp length-drop (omega arith)) ∙ go (leb (length block) 48) refl
  where
    go : (b : Bool) → leb (length block) 48 ≡ b → drop used block ≡ drop 48 block
    go true t =
        let h = leb-true _ _ t in drop_all used block (omega arith) ∙ sym (drop_all 48 block h)
    go false t =
        let h = leb-false _ _ t in
        let same : used ≡ 48 = omega arith in ap (λ n. drop n block) same

-- a cell that goes first is taken where its octets are left out
pub taken : (header header' : ℕ) (block place left : List ℕ) (rest : List Cell) → Taken (cells_of header block) place rest → header' ≡ header → left ≡ drop 48 block
    → Taken (cells_of header block) place (cells_of header' left)
taken header header' [] place left rest t same_header e = absurd (let z : ◌≡◌ {A = List Cell} [] (t.cell ∷ rest) = t.first in cc)
taken header header' (x ∷ block) place left rest t same_header e =
    let n : 0 < length (x ∷ block) = omega arith in
    let next = cells_next header (x ∷ block) n in
    let both : t.cell ∷ rest ≡ record { header = header; payload = payload_at (x ∷ block) 0 } ∷ cells_of header (drop 48 (x ∷ block)) = sym t.first ∙ next in
    let same : rest ≡ cells_of header (drop 48 (x ∷ block)) = cc in
    record { cell = t.cell; first = t.first ∙ ap (λ cs. t.cell ∷ cs) (same ∙ sym (ap₂ cells_of same_header e)); written = t.written }

pub first_of : (block p : List ℕ) (used : ℕ) → used ≡ min (length block) 48 → p ≡ take used block ++ drop used (replicate 48 0) → p ≡ payload_at block 0
first_of block p used e is =
    let front : length (take used block) ≡ used = simp length-take (omega arith) in
    let whole : length p ≡ 48 = rw is (simp (length-append, length-drop, length-take, length-replicate) (omega arith)) in
    fill_by_all (λ k. get_or block (48 * 0 + k) 0) p 48 0 whole (λ k h. let z : 48 * 0 + k ≡ k = omega arith in rw (is, z) (at front k h (leb used k) refl))
    ∙ sym (payload_is block 0)
  where
    at : length (take used block) ≡ used → (k : ℕ) → k < 48 → (b : Bool) → leb used k ≡ b → get_or (take used block ++ drop used (replicate 48 0)) k 0 ≡ get_or block k 0
    at front k h true t =
        let past = leb-true _ _ t in
        let j : k ≡ length (take used block) + (k - used) = omega arith in
        let z : used + (k - used) < 48 = omega arith in
        ap (λ i. get_or (take used block ++ drop used (replicate 48 0)) i 0) j
        ∙ get_or-append-add (take used block) (drop used (replicate 48 0)) (k - used) 0
        ∙ get_or-drop used (replicate 48 0) (k - used) 0 ∙ get_or-replicate 48 (used + (k - used)) 0 0 z
        ∙ sym (get_or_past block k 0 (omega arith))
    at front k h false t =
        let within = leb-false _ _ t in
        get_or_append_left (take used block) (drop used (replicate 48 0)) 0 k (omega arith) ∙ get_or-take used block k 0 (omega arith)

pub ruleset taking = (length-take, take_min)
