-- A coded header carries its samples, and a coded cell is decoded to the cell again.
use Rattle.std.proofs.Common.{◌≡◌, ℕ, ◌+◌, ◌*◌, ◌/◌, ◌%◌, ◌^◌, ◌<◌, List, [], ◌∷◌, ◌++◌, length, get_or, drop, replicate, set, sym, refl, ap, ◌∙◌, ap₂, append-nil, mod-lt, arith, pow_pos, eq-eqb}
use borrow.Rule.Slice.PartMut.{put_mid}
use lib.Arith.{digits_mod}
use lib.Bits.{bit_xor, xor_assoc, xor_self, xor_zero_l, xor_zero_r, xor_lt}
use Rattle.cell.specs.CheckOctet.{check_octet}
use Rattle.cell.specs.LineHeader.{syndrome_of}
use Rattle.cell.specs.Header.{header_of}
use Rattle.cell.specs.declared.line_header.LineHeader.{LineHeader}
use Rattle.cell.proofs.Fields.{level}
use Rattle.scrambler.specs.Coding.{header_mask, sample8, sample7, samples, coded_header, masked, header_octets, coded, decoded, CarriesSamples}
use Rattle.scrambler.proofs.Masks.{sample7_lt, ago_lt}
use Rattle.scrambler.proofs.Payloads.{masked_twice}

xor_again : (a b : ℕ) → bit_xor a (bit_xor a b) ≡ b
xor_again a b = sym (xor_assoc a a b) ∙ ap (λ (x : ℕ). bit_xor x b) (xor_self a) ∙ xor_zero_l b

-- ---- headers

pub syndrome_is_samples : (h p : ℕ) → syndrome_of (coded_header h p) ≡ samples p
syndrome_is_samples h p = xor_again (check_octet (bit_xor h (header_mask p))) (samples p)

pub carries_samples : (h p : ℕ) → CarriesSamples (coded_header h p) p
carries_samples h p =
    let e = syndrome_is_samples h p in
    let seven : sample7 p < 2 = sample7_lt p in
    let none : samples p % 2 ^ 6 ≡ 0 = omega arith in
    let eighth : samples p / 2 ^ 7 ≡ sample8 p = omega arith in
    let two : samples p / 2 ^ 6 ≡ sample8 p * 2 + sample7 p = omega arith in
    record {
      agrees = eq-eqb _ 0 (ap (λ (s : ℕ). s % 2 ^ 6) e ∙ none);
      hec8 = ap (λ (s : ℕ). s / 2 ^ 7) e ∙ eighth;
      hec7 = ap (λ (s : ℕ). s / 2 ^ 6 % 2) e ∙ ap (λ (s : ℕ). s % 2) two ∙ digits_mod (sample8 p) seven;
    }

-- as the code makes them
pub made_carries : (h m o s p : ℕ) → m ≡ header_mask p → o ≡ check_octet (bit_xor h m) → s ≡ samples p → bit_xor (check_octet (bit_xor h m)) (bit_xor o s) ≡ samples p
made_carries h m o s p em eo es =
    ap₂ (λ (x y : ℕ). bit_xor (check_octet (bit_xor h m)) (bit_xor x y)) eo es ∙ xor_again (check_octet (bit_xor h m)) (samples p)

pub header_mask_lt : (p : ℕ) → header_mask p < 2 ^ 32
unfolding header_mask
header_mask_lt p = omega (arith, ago_lt 32 p, mod-lt p (pow_pos 31))

pub header_of_octets : (h : ℕ) (xs : List ℕ) → h < 2 ^ 32 → header_of (header_octets h ++ xs) ≡ h
header_of_octets h xs b =
    let p : h / 2 ^ 24 * 2 ^ 8 + h / 2 ^ 16 % 2 ^ 8 ≡ h / 2 ^ 16 = level h 8 16 in
    let q : h / 2 ^ 16 * 2 ^ 8 + h / 2 ^ 8 % 2 ^ 8 ≡ h / 2 ^ 8 = level h 8 8 in
    omega arith

octets_of_header : (a b c d : ℕ) → a < 256 → b < 256 → c < 256 → d < 256
    → header_octets (a * 2 ^ 24 + b * 2 ^ 16 + c * 2 ^ 8 + d) ≡ a ∷ b ∷ c ∷ d ∷ []
octets_of_header a b c d ha hb hc hd =
    let h : ℕ = a * 2 ^ 24 + b * 2 ^ 16 + c * 2 ^ 8 + d in
    let e1 : h / 2 ^ 24 % 2 ^ 8 ≡ a = omega arith in
    let e2 : h / 2 ^ 16 % 2 ^ 8 ≡ b = omega arith in
    let e3 : h / 2 ^ 8 % 2 ^ 8 ≡ c = omega arith in
    let e4 : h % 2 ^ 8 ≡ d = omega arith in
    ap₂ ◌∷◌ e1 (ap₂ ◌∷◌ e2 (ap₂ ◌∷◌ e3 (ap (λ (x : ℕ). x ∷ []) e4)))

-- ---- the 53 octets

-- as the code writes them: the header's four, the HEC octet, the payload
pub assembled : (header payload : List ℕ) (h hec : ℕ) → header ≡ header_octets h
    → put_mid 5 48 (set (header ++ replicate 49 0) 4 hec) payload ≡ header_octets h ++ hec ∷ payload
assembled header payload h hec e =
    ap (λ (x : List ℕ). put_mid 5 48 (set (x ++ replicate 49 0) 4 hec) payload) e ∙ ap (λ (x : List ℕ). header_octets h ++ hec ∷ x) (append-nil payload)

decoded_again : (cell : List ℕ) (p : ℕ) (a b c d : ℕ) (rest : List ℕ) → cell ≡ a ∷ b ∷ c ∷ d ∷ rest
    → a < 256 → b < 256 → c < 256 → d < 256 → decoded p (coded p cell) ≡ cell
unfolding decoded coded
decoded_again cell p a b c d rest e ha hb hc hd =
    let h : ℕ = header_of (a ∷ b ∷ c ∷ d ∷ rest) in
    let x : ℕ = bit_xor h (header_mask p) in
    let hl : h < 2 ^ 32 = omega arith in
    let xl : x < 2 ^ 32 = xor_lt 32 h (header_mask p) hl (header_mask_lt p) in
    ap (λ (c : List ℕ). decoded p (coded p c)) e
    ∙ ap₂ (λ (y : ℕ) (zs : List ℕ). header_octets (bit_xor y (header_mask p)) ++ zs)
    (header_of_octets x ((coded_header h p).hec ∷ masked 8 p rest) xl) (masked_twice rest 8 p)
    ∙ ap (λ (y : ℕ). header_octets y ++ rest) (xor_assoc h (header_mask p) (header_mask p) ∙ ap (bit_xor h) (xor_self (header_mask p)) ∙ xor_zero_r h)
    ∙ ap (λ (y : List ℕ). y ++ rest) (octets_of_header a b c d ha hb hc hd)
    ∙ sym e

-- the first four octets of a cell apart
four_and_rest : (cell : List ℕ) → length cell ≡ 52 → cell ≡ get_or cell 0 0 ∷ get_or cell 1 0 ∷ get_or cell 2 0 ∷ get_or cell 3 0 ∷ drop 4 cell
four_and_rest [] l = absurd (let z : ⊥ = omega arith in z)
four_and_rest (a ∷ []) l = absurd (let z : ⊥ = omega arith in z)
four_and_rest (a ∷ b ∷ []) l = absurd (let z : ⊥ = omega arith in z)
four_and_rest (a ∷ b ∷ c ∷ []) l = absurd (let z : ⊥ = omega arith in z)
four_and_rest (a ∷ b ∷ c ∷ d ∷ rest) l = refl

-- as the code has it
pub decoded_coded : (p : ℕ) (cell : List ℕ) → length cell ≡ 52 → ((i : ℕ) → get_or cell i 0 < 256) → decoded p (coded p cell) ≡ cell
decoded_coded p cell long octet =
    decoded_again cell p (get_or cell 0 0) (get_or cell 1 0) (get_or cell 2 0) (get_or cell 3 0) (drop 4 cell) (four_and_rest cell long)
    (octet 0) (octet 1) (octet 2) (octet 3)

-- the header of a coded cell, read off its octets
pub coded_header_on : (cell : List ℕ) (p : ℕ) → header_of cell < 2 ^ 32
    → ◌≡◌ {A = LineHeader} (record { header = record { 0 = header_of (coded p cell) }; hec = get_or (coded p cell) 4 0 }) (coded_header (header_of cell) p)
unfolding coded
coded_header_on cell p h =
    let line : LineHeader = coded_header (header_of cell) p in
    ap (λ (x : ℕ). record { header = record { 0 = x }; hec = line.hec })
    (header_of_octets line.header.0 (line.hec ∷ masked 8 p (drop 4 cell)) (xor_lt 32 (header_of cell) (header_mask p) h (header_mask_lt p)))
