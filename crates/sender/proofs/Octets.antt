-- Octets: of a payload, and of a coded cell.
use Rattle.std.proofs.Common.{◌≡◌, ℕ, ◌+◌, ◌*◌, ◌%◌, ◌^◌, ◌<◌, List, [], ◌∷◌, length, get_or, drop, sym, ◌∙◌, subst, mod-lt, arith, lit<, length-drop, pow_pos}
use lib.Bits.{bit_xor, xor_lt}
use Rattle.std.specs.List.{AllByRecursion}
use Rattle.std.proofs.ByRecursion.{All-drop, All-from_get_or}
use Rattle.cell.specs.CheckOctet.{check_octet}
use Rattle.cell.specs.Polynomial.{remainder}
use Rattle.cell.specs.Header.{header_of}
use Rattle.cell.proofs.Division.{remainder_lt}
use Rattle.ports.specs.Cell.{Cell, octets}
use Rattle.ports.proofs.Octets.{header_read}
use Rattle.scrambler.specs.Coding.{header_mask, sample8, sample7, samples, masked, coded}
use Rattle.scrambler.specs.Generator.{step, iterate, octet_ahead}
use Rattle.scrambler.proofs.Codes.{header_mask_lt}
use Rattle.scrambler.proofs.Masks.{ago_lt, sample7_lt}
use Rattle.scrambler.proofs.Payloads.{length-masked}
use Rattle.sender.specs.Sender.{Octets}

pub all_octets : (xs : List ℕ) → ((i : ℕ) → get_or xs i 0 < 2 ^ 8) → AllByRecursion (λ x. x < 2 ^ 8) xs
all_octets xs h = All-from_get_or _ xs 0 (λ i _. h i)

-- of the payload of a cell in an array of octets
pub payload_octets : (xs : List ℕ) → length xs ≡ 52 → ((i : ℕ) → get_or xs i 0 < 2 ^ 8) → Octets 48 (drop 4 xs)
payload_octets xs l h = (simp length-drop (omega arith), All-drop _ 4 xs (all_octets xs h))

pub masked-octets : (xs : List ℕ) (k p : ℕ) → AllByRecursion (λ x. x < 2 ^ 8) xs → AllByRecursion (λ x. x < 2 ^ 8) (masked k p xs)
unfolding masked octet_ahead
masked-octets [] k p h = tt
masked-octets (x ∷ xs) k p h = (xor_lt 8 x (octet_ahead k p) h.0 (mod-lt (iterate (k + 8) step p) (pow_pos 8)), masked-octets xs (k + 8) p h.1)

-- of a scrambled header
pub hec_lt : (h p : ℕ) → h < 2 ^ 32 → bit_xor (check_octet h) (samples p) < 2 ^ 8
hec_lt h p b =
    let eight : sample8 p < 2 = ago_lt 211 p in
    let seven : sample7 p < 2 = sample7_lt p in
    let moved : h * 2 ^ 8 < 2 ^ 40 = omega arith in
    xor_lt 8 (check_octet h) (samples p) (xor_lt 8 (remainder 32 (h * 2 ^ 8)) 0x55 (remainder_lt (h * 2 ^ 8) moved) (lit< tt)) (omega arith)

pub coded-octets : (p : ℕ) (c : Cell) → c.header < 2 ^ 32 → Octets 48 c.payload → Octets 53 (coded p (octets c))
unfolding coded
coded-octets p c b (l, h) =
    let header : header_of (octets c) < 2 ^ 32 = subst (λ (x : ℕ). x < 2 ^ 32) (sym (header_read c b)) b in
    let x : ℕ = bit_xor (header_of (octets c)) (header_mask p) in
    let low : (n : ℕ) → n % 2 ^ 8 < 2 ^ 8 = λ n. mod-lt n (pow_pos 8) in
    let long : length (masked 8 p c.payload) ≡ 48 = length-masked c.payload 8 p ∙ l in
    (omega arith, (low _, (low _, (low _, (low _, (hec_lt x p (xor_lt 32 _ _ header (header_mask_lt p)), masked-octets c.payload 8 p h))))))
