-- Long division by the divisor: it is linear, it finds the one remainder, and it may go octet by octet.
use Rattle.std.proofs.Common.{◌≡◌, ℕ, zero, suc, refl, arith, ◌+◌, ◌*◌, ◌/◌, ◌%◌, ◌^◌, ◌<◌, T, List, [], ◌∷◌, get_or, sym, ap, ◌∙◌, subst, ap₂, mod-lt, div-one, pow_pos}
use lib.Bits.{bit_xor, bit_and}
use Rattle.cell.specs.Linear.{Linear}
use Rattle.cell.specs.CheckOctet.{check_octet, LeavesCheckOctet}
use Rattle.cell.specs.Polynomial.{divisor, coefficient, product, remainder, Division, TheRemainder}
use Rattle.cell.proofs.Linear.{lin_id, lin_zero_word, lin_xor, lin_comp, lin_shr, lin_shl, lin_mod, lin_bit, lin_and, agree, basis}

lin_coefficient : (i c : ℕ) → Linear (λ p. coefficient i p * c)
lin_coefficient i c = lin_bit c (λ p. p / 2 ^ i) (lin_shr i (λ p. p) lin_id)

lin_product : (n q : ℕ) → Linear (λ p. product n p q)
unfolding product
lin_product zero q = lin_zero_word
lin_product (suc n) q = lin_xor (λ p. product n p q) (λ p. coefficient n p * (q * 2 ^ n)) (lin_product n q) (lin_coefficient n (q * 2 ^ n))

-- one step of the division
lin_taken : (n : ℕ) → Linear (λ p. bit_xor p (coefficient (8 + n) p * (divisor * 2 ^ n)))
lin_taken n = lin_xor (λ p. p) (λ p. coefficient (8 + n) p * (divisor * 2 ^ n)) lin_id (lin_coefficient (8 + n) (divisor * 2 ^ n))

pub lin_remainder : (n : ℕ) → Linear (remainder n)
unfolding remainder
lin_remainder zero = lin_id
lin_remainder (suc n) = lin_comp (remainder n) (λ p. bit_xor p (coefficient (8 + n) p * (divisor * 2 ^ n))) (lin_remainder n) (lin_taken n)

quotient : ℕ → ℕ → ℕ
quotient zero p = 0
quotient (suc n) p = bit_xor (coefficient (8 + n) p * 2 ^ n) (quotient n (bit_xor p (coefficient (8 + n) p * (divisor * 2 ^ n))))

lin_quotient : (n : ℕ) → Linear (quotient n)
unfolding quotient
lin_quotient zero = lin_zero_word
lin_quotient (suc n) =
    lin_xor (λ p. coefficient (8 + n) p * 2 ^ n) (λ p. quotient n (bit_xor p (coefficient (8 + n) p * (divisor * 2 ^ n))))
    (lin_coefficient (8 + n) (2 ^ n))
    (lin_comp (quotient n) (λ p. bit_xor p (coefficient (8 + n) p * (divisor * 2 ^ n))) (lin_quotient n) (lin_taken n))

-- a linear function whose values at the powers of two are below 2 ^ k has all its values there
small : (f : ℕ → ℕ) (k n : ℕ) → Linear f → T (agree n (λ x. f x % 2 ^ k) f) → (x : ℕ) → x < 2 ^ n → f x < 2 ^ k
small f k n h t x b = subst (λ (y : ℕ). y < 2 ^ k) (basis (λ x. f x % 2 ^ k) f (lin_mod k f h) h n t x b) (mod-lt (f x) (pow_pos k))

divided : (p : ℕ) → p < 2 ^ 40 → p ≡ bit_xor (product 32 (quotient 32 p) divisor) (remainder 32 p)
unfolding product quotient remainder
divided p h =
    basis (λ p. p) (λ p. bit_xor (product 32 (quotient 32 p) divisor) (remainder 32 p)) lin_id
    (lin_xor (λ p. product 32 (quotient 32 p) divisor) (remainder 32)
    (lin_comp (λ q. product 32 q divisor) (quotient 32) (lin_product 32 divisor) (lin_quotient 32)) (lin_remainder 32))
    40 tt p h

multiple_leaves_0 : (q : ℕ) → q < 2 ^ 32 → remainder 32 (product 32 q divisor) ≡ 0
unfolding product remainder
multiple_leaves_0 q h =
    basis (λ q. remainder 32 (product 32 q divisor)) (λ q. 0)
    (lin_comp (remainder 32) (λ q. product 32 q divisor) (lin_remainder 32) (lin_product 32 divisor)) lin_zero_word 32 tt q h

octet_leaves_itself : (r : ℕ) → r < 2 ^ 8 → remainder 32 r ≡ r
unfolding remainder
octet_leaves_itself r h = basis (remainder 32) (λ r. r) (lin_remainder 32) lin_id 8 tt r h

pub remainder_lt : (p : ℕ) → p < 2 ^ 40 → remainder 32 p < 2 ^ 8
unfolding remainder
remainder_lt = small (remainder 32) 8 40 (lin_remainder 32) tt

quotient_lt : (p : ℕ) → p < 2 ^ 40 → quotient 32 p < 2 ^ 32
unfolding quotient
quotient_lt = small (quotient 32) 32 40 (lin_quotient 32) tt

only : (p q s : ℕ) → Division p q s → s ≡ remainder 32 p
only p q s (k, b, e) =
    sym (ap (remainder 32) e ∙ lin_remainder 32 (product 32 q divisor) s ∙ ap₂ bit_xor (multiple_leaves_0 q k) (octet_leaves_itself s b))

pub the_remainder : (p : ℕ) → p < 2 ^ 40 → TheRemainder p (remainder 32 p)
the_remainder p h = ((quotient 32 p, (quotient_lt p h, remainder_lt p h, divided p h)), only p)

-- ---- as the code has it

moved : (k : ℕ) (f : ℕ → ℕ) → Linear f → Linear (λ x. f x * 2 ^ k % 2 ^ 16)
moved k f h = lin_mod 16 (λ x. f x * 2 ^ k) (lin_shl k f h)

-- a word moved up by 2, 1 and 0
abbrev copies : ℕ → ℕ
copies x = bit_xor (bit_xor (x * 2 ^ 2 % 2 ^ 16) (x * 2 ^ 1 % 2 ^ 16)) x

lin_copies : Linear copies
lin_copies =
    lin_xor (λ x. bit_xor (x * 2 ^ 2 % 2 ^ 16) (x * 2 ^ 1 % 2 ^ 16)) (λ x. x)
    (lin_xor (λ x. x * 2 ^ 2 % 2 ^ 16) (λ x. x * 2 ^ 1 % 2 ^ 16) (moved 2 (λ x. x) lin_id) (moved 1 (λ x. x) lin_id)) lin_id

-- its copies, and those of what they carry past x^7
abbrev pub folded : ℕ → ℕ
folded x =
    let y : ℕ = copies x / 2 ^ 8 in
    bit_and (bit_xor (bit_xor (bit_xor (copies x) (y * 2 ^ 2 % 2 ^ 16)) (y * 2 ^ 1 % 2 ^ 16)) y) 0xff

lin_folded : Linear folded
lin_folded =
    let y : ℕ → ℕ = λ x. copies x / 2 ^ 8 in
    let ly : Linear y = lin_shr 8 copies lin_copies in
    lin_and 0xff (λ x. bit_xor (bit_xor (bit_xor (copies x) (y x * 2 ^ 2 % 2 ^ 16)) (y x * 2 ^ 1 % 2 ^ 16)) (y x))
    (lin_xor (λ x. bit_xor (bit_xor (copies x) (y x * 2 ^ 2 % 2 ^ 16)) (y x * 2 ^ 1 % 2 ^ 16)) y
    (lin_xor (λ x. bit_xor (copies x) (y x * 2 ^ 2 % 2 ^ 16)) (λ x. y x * 2 ^ 1 % 2 ^ 16)
    (lin_xor copies (λ x. y x * 2 ^ 2 % 2 ^ 16) lin_copies (moved 2 y ly)) (moved 1 y ly))
    ly)

lin_octet_remainder : Linear (λ x. remainder 8 (x * 2 ^ 8))
lin_octet_remainder = lin_comp (remainder 8) (λ x. x * 2 ^ 8) (lin_remainder 8) (lin_shl 8 (λ x. x) lin_id)

pub folded_is : (x : ℕ) → x < 2 ^ 8 → folded x ≡ remainder 8 (x * 2 ^ 8)
unfolding remainder
folded_is x h = basis folded (λ x. remainder 8 (x * 2 ^ 8)) lin_folded lin_octet_remainder 8 tt x h

-- one octet more, the one that begins at bit k
onwards : ℕ → (ℕ → ℕ) → ℕ → ℕ
onwards k f h = remainder 8 (bit_xor (f h) (h / 2 ^ k % 2 ^ 8) * 2 ^ 8)

lin_octet : (k : ℕ) → Linear (λ h. h / 2 ^ k % 2 ^ 8)
lin_octet k = lin_mod 8 (λ h. h / 2 ^ k) (lin_shr k (λ h. h) lin_id)

lin_onwards : (k : ℕ) (f : ℕ → ℕ) → Linear f → Linear (onwards k f)
unfolding onwards
lin_onwards k f hf =
    lin_comp (λ x. remainder 8 (x * 2 ^ 8)) (λ h. bit_xor (f h) (h / 2 ^ k % 2 ^ 8)) lin_octet_remainder
    (lin_xor f (λ h. h / 2 ^ k % 2 ^ 8) hf (lin_octet k))

first : ℕ → ℕ
first h = remainder 8 (h / 2 ^ 24 % 2 ^ 8 * 2 ^ 8)

lin_first : Linear first
unfolding first
lin_first = lin_comp (λ x. remainder 8 (x * 2 ^ 8)) (λ h. h / 2 ^ 24 % 2 ^ 8) lin_octet_remainder (lin_octet 24)

four : ℕ → ℕ
four = onwards 0 (onwards 8 (onwards 16 first))

four_is : (h : ℕ) → h < 2 ^ 32 → four h ≡ remainder 32 (h * 2 ^ 8)
unfolding four onwards first remainder
four_is h b =
    basis four (λ x. remainder 32 (x * 2 ^ 8))
    (lin_onwards 0 (onwards 8 (onwards 16 first)) (lin_onwards 8 (onwards 16 first) (lin_onwards 16 first lin_first)))
    (lin_comp (remainder 32) (λ x. x * 2 ^ 8) (lin_remainder 32) (lin_shl 8 (λ x. x) lin_id)) 32 tt h b

-- the four steps of the code over the octets of the header, given as equations
pub by_octets : (h : ℕ) (l : List ℕ) {r1 r2 r3 r4 : ℕ} → h < 2 ^ 32
    → l ≡ h / 2 ^ 24 % 2 ^ 8 ∷ h / 2 ^ 16 % 2 ^ 8 ∷ h / 2 ^ 8 % 2 ^ 8 ∷ h % 2 ^ 8 ∷ []
    → r1 ≡ remainder 8 (get_or l 0 0 * 2 ^ 8) → r2 ≡ remainder 8 (bit_xor r1 (get_or l 1 0) * 2 ^ 8)
    → r3 ≡ remainder 8 (bit_xor r2 (get_or l 2 0) * 2 ^ 8) → r4 ≡ remainder 8 (bit_xor r3 (get_or l 3 0) * 2 ^ 8)
    → r4 ≡ remainder 32 (h * 2 ^ 8)
unfolding four onwards first
by_octets h l b e e1 e2 e3 e4 =
    let at : (k : ℕ) → get_or l k 0 ≡ get_or (h / 2 ^ 24 % 2 ^ 8 ∷ h / 2 ^ 16 % 2 ^ 8 ∷ h / 2 ^ 8 % 2 ^ 8 ∷ h % 2 ^ 8 ∷ []) k 0 =
    λ k. ap (λ (l : List ℕ). get_or l k 0) e in
    let on : (x y : ℕ) → ℕ = λ x y. remainder 8 (bit_xor x y * 2 ^ 8) in
    let f1 : _ ≡ first h = e1 ∙ ap (λ (x : ℕ). remainder 8 (x * 2 ^ 8)) (at 0) in
    let f2 = e2 ∙ ap₂ on f1 (at 1) in
    let f3 = e3 ∙ ap₂ on f2 (at 2) in
    e4 ∙ ap₂ on f3 (at 3 ∙ ap (λ (x : ℕ). x % 2 ^ 8) (sym (div-one h))) ∙ four_is h b

pub octets_leave : (h r1 r2 r3 r4 : ℕ) → h < 2 ^ 32
    → r1 ≡ remainder 8 (h / 2 ^ 24 % 2 ^ 8 * 2 ^ 8) → r2 ≡ remainder 8 (bit_xor r1 (h / 2 ^ 16 % 2 ^ 8) * 2 ^ 8)
    → r3 ≡ remainder 8 (bit_xor r2 (h / 2 ^ 8 % 2 ^ 8) * 2 ^ 8) → r4 ≡ remainder 8 (bit_xor r3 (h % 2 ^ 8) * 2 ^ 8)
    → r4 ≡ remainder 32 (h * 2 ^ 8)
octets_leave h r1 r2 r3 r4 b e1 e2 e3 e4 = by_octets h _ b refl e1 e2 e3 e4

pub leaves_check_octet : (h c : ℕ) → h < 2 ^ 32 → c ≡ check_octet h → LeavesCheckOctet h c
leaves_check_octet h c b e = record { rest = remainder 32 (h * 2 ^ 8); only = the_remainder (h * 2 ^ 8) (omega arith); added = e }
