-- Bits as numbers: the number of a list of bits, the window of the last forty, and the octets of bits.
-- Knows of the tracker's window and of the bits of octets only.
--
--   bit b         a bit as a number
--   value bs      the number of the bits bs, the first on top (value_from n bs: below the number n)
--   octets_of bs  the octets of the bits bs, eight by eight; a rest of fewer than eight is left out
--   into w bs     the window w after the bits bs
use Rattle.std.proofs.Common.{◌≡◌, ℕ, suc, ◌+◌, ◌*◌, ◌%◌, ◌^◌, ◌<◌, Bool, true, false, cond, T, eqb, List, [], ◌∷◌, ◌++◌, length, sym, refl, ap, ◌∙◌, subst, ap₂, add_assoc, mod-eq_of_lt, mul_assoc, mul_comm, add-mul, pow-suc, arith, eqb→eq}
use Rattle.std.specs.List.{AllByRecursion}
use Rattle.cell.specs.Tests.{below}
use Rattle.cell.proofs.Table.{below_at}
use Rattle.tracker.specs.declared.tracker.Tracker.{Tracker}
use Rattle.tracker.specs.Window.{shifted}
use Rattle.receiver.specs.Run.{octet_bits, bits_of, step, after}

abbrev pub bit : Bool → ℕ
bit b = cond b 1 0

abbrev pub value_from : ℕ → List Bool → ℕ
value_from n [] = n
value_from n (b ∷ bs) = value_from (n * 2 + bit b) bs

unfoldable pub value : List Bool → ℕ
value bs = value_from 0 bs

abbrev pub octets_of : List Bool → List ℕ
octets_of (a ∷ b ∷ c ∷ d ∷ e ∷ f ∷ g ∷ h ∷ r) = value (a ∷ b ∷ c ∷ d ∷ e ∷ f ∷ g ∷ h ∷ []) ∷ octets_of r
octets_of (a ∷ b ∷ c ∷ d ∷ e ∷ f ∷ g ∷ []) = []
octets_of (a ∷ b ∷ c ∷ d ∷ e ∷ f ∷ []) = []
octets_of (a ∷ b ∷ c ∷ d ∷ e ∷ []) = []
octets_of (a ∷ b ∷ c ∷ d ∷ []) = []
octets_of (a ∷ b ∷ c ∷ []) = []
octets_of (a ∷ b ∷ []) = []
octets_of (a ∷ []) = []
octets_of [] = []

-- ---- the number of bits

pub bit_lt : (b : Bool) → bit b < 2
bit_lt true = omega arith
bit_lt false = omega arith

pub value_from_lem : (bs : List Bool) (n : ℕ) → value_from n bs ≡ n * 2 ^ length bs + value_from 0 bs
value_from_lem [] n = omega arith
value_from_lem (b ∷ bs) n =
    let h = value_from_lem bs (n * 2 + bit b) in
    let k = value_from_lem bs (0 * 2 + bit b) in
    let e : n * 2 ^ suc (length bs) ≡ n * 2 * 2 ^ length bs = ap (λ (z : ℕ). n * z) (pow-suc 2 (length bs) ∙ mul_comm (2 ^ length bs) 2) ∙ sym (mul_assoc n 2 (2 ^ length bs)) in
    h ∙ sum n (bit b) (2 ^ length bs) (value_from 0 bs) ∙ ap₂ (λ (x y : ℕ). x + y) (sym e) (sym (k ∙ zero_sum (bit b) (2 ^ length bs) (value_from 0 bs)))
  where
    sum : (n c q v : ℕ) → (n * 2 + c) * q + v ≡ n * 2 * q + (c * q + v)
    sum n c q v = ap (λ (z : ℕ). z + v) (add-mul (n * 2) c q) ∙ add_assoc (n * 2 * q) (c * q) v

    zero_sum : (c q v : ℕ) → (0 * 2 + c) * q + v ≡ c * q + v
    zero_sum c q v = ap (λ (z : ℕ). z * q + v) (let z : 0 * 2 + c ≡ c = omega arith in z)

pub value_lt : (bs : List Bool) → value_from 0 bs < 2 ^ length bs
value_lt [] = omega arith
value_lt (b ∷ bs) = go b (value_from_lem bs (0 * 2 + bit b)) (pow-suc 2 (length bs)) (value_lt bs)
  where
    go : (b : Bool) → value_from (0 * 2 + bit b) bs ≡ (0 * 2 + bit b) * 2 ^ length bs + value_from 0 bs → 2 ^ suc (length bs) ≡ 2 ^ length bs * 2
        → value_from 0 bs < 2 ^ length bs → value_from (0 * 2 + bit b) bs < 2 ^ suc (length bs)
    go true e p h = omega (arith, e, p, h)
    go false e p h = omega (arith, e, p, h)

pub value_append : (xs ys : List Bool) (n : ℕ) → value_from n (xs ++ ys) ≡ value_from (value_from n xs) ys
value_append [] ys n = refl
value_append (x ∷ xs) ys n = value_append xs ys (n * 2 + bit x)

-- ---- the window

unfoldable pub into : ℕ → List Bool → ℕ
into w [] = w
into w (b ∷ bs) = into (shifted w b) bs

pub window_into : (bs : List Bool) (s : Tracker) → (after s bs).window.bits ≡ into s.window.bits bs
unfolding step into
window_into [] s = refl
window_into (b ∷ bs) s = window_into bs (step s b)

shifted_is : (w : ℕ) (b : Bool) → shifted w b ≡ (w * 2 + bit b) % 2 ^ 40
shifted_is w true = omega arith
shifted_is w false = omega arith

into_mod : (bs : List Bool) (w n : ℕ) → w ≡ n % 2 ^ 40 → into w bs ≡ value_from n bs % 2 ^ 40
unfolding into
into_mod [] w n e = e
into_mod (b ∷ bs) w n e = into_mod bs (shifted w b) (n * 2 + bit b) (shifted_is w b ∙ let h = bit_lt b in omega arith)

into_any : (b : Bool) (bs : List Bool) (w : ℕ) → into w (b ∷ bs) ≡ value_from w (b ∷ bs) % 2 ^ 40
unfolding into
into_any b bs w = into_mod bs (shifted w b) (w * 2 + bit b) (shifted_is w b)

-- after forty bits the window is their number
pub window_header : (bs : List Bool) (s : Tracker) → length bs ≡ 40 → (after s bs).window.bits ≡ value bs
unfolding value
window_header [] s e = absurd (let z : ⊥ = omega arith in z)
window_header (b ∷ bs) s e =
    let w : ℕ = s.window.bits in
    let f : value_from w (b ∷ bs) ≡ w * 2 ^ 40 + value_from 0 (b ∷ bs) = value_from_lem (b ∷ bs) w ∙ ap (λ (z : ℕ). w * 2 ^ z + value_from 0 (b ∷ bs)) e in
    let l : value_from 0 (b ∷ bs) < 2 ^ 40 = subst (λ (z : ℕ). value_from 0 (b ∷ bs) < 2 ^ z) e (value_lt (b ∷ bs)) in
    window_into (b ∷ bs) s ∙ into_any b bs w ∙ ap (λ (z : ℕ). z % 2 ^ 40) f ∙ over w (value_from 0 (b ∷ bs)) ∙ mod-eq_of_lt l
  where
    over : (x y : ℕ) → (x * 2 ^ 40 + y) % 2 ^ 40 ≡ y % 2 ^ 40
    over x y = omega arith

-- the last octet of the window is that of the last eight bits
pub window_octet : (a b c d e f g h : Bool) (w : ℕ)
    → shifted (shifted (shifted (shifted (shifted (shifted (shifted (shifted w a) b) c) d) e) f) g) h % 2 ^ 8 ≡ value (a ∷ b ∷ c ∷ d ∷ e ∷ f ∷ g ∷ h ∷ [])
unfolding value into
window_octet a b c d e f g h w =
    ap (λ (z : ℕ). z % 2 ^ 8) (into_any a (b ∷ c ∷ d ∷ e ∷ f ∷ g ∷ h ∷ []) w ∙ ap (λ (z : ℕ). z % 2 ^ 40) (value_from_lem (a ∷ b ∷ c ∷ d ∷ e ∷ f ∷ g ∷ h ∷ []) w))
    ∙ low w (value_from 0 (a ∷ b ∷ c ∷ d ∷ e ∷ f ∷ g ∷ h ∷ [])) (value_lt (a ∷ b ∷ c ∷ d ∷ e ∷ f ∷ g ∷ h ∷ []))
  where
    low : (x v : ℕ) → v < 2 ^ 8 → (x * 2 ^ 8 + v) % 2 ^ 40 % 2 ^ 8 ≡ v
    low x v h = omega arith

-- ---- the bits of octets

same_octet : ℕ → Bool
same_octet o = eqb (value (octet_bits o)) o

all_octets : T (below 256 same_octet)
unfolding same_octet value octet_bits
all_octets = tt

pub value_octet : (o : ℕ) → o < 2 ^ 8 → value (octet_bits o) ≡ o
unfolding same_octet
value_octet o h = eqb→eq (value (octet_bits o)) o (below_at 256 same_octet all_octets o h)

pub octets_of_lem : (os : List ℕ) → AllByRecursion (λ x. x < 2 ^ 8) os → octets_of (bits_of os) ≡ os
unfolding octet_bits
octets_of_lem [] h = refl
octets_of_lem (o ∷ os) h = ap₂ (λ (x : ℕ) (xs : List ℕ). x ∷ xs) (value_octet o h.0) (octets_of_lem os h.1)

pub length-bits_of : (os : List ℕ) → length (bits_of os) ≡ 8 * length os
unfolding octet_bits
length-bits_of [] = refl
length-bits_of (o ∷ os) = let h = length-bits_of os in omega arith
