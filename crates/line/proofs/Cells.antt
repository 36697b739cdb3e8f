-- One cell, bit by bit: where the end stands while a payload and a header come in, and the payload that it collects.
-- Knows nothing of sinks and of the check octet, and of the scrambler only that it keeps the length of a payload.
--
--   at m a          the state in the mode m at the place a
--   At s m a        the end s is in that state, with room for a payload
--   synced n c q u  SYNC after n wrong headers in a row, and Steady with the confidence c, the phase q and the samples u
--   paying j k l    in a payload, with j bits to come after the next
--   on bs j         j, and one more for each of the bits bs
--   Cut n w         n bits of w, one more, and the rest
--   Ended n w       n bits of w, and one more, the last
use Rattle.std.proofs.Common.{◌≡◌, ℕ, zero, suc, ◌+◌, ◌-◌, ◌*◌, ◌/◌, ◌%◌, ◌^◌, ◌<◌, ◌≤◌, Bool, true, false, cond, ltb, List, [], ◌∷◌, ◌++◌, length, take, set, Some, None, Option, sym, refl, ap, ◌∙◌, subst, ap₂, append_assoc, arith, length-set, le-ltb, lt-ltb}
use Rattle.std.proofs.lemmas.List.{drop_all}
use native.Mathlib.Decide.{dec_lt}
use lib.Seq.{set_split, take-suc-set}
use Rattle.cell.specs.declared.header.Header as headers
use Rattle.scrambler.proofs.Payloads.{length-masked}
use Rattle.tracker.specs.declared.state.Mode.{Mode}
use Rattle.tracker.specs.declared.state.Delineation.TheVariants.{Sync}
use Rattle.tracker.specs.declared.state.Descrambler.TheVariants.{Steady}
use Rattle.tracker.specs.declared.state.Lock.{Lock}
use Rattle.tracker.specs.declared.state.Place.{Place}
use Rattle.tracker.specs.declared.state.Place.TheVariants.{Hunt, Payload, Header}
use Rattle.tracker.specs.declared.state.Control.{Control}
use Rattle.tracker.specs.declared.tracker.Tracker.{Tracker}
use Rattle.tracker.specs.Window.{counted, shifted}
use Rattle.tracker.specs.Rules.{phase_of}
use Rattle.tracker.specs.Tracker.{control_after, filled, descrambled, unmasked}
use Rattle.receiver.specs.Run.{step, after}
use Rattle.line.proofs.Bits.{value, octets_of, window_octet}

abbrev pub at : Mode → Place → Control
at m p = record { mode = m; place = p }

pub record At (s : Tracker) (m : Mode) (p : Place) : Type 0 where
  pub control : s.control ≡ at m p
  pub long : length s.payload ≡ 48

abbrev pub synced : ℕ → ℕ → ℕ → ℕ → Lock
synced n c q u = record { delineation = Sync n; descrambler = Steady c q; samples = u }

abbrev pub paying : ℕ → Option headers.Header → Lock → Place
paying j k l = Payload (j / 8) (j % 8) k l

abbrev pub on : List Bool → ℕ → ℕ
on [] j = j
on (b ∷ bs) j = suc (on bs j)

pub on_length : (bs : List Bool) (j : ℕ) → on bs j ≡ length bs + j
on_length [] j = omega arith
on_length (b ∷ bs) j = let h = on_length bs j in omega arith

pub record Cut (n : ℕ) (w : List Bool) : Type 0 where
  pub front : List Bool
  pub last : Bool
  pub back : List Bool
  pub is : w ≡ front ++ last ∷ back
  pub long : length front ≡ n

pub cut_bits : (n : ℕ) (w : List Bool) → n < length w → Cut n w
cut_bits zero [] h = absurd (omega arith)
cut_bits zero (b ∷ w) h = record { front = []; last = b; back = w; is = refl; long = refl }
cut_bits (suc n) [] h = absurd (omega arith)
cut_bits (suc n) (b ∷ w) h =
    let c = cut_bits n w (omega arith) in
    record { front = b ∷ c.front; last = c.last; back = c.back; is = ap (λ l. b ∷ l) c.is; long = ap suc c.long }

pub record Ended (n : ℕ) (w : List Bool) : Type 0 where
  pub front : List Bool
  pub last : Bool
  pub is : w ≡ front ++ last ∷ []
  pub long : length front ≡ n

pub ended : (n : ℕ) (w : List Bool) → length w ≡ suc n → Ended n w
ended n [] h = absurd (omega arith)
ended zero (b ∷ []) h = record { front = []; last = b; is = refl; long = refl }
ended zero (b ∷ c ∷ w) h = absurd (omega arith)
ended (suc n) (b ∷ w) h =
    let c = ended n w (omega arith) in
    record { front = b ∷ c.front; last = c.last; is = ap (λ l. b ∷ l) c.is; long = ap suc c.long }

-- ---- where the end stands

pub pay_next : (m : Mode) (j : ℕ) (k : Option headers.Header) (l : Lock) (n w : ℕ) → control_after m (paying (suc j) k l) n w ≡ at m (paying j k l)
pay_next m j k l n w = go (dec_lt 0 (suc j % 8))
  where
    go : Dec (0 < suc j % 8) → control_after m (paying (suc j) k l) n w ≡ at m (paying j k l)
    go (yes h) =
        let t : ltb 0 (suc j % 8) ≡ true = lt-ltb 0 (suc j % 8) h in
        let a : suc j / 8 ≡ j / 8 = omega arith in
        let b : suc j % 8 - 1 ≡ j % 8 = omega arith in
        rw t (ap₂ (λ (x y : ℕ). at m (Payload x y k l)) a b)
    go (no h) =
        let t : ltb 0 (suc j % 8) ≡ false = le-ltb 0 (suc j % 8) (omega arith) in
        let u : ltb 0 (suc j / 8) ≡ true = lt-ltb 0 (suc j / 8) (omega arith) in
        let a : suc j / 8 - 1 ≡ j / 8 = omega arith in
        let b : 7 ≡ j % 8 = omega arith in
        rw (t, u) (ap₂ (λ (x y : ℕ). at m (Payload x y k l)) a b)

pub head_next : (m : Mode) (j : ℕ) (l : Lock) (n w : ℕ) → control_after m (Header (suc j) l) n w ≡ at m (Header j l)
head_next m j l n w =
    let t : ltb 0 (suc j) ≡ true = lt-ltb 0 (suc j) (omega arith) in
    let a : suc j - 1 ≡ j = omega arith in
    rw t (ap (λ (x : ℕ). at m (Header x l)) a)

pub step_control : (s : Tracker) (b : Bool) (m : Mode) (p : Place) (c : Control) → ((n w : ℕ) → control_after m p n w ≡ c) → s.control ≡ at m p
    → (step s b).control ≡ c
unfolding step
step_control s b m p c f e = ap (λ (z : Control). control_after z.mode z.place (counted s.window.come) (shifted s.window.bits b)) e
    ∙ f (counted s.window.come) (shifted s.window.bits b)

pub pay_run : (bs : List Bool) (j : ℕ) (s : Tracker) (m : Mode) (k : Option headers.Header) (l : Lock) → s.control ≡ at m (paying (on bs j) k l)
    → (after s bs).control ≡ at m (paying j k l)
pay_run [] j s m k l e = e
pay_run (b ∷ bs) j s m k l e = pay_run bs j (step s b) m k l (step_control s b m (paying (suc (on bs j)) k l) _ (pay_next m (on bs j) k l) e)

pub head_run : (bs : List Bool) (j : ℕ) (s : Tracker) (m : Mode) (l : Lock) → s.control ≡ at m (Header (on bs j) l)
    → (after s bs).control ≡ at m (Header j l)
head_run [] j s m l e = e
head_run (b ∷ bs) j s m l e = head_run bs j (step s b) m l (step_control s b m (Header (suc (on bs j)) l) _ (head_next m (on bs j) l) e)

-- ---- the payload, octet by octet

length-unmasked : (p : Option ℕ) (xs : List ℕ) → length (unmasked p xs) ≡ length xs
length-unmasked None xs = refl
length-unmasked (Some p) xs = length-masked xs 8 p

length-descrambled : (k : Option headers.Header) (l : Lock) (xs : List ℕ) → length (descrambled k l xs) ≡ length xs
length-descrambled None l xs = refl
length-descrambled (Some h) l xs = length-unmasked (phase_of l.descrambler) xs

pay_long : (t u : Bool) (k : Option headers.Header) (l : Lock) (xs : List ℕ) (i v : ℕ)
    → length (cond t xs (cond u (set xs i v) (descrambled k l (set xs i v)))) ≡ length xs
pay_long true u k l xs i v = refl
pay_long false true k l xs i v = length-set xs i v
pay_long false false k l xs i v = length-descrambled k l (set xs i v) ∙ length-set xs i v

pub place_long : (p : Place) (w : ℕ) (xs : List ℕ) → length (filled p w xs) ≡ length xs
place_long Hunt w xs = refl
place_long (Payload o b k l) w xs = pay_long (ltb 0 b) (ltb 0 o) k l xs (47 - o) (w % 2 ^ 8)
place_long (Header j l) w xs = refl

pub long_run : (bs : List Bool) (s : Tracker) → length (after s bs).payload ≡ length s.payload
unfolding step
long_run [] s = refl
long_run (b ∷ bs) s = long_run bs (step s b) ∙ place_long s.control.place (shifted s.window.bits b) s.payload

record Eight (w : List Bool) : Type 0 where
  a : Bool
  b : Bool
  c : Bool
  d : Bool
  e : Bool
  f : Bool
  g : Bool
  h : Bool
  rest : List Bool
  is : w ≡ a ∷ b ∷ c ∷ d ∷ e ∷ f ∷ g ∷ h ∷ rest

eight : (w : List Bool) → 8 ≤ length w → Eight w
eight (a ∷ b ∷ c ∷ d ∷ e ∷ f ∷ g ∷ h ∷ r) n = record { a = a; b = b; c = c; d = d; e = e; f = f; g = g; h = h; rest = r; is = refl }
eight (a ∷ b ∷ c ∷ d ∷ e ∷ f ∷ g ∷ []) n = absurd (omega arith)
eight (a ∷ b ∷ c ∷ d ∷ e ∷ f ∷ []) n = absurd (omega arith)
eight (a ∷ b ∷ c ∷ d ∷ e ∷ []) n = absurd (omega arith)
eight (a ∷ b ∷ c ∷ d ∷ []) n = absurd (omega arith)
eight (a ∷ b ∷ c ∷ []) n = absurd (omega arith)
eight (a ∷ b ∷ []) n = absurd (omega arith)
eight (a ∷ []) n = absurd (omega arith)
eight [] n = absurd (omega arith)

abbrev line_at : ℕ → ℕ → Control → List ℕ → Tracker
line_at x n c xs = record { window = record { bits = x; come = n }; control = c; payload = xs }

pub nil_of : (w : List Bool) → length w ≡ 0 → w ≡ []
nil_of [] e = refl
nil_of (b ∷ w) e = absurd (omega arith)

abbrev OctetRun : ℕ → Type 0
OctetRun o = (x n : ℕ) (m : Mode) (k : Option headers.Header) (l : Lock) (xs : List ℕ) (w : List Bool) → o ≤ 47 → length xs ≡ 48
    → length w ≡ 8 * suc o
    → (after (line_at x n (at m (Payload o 7 k l)) xs) w).payload ≡ descrambled k l (take (47 - o) xs ++ octets_of w)

last_octet : OctetRun 0
unfolding step
last_octet x n m k l xs w ho hx hw = go (eight w (omega arith))
  where
    go : Eight w → (after (line_at x n (at m (Payload 0 7 k l)) xs) w).payload ≡ descrambled k l (take 47 xs ++ octets_of w)
    go y =
        let e : y.rest ≡ [] = nil_of y.rest (let z = ap length y.is in omega arith) in
        let q : w ≡ y.a ∷ y.b ∷ y.c ∷ y.d ∷ y.e ∷ y.f ∷ y.g ∷ y.h ∷ [] = y.is
        ∙ ap (λ r. y.a ∷ y.b ∷ y.c ∷ y.d ∷ y.e ∷ y.f ∷ y.g ∷ y.h ∷ r) e in
        subst (λ v. (after (line_at x n (at m (Payload 0 7 k l)) xs) v).payload ≡ descrambled k l (take 47 xs ++ octets_of v)) (sym q)
        (ap (descrambled k l) (set_split xs 47 _ (omega arith)
        ∙ ap₂ (λ (v : ℕ) (r : List ℕ). take 47 xs ++ v ∷ r) (window_octet y.a y.b y.c y.d y.e y.f y.g y.h x)
        (drop_all 48 xs (omega arith))))

more_octets : (o : ℕ) → OctetRun o → OctetRun (suc o)
unfolding step
more_octets o ih x n m k l xs w ho hx hw = go (eight w (omega arith))
  where
    go : Eight w → (after (line_at x n (at m (Payload (suc o) 7 k l)) xs) w).payload ≡ descrambled k l (take (47 - suc o) xs ++ octets_of w)
    go y =
        let t : ltb 0 (suc o) ≡ true = lt-ltb 0 (suc o) (omega arith) in
        let u : suc o - 1 ≡ o = omega arith in
        let v : ℕ = value (y.a ∷ y.b ∷ y.c ∷ y.d ∷ y.e ∷ y.f ∷ y.g ∷ y.h ∷ []) in
        let wo = window_octet y.a y.b y.c y.d y.e y.f y.g y.h x in
        let j : 47 - o ≡ suc (47 - suc o) = omega arith in
        let x' : ℕ = shifted (shifted (shifted (shifted (shifted (shifted (shifted (shifted x y.a) y.b) y.c) y.d) y.e) y.f) y.g)
        y.h in
        let n' : ℕ = counted (counted (counted (counted (counted (counted (counted (counted n))))))) in
        let r = ih x' n' m k l (set xs (47 - suc o) v) y.rest (omega arith) (length-set xs (47 - suc o) v ∙ hx)
        (let z = ap length y.is in omega arith) in
        subst (λ z. (after (line_at x n (at m (Payload (suc o) 7 k l)) xs) z).payload ≡ descrambled k l (take (47 - suc o) xs ++ octets_of z))
        (sym y.is)
        (ap (λ (b : Bool). (after (line_at x' n' (at m (cond b (Payload (suc o - 1) 7 k l) (Header 39 l)))
        (cond b (set xs (47 - suc o) (x' % 2 ^ 8)) (descrambled k l (set xs (47 - suc o) (x' % 2 ^ 8))))) y.rest).payload) t
        ∙ ap₂ (λ (i z : ℕ). (after (line_at x' n' (at m (Payload i 7 k l)) (set xs (47 - suc o) z)) y.rest).payload) u wo
        ∙ r ∙ ap (descrambled k l)
        (ap (λ (i : ℕ). take i (set xs (47 - suc o) v) ++ octets_of y.rest) j
        ∙ ap (λ (z : List ℕ). z ++ octets_of y.rest) (take-suc-set xs (47 - suc o) v (omega arith))
        ∙ append_assoc (take (47 - suc o) xs) (v ∷ []) (octets_of y.rest)))

octet_run : (o : ℕ) → OctetRun o
octet_run zero = last_octet
octet_run (suc o) = more_octets o (octet_run o)

-- a whole payload
pub payload_run : (s : Tracker) (m : Mode) (k : Option headers.Header) (l : Lock) (w : List Bool) → At s m (Payload 47 7 k l) → length w ≡ 384
    → (after s w).payload ≡ descrambled k l (octets_of w)
payload_run s m k l w a h =
    ap (λ (c : Control). (after (line_at s.window.bits s.window.come c s.payload) w).payload) a.control
    ∙ octet_run 47 s.window.bits s.window.come m k l s.payload w (omega arith) a.long h
