-- What a window on places used in a circle holds after one element more, and after one less.
use Rattle.std.proofs.Common.{◌≡◌, ◌↔◌, ℕ, zero, suc, ◌+◌, ◌-◌, ◌<◌, ◌≤◌, Bool, true, false, cond, ltb, List, [], ◌∷◌, ◌++◌, length, get_or, take, drop, set, sym, refl, ap, ◌∙◌, append_assoc, arith, length-append, length-drop, length-take, ltb-false, ltb-true}
use lib.Seq.{take-set-lt}
use Rattle.std.proofs.lemmas.List.{append-nil, take_all, drop_all, drop-set-add, drop-set-lt, take-set-le, set-append_left, set-append_right, take_more_set, take_more, drop_more, take-append-le, length-take-le, get_or_default}
use Rattle.ring.specs.Window.{turned, window, around}
use Rattle.ring.specs.Ring.{held, places}
use Rattle.ring.proofs.Cut.{take_min}
use Rattle.ring.specs.declared.ring.Ring.{Ring}

module _ {X : Type 0} (xs : List X) (first : ℕ) (within : first ≤ length xs) where
  pub length-turned : length (turned xs first) ≡ length xs
  unfolding turned
  length-turned = simp (length-append, length-drop, length-take) (omega arith)

  pub length-window : (count : ℕ) → count ≤ length xs → length (window xs first count) ≡ count
  unfolding window
  length-window count h = length-take-le count (turned xs first) (omega (arith, length-turned))

  turned_set : (count : ℕ) (x : X) → first + count < length xs → turned (set xs (first + count) x) first ≡ set (turned xs first) count x
  unfolding turned
  turned_set count x h =
      let le : first ≤ first + count = omega arith in
      let lt : count < length (drop first xs) = simp length-drop (omega arith) in
      rw (drop-set-add, take-set-le, set-append_left)

  turned-set_wrapped : (count at : ℕ) (x : X) → at + length xs ≡ first + count → at < first → turned (set xs at x) first ≡ set (turned xs first) count x
  unfolding turned
  turned-set_wrapped count at x e h =
      let n : length (drop first xs) ≡ length xs - first = length-drop first xs in
      let le : length xs - first ≤ count = omega arith in
      let k : count - (length xs - first) ≡ at = omega arith in
      rw (drop-set-lt first xs at x h, take-set-lt first xs at x h, set-append_right (drop first xs) (take first xs) (length xs - first) count x n le, k)

  -- an element more, at the place after the last
  pub window_push : (count : ℕ) (x : X) → first + count < length xs → window (set xs (first + count) x) first (count + 1) ≡ window xs first count ++ x ∷ []
  unfolding window
  window_push count x h = rw (turned_set count x h) (take_more_set (turned xs first) count x (omega (arith, length-turned)))

  -- the same, where that place lies past the end
  pub window_push_wrapped : (count at : ℕ) (x : X) → at + length xs ≡ first + count → at < first → window (set xs at x) first (count + 1) ≡ window xs first count ++ x ∷ []
  unfolding window
  window_push_wrapped count at x e h = rw (turned-set_wrapped count at x e h) (take_more_set (turned xs first) count x (omega (arith, length-turned)))

-- the oldest taken away
pub window_pop : {X : Type 0} (xs : List X) (first count : ℕ) (x : X) → first < length xs → 0 < count → count ≤ length xs → x ≡ get_or xs first x → window xs first count ≡ x ∷ window xs (first + 1) (count - 1)
unfolding window turned
window_pop xs first zero x h p q e = absurd (omega arith)
window_pop xs first (suc n) x h p q e =
    let d : drop first xs ≡ x ∷ drop (first + 1) xs = drop_more xs first x h ∙ ap (λ y. y ∷ drop (first + 1) xs) (sym e) in
    let t : take (first + 1) xs ≡ take first xs ++ x ∷ [] = take_more xs first x h ∙ ap (λ y. take first xs ++ y ∷ []) (sym e) in
    let k : suc n - 1 ≡ n = omega arith in
    let le : n ≤ length (drop (first + 1) xs ++ take first xs) = simp (length-append, length-drop, length-take) (omega arith) in
    rw (d, t, k, ← append_assoc (drop (first + 1) xs) (take first xs) (x ∷ []), take-append-le n (drop (first + 1) xs ++ take first xs) (x ∷ []) le)

pub window-none : {X : Type 0} (xs : List X) (first : ℕ) → window xs first 0 ≡ []
unfolding window
window-none xs first = refl

pub window-none_at : {X : Type 0} (xs : List X) (first count : ℕ) → count ≡ 0 → window xs first count ≡ []
window-none_at xs first count e = rw e (window-none xs first)

-- the same, where the next place lies past the end
pub window_pop_turn : {X : Type 0} (xs : List X) (first count : ℕ) (x : X) → first + 1 ≡ length xs → 0 < count → count ≤ length xs → x ≡ get_or xs first x → window xs first count ≡ x ∷ window xs 0 (count - 1)
unfolding window turned
window_pop_turn xs first count x f p q e =
    let h : length xs ≤ length xs = omega arith in
    window_pop xs first count x (omega arith) p q e ∙ rw (f, drop_all (length xs) xs h, take_all (length xs) xs h, append-nil)

-- an element more, wherever its place lies
pub window_push_around : {X : Type 0} (xs : List X) (first count at : ℕ) (x : X) → first < length xs → count < length xs → at ≡ around (length xs) (first + count)
    → window (set xs at x) first (count + 1) ≡ window xs first count ++ x ∷ []
window_push_around xs first count at x f c e = go (ltb (first + count) (length xs)) refl e
  where
    go : (b : Bool) → ltb (first + count) (length xs) ≡ b → at ≡ cond b (first + count) (first + count - length xs) → window (set xs at x) first (count + 1) ≡ window xs first count ++ x ∷ []
    go true t e = rw e (window_push xs first (omega arith) count x (ltb-true _ _ t))
    go false t e =
        let h = ltb-false _ _ t in
        window_push_wrapped xs first (omega arith) count at x (omega arith) (omega arith)

-- an element less, wherever the next one's place lies
pub window_pop_around : {X : Type 0} (xs : List X) (first count next : ℕ) (x : X) → first < length xs → 0 < count → count ≤ length xs → x ≡ get_or xs first x → next ≡ around (length xs) (first + 1)
    → window xs first count ≡ x ∷ window xs next (count - 1)
window_pop_around xs first count next x f p c is e = go (ltb (first + 1) (length xs)) refl e
  where
    go : (b : Bool) → ltb (first + 1) (length xs) ≡ b → next ≡ cond b (first + 1) (first + 1 - length xs) → window xs first count ≡ x ∷ window xs next (count - 1)
    go true t e = rw e (window_pop xs first count x f p c is)
    go false t e =
        let h = ltb-false _ _ t in
        let z : next ≡ 0 = omega arith in
        rw z (window_pop_turn xs first count x (omega arith) p c is)

pub length-held : {X : Type 0} (r : Ring X) → length (held r) ≡ r.count
unfolding held
length-held r = length-window r.slots.now r.first (omega arith) r.count (omega arith)

-- ---- as the code has it

pub held_none : {X : Type 0} (r : Ring X) → r.count ≡ 0 → held r ≡ []
unfolding held
held_none r e = window-none_at r.slots.now r.first r.count e

pub none_held : {X : Type 0} (r : Ring X) → held r ≡ [] → r.count ≡ 0
none_held r e = sym (length-held r) ∙ ap length e

pub places_are : {X : Type 0} (r : Ring X) → places r ≡ length r.slots.now
unfolding places
places_are r = refl

pub front_shown : {X : Type 0} (r : Ring X) (x : X) → x ≡ get_or r.slots.now r.first x → 0 < r.count → x ∷ drop 1 (held r) ≡ held r
unfolding held
front_shown r x e p =
    let w = window_pop r.slots.now r.first r.count x (omega arith) p (omega arith) e in
    sym (w ∙ ap (λ xs. x ∷ drop 1 xs) (sym w))

-- one is held where an oldest is
pub some_held : {X : Type 0} (r : Ring X) (x : X) → held r ≡ x ∷ drop 1 (held r) → 0 < r.count
some_held r x e =
    let n : length (held r) ≡ suc (length (drop 1 (held r))) = ap length e in omega (arith, n, length-held r)

pub popped_drop : {X : Type 0} (r : Ring X) (next : ℕ) (x : X) → held r ≡ x ∷ drop 1 (held r) → next ≡ around (length r.slots.now) (r.first + 1)
    → held r ≡ x ∷ window r.slots.now next (r.count - 1)
unfolding held
popped_drop r next x e is =
    let p : 0 < r.count = some_held r x e in
    let y = get_or r.slots.now r.first x in
    let w = window_pop_around r.slots.now r.first r.count next y (omega arith) p (omega arith) (get_or_default r.slots.now r.first x y (omega arith)) is in
    e ∙ ap (λ xs. x ∷ drop 1 xs) w

pub some_free : {X : Type 0} (r : Ring X) (full : Bool) → full ≡ false → (full ≡ true) ↔ (length (held r) ≡ places r) → r.count < length r.slots.now
some_free r full f h =
    let n : r.count ≡ length r.slots.now → ⊥ = λ e. let z : true ≡ false = sym (h.1 (length-held r ∙ e ∙ sym (places_are r))) ∙ f in cc in
    omega arith

pub ruleset counting = (length-held, held_none, none_held, places_are)

pub ruleset looking = (length-held, held_none, none_held, front_shown)

pub ruleset making = (places_are, held_none, take_min, length-take)
