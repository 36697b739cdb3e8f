-- The first elements of a list, as many as there are or up to a most.
use Rattle.std.proofs.Common.{◌≡◌, ℕ, min, Bool, true, false, leb, List, length, take, sym, refl, ◌∙◌, arith, leb-false, leb-true}
use Rattle.std.proofs.lemmas.List.{take_all}

pub take_min : {X : Type 0} (m : ℕ) (xs : List X) → take (min (length xs) m) xs ≡ take m xs
take_min m xs = go (leb (length xs) m) refl
  where
    go : (b : Bool) → leb (length xs) m ≡ b → take (min (length xs) m) xs ≡ take m xs
    go true e =
        let h = leb-true _ _ e in
        let same : min (length xs) m ≡ length xs = omega arith in
        rw same (take_all (length xs) xs (omega arith) ∙ sym (take_all m xs h))
    go false e =
        let h = leb-false _ _ e in
        let same : min (length xs) m ≡ m = omega arith in rw same refl
