-- Texts that spell numbers.
use Rattle.std.proofs.Common.{◌≡◌, ℕ, zero, suc, Bool, true, false, cond, eqb, List, [], ◌∷◌, drop, IsUtf8, IsAscii, Ok, Err, Result, None, MatchResult, refl, rules}
use Rattle.std.specs.Result.{result_ok}
use Rattle.std.proofs.lemmas.Option.{none-some}
use Rattle.std.specs.Str.Parse.{without_leading_plus}
use Rattle.std.proofs.lemmas.Fmt.{IsAscii-from_digits}
use Rattle.std.proofs.lemmas.Str.{IsUtf8-from_ascii}
use Rattle.receiver_vectors.specs.Number.{SpellsNumber}

ascii_behind_plus : (text : List ℕ) → IsAscii (without_leading_plus text) → IsAscii text
ascii_behind_plus [] h = h
ascii_behind_plus (c ∷ text) h = go (eqb c 43) refl h
  where
    go : (b : Bool) → eqb c 43 ≡ b → IsAscii (drop (cond b 1 0) (c ∷ text)) → IsAscii (c ∷ text)
    go true e h zero = search rules
    go true e h (suc i) = h i
    go false e h i = h i

pub numbers_are_utf8 : (text : List ℕ) → SpellsNumber text → IsUtf8 text
numbers_are_utf8 text n = IsUtf8-from_ascii text (ascii_behind_plus text (IsAscii-from_digits (without_leading_plus text) n.0.1))

-- what a clause says of an error
pub says_err : {T E : Type 0} (r : Result T E) (P : T → Type 0) (Q : E → Type 0) → None ≡ result_ok r → MatchResult r P Q → (e : E) × Q e
says_err (Ok x) P Q n m = absurd (none-some x n)
says_err (Err e) P Q n m = (e, m)
