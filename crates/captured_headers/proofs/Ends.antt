-- What is left of a line without a last \n, and of that without a last \r.
use Rattle.std.proofs.Common.{◌≡◌, ◌≢◌, ℕ, ◌+◌, ◌-◌, List, [], ◌∷◌, ◌++◌, length, drop, take, eqb, Bor, Option, Some, None, MatchOption, true, false, append_assoc, ◌∙◌, ap, subst, sym}
use Rattle.std.specs.Cmp.Lexicographic.{pointwise}
use Rattle.std.specs.Prelude.{unwrap_or}
use Rattle.std.proofs.lemmas.Bool.Decides.{Decides-eqb}
use Rattle.std.proofs.lemmas.Slice.Eq.{strip_suffix_is}
use Rattle.captured_headers.specs.LineEnd.{BodyOf, crlf, lf}

-- r is s without the suffix p, if it has it
abbrev Stripped : List ℕ → List ℕ → Option (Bor (List ℕ)) → Type 0
Stripped s p r =
    MatchOption r
    (pointwise eqb (drop (length s - length p) s) p ≡ false)
    (λ x. (pointwise eqb (drop (length s - length p) s) p ≡ true) × (x.now ≡ take (length s - length p) s) × (length x.now + length p ≡ length s))

by_carriage_return : (line : List ℕ) (rest : Bor (List ℕ)) (r : Option (Bor (List ℕ))) → line ≡ rest.now ++ (10 ∷ []) → MatchOption r ((front : List ℕ) → rest.now ≢ front ++ (13 ∷ [])) (λ x. rest.now ≡ x.now ++ (13 ∷ [])) → BodyOf line (unwrap_or r rest).now
by_carriage_return line rest None whole told = lf whole (λ e. told e.front e.last)
by_carriage_return line rest (Some x) whole told = crlf (whole ∙ ap (λ l. l ++ (10 ∷ [])) told ∙ append_assoc x.now (13 ∷ []) (10 ∷ []))

pub without_end : (line : List ℕ) (rest : Bor (List ℕ)) (r : Option (Bor (List ℕ))) (x : Bor (List ℕ)) → x ≡ unwrap_or r rest → Stripped line (10 ∷ []) (Some rest) → Stripped rest.now (13 ∷ []) r → BodyOf line x.now
without_end line rest r x is first second =
    let whole = strip_suffix_is Decides-eqb line (10 ∷ []) (Some rest) first in
    let told = strip_suffix_is Decides-eqb rest.now (13 ∷ []) r second in
    subst (λ (y : Bor (List ℕ)). BodyOf line y.now) (sym is) (by_carriage_return line rest r whole told)
