-- The end of a line of octets: 13 and 10, or 10 alone, or none where the input ends.
--
--   EndsIn c line     the last octet of line is c
--   BodyOf line rest  rest is line without its line end
use Rattle.std.specs.Prelude.{◌≡◌, ℕ, List, [], ◌∷◌, ◌++◌}

pub record EndsIn (c : ℕ) (line : List ℕ) : Type 0 where
  pub front : List ℕ
  pub last : line ≡ front ++ (c ∷ [])

pub data BodyOf (line rest : List ℕ) : Type 0 where
  crlf : line ≡ rest ++ (13 ∷ 10 ∷ []) → BodyOf line rest
  lf : line ≡ rest ++ (10 ∷ []) → (EndsIn 13 rest → ⊥) → BodyOf line rest
  none : line ≡ rest → (EndsIn 10 line → ⊥) → BodyOf line rest
