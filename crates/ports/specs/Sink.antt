-- What a sink means, and what a put does to it.
--
--   SinkState                        for each connection the cells held and the space left, for each header whether it is served
--   PutWhy s header payload e        why a put is refused with e; the rules are tried in the order of their numbers
--   Put s header payload s'          the cell goes in: its connection's list alone grows, its connection's space falls by 1,
--                                    every other space by 0 or 1, and the served headers stay
--   PutAnswer s header payload r s'  what a put answers, and the state after it
use Rattle.std.specs.Prelude.{◌≡◌, ℕ, ◌+◌, ◌≤◌, Bool, true, false, List, [], ◌∷◌, ◌++◌, length, Result, MatchResult, ◌≢◌}
use Rattle.cell.specs.Header.{connection_of, reserved}
use Rattle.cell.specs.Refusal.{number_of}
use Rattle.cell.specs.declared.refusal.Refusal.{Refusal}
use Rattle.cell.specs.declared.refusal.Refusal.TheVariants.{WrongLength, ReservedHeader, NotServed, NoSpace}
use Rattle.ports.specs.Cell.{Cell}

pub record SinkState : Type 0 where
  pub held : ℕ → List Cell
  pub space : ℕ → ℕ
  pub serves : ℕ → Bool

abbrev pub PutWhy : SinkState → ℕ → List ℕ → Refusal → Type 0
PutWhy s header payload WrongLength = (number_of WrongLength ≡ 4) × (length payload ≢ 48)
PutWhy s header payload ReservedHeader = (number_of ReservedHeader ≡ 5) × (length payload ≡ 48) × (reserved header ≡ true)
PutWhy s header payload NotServed = (number_of NotServed ≡ 6) × (length payload ≡ 48) × (reserved header ≡ false) × (s.serves header ≡ false)
PutWhy s header payload NoSpace =
    (number_of NoSpace ≡ 7) × (length payload ≡ 48) × (reserved header ≡ false) × (s.serves header ≡ true) × (s.space (connection_of header) ≡ 0)
PutWhy s header payload _ = ⊥

pub record Put (s : SinkState) (header : ℕ) (payload : List ℕ) (s' : SinkState) : Type 0 where
  pub whole : length payload ≡ 48
  pub user : reserved header ≡ false
  pub served : s.serves header ≡ true
  pub appended : s'.held (connection_of header) ≡ s.held (connection_of header) ++ record { header = header; payload = payload } ∷ []
  pub others : (k : ℕ) → (k ≢ connection_of header) → s'.held k ≡ s.held k
  pub lowered : s'.space (connection_of header) + 1 ≡ s.space (connection_of header)
  pub falls : (k : ℕ) → (s'.space k ≤ s.space k) × (s.space k ≤ s'.space k + 1)
  pub serving : (h : ℕ) → s'.serves h ≡ s.serves h

abbrev pub PutAnswer : {X : Type 0} → SinkState → ℕ → List ℕ → Result X Refusal → SinkState → Type 0
PutAnswer s header payload r s' = MatchResult r (λ _. Put s header payload s') (λ e. PutWhy s header payload e × (s' ≡ s))
