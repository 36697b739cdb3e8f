-- Two sources in a row.
--
--   PairTake p q place r place' p' q'  what a take answers and leaves in the two sources p and q: while a cell waits in the first, that one answers
--                                      and the second stays; after that the second answers, and the first stays empty. ps and qs say
--                                      what waits in the sources
use Rattle.std.specs.Prelude.{◌≡◌, ℕ, List, [], ◌∷◌, Result}
use Rattle.cell.specs.declared.refusal.Refusal.{Refusal}
use Rattle.ports.specs.Cell.{Cell}
use Rattle.ports.specs.Source.{Takes}

abbrev pub PairTake : {P Q X : Type 0} → (P → List Cell) → (Q → List Cell) → P → Q → List ℕ → Result X Refusal → List ℕ → P → Q → Type 0
PairTake ps qs p q place r place' p' q' =
    elim (ps p) [ [] ↦ Takes (qs q) place r place' (qs q') × (ps p' ≡ []) | c ∷ cells ↦ Takes (c ∷ cells) place r place' (ps p') × (q' ≡ q) ]
