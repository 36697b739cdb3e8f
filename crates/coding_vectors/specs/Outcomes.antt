-- What a case leads to.
--
--   found_outcome r        what comes of the finder's answer r: its phase, or its refusal
--   header_right line p    the header of a cell on the line agrees, and its syndrome is the two samples of the phase p
--   ComesBack cell p line  header and payload of the line, descrambled at p, are those of the cell
--   CellOutcome cell p r   what comes of coding a cell at p, also where it is refused
--   Answers c r            what comes of a case, also where it is refused
use Rattle.std.specs.Prelude.{◌≡◌, ℕ, Bool, false, cond, List, length, drop, replicate, Ok, Err, vec_items, Decides, Result, ◌==◌, bit_xor, slice_index}
use Rattle.cell.specs.CheckOctet.{syndrome}
use Rattle.cell.specs.Verdict.{agreeing}
use Rattle.cell.specs.Sorting.{header_of}
use Rattle.cell.specs.declared.refusal.Refusal.{Refusal}
use Rattle.scrambler.specs.Coding.{coded, header_mask, masked, samples, CodeWhy}
use Rattle.scrambler.specs.Finder.{found}
use Rattle.scrambler.specs.Generator.{next_phase, Running}
use Rattle.coding_vectors.specs.declared.cases.Case.{Case}
use Rattle.coding_vectors.specs.declared.cases.Case.TheVariants as cases
use Rattle.coding_vectors.specs.declared.outcomes.Outcome.{Outcome}
use Rattle.coding_vectors.specs.declared.outcomes.Outcome.TheVariants.{Line, Phase, Next}

abbrev pub found_outcome : Result ℕ Refusal → Result Outcome Refusal
found_outcome (Ok p) = Ok (Phase p)
found_outcome (Err e) = Err e

abbrev pub header_right : List ℕ → ℕ → Bool
header_right line p =
    let s : ℕ = syndrome (header_of line) (slice_index line 4) in
    cond (agreeing s) (s == samples p) false

pub record ComesBack (cell : List ℕ) (p : ℕ) (line : List ℕ) : Type 0 where
  pub header : bit_xor (header_of line) (header_mask p) ≡ header_of cell
  pub payload : masked 8 p (drop 5 line) ≡ drop 4 cell

abbrev pub CellOutcome : List ℕ → ℕ → Result Outcome Refusal → Type 0
CellOutcome cell p (Ok (Line line next same agrees)) =
    (length cell ≡ 52) × Running p
    × (line ≡ coded p cell) × (next ≡ next_phase p) × (agrees ≡ header_right line p)
    × Decides same (ComesBack cell p line)
CellOutcome cell p (Ok (Phase q)) = ⊥
CellOutcome cell p (Ok (Next q)) = ⊥
CellOutcome cell p (Err e) = CodeWhy cell p (replicate 53 0) e

abbrev pub Answers : Case → Result Outcome Refusal → Type 0
Answers (cases.Cell p v) r = CellOutcome (vec_items v) p r
Answers (cases.Find w) r = r ≡ found_outcome (found w)
Answers (cases.Next p) r = r ≡ Ok (Next (next_phase p))
