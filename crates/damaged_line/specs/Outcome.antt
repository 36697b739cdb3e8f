-- What comes of a command.
--
--   answered r      what an end answered
--   outcome_text o  what is printed of it, as octets of text
use Rattle.std.specs.Prelude.{ℕ, List, ◌++◌, Ok, Err, Result, codes, decimal}
use Rattle.cell.specs.Refusal.{number_of}
use Rattle.cell.specs.declared.refusal.Refusal.{Refusal}
use Rattle.damaged_line.specs.Tally.{tally_text}
use Rattle.damaged_line.specs.declared.outcome.Outcome.{Outcome}
use Rattle.damaged_line.specs.declared.outcome.Outcome.TheVariants.{Went, Accepted, Refused}

abbrev pub answered : {X : Type 0} → Result X Refusal → Outcome
answered (Ok x) = Accepted
answered (Err e) = Refused e

abbrev pub outcome_text : Outcome → List ℕ
outcome_text (Went counts) = tally_text counts
outcome_text Accepted = codes "accepted"
outcome_text (Refused e) = codes "refused " ++ decimal (number_of e)
