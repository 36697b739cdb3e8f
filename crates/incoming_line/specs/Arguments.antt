-- What the words of the command line ask for, by the octets of each word.
--
--   nothing               no argument is given
--   gave g n              what is given after the argument n, where g was given before: none may be given twice
--   taken g word          the same, by the word that names the argument
--   read_from g at words  what is given after all words, of which the first is number `at`, or the number of the word at fault, and why
--   parsed words          what the words ask for
--   why_text why          what is printed of a refusal, as octets of text
use Rattle.std.specs.Prelude.{ℕ, ◌+◌, true, false, cond, List, [], ◌∷◌, codes, Ok, Err, Result}
use Rattle.command_line.specs.declared.fault.Fault.{Fault}
use Rattle.incoming_line.specs.Name.{named}
use Rattle.incoming_line.specs.declared.name.Name.{Name}
use Rattle.incoming_line.specs.declared.name.Name.TheVariants.{Payloads, Events}
use Rattle.incoming_line.specs.declared.arguments.Arguments.{Arguments}
use Rattle.incoming_line.specs.declared.arguments.Why.{Why}
use Rattle.incoming_line.specs.declared.arguments.Why.TheVariants.{Unknown, Repeated}

abbrev pub nothing : Arguments
nothing = record { payloads = false; events = false }

abbrev pub gave : Arguments → Name → Result Arguments Why
gave g Payloads = cond g.payloads (Err Repeated) (Ok (record { payloads = true; events = g.events }))
gave g Events = cond g.events (Err Repeated) (Ok (record { payloads = g.payloads; events = true }))

abbrev pub taken : Arguments → List ℕ → Result Arguments Why
taken g word = elim (named word) [ Ok n ↦ gave g n | Err why ↦ Err why ]

unfoldable pub read_from : Arguments → ℕ → List (List ℕ) → Result Arguments (Fault Why)
read_from g at [] = Ok g
read_from g at (word ∷ words) = elim (taken g word) [ Ok g' ↦ read_from g' (at + 1) words | Err e ↦ Err (record { at = at; why = e }) ]

abbrev pub parsed : List (List ℕ) → Result Arguments (Fault Why)
parsed words = read_from nothing 0 words

abbrev pub why_text : Why → List ℕ
why_text Unknown = codes "no such argument"
why_text Repeated = codes "an argument is given twice"
