-- What the words of the command line ask for, by the octets of each word.
--
--   nothing               no argument is given
--   spelled v             the number that the value v spells
--   in_range v a z        the value v, from a to z
--   once_more b v         the value v of an argument that had the value b before, which is refused
--   field_given g b v     the same of a field of the header, where the header is not given as a whole
--   header_given g v      the header v as a whole, where no field of it is given
--   gave g n at v         what is given after the argument n with the value v, which is word number `at`, where g was given before: a number, or
--                         for the F3 payload which word names its file
--   taken g name at v     the same, by the word of the name
--   alone name            why a name cannot stand without a value
--   header_of g           the header: by its fields VPI (0) and VCI (100), with the other fields 0
--   arguments_of g        what is asked for: phase 1 and a lead of 32 cells where they are not given, and the word that names the file of the F3
--                         payload, if one does
--   read_from g at words  what is given after all words, of which the first is number `at`, or which argument is at fault, by the number
--                         of the word that names it, and why
--   parsed words          what the words ask for
--   why_text why          what is printed of a refusal, as octets of text
use Rattle.std.specs.Prelude.{ℕ, ◌+◌, ◌-◌, ◌*◌, ◌^◌, cond, List, [], ◌∷◌, codes, Some, None, Ok, Err, Option, Result, nat_lt, unwrap_or, ok_or}
use Rattle.cell.specs.Header.{reserved}
use Rattle.command_line.specs.declared.fault.Fault.{Fault}
use Rattle.outgoing_line.specs.Name.{named}
use Rattle.outgoing_line.specs.declared.name.Name.{Name}
use Rattle.outgoing_line.specs.declared.name.Name.TheVariants.{Phase, Lead, Vpi, Vci, Header, F3}
use Rattle.outgoing_line.specs.declared.arguments.Arguments.{Arguments}
use Rattle.outgoing_line.specs.declared.arguments.Given.{Given}
use Rattle.outgoing_line.specs.declared.arguments.Why.{Why}
use Rattle.outgoing_line.specs.declared.arguments.Why.TheVariants.{Unknown, NoValue, NoNumber, OutOfRange, Reserved, Repeated, TwoHeaders}
use Rattle.text.specs.Number.{number_of}

abbrev pub nothing : Given
nothing = record { phase = None; lead = None; vpi = None; vci = None; header = None; f3 = None }

-- ---- one argument

abbrev pub spelled : List ℕ → Result ℕ Why
spelled v = ok_or (number_of v) NoNumber

abbrev pub in_range : ℕ → ℕ → ℕ → Result ℕ Why
in_range v a z = cond (nat_lt v a) (Err OutOfRange) (cond (nat_lt z v) (Err OutOfRange) (Ok v))

abbrev pub once_more : {X : Type 0} → Option X → X → Result (Option X) Why
once_more None v = Ok (Some v)
once_more (Some b) v = Err Repeated

abbrev pub field_given : {X : Type 0} → Given → Option X → X → Result (Option X) Why
field_given g b v = elim g.header [ None ↦ once_more b v | Some h ↦ Err TwoHeaders ]

abbrev pub header_given : Given → ℕ → Result (Option ℕ) Why
header_given g v =
    cond (reserved v) (Err Reserved)
    (elim g.vpi [ None ↦ elim g.vci [ None ↦ once_more g.header v | Some c ↦ Err TwoHeaders ] | Some p ↦ Err TwoHeaders ])

-- what follows from a value, where there is one
abbrev then : {X Y : Type 0} → Result X Why → (X → Result Y Why) → Result Y Why
then (Ok x) next = next x
then (Err why) next = Err why

abbrev with_phase : Given → Option ℕ → Result Given Why
with_phase g x = Ok (record g { phase = x })

abbrev with_lead : Given → Option ℕ → Result Given Why
with_lead g x = Ok (record g { lead = x })

abbrev with_vpi : Given → Option ℕ → Result Given Why
with_vpi g x = Ok (record g { vpi = x })

abbrev with_vci : Given → Option ℕ → Result Given Why
with_vci g x = Ok (record g { vci = x })

abbrev with_header : Given → Option ℕ → Result Given Why
with_header g x = Ok (record g { header = x })

abbrev with_f3 : Given → Option ℕ → Result Given Why
with_f3 g x = Ok (record g { f3 = x })

abbrev pub gave : Given → Name → ℕ → List ℕ → Result Given Why
gave g Phase at v = then (spelled v) (λ n. then (in_range n 1 (2 ^ 31 - 1)) (λ x. then (once_more g.phase x) (with_phase g)))
gave g Lead at v = then (spelled v) (λ n. then (once_more g.lead n) (with_lead g))
gave g Vpi at v = then (spelled v) (λ n. then (in_range n 0 255) (λ x. then (field_given g g.vpi x) (with_vpi g)))
gave g Vci at v = then (spelled v) (λ n. then (in_range n 0 65535) (λ x. then (field_given g g.vci x) (with_vci g)))
gave g Header at v = then (spelled v) (λ n. then (header_given g n) (with_header g))
gave g F3 at v = then (once_more g.f3 at) (with_f3 g)

-- ---- the words

abbrev pub taken : Given → List ℕ → ℕ → List ℕ → Result Given Why
taken g name at v = then (named name) (λ n. gave g n at v)

abbrev pub alone : List ℕ → Why
alone name = elim (named name) [ Ok n ↦ NoValue | Err why ↦ why ]

unfoldable pub read_from : Given → ℕ → List (List ℕ) → Result Given (Fault Why)
read_from g at [] = Ok g
read_from g at (name ∷ []) = Err (record { at = at; why = alone name })
read_from g at (name ∷ value ∷ words) =
    elim (taken g name (at + 1) value) [ Ok g' ↦ read_from g' (at + 2) words | Err e ↦ Err (record { at = at; why = e }) ]

-- ---- what they ask for

abbrev pub header_of : Given → ℕ
header_of g = elim g.header [ None ↦ unwrap_or g.vpi 0 * 2 ^ 20 + unwrap_or g.vci 100 * 2 ^ 4 | Some h ↦ h ]

abbrev pub arguments_of : Given → Arguments
arguments_of g = record { phase = unwrap_or g.phase 1; lead = unwrap_or g.lead 32; header = record { 0 = header_of g }; f3 = g.f3 }

abbrev pub parsed : List (List ℕ) → Result Arguments (Fault Why)
parsed words = elim (read_from nothing 0 words) [ Ok g ↦ Ok (arguments_of g) | Err e ↦ Err e ]

abbrev pub why_text : Why → List ℕ
why_text Unknown = codes "no such argument"
why_text NoValue = codes "an argument lacks its value"
why_text NoNumber = codes "the value is no number from 0 to 4294967295, decimal or behind 0x"
why_text OutOfRange = codes "the value is out of range"
why_text Reserved = codes "the header is reserved for idle or F3 cells"
why_text Repeated = codes "an argument is given twice"
why_text TwoHeaders = codes "the header is given as a whole and by its fields"
