-- The names of the arguments.
--
--   spelling n      how an argument is named
--   if_named w n o  n if the word w names it, and else o
--   name_of word    the argument that the word names, if it names one
--   named word      the same, or that it names none
use Rattle.std.specs.Prelude.{ℕ, cond, List, Some, None, Ok, Err, codes, Option, Result}
use Rattle.std.specs.Str.{bytes_eq}
use Rattle.outgoing_line.specs.declared.arguments.Why.{Why}
use Rattle.outgoing_line.specs.declared.arguments.Why.TheVariants.{Unknown}
use Rattle.outgoing_line.specs.declared.name.Name.{Name}
use Rattle.outgoing_line.specs.declared.name.Name.TheVariants.{Phase, Lead, Vpi, Vci, Header, F3}

abbrev pub spelling : Name → List ℕ
spelling Phase = codes "--phase"
spelling Lead = codes "--lead"
spelling Vpi = codes "--vpi"
spelling Vci = codes "--vci"
spelling Header = codes "--header"
spelling F3 = codes "--f3"

abbrev pub if_named : List ℕ → Name → Option Name → Option Name
if_named word n others = cond (bytes_eq word (spelling n)) (Some n) others

abbrev pub name_of : List ℕ → Option Name
name_of word = if_named word Phase (if_named word Lead (if_named word Vpi (if_named word Vci (if_named word Header (if_named word F3 None)))))

abbrev pub named : List ℕ → Result Name Why
named word = elim (name_of word) [ None ↦ Err Unknown | Some n ↦ Ok n ]
