-- The refusals of the product.
--
--   number_of e    the number of the refusal e, which keeps its meaning for good
--   sentence_of e  what is printed of it
use Rattle.std.specs.Prelude.{ℕ, List, codes}
use Rattle.cell.specs.declared.refusal.Refusal.{Refusal}
use Rattle.cell.specs.declared.refusal.Refusal.TheVariants.{NoOctets, TooManyOctets, BadPhase, WrongLength, ReservedHeader, NotServed, NoSpace, NoneWaiting, BadSampleWord, NoOnePhase}

abbrev pub number_of : Refusal → ℕ
number_of NoOctets = 1
number_of TooManyOctets = 2
number_of BadPhase = 3
number_of WrongLength = 4
number_of ReservedHeader = 5
number_of NotServed = 6
number_of NoSpace = 7
number_of NoneWaiting = 8
number_of BadSampleWord = 9
number_of NoOnePhase = 10

abbrev pub sentence_of : Refusal → List ℕ
sentence_of NoOctets = codes "no octets were fed"
sentence_of TooManyOctets = codes "more than 4,096 octets were fed at once"
sentence_of BadPhase = codes "the phase is 0 or above 2^31 - 1"
sentence_of WrongLength = codes "the slice has another length than the call takes"
sentence_of ReservedHeader = codes "the header is reserved for idle or F3 cells"
sentence_of NotServed = codes "the sink does not serve the header"
sentence_of NoSpace = codes "the sink has no space for the connection"
sentence_of NoneWaiting = codes "no cell waits in the source"
sentence_of BadSampleWord = codes "the sample word is above 2^31 - 1"
sentence_of NoOnePhase = codes "the samples fit no phase, or several"
