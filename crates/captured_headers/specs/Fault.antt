-- What is printed of a fault.
--
--   text_of f  the text of the fault f
use Rattle.std.specs.Prelude.{ℕ, List, ◌++◌, codes, decimal}
use Rattle.captured_headers.specs.declared.capture.Fault.{Fault}
use Rattle.captured_headers.specs.declared.capture.Fault.TheVariants.{NotHex, HalfOctet, TooFew, TooMany}

abbrev pub text_of : Fault → List ℕ
text_of (NotHex column) = codes "column " ++ decimal column ++ codes " is no hexadecimal digit"
text_of (HalfOctet column) = codes "the octet in column " ++ decimal column ++ codes " has one digit"
text_of (TooFew octets) = codes "too few octets, " ++ decimal octets ++ codes " in place of 5"
text_of (TooMany octets) = codes "too many octets, " ++ decimal octets ++ codes " in place of 5"
