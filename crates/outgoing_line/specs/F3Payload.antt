-- The payload of F3 cells, as an input gives it.
--
--   PayloadAnswer left r  what the reading of a payload answers, where the octets that the input has left are known: these, if they are 48. An
--                         input that cannot be read answers with an error of its own
--   error_text e          what is printed of an error, as octets of text, where that is known: it is not of an input's own error
use Rattle.std.specs.Prelude.{◌≡◌, ℕ, List, length, ⊤, None, Some, Ok, Err, Option, Result, ◌≢◌, codes}
use Rattle.outgoing_line.specs.declared.f3_payload.PayloadError.{PayloadError}
use Rattle.outgoing_line.specs.declared.f3_payload.PayloadError.TheVariants.{Unread, WrongLength}

abbrev pub PayloadAnswer : Option (List ℕ) → Result (List ℕ) PayloadError → Type 0
PayloadAnswer None r = ⊤
PayloadAnswer (Some left) (Ok payload) = (length left ≡ 48) × (payload ≡ left)
PayloadAnswer (Some left) (Err WrongLength) = length left ≢ 48
PayloadAnswer (Some left) (Err (Unread error)) = ⊤

abbrev pub error_text : PayloadError → Option (List ℕ)
error_text (Unread error) = None
error_text WrongLength = Some (codes "the F3 payload is not of 48 octets")
