-- How a line is read, character by character. Nothing is believed of it: the contract of the public call is by what the line
-- spells (Capture), and a lemma ties the two.
--
--   begun r x        the reading r with the first digit x of an octet
--   pushed r o       the reading r with one octet o more
--   after r n c      the reading r after one more character c, which n others stand before; or why it goes no further
--   ends_with n w    what a line of n octets spells, of which the last five are in w
--   at_end r n       what the line spells where it ends after n characters
use Rattle.std.specs.Prelude.{ℕ, ◌+◌, ◌*◌, ◌%◌, ◌^◌, cond, Some, None, Ok, Err, Result, ◌==◌, nat_lt}
use Rattle.cell.specs.LineHeader.{of_bits}
use Rattle.captured_headers.specs.Capture.{Spelt}
use Rattle.captured_headers.specs.declared.capture.Fault.{Fault}
use Rattle.captured_headers.specs.declared.capture.Fault.TheVariants.{NotHex, HalfOctet, TooFew, TooMany}
use Rattle.captured_headers.specs.declared.character.Character.{Character}
use Rattle.captured_headers.specs.declared.character.Character.TheVariants.{Blank, Digit, Other}
use Rattle.captured_headers.specs.declared.capture.Reading.{Reading}

abbrev pub pushed : Reading → ℕ → Reading
pushed r o = record { octets = r.octets + 1; word = r.word % 2 ^ 32 * 2 ^ 8 + o; half = None }

abbrev pub begun : Reading → ℕ → Reading
begun r x = record r { half = Some x }

abbrev pub after : Reading → ℕ → Character → Result Reading Fault
after r n Blank = elim r.half [ None ↦ Ok r | Some x ↦ Err (HalfOctet n) ]
after r n (Digit y) = elim r.half [ None ↦ Ok (begun r y) | Some x ↦ Ok (pushed r (x * 16 + y)) ]
after r n Other = Err (NotHex (n + 1))

abbrev pub ends_with : ℕ → ℕ → Spelt
ends_with n w =
    cond (n == 0) (Ok None) (cond (nat_lt n 5) (Err (TooFew n)) (cond (nat_lt 5 n) (Err (TooMany n)) (Ok (Some (of_bits w)))))

abbrev pub at_end : Reading → ℕ → Spelt
at_end r n = elim r.half [ None ↦ ends_with r.octets r.word | Some x ↦ Err (HalfOctet n) ]
