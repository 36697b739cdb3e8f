-- Sent cells as the proofs of the line's laws use them. Knows nothing of the receiving end.
--
--   Carried q x     the send x wrote its cell at the phase q: the coded header and the masked payload, as bits
--   CarriedOn q xs  the sends xs, one after the other, the first at the phase q
--   sent_user x     the user cell of the send x, if it is one
use Rattle.std.proofs.Common.{◌≡◌, ℕ, ◌^◌, ◌<◌, List, [], ◌∷◌, Some, Option}
use Rattle.cell.specs.Header.{kind_of}
use Rattle.ports.specs.Cell.{Cell}
use Rattle.scrambler.specs.Coding.{masked}
use Rattle.scrambler.specs.Generator.{next_phase}
use Rattle.sender.specs.Sender.{Octets}
use Rattle.sender.specs.Stream.{Send}
use Rattle.receiver.specs.Run.{bits_of, user_cell}
use Rattle.line.specs.Laws.{header_bits, payload_bits}
use Rattle.line.proofs.CodeLaws.{head_octets}

pub record Carried (q : ℕ) (x : Send) : Type 0 where
  pub phase : x.phase ≡ q
  pub fits : q < 2 ^ 31
  pub header : x.cell.header < 2 ^ 32
  pub payload : Octets 48 x.cell.payload
  pub kind : x.kind ≡ kind_of x.cell.header
  pub head : header_bits x ≡ bits_of (head_octets q x.cell.header)
  pub body : payload_bits x ≡ bits_of (masked 8 q x.cell.payload)

abbrev pub CarriedOn : ℕ → List Send → Type 0
CarriedOn q [] = Unit {0}
CarriedOn q (x ∷ xs) = Carried q x × CarriedOn (next_phase q) xs

abbrev pub sent_user : Send → Option Cell
sent_user x = user_cell (Some x.cell)
