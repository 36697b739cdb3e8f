-- What the receiving end needs of the check octet, the generator and the phase finder, in one record: nothing else of the code's
-- algebra is known to the proofs of the line's laws.
--
--   head_octets p h  the five octets of the header h on the line, coded at the phase p
--   head_word p h    their 40 bits as a number
--   moved i q        the phase i cells after the phase q
--   trail i q        the samples of i + 1 headers in a row, the first of which has the phase q, as the tracker keeps them
--   CodeLaws         the laws
use Rattle.std.proofs.Common.{◌≡◌, ℕ, zero, suc, ◌+◌, ◌*◌, ◌%◌, ◌^◌, ◌<◌, Bool, true, List, [], ◌∷◌, ◌++◌, length, Ok}
use Rattle.cell.specs.Sorting.{header_octets}
use Rattle.cell.specs.Verdict.{verdict_of}
use Rattle.cell.specs.declared.verdict.Verdict.TheVariants.{Clean, OneWrongBit, PastMending}
use Rattle.scrambler.specs.Generator.{next_phase}
use Rattle.scrambler.specs.Coding.{coded_header, masked}
use Rattle.scrambler.specs.Finder.{found, OnePhase}
use Rattle.sender.specs.Sender.{Octets}
use Rattle.tracker.specs.Window.{agrees, samples_in, predicted, freed, header_in, mended_in}
use Rattle.tracker.specs.Rules.{verdict_at}
use Rattle.receiver.specs.Run.{bits_of}
use Rattle.line.specs.Laws.{differing}
use Rattle.line.proofs.Bits.{value, octets_of}

unfoldable pub head_octets : ℕ → ℕ → List ℕ
head_octets p h = header_octets (coded_header h p).header.0 ++ (coded_header h p).hec ∷ []

abbrev pub head_word : ℕ → ℕ → ℕ
head_word p h = value (bits_of (head_octets p h))

abbrev pub moved : ℕ → ℕ → ℕ
moved zero q = q
moved (suc i) q = next_phase (moved i q)

abbrev pub trail : ℕ → ℕ → ℕ
trail zero q = 0 % 2 ^ 30 * 2 ^ 2 + predicted q
trail (suc i) q = trail i q % 2 ^ 30 * 2 ^ 2 + predicted (moved (suc i) q)

pub record CodeLaws : Type 0 where
  -- a header as sent agrees, carries the samples of its phase, and freed of them is clean and descrambled to the header
  pub agree : (p h : ℕ) → p < 2 ^ 31 → h < 2 ^ 32 → agrees (head_word p h) ≡ true
  pub sample : (p h : ℕ) → p < 2 ^ 31 → h < 2 ^ 32 → samples_in (head_word p h) ≡ predicted p
  pub clean : (p h : ℕ) → p < 2 ^ 31 → h < 2 ^ 32 → freed p (head_word p h) ≡ 0
  pub undo : (p h : ℕ) → p < 2 ^ 31 → h < 2 ^ 32 → header_in p (head_word p h) ≡ record { 0 = h }
  -- a payload as sent is descrambled to the payload
  pub body : (p : ℕ) (xs : List ℕ) → Octets 48 xs → masked 8 p (octets_of (bits_of (masked 8 p xs))) ≡ xs
  pub payload_long : (p : ℕ) (xs : List ℕ) → Octets 48 xs → length (bits_of (masked 8 p xs)) ≡ 384
  pub fits : (p : ℕ) → next_phase p < 2 ^ 31
  pub no_fault : verdict_of 0 ≡ Clean
  -- sixteen headers in a row give the phase of the last of them, and what is found is the one phase with these samples
  pub finds : (q : ℕ) → q < 2 ^ 31 → found (trail 15 q % 2 ^ 31) ≡ Ok (moved 15 q)
  pub one_phase : (w p : ℕ) → found w ≡ Ok p → OnePhase w p
  -- a header that comes with one wrong bit is told and mended, and with two it is past mending
  pub one_wrong : (p : ℕ) (sent got : List Bool) → length sent ≡ 40 → length got ≡ 40 → freed p (value sent) ≡ 0 → differing got sent ≡ 1
      → (i : ℕ) × (verdict_at p (value got) ≡ OneWrongBit i) × (mended_in p (value got) i ≡ header_in p (value sent))
  pub two_wrong : (p : ℕ) (sent got : List Bool) → length sent ≡ 40 → length got ≡ 40 → freed p (value sent) ≡ 0 → differing got sent ≡ 2
      → verdict_at p (value got) ≡ PastMending
