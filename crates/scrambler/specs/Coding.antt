-- Coding a cell of 52 octets at a phase p into the 53 octets that the line carries. t is the moment of HEC8, the top bit of
-- the HEC octet; the generator runs on through all 424 bits of the cell.
--
--   header_mask p     U(t - 32) to U(t - 1), the oldest bit on top
--   sample8 p         U(t - 211), which HEC8 carries
--   sample7 p         U(t + 1), which HEC7 carries
--   samples p         both, at the places of HEC8 and HEC7 in an octet
--   coded_header h p  the header h on the line: scrambled, then its check octet, then the two samples in that
--   masked k p xs     octets xored with U(t + k) and on; a payload begins at k = 8
--   coded p cell      the 53 octets of a cell on the line
--   decoded p line    the 52 octets of 53 from the line, descrambled; the HEC octet is left out
--   CarriesSamples    a header on the line agrees, and HEC8 and HEC7 of its syndrome are the samples of a phase
--   RightLengths      52 octets in, 53 out
--   CodeWhy           why coding a cell at p into a place is refused: a wrong length is told before a bad phase
--   Codes             a cell is coded at p into a place, which then is decoded to the cell again
--   CodeAnswer        what coding a cell into a place answers and leaves there, also where it is refused
use Rattle.std.specs.Prelude.{◌≡◌, ℕ, ◌+◌, ◌*◌, ◌/◌, ◌%◌, ◌^◌, true, List, [], ◌∷◌, ◌++◌, length, drop, Result, MatchResult, bit_xor}
use Rattle.cell.specs.CheckOctet.{check_octet}
use Rattle.cell.specs.LineHeader.{syndrome_of}
use Rattle.cell.specs.Refusal.{number_of}
use Rattle.cell.specs.Verdict.{agreeing}
use Rattle.cell.specs.Header.{header_of}
pub use Rattle.cell.specs.Header.{header_octets}
use Rattle.cell.specs.declared.line_header.LineHeader.{LineHeader}
use Rattle.cell.specs.declared.refusal.Refusal.{Refusal}
use Rattle.cell.specs.declared.refusal.Refusal.TheVariants.{BadPhase, WrongLength}
use Rattle.scrambler.specs.Generator.{ahead, ago, octet_ahead, Running, NotRunning}

unfoldable pub header_mask : ℕ → ℕ
header_mask p = ago 32 p * 2 ^ 31 + p % 2 ^ 31

abbrev pub sample8 : ℕ → ℕ
sample8 p = ago 211 p

abbrev pub sample7 : ℕ → ℕ
sample7 p = ahead 1 p

abbrev pub samples : ℕ → ℕ
samples p = sample8 p * 2 ^ 7 + sample7 p * 2 ^ 6

abbrev pub coded_header : ℕ → ℕ → LineHeader
coded_header h p =
    let scrambled : ℕ = bit_xor h (header_mask p) in
    record { header = record { 0 = scrambled }; hec = bit_xor (check_octet scrambled) (samples p) }

unfoldable pub masked : ℕ → ℕ → List ℕ → List ℕ
masked k p [] = []
masked k p (x ∷ xs) = bit_xor x (octet_ahead k p) ∷ masked (k + 8) p xs

unfoldable pub coded : ℕ → List ℕ → List ℕ
coded p cell =
    let line : LineHeader = coded_header (header_of cell) p in
    header_octets line.header.0 ++ line.hec ∷ masked 8 p (drop 4 cell)

unfoldable pub decoded : ℕ → List ℕ → List ℕ
decoded p line = header_octets (bit_xor (header_of line) (header_mask p)) ++ masked 8 p (drop 5 line)

pub record CarriesSamples (line : LineHeader) (p : ℕ) : Type 0 where
  pub agrees : agreeing (syndrome_of line) ≡ true
  pub hec8 : syndrome_of line / 2 ^ 7 ≡ sample8 p
  pub hec7 : syndrome_of line / 2 ^ 6 % 2 ≡ sample7 p

-- ---- coding into a place

abbrev pub RightLengths : List ℕ → List ℕ → Type 0
RightLengths cell place = (length cell ≡ 52) × (length place ≡ 53)

abbrev pub CodeWhy : List ℕ → ℕ → List ℕ → Refusal → Type 0
CodeWhy cell p place WrongLength = (number_of WrongLength ≡ 4) × (RightLengths cell place → ⊥)
CodeWhy cell p place BadPhase = (number_of BadPhase ≡ 3) × RightLengths cell place × NotRunning p
CodeWhy cell p place _ = ⊥

pub record Codes (cell : List ℕ) (p : ℕ) (place : List ℕ) (place' : List ℕ) : Type 0 where
  pub lengths : RightLengths cell place
  pub phase : Running p
  pub written : place' ≡ coded p cell
  pub back : decoded p place' ≡ cell

abbrev pub CodeAnswer : {X : Type 0} → List ℕ → ℕ → List ℕ → Result X Refusal → List ℕ → Type 0
CodeAnswer cell p place r place' = MatchResult r (λ _. Codes cell p place place') (λ e. CodeWhy cell p place e × (place' ≡ place))
