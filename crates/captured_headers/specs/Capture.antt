-- A line of a capture, without its line end, as the list of its octets, read as ASCII, and what it spells.
--
--   character_of c       what the octet c is: a blank, a hexadecimal digit of some value, or neither
--   Spells line os       line is the octets os, two digits each, with blanks between, before or after them, and nothing else
--   of_octets a b c d e  the header of the octets a to d, with e received in the place of its check octet
--   Spelt                what a line spells: a header or nothing, or else why it spells neither
--   Reads line r         r is what line spells
--   FiveOctets line h    line spells five octets, and h is their header
--   Faulty line f        f is why line is no header
--   Cut line f           after a front that spells octets there comes no octet; f says in which column, counted from 1, and why
--   Stops n rest f       the same of rest, before which n characters stand
--   NoHeader line        line spells neither five octets nor none
use Rattle.std.specs.Prelude.{◌≡◌, ℕ, ◌+◌, ◌-◌, ◌*◌, ◌^◌, ◌<◌, cond, List, [], ◌∷◌, ◌++◌, length, Some, None, Option, Ok, Err, Result, ◌==◌, ◌≢◌, nat_le}
use Rattle.cell.specs.declared.line_header.LineHeader.{LineHeader}
use Rattle.captured_headers.specs.declared.capture.Fault.{Fault}
use Rattle.captured_headers.specs.declared.capture.Fault.TheVariants.{NotHex, HalfOctet, TooFew, TooMany}
use Rattle.captured_headers.specs.declared.character.Character.{Character}
use Rattle.captured_headers.specs.declared.character.Character.TheVariants.{Blank, Digit, Other}

-- by whether c is one of the characters from a to z
abbrev within : ℕ → ℕ → ℕ → Character → Character → Character
within a z c inside outside = cond (nat_le a c) (cond (nat_le c z) inside outside) outside

-- space and tab; 0 to 9, A to F, a to f
abbrev pub character_of : ℕ → Character
character_of c =
    cond (c == 32) Blank
    (cond (c == 9) Blank
    (within 48 57 c (Digit (c - 48)) (within 65 70 c (Digit (c - 65 + 10)) (within 97 102 c (Digit (c - 97 + 10)) Other))))

pub data Spells : List ℕ → List ℕ → Type 0 where
  nothing : Spells [] []
  blank : {c : ℕ} {line os : List ℕ} → character_of c ≡ Blank → Spells line os → Spells (c ∷ line) os
  octet : {a b x y : ℕ} {line os : List ℕ} → character_of a ≡ Digit x → character_of b ≡ Digit y → Spells line os → Spells (a ∷ b ∷ line) ((x * 16 + y) ∷ os)

abbrev pub of_octets : ℕ → ℕ → ℕ → ℕ → ℕ → LineHeader
of_octets a b c d e = record { header = record { 0 = ((a * 2 ^ 8 + b) * 2 ^ 8 + c) * 2 ^ 8 + d }; hec = e }

pub record FiveOctets (line : List ℕ) (h : LineHeader) : Type 0 where
  pub a : ℕ
  pub b : ℕ
  pub c : ℕ
  pub d : ℕ
  pub e : ℕ
  pub spelt : Spells line (a ∷ b ∷ c ∷ d ∷ e ∷ [])
  pub header : h ≡ of_octets a b c d e

pub data Stops : ℕ → List ℕ → Fault → Type 0 where
  -- neither a blank nor a digit
  not_hex : {n c : ℕ} {rest : List ℕ} → character_of c ≡ Other → Stops n (c ∷ rest) (NotHex (n + 1))
  -- the same in the place of an octet's second digit
  not_hex_second : {n a x c : ℕ} {rest : List ℕ} → character_of a ≡ Digit x → character_of c ≡ Other → Stops n (a ∷ c ∷ rest) (NotHex (n + 2))
  -- a blank in the place of an octet's second digit
  blank_inside : {n a x c : ℕ} {rest : List ℕ} → character_of a ≡ Digit x → character_of c ≡ Blank → Stops n (a ∷ c ∷ rest) (HalfOctet (n + 1))
  -- the line ends after an octet's first digit
  ends : {n a x : ℕ} → character_of a ≡ Digit x → Stops n (a ∷ []) (HalfOctet (n + 1))

pub record Cut (line : List ℕ) (f : Fault) : Type 0 where
  pub front : List ℕ
  pub octets : List ℕ
  pub rest : List ℕ
  pub whole : line ≡ front ++ rest
  pub spelt : Spells front octets
  pub stops : Stops (length front) rest f

pub data Faulty (line : List ℕ) : Fault → Type 0 where
  cut : {f : Fault} → Cut line f → Faulty line f
  few : {os : List ℕ} → Spells line os → 0 < length os → length os < 5 → Faulty line (TooFew (length os))
  many : {os : List ℕ} → Spells line os → 5 < length os → Faulty line (TooMany (length os))

abbrev pub Spelt : Type 0
Spelt = Result (Option LineHeader) Fault

abbrev pub Reads : List ℕ → Spelt → Type 0
Reads line (Ok None) = Spells line []
Reads line (Ok (Some h)) = FiveOctets line h
Reads line (Err f) = Faulty line f

abbrev pub NoHeader : List ℕ → Type 0
NoHeader line = (os : List ℕ) → Spells line os → (length os ≢ 0) × (length os ≢ 5)
