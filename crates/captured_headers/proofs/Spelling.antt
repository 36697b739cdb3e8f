-- Reading a line character by character answers what it spells, and nothing else would.
use Rattle.std.proofs.Common.{◌≡◌, ℕ, ◌+◌, ◌*◌, ◌/◌, ◌%◌, ◌^◌, ◌<◌, List, [], ◌∷◌, ◌++◌, length, None, Some, Ok, Err, Result, sym, refl, ap, ◌∙◌, subst, append-nil, zero-add, arith}
use Rattle.std.proofs.lemmas.Bool.Decides.{nat_tests}
use Rattle.cell.specs.LineHeader.{of_bits}
use Rattle.cell.specs.declared.line_header.LineHeader.{LineHeader}
use Rattle.captured_headers.specs.Capture.{Spelt, character_of, Spells, nothing, blank, octet, Stops, not_hex, not_hex_second, blank_inside, ends, Cut, Faulty, cut, few, many, Reads, NoHeader, of_octets}
use Rattle.captured_headers.specs.Reading.{begun, after, ends_with, at_end}
use Rattle.captured_headers.specs.declared.capture.Fault.{Fault}
use Rattle.captured_headers.specs.declared.capture.Fault.TheVariants.{NotHex, HalfOctet, TooFew, TooMany}
use Rattle.captured_headers.specs.declared.character.Character.{Character}
use Rattle.captured_headers.specs.declared.character.Character.TheVariants.{Blank, Digit, Other}
use Rattle.captured_headers.specs.declared.capture.Reading.{Reading}

-- nothing is read yet
abbrev pub start : Reading
start = record { octets = 0; word = 0; half = None }

-- what the line spells, of which r is read, n characters, and l is left
abbrev pub read_from : Reading → ℕ → List ℕ → Spelt
read_from r n [] = at_end r n
read_from r n (c ∷ l) = elim (after r n (character_of c)) [ Ok s ↦ read_from s (n + 1) l | Err f ↦ Err f ]

-- k whole octets, the last five of them in w
abbrev between : ℕ → ℕ → Reading
between k w = record { octets = k; word = w; half = None }

-- what the line is by how one more character was taken
abbrev onwards : ℕ → List ℕ → Result Reading Fault → Spelt
onwards n l (Ok s) = read_from s (n + 1) l
onwards n l (Err f) = Err f

read_character : (r : Reading) (n c : ℕ) (l : List ℕ) {x : Character} → character_of c ≡ x → read_from r n (c ∷ l) ≡ onwards n l (after r n x)
read_character r n c l e = ap (λ (x : Character). onwards n l (after r n x)) e

moved : {k k' n n' : ℕ} (w : ℕ) (l : List ℕ) → k ≡ k' → n ≡ n' → read_from (between k w) n l ≡ read_from (between k' w) n' l
moved w l p q = λ i. read_from (between (p i) w) (q i) l

-- the word w after the octets os
abbrev pushes : ℕ → List ℕ → ℕ
pushes w [] = w
pushes w (o ∷ os) = pushes (w % 2 ^ 32 * 2 ^ 8 + o) os

-- a front that spells octets leaves them read
read_front : {front os : List ℕ} → Spells front os → (k w n : ℕ) (rest : List ℕ) → read_from (between k w) n (front ++ rest) ≡ read_from (between (k + length os) (pushes w os)) (n + length front) rest
read_front nothing k w n rest = moved w rest (omega arith) (omega arith)
read_front (blank {c} {line} {os} e s) k w n rest =
    read_character (between k w) n c (line ++ rest) e ∙ read_front s k w (n + 1) rest ∙ moved (pushes w os) rest refl (omega arith)
read_front (octet {a} {b} {x} {y} {line} {os} p q s) k w n rest =
    read_character (between k w) n a (b ∷ (line ++ rest)) p
    ∙ read_character (begun (between k w) x) (n + 1) b (line ++ rest) q
    ∙ read_front s (k + 1) (w % 2 ^ 32 * 2 ^ 8 + (x * 16 + y)) (n + 1 + 1) rest
    ∙ moved (pushes (w % 2 ^ 32 * 2 ^ 8 + (x * 16 + y)) os) rest (omega arith) (omega arith)

read_spelt : {line os : List ℕ} → Spells line os → read_from start 0 line ≡ ends_with (length os) (pushes 0 os)
read_spelt {line} {os} s =
    ap (read_from start 0) (sym (append-nil line)) ∙ read_front s 0 0 0 [] ∙ ap (λ (k : ℕ). ends_with k (pushes 0 os)) (zero-add (length os))

-- where no octet comes, reading stops with that fault
read_stop : {n : ℕ} {rest : List ℕ} {f : Fault} → Stops n rest f → (k w : ℕ) → read_from (between k w) n rest ≡ Err f
read_stop (not_hex {n} {c} {rest} e) k w = read_character (between k w) n c rest e
read_stop (not_hex_second {n} {a} {x} {c} {rest} p q) k w =
    read_character (between k w) n a (c ∷ rest) p
    ∙ read_character (begun (between k w) x) (n + 1) c rest q
    ∙ ap (λ (m : ℕ). Err (NotHex m)) (omega arith)
read_stop (blank_inside {n} {a} {x} {c} {rest} p q) k w =
    read_character (between k w) n a (c ∷ rest) p ∙ read_character (begun (between k w) x) (n + 1) c rest q
read_stop (ends {n} {a} p) k w = read_character (between k w) n a [] p

read_cut : {line : List ℕ} {f : Fault} → Cut line f → read_from start 0 line ≡ Err f
read_cut {f = f} k =
    ap (read_from start 0) k.whole
    ∙ read_front k.spelt 0 0 0 k.rest
    ∙ moved (pushes 0 k.octets) k.rest refl (omega arith)
    ∙ read_stop k.stops (0 + length k.octets) (pushes 0 k.octets)

ends_with_few : (n w : ℕ) → 0 < n → n < 5 → ends_with n w ≡ Err (TooFew n)
ends_with_few n w p q = grind (arith, nat_tests)

ends_with_many : (n w : ℕ) → 5 < n → ends_with n w ≡ Err (TooMany n)
ends_with_many n w p = grind (arith, nat_tests)

digit_small : (c x : ℕ) → character_of c ≡ Digit x → x < 16
digit_small c x e = grind (arith, nat_tests)

abbrev Small : List ℕ → Type 0
Small [] = Unit {0}
Small (o ∷ os) = (o < 2 ^ 8) × Small os

spelt_small : {line os : List ℕ} → Spells line os → Small os
spelt_small nothing = tt
spelt_small (blank e s) = spelt_small s
spelt_small (octet {a} {b} {x} {y} p q s) = (omega (arith, digit_small a x p, digit_small b y q), spelt_small s)

five_joined : (a b c d e : ℕ) → Small (a ∷ b ∷ c ∷ d ∷ e ∷ []) → of_bits (pushes 0 (a ∷ b ∷ c ∷ d ∷ e ∷ [])) ≡ of_octets a b c d e
five_joined a b c d e h =
    let w = pushes 0 (a ∷ b ∷ c ∷ d ∷ e ∷ []) in
    let p : w / 2 ^ 8 % 2 ^ 32 ≡ ((a * 2 ^ 8 + b) * 2 ^ 8 + c) * 2 ^ 8 + d = omega arith in
    let q : w % 2 ^ 8 ≡ e = omega arith in
    λ i. record { header = record { 0 = p i }; hec = q i }

-- a line spells octets to its end, or not
data Either : List ℕ → Type 0 where
  spells : {line os : List ℕ} → Spells line os → Either line
  stopped : {line : List ℕ} {f : Fault} → Cut line f → Either line

stops_elsewhere : {n : ℕ} {rest : List ℕ} {f : Fault} → Stops n rest f → (m : ℕ) → (g : Fault) × Stops m rest g
stops_elsewhere (not_hex e) m = (NotHex (m + 1), not_hex e)
stops_elsewhere (not_hex_second p q) m = (NotHex (m + 2), not_hex_second p q)
stops_elsewhere (blank_inside p q) m = (HalfOctet (m + 1), blank_inside p q)
stops_elsewhere (ends p) m = (HalfOctet (m + 1), ends p)

stops_here : {line : List ℕ} {f : Fault} → Stops 0 line f → Either line
stops_here {line} s = stopped (record { front = []; octets = []; rest = line; whole = refl; spelt = nothing; stops = s })

after-blank : {c : ℕ} {line : List ℕ} → character_of c ≡ Blank → Either line → Either (c ∷ line)
after-blank e (spells s) = spells (blank e s)
after-blank {c} e (stopped k) = stopped (record {
  front = c ∷ k.front;
  octets = k.octets;
  rest = k.rest;
  whole = ap (λ l. c ∷ l) k.whole;
  spelt = blank e k.spelt;
  stops = (stops_elsewhere k.stops (length (c ∷ k.front))).1;
})

after_octet : {a b x y : ℕ} {line : List ℕ} → character_of a ≡ Digit x → character_of b ≡ Digit y → Either line → Either (a ∷ b ∷ line)
after_octet p q (spells s) = spells (octet p q s)
after_octet {a} {b} {x} {y} p q (stopped k) = stopped (record {
  front = a ∷ b ∷ k.front;
  octets = (x * 16 + y) ∷ k.octets;
  rest = k.rest;
  whole = ap (λ l. a ∷ b ∷ l) k.whole;
  spelt = octet p q k.spelt;
  stops = (stops_elsewhere k.stops (length (a ∷ b ∷ k.front))).1;
})

one_character : (c : ℕ) (x : Character) → character_of c ≡ x → Either (c ∷ [])
one_character c Blank e = spells (blank e nothing)
one_character c (Digit x) e = stops_here (ends e)
one_character c Other e = stops_here (not_hex e)

second_character : {a x : ℕ} {line : List ℕ} → character_of a ≡ Digit x → (b : ℕ) (y : Character) → character_of b ≡ y → Either line → Either (a ∷ b ∷ line)
second_character p b Blank q k = stops_here (blank_inside p q)
second_character p b (Digit y) q k = after_octet p q k
second_character p b Other q k = stops_here (not_hex_second p q)

two_characters : (a : ℕ) (x : Character) (b : ℕ) {line : List ℕ} → character_of a ≡ x → Either (b ∷ line) → Either line → Either (a ∷ b ∷ line)
two_characters a Blank b p one two = after-blank p one
two_characters a (Digit x) b p one two = second_character p b (character_of b) refl two
two_characters a Other b p one two = stops_here (not_hex p)

either_way : (line : List ℕ) → Either line × ((c : ℕ) → Either (c ∷ line))
either_way [] = (spells nothing, λ c. one_character c (character_of c) refl)
either_way (b ∷ line) =
    let shorter = either_way line in
    (shorter.1 b, λ a. two_characters a (character_of a) b refl (shorter.1 b) shorter.0)

spelt_reads : (line os : List ℕ) → Spells line os → Reads line (ends_with (length os) (pushes 0 os))
spelt_reads line [] s = s
spelt_reads line (a ∷ []) s = few s (omega arith) (omega arith)
spelt_reads line (a ∷ b ∷ []) s = few s (omega arith) (omega arith)
spelt_reads line (a ∷ b ∷ c ∷ []) s = few s (omega arith) (omega arith)
spelt_reads line (a ∷ b ∷ c ∷ d ∷ []) s = few s (omega arith) (omega arith)
spelt_reads line (a ∷ b ∷ c ∷ d ∷ e ∷ []) s = record { a = a; b = b; c = c; d = d; e = e; spelt = s; header = five_joined a b c d e (spelt_small s) }
spelt_reads line (a ∷ b ∷ c ∷ d ∷ e ∷ f ∷ os) s =
    let n = length (a ∷ b ∷ c ∷ d ∷ e ∷ f ∷ os) in
    let more : 5 < n = omega arith in
    subst (Reads line) (sym (ends_with_many n (pushes 0 (a ∷ b ∷ c ∷ d ∷ e ∷ f ∷ os)) more)) (many s more)

-- the answer is what the line spells
reading_reads : (line : List ℕ) → Reads line (read_from start 0 line)
reading_reads line =
    elim (either_way line).0 [ spells {os = os} s ↦ subst (Reads line) (sym (read_spelt s)) (spelt_reads line os s) | stopped k ↦ subst (Reads line) (sym (read_cut k)) (cut k) ]

-- and the line spells nothing else
only_reading : (line : List ℕ) (r : Spelt) → Reads line r → r ≡ read_from start 0 line
only_reading line (Ok None) s = sym (read_spelt s)
only_reading line (Ok (Some h)) k =
    ap (λ (x : LineHeader). Ok (Some x)) k.header
    ∙ ap (λ (x : LineHeader). Ok (Some x)) (sym (five_joined k.a k.b k.c k.d k.e (spelt_small k.spelt)))
    ∙ sym (read_spelt k.spelt)
only_reading line (Err f) k = faulty k
  where
    faulty : {f : Fault} → Faulty line f → Err f ≡ read_from start 0 line
    faulty (cut k) = sym (read_cut k)
    faulty (few {os} s p q) = sym (read_spelt s ∙ ends_with_few (length os) (pushes 0 os) p q)
    faulty (many {os} s p) = sym (read_spelt s ∙ ends_with_many (length os) (pushes 0 os) p)

no_header : (line : List ℕ) (f : Fault) → read_from start 0 line ≡ Err f → NoHeader line
no_header line f bad os s = ends_with_neither (length os) (pushes 0 os) f (sym (read_spelt s) ∙ bad)
  where
    ends_with_neither : (n w : ℕ) (f : Fault) → ends_with n w ≡ Err f → (n ≡ 0 → ⊥) × (n ≡ 5 → ⊥)
    ends_with_neither n w f bad = (
      λ e. let clash = sym (ap (λ (m : ℕ). ends_with m w) e) ∙ bad in let z : ◌≡◌ {A = ℕ} 0 1 = cc in omega arith,
      λ e. let clash = sym (ap (λ (m : ℕ). ends_with m w) e) ∙ bad in let z : ◌≡◌ {A = ℕ} 0 1 = cc in omega arith,
    )

pub read_fault : (r : Reading) (n c : ℕ) (l : List ℕ) (f : Fault) → Err f ≡ after r n (character_of c) → read_from r n (c ∷ l) ≡ Err f
read_fault r n c l f e = ap (onwards n l) (sym e)

pub told : (line : List ℕ) (r : Spelt) → r ≡ read_from start 0 line → record { reads : Reads line r; only : (s : Spelt) → Reads line s → s ≡ r; malformed : (f : Fault) → r ≡ Err f → NoHeader line }
told line r is =
    record {
      reads = subst (Reads line) (sym is) (reading_reads line);
      only = λ s h. only_reading line s h ∙ sym is;
      malformed = λ f bad. no_header line f (sym is ∙ bad);
    }
