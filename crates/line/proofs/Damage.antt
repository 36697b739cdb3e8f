-- Lines of 53 octets, as bits and with damage. Knows of the sender only that it writes octets, and nothing of the receiving end.
--
--   Octets53 ls      each of the lines ls has 53 octets
--   lines_of xs      the lines of sends
--   damaged os       the octets os, each of them changed
--   burst six later  the lines as they come in: those of the sends six damaged, those of later as sent
use Rattle.std.proofs.Common.{◌≡◌, ℕ, zero, suc, ◌+◌, ◌*◌, ◌%◌, ◌^◌, ◌<◌, ◌≤◌, ◌⊎◌, List, [], ◌∷◌, ◌++◌, map, length, get_or, sym, refl, ap, ◌∙◌, inl, inr, append_assoc, mod-lt, arith, lit<}
use Rattle.std.proofs.lemmas.List.{length-map}
use Rattle.std.specs.List.{AllByRecursion}
use Rattle.sender.specs.Sender.{Octets}
use Rattle.sender.specs.Stream.{Send, SentStream}
use Rattle.sender.proofs.Streams.{stream_laws}
use Rattle.receiver.specs.Run.{bits_of}
use Rattle.receiver.proofs.Runs.{bits_of-append}
use Rattle.line.specs.Heard.{join}
use Rattle.line.specs.Laws.{Undamaged}
use Rattle.line.proofs.Bits.{length-bits_of, octets_of_lem, octets_of}

-- ---- lines of octets

abbrev pub Octets53 : List (List ℕ) → Type 0
Octets53 ls = AllByRecursion (λ l. Octets 53 l) ls

abbrev pub lines_of : List Send → List (List ℕ)
lines_of xs = map (λ x. x.line) xs

pub bits-joined : (ls : List (List ℕ)) → join (map bits_of ls) ≡ bits_of (join ls)
bits-joined [] = refl
bits-joined (l ∷ ls) = ap (λ w. bits_of l ++ w) (bits-joined ls) ∙ sym (bits_of-append l (join ls))

pub bits_whole : (ls : List (List ℕ)) → Octets53 ls → AllByRecursion (λ w. length w ≡ 424) (map bits_of ls)
bits_whole [] h = tt
bits_whole (l ∷ ls) h = (length-bits_of l ∙ ap (λ (n : ℕ). 8 * n) h.0.0, bits_whole ls h.1)

-- the lines of the sends of a stream
pub stream_octets : (p : ℕ) (all : List Send) → SentStream p all → (front xs : List Send) → all ≡ front ++ xs → Octets53 (lines_of xs)
stream_octets p all stream front [] e = tt
stream_octets p all stream front (x ∷ xs) e =
    ((stream_laws.cells p all stream front x xs e).line, stream_octets p all stream (front ++ x ∷ []) xs (e ∙ sym (append_assoc front (x ∷ []) xs)))

-- ---- damage

abbrev pub damaged : List ℕ → List ℕ
damaged os = map (λ o. (o + 1) % 2 ^ 8) os

damaged_octets : (os : List ℕ) → AllByRecursion (λ o. o < 2 ^ 8) (damaged os)
damaged_octets [] = tt
damaged_octets (o ∷ os) = (mod-lt (o + 1) (lit< tt), damaged_octets os)

damaged_differs : (l : List ℕ) → Octets 53 l → bits_of (damaged l) ≡ bits_of l → ⊥
damaged_differs [] h e = absurd (let z = h.0 in omega arith)
damaged_differs (o ∷ os) h e =
    let s : damaged (o ∷ os) ≡ o ∷ os = sym (octets_of_lem (damaged (o ∷ os)) (damaged_octets (o ∷ os))) ∙ ap octets_of e ∙ octets_of_lem (o ∷ os) h.1 in
    let f : (o + 1) % 2 ^ 8 ≡ o = ap (λ (l : List ℕ). get_or l 0 0) s in
    let small : o < 2 ^ 8 = h.1.0 in
    omega arith

abbrev pub burst : List Send → List Send → List (List ℕ)
burst six later = map (λ y. damaged y.line) six ++ lines_of later

pub damaged_lines : (six : List Send) → Octets53 (lines_of six) → Octets53 (map (λ y. damaged y.line) six)
damaged_lines [] h = tt
damaged_lines (y ∷ six) h = ((length-map y.line _ ∙ h.0.0, damaged_octets y.line), damaged_lines six h.1)

as_sent_lem : (later : List Send) (i : ℕ) → get_or (map bits_of (lines_of later)) i [] ≡ get_or (map (λ x. bits_of x.line) later) i []
as_sent_lem [] i = refl
as_sent_lem (x ∷ later) zero = refl
as_sent_lem (x ∷ later) (suc i) = as_sent_lem later i

after_six : (six later : List Send) (i : ℕ) → length six ≤ i
    → get_or (map bits_of (burst six later)) i [] ≡ get_or (map (λ x. bits_of x.line) (six ++ later)) i []
after_six [] later i h = as_sent_lem later i
after_six (y ∷ six) later zero h = absurd (omega arith)
after_six (y ∷ six) later (suc i) h = after_six six later i (omega arith)

within_six : (six later : List Send) (i : ℕ) → Octets53 (lines_of six) → i < length six
    → get_or (map bits_of (burst six later)) i [] ≡ get_or (map (λ x. bits_of x.line) (six ++ later)) i [] → ⊥
within_six [] later i o h e = omega arith
within_six (y ∷ six) later zero o h e = damaged_differs y.line o.0 e
within_six (y ∷ six) later (suc i) o h e = within_six six later i o.1 (omega arith) e

pub outside_six : (x : Send) (six later : List Send) (i : ℕ) → length six ≡ 6 → (i < 1) ⊎ (1 + 6 ≤ i) → Undamaged (x ∷ six ++ later) (map bits_of (x.line ∷ burst six later)) i
outside_six x six later zero l h = refl
outside_six x six later (suc i) l (inl h) = absurd (omega arith)
outside_six x six later (suc i) l (inr h) = after_six six later i (omega arith)

pub inside_six : (x : Send) (six later : List Send) (i : ℕ) → Octets53 (lines_of six) → length six ≡ 6 → 1 ≤ i → i < 1 + 6
    → Undamaged (x ∷ six ++ later) (map bits_of (x.line ∷ burst six later)) i → ⊥
inside_six x six later zero o l h k e = omega arith
inside_six x six later (suc i) o l h k e = within_six six later i o (omega arith) e

pub length_burst : (six later : List Send) → length (burst six later) ≡ length (six ++ later)
length_burst [] later = length-map later (λ x. x.line)
length_burst (y ∷ six) later = ap suc (length_burst six later)
