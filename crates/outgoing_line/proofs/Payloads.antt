-- A payload that was read into a place for one octet more.
use Rattle.std.proofs.Common.{◌≡◌, ℕ, ◌+◌, ◌<◌, ◌≤◌, List, [], ◌∷◌, ◌++◌, length, take, Some, None, Ok, Err, Option, sym, ap, ◌∙◌, subst, arith}
use Rattle.std.specs.Prelude.{◌≢◌}
use Rattle.std.proofs.lemmas.List.{append-nil, length-append, length-take-le}
use Rattle.std.specs.Io.KnownBytes.{Consumes, IsAtEnd}
use Rattle.outgoing_line.specs.F3Payload.{PayloadAnswer}
use Rattle.outgoing_line.specs.declared.f3_payload.PayloadError.TheVariants.{WrongLength}

-- all was read
whole : (left rest : Option (List ℕ)) (octets : List ℕ) → Consumes left rest octets → IsAtEnd rest → length octets ≡ 48 → PayloadAnswer left (Ok octets)
whole None rest octets read ended long = tt
whole (Some left) None octets read ended long = absurd read
whole (Some left) (Some rest) octets read ended long =
    let same : left ≡ octets = read ∙ ap (λ r. octets ++ r) ended ∙ append-nil octets in
    (ap length same ∙ long, sym same)

-- another number of octets came: fewer, and then no more, or one more
other : (left rest : Option (List ℕ)) (octets : List ℕ) → Consumes left rest octets → (length octets < 49 → IsAtEnd rest) → length octets ≢ 48 → PayloadAnswer left (Err WrongLength)
other None rest octets read ended long = tt
other (Some left) None octets read ended long = absurd read
other (Some left) (Some []) octets read ended long = λ e. long (sym (ap length (read ∙ append-nil octets)) ∙ e)
other (Some left) (Some (x ∷ xs)) octets read ended long = λ e.
    let total : length octets + length (x ∷ xs) ≡ 48 = sym (length-append octets (x ∷ xs)) ∙ sym (ap length read) ∙ e in
    let few : length octets < 49 = omega arith in
    let none : x ∷ xs ≡ [] = ended few in
    absurd (cc)

module _ (left rest : Option (List ℕ)) (place : List ℕ) (n : ℕ) (within : n ≤ 49) (long : length place ≡ 49) (read : Consumes left rest (take n place)) (ended : n < 49 → IsAtEnd rest) where
  came : length (take n place) ≡ n
  came = length-take-le n place (omega arith)

  pub payload_whole : (payload : List ℕ) → length (take n place) ≡ 48 → payload ≡ take n place → PayloadAnswer left (Ok payload)
  payload_whole payload is same =
      subst (λ p. PayloadAnswer left (Ok p)) (sym same) (whole left rest (take n place) read (ended (omega (arith, came))) is)

  pub payload_other : length (take n place) ≢ 48 → PayloadAnswer left (Err WrongLength)
  payload_other is = other left rest (take n place) read (λ few. ended (omega (arith, came))) is
