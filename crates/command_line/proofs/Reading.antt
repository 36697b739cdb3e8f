-- Octets read one part after another.
use Rattle.std.proofs.Common.{◌≡◌, ℕ, ◌+◌, ◌≤◌, List, ◌++◌, length, take, Some, None, Option, append_assoc, refl, ap, sym, ◌∙◌, arith}
use Rattle.std.proofs.Math.Seq.{take-append-add}
use Rattle.std.proofs.lemmas.List.{take-take, length-take-le}
use Rattle.std.proofs.lemmas.Slice.{take-put_mid}
use Rattle.std.specs.Io.KnownBytes.{Consumes}
use borrow.Rule.Slice.PartMut.{put_mid}

pub consumes_on : (a b c : Option (List ℕ)) (xs ys : List ℕ) → Consumes a b xs → Consumes b c ys → Consumes a c (xs ++ ys)
consumes_on None b c xs ys first next = tt
consumes_on (Some known) None c xs ys first next = absurd first
consumes_on (Some known) (Some left) None xs ys first next = absurd next
consumes_on (Some known) (Some left) (Some rest) xs ys first next = first ∙ ap (λ zs. xs ++ zs) next ∙ sym (append_assoc xs ys rest)

pub taken_on : (f n k : ℕ) (xs ys : List ℕ) → f ≤ length xs → n ≤ length ys → take (f + n) (put_mid f k xs ys) ≡ take f xs ++ take n ys
taken_on f n k xs ys within some =
    sym (take-take (f + n) (f + length ys) (put_mid f k xs ys) (omega arith))
    ∙ ap (take (f + n)) (take-put_mid f k xs ys (f + length ys) refl within)
    ∙ ap (λ m. take (m + n) (take f xs ++ ys)) (sym (length-take-le f xs within))
    ∙ take-append-add (take f xs) ys n
