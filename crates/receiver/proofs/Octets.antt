-- The bits of an octet, one after the other.
use Rattle.std.proofs.Common.{◌≡◌, ℕ, ◌+◌, Bool, [], ◌∷◌, map, refl, ap, ◌∙◌, div-one, arith}
use Rattle.std.proofs.lemmas.List.FromFn.{map-range_with_len_more}
use Rattle.std.specs.List.{range_with_len}
use Rattle.ports.specs.Sink.{SinkState}
use Rattle.receiver.specs.declared.receiver.Receiver.{Receiver}
use Rattle.receiver.specs.Feed.{Events, Works}
use Rattle.receiver.specs.Run.{bit_at, octet_bits}
use Rattle.receiver.proofs.Runs.{works_same, works_then}

pub all_eight : (o k : ℕ) → k ≡ 8 → map (bit_at o) (range_with_len 0 k) ≡ octet_bits o
unfolding octet_bits
all_eight o k e = ap (λ (n : ℕ). map (bit_at o) (range_with_len 0 n)) e ∙ eight o
  where
    eight : (o : ℕ) → map (bit_at o) (range_with_len 0 8) ≡ octet_bits o
    eight o = rw (div-one o) refl

-- a run over the first bits of an octet, and over one bit more
module _ {r r' r'' : Receiver} {k k' k'' : SinkState} {q q' q'' : Events} {n m : ℕ} (o i : ℕ) (b : Bool) where
  pub works_bit : b ≡ bit_at o i → Works r k q (map (bit_at o) (range_with_len 0 i)) n r' k' q' → Works r' k' q' (b ∷ []) m r'' k'' q''
      → Works r k q (map (bit_at o) (range_with_len 0 (i + 1))) (n + m) r'' k'' q''
  works_bit is a c = rw (map-range_with_len_more (bit_at o) 0 i i (omega arith)) (works_then a (works_same (ap (λ (x : Bool). x ∷ []) is) c))
