-- Sinks that are not asked, over one bit, and over one run after another.
use Rattle.std.proofs.Common.{◌≡◌, ℕ, ◌+◌, ◌<◌, ◌≤◌, Bool, Option, List, [], ◌∷◌, ◌++◌, map, length, get_or, take, sym, ◌∙◌, subst, ap₂, take_all, arith}
use Rattle.std.proofs.lemmas.List.FromFn.{map-range_with_len_more}
use Rattle.std.specs.List.{range_with_len}
use Rattle.ports.specs.Sink.{SinkState}
use Rattle.tracker.specs.declared.tracker.Tracker.{Tracker}
use Rattle.tracker.specs.declared.tracker.Moment.{Moment as Brought}
use Rattle.tracker.specs.Tracker.{bit_step, bit_brings}
use Rattle.receiver.specs.declared.receiver.Receiver.{Receiver}
use Rattle.receiver.specs.Feed.{Events, Works}
use Rattle.receiver.specs.Handing.{NotAsked, Quiet, Unasked}
use Rattle.receiver.specs.Run.{bit_at, octet_bits, bits_of, step, after, cell_in, user_cell, kept_cell}
use Rattle.receiver.proofs.Runs.{first_bits, bits_more}

quiet_front : (bs cs : List Bool) (s : Tracker) → Quiet s (bs ++ cs) → Quiet s bs
quiet_front [] cs s q = tt
quiet_front (b ∷ bs) cs s q = (q.0, quiet_front bs cs (step s b) q.1)

quiet_back : (bs cs : List Bool) (s : Tracker) → Quiet s (bs ++ cs) → Quiet (after s bs) cs
quiet_back [] cs s q = q
quiet_back (b ∷ bs) cs s q = quiet_back bs cs (step s b) q.1

module _ {K : Type 0} where
  pub unasked_kept : (s : Tracker) (bs : List Bool) (x y : K) → y ≡ x → Unasked s bs x y
  unfolding Unasked
  unasked_kept s bs x y same q = same

  pub unasked_same : (s : Tracker) (bs cs : List Bool) (x y : K) → bs ≡ cs → Unasked s bs x y → Unasked s cs x y
  unasked_same s bs cs x y e h = subst (λ (l : List Bool). Unasked s l x y) e h

  pub unasked_one : (s t : Tracker) (m : Option Brought) (b : Bool) (x y : K)
      → t ≡ bit_step s b
      → m ≡ bit_brings s b
      → NotAsked (user_cell (cell_in m t.payload)) x y
      → Unasked s (b ∷ []) x y
  unfolding Unasked kept_cell
  unasked_one s t m b x y et em h q =
      subst (λ o. NotAsked o x y) (ap₂ (λ (n : Option Brought) (u : Tracker). user_cell (cell_in n u.payload)) em et ∙ q.0) h

  unasked_then : (s t : Tracker) (bs cs : List Bool) (x y z : K) → t ≡ after s bs → Unasked s bs x y → Unasked t cs y z → Unasked s (bs ++ cs) x z
  unfolding Unasked
  unasked_then s t bs cs x y z e first then q = then (subst (λ (u : Tracker). Quiet u cs) (sym e) (quiet_back bs cs s q)) ∙ first (quiet_front bs cs s q)

  -- one bit more of an octet
  pub unasked_bit : {r r' : Receiver} {k k' : SinkState} {q q' : Events} {n : ℕ} (o i : ℕ) (b : Bool) (x y z : K)
      → b ≡ bit_at o i
      → Works r k q (map (bit_at o) (range_with_len 0 i)) n r' k' q'
      → Unasked r.tracker (map (bit_at o) (range_with_len 0 i)) x y
      → Unasked r'.tracker (b ∷ []) y z
      → Unasked r.tracker (map (bit_at o) (range_with_len 0 (i + 1))) x z
  unasked_bit {r} {r'} o i b x y z is works first then =
      rw (map-range_with_len_more (bit_at o) 0 i i (omega arith))
      (unasked_then r.tracker r'.tracker (map (bit_at o) (range_with_len 0 i)) (bit_at o i ∷ []) x y z works.tracker first
      (subst (λ (c : Bool). Unasked r'.tracker (c ∷ []) y z) is then))

  -- one octet more of a feed
  pub unasked_octet : {r r' : Receiver} {k k' : SinkState} {q q' : Events} {n : ℕ} (os : List ℕ) (i o : ℕ) (x y z : K)
      → i < length os
      → o ≡ get_or os i 0
      → Works r k q (first_bits os i) n r' k' q'
      → Unasked r.tracker (first_bits os i) x y
      → Unasked r'.tracker (octet_bits o) y z
      → Unasked r.tracker (first_bits os (i + 1)) x z
  unfolding first_bits
  unasked_octet {r} {r'} os i o x y z h is works first then =
      rw (bits_more os i h)
      (unasked_then r.tracker r'.tracker (bits_of (take i os)) (octet_bits (get_or os i 0)) x y z works.tracker first
      (subst (λ (b : ℕ). Unasked r'.tracker (octet_bits b) y z) is then))

  pub unasked_all : (os : List ℕ) (i : ℕ) (s : Tracker) (x y : K) → length os ≤ i → Unasked s (first_bits os i) x y → Unasked s (bits_of os) x y
  unfolding first_bits
  unasked_all os i s x y all h = subst (λ (l : List ℕ). Unasked s (bits_of l) x y) (take_all i os all) h
