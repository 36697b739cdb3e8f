-- A cell pushed into a ring is put into it as a sink.
use Rattle.std.proofs.Common.{◌≡◌, Bool, true, false, cond, eqb, List, [], ◌∷◌, ◌++◌, Ok, Err, filter, Result, sym, refl, ap, arith}
use Rattle.std.proofs.lemmas.List.{map_push, length_push, append-nil}
use Rattle.std.proofs.lemmas.Bool.{eq-eqb, ne_eqb}
use Rattle.cell.specs.Header.{connection_of}
use Rattle.cell.specs.declared.refusal.Refusal.{Refusal}
use Rattle.cell.specs.declared.refusal.Refusal.TheVariants.{NoOctets, TooManyOctets, BadPhase, WrongLength, ReservedHeader, NotServed, NoSpace, NoneWaiting, BadSampleWord, NoOnePhase}
use Rattle.ring.specs.declared.ring.Ring.{Ring}
use Rattle.ring.specs.Ring.{held, Pushed, Pushes}
use Rattle.ports.specs.declared.user_cell.UserCell.{UserCell}
use Rattle.ports.specs.CellRing.{ring_cells, ring_state, RingPut}
use Rattle.ports.specs.Sink.{Put, PutAnswer}
use Rattle.ports.specs.UserCell.{cell_of}

pub kept_push : {X : Type 0} (p : X → Bool) (xs : List X) (x : X) → filter p (xs ++ x ∷ []) ≡ filter p xs ++ cond (p x) (x ∷ []) []
kept_push p [] x = refl
kept_push p (y ∷ ys) x = rw (kept_push p ys x) (go (p y))
  where
    go : (b : Bool) → cond b (y ∷ (filter p ys ++ cond (p x) (x ∷ []) [])) (filter p ys ++ cond (p x) (x ∷ []) []) ≡ cond b (y ∷ filter p ys) (filter p ys) ++ cond (p x) (x ∷ []) []
    go true = refl
    go false = refl

module _ (ring ring' : Ring UserCell) (u : UserCell) where
  pub pushed : Pushed ring u ring' → Put (ring_state ring) u.header.0 u.payload (ring_state ring')
  pushed p =
      let h = u.header.0 in
      let grows : ring_cells ring' ≡ ring_cells ring ++ cell_of u ∷ [] = rw (p.held, map_push cell_of (held ring) u) in
      let free = p.free in
      record {
        whole = u.whole;
        user = u.user;
        served = rw u.user;
        appended = rw (grows, kept_push (λ c. eqb (connection_of c.header) (connection_of h)) (ring_cells ring) (cell_of u), eq-eqb (connection_of h) (connection_of h) refl);
        others = λ k n. rw (grows, kept_push (λ c. eqb (connection_of c.header) k) (ring_cells ring) (cell_of u), ne_eqb (connection_of h) k (λ e. n (sym e)), append-nil);
        lowered = rw (p.places, p.held, length_push (held ring) u) (omega arith);
        falls = λ k. rw (p.places, p.held, length_push (held ring) u) (omega arith, omega arith);
        serving = λ h. refl;
      }

  -- what a push answers, as a put
  pub push_put : {X : Type 0} (r : Result X Refusal) → Pushes ring u r ring' → PutAnswer (ring_state ring) u.header.0 u.payload r (ring_state ring')
  push_put (Ok x) p = pushed p
  push_put (Err NoSpace) (why, same) =
      let full = why.1 in
      ((refl, u.whole, u.user, rw u.user, omega arith), ap ring_state same)
  push_put (Err NoOctets) p = absurd p.0
  push_put (Err TooManyOctets) p = absurd p.0
  push_put (Err BadPhase) p = absurd p.0
  push_put (Err WrongLength) p = absurd p.0
  push_put (Err ReservedHeader) p = absurd p.0
  push_put (Err NotServed) p = absurd p.0
  push_put (Err NoneWaiting) p = absurd p.0
  push_put (Err BadSampleWord) p = absurd p.0
  push_put (Err NoOnePhase) p = absurd p.0

  -- and what it leaves in the ring
  pub push_ring : {X : Type 0} (r : Result X Refusal) → Pushes ring u r ring' → RingPut ring u.header.0 u.payload r ring'
  push_ring (Ok x) p = (rw (p.held, map_push cell_of (held ring) u), p.places)
  push_ring (Err e) p = p.1
