-- Events that find a free place in the ring, and events that do not.
use Rattle.std.proofs.Common.{◌≡◌, ℕ, true, false, ltb, List, [], ◌∷◌, ◌++◌, length, Ok, Err, Result, refl, sym, ap, ◌∙◌, ap₂, arith, le-ltb, lt-ltb}
use Rattle.std.proofs.lemmas.Bool.{false≢true}
use Rattle.std.specs.Result.{is_err}
use Rattle.cell.specs.declared.refusal.Refusal.{Refusal}
use Rattle.cell.specs.declared.refusal.Refusal.TheVariants.{NoOctets, TooManyOctets, BadPhase, WrongLength, ReservedHeader, NotServed, NoSpace, NoneWaiting, BadSampleWord, NoOnePhase}
use Rattle.ring.specs.declared.ring.Ring.{Ring}
use Rattle.ring.specs.Ring.{held, places, PushWhy, Pushed, Pushes}
use Rattle.receiver.specs.declared.book.Book.{Book}
use Rattle.receiver.specs.declared.book.Counters.{Counters}
use Rattle.receiver.specs.declared.event.Event.{Event}
use Rattle.receiver.specs.declared.event.EventRecord.{EventRecord}
use Rattle.receiver.specs.Book.{log_of, bump, counting, lost, posted}
use Rattle.receiver.specs.Event.{record_of}

-- the counters with so many events lost
abbrev pub losing : Counters → ℕ → Counters
losing c n = record c { lost = n }

module _ (k : Book) (e : Event) (ring ring' : Ring EventRecord) where
  posted_free : (x : EventRecord) → x ≡ record_of k.bits e → Pushed ring x ring' → log_of k ring' ≡ posted (log_of k ring) e
  unfolding posted
  posted_free x is p =
      let free : ltb (length (held ring)) (places ring) ≡ true = lt-ltb (length (held ring)) (places ring) p.free in
      rw free (ap₂ (λ (es : List EventRecord) (n : ℕ). record { book = k; events = es; places = n }) (p.held ∙ ap (λ (y : EventRecord). held ring ++ y ∷ []) is) p.places)

  full : (why : Refusal) → PushWhy ring why → length (held ring) ≡ places ring
  full NoOctets h = absurd h
  full TooManyOctets h = absurd h
  full BadPhase h = absurd h
  full WrongLength h = absurd h
  full ReservedHeader h = absurd h
  full NotServed h = absurd h
  full NoSpace h = h.1
  full NoneWaiting h = absurd h
  full BadSampleWord h = absurd h
  full NoOnePhase h = absurd h

  posted-lost : (why : Refusal) (k' : Book) → PushWhy ring why → ring' ≡ ring → k' ≡ lost k → log_of k' ring' ≡ posted (log_of k ring) e
  unfolding posted
  posted-lost why k' h same is =
      let f : length (held ring) ≡ places ring = full why h in
      let none : ltb (length (held ring)) (places ring) ≡ false = le-ltb (length (held ring)) (places ring) (omega arith) in
      rw none (ap₂ (λ (b : Book) (r : Ring EventRecord). log_of b r) is same)

  pub posted_room : {Y : Type 0} (answer : Result Y Refusal) (x : EventRecord) → is_err answer ≡ false → x ≡ record_of k.bits e → Pushes ring x answer ring'
      → log_of k ring' ≡ posted (log_of k ring) e
  posted_room (Ok y) x room is p = posted_free x is p
  posted_room (Err why) x room is p = absurd (false≢true (sym room))

  pub posted_full : {Y : Type 0} (answer : Result Y Refusal) (x : EventRecord) (count : ℕ) → is_err answer ≡ true → Pushes ring x answer ring'
      → count ≡ bump k.counters.lost → log_of (counting k (losing k.counters count)) ring' ≡ posted (log_of k ring) e
  posted_full (Ok y) x count none p is = absurd (false≢true none)
  posted_full (Err why) x count none p is =
      ap (λ n. log_of (counting k (losing k.counters n)) ring') is ∙ posted-lost why (lost k) p.0 p.1 refl
