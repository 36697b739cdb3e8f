-- Runs of bits: one bit, and one run after another.
use Rattle.std.proofs.Common.{◌≡◌, ℕ, zero, suc, ◌+◌, ◌<◌, ◌≤◌, Bool, false, nat_eq, Option, List, [], ◌∷◌, ◌++◌, length, get_or, take, sym, refl, ap, ◌∙◌, subst, ap₂, append_assoc, append-nil, arith, take_all}
use Rattle.std.proofs.lemmas.Bool.{false≢true}
use Rattle.std.proofs.lemmas.List.{take_more}
use Rattle.ports.specs.Sink.{SinkState}
use Rattle.ring.specs.declared.ring.Ring.{Ring}
use Rattle.tracker.specs.declared.tracker.Tracker.{Tracker}
use Rattle.tracker.specs.declared.tracker.Moment.{Moment as Brought}
use Rattle.tracker.specs.Tracker.{bit_step, bit_brings}
use Rattle.receiver.specs.declared.book.Book.{Book}
use Rattle.receiver.specs.declared.event.EventRecord.{EventRecord}
use Rattle.receiver.specs.declared.receiver.Receiver.{Receiver}
use Rattle.receiver.specs.Book.{Log, log_of, bit_counted, brought, noted, log_run}
use Rattle.receiver.specs.Feed.{Events, events_of, log, Works, Feeds}
use Rattle.receiver.specs.Handing.{Reply, Moment, bits, Handed, Along, taken, taken_in}
use Rattle.receiver.specs.Run.{octet_bits, bits_of, step, after, cell_in, user_cell, kept_cell}

-- ---- one bit

pub works_one : (r r' : Receiver) (k k' : SinkState) (ring ring' : Ring EventRecord) (b : Bool) (s : Tracker) (m : Option Brought) (g : Book) (reply : Reply) (n : ℕ)
    → s ≡ bit_step r.tracker b → m ≡ bit_brings r.tracker b → g ≡ bit_counted r.book → r'.tracker ≡ s
    → Handed (user_cell (cell_in m s.payload)) k reply k' → log_of r'.book ring' ≡ brought m s.payload reply (log_of g ring) → n ≡ taken reply
    → Works r k (events_of ring) (b ∷ []) n r' k' (events_of ring')
unfolding step kept_cell
works_one r r' k k' ring ring' b s m g reply n es em eg et handed written en =
    record {
      moments = record { bit = b; sink = k; reply = reply; sink' = k' } ∷ [];
      fed = refl;
      along = (refl, subst (λ (t : Tracker). Handed (user_cell (cell_in (bit_brings r.tracker b) t.payload)) k reply k') es (subst (λ (x : Option Brought). Handed (user_cell (cell_in x s.payload)) k reply k') em handed), refl);
      tracker = et ∙ es;
      written = written ∙ ap₂ (λ (x : Option Brought) (t : Tracker). brought x t.payload reply (log_of g ring)) em es
          ∙ ap (λ (x : Book). brought (bit_brings r.tracker b) (bit_step r.tracker b).payload reply (log_of x ring)) eg;
      answer = (let e = en in omega arith);
    }

-- ---- one run after another

pub after-append : (s : Tracker) (bs cs : List Bool) → after s (bs ++ cs) ≡ after (after s bs) cs
after-append s [] cs = refl
after-append s (b ∷ bs) cs = after-append (step s b) bs cs

pub bits-append : (xs ys : List Moment) → bits (xs ++ ys) ≡ bits xs ++ bits ys
bits-append [] ys = refl
bits-append (x ∷ xs) ys = ap (λ l. x.bit ∷ l) (bits-append xs ys)

taken-append : (xs ys : List Moment) → taken_in (xs ++ ys) ≡ taken_in xs + taken_in ys
taken-append [] ys = omega arith
taken-append (x ∷ xs) ys = let h = taken-append xs ys in omega arith

along_append : (xs ys : List Moment) (s : Tracker) (k k' k'' : SinkState) → Along s k xs k' → Along (after s (bits xs)) k' ys k'' → Along s k (xs ++ ys) k''
along_append [] ys s k k' k'' a b = subst (λ z. Along s z ys k'') a b
along_append (x ∷ xs) ys s k k' k'' a b = (a.0, a.1, along_append xs ys (step s x.bit) x.sink' k' k'' a.2 b)

log-append : (xs ys : List Moment) (s : Tracker) (g : Log) → log_run s g (xs ++ ys) ≡ log_run (after s (bits xs)) (log_run s g xs) ys
log-append [] ys s g = refl
log-append (x ∷ xs) ys s g = log-append xs ys (step s x.bit) (noted s x.bit x.reply g)

pub works_none : (r : Receiver) (k : SinkState) (q : Events) → Works r k q [] 0 r k q
works_none r k q = record { moments = []; fed = refl; along = refl; tracker = refl; written = refl; answer = refl }

pub works_same : {r r' : Receiver} {k k' : SinkState} {q q' : Events} {n : ℕ} {bs cs : List Bool} → bs ≡ cs → Works r k q bs n r' k' q' → Works r k q cs n r' k' q'
works_same {r} {r'} {k} {k'} {q} {q'} {n} e h = subst (λ (xs : List Bool). Works r k q xs n r' k' q') e h

module _ {r r' r'' : Receiver} {k k' k'' : SinkState} {q q' q'' : Events} {n m : ℕ} {bs cs : List Bool} where
  pub works_then : Works r k q bs n r' k' q' → Works r' k' q' cs m r'' k'' q'' → Works r k q (bs ++ cs) (n + m) r'' k'' q''
  works_then a b =
      let xs : List Moment = a.moments in
      let ys : List Moment = b.moments in
      let here : r'.tracker ≡ after r.tracker (bits xs) = a.tracker ∙ ap (after r.tracker) (sym a.fed) in
      record {
        moments = xs ++ ys;
        fed = bits-append xs ys ∙ ap₂ (λ (x y : List Bool). x ++ y) a.fed b.fed;
        along = along_append xs ys r.tracker k k' k'' a.along (subst (λ (t : Tracker). Along t k' ys k'') here b.along);
        tracker = b.tracker ∙ ap (λ (t : Tracker). after t cs) a.tracker ∙ sym (after-append r.tracker bs cs);
        written = b.written ∙ ap₂ (λ (t : Tracker) (g : Log). log_run t g ys) here a.written ∙ sym (log-append xs ys r.tracker (log r q));
        answer = ap₂ (λ (x y : ℕ). x + y) a.answer b.answer ∙ sym (taken-append xs ys);
      }

-- ---- the bits of octets

pub bits_of-append : (xs ys : List ℕ) → bits_of (xs ++ ys) ≡ bits_of xs ++ bits_of ys
bits_of-append [] ys = refl
bits_of-append (x ∷ xs) ys = ap (λ l. octet_bits x ++ l) (bits_of-append xs ys) ∙ sym (append_assoc (octet_bits x) (bits_of xs) (bits_of ys))

-- the bits of the first i octets: shut, so that search goes octet by octet
unfoldable pub first_bits : List ℕ → ℕ → List Bool
first_bits os i = bits_of (take i os)

pub works_no_octet : (os : List ℕ) (r : Receiver) (k : SinkState) (q : Events) → Works r k q (first_bits os 0) 0 r k q
unfolding first_bits
works_no_octet os r k q = works_none r k q

-- one octet more
pub bits_more : (os : List ℕ) (i : ℕ) → i < length os → bits_of (take (i + 1) os) ≡ bits_of (take i os) ++ octet_bits (get_or os i 0)
bits_more os i h =
    ap bits_of (take_more os i 0 h) ∙ bits_of-append (take i os) (get_or os i 0 ∷ []) ∙ ap (λ l. bits_of (take i os) ++ l) (append-nil (octet_bits (get_or os i 0)))

-- a run over one octet more
module _ {r r' r'' : Receiver} {k k' k'' : SinkState} {q q' q'' : Events} {n m : ℕ} (os : List ℕ) (i o : ℕ) where
  pub works_octet : i < length os → o ≡ get_or os i 0 → Works r k q (first_bits os i) n r' k' q' → Works r' k' q' (octet_bits o) m r'' k'' q''
      → Works r k q (first_bits os (i + 1)) (n + m) r'' k'' q''
  unfolding first_bits
  works_octet h is a b = rw (bits_more os i h) (works_then a (works_same (ap octet_bits is) b))

-- a feed, once its last octet is worked
pub feeds : (os : List ℕ) (i : ℕ) (r r' : Receiver) (k k' : SinkState) (q q' : Events) (n : ℕ) → nat_eq (length os) 0 ≡ false → length os ≤ 4096 → length os ≤ i
    → Works r k q (first_bits os i) n r' k' q' → Feeds os r k q n r' k' q'
unfolding first_bits
feeds os i r r' k k' q q' n some few all h =
    record {
      some = positive (length os) some;
      few = few;
      works = subst (λ (xs : List ℕ). Works r k q (bits_of xs) n r' k' q') (take_all i os all) h;
    }
  where
    positive : (n : ℕ) → nat_eq n 0 ≡ false → 0 < n
    positive zero z = absurd (false≢true (sym z))
    positive (suc n) z = omega arith
