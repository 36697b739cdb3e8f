-- What the bits of one cell offer, and a whole header. Knows nothing of sinks, nor of the check octet and the generator.
--
--   offers s bs      what is offered with each of the bits bs
--   Quiet os         nothing is
--   cell_from k l w  the cell with the header k, if it is kept, whose payload came in as the bits w
--   Heads            a whole header
use Rattle.std.proofs.Common.{◌≡◌, ℕ, zero, suc, ◌+◌, ◌/◌, ◌%◌, ◌<◌, Bool, true, false, cond, ltb, List, [], ◌∷◌, ◌++◌, length, Some, None, Option, sym, refl, ap, ◌∙◌, subst, arith, length-append, le-ltb, lt-ltb}
use native.Mathlib.Decide.{dec_lt}
use Rattle.std.specs.List.{AllByRecursion}
use Rattle.cell.specs.declared.header.Header as headers
use Rattle.ports.specs.Cell.{Cell}
use Rattle.tracker.specs.declared.events.HeaderEvents.{HeaderEvents}
use Rattle.tracker.specs.declared.state.Mode.{Mode}
use Rattle.tracker.specs.declared.state.Lock.{Lock}
use Rattle.tracker.specs.declared.state.Place.{Place}
use Rattle.tracker.specs.declared.state.Place.TheVariants.{Payload, Header}
use Rattle.tracker.specs.declared.state.Control.{Control}
use Rattle.tracker.specs.declared.tracker.Tracker.{Tracker}
use Rattle.tracker.specs.declared.tracker.Moment.TheVariants as moment
use Rattle.tracker.specs.Window.{counted, shifted}
use Rattle.tracker.specs.Rules.{headed, phase_of}
use Rattle.tracker.specs.Tracker.{control_after, descrambled, brought, cell_ends, bit_step, unmasked}
use Rattle.receiver.specs.Run.{step, after, offered, kept_cell, cell_in, user_cell}
use Rattle.receiver.proofs.Runs.{after-append}
use Rattle.line.proofs.Bits.{value, octets_of, window_header}
use Rattle.line.proofs.Cells.{at, At, Ended, ended, paying, on, on_length, pay_next, head_next, step_control, pay_run, head_run, place_long, long_run, payload_run}
use Rattle.line.proofs.Runs.{all_joined}

pay_quiet : (m : Mode) (j : ℕ) (k : Option headers.Header) (l : Lock) (n w : ℕ) → brought m (paying (suc j) k l) n w ≡ None
pay_quiet m j k l n w = go (dec_lt 0 (suc j % 8))
  where
    go : Dec (0 < suc j % 8) → brought m (paying (suc j) k l) n w ≡ None
    go (yes h) = let t : ltb 0 (suc j % 8) ≡ true = lt-ltb 0 (suc j % 8) h in rw t refl
    go (no h) =
        let t : ltb 0 (suc j % 8) ≡ false = le-ltb 0 (suc j % 8) (omega arith) in
        let u : ltb 0 (suc j / 8) ≡ true = lt-ltb 0 (suc j / 8) (omega arith) in
        rw (t, u) refl

header_quiet : (t : Bool) (e : HeaderEvents) (xs : List ℕ) → user_cell (cell_in (cond t None (Some (moment.Header e))) xs) ≡ None
header_quiet true e xs = refl
header_quiet false e xs = refl

offers_none : (s : Tracker) (b : Bool) (m : Mode) (p : Place) → ((n w : ℕ) (xs : List ℕ) → user_cell (cell_in (brought m p n w) xs) ≡ None)
    → s.control ≡ at m p → offered s b ≡ None
unfolding kept_cell
offers_none s b m p f e =
    ap (λ (z : Control). user_cell (cell_in (brought z.mode z.place (counted s.window.come) (shifted s.window.bits b)) (bit_step s b).payload)) e
    ∙ f _ _ _

abbrev pub offers : Tracker → List Bool → List (Option Cell)
offers s [] = []
offers s (b ∷ bs) = offered s b ∷ offers (step s b) bs

abbrev pub Quiet : List (Option Cell) → Type 0
Quiet os = AllByRecursion (λ (o : Option Cell). o ≡ None) os

pub offers_append : (xs ys : List Bool) (s : Tracker) → offers s (xs ++ ys) ≡ offers s xs ++ offers (after s xs) ys
offers_append [] ys s = refl
offers_append (x ∷ xs) ys s = ap (λ l. offered s x ∷ l) (offers_append xs ys (step s x))

pub length_offers : (bs : List Bool) (s : Tracker) → length (offers s bs) ≡ length bs
length_offers [] s = refl
length_offers (b ∷ bs) s = ap suc (length_offers bs (step s b))

pub pay_offers : (bs : List Bool) (j : ℕ) (s : Tracker) (m : Mode) (k : Option headers.Header) (l : Lock) → s.control ≡ at m (paying (on bs j) k l)
    → Quiet (offers s bs)
pay_offers [] j s m k l e = tt
pay_offers (b ∷ bs) j s m k l e = (
  offers_none s b m _ (λ i w xs. ap (λ z. user_cell (cell_in z xs)) (pay_quiet m (on bs j) k l i w)) e,
  pay_offers bs j (step s b) m k l (step_control s b m (paying (suc (on bs j)) k l) _ (pay_next m (on bs j) k l) e),
)

pub head_offers : (bs : List Bool) (j : ℕ) (s : Tracker) (m : Mode) (l : Lock) → s.control ≡ at m (Header (on bs j) l) → Quiet (offers s bs)
head_offers [] j s m l e = tt
head_offers (b ∷ bs) j s m l e = (
  offers_none s b m _ (λ i w xs. header_quiet (ltb 0 (suc (on bs j))) _ xs) e,
  head_offers bs j (step s b) m l (step_control s b m (Header (suc (on bs j)) l) _ (head_next m (on bs j) l) e),
)

abbrev pub cell_from : Option headers.Header → Lock → List Bool → Option Cell
cell_from None l w = None
cell_from (Some h) l w = Some (record { header = h.0; payload = unmasked (phase_of l.descrambler) (octets_of w) })

cell_from_lem : (k : Option headers.Header) (l : Lock) (w : List Bool) → cell_in (cell_ends k) (descrambled k l (octets_of w)) ≡ cell_from k l w
cell_from_lem None l w = refl
cell_from_lem (Some h) l w = refl

-- what the last bit of a payload offers
pub offered_last : (s t : Tracker) (xs : List Bool) (b : Bool) (m : Mode) (k : Option headers.Header) (l : Lock) (w : List Bool)
    → At s m (Payload 47 7 k l) → length xs ≡ 383 → xs ++ b ∷ [] ≡ w → t ≡ after s xs
    → (offered t b ≡ user_cell (cell_from k l w)) × At (step t b) m (Header 39 l)
unfolding kept_cell step
offered_last s t xs b m k l w a len f e =
    let j : 383 ≡ on xs 0 = sym (on_length xs 0 ∙ ap (λ (z : ℕ). z + 0) len) in
    let c : t.control ≡ at m (Payload 0 0 k l) = ap (λ (z : Tracker). z.control) e
    ∙ pay_run xs 0 s m k l (a.control ∙ ap (λ (z : ℕ). at m (paying z k l)) j) in
    let p : (bit_step t b).payload ≡ descrambled k l (octets_of w) =
    ap (λ (z : Tracker). (bit_step z b).payload) e ∙ sym (ap (λ (z : Tracker). z.payload) (after-append s xs (b ∷ [])))
    ∙ ap (λ z. (after s z).payload) f
    ∙ payload_run s m k l w a (ap length (sym f) ∙ length-append xs (b ∷ []) ∙ ap (λ (z : ℕ). z + 1) len) in (
      ap (λ (z : Control). user_cell (cell_in (brought z.mode z.place (counted t.window.come) (shifted t.window.bits b)) (bit_step t b).payload)) c
          ∙ ap (λ (z : List ℕ). user_cell (cell_in (cell_ends k) z)) p ∙ ap user_cell (cell_from_lem k l w),
      record {
        control = ap (λ (z : Control). control_after z.mode z.place (counted t.window.come) (shifted t.window.bits b)) c;
        long = place_long t.control.place (shifted t.window.bits b) t.payload ∙ ap (λ (z : Tracker). length z.payload) e ∙ long_run xs s
            ∙ a.long;
      },
    )

-- ---- a whole header

pub record Heads (s : Tracker) (d : Mode) (l : Lock) (hs : List Bool) : Type 0 where
  pub quiet : Quiet (offers s hs)
  pub control : (after s hs).control ≡ headed d l (value hs)
  pub long : length (after s hs).payload ≡ 48

pub heads : (s : Tracker) (d : Mode) (l : Lock) (hs : List Bool) → At s d (Header 39 l) → length hs ≡ 40 → Heads s d l hs
unfolding step
heads s d l hs a len =
    let c : Ended 39 hs = ended 39 hs len in
    let xs : List Bool = c.front in
    let e : s.control ≡ at d (Header (on xs 0) l) = a.control
    ∙ ap (λ z. at d (Header z l)) (let q = on_length xs 0 in let r = c.long in let z : 39 ≡ on xs 0 = omega arith in z) in
    let t : (after s xs).control ≡ at d (Header 0 l) = head_run xs 0 s d l e in
    let st : after s hs ≡ step (after s xs) c.last = ap (after s) c.is ∙ after-append s xs (c.last ∷ []) in
    let v : (step (after s xs) c.last).window.bits ≡ value hs = ap (λ (z : Tracker). z.window.bits) (sym st) ∙ window_header hs s len in
    record {
      quiet = subst Quiet (sym (ap (offers s) c.is ∙ offers_append xs (c.last ∷ []) s))
          (all_joined (λ (o : Option Cell). o ≡ None) (offers s xs) (offers (after s xs) (c.last ∷ [])) (head_offers xs 0 s d l e)
          (offers_none (after s xs) c.last d (Header zero l) (λ i w xs. refl) t, tt));
      control = ap (λ (z : Tracker). z.control) st
          ∙ ap (λ (z : Control). control_after z.mode z.place (counted (after s xs).window.come) (shifted (after s xs).window.bits c.last)) t
          ∙ ap (headed d l) v;
      long = long_run hs s ∙ a.long;
    }
