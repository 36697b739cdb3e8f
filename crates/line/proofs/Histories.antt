-- Histories of calls on a receiving end: where its tracker stands, and that every stretch is heard from its making or a reset on.
-- Knows of a feed only that its moments are worked one after the other.
use Rattle.std.proofs.Common.{◌≡◌, ℕ, List, [], ◌∷◌, ◌++◌, Ok, Err, Result, sym, refl, ap, ◌∙◌, subst}
use Rattle.std.specs.List.{AllByRecursion}
use Rattle.cell.specs.declared.refusal.Refusal.{Refusal}
use Rattle.tracker.specs.declared.tracker.Tracker.{Tracker}
use Rattle.tracker.specs.Tracker.{start}
use Rattle.receiver.specs.declared.receiver.Receiver.{Receiver}
use Rattle.receiver.specs.Handing.{Moment, bits}
use Rattle.receiver.specs.Run.{after}
use Rattle.receiver.proofs.Runs.{after-append, bits-append}
use Rattle.line.specs.Heard.{Heard}
use Rattle.line.specs.Receiving as call
use Rattle.line.specs.Receiving.{Feed, Call, Feeding, Calls, History, made, called, Stretches, moments_of, heard_with, heard, stretches}
use Rattle.line.proofs.Runs.{heard-append, heard_along}

-- what a receiving end has heard, stretch by stretch, and where its tracker stands
pub record Stands (r : Receiver) (s : Stretches) : Type 0 where
  pub tracker : r.tracker ≡ after start (bits s.newest)
  pub newest : Heard start s.newest
  pub earlier : AllByRecursion (Heard start) s.earlier

module _ (r : Receiver) (f : Feed) (r' : Receiver) where
  fed_tracker : (answer : Result ℕ Refusal) (h : Feeding r f answer r') → r'.tracker ≡ after r.tracker (bits (moments_of r f r' answer h))
  fed_tracker (Ok n) h = h.works.tracker ∙ ap (after r.tracker) (sym h.works.fed)
  fed_tracker (Err e) h = ap (λ (x : Receiver). x.tracker) h.1

  fed_heard : (answer : Result ℕ Refusal) (h : Feeding r f answer r') → Heard r.tracker (moments_of r f r' answer h)
  fed_heard (Ok n) h = heard_along h.works.moments r.tracker f.sink f.sink' h.works.along
  fed_heard (Err e) h = tt

  fed_stands : (answer : Result ℕ Refusal) (h : Feeding r f answer r') (s : Stretches) → Stands r s
      → Stands r' (record { newest = s.newest ++ moments_of r f r' answer h; earlier = s.earlier })
  fed_stands answer h s st =
      let ms : List Moment = moments_of r f r' answer h in
      record {
        tracker = fed_tracker answer h ∙ ap (λ (t : Tracker). after t (bits ms)) st.tracker ∙ sym (after-append start (bits s.newest) (bits ms))
            ∙ ap (after start) (sym (bits-append s.newest ms));
        newest = heard-append start s.newest ms st.newest (subst (λ (t : Tracker). Heard t ms) st.tracker (fed_heard answer h));
        earlier = st.earlier;
      }

same_stands : (r r' : Receiver) (s : Stretches) → r' ≡ r → Stands r s → Stands r' s
same_stands r r' s e st = subst (λ (x : Receiver). Stands x s) (sym e) st

call_stands : (r : Receiver) (c : Call) (r' : Receiver) (h : Calls r c r') (s : Stretches) → Stands r s → Stands r' (heard_with r c r' h s)
call_stands r (call.feed f) r' h s st = fed_stands r f r' f.answer h s st
call_stands r call.reset r' h s st = record { tracker = ap (λ (x : Receiver). x.tracker) h; newest = tt; earlier = (st.newest, st.earlier) }
call_stands r (call.state x) r' h s st = same_stands r r' s h.1 st
call_stands r (call.counters x) r' h s st = same_stands r r' s h.1 st
call_stands r (call.bits x) r' h s st = same_stands r r' s h.1 st
call_stands r (call.f3_payload x) r' h s st = same_stands r r' s h.1 st

pub history_stands : {cs : List Call} {r : Receiver} (h : History cs r) → Stands r (heard h)
history_stands made = record { tracker = refl; newest = tt; earlier = tt }
history_stands (called {r = r} {r' = r'} {c = c} h x) = call_stands r c r' x (heard h) (history_stands h)

-- what holds of everything that is heard from a start on holds of every stretch
pub each_stretch : (P : List Moment → Type 0) → ((all : List Moment) → Heard start all → P all) → {cs : List Call} {r : Receiver} (h : History cs r) → AllByRecursion P (stretches h)
each_stretch P f {r = r} h = (f (heard h).newest st.newest, each (heard h).earlier st.earlier)
  where
    st : Stands r (heard h)
    st = history_stands h

    each : (ss : List (List Moment)) → AllByRecursion (Heard start) ss → AllByRecursion P ss
    each [] a = tt
    each (s ∷ ss) a = (f s a.0, each ss a.1)
