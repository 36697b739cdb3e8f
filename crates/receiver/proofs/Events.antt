-- Events by their numbers.
use Rattle.std.proofs.Common.{◌≡◌, ℕ, Bool, true, false, cond, List, [], ◌∷◌, ◌++◌, find, codes, append_assoc, ◌∙◌, Some, None, Ok, Err, Option, ◌&&◌, IfSome, is_some, is_err, refl, sym, ap, ap₂, subst, eqb-true}
use Rattle.std.proofs.lemmas.Bool.{false≢true}
use Rattle.tracker.specs.declared.events.HeaderCause.TheVariants.{Mended, Discarded}
use Rattle.tracker.specs.declared.events.BoundaryCause.TheVariants as boundary
use Rattle.tracker.specs.declared.events.DescramblerCause.TheVariants as descrambler
use Rattle.receiver.specs.declared.event.SinkCause.TheVariants as sink
use Rattle.receiver.specs.declared.event.Event.{Event}
use Rattle.receiver.specs.declared.event.Event.TheVariants.{Header, Boundary, Descrambler, Sink}
use Rattle.receiver.specs.declared.event.EventRecord.{EventRecord}
use Rattle.receiver.specs.declared.event.UnknownEvent.{UnknownEvent}
use Rattle.receiver.specs.Event.{event_numbers, all_events, has_numbers, event_of, Undoes}

own : (e : Event) → event_of (event_numbers e) ≡ Some e
unfolding event_of
own (Header Mended) = refl
own (Header Discarded) = refl
own (Boundary boundary.Presync) = refl
own (Boundary boundary.Sync) = refl
own (Boundary boundary.LostFromPresync) = refl
own (Boundary boundary.LostFromSync) = refl
own (Descrambler descrambler.Verification) = refl
own (Descrambler descrambler.Steady) = refl
own (Descrambler descrambler.LeftForAcquisition) = refl
own (Sink sink.Full) = refl
own (Sink sink.NotServed) = refl

-- what is found passes the test
by_test : {X : Type 0} (test : X → Bool) (y x : X) (rest : Option X) (b : Bool) → test y ≡ b → (rest ≡ Some x → test x ≡ true)
    → cond b (Some y) rest ≡ Some x → test x ≡ true
by_test test y x rest true is later e = subst (λ o. IfSome o (λ z. test z ≡ true)) e is
by_test test y x rest false is later e = later e

passes : {X : Type 0} (test : X → Bool) (xs : List X) (x : X) → find test xs ≡ Some x → test x ≡ true
passes test [] x e = absurd (false≢true (ap is_some e))
passes test (y ∷ xs) x e = by_test test y x (find test xs) (test y) refl (passes test xs x) e

both : (a b : Bool) → (a && b) ≡ true → (a ≡ true) × (b ≡ true)
both true true e = (refl, refl)
both true false e = absurd (false≢true e)
both false b e = absurd (false≢true e)

right : (n : ℕ × ℕ) (e : Event) → event_of n ≡ Some e → event_numbers e ≡ n
unfolding event_of
right n e is =
    let h = both _ _ (passes (has_numbers n) all_events e is) in
    ap₂ (λ (l c : ℕ). (l, c)) (eqb-true (event_numbers e).0 n.0 h.0) (eqb-true (event_numbers e).1 n.1 h.1)

pub event_known : (x : EventRecord) (e : Event) → Undoes x (Ok e) → event_of (x.layer, x.cause) ≡ Some e
event_known x e h = subst (λ n. event_of n ≡ Some e) (h.right e refl) (own e)

pub event_unknown : (x : EventRecord) (u : UnknownEvent) → Undoes x (Err u) → event_of (x.layer, x.cause) ≡ None
event_unknown x u h = none_found (event_of (x.layer, x.cause)) refl
  where
    none_found : (o : Option Event) → event_of (x.layer, x.cause) ≡ o → event_of (x.layer, x.cause) ≡ None
    none_found None is = is
    none_found (Some e) is = absurd (false≢true (sym (ap is_err (h.found e (right (x.layer, x.cause) e is)))))

-- ---- a record in words, as it is written and as the definition joins it

pub event_joined : (bit words : List ℕ) → codes "bit " ++ (bit ++ (codes ": " ++ words)) ≡ codes "bit " ++ bit ++ codes ": " ++ words
event_joined bit words = ap (λ l. codes "bit " ++ l) (sym (append_assoc bit (codes ": ") words))

pub numbers_joined : (bit layer cause : List ℕ)
    → codes "bit " ++ (bit ++ (codes ": layer " ++ (layer ++ (codes ", cause " ++ cause))))
    ≡ codes "bit " ++ bit ++ codes ": " ++ (codes "layer " ++ layer ++ codes ", cause " ++ cause)
numbers_joined bit layer cause =
    ap (λ l. codes "bit " ++ (bit ++ (codes ": layer " ++ l))) (sym (append_assoc layer (codes ", cause ") cause))
    ∙ event_joined bit (codes "layer " ++ layer ++ codes ", cause " ++ cause)
