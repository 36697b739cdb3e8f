-- A receiving end, and what a call does to it, to the sink and to the ring of events that are lent to the call.
--
--   made_end places kind  an end as it is made, with so many places for events and a sink of this kind
--   places_of kind        how many places the ring of a sink has
--   answer_of a           what a call answers, where a feed answers a
--   Carries               what a call answers and leaves, also where it is refused: of the end e, of what the sink means, k, and of
--                         the events q
use Rattle.std.specs.Prelude.{◌≡◌, ℕ, Ok, Err, vec_items, Result}
use Rattle.cell.specs.declared.refusal.Refusal.{Refusal}
use Rattle.ports.specs.Sink.{SinkState}
use Rattle.receiver.specs.Feed.{Events, made, was_reset, FeedAnswer}
use Rattle.receiver_vectors.specs.declared.calls.Call.{Call}
use Rattle.receiver_vectors.specs.declared.calls.Call.TheVariants as calls
use Rattle.receiver_vectors.specs.declared.calls.SinkKind.{SinkKind}
use Rattle.receiver_vectors.specs.declared.calls.SinkKind.TheVariants.{Ring, Closed, Split}
use Rattle.receiver_vectors.specs.declared.end.Answer.{Answer}
use Rattle.receiver_vectors.specs.declared.end.Answer.TheVariants.{Made, Taken, Reset}
use Rattle.receiver_vectors.specs.declared.end.End.{End}

abbrev pub made_end : ℕ → SinkKind → End
made_end places kind = record { receiver = made; event_places = places; sink = kind }

abbrev pub places_of : SinkKind → ℕ
places_of (Ring n) = n
places_of Closed = 0
places_of (Split b n) = n

abbrev pub answer_of : Result ℕ Refusal → Result Answer Refusal
answer_of (Ok n) = Ok (Taken n)
answer_of (Err e) = Err e

abbrev pub Carries : Call → End → SinkState → Events → Result Answer Refusal → End → SinkState → Events → Type 0
Carries (calls.End places kind) e k q r e' k' q' = (r ≡ Ok Made) × (e' ≡ made_end places kind) × (k' ≡ k) × (q' ≡ q)
Carries (calls.Feed v) e k q r e' k' q' =
    (a : Result ℕ Refusal) × (r ≡ answer_of a) × FeedAnswer (vec_items v) e.receiver k q a e'.receiver k' q'
    × (e'.event_places ≡ e.event_places) × (e'.sink ≡ e.sink)
Carries calls.Reset e k q r e' k' q' =
    (r ≡ Ok Reset) × (e' ≡ record e { receiver = was_reset e.receiver }) × (k' ≡ k) × (q' ≡ q)
