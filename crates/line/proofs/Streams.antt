-- Histories of calls on a sender: every stream that is read off one is a sent stream. Knows nothing of coding.
use Rattle.std.proofs.Common.{◌≡◌, ℕ, List, [], ◌++◌, Ok, Err, Result, sym, subst, append-nil}
use Rattle.std.specs.List.{AllByRecursion}
use Rattle.cell.specs.declared.header.Kind.{Kind}
use Rattle.cell.specs.declared.refusal.Refusal.{Refusal}
use Rattle.ports.specs.Cell.{User}
use Rattle.sender.specs.Sender.{SenderState, fresh, StartAnswer, SendAnswer, started, F3Answer}
use Rattle.sender.specs.Stream as stream
use Rattle.sender.specs.Stream.{Send, Run, none, more, f3_set, Begins, SentStream}
use Rattle.sender.proofs.Streams.{stream_laws}
use Rattle.line.specs.Sending as call
use Rattle.line.specs.Sending.{Sending, Call, Calls, History, made, called, Stream, Streams, beginning, started_with, sent_by, sent_with, sent, streams}

abbrev IsSent : Stream → Type 0
IsSent x = SentStream x.begins x.sends

-- a stream that leads to the sender s
record Leads (x : Stream) (s : SenderState) : Type 0 where
  first : SenderState
  begins : Begins x.begins first
  run : Run first x.sends s

-- all streams of a sender that is now s
record Stands (s : SenderState) (t : Streams) : Type 0 where
  newest : Leads t.newest s
  earlier : AllByRecursion IsSent t.earlier

is_sent : (x : Stream) (s : SenderState) → Leads x s → IsSent x
is_sent x s h = record { first = h.first; last = s; begins = h.begins; run = h.run }

goes_on : (x : Stream) (s s' : SenderState) (xs : List Send) → Leads x s → Run s xs s' → Leads (record { begins = x.begins; sends = x.sends ++ xs }) s'
goes_on x s s' xs h r = record { first = h.first; begins = h.begins; run = stream_laws.joined h.first s s' x.sends xs h.run r }

same_stands : (s s' : SenderState) (t : Streams) → s' ≡ s → Stands s t → Stands s' t
same_stands s s' t e st = subst (λ (z : SenderState). Stands z t) (sym e) st

start-stands : (s s' : SenderState) (p : ℕ) (answer : Result (Unit {0}) Refusal) (t : Streams) → StartAnswer s p answer s' → Stands s t → Stands s' (started_with p answer t)
start-stands s s' p (Ok u) t h st =
    subst (λ (z : SenderState). Stands z (started_with p (Ok u) t)) (sym h.1)
    (record { newest = record { first = started s p; begins = stream.start s p h.0; run = none }; earlier = (is_sent t.newest s st.newest, st.earlier) })
start-stands s s' p (Err e) t h st = same_stands s s' t h.1 st

send_runs : (s s' : SenderState) (x : Sending) (answer : Result Kind Refusal) → AllByRecursion User x.waiting → SendAnswer s x.waiting x.place answer s' x.waiting' x.place' → Run s (sent_by s x answer) s'
send_runs s s' x (Ok kind) us h = more (stream_laws.accepted s s' x.waiting x.waiting' kind x.place' us h.1) none
send_runs s s' x (Err e) us h = subst (λ (z : SenderState). Run s [] z) (sym h.1) none

f3_runs : (s s' : SenderState) (f : List ℕ) (answer : Result (Unit {0}) Refusal) → F3Answer s f answer s' → Run s [] s'
f3_runs s s' f (Ok u) h = subst (λ (z : SenderState). Run s [] z) (sym h.1) (f3_set h.0 none)
f3_runs s s' f (Err e) h = subst (λ (z : SenderState). Run s [] z) (sym h.1) none

call_stands : (s : SenderState) (c : Call) (s' : SenderState) (t : Streams) → Calls s c s' → Stands s t → Stands s' (sent_with s c t)
call_stands s (call.start p answer) s' t h st = start-stands s s' p answer t h st
call_stands s (call.send x) s' t h st = record { newest = goes_on t.newest s s' (sent_by s x x.answer) st.newest (send_runs s s' x x.answer h.0 h.1); earlier = st.earlier }
call_stands s (call.set_f3 f answer) s' t h st =
    record {
      newest = subst (λ (xs : List Send). Leads (record { begins = t.newest.begins; sends = xs }) s') (append-nil t.newest.sends) (goes_on t.newest s s' [] st.newest (f3_runs s s' f answer h));
      earlier = st.earlier;
    }
call_stands s (call.phase p) s' t h st = same_stands s s' t h.1 st
call_stands s (call.number n) s' t h st = same_stands s s' t h.1 st

history_stands : {cs : List Call} {s : SenderState} (h : History cs s) → Stands s (sent h)
history_stands made = record { newest = record { first = fresh; begins = stream.made; run = none }; earlier = tt }
history_stands (called {s = s} {s' = s'} {c = c} h x) = call_stands s c s' (sent h) x (history_stands h)

pub streams-sent : {cs : List Call} {s : SenderState} (h : History cs s) → AllByRecursion (λ x. SentStream x.begins x.sends) (streams h)
streams-sent {s = s} h =
    let st = history_stands h in
    (is_sent (sent h).newest s st.newest, st.earlier)
