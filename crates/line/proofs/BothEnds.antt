-- The theorem of the line, from the laws of what one receiving end hears. Knows of the book only what a mended header writes down.
use Rattle.std.proofs.Common.{◌≡◌, Bool, true, false, ltb, List, [], ◌∷◌, ◌++◌, length, Some, Option, sym, refl, ap, ◌∙◌, subst, le-ltb, lt-ltb}
use Rattle.sender.specs.Sender.{SenderState}
use Rattle.tracker.specs.declared.tracker.Tracker.{Tracker}
use Rattle.tracker.specs.declared.tracker.Moment.{Moment as Brought}
use Rattle.tracker.specs.declared.tracker.Moment.TheVariants as moment
use Rattle.tracker.specs.Tracker.{start, bit_step, bit_brings}
use Rattle.receiver.specs.declared.receiver.Receiver.{Receiver}
use Rattle.receiver.specs.Book.{Log, bit_counted, booked, posted, brought, noted, log_run}
use Rattle.receiver.specs.Feed.{log}
use Rattle.receiver.specs.Handing.{Reply, Moment, bits}
use Rattle.receiver.specs.Run.{step, after}
use Rattle.receiver.proofs.Runs.{after-append, bits-append}
use Rattle.line.specs.Heard.{Heard}
use Rattle.line.specs.Laws.{LawsThroughout, mended_only}
use Rattle.line.specs.Receiving as receiving
use Rattle.line.specs.Receiving.{heard}
use Rattle.line.specs.Sending as sending
use Rattle.line.specs.Theorem.{MendedTold, Received, Sent, LineTheorem}
use Rattle.line.proofs.Histories.{history_stands, each_stretch}
use Rattle.line.proofs.Streams.{streams-sent}

-- ---- a mended header

note_told : (s : Tracker) (b : Bool) (reply : Reply) (g : Log) → bit_brings s b ≡ Some (moment.Header mended_only) → MendedTold g (noted s b reply g)
unfolding posted
note_told s b reply g e =
    let brings : noted s b reply g ≡ brought (Some (moment.Header mended_only)) (bit_step s b).payload reply (booked (bit_counted g.book) g) =
    ap (λ (x : Option Brought). brought x (bit_step s b).payload reply (booked (bit_counted g.book) g)) e in
    subst (MendedTold g) (sym brings)
    (record {
      told = λ free. let t : ltb (length g.events) g.places ≡ true = lt-ltb (length g.events) g.places free in rw t refl;
      lost = λ full. let t : ltb (length g.events) g.places ≡ false = le-ltb (length g.events) g.places full in rw t refl;
    })

log_last : (ms : List Moment) (m : Moment) (s : Tracker) (g : Log) → log_run s g (ms ++ m ∷ []) ≡ noted (after s (bits ms)) m.bit m.reply (log_run s g ms)
log_last [] m s g = refl
log_last (x ∷ ms) m s g = log_last ms m (step s x.bit) (noted s x.bit x.reply g)

-- ---- the theorem

module _ (laws : (all : List Moment) → Heard start all → LawsThroughout all) where
  received : {cs : List receiving.Call} {r : Receiver} (h : receiving.History cs r) → Received h
  received {r = r} h =
      record {
        tracker = (history_stands h).tracker;
        handed = each_stretch (Heard start) (λ all h. h) h;
        laws = each_stretch LawsThroughout laws h;
        mended = λ f n r' fed before later m is e. told f before m e;
        feed = λ f r' x. receiving.called h x;
        reset = receiving.called h refl;
        state = receiving.called h (refl, refl);
        counters = receiving.called h (refl, refl);
        bits = receiving.called h (refl, refl);
        f3_payload = receiving.called h (refl, refl);
      }
    where
      told : (f : receiving.Feed) (before : List Moment) (m : Moment) → bit_brings (after start (bits ((heard h).newest ++ before))) m.bit ≡ Some (moment.Header mended_only)
          → MendedTold (log_run r.tracker (log r f.events) before) (log_run r.tracker (log r f.events) (before ++ m ∷ []))
      told f before m e =
          let here : after start (bits ((heard h).newest ++ before)) ≡ after r.tracker (bits before) =
          ap (after start) (bits-append (heard h).newest before) ∙ after-append start (bits (heard h).newest) (bits before)
          ∙ ap (λ (t : Tracker). after t (bits before)) (sym (history_stands h).tracker) in
          let g : Log = log_run r.tracker (log r f.events) before in
          subst (MendedTold g) (sym (log_last before m r.tracker (log r f.events)))
          (note_told (after r.tracker (bits before)) m.bit m.reply g (ap (λ (t : Tracker). bit_brings t m.bit) (sym here) ∙ e))

  sent : {cs : List sending.Call} {s : SenderState} (h : sending.History cs s) → Sent h
  sent h =
      record {
        streams = streams-sent h;
        start = λ p answer s' x. sending.called h x;
        send = λ x s' us y. sending.called h (us, y);
        send_next = λ waiting waiting' kind line s' us y. sending.called h (us, (refl, y));
        set_f3 = λ f answer s' x. sending.called h x;
        phase = sending.called h (refl, refl);
        number = sending.called h (refl, refl);
      }

  pub line_theorem : LineTheorem
  line_theorem = record { receiving = λ cs r h. received h; sending = λ cs s h. sent h }
