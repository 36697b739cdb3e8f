-- In step, one wrong header bit after a right header is mended, and the cell goes up if its payload comes as sent.
-- Knows the code by the record CodeLaws only, and of sinks nothing but what an offer adds.
use Rattle.std.proofs.Common.{◌≡◌, ℕ, ◌+◌, ◌≤◌, Bool, false, List, [], ◌∷◌, ◌++◌, length, take, drop, Some, sym, refl, ap, ◌∙◌, subst, ap₂, append_assoc, append-nil, arith, length-append, take-append-drop, length-take, drop_at}
use Rattle.cell.specs.declared.header.Header as headers
use Rattle.cell.specs.declared.header.Kind.TheVariants.{User}
use Rattle.cell.specs.declared.verdict.Verdict.{Verdict}
use Rattle.cell.specs.declared.verdict.Verdict.TheVariants.{OneWrongBit}
use Rattle.ports.specs.Cell.{Cell, of_connection}
use Rattle.scrambler.specs.Generator.{next_phase}
use Rattle.sender.specs.Stream.{Send, lost}
use Rattle.tracker.specs.declared.events.HeaderEvents.{HeaderEvents}
use Rattle.tracker.specs.declared.state.Mode.{Mode}
use Rattle.tracker.specs.declared.state.Mode.TheVariants.{Correction, Detection}
use Rattle.tracker.specs.declared.state.Delineation.TheVariants.{Sync}
use Rattle.tracker.specs.declared.state.Descrambler.{Descrambler}
use Rattle.tracker.specs.declared.state.Descrambler.TheVariants.{Steady}
use Rattle.tracker.specs.declared.state.Lock.{Lock}
use Rattle.tracker.specs.declared.state.Place.TheVariants.{Payload, Header}
use Rattle.tracker.specs.declared.state.Control.{Control}
use Rattle.tracker.specs.declared.tracker.Tracker.{Tracker}
use Rattle.tracker.specs.declared.tracker.Moment.TheVariants as moment
use Rattle.tracker.specs.Window.{freed, sample_fault, header_in, mended_in, counted}
use Rattle.tracker.specs.Rules.{hold, is_clean, verdict_at, delineation_after, mode_on, taken_by, entered, sampled, headed}
use Rattle.tracker.specs.Events.{header_cause, boundary_event, descrambler_event_to, events_on}
use Rattle.tracker.specs.Tracker.{start, control_after, brought, bit_brings}
use Rattle.receiver.specs.Run.{step, after, offered}
use Rattle.receiver.specs.Handing.{Moment, bits}
use Rattle.receiver.proofs.Runs.{after-append, bits-append}
use Rattle.line.specs.Heard.{Heard, Gains, ReadyAt}
use Rattle.line.specs.Laws.{header_bits, payload_bits, InStep, Right, differing, mended_only, Restored, OneBitMended}
use Rattle.line.proofs.Bits.{value, window_header}
use Rattle.line.proofs.Carried.{Carried, sent_user}
use Rattle.line.proofs.CellOffers.{offers, offers_append, length_offers, pay_offers, offered_last}
use Rattle.line.proofs.Cells.{at, At, paying, on, on_length, head_run, long_run, synced}
use Rattle.line.proofs.CodeLaws.{CodeLaws}
use Rattle.line.proofs.Frames.{sent_gained}
use Rattle.line.proofs.Gained.{Hands, hands_of, cell_gains, ready_front}
use Rattle.line.proofs.SentHeaders.{sent_up}
use Rattle.line.proofs.LawC.{right_cleared}
use Rattle.line.proofs.Offers.{Body, body as payload-first}
use Rattle.line.proofs.RightHeader.{Cleared}
use Rattle.line.proofs.Runs.{length-bits, heard_front, heard-rest}
use Rattle.line.proofs.Sends.{stream_carried, header_long_lem, payload_long_lem, header_clean, header_descrambled, sent_user_is}
use Rattle.line.proofs.Survives.{hold_any}

-- ---- a header with one wrong bit, in correction mode, after a right one

abbrev events_by : Mode → Verdict → ℕ → Descrambler → Descrambler → HeaderEvents
events_by m v n d e = record {
  header = header_cause m v;
  boundary = boundary_event (Sync n) (delineation_after (Sync n) (is_clean v));
  descrambler = descrambler_event_to d e (delineation_after (Sync n) (is_clean v));
}

one_events : (m : Mode) (n c q u w i c' : ℕ) → m ≡ Correction → n ≡ 0 → verdict_at (next_phase q) w ≡ OneWrongBit i
    → hold (sample_fault (freed (next_phase q) w)) c (next_phase q) ≡ Steady c' (next_phase q)
    → events_on m (synced n c q u) w ≡ mended_only
one_events m n c q u w i c' a b v h =
    ap₂ (λ (x : Mode) (y : Verdict). events_by x y n (Steady c q) (hold (sample_fault (freed (next_phase q) w)) c (next_phase q))) a v
    ∙ ap₂ (λ (x : ℕ) (y : Descrambler). events_by Correction (OneWrongBit i) x (Steady c q) y) b h

one_headed : (m : Mode) (n c q u w i c' : ℕ) → m ≡ Correction → n ≡ 0 → verdict_at (next_phase q) w ≡ OneWrongBit i
    → hold (sample_fault (freed (next_phase q) w)) c (next_phase q) ≡ Steady c' (next_phase q)
    → headed m (synced n c q u) w ≡ at Detection (Payload 47 7 (Some (mended_in (next_phase q) w i)) (synced 1 c' (next_phase q) (sampled u w)))
one_headed m n c q u w i c' a b v h =
    ap₂ (λ (x : Mode) (y : Verdict). entered (synced n c q u) (taken_by x y (next_phase q) w)
    (hold (sample_fault (freed (next_phase q) w)) c (next_phase q)) (sampled u w) (mode_on y) (delineation_after (Sync n) (is_clean y))) a v
    ∙ ap₂ (λ (x : ℕ) (y : Descrambler). entered (synced x c q u) (Some (mended_in (next_phase q) w i)) y (sampled u w) Detection
    (delineation_after (Sync x) false)) b h

module _ (laws : CodeLaws) where
  module _ (past body rest : List Moment) (m : Moment) (p : ℕ) (front back : List Send) (x y : Send)
      (long : length body ≡ 423) (R : Right past p front x (y ∷ back)) (D : differing (drop 384 (bits body ++ m.bit ∷ [])) (header_bits y) ≡ 1) where
    abbrev st : InStep (after start (bits past)) x.phase
    st = R.in_step

    abbrev here : Tracker
    here = after start (bits past)

    abbrev lock : Lock
    lock = synced st.wrong st.confidence x.phase st.samples

    -- the phase of y
    abbrev next : ℕ
    next = next_phase x.phase

    first : Carried x.phase x
    first = (stream_carried p front x (y ∷ back) R.stream).0

    second : Carried next y
    second = (stream_carried p front x (y ∷ back) R.stream).1.0

    cleared : Cleared st.wrong st.confidence st.mode
    cleared = right_cleared laws past p front x (y ∷ back) R first

    bits_long : length (bits body) ≡ 423
    bits_long = length-bits body ∙ long

    -- the payload of the right header's cell, and then 39 bits of the next header
    parts : Body st.mode st.kept lock (take 384 (bits body)) (drop 384 (bits body)) here (bits body)
    parts = payload-first st.mode st.kept lock (take 384 (bits body)) (drop 384 (bits body)) here (bits body)
        (record { control = st.is; long = long_run (bits past) start })
        (length-take 384 (bits body) ∙ (let z = bits_long in omega arith)) ([], append-nil (bits body) ∙ sym (take-append-drop 384 (bits body)))
        (let z = bits_long in omega arith)

    abbrev header-starts : Tracker
    header-starts = step (after here parts.front) parts.last

    few : length parts.back ≡ 39
    few = let z = parts.total in let y = bits_long in omega arith

    -- the header as it came in
    abbrev got : List Bool
    got = parts.back ++ m.bit ∷ []

    got_long : length got ≡ 40
    got_long = length-append parts.back (m.bit ∷ []) ∙ ap (λ (z : ℕ). z + 1) few

    got_is : drop 384 (bits body ++ m.bit ∷ []) ≡ got
    got_is =
        ap (λ z. drop 384 (z ++ m.bit ∷ [])) parts.cut
        ∙ ap (drop 384) (append_assoc (parts.front ++ parts.last ∷ []) parts.back (m.bit ∷ []))
        ∙ drop_at (parts.front ++ parts.last ∷ []) (parts.back ++ m.bit ∷ []) 384
        (length-append parts.front (parts.last ∷ []) ∙ (let z = parts.count in omega arith))

    before_is : after start (bits (past ++ body)) ≡ after header-starts parts.back
    before_is =
        ap (after start) (bits-append past body) ∙ after-append start (bits past) (bits body) ∙ ap (after here) parts.cut
        ∙ after-append here (parts.front ++ parts.last ∷ []) parts.back
        ∙ ap (λ (z : Tracker). after z parts.back) (after-append here parts.front (parts.last ∷ []))

    before_control : (after start (bits (past ++ body))).control ≡ at st.mode (Header 0 lock)
    before_control =
        ap (λ (z : Tracker). z.control) before_is
        ∙ head_run parts.back 0 header-starts st.mode lock
        (parts.place.control ∙ ap (λ (z : ℕ). at st.mode (Header z lock))
        (let a = on_length parts.back 0 in let b = few in let z : 39 ≡ on parts.back 0 = omega arith in z))

    window_is : (step (after start (bits (past ++ body))) m.bit).window.bits ≡ value got
    window_is =
        ap (λ (z : Tracker). (step z m.bit).window.bits) before_is
        ∙ sym (ap (λ (z : Tracker). z.window.bits) (after-append header-starts parts.back (m.bit ∷ [])))
        ∙ window_header got header-starts got_long

    wrong_bit : (i : ℕ) × (verdict_at next (value got) ≡ OneWrongBit i) × (mended_in next (value got) i ≡ header_in next (value (header_bits y)))
    wrong_bit = laws.one_wrong next (header_bits y) got (header_long_lem laws second) got_long (header_clean laws second)
        (ap (λ z. differing z (header_bits y)) (sym got_is) ∙ D)

    held : (c : ℕ) × (hold (sample_fault (freed next (value got))) st.confidence next ≡ Steady c next) × (st.confidence ≤ c + 1) × (c ≤ 24)
    held = hold_any (sample_fault (freed next (value got))) st.confidence next cleared.least cleared.most

    abbrev lock' : Lock
    lock' = synced 1 held.0 next (sampled st.samples (value got))

    events : bit_brings (after start (bits (past ++ body))) m.bit ≡ Some (moment.Header mended_only)
    unfolding step
    events =
        ap₂ (λ (c : Control) (w : ℕ). brought c.mode c.place (counted (after start (bits (past ++ body))).window.come) w) before_control window_is
        ∙ ap (λ (z : HeaderEvents). Some (moment.Header z)) (one_events st.mode st.wrong st.confidence x.phase st.samples (value got) wrong_bit.0 held.0
        cleared.mends cleared.none wrong_bit.1 held.1)

    control_after_lem : (step (after start (bits (past ++ body))) m.bit).control ≡ at Detection
        (Payload 47 7 (Some (record { 0 = y.cell.header })) lock')
    unfolding step
    control_after_lem =
        ap₂ (λ (c : Control) (w : ℕ). control_after c.mode c.place
        (counted (after start (bits (past ++ body))).window.come) w) before_control window_is
        ∙ one_headed st.mode st.wrong st.confidence x.phase st.samples (value got) wrong_bit.0 held.0 cleared.mends
        cleared.none wrong_bit.1 held.1
        ∙ ap (λ (z : headers.Header). at Detection (Payload 47 7 (Some z) lock')) (wrong_bit.2 ∙ header_descrambled laws second)

    restored : Restored (after start (bits (past ++ body))) m.bit y
    restored = record {
      events = events;
      in_step = record {
        confidence = held.0;
        kept = Some (record { 0 = y.cell.header });
        wrong = 1;
        mode = Detection;
        samples = sampled st.samples (value got);
        is = control_after_lem ∙ ap (λ (z : ℕ). at Detection
            (Payload 47 7 (Some (record { 0 = y.cell.header })) (synced 1 held.0 z (sampled st.samples (value got))))) (sym second.phase);
      };
      kept = refl;
    }

    -- its payload as sent
    module _ (payload later : List Moment) (n : Moment) (e : rest ≡ payload ++ n ∷ later) (same : bits payload ++ n.bit ∷ [] ≡ payload_bits y) where
      abbrev then : Tracker
      then = step (after start (bits (past ++ body))) m.bit

      then_at : At then Detection (Payload 47 7 (Some (record { 0 = y.cell.header })) lock')
      then_at = record {
        control = control_after_lem;
        long = sym (ap (λ (z : Tracker). length z.payload) (after-append start (bits (past ++ body)) (m.bit ∷ [])))
            ∙ long_run (bits (past ++ body) ++ m.bit ∷ []) start;
      }

      payload_count_lem : length (bits payload) ≡ 383
      payload_count_lem = let a = length-append (bits payload) (n.bit ∷ []) in let b = ap length same in let c = payload_long_lem laws second in omega arith

      -- at its last bit
      last_is : after start (bits ((past ++ (body ++ m ∷ [])) ++ payload)) ≡ after then (bits payload)
      last_is =
          ap (λ z. after start (bits (z ++ payload))) (sym (append_assoc past body (m ∷ [])))
          ∙ ap (after start) (bits-append ((past ++ body) ++ m ∷ []) payload) ∙ after-append start (bits ((past ++ body) ++ m ∷ [])) (bits payload)
          ∙ ap (λ (z : Tracker). after z (bits payload))
          (ap (after start) (bits-append (past ++ body) (m ∷ [])) ∙ after-append start (bits (past ++ body)) (m.bit ∷ []))

      goes_up : offered (after then (bits payload)) n.bit ≡ sent_user y
      goes_up =
          (offered_last then (after then (bits payload)) (bits payload) n.bit Detection (Some (record { 0 = y.cell.header })) lock'
          (payload_bits y) then_at payload_count_lem same refl).0
          ∙ sent_up laws next y 1 held.0 (sampled st.samples (value got)) second

      gains : Heard start (past ++ (body ++ m ∷ rest)) → (y.kind ≡ User → ReadyAt rest 383 y.cell) → (k : ℕ)
          → Gains k (payload ++ n ∷ []) (of_connection k (lost y))
      gains heard ready k =
          let h₁ : Heard start ((past ++ body) ++ m ∷ rest) = subst (Heard start) (sym (append_assoc past body (m ∷ rest))) heard in
          let h₂ : Heard then rest = (heard-rest start (past ++ body) (m ∷ rest) h₁).1 in
          let e₂ : rest ≡ (payload ++ n ∷ []) ++ later = e ∙ sym (append_assoc payload (n ∷ []) later) in
          let h₃ : Heard then (payload ++ n ∷ []) = heard_front then (payload ++ n ∷ []) later (subst (Heard then) e₂ h₂) in
          let o : offers then (bits (payload ++ n ∷ [])) ≡ offers then (bits payload) ++ sent_user y ∷ [] =
          ap (offers then) (bits-append payload (n ∷ [])) ∙ offers_append (bits payload) (n.bit ∷ []) then
          ∙ ap (λ z. offers then (bits payload) ++ z ∷ []) goes_up in
          subst (Gains k (payload ++ n ∷ [])) (sent_gained k second)
          (cell_gains k (sent_user y) (offers then (bits payload)) (payload ++ n ∷ [])
          (pay_offers (bits payload) 0 then Detection (Some (record { 0 = y.cell.header })) lock'
          (then_at.control ∙ ap (λ (z : ℕ). at Detection (paying z (Some (record { 0 = y.cell.header })) lock'))
          (let a = on_length (bits payload) 0 in let b = payload_count_lem in let z : 383 ≡ on (bits payload) 0 = omega arith in z)))
          (length_offers (bits payload) then ∙ payload_count_lem)
          (subst (λ z. Hands z (payload ++ n ∷ [])) o (hands_of (payload ++ n ∷ []) then h₃))
          (λ c f. let u = sent_user_is second c f in
          subst (λ (z : Cell). ReadyAt (payload ++ n ∷ []) 383 z) u.1
          (ready_front (payload ++ n ∷ []) later 383 y.cell (subst (λ z. ReadyAt z 383 y.cell) e₂ (ready u.0)))))

  pub one_bit_mended : (all : List Moment) → Heard start all → OneBitMended all
  one_bit_mended all heard past body rest m p front back x y split long R D = (
    restored past body rest m p front back x y long R D,
    λ payload later n e same. record {
      offers = ap (λ (z : Tracker). offered z n.bit) (last_is past body rest m p front back x y long R D payload later n e same)
          ∙ goes_up past body rest m p front back x y long R D payload later n e same;
      gains = gains past body rest m p front back x y long R D payload later n e same (subst (Heard start) split heard);
    },
  )
