-- A hunt that ends on a sent stream: each connection gains its user cells from the twenty-fifth on.
-- Knows the code by the record CodeLaws only, and of sinks nothing but what a row of offers adds.
use Rattle.std.proofs.Common.{◌≡◌, ℕ, ◌+◌, ◌*◌, List, [], ◌∷◌, ◌++◌, length, take, drop, None, Option, sym, refl, ap, ◌∙◌, subst, arith, length-append}
use Rattle.ports.specs.Cell.{Cell, of_connection}
use Rattle.scrambler.specs.Generator.{next_phase}
use Rattle.sender.specs.Stream.{Send, line_of, sent_users}
use Rattle.tracker.specs.declared.state.Mode.{Mode}
use Rattle.tracker.specs.declared.state.Delineation.TheVariants.{Presync}
use Rattle.tracker.specs.declared.state.Place.TheVariants.{Payload}
use Rattle.tracker.specs.declared.tracker.Tracker.{Tracker}
use Rattle.tracker.specs.Window.{counted, shifted}
use Rattle.tracker.specs.Rules.{locked_on}
use Rattle.tracker.specs.Tracker.{start}
use Rattle.receiver.specs.Run.{bits_of, step, after}
use Rattle.receiver.specs.Handing.{Moment, bits}
use Rattle.receiver.proofs.Runs.{after-append}
use Rattle.line.specs.Heard.{Heard, Gains, ReadyAt, Begins}
use Rattle.line.specs.Laws.{header_bits, payload_bits, complete, ReadyFrom, StreamGained}
use Rattle.line.proofs.Bits.{value, window_header}
use Rattle.line.proofs.Carried.{CarriedOn}
use Rattle.line.proofs.Cells.{at, At, long_run}
use Rattle.line.proofs.CodeLaws.{CodeLaws, trail}
use Rattle.line.proofs.Frames.{frames, flat_frames, sized_frames, from_cell, from_gained, SentAt, sent_at}
use Rattle.line.proofs.Gained.{hands_of, all_gained}
use Rattle.line.proofs.Locking.{acquire_on}
use Rattle.line.proofs.Offers.{Sized, flat, rows_offers, brings_long, flat_long}
use Rattle.line.proofs.Runs.{length-bits, heard-rest}
use Rattle.line.proofs.Sends.{stream_carried, header_long_lem, payload_long_lem, header_samples}
use Rattle.line.proofs.SentHeaders.{acquiring, bound_at, sampled_first, hunt_ends_lem}

module _ (laws : CodeLaws) where
  ready_at : (x : Send) (back : List Send) (rest : List Moment) → ReadyFrom 24 rest (x ∷ back) → (i : ℕ) (c : Cell) → SentAt 24 i (x ∷ back) c
      → ReadyAt rest (424 * i + 383) c
  ready_at x back rest r i c a =
      subst (λ (z : Cell). ReadyAt rest (424 * i + 383) z) a.cell
      (subst (λ (j : ℕ). ReadyAt rest (424 * j + 383) a.send.cell) a.count
      (r a.before a.later a.send a.is (let z = a.enough in let y = a.count in omega arith) a.kind))

  stream_gains : (k q : ℕ) (x : Send) (back : List Send) (s : Tracker) (m : Mode) (rest : List Moment) → CarriedOn q (x ∷ back)
      → At s m (Payload 47 7 None (locked_on (value (header_bits x)))) → Heard s rest → Begins (bits rest) (payload_bits x ++ bits_of (line_of back))
      → ReadyFrom 24 rest (x ∷ back) → Gains k rest (of_connection k (sent_users (drop 24 (take (complete (length rest)) (x ∷ back)))))
  stream_gains k q x back s m rest f p a b r =
      let fs = frames back in
      let us : List (Option Cell) = from_cell 24 (x ∷ back) in
      let lw : length (payload_bits x) ≡ 384 = payload_long_lem laws f.0 in
      let sz : Sized fs = sized_frames laws back (next_phase q) f.1 in
      let p' : At s m (Payload 47 7 None (acquiring (bound_at 1) 1 (trail 0 q))) =
      record {
        control = p.control ∙ ap (λ z. at m (Payload 47 7 None (acquiring (Presync 0) 1 z)))
            (sampled_first q (value (header_bits x)) (header_samples laws f.0));
        long = p.long;
      } in
      let b' : Begins (bits rest) (payload_bits x ++ flat fs) = (b.0, b.1 ∙ ap (λ z. payload_bits x ++ z) (sym (flat_frames back))) in
      let br = (acquire_on laws back 14 x q m 0 refl f.0.fits f).brings in
      let sp = rows_offers fs m None (acquiring (bound_at 1) 1 (trail 0 q)) (payload_bits x) us s (bits rest) p' lw sz b' br in
      let lu = brings_long m None (acquiring (bound_at 1) 1 (trail 0 q)) (payload_bits x) fs us br in
      subst (Gains k rest) (from_gained k 24 (complete (length rest)) (x ∷ back) q f)
      (all_gained k rest us _ sp (hands_of rest s a)
      (let y = ap length b'.1 in let z = length-append (bits rest) b.0 in let v = length-append (payload_bits x)
      (flat fs) in let t = length-bits rest in let w = flat_long fs sz in omega arith)
      (λ i c e. ready_at x back rest r i c (sent_at 24 i (x ∷ back) c q f e)))

  pub stream_gained : (all : List Moment) → Heard start all → StreamGained all
  unfolding step
  stream_gained all heard past rest m p front back x split a ready k =
      let f : CarriedOn x.phase (x ∷ back) = stream_carried p front x back a.stream in
      let s : Tracker = after start (bits past) in
      let v : (step s m.bit).window.bits ≡ value (header_bits x) =
      ap (λ (z : Tracker). z.window.bits)
      (sym (after-append start (bits past) (m.bit ∷ [])) ∙ ap (after start) a.on_header.1
      ∙ after-append start a.on_header.0 (header_bits x))
      ∙ window_header (header_bits x) (after start a.on_header.0) (header_long_lem laws f.0) in
      stream_gains k x.phase x back (step s m.bit) s.control.mode rest f
      (record {
        control = hunt_ends_lem s.control.mode s.control.place (counted s.window.come) (shifted s.window.bits m.bit) a.hunts a.ends
            ∙ ap (λ z. at s.control.mode (Payload 47 7 None (locked_on z))) v;
        long = sym (ap (λ (z : Tracker). length z.payload) (after-append start (bits past) (m.bit ∷ [])))
            ∙ long_run (bits past ++ m.bit ∷ []) start;
      })
      (heard-rest start past (m ∷ rest) (subst (Heard start) split heard)).1 a.as_sent ready
