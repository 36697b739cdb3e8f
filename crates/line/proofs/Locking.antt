-- A new receiving end that hears a sent stream from its first bit on: the hunt ends on the first header, and from the twenty-fourth header
-- on it is in SYNC, and in Steady with confidence 24. Knows the code by the record CodeLaws only, and nothing of sinks.
--
--   between x ys  what comes after the header of x up to the end of the last header of ys
--   Locked s q    after a header, in SYNC with no header wrong, and in Steady with confidence 24 and the phase q
--   nine e        nine more than e
--   Acquires      a right header is in, before the payload of x: the c-th right one since the hunt, or the 24th or a later one. What is offered
--                 over this payload and the cells ys after it, and that the end is locked after 24 right headers
--   Caught x      the bits of the header of x, the last apart, and the state that they lead a new end to
use Rattle.std.proofs.Common.{◌≡◌, ℕ, zero, suc, ◌+◌, ◌^◌, ◌<◌, ◌≤◌, Bool, true, false, cond, eqb, ltb, List, [], ◌∷◌, ◌++◌, length, None, Option, sym, refl, ap, ◌∙◌, subst, append_assoc, append-nil, arith, length-append, le-ltb, lt-ltb, ne_eqb}
use Rattle.cell.specs.declared.header.Header as headers
use Rattle.scrambler.specs.Generator.{next_phase}
use Rattle.ports.specs.Cell.{Cell}
use Rattle.sender.specs.Stream.{Send, line_of}
use Rattle.tracker.specs.declared.state.Mode.{Mode}
use Rattle.tracker.specs.declared.state.Mode.TheVariants.{Correction}
use Rattle.tracker.specs.declared.state.Delineation.TheVariants.{Presync}
use Rattle.tracker.specs.declared.state.Lock.{Lock}
use Rattle.tracker.specs.declared.state.Place.TheVariants.{Hunt, Payload}
use Rattle.tracker.specs.declared.state.Control.{Control}
use Rattle.tracker.specs.declared.tracker.Tracker.{Tracker}
use Rattle.tracker.specs.Window.{agrees, counted, shifted}
use Rattle.tracker.specs.Rules.{sampled, headed, locked_on}
use Rattle.tracker.specs.Tracker.{start, hunted, control_after}
use Rattle.receiver.specs.Run.{bits_of, step, after, user_cell}
use Rattle.receiver.proofs.Runs.{after-append, bits_of-append}
use Rattle.line.specs.Headers.{hunting}
use Rattle.line.specs.Laws.{header_bits, payload_bits}
use Rattle.line.proofs.Bits.{value, window_header}
use Rattle.line.proofs.Carried.{Carried, CarriedOn}
use Rattle.line.proofs.CellOffers.{cell_from}
use Rattle.line.proofs.Cells.{at, At, long_run, Ended, ended, nil_of, synced}
use Rattle.line.proofs.CodeLaws.{CodeLaws, moved, trail}
use Rattle.line.proofs.Frames.{frames, from_cell}
use Rattle.line.proofs.SentHeaders.{steady, verifying, acquiring, bound_at, verify_next, verify_last, sampled_first, steady_sent, sent_up, acquired_sent, found_sent}
use Rattle.line.proofs.Offers.{Brings, whole_of}
use Rattle.line.proofs.Sends.{cell_bits, moved_next, header_long_lem, payload_long_lem, header_agrees, header_samples}

abbrev pub between : Send → List Send → List Bool
between x [] = []
between x (y ∷ ys) = (payload_bits x ++ header_bits y) ++ between y ys

-- with the header of the first, the bits of all but the last, and the header of the last
pub between_bits : (ys : List Send) (x z : Send) → header_bits x ++ between x (ys ++ z ∷ []) ≡ bits_of (line_of (x ∷ ys)) ++ header_bits z
between_bits [] x z =
    ap (λ (w : List Bool). header_bits x ++ w) (append-nil (payload_bits x ++ header_bits z)) ∙ sym (append_assoc (header_bits x) (payload_bits x) (header_bits z))
    ∙ ap (λ (w : List Bool). w ++ header_bits z) (sym (cell_bits x) ∙ sym (ap bits_of (append-nil x.line)))
between_bits (y ∷ ys) x z =
    let more : List Bool = between y (ys ++ z ∷ []) in
    ap (λ (w : List Bool). header_bits x ++ w) (append_assoc (payload_bits x) (header_bits y) more)
    ∙ sym (append_assoc (header_bits x) (payload_bits x) (header_bits y ++ more))
    ∙ ap (λ (w : List Bool). w ++ (header_bits y ++ more)) (sym (cell_bits x))
    ∙ ap (λ (w : List Bool). bits_of x.line ++ w) (between_bits ys y z)
    ∙ sym (append_assoc (bits_of x.line) (bits_of (line_of (y ∷ ys))) (header_bits z))
    ∙ ap (λ (w : List Bool). w ++ header_bits z) (sym (bits_of-append x.line (line_of (y ∷ ys))))

pub record Locked (s : Tracker) (q : ℕ) : Type 0 where
  pub mode : Mode
  pub kept : Option headers.Header
  pub samples : ℕ
  pub is : At s mode (Payload 47 7 kept (synced 0 24 q samples))

pub record Acquires (m : Mode) (k : Option headers.Header) (l : Lock) (x : Send) (ys : List Send) (q c : ℕ) (us : List (Option Cell)) : Type 0 where
  pub brings : Brings m k l (payload_bits x) (frames ys) us
  pub locks : 24 ≤ c + length ys → (s : Tracker) → At s m (Payload 47 7 k l) → Locked (after s (between x ys)) (moved (length ys) q)

pub record Caught (x : Send) : Type 0 where
  pub front : List Bool
  pub last : Bool
  pub is : header_bits x ≡ front ++ last ∷ []
  pub hunts : hunting (after start front).control.place ≡ true
  pub ends : hunting (step (after start front) last).control.place ≡ false
  pub place : At (after start (header_bits x)) Correction (Payload 47 7 None (locked_on (value (header_bits x))))

abbrev pub nine : ℕ → ℕ
nine zero = 9
nine (suc e) = suc (nine e)

-- ---- while the hunt goes on

still_hunting : (n w : ℕ) → n < 40 → hunted n w ≡ Hunt
still_hunting n w h = let t : eqb n 40 ≡ false = ne_eqb n 40 (λ e. omega arith) in rw t refl

count_on : (n : ℕ) → n < 40 → counted n ≡ n + 1
count_on n h = let t : ltb n 40 ≡ true = lt-ltb n 40 h in rw t refl

record Hunts (s : Tracker) (n : ℕ) : Type 0 where
  control : s.control ≡ at Correction Hunt
  come : s.window.come ≡ n

hunts_on : (s : Tracker) (n : ℕ) (b : Bool) → n < 39 → Hunts s n → Hunts (step s b) (n + 1)
unfolding step
hunts_on s n b h a =
    let c : counted s.window.come ≡ n + 1 = ap counted a.come ∙ count_on n (omega arith) in
    record {
      control = ap (λ (z : Control). control_after z.mode z.place (counted s.window.come) (shifted s.window.bits b)) a.control
          ∙ ap (at Correction) (still_hunting (counted s.window.come) (shifted s.window.bits b) (subst (λ (z : ℕ). z < 40) (sym c) (omega arith)));
      come = c;
    }

hunts_run : (bs : List Bool) (s : Tracker) (n m : ℕ) → n + length bs ≡ m → m ≤ 39 → Hunts s n → Hunts (after s bs) m
hunts_run [] s n m e h a = subst (Hunts s) (let z : n ≡ m = omega arith in z) a
hunts_run (b ∷ bs) s n m e h a = hunts_run bs (step s b) (n + 1) m (omega arith) h (hunts_on s n b (omega arith) a)

hunt_found : (s : Tracker) (b : Bool) (w : ℕ) → Hunts s 39 → (step s b).window.bits ≡ w → agrees w ≡ true → (step s b).control ≡ at Correction (Payload 47 7 None (locked_on w))
unfolding step
hunt_found s b w a e g =
    ap (λ (z : Control). control_after z.mode z.place (counted s.window.come) (shifted s.window.bits b)) a.control
    ∙ ap (λ (n : ℕ). at Correction (hunted n (shifted s.window.bits b))) (ap counted a.come)
    ∙ ap (λ (z : ℕ). at Correction (hunted 40 z)) e ∙ ap (λ (t : Bool). at Correction (cond t (Payload 47 7 None (locked_on w)) Hunt)) g

-- ---- headers of a stream, one after the other

cell_on : (s : Tracker) (m : Mode) (k : Option headers.Header) (l : Lock) (x y : Send) (c : Control) → length (payload_bits x) ≡ 384 → length (header_bits y) ≡ 40
    → At s m (Payload 47 7 k l) → headed m l (value (header_bits y)) ≡ c
    → ((after s (payload_bits x ++ header_bits y)).control ≡ c) × (length (after s (payload_bits x ++ header_bits y)).payload ≡ 48)
cell_on s m k l x y c lx ly a e =
    let w : List Bool = payload_bits x in
    let h : List Bool = header_bits y in
    let long : length (w ++ h) ≡ 424 = length-append w h ∙ (let p = lx in let r = ly in omega arith) in
    let v = whole_of m k l w (record { head = h; body = [] }) [] s (w ++ h) a lx ly ([], append_assoc w h []) (omega arith) in
    let none : v.back ≡ [] = nil_of v.back (let p = ap length v.is ∙ length-append v.front v.back in let r = v.count in omega arith) in
    let is : v.front ≡ w ++ h = sym (v.is ∙ ap (λ (z : List Bool). v.front ++ z) none ∙ append-nil v.front) in
    (ap (λ (z : List Bool). (after s z).control) (sym is) ∙ v.control ∙ e, ap (λ (z : List Bool). length (after s z).payload) (sym is) ∙ v.octets)

module _ (laws : CodeLaws) where
  -- from one header to the next
  onward : (m m' : Mode) (k k' : Option headers.Header) (l l' : Lock) (x y : Send) (ys : List Send) (q c c' : ℕ) (us : List (Option Cell)) → CarriedOn q (x ∷ y ∷ ys)
      → headed m l (value (header_bits y)) ≡ at m' (Payload 47 7 k' l') → (24 ≤ c + suc (length ys) → 24 ≤ c' + length ys) → Acquires m' k' l' y ys (next_phase q) c' us
      → Acquires m k l x (y ∷ ys) q c (user_cell (cell_from k l (payload_bits x)) ∷ us)
  onward m m' k k' l l' x y ys q c c' us f e more r =
      record {
        brings = (m', k', l', us, e, refl, r.brings);
        locks = λ h s a.
            let n = cell_on s m k l x y (at m' (Payload 47 7 k' l')) (payload_long_lem laws f.0) (header_long_lem laws f.1.0) a e in
            let t : Tracker = after s (payload_bits x ++ header_bits y) in
            subst (λ (z : Tracker). Locked z (moved (suc (length ys)) q)) (sym (after-append s (payload_bits x ++ header_bits y) (between y ys)))
            (subst (Locked (after t (between y ys))) (moved_next (length ys) q) (r.locks (more h) t (record { control = n.0; long = n.1 })));
      }

  steady_on : (ys : List Send) (x : Send) (q : ℕ) (m : Mode) (k : Option headers.Header) (u : ℕ) → CarriedOn q (x ∷ ys)
      → Acquires m k (steady q u) x ys q 24 (user_cell (cell_from k (steady q u) (payload_bits x)) ∷ from_cell 0 ys)
  steady_on [] x q m k u f = record { brings = refl; locks = λ h s a. record { mode = m; kept = k; samples = u; is = a } }
  steady_on (y ∷ ys) x q m k u f =
      subst (λ (z : Option Cell). Acquires m k (steady q u) x (y ∷ ys) q 24 (user_cell (cell_from k (steady q u) (payload_bits x)) ∷ z ∷ from_cell 0 ys))
      (sent_up laws (next_phase q) y 0 24 (sampled u (value (header_bits y))) f.1.0)
      (onward m Correction k _ (steady q u) _ x y ys q 24 24 _ f (steady_sent laws q m u y f.1.0) (λ h. omega arith) (steady_on ys y (next_phase q) Correction _ _ f.1))

  -- the cell whose header brought Steady is not handed up
  verify_on : (ys : List Send) (d : ℕ) (x : Send) (q : ℕ) (m : Mode) (c u : ℕ) → c + suc d ≡ 24 → CarriedOn q (x ∷ ys)
      → Acquires m None (verifying c q u) x ys q c (from_cell (suc (suc d)) (x ∷ ys))
  verify_on [] d x q m c u n f = record { brings = refl; locks = λ h s a. absurd (omega arith) }
  verify_on (y ∷ ys) zero x q m c u n f =
      onward m Correction None None (verifying c q u) _ x y ys q c 24 (from_cell 1 (y ∷ ys)) f
      (verify_last c q m u (value (header_bits y)) (header_agrees laws f.1.0) (header_samples laws f.1.0) (le-ltb (c + 1) 24 (omega arith)))
      (λ h. omega arith) (steady_on ys y (next_phase q) Correction None _ f.1)
  verify_on (y ∷ ys) (suc d) x q m c u n f =
      onward m m None None (verifying c q u) _ x y ys q c (c + 1) (from_cell (suc (suc d)) (y ∷ ys)) f
      (verify_next c q m u (value (header_bits y)) (header_agrees laws f.1.0) (header_samples laws f.1.0) (lt-ltb (c + 1) 24 (omega arith)))
      (λ h. omega arith) (verify_on ys d y (next_phase q) m (c + 1) _ (omega arith) f.1)

  -- x is the cell i
  pub acquire_on : (ys : List Send) (e : ℕ) (x : Send) (q : ℕ) (m : Mode) (i : ℕ) → i + e ≡ 14 → q < 2 ^ 31 → CarriedOn (moved i q) (x ∷ ys)
      → Acquires m None (acquiring (bound_at (i + 1)) (i + 1) (trail i q)) x ys (moved i q) (i + 1) (from_cell (suc (nine e)) (x ∷ ys))
  acquire_on [] e x q m i n h f = record { brings = refl; locks = λ g s a. absurd (omega arith) }
  acquire_on (y ∷ ys) zero x q m i n h f =
      onward m m None None (acquiring (bound_at (i + 1)) (i + 1) (trail i q)) _ x y ys (moved i q) (i + 1) 16 (from_cell 9 (y ∷ ys)) f
      (found_sent laws m i q y (omega arith) h f.1.0)
      (λ g. omega arith) (verify_on ys 7 y (moved (suc i) q) m 16 (trail (suc i) q) refl f.1)
  acquire_on (y ∷ ys) (suc e) x q m i n h f =
      onward m m None None (acquiring (bound_at (i + 1)) (i + 1) (trail i q)) _ x y ys (moved i q) (i + 1) (suc i + 1) (from_cell (suc (nine e)) (y ∷ ys)) f
      (acquired_sent laws m i q y (omega arith) f.1.0)
      (λ g. omega arith) (acquire_on ys e y q m (suc i) (omega arith) h f.1)

  -- ---- from the first bit on

  pub caught : (x : Send) (q : ℕ) → Carried q x → Caught x
  caught x q f =
      let w : ℕ = value (header_bits x) in
      let c : Ended 39 (header_bits x) = ended 39 (header_bits x) (header_long_lem laws f) in
      let s : Tracker = after start c.front in
      let st : after start (header_bits x) ≡ step s c.last = ap (after start) c.is ∙ after-append start c.front (c.last ∷ []) in
      let hunt : Hunts s 39 = hunts_run c.front start 0 39 (let r = c.long in omega arith) (omega arith) (record { control = refl; come = refl }) in
      let win : (step s c.last).window.bits ≡ w = ap (λ (z : Tracker). z.window.bits) (sym st) ∙ window_header (header_bits x) start (header_long_lem laws f) in
      let on : (step s c.last).control ≡ at Correction (Payload 47 7 None (locked_on w)) = hunt_found s c.last w hunt win (header_agrees laws f) in
      record {
        front = c.front;
        last = c.last;
        is = c.is;
        hunts = ap (λ (z : Control). hunting z.place) hunt.control;
        ends = ap (λ (z : Control). hunting z.place) on;
        place = record { control = ap (λ (z : Tracker). z.control) st ∙ on; long = long_run (header_bits x) start };
      }

  -- twenty-three headers after the first, and more
  pub locked : (x : Send) (ys : List Send) (q : ℕ) → CarriedOn q (x ∷ ys) → 23 ≤ length ys → Locked (after start (header_bits x ++ between x ys)) (moved (length ys) q)
  locked x ys q f n =
      let c = caught x q f.0 in
      let a : At (after start (header_bits x)) Correction (Payload 47 7 None (acquiring (bound_at 1) 1 (trail 0 q))) =
      record {
        control = c.place.control ∙ ap (λ z. at Correction (Payload 47 7 None (acquiring (Presync 0) 1 z))) (sampled_first q (value (header_bits x)) (header_samples laws f.0));
        long = c.place.long;
      } in
      subst (λ (t : Tracker). Locked t (moved (length ys) q)) (sym (after-append start (header_bits x) (between x ys)))
      ((acquire_on ys 14 x q Correction 0 refl f.0.fits f).locks (omega arith) (after start (header_bits x)) a)
