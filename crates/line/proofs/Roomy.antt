-- Any octets can be fed to a new receiving end: a sink with much space, and what is heard with it, bit by bit. Knows of the tracker only
-- that its payload has room for 48 octets.
--
--   put_into k c         the sink k with the cell c more; every space falls by one
--   sink_with o k        the sink k after the cell o, if there is one (reply_to o: its reply)
--   moments_over s k bs  the moments of the bits bs, from the tracker s and the sink k on
--   sink_over s k bs     the sink after them
--   Roomy n k            the sink k serves every header and has space for n cells or more of each connection
use Rattle.std.proofs.Common.{◌≡◌, ℕ, suc, ◌-◌, ◌^◌, ◌<◌, ◌≤◌, Bool, true, false, cond, List, [], ◌∷◌, ◌++◌, length, Some, None, Ok, Option, sym, refl, ap, ◌∙◌, subst, append-nil, arith, eq-eqb, ne_eqb}
use Rattle.std.specs.List.{AllByRecursion}
use Rattle.cell.specs.Header.{connection_of, kind_of, reserved}
use Rattle.cell.specs.declared.header.Kind.{Kind}
use Rattle.cell.specs.declared.header.Kind.TheVariants.{Idle, F3, User}
use Rattle.ports.specs.Cell.{Cell, of_connection}
use Rattle.ports.specs.Sink.{SinkState, Put}
use Rattle.tracker.specs.declared.tracker.Tracker.{Tracker}
use Rattle.tracker.specs.declared.tracker.Moment.{Moment as Brought}
use Rattle.tracker.specs.declared.tracker.Moment.TheVariants as moment
use Rattle.tracker.specs.Tracker.{bit_step, bit_brings, start}
use Rattle.receiver.specs.declared.receiver.Receiver.{Receiver}
use Rattle.receiver.specs.Book.{Log, log_run}
use Rattle.receiver.specs.Feed.{Events, Feeds, log, made}
use Rattle.receiver.specs.Handing.{Reply, Moment, bits, Handed, Along, taken_in}
use Rattle.receiver.specs.Run.{bits_of, step, after, cell_in, kept_cell, user_cell, offered}
use Rattle.line.specs.Heard.{ReadyAt}
use Rattle.line.specs.Receiving as receiving
use Rattle.line.specs.Receiving.{History, heard}
use Rattle.line.proofs.Bits.{length-bits_of}
use Rattle.line.proofs.Cells.{long_run}
use Rattle.line.proofs.Sends.{user_is}

-- ---- the sink

abbrev pub put_into : SinkState → Cell → SinkState
put_into k c = record { held = λ j. k.held j ++ of_connection j (c ∷ []); space = λ j. k.space j - 1; serves = k.serves }

abbrev pub sink_with : Option Cell → SinkState → SinkState
sink_with None k = k
sink_with (Some c) k = put_into k c

abbrev pub reply_to : Option Cell → Reply
reply_to None = None
reply_to (Some c) = Some (Ok tt)

pub record Roomy (n : ℕ) (k : SinkState) : Type 0 where
  pub serves : (h : ℕ) → k.serves h ≡ true
  pub space : (j : ℕ) → n ≤ k.space j

abbrev wide : SinkState
wide = record { held = λ _. []; space = λ _. 2 ^ 31 - 1; serves = λ _. true }

-- a cell that a put can take
record Fit (c : Cell) : Type 0 where
  user : reserved c.header ≡ false
  whole : length c.payload ≡ 48

own_cell : (c : Cell) → of_connection (connection_of c.header) (c ∷ []) ≡ c ∷ []
own_cell c = ap (λ (t : Bool). cond t (c ∷ []) []) (eq-eqb (connection_of c.header) (connection_of c.header) refl)

other_cell : (c : Cell) (j : ℕ) → (j ≡ connection_of c.header → ⊥) → of_connection j (c ∷ []) ≡ []
other_cell c j h = ap (λ (t : Bool). cond t (c ∷ []) []) (ne_eqb (connection_of c.header) j (λ e. h (sym e)))

puts_roomy : (c : Cell) (k : SinkState) (n : ℕ) → Fit c → Roomy (suc n) k → Put k c.header c.payload (put_into k c)
puts_roomy c k n f r =
    record {
      whole = f.whole;
      user = f.user;
      served = r.serves c.header;
      appended = ap (λ (l : List Cell). k.held (connection_of c.header) ++ l) (own_cell c);
      others = λ j h. ap (λ (l : List Cell). k.held j ++ l) (other_cell c j h) ∙ append-nil (k.held j);
      lowered = let s = r.space (connection_of c.header) in omega arith;
      falls = λ j. (omega arith, omega arith);
      serving = λ h. refl;
    }

hands_roomy : (o : Option Cell) (k : SinkState) (n : ℕ) → ((c : Cell) → o ≡ Some c → Fit c) → Roomy (suc n) k
    → Handed o k (reply_to o) (sink_with o k) × Roomy n (sink_with o k)
hands_roomy None k n f r = ((refl, refl), record { serves = r.serves; space = λ j. let s = r.space j in omega arith })
hands_roomy (Some c) k n f r = (puts_roomy c k n (f c refl) r, record { serves = r.serves; space = λ j. let s = r.space j in omega arith })

-- ---- the cells that are offered

not_reserved : (h : ℕ) → kind_of h ≡ User → reserved h ≡ false
not_reserved h e = ap (λ (k : Kind). elim k [ Idle ↦ true | F3 ↦ true | User ↦ false ]) e

fit_user : (o : Option Cell) → ((d : Cell) → o ≡ Some d → length d.payload ≡ 48) → (c : Cell) → user_cell o ≡ Some c → Fit c
fit_user None f c e = absurd (let z : ◌≡◌ {A = ℕ} 0 1 = cc in omega arith)
fit_user (Some d) f c e =
    let u = user_is (kind_of d.header) d c e in
    subst Fit u.1 (record { user = not_reserved d.header u.0; whole = f d refl })

kept_payload : (x : Option Brought) (p : List ℕ) (d : Cell) → cell_in x p ≡ Some d → p ≡ d.payload
kept_payload None p d e = absurd (let z : ◌≡◌ {A = ℕ} 0 1 = cc in omega arith)
kept_payload (Some (moment.Header t)) p d e = absurd (let z : ◌≡◌ {A = ℕ} 0 1 = cc in omega arith)
kept_payload (Some (moment.Cell h)) p d e = cc

offered_fit : (s : Tracker) (b : Bool) → length s.payload ≡ 48 → (c : Cell) → offered s b ≡ Some c → Fit c
unfolding kept_cell step
offered_fit s b l c e =
    fit_user (kept_cell s b) (λ d g. ap length (sym (kept_payload (bit_brings s b) (bit_step s b).payload d g)) ∙ long_run (b ∷ []) s ∙ l) c e

-- ---- the moments

abbrev moments_over : Tracker → SinkState → List Bool → List Moment
moments_over s k [] = []
moments_over s k (b ∷ bs) =
    record { bit = b; sink = k; reply = reply_to (offered s b); sink' = sink_with (offered s b) k } ∷ moments_over (step s b) (sink_with (offered s b) k) bs

abbrev sink_over : Tracker → SinkState → List Bool → SinkState
sink_over s k [] = k
sink_over s k (b ∷ bs) = sink_over (step s b) (sink_with (offered s b) k) bs

bits_over : (bs : List Bool) (s : Tracker) (k : SinkState) → bits (moments_over s k bs) ≡ bs
bits_over [] s k = refl
bits_over (b ∷ bs) s k = ap (λ l. b ∷ l) (bits_over bs (step s b) (sink_with (offered s b) k))

abbrev pub RoomyAt : Moment → Type 0
RoomyAt m = Roomy 1 m.sink

step_long : (s : Tracker) (b : Bool) → length s.payload ≡ 48 → length (step s b).payload ≡ 48
step_long s b l = long_run (b ∷ []) s ∙ l

along_over : (bs : List Bool) (s : Tracker) (k : SinkState) → length s.payload ≡ 48 → Roomy (length bs) k → Along s k (moments_over s k bs) (sink_over s k bs)
along_over [] s k l r = refl
along_over (b ∷ bs) s k l r =
    let h = hands_roomy (offered s b) k (length bs) (offered_fit s b l) r in
    (refl, h.0, along_over bs (step s b) (sink_with (offered s b) k) (step_long s b l) h.1)

roomy_over : (bs : List Bool) (s : Tracker) (k : SinkState) → length s.payload ≡ 48 → Roomy (length bs) k → AllByRecursion RoomyAt (moments_over s k bs)
roomy_over [] s k l r = tt
roomy_over (b ∷ bs) s k l r =
    let h = hands_roomy (offered s b) k (length bs) (offered_fit s b l) r in
    (record { serves = r.serves; space = λ j. let x = r.space j in omega arith }, roomy_over bs (step s b) (sink_with (offered s b) k) (step_long s b l) h.1)

roomy_in : (past rest : List Moment) (m : Moment) → AllByRecursion RoomyAt (past ++ m ∷ rest) → RoomyAt m
roomy_in [] rest m a = a.0
roomy_in (p ∷ past) rest m a = roomy_in past rest m a.1

pub roomy_ready : (ms : List Moment) → AllByRecursion RoomyAt ms → (i : ℕ) (c : Cell) → ReadyAt ms i c
roomy_ready ms a i c past rest m e l =
    let r = roomy_in past rest m (subst (AllByRecursion RoomyAt) e a) in
    (r.serves c.header, r.space (connection_of c.header))

-- ---- one feed to a new receiving end

wide_roomy : (os : List ℕ) → length os ≤ 4096 → Roomy (length (bits_of os)) wide
wide_roomy os few = record { serves = λ h. refl; space = λ j. let l = length-bits_of os in omega arith }

pub record FedNew (os : List ℕ) : Type 0 where
  pub call : receiving.Call
  pub receiver : Receiver
  pub history : History (call ∷ []) receiver
  pub hears : bits (heard history).newest ≡ bits_of os
  pub ready : AllByRecursion RoomyAt (heard history).newest

-- with a ring of a thousand places
pub feed_new : (os : List ℕ) → 0 < length os → length os ≤ 4096 → FedNew os
feed_new os some few =
    let ms : List Moment = moments_over start wide (bits_of os) in
    let q : Events = record { held = []; places = 1000 } in
    let g : Log = log_run start (log made q) ms in
    let r : Receiver = record { tracker = after start (bits_of os); book = g.book } in
    let q' : Events = record { held = g.events; places = g.places } in
    let f : receiving.Feed = record { octets = os; sink = wide; events = q; answer = Ok (taken_in ms); sink' = sink_over start wide (bits_of os); events' = q' } in
    let fed : Feeds os made wide q (taken_in ms) r (sink_over start wide (bits_of os)) q' =
    record {
      some = some;
      few = few;
      works = record {
        moments = ms;
        fed = bits_over (bits_of os) start wide;
        along = along_over (bits_of os) start wide refl (wide_roomy os few);
        tracker = refl;
        written = refl;
        answer = refl;
      };
    } in
    record {
      call = receiving.feed f;
      receiver = r;
      history = receiving.called receiving.made fed;
      hears = bits_over (bits_of os) start wide;
      ready = roomy_over (bits_of os) start wide refl (wide_roomy os few);
    }
