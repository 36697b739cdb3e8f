-- The sends of a sent stream: as bits, one after the other, and what the tracker finds in the header and payload of each.
-- Knows of the sender that its cells are coded, each at the next phase, and of the code its laws. Knows nothing of the tracker's states.
--
--   listed o  the cell o as a list, if there is one
use Rattle.std.proofs.Common.{◌≡◌, ℕ, zero, suc, ◌+◌, ◌*◌, ◌^◌, ◌<◌, Bool, true, List, [], ◌∷◌, ◌++◌, length, take, drop, Some, None, Option, sym, refl, ap, ◌∙◌, subst, append_assoc, arith, length-append, take-append-drop, take_at, drop_at}
use Rattle.cell.specs.declared.header.Kind.{Kind}
use Rattle.cell.specs.declared.header.Kind.TheVariants.{Idle, F3, User}
use Rattle.ports.specs.Cell.{Cell, octets}
use Rattle.ports.proofs.Octets.{header_read}
use Rattle.scrambler.specs.Coding.{coded, coded_header, masked, header_octets}
use Rattle.scrambler.specs.Generator.{step, iterate, next_phase}
use Rattle.scrambler.proofs.Steps.{iterate_add}
use Rattle.sender.specs.Stream.{Send, SentStream, CellLaws, line_of, lost_to, lost}
use Rattle.sender.proofs.Streams.{stream_laws}
use Rattle.tracker.specs.Window.{agrees, samples_in, predicted, freed, header_in}
use Rattle.receiver.specs.Run.{bits_of, user_by, user_cell}
use Rattle.receiver.proofs.Runs.{bits_of-append}
use Rattle.line.specs.Laws.{header_bits, payload_bits}
use Rattle.line.proofs.Bits.{value, octets_of, length-bits_of}
use Rattle.line.proofs.Carried.{Carried, CarriedOn}
use Rattle.line.proofs.CodeLaws.{CodeLaws, head_octets, head_word, moved}

-- ---- the bits of a stream

pub cell_bits : (x : Send) → bits_of x.line ≡ header_bits x ++ payload_bits x
cell_bits x = sym (take-append-drop 40 (bits_of x.line))

pub stream_bits : (x : Send) (xs : List Send) → bits_of (line_of (x ∷ xs)) ≡ header_bits x ++ (payload_bits x ++ bits_of (line_of xs))
stream_bits x xs =
    bits_of-append x.line (line_of xs) ∙ ap (λ (w : List Bool). w ++ bits_of (line_of xs)) (cell_bits x)
    ∙ append_assoc (header_bits x) (payload_bits x) (bits_of (line_of xs))

-- ---- the sends of a stream carry their cells, each at the next phase

coded_parts : (p : ℕ) (c : Cell) → c.header < 2 ^ 32 → coded p (octets c) ≡ head_octets p c.header ++ masked 8 p c.payload
unfolding coded head_octets
coded_parts p c h =
    ap (λ (y : ℕ). header_octets (coded_header y p).header.0 ++ (coded_header y p).hec ∷ masked 8 p c.payload) (header_read c h)

head_long : (p h : ℕ) → length (bits_of (head_octets p h)) ≡ 40
unfolding head_octets
head_long p h = length-bits_of (head_octets p h)

send_carried : (p : ℕ) (front : List Send) (x : Send) → CellLaws p front x → Carried x.phase x
send_carried p front x c =
    let q : ℕ = x.phase in
    let h : ℕ = x.cell.header in
    let head : List Bool = bits_of (head_octets q h) in
    let body : List Bool = bits_of (masked 8 q x.cell.payload) in
    let line : bits_of x.line ≡ head ++ body =
    ap bits_of (c.written ∙ coded_parts q x.cell c.kind.0) ∙ bits_of-append (head_octets q h) (masked 8 q x.cell.payload) in
    record {
      phase = refl;
      fits = c.running.1;
      header = c.kind.0;
      payload = c.payload;
      kind = c.kind.1;
      head = ap (λ (w : List Bool). take 40 w) line ∙ take_at head body 40 (head_long q h);
      body = ap (λ (w : List Bool). drop 40 w) line ∙ drop_at head body 40 (head_long q h);
    }

next_place : (p n : ℕ) → iterate (424 * suc n) step p ≡ next_phase (iterate (424 * n) step p)
next_place p n = ap (λ (k : ℕ). iterate k step p) (let e : 424 * suc n ≡ 424 * n + 424 = omega arith in e) ∙ sym (iterate_add (424 * n) 424 step p)

carried_from : (p : ℕ) (all : List Send) → SentStream p all → (front xs : List Send) → all ≡ front ++ xs → CarriedOn (iterate (424 * length front) step p) xs
carried_from p all stream front [] e = tt
carried_from p all stream front (x ∷ xs) e =
    let c : CellLaws p front x = stream_laws.cells p all stream front x xs e in
    let longer : length (front ++ x ∷ []) ≡ suc (length front) =
    length-append front (x ∷ []) ∙ (let z : length front + 1 ≡ suc (length front) = omega arith in z) in
    let on : iterate (424 * length (front ++ x ∷ [])) step p ≡ next_phase (iterate (424 * length front) step p) =
    ap (λ (n : ℕ). iterate (424 * n) step p) longer ∙ next_place p (length front) in (
      subst (λ (q : ℕ). Carried q x) c.phase (send_carried p front x c),
      subst (λ (q : ℕ). CarriedOn q xs) on (carried_from p all stream (front ++ x ∷ []) xs (e ∙ sym (append_assoc front (x ∷ []) xs))),
    )

-- from any send of a sent stream on
pub stream_carried : (p : ℕ) (front : List Send) (x : Send) (back : List Send) → SentStream p (front ++ x ∷ back) → CarriedOn x.phase (x ∷ back)
stream_carried p front x back stream =
    subst (λ (q : ℕ). CarriedOn q (x ∷ back)) (sym (stream_laws.cells p (front ++ x ∷ back) stream front x back refl).phase)
    (carried_from p (front ++ x ∷ back) stream front (x ∷ back) refl)

pub moved_next : (i q : ℕ) → moved i (next_phase q) ≡ moved (suc i) q
moved_next zero q = refl
moved_next (suc i) q = ap next_phase (moved_next i q)

-- what is carried after some of the sends, and any one of them
pub carried_rest : (before xs : List Send) (q : ℕ) → CarriedOn q (before ++ xs) → CarriedOn (moved (length before) q) xs
carried_rest [] xs q r = r
carried_rest (y ∷ before) xs q r = subst (λ (p : ℕ). CarriedOn p xs) (moved_next (length before) q) (carried_rest before xs (next_phase q) r.1)

pub carried_at : (before : List Send) (x : Send) (later : List Send) (q : ℕ) → CarriedOn q (before ++ x ∷ later) → Carried (moved (length before) q) x
carried_at before x later q r = (carried_rest before (x ∷ later) q r).0

-- ---- what the tracker finds in them

module _ (laws : CodeLaws) {q : ℕ} {x : Send} (c : Carried q x) where
  word : value (header_bits x) ≡ head_word q x.cell.header
  word = ap value c.head

  pub header_long_lem : length (header_bits x) ≡ 40
  header_long_lem = ap length c.head ∙ head_long q x.cell.header

  pub payload_long_lem : length (payload_bits x) ≡ 384
  payload_long_lem = ap length c.body ∙ laws.payload_long q x.cell.payload c.payload

  pub header_agrees : agrees (value (header_bits x)) ≡ true
  header_agrees = ap agrees word ∙ laws.agree q x.cell.header c.fits c.header

  pub header_samples : samples_in (value (header_bits x)) ≡ predicted q
  header_samples = ap samples_in word ∙ laws.sample q x.cell.header c.fits c.header

  pub header_clean : freed q (value (header_bits x)) ≡ 0
  header_clean = ap (freed q) word ∙ laws.clean q x.cell.header c.fits c.header

  pub header_descrambled : header_in q (value (header_bits x)) ≡ record { 0 = x.cell.header }
  header_descrambled = ap (header_in q) word ∙ laws.undo q x.cell.header c.fits c.header

  pub payload_descrambled : masked 8 q (octets_of (payload_bits x)) ≡ x.cell.payload
  payload_descrambled = ap (λ (w : List Bool). masked 8 q (octets_of w)) c.body ∙ laws.body q x.cell.payload c.payload

-- ---- user cells

pub user_is : (k : Kind) (c d : Cell) → user_by k c ≡ Some d → (k ≡ User) × (c ≡ d)
user_is Idle c d e = absurd (let z : ◌≡◌ {A = ℕ} 0 1 = cc in omega arith)
user_is F3 c d e = absurd (let z : ◌≡◌ {A = ℕ} 0 1 = cc in omega arith)
user_is User c d e = (refl, cc)

abbrev pub listed : Option Cell → List Cell
listed None = []
listed (Some c) = c ∷ []

listed_lost : (k : Kind) (c : Cell) → listed (user_by k c) ≡ lost_to k c
listed_lost Idle c = refl
listed_lost F3 c = refl
listed_lost User c = refl

module _ {q : ℕ} {x : Send} (c : Carried q x) where
  pub user_by_kind : user_cell (Some x.cell) ≡ user_by x.kind x.cell
  user_by_kind = ap (λ (k : Kind). user_by k x.cell) (sym c.kind)

  -- a send whose cell is a user cell is one of the kind User
  pub sent_user_is : (d : Cell) → user_cell (Some x.cell) ≡ Some d → (x.kind ≡ User) × (x.cell ≡ d)
  sent_user_is d e = user_is x.kind x.cell d (sym user_by_kind ∙ e)

  -- the cell that goes up as sent is what the source lost
  pub listed_is_lost : listed (user_cell (Some x.cell)) ≡ lost x
  listed_is_lost = ap listed user_by_kind ∙ listed_lost x.kind x.cell
