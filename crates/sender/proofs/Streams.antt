-- The laws of sent streams.
use Rattle.std.proofs.Common.{◌≡◌, ℕ, zero, suc, ◌+◌, ◌*◌, ◌%◌, ◌^◌, ◌<◌, Bool, true, false, cond, T, eqb, List, [], ◌∷◌, ◌++◌, length, take, drop, sym, refl, ap, ◌∙◌, subst, ap₂, add-zero, mod-lt, mod-eq_of_lt, zero-add, arith, lit<, eqb→eq, length-append}
use native.Mathlib.Nat.{mod-add-mod}
use lib.Seq.{take-append_seam, drop-append_seam}
use Rattle.std.specs.List.{AllByRecursion}
use Rattle.std.proofs.ByRecursion.{All-append}
use Rattle.cell.specs.Header.{kind_of}
use Rattle.cell.specs.Sorting.{header_of}
use Rattle.cell.specs.declared.header.Kind.{Kind}
use Rattle.cell.specs.declared.header.Kind.TheVariants.{Idle, F3, User}
use Rattle.cell.specs.declared.line_header.LineHeader.{LineHeader}
use Rattle.ports.specs.Cell as cells
use Rattle.ports.specs.Cell.{Cell, octets}
use Rattle.ports.proofs.Octets.{header_read}
use Rattle.scrambler.specs.Coding.{coded, coded_header, CarriesSamples}
use Rattle.scrambler.specs.Generator.{step, iterate}
use Rattle.scrambler.proofs.Codes.{coded_header_on, carries_samples}
use Rattle.scrambler.proofs.Steps.{iterate_add}
use Rattle.sender.specs.Sender.{SenderState, idle_cell, waiting_kind, waiting_cell, rest, advanced, f3_cell, Octets, with_f3}
use Rattle.sender.specs.Stream.{Send, Accepted, Run, none, more, f3_set, Begins, made, start, cells_of, line_of, coded_from, lost_to, lost, header_on, CellLaws, Parted, StreamLaws}
use Rattle.sender.proofs.Octets.{coded-octets}
use Rattle.sender.proofs.Phases.{steps_running}

runs_joined : (s t u : SenderState) (xs ys : List Send) → Run s xs t → Run t ys u → Run s (xs ++ ys) u
runs_joined s t u [] ys none r = r
runs_joined s t u (x ∷ xs) ys (more h q) r = more h (runs_joined _ t u xs ys q r)
runs_joined s t u xs ys (f3_set f q) r = f3_set f (runs_joined _ t u xs ys q r)

parted_at : (n : ℕ) (s u : SenderState) (xs : List Send) → Run s xs u → Parted s (take n xs) (drop n xs) u
parted_at zero s u xs r = record { middle = s; front = none; back = r }
parted_at (suc n) s u [] none = record { middle = s; front = none; back = none }
parted_at (suc n) s u (x ∷ xs) (more h q) =
    let parts = parted_at n _ u xs q in
    record { middle = parts.middle; front = more h parts.front; back = parts.back }
parted_at (suc n) s u xs (f3_set f q) =
    let parts = parted_at (suc n) _ u xs q in
    record { middle = parts.middle; front = f3_set f parts.front; back = parts.back }

run_parted : (s u : SenderState) (xs ys : List Send) → Run s (xs ++ ys) u → Parted s xs ys u
run_parted s u xs ys r =
    subst (λ (front : List Send). Parted s front ys u) (take-append_seam xs ys)
    (subst (λ (back : List Send). Parted s (take (length xs) (xs ++ ys)) back u) (drop-append_seam xs ys) (parted_at (length xs) s u (xs ++ ys) r))

mod_once : (a n : ℕ) → ((a + 1) % 432 + n) % 432 ≡ (a + suc n) % 432
mod_once a n = mod-add-mod (a + 1) 432 n ∙ ap (λ (y : ℕ). y % 432) (let e : a + 1 + n ≡ a + suc n = omega arith in e)

-- phase and number after a run, by the number of its cells
run_moves : (s u : SenderState) (xs : List Send) → s.number < 432 → Run s xs u
    → (u.phase ≡ iterate (424 * length xs) step s.phase) × (u.number ≡ (s.number + length xs) % 432)
unfolding iterate
run_moves s u [] h none = (refl, sym (ap (λ (y : ℕ). y % 432) (add-zero s.number) ∙ mod-eq_of_lt h))
run_moves s u (x ∷ xs) h (more {t = m} sent run) =
    let n : ℕ = length xs in
    let steps : 424 + 424 * n ≡ 424 * suc n = omega arith in
    let after : m ≡ advanced s = sent.sends.after in
    let small : m.number < 432 = subst (λ (z : SenderState). z.number < 432) (sym after) (mod-lt (s.number + 1) (lit< tt)) in
    let (phase, number) = run_moves m u xs small run in (
      phase ∙ ap (λ (z : SenderState). iterate (424 * n) step z.phase) after ∙ iterate_add 424 (424 * n) step s.phase
          ∙ ap (λ (k : ℕ). iterate k step s.phase) steps,
      number ∙ ap (λ (z : SenderState). (z.number + n) % 432) after ∙ mod_once s.number n,
    )
run_moves s u xs h (f3_set f run) = run_moves _ u xs h run

-- the sender that sends the first cell of a run
record Sending (s : SenderState) (x : Send) : Type 0 where
  state : SenderState
  next : SenderState
  sent : Accepted state x next
  phase : state.phase ≡ s.phase
  number : state.number ≡ s.number

abbrev First : SenderState → List Send → Type 0
First s [] = Unit {0}
First s (x ∷ xs) = Sending s x

f3_kept : (s : SenderState) (f : List ℕ) (xs : List Send) → First (with_f3 s f) xs → First s xs
f3_kept s f [] h = tt
f3_kept s f (x ∷ xs) h = record { state = h.state; next = h.next; sent = h.sent; phase = h.phase; number = h.number }

run_first : (s u : SenderState) (xs : List Send) → Run s xs u → First s xs
run_first s u [] none = tt
run_first s u (x ∷ xs) (more sent run) = record { state = s; next = _; sent = sent; phase = refl; number = refl }
run_first s u xs (f3_set {f = f} o run) = f3_kept s f xs (run_first _ u xs run)

begin : (p : ℕ) (s : SenderState) → Begins p s → (s.phase ≡ p) × (s.number ≡ 0) × (0 < p) × (p < 2 ^ 31)
begin p s made = (refl, refl, lit< tt, lit< tt)
begin p s (start _ _ h) = (refl, refl, h.0, h.1)

-- ---- of one send

f3_only : (t : Bool) (w : List Cell) → cond t F3 (waiting_kind w) ≡ F3 → t ≡ true
f3_only true w e = refl
f3_only false [] e = absurd (let z : ◌≡◌ {A = ℕ} 0 1 = cc in omega arith)
f3_only false (c ∷ w) e = absurd (let z : ◌≡◌ {A = ℕ} 0 1 = cc in omega arith)

header_lt : (t : Bool) (f : List ℕ) (w : List Cell) → AllByRecursion cells.User w
    → (cond t (record { header = 0x00000009; payload = f }) (waiting_cell w)).header < 2 ^ 32
header_lt true f w us = lit< tt
header_lt false f [] us = lit< tt
header_lt false f (c ∷ w) us = us.0.fits

idle_only : (t : Bool) (f : Cell) (w : List Cell) → cond t F3 (waiting_kind w) ≡ Idle → (w ≡ []) × (cond t f (waiting_cell w) ≡ idle_cell)
idle_only true f w e = absurd (let z : ◌≡◌ {A = ℕ} 0 1 = cc in omega arith)
idle_only false f [] e = (refl, refl)
idle_only false f (c ∷ w) e = absurd (let z : ◌≡◌ {A = ℕ} 0 1 = cc in omega arith)

taken_by_lem : (t : Bool) (f : Cell) (w : List Cell) (kind : Kind) (cell : Cell) (left : List Cell)
    → kind ≡ cond t F3 (waiting_kind w) → cell ≡ cond t f (waiting_cell w) → left ≡ cond t w (rest w) → w ≡ lost_to kind cell ++ left
taken_by_lem true f w kind cell left k c l = sym (ap₂ (λ (a : Kind) (b : List Cell). lost_to a cell ++ b) k l)
taken_by_lem false f [] kind cell left k c l = sym (ap₂ (λ (a : Kind) (b : List Cell). lost_to a cell ++ b) k l)
taken_by_lem false f (d ∷ w) kind cell left k c l =
    sym (ap₂ (λ (a : Kind) (b : List Cell). lost_to a cell ++ b) k l ∙ ap (λ (e : Cell). e ∷ w) c)

kind_by : (t : Bool) (f : List ℕ) (w : List Cell) → AllByRecursion cells.User w
    → cond t F3 (waiting_kind w) ≡ kind_of (cond t (record { header = 0x00000009; payload = f }) (waiting_cell w)).header
kind_by true f w us = refl
kind_by false f [] us = refl
kind_by false f (c ∷ w) us = user_kind (kind_of c.header) us.0.user
  where
    user_kind : (k : Kind) → elim k [ Idle ↦ true | F3 ↦ true | User ↦ false ] ≡ false → User ≡ k
    user_kind User e = refl
    user_kind Idle e = absurd (subst T e tt)
    user_kind F3 e = absurd (subst T e tt)

module _ (x : Send) (b : SenderState) (next : SenderState) (sent : Accepted b x next) where
  sent_header_lt : x.cell.header < 2 ^ 32
  sent_header_lt = subst (λ (c : Cell). c.header < 2 ^ 32) (sym sent.cell) (header_lt (eqb b.number 0) b.f3 x.waiting sent.users)

  sent_kind : x.kind ≡ kind_of x.cell.header
  sent_kind = sent.sends.sort ∙ kind_by (eqb b.number 0) b.f3 x.waiting sent.users ∙ ap (λ (c : Cell). kind_of c.header) (sym sent.cell)

  sent_payload : Octets 48 x.cell.payload
  sent_payload = subst (λ (c : Cell). Octets 48 c.payload) (sym sent.cell) sent.sends.payload

  sent-written : x.line ≡ coded x.phase (octets x.cell)
  sent-written = sent.sends.written ∙ ap₂ (λ (q : ℕ) (c : Cell). coded q (octets c)) (sym sent.phase) (sym sent.cell)

  sent_line : Octets 53 x.line
  sent_line = subst (Octets 53) (sym sent-written) (coded-octets x.phase x.cell sent_header_lt sent_payload)

  sent_carries : CarriesSamples (header_on x.line) x.phase
  sent_carries =
      let h : header_of (octets x.cell) ≡ x.cell.header = header_read x.cell sent_header_lt in
      let on : header_on x.line ≡ coded_header x.cell.header x.phase =
      ap header_on sent-written ∙ coded_header_on (octets x.cell) x.phase (subst (λ (y : ℕ). y < 2 ^ 32) (sym h) sent_header_lt)
      ∙ ap (λ (y : ℕ). coded_header y x.phase) h in
      subst (λ (l : LineHeader). CarriesSamples l x.phase) (sym on) (carries_samples x.cell.header x.phase)

  pub sent_taken : x.waiting ≡ lost x ++ x.left
  sent_taken = taken_by_lem (eqb b.number 0) (f3_cell b) x.waiting x.kind x.cell x.left sent.sends.sort sent.cell sent.sends.left

  cell_laws : (p : ℕ) (front : List Send) → 0 < p → p < 2 ^ 31
      → b.phase ≡ iterate (424 * length front) step p → b.number ≡ length front % 432 → CellLaws p front x
  cell_laws p front low high phase number =
      let moved : x.phase ≡ iterate (424 * length front) step p = sent.phase ∙ phase in
      record {
        phase = moved;
        running = subst (λ (q : ℕ). (0 < q) × (q < 2 ^ 31)) (sym moved) (steps_running (424 * length front) p low high);
        written = sent-written;
        payload = sent_payload;
        line = sent_line;
        f3 = (
          (λ e. sym number ∙ eqb→eq b.number 0 (subst T (sym (f3_only (eqb b.number 0) x.waiting (sym sent.sends.sort ∙ e))) tt)),
          λ e. sent.sends.sort ∙ ap (λ (n : ℕ). cond (eqb n 0) F3 (waiting_kind x.waiting)) (number ∙ e),
        );
        idle = λ e.
            (let alone = idle_only (eqb b.number 0) (f3_cell b) x.waiting (sym sent.sends.sort ∙ e) in
            (alone.0, sent.cell ∙ alone.1));
        kind = (sent_header_lt, sent_kind);
        header = sent_carries;
        taken = sent_taken;
      }

-- ---- of runs

run_line : (s u : SenderState) (xs : List Send) → Run s xs u → Octets (53 * length xs) (line_of xs)
run_line s u [] none = (refl, tt)
run_line s u (x ∷ xs) (more {t = t} sent run) =
    let first = sent_line x s t sent in
    let others = run_line t u xs run in (
      length-append x.line (line_of xs) ∙ ap₂ ◌+◌ first.0 others.0 ∙ (let e : 53 + 53 * length xs ≡ 53 * suc (length xs) = omega arith in e),
      All-append _ x.line (line_of xs) first.1 others.1,
    )
run_line s u xs (f3_set f run) = run_line _ u xs run

run_coded : (s u : SenderState) (xs : List Send) → Run s xs u → line_of xs ≡ coded_from s.phase (cells_of xs)
unfolding coded_from
run_coded s u [] none = refl
run_coded s u (x ∷ xs) (more {t = t} sent run) =
    ap₂ ◌++◌ (sent-written x s t sent ∙ ap (λ (q : ℕ). coded q (octets x.cell)) sent.phase)
    (run_coded t u xs run ∙ ap (λ (z : SenderState). coded_from z.phase (cells_of xs)) sent.sends.after)
run_coded s u xs (f3_set f run) = run_coded _ u xs run

pub stream_laws : StreamLaws
stream_laws =
    record {
      accepted = λ s s' waiting left kind line users sends. record { users = users; phase = refl; cell = refl; sends = sends };
      cells = λ p xs stream front x back e.
          (let s = stream.first in
          let (phase, number, low, high) = begin p s stream.begins in
          let parts = run_parted s stream.last front (x ∷ back) (subst (λ (ys : List Send). Run s ys stream.last) e stream.run) in
          let moved = run_moves s parts.middle front (subst (λ (n : ℕ). n < 432) (sym number) (lit< tt)) parts.front in
          let sending = run_first parts.middle stream.last (x ∷ back) parts.back in
          cell_laws x sending.state sending.next sending.sent p front low high
          (sending.phase ∙ moved.0 ∙ ap (iterate (424 * length front) step) phase)
          (sending.number ∙ moved.1 ∙ ap (λ (n : ℕ). (n + length front) % 432) number ∙ ap (λ (n : ℕ). n % 432) (zero-add (length front))));
      line = λ p xs stream. run_coded stream.first stream.last xs stream.run ∙ ap (λ (q : ℕ). coded_from q (cells_of xs)) (begin p stream.first stream.begins).0;
      octets = λ p xs stream. run_line stream.first stream.last xs stream.run;
      joined = runs_joined;
      parted = run_parted;
    }
