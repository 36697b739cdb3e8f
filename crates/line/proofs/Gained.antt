-- From what is offered bit by bit to what a connection gains. Knows of lists of offers, and of a put what one moment adds; nothing of
-- the line.
--
--   Hands os ms      with each of the moments ms the offer of os is handed up
--   Row k ms us      what the moments ms add to the connection k, cell by cell, where us are offered with the last bits of the cells
--   gained_all k us  what the offers us add to k where every sink is ready
use Rattle.std.proofs.Common.{◌≡◌, ℕ, zero, suc, ◌+◌, ◌*◌, ◌<◌, ◌≤◌, List, [], ◌∷◌, ◌++◌, length, get_or, take, Some, None, Option, sym, refl, ap, ◌∙◌, subst, append_assoc, append-nil, arith, length-append}
use Rattle.ports.specs.Cell.{Cell}
use Rattle.tracker.specs.declared.tracker.Tracker.{Tracker}
use Rattle.receiver.specs.Run.{step}
use Rattle.receiver.specs.Handing.{Moment, bits, Handed}
use Rattle.line.specs.Heard.{Heard, Gains, ReadyAt, join}
use Rattle.line.specs.Laws.{complete}
use Rattle.line.proofs.CellOffers.{offers, Quiet}
use Rattle.line.proofs.Offers.{Spaced, short, cut, whole}
use Rattle.line.proofs.Puts.{gains_append, one_more, gained, Piece, piece_of, none_adds}

abbrev pub Hands : List (Option Cell) → List Moment → Type 0
Hands [] [] = Unit {0}
Hands [] (m ∷ ms) = ⊥
Hands (o ∷ os) [] = ⊥
Hands (o ∷ os) (m ∷ ms) = Handed o m.sink m.reply m.sink' × Hands os ms

pub hands_of : (ms : List Moment) (s : Tracker) → Heard s ms → Hands (offers s (bits ms)) ms
hands_of [] s a = tt
hands_of (m ∷ ms) s a = (a.0, hands_of ms (step s m.bit) a.1)

length_hands : (os : List (Option Cell)) (ms : List Moment) → Hands os ms → length ms ≡ length os
length_hands [] [] h = refl
length_hands [] (m ∷ ms) h = absurd h
length_hands (o ∷ os) [] h = absurd h
length_hands (o ∷ os) (m ∷ ms) h = ap suc (length_hands os ms h.1)

record Splits (xs ys : List (Option Cell)) (ms : List Moment) : Type 0 where
  front : List Moment
  back : List Moment
  is : ms ≡ front ++ back
  first : Hands xs front
  then : Hands ys back

splits : (xs ys : List (Option Cell)) (ms : List Moment) → Hands (xs ++ ys) ms → Splits xs ys ms
splits [] ys ms h = record { front = []; back = ms; is = refl; first = tt; then = h }
splits (x ∷ xs) ys [] h = absurd h
splits (x ∷ xs) ys (m ∷ ms) h =
    let r = splits xs ys ms h.1 in
    record { front = m ∷ r.front; back = r.back; is = ap (λ l. m ∷ l) r.is; first = (h.0, r.first); then = r.then }

record First (o : Option Cell) (ys : List (Option Cell)) (ms : List Moment) : Type 0 where
  head : Moment
  back : List Moment
  is : ms ≡ head ∷ back
  hands : Handed o head.sink head.reply head.sink'
  then : Hands ys back

first : (o : Option Cell) (ys : List (Option Cell)) (ms : List Moment) → Hands (o ∷ ys) ms → First o ys ms
first o ys [] h = absurd h
first o ys (m ∷ ms) h = record { head = m; back = ms; is = refl; hands = h.0; then = h.1 }

quiet_gains : (k : ℕ) (os : List (Option Cell)) (ms : List Moment) → Quiet os → Hands os ms → Gains k ms []
quiet_gains k [] [] q h = refl
quiet_gains k [] (m ∷ ms) q h = absurd h
quiet_gains k (o ∷ os) [] q h = absurd h
quiet_gains k (o ∷ os) (m ∷ ms) q h = (
  [],
  [],
  none_adds k m.sink m.reply m.sink' (subst (λ z. Handed z m.sink m.reply m.sink') q.0 h.0),
  quiet_gains k os ms
      q.1 h.1,
  refl,
)

-- the last bit of a payload, after quiet ones
record Middle (k : ℕ) (u : Option Cell) (xs zs : List (Option Cell)) (ms : List Moment) : Type 0 where
  front : List Moment
  last : Moment
  back : List Moment
  is : ms ≡ front ++ last ∷ back
  count : length front ≡ 383
  piece : Piece k u last.sink last.sink'
  gains : Gains k (front ++ last ∷ []) piece.cells
  then : Hands zs back

middle : (k : ℕ) (u : Option Cell) (xs zs : List (Option Cell)) (ms : List Moment) → Quiet xs → length xs ≡ 383 → Hands (xs ++ u ∷ zs) ms
    → Middle k u xs zs ms
middle k u xs zs ms q len h =
    let a = splits xs (u ∷ zs) ms h in
    let b = first u zs a.back a.then in
    let p = piece_of k u b.head.sink b.head.reply b.head.sink' b.hands in
    record {
      front = a.front;
      last = b.head;
      back = b.back;
      is = a.is ∙ ap (λ z. a.front ++ z) b.is;
      count = length_hands xs a.front a.first ∙ len;
      piece = p;
      gains = gains_append k a.front (b.head ∷ []) [] p.cells (quiet_gains k xs a.front q a.first)
          (one_more k b.head p.cells p.grew);
      then = b.then;
    }

hands_nil : (ms : List Moment) → Hands [] ms → ms ≡ []
hands_nil [] h = refl
hands_nil (m ∷ ms) h = absurd h

-- one payload
pub cell_gains : (k : ℕ) (u : Option Cell) (xs : List (Option Cell)) (ms : List Moment) → Quiet xs → length xs ≡ 383 → Hands (xs ++ u ∷ []) ms
    → ((c : Cell) → u ≡ Some c → ReadyAt ms 383 c) → Gains k ms (gained k u)
cell_gains k u xs ms q len h r =
    let y = middle k u xs [] ms q len h in
    let is' : ms ≡ y.front ++ y.last ∷ [] = y.is ∙ ap (λ z. y.front ++ y.last ∷ z) (hands_nil y.back y.then) in
    subst (Gains k ms) (y.piece.whole (λ c e. r c e y.front y.back y.last y.is y.count))
    (subst (λ z. Gains k z y.piece.cells) (sym is') y.gains)

pub ready_front : (xs ys : List Moment) (i : ℕ) (c : Cell) → ReadyAt (xs ++ ys) i c → ReadyAt xs i c
ready_front xs ys i c r past rest m e h = r past (rest ++ ys) m (ap (λ l. l ++ ys) e ∙ append_assoc past (m ∷ rest) ys) h

-- ---- a row of cells

pub record Row (k : ℕ) (ms : List Moment) (us : List (Option Cell)) : Type 0 where
  pub pieces : List (List Cell)
  pub gains : Gains k ms (join pieces)
  pub many : length pieces ≡ complete (length ms)
  pub few : (i : ℕ) → length (get_or pieces i []) ≤ 1
  pub whole : (i : ℕ) → i < complete (length ms) → ((c : Cell) → get_or us i None ≡ Some c → ReadyAt ms (424 * i + 383) c)
      → get_or pieces i [] ≡ gained k (get_or us i None)

ready_rest : (xs ys : List Moment) (i : ℕ) (c : Cell) → ReadyAt (xs ++ ys) (length xs + i) c → ReadyAt ys i c
ready_rest xs ys i c r past rest m e h =
    r (xs ++ past) rest m (ap (λ l. xs ++ l) e ∙ sym (append_assoc xs past (m ∷ rest))) (length-append xs past ∙ ap (λ z. length xs + z) h)

first_whole : (k : ℕ) (o : Option Cell) (us : List (Option Cell)) (ms xs ys : List Moment) (m : Moment) → ms ≡ xs ++ m ∷ ys → length xs ≡ 383
    → (p : Piece k o m.sink m.sink') → ((c : Cell) → get_or (o ∷ us) 0 None ≡ Some c → ReadyAt ms 383 c) → p.cells ≡ gained k o
first_whole k o us ms xs ys m is len p r = p.whole (λ c q. r c q xs ys m is len)

few_one : (x : List Cell) → length x ≤ 1 → (i : ℕ) → length (get_or (x ∷ []) i []) ≤ 1
few_one x h zero = h
few_one x h (suc i) = omega arith

few_more : (x : List Cell) (xs : List (List Cell)) → length x ≤ 1 → ((i : ℕ) → length (get_or xs i []) ≤ 1) → (i : ℕ) → length (get_or (x ∷ xs) i []) ≤ 1
few_more x xs h k zero = h
few_more x xs h k (suc i) = k i

pub gained_row : (k : ℕ) (ms : List Moment) {us os : List (Option Cell)} → Spaced us os → Hands os ms → Row k ms us
gained_row k ms (short {us = us} {os = os} q l) h =
    let len = length_hands os ms h in
    record { pieces = []; gains = quiet_gains k os ms q h; many = omega arith; few = λ i. omega arith; whole = λ i lt r. absurd (omega arith) }
gained_row k ms (cut {u = u} {us = vs} xs ys qx lx qy ly) h = go (middle k u xs ys ms qx lx h)
  where
    one : (y : Middle k u xs ys ms) → length y.back < 40 → (i : ℕ) → i < complete (length ms)
        → ((c : Cell) → get_or (u ∷ vs) i None ≡ Some c → ReadyAt ms (424 * i + 383) c)
        → get_or (y.piece.cells ∷ []) i [] ≡ gained k (get_or (u ∷ vs) i None)
    one y l zero lt r = first_whole k u vs ms y.front y.back y.last y.is y.count y.piece r
    one y l (suc i) lt r = absurd (let c = ap length y.is ∙ length-append y.front (y.last ∷ y.back) in let d = y.count in omega arith)

    go : Middle k u xs ys ms → Row k ms (u ∷ vs)
    go y =
        let is' : ms ≡ (y.front ++ y.last ∷ []) ++ y.back = y.is ∙ sym (append_assoc y.front (y.last ∷ []) y.back) in
        let lb : length y.back < 40 = let z = length_hands ys y.back y.then in omega arith in
        let c = ap length y.is ∙ length-append y.front (y.last ∷ y.back) in let d = y.count in
        record {
          pieces = y.piece.cells ∷ [];
          gains = subst (λ v. Gains k v (y.piece.cells ++ [])) (sym is')
              (gains_append k (y.front ++ y.last ∷ []) y.back y.piece.cells [] y.gains (quiet_gains k ys y.back qy y.then));
          many = omega arith;
          few = few_one y.piece.cells y.piece.few;
          whole = one y lb;
        }
gained_row k ms (whole {u = u} {us = vs} {os = rs} xs ys qx lx qy ly sp) h = go (middle k u xs (ys ++ rs) ms qx lx h) (λ ks. gained_row k ks sp)
  where
    go : Middle k u xs (ys ++ rs) ms → ((ks : List Moment) → Hands rs ks → Row k ks vs) → Row k ms (u ∷ vs)
    go y ih = fin (splits ys rs y.back y.then)
      where
        fin : Splits ys rs y.back → Row k ms (u ∷ vs)
        fin t = row (ih t.back t.then)
          where
            lf : length t.front ≡ 40
            lf = length_hands ys t.front t.first ∙ ly

            fr : List Moment
            fr = (y.front ++ y.last ∷ []) ++ t.front

            is' : ms ≡ ((y.front ++ y.last ∷ []) ++ t.front) ++ t.back
            is' = y.is ∙ sym (append_assoc y.front (y.last ∷ []) y.back) ∙ ap (λ z. (y.front ++ y.last ∷ []) ++ z) t.is
                ∙ sym (append_assoc (y.front ++ y.last ∷ []) t.front t.back)

            lfr : length ((y.front ++ y.last ∷ []) ++ t.front) ≡ 424
            lfr = length-append (y.front ++ y.last ∷ []) t.front
                ∙ (let a = length-append y.front (y.last ∷ []) in let b = y.count in let c = lf in omega arith)

            lms : length ms ≡ 424 + length t.back
            lms = ap length is' ∙ length-append fr t.back ∙ ap (λ (z : ℕ). z + length t.back) lfr

            row : Row k t.back vs → Row k ms (u ∷ vs)
            row r = record {
              pieces = y.piece.cells ∷ r.pieces;
              gains = subst (λ v. Gains k v (y.piece.cells ++ join r.pieces)) (sym is')
                  (subst (λ v. Gains k (fr ++ t.back) (v ++ join r.pieces)) (append-nil y.piece.cells)
                  (gains_append k fr t.back (y.piece.cells ++ []) (join r.pieces)
                  (gains_append k (y.front ++ y.last ∷ []) t.front y.piece.cells [] y.gains (quiet_gains k ys t.front qy t.first))
                  r.gains));
              many = ap suc r.many ∙ (let c = lms in omega arith);
              few = few_more y.piece.cells r.pieces y.piece.few r.few;
              whole = piece_at;
            }
              where
                piece_at : (i : ℕ) → i < complete (length ms) → ((c : Cell) → get_or (u ∷ vs) i None ≡ Some c → ReadyAt ms (424 * i + 383) c)
                    → get_or (y.piece.cells ∷ r.pieces) i [] ≡ gained k (get_or (u ∷ vs) i None)
                piece_at zero lt g = first_whole k u vs ms y.front y.back y.last y.is y.count y.piece g
                piece_at (suc i) lt g =
                    r.whole i (let c = lms in omega arith)
                    (λ c e. ready_rest fr t.back (424 * i + 383) c
                    (subst (λ j. ReadyAt (fr ++ t.back) j c)
                    (let d = lfr in let z : 424 * suc i + 383 ≡ length fr + (424 * i + 383) = omega arith in z)
                    (subst (λ v. ReadyAt v (424 * suc i + 383) c) is' (g c e))))

-- where every cell offered finds its sink ready, the gains are the cells offered
abbrev pub gained_all : ℕ → List (Option Cell) → List Cell
gained_all k [] = []
gained_all k (o ∷ us) = gained k o ++ gained_all k us

join_all : (k j : ℕ) (ps : List (List Cell)) (us : List (Option Cell)) → length ps ≡ j → j ≤ length us
    → ((i : ℕ) → i < j → get_or ps i [] ≡ gained k (get_or us i None)) → join ps ≡ gained_all k (take j us)
join_all k zero [] us e l h = refl
join_all k zero (p ∷ ps) us e l h = absurd (omega arith)
join_all k (suc j) [] us e l h = absurd (omega arith)
join_all k (suc j) (p ∷ ps) [] e l h = absurd (omega arith)
join_all k (suc j) (p ∷ ps) (u ∷ us) e l h =
    ap (λ z. z ++ join ps) (h 0 (omega arith))
    ∙ ap (λ z. gained k u ++ z) (join_all k j ps us (omega arith) (omega arith) (λ i q. h (suc i) (omega arith)))

pub all_gained : (k : ℕ) (ms : List Moment) (us os : List (Option Cell)) → Spaced us os → Hands os ms → complete (length ms) ≤ length us
    → ((i : ℕ) (c : Cell) → get_or us i None ≡ Some c → ReadyAt ms (424 * i + 383) c) → Gains k ms (gained_all k (take (complete (length ms)) us))
all_gained k ms us os sp h l r =
    let row = gained_row k ms sp h in
    subst (Gains k ms) (join_all k (complete (length ms)) row.pieces us row.many l (λ i q. row.whole i q (r i))) row.gains
