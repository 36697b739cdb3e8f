-- A row of cells: what is offered bit by bit. Knows nothing of sinks, nor of the check octet and the generator.
--
--   Frame         the bits of a header and of a payload
--   flat fs       the bits of frames, one after the other
--   Brings        from a payload w under the lock l in the mode d, with the frames fs after it, the end stays locked, and the cells
--                 us come up, one (or none) with the last bit of each payload
--   Spaced us os  os are the offers bit by bit, from a payload's first bit on: those of us with the last bit of each payload, as far as
--                 bits have come, and none with any other bit
--   Body, Whole   a payload, and a payload with the header after it, in front of a row of bits
use Rattle.std.proofs.Common.{◌≡◌, ℕ, suc, ◌+◌, ◌-◌, ◌*◌, ◌<◌, ◌≤◌, Bool, List, [], ◌∷◌, ◌++◌, length, take, drop, Option, sym, refl, ap, ◌∙◌, subst, append_assoc, arith, length-append, take_at, drop_at}
use native.Mathlib.Decide.{dec_lt}
use Rattle.cell.specs.declared.header.Header as headers
use Rattle.ports.specs.Cell.{Cell}
use Rattle.tracker.specs.declared.state.Mode.{Mode}
use Rattle.tracker.specs.declared.state.Lock.{Lock}
use Rattle.tracker.specs.declared.state.Place.TheVariants.{Payload, Header}
use Rattle.tracker.specs.declared.tracker.Tracker.{Tracker}
use Rattle.tracker.specs.Rules.{headed}
use Rattle.receiver.specs.Run.{step, after, user_cell}
use Rattle.receiver.proofs.Runs.{after-append}
use Rattle.line.specs.Heard.{Begins}
use Rattle.line.proofs.Bits.{value}
use Rattle.line.proofs.CellOffers.{offers, Quiet, offers_append, length_offers, pay_offers, head_offers, offered_last, cell_from, heads}
use Rattle.line.proofs.Cells.{at, At, Cut, cut_bits, paying, on, on_length}

pub record Frame : Type 0 where
  pub head : List Bool
  pub body : List Bool

abbrev pub flat : List Frame → List Bool
flat [] = []
flat (f ∷ fs) = f.head ++ (f.body ++ flat fs)

abbrev pub Sized : List Frame → Type 0
Sized [] = Unit {0}
Sized (f ∷ fs) = (length f.head ≡ 40) × (length f.body ≡ 384) × Sized fs

abbrev pub Brings : Mode → Option headers.Header → Lock → List Bool → List Frame → List (Option Cell) → Type 0
Brings d k l w [] us = us ≡ user_cell (cell_from k l w) ∷ []
Brings d k l w (f ∷ fs) us = (d' : Mode) × (k' : Option headers.Header) × (l' : Lock) × (vs : List (Option Cell))
    × (headed d l (value f.head) ≡ at d' (Payload 47 7 k' l'))
    × (us ≡ user_cell (cell_from k l w) ∷ vs) × Brings d' k' l' f.body fs vs

pub data Spaced : List (Option Cell) → List (Option Cell) → Type 0 where
  short : {us os : List (Option Cell)} → Quiet os → length os ≤ 383 → Spaced us os
  cut : {u : Option Cell} {us : List (Option Cell)} (xs ys : List (Option Cell)) → Quiet xs → length xs ≡ 383 → Quiet ys → length ys < 40
      → Spaced (u ∷ us) (xs ++ u ∷ ys)
  whole : {u : Option Cell} {us os : List (Option Cell)} (xs ys : List (Option Cell)) → Quiet xs → length xs ≡ 383 → Quiet ys → length ys ≡ 40
      → Spaced us os → Spaced (u ∷ us) (xs ++ u ∷ (ys ++ os))

pub split_equal : (a b c d : List Bool) → length a ≡ length c → a ++ b ≡ c ++ d → (a ≡ c) × (b ≡ d)
split_equal a b c d h e = (
  sym (take_at a b (length c) h) ∙ ap (take (length c)) e ∙ take_at c d (length c) refl,
  sym (drop_at a b (length c) h) ∙ ap (drop (length c)) e ∙ drop_at c d (length c) refl,
)

-- ---- a whole payload in front

pub record Body (d : Mode) (k : Option headers.Header) (l : Lock) (w x : List Bool) (s : Tracker) (bs : List Bool) : Type 0 where
  pub front : List Bool
  pub last : Bool
  pub back : List Bool
  pub cut : bs ≡ (front ++ last ∷ []) ++ back
  pub is : offers s bs ≡ offers s front ++ user_cell (cell_from k l w) ∷ offers (step (after s front) last) back
  pub quiet : Quiet (offers s front)
  pub count : length front ≡ 383
  pub total : length bs ≡ 384 + length back
  pub place : At (step (after s front) last) d (Header 39 l)
  pub rest : Begins back x

pub body : (d : Mode) (k : Option headers.Header) (l : Lock) (w x : List Bool) (s : Tracker) (bs : List Bool) → At s d (Payload 47 7 k l)
    → length w ≡ 384 → Begins bs (w ++ x) → 384 ≤ length bs → Body d k l w x s bs
body d k l w x s bs a lw b h = go (cut_bits 383 bs (omega arith))
  where
    go : Cut 383 bs → Body d k l w x s bs
    go c =
        let xs : List Bool = c.front in
        let i : bs ≡ (xs ++ c.last ∷ []) ++ c.back = c.is ∙ sym (append_assoc xs (c.last ∷ []) c.back) in
        let e : (xs ++ c.last ∷ []) ++ (c.back ++ b.0) ≡ w ++ x =
        sym (append_assoc (xs ++ c.last ∷ []) c.back b.0) ∙ ap (λ z. z ++ b.0) (sym i) ∙ b.1 in
        let p = split_equal (xs ++ c.last ∷ []) (c.back ++ b.0) w x
        (length-append xs (c.last ∷ []) ∙ ap (λ (z : ℕ). z + 1) c.long ∙ sym lw) e in
        let o = offered_last s (after s xs) xs c.last d k l w a c.long p.0 refl in
        record {
          front = xs;
          last = c.last;
          back = c.back;
          cut = i;
          is = ap (offers s) c.is ∙ offers_append xs (c.last ∷ c.back) s
              ∙ ap (λ z. offers s xs ++ z ∷ offers (step (after s xs) c.last) c.back) o.0;
          quiet = pay_offers xs 0 s d k l
              (a.control ∙ ap (λ z. at d (paying z k l)) (let q = on_length xs 0 in let r = c.long in let z : 383 ≡ on xs 0 = omega arith in z));
          count = c.long;
          total = ap length c.is ∙ length-append xs (c.last ∷ c.back) ∙ (let r = c.long in omega arith);
          place = o.1;
          rest = (b.0, p.1);
        }

-- ---- a whole payload and the header after it

pub record Whole (d : Mode) (k : Option headers.Header) (l : Lock) (w : List Bool) (f : Frame) (fs : List Frame) (s : Tracker)
    (bs : List Bool) : Type 0 where
  pub payload : Body d k l w (f.head ++ (f.body ++ flat fs)) s bs
  pub front : List Bool
  pub back : List Bool
  pub is : bs ≡ front ++ back
  pub count : length front ≡ 424
  pub head : List Bool
  pub long : length head ≡ 40
  pub after_is : payload.back ≡ head ++ back
  pub quiet : Quiet (offers (step (after s payload.front) payload.last) head)
  pub state : after s front ≡ after (step (after s payload.front) payload.last) head
  pub control : (after s front).control ≡ headed d l (value f.head)
  pub octets : length (after s front).payload ≡ 48
  pub rest : Begins back (f.body ++ flat fs)

module _ (d : Mode) (k : Option headers.Header) (l : Lock) (w : List Bool) (f : Frame) (fs : List Frame) (s : Tracker) (bs : List Bool)
    (lf : length f.head ≡ 40) where
  whole_from : (y : Body d k l w (f.head ++ (f.body ++ flat fs)) s bs) → Cut 39 y.back → Whole d k l w f fs s bs
  whole_from y c =
      let s₂ : Tracker = step (after s y.front) y.last in
      let pay : List Bool = y.front ++ y.last ∷ [] in
      let hs : List Bool = c.front ++ c.last ∷ [] in
      let lh : length hs ≡ 40 = length-append c.front (c.last ∷ []) ∙ ap (λ (n : ℕ). n + 1) c.long in
      let i : y.back ≡ hs ++ c.back = c.is ∙ sym (append_assoc c.front (c.last ∷ []) c.back) in
      let p = split_equal hs (c.back ++ y.rest.0) f.head (f.body ++ flat fs) (lh ∙ sym lf)
      (sym (append_assoc hs c.back y.rest.0) ∙ ap (λ v. v ++ y.rest.0) (sym i) ∙ y.rest.1) in
      let g = heads s₂ d l hs y.place lh in
      let st : after s (pay ++ hs) ≡ after s₂ hs =
      after-append s pay hs ∙ ap (λ (z : Tracker). after z hs) (after-append s y.front (y.last ∷ [])) in
      record {
        payload = y;
        front = pay ++ hs;
        back = c.back;
        is = y.cut ∙ ap (λ z. pay ++ z) i ∙ sym (append_assoc pay hs c.back);
        count = length-append pay hs ∙ (let q = length-append y.front (y.last ∷ []) in let r = y.count in let z = lh in omega arith);
        head = hs;
        long = lh;
        after_is = i;
        quiet = g.quiet;
        state = st;
        control = ap (λ (z : Tracker). z.control) st ∙ g.control ∙ ap (λ v. headed d l (value v)) p.0;
        octets = ap (λ (z : Tracker). length z.payload) st ∙ g.long;
        rest = (y.rest.0, p.1);
      }

pub whole_of : (d : Mode) (k : Option headers.Header) (l : Lock) (w : List Bool) (f : Frame) (fs : List Frame) (s : Tracker) (bs : List Bool)
    → At s d (Payload 47 7 k l) → length w ≡ 384 → length f.head ≡ 40
    → Begins bs (w ++ (f.head ++ (f.body ++ flat fs))) → 424 ≤ length bs → Whole d k l w f fs s bs
whole_of d k l w f fs s bs a lw lf b h =
    let y = body d k l w (f.head ++ (f.body ++ flat fs)) s bs a lw b (omega arith) in
    whole_from d k l w f fs s bs lf y (cut_bits 39 y.back (let t = y.total in omega arith))

-- ---- a row of cells, cut anywhere

abbrev RowOffers : List Frame → Type 0
RowOffers fs = (d : Mode) (k : Option headers.Header) (l : Lock) (w : List Bool) (us : List (Option Cell)) (s : Tracker) (bs : List Bool)
    → At s d (Payload 47 7 k l)
    → length w ≡ 384 → Sized fs → Begins bs (w ++ flat fs) → Brings d k l w fs us → Spaced us (offers s bs)

pub first_of : (d : Mode) (k : Option headers.Header) (l : Lock) (w : List Bool) (fs : List Frame) (us : List (Option Cell)) → Brings d k l w fs us
    → (vs : List (Option Cell)) × (us ≡ user_cell (cell_from k l w) ∷ vs)
first_of d k l w [] us b = ([], b)
first_of d k l w (f ∷ fs) us b = (b.3, b.5)

-- bits that end before the next header does
part : (fs : List Frame) (d : Mode) (k : Option headers.Header) (l : Lock) (w x : List Bool) (us : List (Option Cell)) (s : Tracker) (bs : List Bool)
    → At s d (Payload 47 7 k l)
    → length w ≡ 384 → Begins bs (w ++ x) → Brings d k l w fs us → length bs < 424 → Spaced us (offers s bs)
part fs d k l w x us s bs a lw b br h = go (dec_lt (length bs) 384)
  where
    go : Dec (length bs < 384) → Spaced us (offers s bs)
    go (yes q) = short (pay_offers bs (383 - length bs) s d k l
        (a.control
        ∙ ap (λ z. at d (paying z k l)) (let e = on_length bs (383 - length bs) in let z : 383 ≡ on bs (383 - length bs) = omega arith in z)))
        (let z = length_offers bs s in omega arith)
    go (no q) =
        let y = body d k l w x s bs a lw b (omega arith) in
        let f = first_of d k l w fs us br in
        let n : length y.back < 40 = let t = y.total in omega arith in
        subst (λ z. Spaced z (offers s bs)) (sym f.1) (subst (Spaced (user_cell (cell_from k l w) ∷ f.0)) (sym y.is)
        (cut (offers s y.front) (offers (step (after s y.front) y.last) y.back) y.quiet (length_offers y.front s ∙ y.count)
        (head_offers y.back (39 - length y.back) (step (after s y.front) y.last) d l
        (y.place.control
        ∙ ap (λ z. at d (Header z l))
        (let e = on_length y.back (39 - length y.back) in let z : 39 ≡ on y.back (39 - length y.back) = omega arith in z)))
        (let z = length_offers y.back (step (after s y.front) y.last) in omega arith)))

again : (f : Frame) (fs : List Frame) → RowOffers fs → RowOffers (f ∷ fs)
again f fs ih d k l w us s bs a lw z b br = go (dec_lt (length bs) 424)
  where
    more : 424 ≤ length bs → Spaced us (offers s bs)
    more h =
        let v = whole_of d k l w f fs s bs a lw z.0 b h in
        let y = v.payload in
        let s₂ : Tracker = step (after s y.front) y.last in
        let r = ih br.0 br.1 br.2 f.body br.3 (after s v.front) v.back
        (record { control = v.control ∙ br.4; long = v.octets }) z.1 z.2 v.rest br.6 in
        let e : offers s₂ y.back ≡ offers s₂ v.head ++ offers (after s v.front) v.back =
        ap (offers s₂) v.after_is ∙ offers_append v.head v.back s₂
        ∙ ap (λ (t : Tracker). offers s₂ v.head ++ offers t v.back) (sym v.state) in
        subst (λ x. Spaced x (offers s bs)) (sym br.5)
        (subst (Spaced (user_cell (cell_from k l w) ∷ br.3)) (sym (y.is ∙ ap (λ x. offers s y.front ++ user_cell (cell_from k l w) ∷ x) e))
        (whole (offers s y.front) (offers s₂ v.head) y.quiet (length_offers y.front s ∙ y.count) v.quiet
        (length_offers v.head s₂ ∙ v.long) r))

    go : Dec (length bs < 424) → Spaced us (offers s bs)
    go (yes q) = part (f ∷ fs) d k l w _ us s bs a lw b br q
    go (no q) = more (omega arith)

base : RowOffers []
base d k l w us s bs a lw z b br =
    part [] d k l w [] us s bs a lw b br (let c = ap length b.1 in let e = length-append bs b.0 in let f = length-append w [] in omega arith)

pub rows_offers : (fs : List Frame) → RowOffers fs
rows_offers [] = base
rows_offers (f ∷ fs) = again f fs (rows_offers fs)

pub brings_long : (d : Mode) (k : Option headers.Header) (l : Lock) (w : List Bool) (fs : List Frame) (us : List (Option Cell)) → Brings d k l w fs us
    → length us ≡ suc (length fs)
brings_long d k l w [] us b = ap length b
brings_long d k l w (f ∷ fs) us b = ap length b.5 ∙ ap suc (brings_long b.0 b.1 b.2 f.body fs b.3 b.6)

pub flat_long : (fs : List Frame) → Sized fs → length (flat fs) ≡ 424 * length fs
flat_long [] z = refl
flat_long (f ∷ fs) z =
    let a = length-append f.head (f.body ++ flat fs) in let b = length-append f.body (flat fs) in let c = flat_long fs
    z.2 in let x = z.0 in let y = z.1 in omega arith
