-- What the descrambler knows of the headers since the last hunt, the newest in front.
-- Knows of the check octet and the generator only that what the finder answers is the one phase with these samples.
--
--   AgreeingRow c hs  the c headers in front of hs agree
--   Gave n p hs       sixteen in a row gave a phase, which has been moved on to p; at least n - 16 headers after them came as predicted
--   Knows d hs        what the descrambler's state d says of the headers hs
--   Keeps u hs        u are the samples of the headers hs, as far as they are kept
use Rattle.std.proofs.Common.{◌≡◌, ℕ, suc, ◌+◌, ◌-◌, ◌*◌, ◌%◌, ◌^◌, ◌≤◌, Bool, true, false, cond, eqb, ltb, List, [], ◌∷◌, ◌++◌, length, Ok, Err, Result, sym, refl, ap, ◌∙◌, subst, mul_assoc, pow-suc, arith, ltb-false, ltb-true}
use Rattle.std.specs.List.{AllByRecursion}
use Rattle.cell.specs.declared.refusal.Refusal.{Refusal}
use Rattle.scrambler.specs.Finder.{found, OnePhase}
use Rattle.scrambler.specs.Generator.{next_phase}
use Rattle.tracker.specs.declared.state.Descrambler.{Descrambler}
use Rattle.tracker.specs.declared.state.Descrambler.TheVariants.{Acquisition, Verification, Steady}
use Rattle.tracker.specs.Window.{agrees, samples_in, predicted, freed, sample_fault}
use Rattle.tracker.specs.Rules.{found_phase, acquire, verify, hold, descrambler_after, sampled}
use Rattle.line.specs.Headers.{Sixteen, Preceded, phase_on, as_predicted, samples_from}
use Rattle.line.proofs.CodeLaws.{CodeLaws}

pub record AgreeingRow (c : ℕ) (hs : List ℕ) : Type 0 where
  pub row : List ℕ
  pub earlier : List ℕ
  pub split : hs ≡ row ++ earlier
  pub count : length row ≡ c
  pub agree : AllByRecursion (λ h. agrees h ≡ true) row
  pub most : c ≤ 15

pub record Gave (n : ℕ) (p : ℕ) (hs : List ℕ) : Type 0 where
  pub sixteen : Sixteen hs
  pub moved : p ≡ phase_on sixteen.phase sixteen.later
  pub eight : n ≤ 16 + as_predicted sixteen.phase sixteen.later

abbrev pub Knows : Descrambler → List ℕ → Type 0
Knows (Acquisition c) hs = AgreeingRow c hs
Knows (Verification c p) hs = Gave c p hs
Knows (Steady c p) hs = Gave 24 p hs

row_none : (hs : List ℕ) → AgreeingRow 0 hs
row_none hs = record { row = []; earlier = hs; split = refl; count = refl; agree = tt; most = omega arith }

pub preceded : (p : ℕ) (hs : List ℕ) → Gave 24 p hs → Preceded hs
preceded p hs g = record { sixteen = g.sixteen; eight = omega arith }

-- one header more, of which the count needs n
gave_more : (n n' : ℕ) (p : ℕ) (hs : List ℕ) (w : ℕ) (g : Gave n p hs) → n' ≤ 16 + as_predicted g.sixteen.phase (w ∷ g.sixteen.later)
    → Gave n' (next_phase p) (w ∷ hs)
gave_more n n' p hs w g h =
    let s = g.sixteen in
    record {
      sixteen = record {
        later = w ∷ s.later;
        row = s.row;
        earlier = s.earlier;
        split = ap (λ l. w ∷ l) s.split;
        count = s.count;
        agree = s.agree;
        phase = s.phase;
        gave = s.gave;
      };
      moved = ap next_phase g.moved;
      eight = h;
    }

-- ---- the samples kept are those of the last headers

word_append : (xs ys : List ℕ) → samples_from (xs ++ ys) ≡ samples_from ys * 4 ^ length xs + samples_from xs
word_append [] ys = omega arith
word_append (x ∷ xs) ys =
    let h = word_append xs ys in
    let e : samples_from ys * 4 ^ suc (length xs) ≡ samples_from ys * 4 ^ length xs * 4 = ap (λ (z : ℕ). samples_from ys * z) (pow-suc 4 (length xs))
    ∙ sym (mul_assoc (samples_from ys) (4 ^ length xs) 4) in
    omega (arith, h, e)

abbrev pub Keeps : ℕ → List ℕ → Type 0
Keeps u hs = u % 2 ^ 32 ≡ samples_from hs % 2 ^ 32

pub keeps_more : (u : ℕ) (hs : List ℕ) (w : ℕ) → Keeps u hs → Keeps (sampled u w) (w ∷ hs)
unfolding sampled
keeps_more u hs w h = omega arith

lower : (x : ℕ) → x % 2 ^ 32 % 2 ^ 31 ≡ x % 2 ^ 31
lower x = omega arith

over : (x y : ℕ) → (x * 2 ^ 32 + y) % 2 ^ 32 ≡ y % 2 ^ 32
over x y = omega arith

-- the last sixteen of them
last_samples : (u : ℕ) (hs row earlier : List ℕ) (w : ℕ) → hs ≡ row ++ earlier → length row ≡ 15 → Keeps u hs
    → sampled u w % 2 ^ 31 ≡ samples_from (w ∷ row) % 2 ^ 31
last_samples u hs row earlier w s c k =
    let a : Keeps (sampled u w) (w ∷ hs) = keeps_more u hs w k in
    let b : samples_from (w ∷ hs) ≡ samples_from earlier * 2 ^ 32 + samples_from (w ∷ row) =
    ap (λ l. samples_from (w ∷ l)) s ∙ word_append (w ∷ row) earlier ∙ ap (λ (z : ℕ). samples_from earlier * 4 ^ suc z + samples_from (w ∷ row)) c in
    let c' : samples_from (w ∷ hs) % 2 ^ 32 ≡ samples_from (w ∷ row) % 2 ^ 32 = ap (λ (z : ℕ). z % 2 ^ 32) b
    ∙ over (samples_from earlier) (samples_from (w ∷ row)) in
    sym (lower (sampled u w)) ∙ ap (λ (z : ℕ). z % 2 ^ 31) (a ∙ c') ∙ lower (samples_from (w ∷ row))

knows_found : (o : Result ℕ Refusal) (row earlier : List ℕ) (w : ℕ) → length row ≡ 15 → AllByRecursion (λ h. agrees h ≡ true) (w ∷ row)
    → ((p : ℕ) → o ≡ Ok p → OnePhase (samples_from (w ∷ row) % 2 ^ 31) p) → Knows (found_phase o) (w ∷ (row ++ earlier))
knows_found (Err e) row earlier w c a f = row_none (w ∷ (row ++ earlier))
knows_found (Ok p) row earlier w c a f =
    record {
      sixteen = record { later = []; row = w ∷ row; earlier = earlier; split = refl; count = ap suc c; agree = a; phase = p; gave = f p refl };
      moved = refl;
      eight = omega arith;
    }

module _ (laws : CodeLaws) where
  knows_row : (t : Bool) (c : ℕ) (hs : List ℕ) (u w : ℕ) → agrees w ≡ true → ltb (c + 1) 16 ≡ t → Keeps u hs → AgreeingRow c hs
      → Knows (cond t (Acquisition (c + 1)) (found_phase (found (sampled u w % 2 ^ 31)))) (w ∷ hs)
  knows_row false c hs u w a e h k =
      let n : length k.row ≡ 15 = (let z = ltb-false (c + 1) 16 e in let y = k.most in let x = k.count in omega arith) in
      let q = last_samples u hs k.row k.earlier w k.split n h in
      subst (λ l. Knows (found_phase (found (sampled u w % 2 ^ 31))) (w ∷ l)) (sym k.split)
      (knows_found (found (sampled u w % 2 ^ 31)) k.row k.earlier w n ((a, k.agree))
      (λ p f. subst (λ (z : ℕ). OnePhase z p) q (laws.one_phase (sampled u w % 2 ^ 31) p f)))
  knows_row true c hs u w a e h k = record {
    row = w ∷ k.row;
    earlier = k.earlier;
    split = ap (λ l. w ∷ l) k.split;
    count = omega arith;
    agree = (a, k.agree);
    most = (let z = ltb-true (c + 1) 16 e in omega arith);
  }

  knows_acquire : (a : Bool) (c : ℕ) (hs : List ℕ) (u w : ℕ) → agrees w ≡ a → Keeps u hs → AgreeingRow c hs → Knows (acquire a c (sampled u w)) (w ∷ hs)
  knows_acquire false c hs u w a h k = row_none (w ∷ hs)
  knows_acquire true c hs u w a h k = knows_row (ltb (c + 1) 16) c hs u w a refl h k

  fewer : (t : Bool) (c p : ℕ) (hs : List ℕ) (w : ℕ) → Gave c p hs → Knows (cond t (Verification (c - 1) (next_phase p)) (Acquisition 0)) (w ∷ hs)
  fewer true c p hs w g = gave_more c (c - 1) p hs w g (omega arith)
  fewer false c p hs w g = row_none (w ∷ hs)

  more : (t : Bool) (c p : ℕ) (hs : List ℕ) (w : ℕ) → ltb (c + 1) 24 ≡ t → (g : Gave c p hs) → c + 1 ≤ 16 + as_predicted g.sixteen.phase (w ∷ g.sixteen.later)
      → Knows (cond t (Verification (c + 1) (next_phase p)) (Steady 24 (next_phase p))) (w ∷ hs)
  more false c p hs w e g h = gave_more c 24 p hs w g (let f = ltb-false (c + 1) 24 e in omega arith)
  more true c p hs w e g h = gave_more c (c + 1) p hs w g h

  knows_verify : (a m : Bool) (c p : ℕ) (hs : List ℕ) (w : ℕ) → agrees w ≡ a → eqb (samples_in w) (predicted (next_phase p)) ≡ m → Gave c p hs
      → Knows (verify a m c (next_phase p)) (w ∷ hs)
  knows_verify false m c p hs w a e g = gave_more c c p hs w g (omega arith)
  knows_verify true false c p hs w a e g = fewer (ltb 8 c) c p hs w g
  knows_verify true true c p hs w a e g = more (ltb (c + 1) 24) c p hs w refl g
      (rw (a, ap (λ q. eqb (samples_in w) (predicted (next_phase q))) (sym g.moved) ∙ e) (omega arith))

  kept_up : (t : Bool) (c p : ℕ) (hs : List ℕ) (w : ℕ) → Gave 24 p hs → Knows (cond t (Steady (c - 1) (next_phase p)) (Acquisition 0)) (w ∷ hs)
  kept_up true c p hs w g = gave_more 24 24 p hs w g (omega arith)
  kept_up false c p hs w g = row_none (w ∷ hs)

  knows_hold : (f : Bool) (c p : ℕ) (hs : List ℕ) (w : ℕ) → Gave 24 p hs → Knows (hold f c (next_phase p)) (w ∷ hs)
  knows_hold true c p hs w g = kept_up (ltb 16 c) c p hs w g
  knows_hold false c p hs w g = gave_more 24 24 p hs w g (omega arith)

  pub knows_after : (d : Descrambler) (hs : List ℕ) (u w : ℕ) → Keeps u hs → Knows d hs → Knows (descrambler_after d (sampled u w) w) (w ∷ hs)
  knows_after (Acquisition c) hs u w h k = knows_acquire (agrees w) c hs u w refl h k
  knows_after (Verification c p) hs u w h k = knows_verify (agrees w) (eqb (samples_in w) (predicted (next_phase p))) c p hs w refl refl k
  knows_after (Steady c p) hs u w h k = knows_hold (sample_fault (freed (next_phase p) w)) c p hs w k
