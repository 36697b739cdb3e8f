-- Runs of bits and moments in parts. Knows nothing of what a bit does.
--
--   Parted ms before left      the moments ms, cut in two: the bits before, and left
--   PartedAt ms before b left  the moments ms, cut at that of the bit b: the bits before come ahead of it, and left after it
use Rattle.std.proofs.Common.{◌≡◌, ℕ, zero, suc, Bool, List, [], ◌∷◌, ◌++◌, length, take, refl, ap, ap₂, arith}
use Rattle.std.specs.List.{AllByRecursion}
use Rattle.ports.specs.Sink.{SinkState}
use Rattle.tracker.specs.declared.tracker.Tracker.{Tracker}
use Rattle.receiver.specs.Run.{step, after}
use Rattle.receiver.specs.Handing.{Moment, bits, Along}
use Rattle.line.specs.Heard.{Heard}

pub length-bits : (ms : List Moment) → length (bits ms) ≡ length ms
length-bits [] = refl
length-bits (m ∷ ms) = ap suc (length-bits ms)

pub bits-take : (n : ℕ) (ms : List Moment) → bits (take n ms) ≡ take n (bits ms)
bits-take zero ms = refl
bits-take (suc n) [] = refl
bits-take (suc n) (m ∷ ms) = ap (λ l. m.bit ∷ l) (bits-take n ms)

-- what is heard in one feed after another is heard
pub heard-append : (s : Tracker) (xs ys : List Moment) → Heard s xs → Heard (after s (bits xs)) ys → Heard s (xs ++ ys)
heard-append s [] ys a b = b
heard-append s (x ∷ xs) ys a b = (a.0, heard-append (step s x.bit) xs ys a.1 b)

pub heard_front : (s : Tracker) (xs ys : List Moment) → Heard s (xs ++ ys) → Heard s xs
heard_front s [] ys a = tt
heard_front s (x ∷ xs) ys a = (a.0, heard_front (step s x.bit) xs ys a.1)

pub heard-rest : (s : Tracker) (xs ys : List Moment) → Heard s (xs ++ ys) → Heard (after s (bits xs)) ys
heard-rest s [] ys a = a
heard-rest s (x ∷ xs) ys a = heard-rest (step s x.bit) xs ys a.1

-- the moments of one feed, whose sink goes on as it was left
pub heard_along : (ms : List Moment) (s : Tracker) (k k' : SinkState) → Along s k ms k' → Heard s ms
heard_along [] s k k' a = tt
heard_along (m ∷ ms) s k k' a = (a.1, heard_along ms (step s m.bit) m.sink' k' a.2)

-- ---- lists in parts

module _ {A : Type 0} (P : A → Type 0) where
  pub all_front : (xs ys : List A) → AllByRecursion P (xs ++ ys) → AllByRecursion P xs
  all_front [] ys a = tt
  all_front (x ∷ xs) ys a = (a.0, all_front xs ys a.1)

  pub all_rest : (xs ys : List A) → AllByRecursion P (xs ++ ys) → AllByRecursion P ys
  all_rest [] ys a = a
  all_rest (x ∷ xs) ys a = all_rest xs ys a.1

  pub all_joined : (xs ys : List A) → AllByRecursion P xs → AllByRecursion P ys → AllByRecursion P (xs ++ ys)
  all_joined [] ys a b = b
  all_joined (x ∷ xs) ys a b = (a.0, all_joined xs ys a.1 b)

pub record Parted (ms : List Moment) (before left : List Bool) : Type 0 where
  pub past : List Moment
  pub rest : List Moment
  pub is : ms ≡ past ++ rest
  pub heard : bits past ≡ before
  pub others : bits rest ≡ left

pub parted : (before left : List Bool) (ms : List Moment) → bits ms ≡ before ++ left → Parted ms before left
parted [] left ms e = record { past = []; rest = ms; is = refl; heard = refl; others = e }
parted (c ∷ before) left [] e = absurd (let z = ap length e in omega arith)
parted (c ∷ before) left (m ∷ ms) e =
    let v : Parted ms before left = parted before left ms cc in
    let first : m.bit ≡ c = cc in
    record {
      past = m ∷ v.past;
      rest = v.rest;
      is = ap (λ l. m ∷ l) v.is;
      heard = ap₂ (λ (x : Bool) (w : List Bool). x ∷ w) first v.heard;
      others = v.others;
    }

pub record PartedAt (ms : List Moment) (before : List Bool) (b : Bool) (left : List Bool) : Type 0 where
  pub past : List Moment
  pub m : Moment
  pub rest : List Moment
  pub is : ms ≡ past ++ m ∷ rest
  pub heard : bits past ≡ before
  pub bit : m.bit ≡ b
  pub others : bits rest ≡ left

pub parted_at : (before : List Bool) (b : Bool) (left : List Bool) (ms : List Moment) → bits ms ≡ before ++ b ∷ left → PartedAt ms before b left
parted_at before b left ms e = go v.rest v.is v.others
  where
    v : Parted ms before (b ∷ left)
    v = parted before (b ∷ left) ms e

    go : (rest : List Moment) → ms ≡ v.past ++ rest → bits rest ≡ b ∷ left → PartedAt ms before b left
    go [] i o = absurd (let z = ap length o in omega arith)
    go (m ∷ rest) i o = record { past = v.past; m = m; rest = rest; is = i; heard = v.heard; bit = cc; others = cc }
