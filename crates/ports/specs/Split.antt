-- Two sinks as one.
--
--   split_state boundary l r          connections below the boundary are those of l, all others those of r
--   split_bounded boundary l r p q k  its spaces are below 2^31 where those of both are
--   SplitPut left l r h p a l' r'     what a put answers and leaves in the two sinks l and r: the one that the cell goes to (the left one
--                                     where `left` is true) answers, and the other one stays; ls and rs say what the sinks mean
use Rattle.std.specs.Prelude.{◌≡◌, ℕ, ◌^◌, ◌<◌, Bool, true, false, cond, List, Result, nat_lt}
use Rattle.cell.specs.Header.{connection_of}
use Rattle.cell.specs.declared.refusal.Refusal.{Refusal}
use Rattle.ports.specs.Sink.{SinkState, PutAnswer}

abbrev pub split_state : ℕ → SinkState → SinkState → SinkState
split_state boundary l r = record {
  held = λ k. cond (nat_lt k boundary) (l.held k) (r.held k);
  space = λ k. cond (nat_lt k boundary) (l.space k) (r.space k);
  serves = λ h. cond (nat_lt (connection_of h) boundary) (l.serves h) (r.serves h);
}

pub split_bounded : (boundary : ℕ) (l r : SinkState) → ((k : ℕ) → l.space k < 2 ^ 31) → ((k : ℕ) → r.space k < 2 ^ 31) → (k : ℕ) → (split_state boundary l r).space k < 2 ^ 31
split_bounded boundary l r p q k = go (nat_lt k boundary)
  where
    go : (b : Bool) → cond b (l.space k) (r.space k) < 2 ^ 31
    go true = p k
    go false = q k

abbrev pub SplitPut : {L R X : Type 0} → (L → SinkState) → (R → SinkState) → Bool → L → R → ℕ → List ℕ → Result X Refusal → L → R → Type 0
SplitPut ls rs true l r h p a l' r' = PutAnswer (ls l) h p a (ls l') × (r' ≡ r)
SplitPut ls rs false l r h p a l' r' = PutAnswer (rs r) h p a (rs r') × (l' ≡ l)
