-- A block of octets as a sink.
--
--   sink_state header block filled  it serves one header, unless that is reserved; its connection holds what stands in the payload places
--                                   that are filled, in order, and has space for as many more as there are other whole places
--   block_state b                   the same of a block sink
--   block_bounded b k               its spaces are below 2^31
--   Filled b payload b'             the payload stands in the first place that was not filled; every other octet is as it was
--   Stores b payload r b'           what a put does to the octets of the block
use Rattle.std.specs.Prelude.{◌≡◌, ℕ, ◌+◌, ◌-◌, ◌*◌, ◌/◌, ◌^◌, ◌<◌, Bool, true, false, cond, List, [], length, Result, MatchResult, ◌==◌}
use Rattle.std.proofs.Math.Seq.{paste}
use Rattle.std.proofs.Common.{lit<}
use Rattle.std.proofs.Math.Nat.{sub-le, div-le_self, le_trans, lt_of_le_of_lt}
use Rattle.cell.specs.Header.{connection_of, reserved}
use Rattle.cell.specs.declared.refusal.Refusal.{Refusal}
use Rattle.ports.specs.Sink.{SinkState}
use Rattle.blocks.specs.Block.{cells_in}
use Rattle.blocks.specs.declared.block_sink.BlockSink.{BlockSink}

abbrev pub sink_state : ℕ → List ℕ → ℕ → SinkState
sink_state header block filled = record {
  held = λ k. cond (k == connection_of header) (cells_in header block filled) [];
  space = λ k. cond (k == connection_of header) (length block / 48 - filled) 0;
  serves = λ h. cond (reserved h) false (h == header);
}

abbrev pub block_state : BlockSink → SinkState
block_state b = sink_state b.header.0 b.block.now b.filled

pub block_bounded : (b : BlockSink) (k : ℕ) → (block_state b).space k < 2 ^ 31
block_bounded b k = go (k == connection_of b.header.0)
  where
    go : (t : Bool) → cond t (length b.block.now / 48 - b.filled) 0 < 2 ^ 31
    go true = lt_of_le_of_lt (sub-le (length b.block.now / 48) b.filled) (lt_of_le_of_lt (le_trans (div-le_self (length b.block.now) 48) b.small) (lit< tt))
    go false = lit< tt

pub record Filled (b : BlockSink) (payload : List ℕ) (b' : BlockSink) : Type 0 where
  pub header : b'.header.0 ≡ b.header.0
  pub filled : b'.filled ≡ b.filled + 1
  pub lent : b'.block.ghost_name ≡ b.block.ghost_name
  pub block : b'.block.now ≡ paste b.block.now (48 * b.filled) payload 48

abbrev pub Stores : {X : Type 0} → BlockSink → List ℕ → Result X Refusal → BlockSink → Type 0
Stores b payload r b' = MatchResult r (λ _. Filled b payload b') (λ _. b' ≡ b)
