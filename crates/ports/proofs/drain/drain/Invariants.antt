use Rattle.std.proofs.Common.{◌≡◌, ℕ, min, List, ◌++◌, length}
use Rattle.ports.specs.Cell.{Cell, of_connection}
use Rattle.ports.specs.Drain.{Puts}
use Rattle.ports.proofs.drain.drain.Given as goal

abbrev pub invariant-loop-moved : goal.invariant-loop-moved
invariant-loop-moved g l =
    (cells : List Cell) × (g.S.Source.waiting l.initial.from ≡ cells ++ g.S.Source.waiting l.from)
    × Puts (g.K.Sink.state l.initial.to) cells (g.K.Sink.state l.to)
    × ((k : ℕ) → (g.K.Sink.state l.to).held k ≡ (g.K.Sink.state l.initial.to).held k ++ of_connection k cells)
    × (l.moved ≡ min (length cells) 4294967295)

abbrev pub decreases-loop-moved : goal.decreases-loop-moved
decreases-loop-moved g l = length (g.S.Source.waiting l.from)
