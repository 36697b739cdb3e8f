use Rattle.std.proofs.Common.{◌≤◌, map}
use Rattle.std.specs.List.{range_with_len}
use Rattle.receiver.specs.Feed.{events_of, Works}
use Rattle.receiver.specs.Handing.{Unasked}
use Rattle.receiver.specs.Run.{bit_at}
use Rattle.receiver.proofs.receiver.Receiver.take_octet.Given as goal

abbrev pub invariant-loop-k : goal.invariant-loop-k
invariant-loop-k g l =
    Works l.initial.self (g.S.Sink.state l.initial.sink) (events_of l.initial.events) (map (bit_at l.octet) (range_with_len 0 l.k))
    l.taken l.self (g.S.Sink.state l.sink) (events_of l.events)
    × (l.taken ≤ l.k)
    × Unasked l.initial.self.tracker (map (bit_at l.octet) (range_with_len 0 l.k)) l.initial.sink l.sink
