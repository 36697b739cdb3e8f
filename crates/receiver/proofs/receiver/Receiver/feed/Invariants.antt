use Rattle.std.proofs.Common.{◌*◌, ◌≤◌}
use Rattle.receiver.specs.Feed.{events_of, Works}
use Rattle.receiver.specs.Handing.{Unasked}
use Rattle.receiver.proofs.Runs.{first_bits}
use Rattle.receiver.proofs.receiver.Receiver.feed.Given as goal

abbrev pub invariant-loop-octet : goal.invariant-loop-octet
invariant-loop-octet g l =
    Works l.initial.self (g.S.Sink.state l.initial.sink) (events_of l.initial.events) (first_bits l.octets l.octet-index)
    l.taken l.self (g.S.Sink.state l.sink) (events_of l.events)
    × (l.taken ≤ 8 * l.octet-index)
    × Unasked l.initial.self.tracker (first_bits l.octets l.octet-index) l.initial.sink l.sink
