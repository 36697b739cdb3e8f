-- The part keeps its places.
use Rattle.std.proofs.Common.{◌≡◌, length}
use Rattle.send.proofs.send.Given as goal

abbrev pub invariant-loop : goal.invariant-loop
invariant-loop l = length l.part ≡ length l.initial.part
