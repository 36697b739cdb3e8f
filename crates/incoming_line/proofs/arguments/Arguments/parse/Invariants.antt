-- What is left of the words gives the answer, from what is given so far.
use Rattle.std.proofs.Common.{◌≡◌, drop, map, string_bytes}
use Rattle.incoming_line.specs.Arguments.{nothing, read_from}
use Rattle.incoming_line.proofs.arguments.Arguments.parse.Given as goal

abbrev pub invariant-loop-at : goal.invariant-loop-at
invariant-loop-at l = read_from l.given l.at-counter (map string_bytes (drop l.at-counter l.words)) ≡ read_from nothing 0 (map string_bytes l.words)
