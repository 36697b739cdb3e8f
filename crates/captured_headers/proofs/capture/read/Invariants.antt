-- What is left of the line gives the answer, from what is read so far.
use Rattle.std.proofs.Common.{◌≡◌, ◌≤◌, drop}
use Rattle.captured_headers.proofs.Spelling.{start, read_from}
use Rattle.captured_headers.proofs.capture.read.Given as goal

abbrev pub invariant-loop-before : goal.invariant-loop-before
invariant-loop-before l = record {
  few : l.reading.octets ≤ l.before;
  same : read_from l.reading l.before (drop l.before l.line) ≡ read_from start 0 l.line;
}
