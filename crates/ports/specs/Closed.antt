-- A sink that serves nothing.
--
--   closed            it holds nothing, has no space and serves no header
--   closed_bounded k  its spaces are below 2^31
use Rattle.std.specs.Prelude.{ℕ, ◌^◌, ◌<◌, false, []}
use Rattle.std.proofs.Common.{lit<}
use Rattle.ports.specs.Sink.{SinkState}

abbrev pub closed : SinkState
closed = record { held = λ _. []; space = λ _. 0; serves = λ _. false }

pub closed_bounded : (k : ℕ) → closed.space k < 2 ^ 31
closed_bounded k = lit< tt
