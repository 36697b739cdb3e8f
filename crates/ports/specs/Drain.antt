-- Draining a source into a sink.
--
--   Refuses cells s e          a cell waits first, and the sink in state s refuses it with e
--   Moves cells s rest s'      the first cell goes from the source into the sink
--   Stepped cells s r rest s'  what one step of draining does and answers: whether a cell waited, or the refusal of its put
--   Puts s cs s'               the cells cs are put one after the other
--   Ended refusal rest s       no cell is left, or the sink refuses the first that is
--   Drains cells s r rest s'   what draining answers, what it leaves in the source, and what it puts where:
--                              the cells moved are those that waited first, each connection holds those of them
--                              that belong to it behind what it held, and the answer counts them up to 2^32 - 1
use Rattle.std.specs.Prelude.{◌≡◌, ℕ, min, List, [], ◌∷◌, ◌++◌, length, Bool, true, false, Ok, Err, Some, None, Option, Result}
use Rattle.cell.specs.declared.refusal.Refusal.{Refusal}
use Rattle.ports.specs.declared.drained.Drained.{Drained}
use Rattle.ports.specs.Cell.{Cell, of_connection}
use Rattle.ports.specs.Sink.{SinkState, Put, PutWhy}

pub record Refuses (cells : List Cell) (s : SinkState) (e : Refusal) : Type 0 where
  pub cell : Cell
  pub rest : List Cell
  pub first : cells ≡ cell ∷ rest
  pub why : PutWhy s cell.header cell.payload e

pub record Moves (cells : List Cell) (s : SinkState) (rest : List Cell) (s' : SinkState) : Type 0 where
  pub cell : Cell
  pub first : cells ≡ cell ∷ rest
  pub put : Put s cell.header cell.payload s'

abbrev pub Stepped : List Cell → SinkState → Result Bool Refusal → List Cell → SinkState → Type 0
Stepped cells s (Ok true) rest s' = Moves cells s rest s'
Stepped cells s (Ok false) rest s' = (cells ≡ []) × (rest ≡ cells) × (s' ≡ s)
Stepped cells s (Err e) rest s' = Refuses cells s e × (rest ≡ cells) × (s' ≡ s)

abbrev pub Puts : SinkState → List Cell → SinkState → Type 0
Puts s [] s' = s' ≡ s
Puts s (c ∷ cs) s' = (u : SinkState) × Put s c.header c.payload u × Puts u cs s'

abbrev pub Ended : Option Refusal → List Cell → SinkState → Type 0
Ended None rest s = rest ≡ []
Ended (Some e) rest s = Refuses rest s e

pub record Drains (cells : List Cell) (s : SinkState) (r : Drained) (rest : List Cell) (s' : SinkState) : Type 0 where
  pub moved : List Cell
  pub parts : cells ≡ moved ++ rest
  pub puts : Puts s moved s'
  pub gained : (k : ℕ) → s'.held k ≡ s.held k ++ of_connection k moved
  pub count : r.moved ≡ min (length moved) 4294967295
  pub ended : Ended r.refusal rest s'
