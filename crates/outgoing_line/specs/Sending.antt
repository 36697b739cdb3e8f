-- Cells that go out one after the other, and their octets. A line is l before and l' after, and what the writer of the octets is known to hold,
-- w and w'. The list `cells` of user cells waits in a source before, and `rest` after.
--
--   Goes l cells x l'              the send x goes out, and is counted
--   Sent l cells xs l' rest        the sends xs go out one after the other, each from what the one before left in the source, and no F3 payload is
--                                  set between them
--   CellSent l cells w l' rest w'  one cell goes out, and the writer takes its octets
--   UnusedSent n l w l' w'         n cells go out while no user cell waits, and the writer takes their octets, in order
--   WaitingSent cells l w l' w'    cells go out until the user cells that wait are out, and the writer takes their octets, in order
use Rattle.std.specs.Prelude.{◌≡◌, ℕ, List, [], ◌∷◌, length, Option, ◌≢◌, All}
use Rattle.std.specs.Io.KnownBytes.{Appends}
use Rattle.ports.specs.Cell.{Cell}
use Rattle.sender.specs.Stream.{Send, Accepted, line_of, sent_users}
use Rattle.outgoing_line.specs.Tally.{counted_cell}
use Rattle.outgoing_line.specs.declared.line.Line.{Line}

pub record Goes (l : Line) (cells : List Cell) (x : Send) (l' : Line) : Type 0 where
  pub waiting : x.waiting ≡ cells
  pub accepted : Accepted l.sender x l'.sender
  pub counted : l'.tally ≡ counted_cell x.kind l.tally

abbrev pub Sent : Line → List Cell → List Send → Line → List Cell → Type 0
Sent l cells [] l' rest = (l' ≡ l) × (rest ≡ cells)
Sent l cells (x ∷ xs) l' rest = (m : Line) × Goes l cells x m × Sent m x.left xs l' rest

pub record CellSent (l : Line) (cells : List Cell) (w : Option (List ℕ)) (l' : Line) (rest : List Cell) (w' : Option (List ℕ)) : Type 0 where
  pub send : Send
  pub goes : Goes l cells send l'
  pub left : rest ≡ send.left
  pub written : Appends w w' send.line

pub record UnusedSent (n : ℕ) (l : Line) (w : Option (List ℕ)) (l' : Line) (w' : Option (List ℕ)) : Type 0 where
  pub sends : List Send
  pub sent : Sent l [] sends l' []
  pub count : length sends ≡ n
  pub written : Appends w w' (line_of sends)

pub record WaitingSent (cells : List Cell) (l : Line) (w : Option (List ℕ)) (l' : Line) (w' : Option (List ℕ)) : Type 0 where
  pub sends : List Send
  pub sent : Sent l cells sends l' []
  -- the user cells among them are all that waited, each once and in order
  pub users : sent_users sends ≡ cells
  -- no cell goes out once none waits
  pub waited : All (λ x. x.waiting ≢ []) sends
  pub written : Appends w w' (line_of sends)
