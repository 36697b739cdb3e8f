-- What a receiving end hears from its making or a reset on, and what the connections gain by it. Bits are lists in the order in which
-- they come.
--
--   Heard s ms      the moments ms, one after the other, from the tracker s on: with each bit the user cell that it completes, if it
--                   completes one, is put into the sink that is lent then. Another sink may be lent at each feed, and a sink may
--                   lose cells between feeds, so that nothing is said of the sink before one moment and the sink after the last
--   Gains k ms g    the cells g are what the connection k gains by the moments ms: those put for it, in order, joined over the feeds
--   ReadyAt ms i c  at the moment i of ms, the first being 0, the sink lent serves the cell c and has space for its connection
--   Begins w v      the bits w are a beginning of the bits v: v, cut anywhere
--   Ends w v        the bits w end with the bits v
--   join ws         the lists ws, one after the other
use Rattle.std.specs.Prelude.{◌≡◌, ℕ, ◌<◌, Bool, true, List, [], ◌∷◌, ◌++◌, length}
use Rattle.cell.specs.Header.{connection_of}
use Rattle.ports.specs.Cell.{Cell}
use Rattle.tracker.specs.declared.tracker.Tracker.{Tracker}
use Rattle.receiver.specs.Run.{step, offered}
use Rattle.receiver.specs.Handing.{Moment, Handed}

abbrev pub Heard : Tracker → List Moment → Type 0
Heard s [] = Unit {0}
Heard s (m ∷ ms) = Handed (offered s m.bit) m.sink m.reply m.sink' × Heard (step s m.bit) ms

abbrev pub Gains : ℕ → List Moment → List Cell → Type 0
Gains k [] g = g ≡ []
Gains k (m ∷ ms) g =
    (now : List Cell) × (later : List Cell) × (m.sink'.held k ≡ m.sink.held k ++ now) × Gains k ms later × (g ≡ now ++ later)

abbrev pub ReadyAt : List Moment → ℕ → Cell → Type 0
ReadyAt ms i c = (past rest : List Moment) (m : Moment) → ms ≡ past ++ m ∷ rest → length past ≡ i
    → (m.sink.serves c.header ≡ true) × (0 < m.sink.space (connection_of c.header))

abbrev pub Begins : List Bool → List Bool → Type 0
Begins w v = (rest : List Bool) × (w ++ rest ≡ v)

abbrev pub Ends : List Bool → List Bool → Type 0
Ends w v = (front : List Bool) × (w ≡ front ++ v)

abbrev pub join : {A : Type 0} → List (List A) → List A
join [] = []
join (w ∷ ws) = w ++ join ws
