-- Empty rings of cells and of events, and a feed into them.
use Rattle.std.proofs.Common.{◌≡◌, ℕ, ◌≤◌, List, not, true, false, [], length, ap, arith}
use Rattle.cell.specs.Header.{reserved}
use Rattle.ring.specs.declared.ring.Ring.{Ring}
use Rattle.ring.specs.Ring.{held, places}
use Rattle.ports.specs.CellRing.{ring_state}
use Rattle.ports.specs.declared.user_cell.UserCell.{UserCell}
use Rattle.receiver.specs.Feed.{FeedLaws}
use Rattle.receiver.specs.declared.event.EventRecord.{EventRecord}
use Rattle.incoming_line.specs.Line.{Fed}
use Rattle.incoming_line.specs.Passing.{TakenIn}
use Rattle.incoming_line.specs.declared.line.Line.{Line}

pub empty_space : (ring : Ring UserCell) → held ring ≡ [] → places ring ≡ 78 → (c : ℕ) → 78 ≤ (ring_state ring).space c
empty_space ring empty many c = let none : length (held ring) ≡ 0 = ap length empty in omega arith

pub serves_users : (ring : Ring UserCell) (h : ℕ) → reserved h ≡ false → (ring_state ring).serves h ≡ true
serves_users ring h user = ap not user

-- a feed into new rings
pub all_in : FeedLaws → (os : List ℕ) (n : ℕ) (l l' : Line) (cells cells' : Ring UserCell) (events events' : Ring EventRecord)
    → held cells ≡ [] → held events ≡ [] → places cells ≡ 78 → places events ≡ 1024 → Fed os n l cells events l' cells' events' → TakenIn os l l' cells' events'
all_in laws os n l l' cells cells' events events' no_cells no_events few many fed =
    let room = laws.room _ _ _ _ _ _ _ _ fed.0 in
    let space = empty_space cells no_cells few in
    record {
      no_cells = cells;
      no_events = events;
      empty = (no_cells, no_events);
      places = (few, many);
      taken = n;
      fed = fed;
      all_taken = room.all_taken space (serves_users cells);
      free = room.free no_events many;
      none_full = room.none_full space;
      none_lost = room.none_lost no_events many;
    }
