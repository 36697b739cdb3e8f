-- Octets written one part after another: what is still to be written tells what is written in all.
use Rattle.std.proofs.Common.{◌≡◌, ℕ, Bool, true, false, List, [], ◌∷◌, ◌++◌, Option, sym, refl, ap, subst}
use Rattle.std.proofs.lemmas.Bool.{false≢true}
use Rattle.std.proofs.KnownBytes.{Appends-nil, Appends-trans, Appends-kept}
use Rattle.std.specs.Io.KnownBytes.{Appends, Keeps}
use Rattle.ports.specs.Cell.{octets}
use Rattle.ports.specs.UserCell.{cell_of}
use Rattle.ports.specs.declared.user_cell.UserCell.{UserCell}
use Rattle.receiver.specs.Event.{record_words}
use Rattle.receiver.specs.declared.event.EventRecord.{EventRecord}
use Rattle.incoming_line.specs.Output.{written, cells_written, lines, events_listed}

-- a writer that held w holds v now, and once it took bs too, it has taken all
pub record Left (w : Option (List ℕ)) (all : List ℕ) (v : Option (List ℕ)) (bs : List ℕ) : Type 0 where
  pub whole : (u : Option (List ℕ)) → Appends v u bs → Appends w u all

pub nothing_written : (w : Option (List ℕ)) (all : List ℕ) → Left w all w all
nothing_written w all = record { whole = λ u h. h }

more_written : (w : Option (List ℕ)) (all : List ℕ) (v v' : Option (List ℕ)) (bs cs ds : List ℕ) → Left w all v bs → Appends v v' cs → bs ≡ cs ++ ds → Left w all v' ds
more_written w all v v' bs cs ds l h is = record { whole = λ u k. l.whole u (subst (Appends v u) (sym is) (Appends-trans v v' u cs ds h k)) }

all_written : (w : Option (List ℕ)) (all : List ℕ) (v : Option (List ℕ)) (bs : List ℕ) → Left w all v bs → bs ≡ [] → Appends w v all
all_written w all v bs l is = l.whole v (subst (Appends v v) (sym is) (Appends-nil v))

module _ (w : Option (List ℕ)) (all : List ℕ) (v : Option (List ℕ)) where
  pub cell_written : (v' : Option (List ℕ)) (payloads : Bool) (c : UserCell) (cs cs' : List UserCell)
      → Left w all v (cells_written payloads cs) → cs ≡ c ∷ cs' → Appends v v' (written payloads (octets (cell_of c))) → Left w all v' (cells_written payloads cs')
  unfolding cells_written
  cell_written v' payloads c cs cs' l is h = more_written w all v v' _ _ _ l h (ap (cells_written payloads) is)

  pub all_cells_written : (payloads : Bool) (cs : List UserCell) → Left w all v (cells_written payloads cs) → cs ≡ [] → Appends w v all
  unfolding cells_written
  all_cells_written payloads cs l none = all_written w all v _ l (ap (cells_written payloads) none)

  pub event_listed : (v' : Option (List ℕ)) (listed : Bool) (e : EventRecord) (es es' : List EventRecord)
      → listed ≡ true → Left w all v (events_listed listed es) → es ≡ e ∷ es' → Appends v v' (record_words e ++ 10 ∷ []) → Left w all v' (events_listed listed es')
  unfolding lines
  event_listed v' true e es es' asked l is h = more_written w all v v' _ _ _ l h (ap lines is)
  event_listed v' false e es es' asked l is h = absurd (false≢true asked)

  pub event_let_go : (listed : Bool) (es es' : List EventRecord) → listed ≡ false → Left w all v (events_listed listed es) → Left w all v (events_listed listed es')
  event_let_go true es es' unasked l = absurd (false≢true (sym unasked))
  event_let_go false es es' unasked l = l

  pub all_events_listed : (v' : Option (List ℕ)) (listed : Bool) (es : List EventRecord) → Left w all v (events_listed listed es) → es ≡ [] → Keeps v v' → Appends w v' all
  unfolding lines
  all_events_listed v' true es l none same = Appends-kept w v v' all (all_written w all v _ l (ap lines none)) same
  all_events_listed v' false es l none same = Appends-kept w v v' all (all_written w all v _ l refl) same
