-- Counts of cells that were sent, and of cells that went up. Each counter stops at its top, 2^64 - 1.
--
--   raised n by            the counter n, so much up, if it does not stop at its top
--   none                   nothing is counted yet
--   counted_sent kind t    the tally t with one cell more that was sent: no idle cell is counted
--   counted_up as t        the tally t with one cell more that went up, as it was sent or not
--   as_sent sent c         the cell c has the octets of the cell that was sent, if one was
--   counted_all sent cs t  the tally t with all of the cells cs, which went up beside the cell that was sent, if one was
--   added t u              both counts together
--   tally_text t           what is printed of the tally t, as octets of text
use Rattle.std.specs.Prelude.{ℕ, ◌+◌, Bool, true, false, List, [], ◌∷◌, ◌++◌, Some, None, Option, codes, decimal}
use Rattle.std.specs.Io.Iter.{u64_saturate}
use Rattle.std.specs.Str.{bytes_eq}
use Rattle.std.specs.declared.num.Saturating.{Saturating}
use Rattle.cell.specs.declared.header.Kind.{Kind}
use Rattle.cell.specs.declared.header.Kind.TheVariants.{Idle, F3, User}
use Rattle.ports.specs.Cell.{Cell, octets}
use Rattle.damaged_line.specs.declared.tally.Tally.{Tally}

abbrev pub raised : Saturating ℕ → ℕ → Saturating ℕ
raised n by = record { 0 = u64_saturate (n.0 + by) }

abbrev pub none : Tally
none = record { user = record { 0 = 0 }; f3 = record { 0 = 0 }; as_sent = record { 0 = 0 }; changed = record { 0 = 0 } }

abbrev pub counted_sent : Kind → Tally → Tally
counted_sent Idle t = t
counted_sent F3 t = record t { f3 = raised t.f3 1 }
counted_sent User t = record t { user = raised t.user 1 }

abbrev pub counted_up : Bool → Tally → Tally
counted_up true t = record t { as_sent = raised t.as_sent 1 }
counted_up false t = record t { changed = raised t.changed 1 }

abbrev pub as_sent : Option Cell → Cell → Bool
as_sent None c = false
as_sent (Some sent) c = bytes_eq (octets c) (octets sent)

unfoldable pub counted_all : Option Cell → List Cell → Tally → Tally
counted_all sent [] t = t
counted_all sent (c ∷ cs) t = counted_all sent cs (counted_up (as_sent sent c) t)

abbrev pub added : Tally → Tally → Tally
added t u = record {
  user = raised t.user u.user.0;
  f3 = raised t.f3 u.f3.0;
  as_sent = raised t.as_sent u.as_sent.0;
  changed = raised t.changed u.changed.0;
}

abbrev pub tally_text : Tally → List ℕ
tally_text t =
    codes "sent " ++ (decimal t.user.0 ++ (codes " user, " ++ (decimal t.f3.0
    ++ (codes " F3; up " ++ (decimal t.as_sent.0 ++ (codes " as sent, " ++ (decimal t.changed.0 ++ codes " changed")))))))
