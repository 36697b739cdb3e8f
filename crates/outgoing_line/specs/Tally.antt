-- Counts of what was read and sent. Each counter stops at its top, 2^64 - 1.
--
--   none                nothing is counted yet
--   counted_cell k t    the tally t with one cell more of kind k; the other counters stay
--   counted_octets n t  the tally t with n octets more that were read
--   tally_text t        what is printed of the tally t, as octets of text
use Rattle.std.specs.Prelude.{ℕ, ◌+◌, List, ◌++◌, codes, decimal}
use Rattle.std.specs.Io.Iter.{u64_saturate}
use Rattle.cell.specs.declared.header.Kind.{Kind}
use Rattle.cell.specs.declared.header.Kind.TheVariants.{Idle, F3, User}
use Rattle.outgoing_line.specs.declared.tally.Tally.{Tally}

abbrev pub none : Tally
none = record { octets = 0; idle = 0; f3 = 0; user = 0 }

abbrev pub counted_cell : Kind → Tally → Tally
counted_cell Idle t = record t { idle = u64_saturate (t.idle + 1) }
counted_cell F3 t = record t { f3 = u64_saturate (t.f3 + 1) }
counted_cell User t = record t { user = u64_saturate (t.user + 1) }

abbrev pub counted_octets : ℕ → Tally → Tally
counted_octets n t = record t { octets = u64_saturate (t.octets + n) }

unfoldable pub tally_text : Tally → List ℕ
tally_text t =
    codes "octets read " ++ (decimal t.octets ++ (codes "; cells sent: idle " ++ (decimal t.idle
    ++ (codes ", F3 " ++ (decimal t.f3 ++ (codes ", user " ++ decimal t.user))))))
