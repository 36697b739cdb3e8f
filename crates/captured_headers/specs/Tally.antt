-- Counts over a capture. Each counter stops at its top, 2^64 - 1.
--
--   raised n            the counter n, one up, if it is not at its top
--   counted_header f t  the tally t with one header more, found to be f
--   counted s t         the tally t with a line of which s is said
--   headers_in t        headers of any finding
--   tally_text t        what is printed of the tally t, as octets of text
use Rattle.std.specs.Prelude.{ℕ, ◌+◌, List, ◌++◌, Some, None, Ok, Err, codes, decimal}
use Rattle.std.specs.Io.Iter.{u64_saturate}
use Rattle.std.specs.declared.num.Saturating.{Saturating}
use Rattle.captured_headers.specs.Remark.{Remark}
use Rattle.captured_headers.specs.declared.finding.Finding.{Finding}
use Rattle.captured_headers.specs.declared.finding.Finding.TheVariants.{Clean, OneWrongBit, PastMending}
use Rattle.captured_headers.specs.declared.tally.Tally.{Tally}

abbrev pub raised : Saturating ℕ → Saturating ℕ
raised n = record { 0 = u64_saturate (n.0 + 1) }

abbrev pub counted_header : Finding → Tally → Tally
counted_header Clean t = record t { clean = raised t.clean }
counted_header (OneWrongBit i l k) t = record t { one_wrong_bit = raised t.one_wrong_bit }
counted_header PastMending t = record t { past_mending = raised t.past_mending }

abbrev pub counted : Remark → Tally → Tally
counted (Ok None) t = t
counted (Ok (Some r)) t = counted_header r.finding t
counted (Err c) t = record t { malformed = raised t.malformed }

abbrev pub headers_in : Tally → ℕ
headers_in t = u64_saturate (t.clean.0 + t.one_wrong_bit.0 + t.past_mending.0)

abbrev pub tally_text : Tally → List ℕ
tally_text t =
    codes "headers " ++ (decimal (headers_in t) ++ (codes ": clean " ++ (decimal t.clean.0
    ++ (codes ", one wrong bit " ++ (decimal t.one_wrong_bit.0 ++ (codes ", past mending " ++ (decimal t.past_mending.0
    ++ (codes "; malformed lines " ++ decimal t.malformed.0))))))))
