-- What is said of a line of a capture.
--
--   Remark             a report on a header or nothing, or else a complaint
--   remark_of n r      of line n, which spells r
--   RemarkOn line n s  s is what is said of line as it came, with its line end, as line n
--   complaint_text c   what is printed of the complaint c, as octets of text
use Rattle.std.specs.Prelude.{◌≡◌, ℕ, List, ◌++◌, Some, None, Option, Ok, Err, Result, codes}
use Rattle.captured_headers.specs.Capture.{Spelt, Reads}
use Rattle.captured_headers.specs.LineEnd.{BodyOf}
use Rattle.captured_headers.specs.Fault.{text_of}
use Rattle.captured_headers.specs.Report.{report_of, right}
use Rattle.captured_headers.specs.declared.remark.Complaint.{Complaint}
use Rattle.captured_headers.specs.declared.report.Report.{Report}

abbrev pub Remark : Type 0
Remark = Result (Option Report) Complaint

abbrev pub remark_of : ℕ → Spelt → Remark
remark_of n (Ok None) = Ok None
remark_of n (Ok (Some l)) = Ok (Some (report_of n l))
remark_of n (Err f) = Err (record { line_number = n; fault = f })

pub record RemarkOn (line : List ℕ) (n : ℕ) (s : Remark) : Type 0 where
  pub body : List ℕ
  pub cut : BodyOf line body
  pub reading : Spelt
  pub reads : Reads body reading
  pub said : s ≡ remark_of n reading

abbrev pub complaint_text : Complaint → List ℕ
complaint_text c = right 5 c.line_number ++ (codes "  malformed: " ++ text_of c.fault)
