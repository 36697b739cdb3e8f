-- What is said of a header.
--
--   report_of n l  the report on the header l, received on line n: its own fields, connection and kind, its syndrome, and what is found out
--   right w n      the number n as it is printed, behind blanks where it has fewer than w digits
--   left w text    the text as it is printed, before blanks where it has fewer than w characters
--   received_text r, fields_text r, found_text r
--                  what is printed of the report r, in three parts, as octets of text
--   report_text r  all of that
use Rattle.std.specs.Prelude.{ℕ, ◌-◌, ◌^◌, false, List, [], ◌++◌, codes, decimal}
use Rattle.std.specs.Fmt.{format_spec, padded, padded_integral}
use Rattle.cell.specs.Header.{fields_of, connection_of, kind_of, kind_name}
use Rattle.cell.specs.LineHeader.{syndrome_of, octet_text, line_text}
use Rattle.cell.specs.Verdict.{verdict_of}
use Rattle.cell.specs.declared.line_header.LineHeader.{LineHeader}
use Rattle.captured_headers.specs.Finding.{finding_of, finding_text}
use Rattle.captured_headers.specs.declared.report.Report.{Report}

abbrev pub report_of : ℕ → LineHeader → Report
report_of n l =
    record {
      line_number = n;
      received = l;
      fields = fields_of l.header.0;
      connection = connection_of l.header.0;
      kind = kind_of l.header.0;
      syndrome = syndrome_of l;
      finding = finding_of l (verdict_of (syndrome_of l));
    }

abbrev pub right : ℕ → ℕ → List ℕ
right w n = padded_integral (format_spec 32 3 0 w (2 ^ 64 - 1)) false [] (decimal n)

abbrev pub left : ℕ → List ℕ → List ℕ
left w text = padded (format_spec 32 1 0 w (2 ^ 64 - 1)) text

abbrev pub received_text : Report → List ℕ
received_text r = right 5 r.line_number ++ (codes "  " ++ (line_text r.received ++ (codes "  " ++ (left 4 (kind_name r.kind) ++ codes "  "))))

abbrev pub fields_text : Report → List ℕ
fields_text r =
    codes "GFC " ++ (right 2 r.fields.gfc ++ (codes "  VPI " ++ (right 3 r.fields.vpi ++ (codes "  VCI " ++ (right 5 r.fields.vci
    ++ (codes "  PT " ++ (decimal r.fields.pt ++ (codes "  CLP " ++ (decimal r.fields.clp
    ++ (codes "  connection " ++ (right 8 r.connection ++ codes "  ")))))))))))

abbrev pub found_text : Report → List ℕ
found_text r = codes "syndrome " ++ (octet_text r.syndrome ++ (codes "  " ++ finding_text r.finding))

abbrev pub report_text : Report → List ℕ
report_text r = received_text r ++ (fields_text r ++ found_text r)
