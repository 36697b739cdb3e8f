use Rattle.std.proofs.Common.{◌<◌, sym, arith}
use native.Mathlib.Nat.{div-eq_of_lt}
use lib.Pow.{pow-lt}
use Rattle.cell.proofs.line_header.place.Goals as goal

pub returns-else-bit-lt-LINE_HEADER_BITS : goal.returns-else-bit-lt-LINE_HEADER_BITS
returns-else-bit-lt-LINE_HEADER_BITS c = let h : 39 < c.args.bit = omega arith in sym (div-eq_of_lt (pow-lt h))
