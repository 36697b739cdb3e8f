-- All the laws, of everything that one receiving end hears.
use Rattle.std.proofs.Common.{List, subst}
use Rattle.tracker.specs.Tracker.{start}
use Rattle.receiver.specs.Handing.{Moment}
use Rattle.line.specs.Heard.{Heard}
use Rattle.line.specs.Laws.{Laws, LawsThroughout}
use Rattle.line.proofs.CodeLaws.{CodeLaws}
use Rattle.line.proofs.CodeFacts.{code_laws}
use Rattle.line.proofs.LawA.{cells_preceded}
use Rattle.line.proofs.LawB.{stream_gained}
use Rattle.line.proofs.LawC.{burst_survived}
use Rattle.line.proofs.Runs.{heard_front}
use Rattle.line.proofs.OneWrongBit.{one_bit_mended}
use Rattle.line.proofs.TwoWrongBits.{two_bits_discarded}

-- of any code that keeps the laws of the code
laws_from : CodeLaws → (all : List Moment) → Heard start all → Laws all
laws_from laws all heard = record {
  a = cells_preceded laws all;
  b = stream_gained laws all heard;
  six = burst_survived laws all heard;
  one = one_bit_mended laws all heard;
  two = two_bits_discarded laws all;
}

pub laws_hold : (all : List Moment) → Heard start all → Laws all
laws_hold all heard = laws_from code_laws all heard

pub laws_throughout : (all : List Moment) → Heard start all → LawsThroughout all
laws_throughout all heard sofar later is = laws_hold sofar (heard_front start sofar later (subst (Heard start) is heard))
