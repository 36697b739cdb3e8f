use Rattle.std.proofs.Common.{◌≡◌, string_bytes, Ok, Err, sym, ◌∙◌, rules}
use Rattle.incoming_line.specs.Arguments.{taken}
use Rattle.incoming_line.proofs.Reading.{read_none, read_on, read_fault, by_word}
use Rattle.incoming_line.proofs.arguments.Arguments.parse.Goals as goal

pub returns-in_err-given : goal.returns-in_err-given
returns-in_err-given c =
    let at = c.loop-at.at-counter in
    let mapped : c.map_err.result ≡ by_word at c.take.result = search rules in
    let fault : by_word at c.take.result ≡ Err c.in_err-given.field-0.0 = sym mapped ∙ c.in_err-given.was in
    let left : c.from_residual.result ≡ Err c.in_err-given.field-0.0 = search rules in
    left
    ∙ read_fault string_bytes c.loop-at.given at c.args.words.now c.index-words-at.result c.as_str.result.now
    c.loop-at-test.true c.index-words-at.is c.as_str.ensures.value c.take.result c.in_err-given.field-0.0 c.take.ensures fault
    ∙ c.loop-at.invariant

pub loop-at-preserved : goal.loop-at-preserved
loop-at-preserved c =
    let took : Ok c.in_ok-given.given ≡ taken c.loop-at.given c.as_str.result.now = search rules in
    read_on string_bytes c.loop-at.given c.loop-at.at-counter c.args.words.now c.index-words-at.result c.as_str.result.now
    c.loop-at-test.true c.index-words-at.is c.as_str.ensures.value c.in_ok-given.given took
    ∙ c.loop-at.invariant

pub returns : goal.returns
returns c = read_none string_bytes c.loop-at.given c.loop-at.at-counter c.args.words.now c.loop-at-test.false ∙ c.loop-at.invariant
