use Rattle.std.proofs.Common.{◌≡◌, ◌+◌, ◌<◌, ◌≤◌, length, string_bytes, ap, sym, ◌∙◌, rules, Ok, Err}
use Rattle.outgoing_line.specs.Arguments.{alone, taken}
use Rattle.outgoing_line.proofs.Pairs.{read_none, read_one, read_on, read_fault, by_word}
use Rattle.outgoing_line.proofs.arguments.+read.Goals as goal

pub returns-in-empty : goal.returns-in-empty
returns-in-empty t c =
    let words = c.args.words.now in
    let none : length words < 1 = search rules in
    read_none _ _ _ words none

pub returns-in-len1 : goal.returns-in-len1
returns-in-len1 t c =
    let words = c.args.words.now in
    let some : 1 ≤ length words = search rules in
    let few : length words < 2 = search rules in
    read_one _ _ _ words c.name-item.result _ some few c.name-item.is (c.lacking.ensures ∙ ap alone c.as_str.ensures.value)

pub returns-in_ok-given-in-len2-up : goal.returns-in_ok-given-in-len2-up
returns-in_ok-given-in-len2-up t c =
    let words = c.args.words.now in
    let some : 2 ≤ length words = search rules in
    let took : Ok c.in_ok-given-in-len2-up.given ≡ taken c.args.given c.as_str-in-len2-up.result.now (c.args.at + 1) c.as_bytes.result.now = search rules in
    c.read.ensures
    ∙ read_on string_bytes c.args.given c.args.at words c.name-item-2.result c.value-item.result c.as_str-in-len2-up.result.now c.as_bytes.result.now c.in_ok-given-in-len2-up.given
    some c.name-item-2.is c.value-item.is c.as_str-in-len2-up.ensures.value c.as_bytes.ensures.value took

pub returns-in_err-given-in-len2-up : goal.returns-in_err-given-in-len2-up
returns-in_err-given-in-len2-up t c =
    let words = c.args.words.now in
    let some : 2 ≤ length words = search rules in
    let mapped : c.map_err.result ≡ by_word c.args.at c.take.result = search rules in
    let fault : by_word c.args.at c.take.result ≡ Err c.in_err-given-in-len2-up.field-0.0 = sym mapped ∙ c.in_err-given-in-len2-up.was in
    let left : c.from_residual.result ≡ Err c.in_err-given-in-len2-up.field-0.0 = search rules in
    left
    ∙ read_fault string_bytes c.args.given c.args.at words c.name-item-2.result c.value-item.result c.as_str-in-len2-up.result.now c.as_bytes.result.now c.take.result c.in_err-given-in-len2-up.field-0.0
    some c.name-item-2.is c.value-item.is c.as_str-in-len2-up.ensures.value c.as_bytes.ensures.value c.take.ensures fault
