use Rattle.std.proofs.Common.{◌≡◌, None, ◌+◌, get_or, drop, sym, ◌∙◌, rules}
use Rattle.std.proofs.lemmas.List.{at_drop_more, at_drop_all}
use Rattle.text.specs.Number.{base_of, pushed, value_from}
use Rattle.text.proofs.Digits.{value_on, value_stops, value_ends}
use Rattle.text.proofs.number.Radix.value.Goals as goal

pub returns-in_err-number : goal.returns-in_err-number
returns-in_err-number c =
    let base = base_of c.args.self in
    let digits = c.args.digits.now in
    let n = c.loop-octet.number in
    let i = c.loop-octet.octet-index in
    let stop : None ≡ pushed base n (get_or digits i 0) = search rules in
    let none : c.from_residual.result ≡ None = search rules in
    none
    ∙ sym (value_stops base n (get_or digits i 0) (drop (i + 1) digits) stop)
    ∙ sym (at_drop_more (value_from base n) digits i 0 c.loop-octet-test.true)
    ∙ c.loop-octet.invariant

pub loop-octet-preserved : goal.loop-octet-preserved
loop-octet-preserved c =
    let base = base_of c.args.self in
    let digits = c.args.digits.now in
    let n = c.loop-octet.number in
    let i = c.loop-octet.octet-index in
    sym (value_on base n (get_or digits i 0) (drop (i + 1) digits) c.in_ok-number.number (search rules))
    ∙ sym (at_drop_more (value_from base n) digits i 0 c.loop-octet-test.true)
    ∙ c.loop-octet.invariant

pub returns : goal.returns
returns c =
    let base = base_of c.args.self in
    let n = c.loop-octet.number in
    sym (value_ends base n)
    ∙ sym (at_drop_all (value_from base n) c.args.digits.now c.loop-octet.octet-index c.loop-octet-test.false)
    ∙ c.loop-octet.invariant
