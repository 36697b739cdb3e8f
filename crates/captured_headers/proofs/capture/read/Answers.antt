use Rattle.std.proofs.Common.{◌≡◌, ◌+◌, length, get_or, drop, sym, ap, ◌∙◌, arith, Err}
use Rattle.std.proofs.lemmas.List.{at_drop_more, at_drop_all}
use Rattle.std.proofs.lemmas.Result.{err_from_is_err_and}
use Rattle.captured_headers.specs.Reading.{at_end}
use Rattle.captured_headers.proofs.Spelling.{read_from, told, read_fault}
use Rattle.captured_headers.proofs.capture.read.Goals as goal

pub returns-in_err-reading : goal.returns-in_err-reading
returns-in_err-reading c =
    let line = c.args.line.now in
    let n = c.loop-before.before in
    let r = c.loop-before.reading in
    let p = err_from_is_err_and c.from_residual.result c.from_residual.ensures.1 in
    told line c.from_residual.result
    (p.1
    ∙ sym (read_fault r n (get_or line n 0) (drop (n + 1) line) p.0 (ap Err p.2 ∙ c.in_err-reading.ensures))
    ∙ sym (at_drop_more (read_from r n) line n 0 c.loop-before-test.true)
    ∙ c.loop-before.invariant.same)

pub returns : goal.returns
returns c =
    let line = c.args.line.now in
    let n = c.loop-before.before in
    let r = c.loop-before.reading in
    let all : length line ≡ n = omega arith in
    told line c.end.result
    (c.end.ensures
    ∙ ap (at_end r) all
    ∙ sym (at_drop_all (read_from r n) line n c.loop-before-test.false)
    ∙ c.loop-before.invariant.same)
