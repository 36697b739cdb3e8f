use Rattle.std.proofs.Common.{◌≡◌, rules, arith, ◌∙◌, sym}
use Rattle.std.proofs.Output.{has_written_append, has_written_of_eq}
use Rattle.damaged_line.specs.Damage.{damage_text}
use Rattle.damaged_line.proofs.Marks.{marked_more, unmarked_more}
use Rattle.damaged_line.proofs.damage.DamageDisplay.fmt.Goals.{then-turns+in_ok-write, else-turns}
use Rattle.damaged_line.proofs.damage.DamageDisplay.fmt.Goals as goal

pub loop-bit-preserved : goal.loop-bit-preserved
loop-bit-preserved g c = λ plain.
    let d = c.args.self.now in
    let n = c.loop-bit.bit-counter in
    let before = c.loop-bit.invariant plain in
    elim c.if-turns.branch [
      | then-turns+in_ok-write w ↦ rw w.f-is
          (has_written_of_eq _ _ _ _ _ (marked_more d n (sym c.turns.ensures ∙ w.if-turns.true)) (has_written_append _ _ _ _ _ _ before (search rules)))
      | else-turns w ↦ rw w.f-is (has_written_of_eq _ _ _ _ _ (unmarked_more d n (sym c.turns.ensures ∙ w.if-turns.false)) before)
    ]

pub returns-clause-writes : goal.returns-clause-writes
unfolding damage_text
returns-clause-writes g c = λ plain _.
    let all : c.loop-bit.bit-counter ≡ 424 = omega arith in
    rw all at (c.loop-bit.invariant plain)
