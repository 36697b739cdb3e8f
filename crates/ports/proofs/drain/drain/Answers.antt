use Rattle.std.proofs.Common.{[], ◌∷◌, ◌++◌, sym, ap, ◌∙◌, append_assoc, arith}
use Rattle.std.proofs.lemmas.List.{length_push}
use Rattle.ports.proofs.Drains.{moved_on, puts_push, puts_gain}
use Rattle.ports.proofs.drain.drain.Goals as goal

pub loop-moved-preserved : goal.loop-moved-preserved
loop-moved-preserved g c =
    let h = c.loop-moved.invariant in
    let m = moved_on _ _ _ _ c.in-Ok-true.field-0 c.in-Ok-true.field-0-test c.in-Ok-true.ensures in
    let puts = puts_push h.0 _ _ _ m.cell h.2 m.put in (
      h.0 ++ m.cell ∷ [],
      h.1 ∙ ap (λ xs. h.0 ++ xs) m.first ∙ sym (append_assoc h.0 (m.cell ∷ []) _),
      puts,
      puts_gain (h.0 ++ m.cell ∷ []) _ _ puts,
      omega (arith, length_push h.0 m.cell),
    )
