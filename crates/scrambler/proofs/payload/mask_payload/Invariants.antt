-- The parts before this one are masked, each from its place on, and the others are as they were.
use Rattle.std.proofs.Common.{◌≡◌, ℕ, ◌+◌, ◌*◌, ◌^◌, ◌<◌, ◌≤◌, [], length, get_or}
use Rattle.scrambler.specs.Generator.{step, iterate}
use Rattle.scrambler.specs.Coding.{masked}
use Rattle.scrambler.proofs.payload.mask_payload.Given as goal

abbrev pub invariant-loop-part : goal.invariant-loop-part
invariant-loop-part l =
    (l.after < 2 ^ 31)
    × (l.after ≡ iterate (8 + 24 * l.part-index) step l.phase)
    × ((j : ℕ) → j < l.part-index → get_or l.part-items j [] ≡ masked (8 + 24 * j) l.phase (get_or l.initial.part-items j []))
    × (length l.part-items ≡ 16)
    × ((j : ℕ) → l.part-index ≤ j → get_or l.part-items j [] ≡ get_or l.initial.part-items j [])
