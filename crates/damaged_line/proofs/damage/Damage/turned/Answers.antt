use Rattle.std.proofs.lemmas.List.FromFn.{fill_by_all}
use lib.Bits.{bit_xor}
use Rattle.std.proofs.Common.{ℕ, ◌≡◌, get_or, rules}
use Rattle.damaged_line.specs.Damage.{turned}
use Rattle.damaged_line.proofs.damage.Damage.turned.Goals as goal

pub returns : goal.returns
unfolding turned
returns c =
    let all : c.loop-i.i ≡ 53 = search rules in
    fill_by_all (λ (k : ℕ). bit_xor (get_or c.args.line.now k 0) (get_or c.args.self.now.marks k 0)) c.loop-i.damaged 53 0 c.loop-i.invariant.0
    (λ k h. c.loop-i.invariant.1 k (rw all h))
