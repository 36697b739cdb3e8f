use Rattle.std.proofs.Common.{◌-◌, ◌≤◌, length, sym, subst, rules}
use Rattle.std.specs.Io.KnownBytes.{Consumes}
use Rattle.command_line.proofs.Reading.{consumes_on, taken_on}
use Rattle.command_line.proofs.input.fill.Goals as goal

pub loop-filled-preserved : goal.loop-filled-preserved
loop-filled-preserved g c =
    let filled = c.loop-filled.filled in
    let some : c.in_ok-octets.octets ≤ length c.read.new.buf = search rules in
    let on = consumes_on _ _ _ _ _ c.loop-filled.invariant.read c.in_ok-octets.ensures.bytes.0 in
    let taken = taken_on filled c.in_ok-octets.octets (length c.loop-filled.place - filled) c.loop-filled.place c.read.new.buf c.loop-filled.invariant.within some in
    record {
      within = search rules;
      read = subst (λ octets. Consumes (g.R.Read.remaining c.args.input.now) (g.R.Read.remaining c.read.new.self) octets) (sym taken) on;
    }
