use Rattle.std.proofs.Common.{◌≡◌, arith}
use Rattle.relay_scenario.proofs.Whole.{no_config_on}
use Rattle.relay_scenario.proofs.playing.take_config.Goals as goal

pub returns-in-Err-clause-config : goal.returns-in-Err-clause-config
returns-in-Err-clause-config g c =
    let taken = rw c.if-not-branch.false at c.in_ok-take_line.ensures.line in
    let bad = rw c.text.ensures at c.in-Err.ensures.err in
    let count = taken.1 in
    let one : c.take_line.new.lines.count ≡ 1 = omega (arith, count, c.requires) in
    rw (c.fault_at.ensures, c.count.ensures) (no_config_on _ _ c.take_line.new.lines.count c.take_line.new.lines.text c.in-Err.fault taken.0 one bad)
