use Rattle.std.proofs.Common.{Ok}
use Rattle.relay_scenario.specs.Scripts.{Passes}
use Rattle.relay_scenario.proofs.ending.write_applied.Given as goal

-- some lines were passed on; no call has failed
abbrev pub invariant-writes : goal.invariant-writes
invariant-writes g l =
    let w = g.W.ByteStream in
    Passes l.fn.outgoing (w.written l.fn.writer) (w.failed l.fn.writer) l.outgoing (w.written l.writer) (w.failed l.writer) (Ok tt)
