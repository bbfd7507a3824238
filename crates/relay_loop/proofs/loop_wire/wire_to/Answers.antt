use Rattle.relay_wires.proofs.Results.{by_cases}
use Rattle.std.proofs.Common.{string_bytes}
use Rattle.relay_loop.specs.Loops.{Opens}
use Rattle.relay_loop.proofs.Hearing.{opens}
use Rattle.relay_loop.proofs.loop_wire.wire_to.Goals as goal

pub returns-clause-opens : goal.returns-clause-opens
returns-clause-opens c = by_cases Opens _ c.new-2.result
    (λ w ok. opens w (string_bytes c.in_ok-host.host) c.args.max _ _ c.args.end (rw ok at c.new-2.ensures.begun))
    (λ e is. tt)
