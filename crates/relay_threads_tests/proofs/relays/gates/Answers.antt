use Rattle.std.proofs.Common.{ap}
use Rattle.std.specs.Option.{option_to_list}
use Rattle.relay_threads_tests.proofs.Naming.{none_pushed}
use Rattle.relay_threads_tests.proofs.relays.gates.Goals as goal

pub loop-preserved : goal.loop-preserved
loop-preserved g c =
    none_pushed (λ w. option_to_list w.wire.flying) c.loop.wires.items c.gate_of.result c.push.new.self.items c.loop.invariant (ap option_to_list c.gate_of.ensures) c.in_ok-push.ensures.items
