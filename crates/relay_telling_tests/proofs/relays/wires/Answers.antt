use Rattle.std.proofs.Common.{ap}
use Rattle.std.specs.Option.{option_to_list}
use Rattle.relay_telling_tests.proofs.Naming.{none_pushed}
use Rattle.relay_telling_tests.proofs.relays.wires.Goals as goal

pub loop-way-preserved : goal.loop-way-preserved
loop-way-preserved c =
    none_pushed (λ w. option_to_list w.flying) c.loop-way.wires.items c.wire_of.result c.push.new.self.items c.loop-way.invariant (ap option_to_list c.wire_of.ensures) c.in_ok-push.ensures.items
