use Rattle.std.specs.Option.{option_to_list}
use Rattle.relay_threads.specs.Relay.{NoneOut}
use Rattle.relay_threads_tests.proofs.relays.gates.Given as goal

abbrev pub invariant-loop : goal.invariant-loop
invariant-loop g l = NoneOut (λ w. option_to_list w.wire.flying) l.wires.items
