use Rattle.std.specs.Option.{option_to_list}
use Rattle.relay_threads.specs.Relay.{NoneOut}
use Rattle.relay_telling_tests.proofs.relays.wires.Given as goal

abbrev pub invariant-loop-way : goal.invariant-loop-way
invariant-loop-way l = NoneOut (λ w. option_to_list w.flying) l.wires.items
