use Rattle.std.proofs.Common.{◌≡◌, vec_len}
use Rattle.relay_threads.specs.Relay.{NoneOut}
use Rattle.relay_wires.specs.Numbers.{numbers}
use Rattle.relay_serve.proofs.wiring.make_wires.Given as goal

abbrev pub invariant-lanes : goal.invariant-lanes
invariant-lanes l = record {
  count : vec_len l.wires ≡ l.lane;
  out : NoneOut (λ w. numbers w.out) l.wires.items;
}
