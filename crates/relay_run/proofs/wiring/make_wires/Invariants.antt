use Rattle.std.proofs.Common.{◌≡◌, vec_len}
use Rattle.std.specs.Prelude.{string_bytes}
use Rattle.relay_threads.specs.Relay.{NoneOut}
use Rattle.relay_wires.specs.Numbers.{numbers}
use Rattle.relay_run.specs.Wires.{AreNewWires}
use Rattle.relay_run.proofs.wiring.make_wires.Given as goal

abbrev pub invariant-lanes : goal.invariant-lanes
invariant-lanes l = record {
  count : vec_len l.wires ≡ l.lane;
  out : NoneOut (λ w. numbers w.out) l.wires.items;
  new : AreNewWires (string_bytes l.options.to) l.options.config.in_flight l.wires.items;
}
