use Rattle.std.proofs.Common.{arith}
use Rattle.relay_wires.specs.Numbers.{numbers}
use Rattle.relay_common.proofs.Handing.{none_out_push}
use Rattle.relay_serve.proofs.wiring.make_wires.Goals as goal

pub lanes-preserved : goal.lanes-preserved
lanes-preserved c = record {
  count = omega (arith, c.lanes.invariant.count, c.in_ok-push.ensures.len);
  out = rw c.in_ok-push.ensures.items (none_out_push (λ w. numbers w.out) _ _ c.lanes.invariant.out c.in_ok-make_wire.ensures);
}
