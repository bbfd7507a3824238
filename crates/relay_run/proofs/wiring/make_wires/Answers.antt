use Rattle.std.proofs.Common.{ap, arith, ◌∙◌}
use Rattle.relay_wires.specs.Numbers.{numbers}
use Rattle.relay_common.proofs.Handing.{none_out_push}
use Rattle.relay_run.proofs.Handing.{new_wires_push}
use Rattle.relay_run.proofs.wiring.make_wires.Goals as goal

pub lanes-preserved : goal.lanes-preserved
lanes-preserved c =
    record {
      count = omega (arith, c.lanes.invariant.count, c.in_ok-push.ensures.len);
      out = rw c.in_ok-push.ensures.items (none_out_push (λ w. numbers w.out) _ c.in_ok-new.field-0 c.lanes.invariant.out (ap (λ w. numbers w.out) c.in_ok-new.ensures.begun));
      new = rw c.in_ok-push.ensures.items (new_wires_push _ _ _ c.in_ok-new.field-0 c.lanes.invariant.new (record {
        names = ap (λ w. w.host) c.in_ok-new.ensures.begun ∙ c.in_ok-from_str.ensures.ok ∙ c.as_str-to.ensures.value;
        most = ap (λ w. w.most) c.in_ok-new.ensures.begun;
        none_out = ap (λ w. w.out) c.in_ok-new.ensures.begun;
        none_free = ap (λ w. w.free) c.in_ok-new.ensures.begun;
      }));
    }
