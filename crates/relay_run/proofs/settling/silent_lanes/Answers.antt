use Rattle.std.proofs.Common.{ap, subst, sym, arith}
use Rattle.relay_keeping.specs.Tellers.{LaneState}
use Rattle.relay_run.specs.Saving.{AreUntold}
use Rattle.relay_run.proofs.Savers.{untold_push}
use Rattle.relay_run.proofs.settling.silent_lanes.Goals as goal

pub lanes-preserved : goal.lanes-preserved
lanes-preserved c =
    let i = c.lanes.invariant in
    let one = c.silent.ensures in
    record {
      count = omega (arith, i.count, c.in_ok-push.ensures.len);
      new =
          subst AreUntold (sym c.in_ok-push.ensures.items) (untold_push c.lanes.tellings.items c.silent.result i.new (ap (λ (v : LaneState). v.applied) one, ap (λ (v : LaneState). v.saved) one));
    }
