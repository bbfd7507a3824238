use Rattle.std.proofs.Common.{sym, subst}
use Rattle.relay_held.specs.Queues.{AllUnder}
use Rattle.relay_held.specs.Operations.{back_at}
use Rattle.relay_held.proofs.Holding.{back_keeps}
use Rattle.relay_holding_tests.proofs.HeldUnder.{under_with}
use Rattle.relay_holding_tests.proofs.held.desk.land.Goals as goal

pub invariant_of-desk : goal.invariant_of-desk
invariant_of-desk c = record {
  under = subst (AllUnder c.args.desk.now.next) (sym c.land.ensures.list)
      (under_with c.args.desk.now.next c.args.write.key (back_at c.args.due c.args.write) c.args.desk.now.held.list (back_keeps c.args.due c.args.write) c.args.desk.now.under);
}
