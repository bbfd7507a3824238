use Rattle.std.proofs.Common.{sym, subst}
use Rattle.relay_held.specs.Queues.{AllUnder}
use Rattle.relay_holding_tests.proofs.HeldUnder.{under_without}
use Rattle.relay_holding_tests.proofs.held.desk.take.Goals as goal

pub invariant_of-desk : goal.invariant_of-desk
invariant_of-desk c = record {
  under = subst (AllUnder c.args.desk.now.next) (sym c.take.ensures.list) (under_without c.args.desk.now.next c.args.key.now c.args.desk.now.held.list c.args.desk.now.under);
}
