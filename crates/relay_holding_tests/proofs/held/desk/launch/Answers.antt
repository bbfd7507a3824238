use Rattle.relay_holding_tests.proofs.HeldUnder.{under_launch}
use Rattle.relay_holding_tests.proofs.held.desk.launch.Goals as goal

pub invariant_of-desk : goal.invariant_of-desk
invariant_of-desk c = record {
  under = under_launch c.args.desk.now.next c.args.request c.args.place _ c.args.desk.now.held c.candidate.new.self c.launch.new.self c.in-Some.field-0
      c.candidate.ensures.same c.in-Some.ensures.found c.launch.ensures.list c.args.desk.now.under;
}
