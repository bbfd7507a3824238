use Rattle.relay_holding_tests.proofs.DelayUnder.{under_taken, apart_taken}
use Rattle.relay_holding_tests.proofs.delay.desk.take.Goals as goal

pub invariant_of-desk : goal.invariant_of-desk
invariant_of-desk c =
    let d = c.args.desk.now in
    let t = c.take_due-desk in
    record {
      under = under_taken d.next t.result d.queue t.new.self t.ensures.left d.under;
      apart = apart_taken d.next t.result d.queue t.new.self t.ensures.first t.ensures.left d.under;
    }
