use Rattle.std.proofs.Common.{◌+◌, ◌∙◌, sym, subst, ap}
use Rattle.relay_held.specs.declared.kept.Kept.{Kept}
use Rattle.relay_held.specs.Queues.{AllUnder, Holding}
use Rattle.relay_holding_tests.proofs.HeldUnder.{under_push, under_either}
use Rattle.relay_holding_tests.proofs.held.desk.push.Goals as goal

pub invariant_of-desk : goal.invariant_of-desk
invariant_of-desk c = record {
  under = subst (AllUnder (c.args.desk.now.next + 1)) (sym c.in-Ok.ensures.ok) (under_push c.args.desk.now.next c.args.desk.now.held.list c.in-Some.one c.in-Some.ensures.0 c.args.desk.now.under);
}

pub invariant_of-desk-in-Err : goal.invariant_of-desk-in-Err
invariant_of-desk-in-Err c = record {
  under = under_either c.push-in-Err.result c.args.desk.now.next c.push.new.self c.push-in-Err.new.self c.in-Err.field-0.one
      (ap (λ (h : Kept). h.version) c.in-Err.ensures.back ∙ c.in-Some.ensures.0) c.push-in-Err.ensures.ok c.push-in-Err.ensures.unchanged
      (subst (λ (s : Holding). AllUnder c.args.desk.now.next s.list) (sym c.in-Err.ensures.unchanged) c.args.desk.now.under);
}
