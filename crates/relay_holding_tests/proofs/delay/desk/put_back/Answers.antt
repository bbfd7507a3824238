use Rattle.std.proofs.Common.{◌∙◌, sym, ap, subst}
use Rattle.relay_delay.specs.declared.entry.Entry.{Entry}
use Rattle.relay_delay.specs.Waiting.{Delays, insert}
use Rattle.relay_holding_tests.specs.DelayDesk.{AllUnder}
use Rattle.relay_holding_tests.proofs.DelayUnder.{under_insert, apart_out}
use Rattle.relay_holding_tests.proofs.delay.desk.put_back.Goals as goal

pub invariant_of-desk-2 : goal.invariant_of-desk-2
invariant_of-desk-2 c =
    let d = c.args.desk.now in
    let one : Entry = record { version = c.in-Some.one.version; due = c.args.due; slot = c.in-Some.one.slot } in
    let is = ap (λ (s : Delays). s.entries) c.insert.ensures ∙ ap (insert one) c.reserve_one.ensures.entries in
    let lt = (apart_out d.next d.out c.in-Some.one d.queue.entries c.in-Some.is d.apart).0 in
    record {
      under = subst (AllUnder d.next) (sym is) (under_insert d.next one d.queue.entries lt d.under);
      apart = tt;
    }
