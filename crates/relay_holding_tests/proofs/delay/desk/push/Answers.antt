use Rattle.std.proofs.Common.{◌+◌, ◌∙◌, sym, ap, refl, subst, arith}
use Rattle.relay_delay.specs.declared.entry.Entry.{Entry}
use Rattle.relay_delay.specs.Waiting.{Delays, has_version, insert}
use Rattle.relay_holding_tests.specs.DelayDesk.{AllUnder, IsApart}
use Rattle.relay_holding_tests.proofs.DelayUnder.{under_insert, under_more, under_fresh, apart_insert}
use Rattle.relay_holding_tests.proofs.delay.desk.push.Goals as goal

pub insert-requires-clause-fresh : goal.insert-requires-clause-fresh
insert-requires-clause-fresh c = ap (has_version c.args.desk.now.next) c.reserve_one.ensures.entries ∙ under_fresh c.args.desk.now.next c.args.desk.now.queue.entries c.args.desk.now.under

pub invariant_of-desk-2 : goal.invariant_of-desk-2
invariant_of-desk-2 c =
    let d = c.args.desk.now in
    let one : Entry = record { version = d.next; due = c.args.due; slot = c.args.slot } in
    let is = ap (λ (s : Delays). s.entries) c.insert.ensures ∙ ap (insert one) c.reserve_one.ensures.entries in
    record {
      under = subst (AllUnder (d.next + 1)) (sym is) (under_insert (d.next + 1) one d.queue.entries (omega arith) (under_more d.next d.queue.entries d.under));
      apart = subst (IsApart (d.next + 1) d.out) (sym is) (apart_insert d.next d.out one d.queue.entries refl d.apart);
    }
