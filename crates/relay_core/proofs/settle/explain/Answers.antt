use Rattle.std.proofs.Common.{refl, sym, arith}
use Rattle.std.proofs.lemmas.List.{length-map}
use Rattle.relay_core.specs.Walk.{report_of}
use Rattle.relay_core.proofs.Explained.{none_there, other_there, set_there}
use Rattle.relay_core.proofs.settle.explain.Goals as goal

pub returns-then-place-len-clause-reports : goal.returns-then-place-len-clause-reports
returns-then-place-len-clause-reports c =
    let l = c.len.ensures in
    let t = c.if-place-len.true in
    let m = length-map c.args.reports.now.items report_of in
    sym (none_there c.args.given c.args.place _ (omega (arith, l, t, m)))

pub returns-in-Request-clause-reports : goal.returns-in-Request-clause-reports
returns-in-Request-clause-reports c =
    set_there c.args.given c.args.place c.args.reports.now.items c.index.result.now c.index_mut.result.now c.in-Request.status c.in-Request.reason
    c.index.ensures c.index_mut.ensures.value c.in-Request.is

pub returns-in_default : goal.returns-in_default
returns-in_default c =
    record {
      reports = other_there c.args.given c.args.place c.args.reports.now.items c.index.result.now c.index.ensures c.in_default.not-Request;
      len = refl;
      capacity = refl;
    }
