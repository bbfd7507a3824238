use Rattle.std.proofs.Common.{◌+◌, ◌∙◌, ap, sym, refl}
use Rattle.std.specs.Prelude.{slice_get}
use Rattle.relay_core.specs.Walk.{report_of}
use Rattle.relay_threads.proofs.ToldOnce.{report_at, tells_more, tells_nothing, tells_report}
use Rattle.relay_threads.proofs.run.tell_reports.Goals as goal

pub loop-told-preserved : goal.loop-told-preserved
loop-told-preserved g c =
    let first = g.T.Tell.told c.args.tell.now in
    let now = g.T.Tell.told c.loop-told.tell in
    let next = g.T.Tell.told c.reported.new.self in
    let k = c.loop-told.told in
    let s = c.args.lane.now.state in
    let r = c.index-reports-told.result in
    let at = ap (λ rs. slice_get rs k) (sym c.reports-reports.ensures) ∙ report_at c.reports-reports.result.now k r c.loop-told-test.true c.index-reports-told.is in
    record {
      told = tells_more first now next c.args.told.now k (k + 1) s s s c.loop-told.invariant.told (tells_report now next k (k + 1) s (report_of r) at refl c.in_ok-reported.ensures.ok);
      destination = c.reported.ensures.destination ∙ c.loop-told.invariant.destination;
    }

pub returns-in_err-reported-clause-told : goal.returns-in_err-reported-clause-told
returns-in_err-reported-clause-told g c =
    let first = g.T.Tell.told c.args.tell.now in
    let now = g.T.Tell.told c.loop-told.tell in
    let next = g.T.Tell.told c.reported.new.self in
    let k = c.loop-told.told in
    let s = c.args.lane.now.state in
    tells_more first now next c.args.told.now k k s s s c.loop-told.invariant.told (tells_nothing now next k s c.in_err-reported.ensures.err)
