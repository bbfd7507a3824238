use Rattle.std.proofs.Common.{ℕ, subst}
use Rattle.relay_threads.specs.Told.{AddsApplied}
use Rattle.relay_threads.proofs.ToldOnce.{tells_more, tells_applied}
use Rattle.relay_threads.proofs.run.tell_all.Goals as goal

pub returns-clause-told : goal.returns-clause-told
returns-clause-told g c =
    let first = g.T.Tell.told c.args.tell.now in
    let now = g.T.Tell.told c.applied.new.self in
    let s = c.args.lane.now.state in
    let t = c.forget_successes.new.self.state in
    let k = c.args.told.now in
    let adds = subst (λ xs. (p : ℕ) → AddsApplied p xs (first p) (now p)) c.successes.ensures c.applied.ensures.told in
    tells_more first now (g.T.Tell.told c.tell_reports.new.tell) k k c.tell_reports.new.told s t t
    (tells_applied first now k s t c.forget_successes.ensures.forgotten adds) c.tell_reports.ensures.told
