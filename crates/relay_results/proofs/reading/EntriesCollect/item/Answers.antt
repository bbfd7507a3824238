use Rattle.std.proofs.Common.{MatchOption, subst, sym}
use Rattle.relay_results.specs.Replies.{IsEntry, IsNoEntry}
use Rattle.relay_results.proofs.OneMore.{passes, adds, stops}
use Rattle.relay_results.proofs.reading.EntriesCollect.item.Goals as goal

pub returns-then-self-clause-ok : goal.returns-then-self-clause-ok
returns-then-self-clause-ok c =
    let read = c.in_ok-leaf.ensures.ok in
    let old = c.args.self.now in
    (read.0, read.1, λ ds h. passes ds old.outcomes.items read.0 old.has_bad c.if-self.true h)

pub returns-in_ok-map_err-in-Some-clause-ok : goal.returns-in_ok-map_err-in-Some-clause-ok
returns-in_ok-map_err-in-Some-clause-ok c =
    let read = c.in_ok-outcome.ensures.ok in
    let old = c.args.self.now in
    (read.0, read.1, λ ds h. adds ds old.outcomes.items c.push.new.self.items read.0 c.in-Some.outcome old.has_bad c.if-self.false (rw (sym c.in_ok-map_err-in-Some.ensures.variant) at c.push.ensures.items) (subst (λ r. MatchOption r (IsNoEntry read.0) (IsEntry read.0)) c.in-Some.is read.2) h)

pub returns-in-None-clause-ok : goal.returns-in-None-clause-ok
returns-in-None-clause-ok c =
    let read = c.in_ok-outcome.ensures.ok in
    let old = c.args.self.now in
    (read.0, read.1, λ ds h. stops ds old.outcomes.items read.0 old.has_bad c.if-self.false (subst (λ r. MatchOption r (IsNoEntry read.0) (IsEntry read.0)) c.in-None.is read.2) h)
