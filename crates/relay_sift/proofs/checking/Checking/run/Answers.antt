use Rattle.std.proofs.Common.{ap, sym, subst, ◌∙◌, ℕ}
use Rattle.relay_sift.specs.Listing.{Lists, Survey, findings_in}
use Rattle.relay_sift.proofs.Listing.{checks_more, last_step, next_step, lists_when}
use Rattle.relay_sift.proofs.checking.Checking.run.Goals as goal

pub returns-then-not-more-clause-ok : goal.returns-then-not-more-clause-ok
returns-then-not-more-clause-ok g c = λ text at.
    let i = c.steps.invariant in
    let last = last_step c.in-Ok.more _ _ _ _ c.steps.self c.step.new.self c.if-not-more.true c.in-Ok.ensures.ok in
    let all = checks_more _ _ _ _ _ _ _ _ _ i.0 last in
    let n = ap (λ (s : Survey). s.faults) c.self.view_is in
    subst (λ (m : ℕ). Lists (findings_in c.args.self.now.default text) (g.W.ByteStream.written c.args.out.now) (g.W.ByteStream.written c.step.new.out) m) (sym n) (lists_when c.args.self.now _ _ _ _ _ c.requires all text at)

pub steps-preserved : goal.steps-preserved
steps-preserved g c =
    let i = c.steps.invariant in
    let next = next_step c.in-Ok.more _ _ _ _ c.steps.self c.step.new.self c.if-not-more.false c.in-Ok.ensures.ok in
    let failed = c.in-Ok.ensures.failed in (checks_more _ _ _ _ _ _ _ _ _ i.0 next.0, next.1, failed.0 ∙ i.2, failed.1 ∙ i.3)
