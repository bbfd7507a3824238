use Rattle.std.proofs.Common.{◌≡◌, sym, ap, subst, ◌∙◌, arith}
use Rattle.std.specs.Prelude.{◌||◌}
use Rattle.std.proofs.lemmas.List.{take_all}
use Rattle.relay_run.specs.Saving.{SayFailed}
use Rattle.relay_run.proofs.Savers.{keep_on, failed_on}
use Rattle.relay_run.proofs.telling.have_failed.Goals.{then-has_failed, else-has_failed}
use Rattle.relay_run.proofs.telling.have_failed.Goals as goal

pub loop-tell-preserved : goal.loop-tell-preserved
loop-tell-preserved g c =
    let i = c.loop-tell.invariant in
    let one = c.has_failed.result in
    let before = c.loop-tell.failed in
    let new : c.if-has_failed.failed ≡ (one || before) = elim c.if-has_failed.branch [
      | then-has_failed w ↦ w.failed-is ∙ w.if-has_failed.true ∙ sym (ap (λ b. b || before) w.if-has_failed.true)
      | else-has_failed w ↦ w.failed-is ∙ sym (ap (λ b. b || before) w.if-has_failed.false)
    ] in
    record {
      failed = failed_on c.args.tells.now c.loop-tell.tell-index _ one before _ c.loop-tell-test.true c.tell-item.is i.failed c.has_failed.ensures.failed new;
      keep = keep_on c.args.tells.now c.loop-tell.tell-index _ c.loop-tell-test.true c.tell-item.is i.keep c.has_failed.ensures.keeps;
    }

pub returns-clause-failed : goal.returns-clause-failed
returns-clause-failed g c =
    subst (λ l. SayFailed l c.loop-tell.failed) (take_all c.loop-tell.tell-index c.args.tells.now (omega (arith, c.loop-tell-test.false))) c.loop-tell.invariant.failed
