use Rattle.std.proofs.Common.{rules, ap, ◌∙◌, ◌∷◌}
use Rattle.std.specs.Prelude.{IsTrue}
use Rattle.relay_action.specs.Streams.{one_more}
use Rattle.relay_epoch.specs.Faults.{may_pass}
use Rattle.relay_epoch.proofs.Trying.{one_more_try}
use Rattle.relay_epoch.proofs.leasing.try_all.Goals as goal

pub tries-preserved-else-not-again : goal.tries-preserved-else-not-again
tries-preserved-else-not-again g c =
    let show = g.S.ByteStream in
    let so_far = c.tries.invariant in
    let passes : IsTrue (may_pass c.try_once-outcome.result) = search rules in
    let more = one_more_try show.left show.written show.failed c.args.message.now c.try_once-outcome.result so_far.0 passes c.try_once-outcome.ensures.tried so_far.1 in
    (more.0 ∷ so_far.0, more.1, c.try_once-outcome.ensures.call ∙ ap one_more so_far.2)

pub tries-preserved-else-not-again-2 : goal.tries-preserved-else-not-again-2
tries-preserved-else-not-again-2 g c =
    let show = g.S.ByteStream in
    let so_far = c.tries.invariant in
    let passes : IsTrue (may_pass c.try_once-outcome.result) = search rules in
    let more = one_more_try show.left show.written show.failed c.args.message.now c.try_once-outcome.result so_far.0 passes c.try_once-outcome.ensures.tried so_far.1 in
    (more.0 ∷ so_far.0, more.1, c.try_once-outcome.ensures.call ∙ ap one_more so_far.2)

pub tries-preserved-else-not-again-3 : goal.tries-preserved-else-not-again-3
tries-preserved-else-not-again-3 g c =
    let show = g.S.ByteStream in
    let so_far = c.tries.invariant in
    let passes : IsTrue (may_pass c.try_once-outcome.result) = search rules in
    let more = one_more_try show.left show.written show.failed c.args.message.now c.try_once-outcome.result so_far.0 passes c.try_once-outcome.ensures.tried so_far.1 in
    (more.0 ∷ so_far.0, more.1, c.try_once-outcome.ensures.call ∙ ap one_more so_far.2)
