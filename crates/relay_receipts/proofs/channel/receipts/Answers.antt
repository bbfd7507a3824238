use Rattle.std.proofs.Common.{sym, subst}
use Rattle.crossbeam_channel.specs.Claims.{IsSeatAt}
use Rattle.relay_receipts.specs.Notices.{IsWellTaken}
use Rattle.relay_receipts.specs.Steps.{IsTaker, lanes_of, taken_of}
use Rattle.relay_receipts.proofs.Keeping.{begins, well_taken-nil}
use Rattle.relay_receipts.proofs.channel.receipts.Goals as goal

pub bounded_with-requires-clause-rule : goal.bounded_with-requires-clause-rule
bounded_with-requires-clause-rule g c = begins

pub invariant_of-take : goal.invariant_of-take
invariant_of-take g c =
    let known = c.loop-lane.invariant.known in (
      subst (λ ring. IsSeatAt ring c.loop-lane.pass) (sym c.in_ok-sends.ensures.0) c.loop-lane.invariant.seat,
      subst IsTaker (sym known) tt,
      subst (λ k. IsWellTaken (lanes_of k) (taken_of k)) (sym known) (well_taken-nil _),
    )
