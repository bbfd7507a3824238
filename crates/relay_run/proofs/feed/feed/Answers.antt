use Rattle.std.proofs.Common.{ap, ◌∙◌}
use Rattle.relay_producer.specs.States.{ProducerState}
use Rattle.std.proofs.lemmas.Result.{err_from_is_err_and}
use Rattle.relay_run.proofs.Feeding.{fed_more, fed_fails, fed_ends, fed_stopped}
use Rattle.relay_run.proofs.feed.feed.Goals as goal

pub operations-preserved : goal.operations-preserved
operations-preserved g c =
    let next = rw c.in-Put.is at c.in_ok-feed_next.ensures.next in record {
      fed = fed_more _ _ _ _ _ _ _ _ _ c.operations.invariant.fed next;
      failed = c.in_ok-feed_next.ensures.failed ∙ c.operations.invariant.failed;
      same = c.in_ok-feed_next.ensures.same ∙ c.operations.invariant.same;
      producer = ap (λ (s : ProducerState). s.producer) next.0.4 ∙ c.operations.invariant.producer;
    }

pub returns-in-Ended-clause-feeds : goal.returns-in-Ended-clause-feeds
returns-in-Ended-clause-feeds g c =
    fed_ends _ _ _ _ _ _ _ _ _ _ c.in-Ended.is c.in_ok-feed_next.ensures.next c.operations.invariant.fed

pub returns-in_err-feed_next-clause-feeds : goal.returns-in_err-feed_next-clause-feeds
returns-in_err-feed_next-clause-feeds g c =
    let p = err_from_is_err_and c.from_residual.result c.from_residual.ensures.1 in
    rw (p.1, p.2) (fed_fails _ _ _ _ _ _ _ _ _ c.in_err-feed_next.field-0.0 c.in_err-feed_next.ensures.next c.operations.invariant.fed)

pub returns-in_err-feed_next-clause-asked : goal.returns-in_err-feed_next-clause-asked
returns-in_err-feed_next-clause-asked g c =
    let p = err_from_is_err_and c.from_residual.result c.from_residual.ensures.1 in
    rw (p.1, p.2) (λ is. absurd (c.in_err-feed_next.ensures.reads is))

pub returns-then-is_stopped-clause-feeds : goal.returns-then-is_stopped-clause-feeds
returns-then-is_stopped-clause-feeds g c = fed_stopped _ _ _ _ _ _ c.operations.invariant.fed
