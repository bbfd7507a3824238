use Rattle.relay_lane.proofs.Returning.{answers_are_returned}
use Rattle.relay_lane_tests.proofs.Losses.{each_is_lost}
use Rattle.relay_lane_tests.proofs.losing.empties.Goals as goal

pub returns : goal.returns
returns c =
    let x = c.drain.ensures.worked in
    record {
      turns = x.worked.turns;
      reached = x.worked.reached;
      lost = λ number a at. each_is_lost (λ v. v.flying) number a (answers_are_returned _ _ _ _ _ _ x.delivers.passes number a at);
    }
