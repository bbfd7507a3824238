use Rattle.relay_lane.proofs.Counting.{left_at_most, left_is_tries}
use Rattle.relay_lane.proofs.laws.requests_are_bounded.Goals as goal

pub returns-clause-most : goal.returns-clause-most
returns-clause-most c = left_at_most

pub returns-clause-tries : goal.returns-clause-tries
returns-clause-tries c = left_is_tries
