use Rattle.relay_lane.proofs.Returning.{requests_are_given, answers_are_returned}
use Rattle.relay_lane.proofs.laws.answers_are_returned.Goals as goal

pub returns-clause-requests : goal.returns-clause-requests
returns-clause-requests g c = requests_are_given g.W.Wire.carries

pub returns-clause-answers : goal.returns-clause-answers
returns-clause-answers g c = answers_are_returned g.W.Wire.carries
