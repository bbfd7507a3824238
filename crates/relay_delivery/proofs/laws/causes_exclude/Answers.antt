use Rattle.relay_delivery.proofs.Excluded.{settled, without_status, without_error, without_reason, not_after_two, no_unstated, not_busy, not_unsent, not_unanswered, not_without_reason, not_retried, not_for_halves, not_when_halved, no_conflict}
use Rattle.relay_delivery.proofs.laws.causes_exclude.Goals as goal

pub returns-clause-settled : goal.returns-clause-settled
returns-clause-settled c = settled

pub returns-clause-status : goal.returns-clause-status
returns-clause-status c = without_status

pub returns-clause-error : goal.returns-clause-error
returns-clause-error c = without_error

pub returns-clause-busy : goal.returns-clause-busy
returns-clause-busy c = not_busy

pub returns-clause-unsent : goal.returns-clause-unsent
returns-clause-unsent c = not_unsent

pub returns-clause-unanswered : goal.returns-clause-unanswered
returns-clause-unanswered c = not_unanswered

pub returns-clause-without_given : goal.returns-clause-without_given
returns-clause-without_given c = not_without_reason

pub returns-clause-retried : goal.returns-clause-retried
returns-clause-retried c = not_retried

pub returns-clause-no_conflict : goal.returns-clause-no_conflict
returns-clause-no_conflict c = no_conflict

pub returns-clause-halves : goal.returns-clause-halves
returns-clause-halves c = not_for_halves

pub returns-clause-halved : goal.returns-clause-halved
returns-clause-halved c = not_when_halved

pub returns-clause-reason : goal.returns-clause-reason
returns-clause-reason c = without_reason

pub returns-clause-unstated : goal.returns-clause-unstated
returns-clause-unstated c = no_unstated

pub returns-clause-two_sends : goal.returns-clause-two_sends
returns-clause-two_sends c = not_after_two
