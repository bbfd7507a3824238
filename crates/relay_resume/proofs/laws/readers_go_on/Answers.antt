use Rattle.relay_resume.proofs.Followed.{read_from_the_front, read_on, read_to_the_end, read_to_the_fault}
use Rattle.relay_resume.proofs.laws.readers_go_on.Goals as goal

pub returns-clause-front : goal.returns-clause-front
returns-clause-front c = read_from_the_front

pub returns-clause-end : goal.returns-clause-end
returns-clause-end c = read_to_the_end

pub returns-clause-fault : goal.returns-clause-fault
returns-clause-fault c = read_to_the_fault

pub returns-clause-on : goal.returns-clause-on
returns-clause-on c = read_on
