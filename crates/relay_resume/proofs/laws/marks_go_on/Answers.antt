use Rattle.relay_resume.proofs.Marked.{histories_come_after, hold_from_marks, hold_with_marks, marks_chain, marks_come_after}
use Rattle.relay_resume.proofs.laws.marks_go_on.Goals as goal

pub returns-clause-after : goal.returns-clause-after
returns-clause-after c = marks_come_after

pub returns-clause-history : goal.returns-clause-history
returns-clause-history c = histories_come_after

pub returns-clause-from : goal.returns-clause-from
returns-clause-from c = hold_from_marks

pub returns-clause-with_marks : goal.returns-clause-with_marks
returns-clause-with_marks c = hold_with_marks

pub returns-clause-chain : goal.returns-clause-chain
returns-clause-chain c = marks_chain
