use Rattle.relay_resume.proofs.OneMark.{one_mark}
use Rattle.relay_resume.proofs.laws.marks_are_one.Goals as goal

pub returns : goal.returns
returns c = one_mark
