use Rattle.std.proofs.Common.{arith}
use Rattle.relay_resume.proofs.Trailing.{noted_set}
use Rattle.relay_resume.proofs.trail.note.Goals as goal

pub returns : goal.returns
returns c = noted_set c.args.place c.args.noted.now.items (omega (arith, c.args.noted.now.ok.0, c.requires))
