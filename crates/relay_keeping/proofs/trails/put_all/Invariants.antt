use Rattle.std.proofs.Common.{take}
use Rattle.relay_resume.specs.Trails.{History, IsOf}
use Rattle.relay_keeping.specs.Steps.{and_puts}
use Rattle.relay_keeping.proofs.trails.put_all.Given as goal

abbrev pub invariant-ends : goal.invariant-ends
invariant-ends l = (h : History) → IsOf h l.fn.trail → IsOf (and_puts (take l.end-index l.ends) h) l.trail
