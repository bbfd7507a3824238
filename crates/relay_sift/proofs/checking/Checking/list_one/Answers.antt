use Rattle.std.proofs.Common.{List, ℕ, Some, subst}
use Rattle.relay_sift.specs.Listing.{Writes, findings_of}
use Rattle.relay_sift.proofs.checking.Checking.list_one.Goals as goal

pub returns-in-Ok-clause-ok : goal.returns-in-Ok-clause-ok
returns-in-Ok-clause-ok g c = (
  subst (λ (l : List ℕ). Writes (findings_of l (Some c.args.fault)) (g.W.ByteStream.written c.args.out.now) (g.W.ByteStream.written c.write_fault.new.out)) c.first_line.ensures c.in-Ok.ensures.ok,
  c.add_fault.ensures,
)
