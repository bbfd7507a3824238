use Rattle.relay_run.proofs.Writing.{begun_both}
use Rattle.relay_run.proofs.keeping.kept_of.Goals as goal

pub invariant_of-result : goal.invariant_of-result
invariant_of-result c =
    begun_both c.args.resumed c.args.marks c.in-Some-Some.state c.in-Some-Some.marks c.in-Some-Some.is-0 c.in-Some-Some.is-1 c.requires
