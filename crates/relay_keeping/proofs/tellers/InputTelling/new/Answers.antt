use Rattle.relay_keeping.proofs.Places.{no_names}
use Rattle.relay_keeping.proofs.tellers.InputTelling.new.Goals as goal

pub invariant_of-result : goal.invariant_of-result
invariant_of-result c = no_names c.args.end.told c.requires
