use Rattle.std.proofs.Common.{arith}
use Rattle.std.proofs.lemmas.Grind.{common_steps}
use Rattle.relay_stub.proofs.listing.add_writes.Goals as goal

pub writes-preserved : goal.writes-preserved
writes-preserved c = grind (arith, common_steps)
