use Rattle.std.proofs.Common.{sym}
use Rattle.relay_sift.proofs.Sifting.{read_advances}
use Rattle.relay_sift.proofs.sifted.Sifted.read_on.Goals as goal

pub returns-in-Ok-clause-ok : goal.returns-in-Ok-clause-ok
returns-in-Ok-clause-ok g c = let f = c.in-Ok.ensures.ok in rw (sym c.self.view_is) (read_advances _ _ f.0 _ _ f.1 f.2)
