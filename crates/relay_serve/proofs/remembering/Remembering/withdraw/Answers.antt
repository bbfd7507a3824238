use Rattle.std.proofs.Common.{subst, sym}
use Rattle.relay_results.specs.Words.{Mem}
use Rattle.relay_results.proofs.Lists.{Mem-left}
use Rattle.relay_serve.proofs.remembering.Remembering.withdraw.Goals as goal

pub returns-then-swap-ne-KEPT-clause-given : goal.returns-then-swap-ne-KEPT-clause-given
returns-then-swap-ne-KEPT-clause-given g c = λ e m. subst (Mem e) (sym c.pop.ensures.items) (Mem-left e c.pop.new.self.items _ m)
