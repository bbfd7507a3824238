use Rattle.std.proofs.Common.{Some, refl, sym, subst}
use Rattle.relay_keeping.specs.Tellers.{MaySay}
use Rattle.relay_keeping.specs.declared.told.Told.TheVariants.{Settled}
use Rattle.relay_keeping.proofs.Messages.{may_say}
use Rattle.relay_keeping.proofs.tellers.tell.Goals as goal

pub returns-clause-told : goal.returns-clause-told
returns-clause-told g c =
    subst (λ e. MaySay c.args.names.items e (Some c.tell.new.self)) (sym c.in-Some.is) (may_say c.tell.result c.in-Some.end c.tell.new.self (Settled c.args.names) c.args.names.items c.tell.ensures.told c.tell.ensures.gone refl)
