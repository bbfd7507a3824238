use Rattle.std.proofs.Common.{sym, ap, ◌∙◌, subst, rules}
use Rattle.relay_world.specs.Memory.{IsOpenIn}
use Rattle.relay_core.specs.declared.config.RelayConfig.{RelayConfig}
use Rattle.relay_world.proofs.Holding.{control_open}
use Rattle.relay_world.proofs.parts.Parts.tick.Goals as goal

pub post-requires : goal.post-requires
post-requires c =
    subst (λ p. IsOpenIn c.args.self.now p c.args.lane) (sym (ap (λ (g : RelayConfig). g.producers) c.config-control.ensures.config))
    (control_open c.args.self.now c.args.lane c.control_refusal.ensures.kept (sym c.control_refusal.ensures.value ∙ c.in_default.is))

pub returns-clause-ok : goal.returns-clause-ok
returns-clause-ok c = search rules
