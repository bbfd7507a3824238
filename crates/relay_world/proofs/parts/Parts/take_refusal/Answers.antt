use Rattle.std.proofs.Common.{◌≡◌, Some, sym, ap, ◌∙◌}
use Rattle.relay_world.specs.State.{desk_at}
use Rattle.relay_core.specs.declared.config.RelayConfig.{RelayConfig}
use Rattle.relay_world.proofs.parts.Parts.take_refusal.Goals as goal

pub front_refusal-requires : goal.front_refusal-requires
front_refusal-requires c =
    let d : desk_at c.args.self.now c.args.lane ≡ Some c.in-Some.desk.now = sym c.in-Some.ensures in
    ap (λ (g : RelayConfig). g.max_held) ((c.config.ensures.kept.works c.args.lane c.in-Some.desk.now d).config ∙ sym c.config.ensures.config)
