use Rattle.std.proofs.Common.{◌≡◌, drop, ◌++◌, ◌∷◌, []}
use Rattle.relay_world.specs.State.{op_among, op_with, running}
use Rattle.relay_world.proofs.parts.Parts.op_with.Given as goal

-- what the incarnations that are left say of the version is what all of them say
abbrev pub invariant-ended : goal.invariant-ended
invariant-ended l = op_among l.self.config.deal (drop l.ended-index l.self.ended ++ running l.self ∷ []) l.lane l.version ≡ op_with l.self l.lane l.version
