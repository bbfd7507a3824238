use Rattle.std.proofs.Common.{◌≡◌, drop, ◌++◌}
use Rattle.std.specs.Prelude.{option_map}
use Rattle.relay_world.specs.Refusals.{entries_from}
use Rattle.relay_world.proofs.parts.Parts.entries_for.Given as goal

-- what is left, with what was gathered before it, is all
abbrev pub invariant-items : goal.invariant-items
invariant-items l = entries_from l.self l.lane l.picks 0 l.items ≡ option_map (λ os. l.outcomes.items ++ os) (entries_from l.self l.lane l.picks l.place (drop l.place l.items))
