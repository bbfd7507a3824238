use Rattle.std.proofs.Common.{◌≡◌, drop}
use Rattle.std.specs.Prelude.{is_some}
use Rattle.relay_world.specs.Refusals.{entries_from}
use Rattle.relay_world.proofs.parts.Parts.have_runs.Given as goal

-- whether each of them has its run is whether each of those that are left has
abbrev pub invariant-items : goal.invariant-items
invariant-items l = is_some (entries_from l.self l.lane l.picks 0 l.items) ≡ is_some (entries_from l.self l.lane l.picks l.place (drop l.place l.items))
