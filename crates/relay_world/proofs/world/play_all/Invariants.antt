use Rattle.std.proofs.Common.{◌≡◌, ◌+◌, take}
use Rattle.relay_world.specs.Steps.{Plays, none_yet}
use Rattle.relay_world.proofs.world.play_all.Given as goal

abbrev pub invariant-events : goal.invariant-events
invariant-events l = record {
  plays : Plays l.initial.parts none_yet (take l.event-index l.events) l.end l.parts;
  counts : l.end.done + l.end.refused ≡ l.event-index;
}
