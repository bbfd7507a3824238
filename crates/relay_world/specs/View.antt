-- How the parts of the world are read, and what always holds of them.
use Rattle.relay_world.specs.declared.parts.Parts.TheInside.{Inside}
use Rattle.relay_world.specs.State.{World}
use Rattle.relay_world.specs.Memory.{ArePartsOf}

abbrev pub world_of : Inside → World
world_of a = record {
  opening = a.opening.value;
  config = a.config;
  desks = a.desks.items;
  accepted = a.accepted.items;
  ended = a.ended.items;
  sent = a.sent.items;
  index = a.index;
  kept = a.names;
}

abbrev pub IsSound : Inside → Type 0
IsSound a = ArePartsOf (world_of a)
