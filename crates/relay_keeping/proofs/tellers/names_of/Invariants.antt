use Rattle.std.proofs.Common.{◌≡◌, map, take}
use Rattle.relay_keeping.specs.Tellers.{name_of}
use Rattle.relay_keeping.proofs.tellers.names_of.Given as goal

abbrev pub invariant-successes : goal.invariant-successes
invariant-successes l = l.names.items ≡ map name_of (take l.success-index l.successes)
