use Rattle.std.proofs.Common.{◌≡◌, ◌++◌, map, take}
use Rattle.relay_keeping.specs.Tellers.{name_of}
use Rattle.relay_keeping.proofs.tellers.note_all.Given as goal

abbrev pub invariant-successes : goal.invariant-successes
invariant-successes l = map (λ x. x.0) l.noted.items ≡ map (λ x. x.0) l.fn.noted.items ++ map name_of (take l.success-index l.successes)
