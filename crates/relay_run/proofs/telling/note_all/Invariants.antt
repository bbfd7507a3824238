use Rattle.std.proofs.Common.{◌≡◌, ◌++◌, map, take}
use Rattle.relay_run.proofs.telling.note_all.Given as goal

abbrev pub invariant-loop-success : goal.invariant-loop-success
invariant-loop-success l = map (λ x. x.0) l.noted.items ≡ map (λ x. x.0) l.fn.noted.items ++ take l.success-index l.successes
