use Rattle.std.proofs.Common.{◌≡◌, ◌++◌, map, drop}
use Rattle.relay_report.specs.Keeping.{alive, mark_of}
use Rattle.relay_report.proofs.keeping.Keeping.current.Given as goal

-- those that are there, and then those that are left
abbrev pub invariant-loop-place : goal.invariant-loop-place
invariant-loop-place l =
    l.names.items ++ map (λ p. p.1) (alive (mark_of l.self.marks) l.place (drop l.place l.self.found.items))
    ≡ map (λ p. p.1) (alive (mark_of l.self.marks) 0 l.self.found.items)
