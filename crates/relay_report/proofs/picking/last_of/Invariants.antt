use Rattle.std.proofs.Common.{ℕ, ◌≤◌, ◌⊎◌, IsTrue, drop}
use Rattle.relay_report.specs.Picks.{is_named}
use Rattle.relay_report.proofs.picking.last_of.Given as goal

-- a number that is named is at most the last so far, or is named later
abbrev pub invariant-names : goal.invariant-names
invariant-names l = (k : ℕ) → IsTrue (is_named l.names l.producer k) → (k ≤ l.last) ⊎ IsTrue (is_named (drop l.name-index l.names) l.producer k)
