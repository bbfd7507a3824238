use Rattle.std.proofs.Common.{◌≡◌, ℕ, ◌||◌, drop}
use Rattle.std.specs.BTreeSet.{contains}
use Rattle.std.specs.Ordering.{nat_cmp}
use Rattle.relay_report.specs.Picks.{is_named}
use Rattle.relay_report.proofs.picking.numbers_of.Given as goal

-- a number is there or is named later exactly if it is named
abbrev pub invariant-names : goal.invariant-names
invariant-names l = (k : ℕ) → (contains nat_cmp l.numbers k || is_named (drop l.name-index l.names) l.producer k) ≡ is_named l.names l.producer k
