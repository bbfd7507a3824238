use Rattle.std.proofs.Common.{◌≡◌, ℕ, drop}
use Rattle.std.specs.BTreeMap.{get}
use Rattle.std.specs.Option.{option_or}
use Rattle.std.specs.Ordering.{nat_cmp}
use Rattle.relay_report.specs.Current.{name_at}
use Rattle.relay_report.proofs.keeping.names_by_number.Given as goal

-- a number has its last later name, or else the one that is there
abbrev pub invariant-names : goal.invariant-names
invariant-names l = (k : ℕ) → option_or (name_at (drop l.name-index l.names) l.producer k) (get nat_cmp l.numbers k) ≡ name_at l.names l.producer k
