use Rattle.std.proofs.Common.{◌≡◌, ◌++◌, drop}
use Rattle.relay_front.specs.Asides.{set_aside}
use Rattle.relay_front.proofs.aside.aside_text.Given as goal

-- what is there and what is left is all that is set aside
abbrev pub invariant-items : goal.invariant-items
invariant-items l = l.text.items ++ set_aside (drop l.item-index l.items) l.puts l.rest ≡ set_aside l.items l.writes l.ends
