use Rattle.std.proofs.Common.{◌-◌, ◌^◌}
use Rattle.relay_scenario.proofs.Items.{AddsItemsBefore}
use Rattle.relay_scenario.proofs.answer.add_items.Given as goal

-- the items before this one were added
abbrev pub invariant-items : goal.invariant-items
invariant-items l = AddsItemsBefore l.world l.request l.item l.fn.line.items l.line.items

abbrev pub decreases-items : goal.decreases-items
decreases-items l = 2 ^ 64 - l.item
