use Rattle.relay_scenario.proofs.Items.{adds_more, adds_all, is_none}
use Rattle.relay_scenario.proofs.answer.add_items.Goals as goal

pub items-preserved : goal.items-preserved
items-preserved c = adds_more c.args.world.now c.args.request c.items.item _ _ _ c.in-Some.key.now c.in-Some.version c.items.invariant c.in-Some.ensures.write c.in_ok-add_item.ensures

pub returns : goal.returns
returns c = adds_all c.args.world.now c.args.request c.items.item _ _ c.items.invariant (is_none _ c.in_default.ensures.found)
