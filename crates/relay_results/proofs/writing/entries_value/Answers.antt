use Rattle.std.proofs.Common.{ap, ◌∙◌}
use Rattle.serde_json.specs.Data.{array}
use Rattle.serde_json.proofs.Views.{view-Array}
use Rattle.relay_results.proofs.ReadsBack.{all_written}
use Rattle.relay_results.proofs.writing.entries_value.Goals as goal

pub returns : goal.returns
returns c = view-Array c.loop-done.entries ∙ ap array (all_written c.loop-done.entries.items c.args.items.now c.loop-done.done-index c.loop-done-test.false c.loop-done.invariant)
