use Rattle.std.proofs.Common.{◌≡◌, take}
use Rattle.std.specs.Prelude.{map}
use Rattle.serde_json.specs.View.{view}
use Rattle.relay_results.specs.Done.{entry_data}
use Rattle.relay_results.proofs.writing.entries_value.Given as goal

-- the entries so far
abbrev pub invariant-loop-done : goal.invariant-loop-done
invariant-loop-done l = map view l.entries.items ≡ map entry_data (take l.done-index l.items)
