use Rattle.std.proofs.Common.{◌≡◌, ◌≤◌, take, length, vec_len}
use Rattle.std.specs.Vec.{vec_capacity}
use Rattle.relay_results.specs.Done.{AreStatable}
use Rattle.relay_index.specs.Serving.{under, RunsAll}
use Rattle.relay_index.proofs.index.Index.run_all.Given as goal

abbrev pub invariant-writes : goal.invariant-writes
invariant-writes l = record {
  runs : RunsAll (under l.initial.self l.initial.script) (take l.write-index l.writes) l.items.items (under l.self l.script);
  statable : AreStatable l.items.items;
  counted : vec_len l.items ≡ l.write-index;
  room : length l.writes ≤ vec_capacity l.items;
}
