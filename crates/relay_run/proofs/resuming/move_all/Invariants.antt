use Rattle.std.proofs.Common.{◌≡◌, length}
use Rattle.relay_run.specs.Written.{GivesMore, StillRead}
use Rattle.relay_run.proofs.resuming.move_all.Given as goal

abbrev pub invariant-loop-place : goal.invariant-loop-place
invariant-loop-place l = record {
  marks : GivesMore l.fn.marks l.marks;
  read : StillRead l.producers l.fn.marks l.marks l.fn.inputs.items l.inputs.items;
  count : length l.inputs.items ≡ length l.fn.inputs.items;
}
