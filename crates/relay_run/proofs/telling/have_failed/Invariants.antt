use Rattle.std.proofs.Common.{take}
use Rattle.relay_run.specs.Saving.{SayFailed, AllKeep}
use Rattle.relay_run.proofs.telling.have_failed.Given as goal

abbrev pub invariant-loop-tell : goal.invariant-loop-tell
invariant-loop-tell g l = record {
  failed : SayFailed (take l.tell-index l.tells) l.failed;
  keep : AllKeep (take l.tell-index l.tells);
}
