use Rattle.std.proofs.Common.{◌≡◌, length, take}
use Rattle.relay_run.proofs.Numbers.{HasCounts}
use Rattle.relay_run.proofs.numbering.Numbering.of.Given as goal

-- the counts of the first marks were written
abbrev pub invariant-starts : goal.invariant-starts
invariant-starts l = record {
  room : length l.before ≡ 16;
  counts : HasCounts l.before (take l.place l.starts);
}
