use Rattle.std.proofs.Common.{◌≡◌, [], take}
use Rattle.relay_keeping.specs.Steps.{FollowAll, starts_of}
use Rattle.relay_keeping.proofs.trails.follow_from.Given as goal

abbrev pub invariant-starts : goal.invariant-starts
invariant-starts l = record {
  trails : FollowAll [] l.inputs.items;
  starts : starts_of l.inputs.items ≡ take l.start-index l.starts;
}
