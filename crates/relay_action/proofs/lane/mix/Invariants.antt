use Rattle.std.proofs.Common.{◌≡◌, drop, fold}
use Rattle.relay_action.specs.Lanes.{fnv_step}
use Rattle.relay_action.proofs.lane.mix.Given as goal

-- the bytes to come give the hash of all
abbrev pub invariant-loop-byte : goal.invariant-loop-byte
invariant-loop-byte l = fold fnv_step l.mixed (drop l.byte-index l.bytes) ≡ fold fnv_step l.fn.hash l.bytes
