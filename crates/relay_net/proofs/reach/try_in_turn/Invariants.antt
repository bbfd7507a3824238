use Rattle.std.proofs.Common.{length}
use Rattle.std.specs.Net.ToAddrs.{host_addrs}
use Rattle.relay_net.specs.Waiting.{limit_nanos}
use Rattle.relay_net.proofs.Trying.{Trying}
use Rattle.relay_net.proofs.reach.try_in_turn.Given as goal

-- the addresses before those that are left were tried in turn and failed
abbrev pub invariant-tries : goal.invariant-tries
invariant-tries g l = Trying l.fn.name (limit_nanos l.fn.limit) (host_addrs l.initial.addresses) (host_addrs l.addresses) l.why (g.N.Reach.did l.fn.net) (g.N.Reach.did l.net)

abbrev pub decreases-tries : goal.decreases-tries
decreases-tries g l = length (host_addrs l.addresses)
