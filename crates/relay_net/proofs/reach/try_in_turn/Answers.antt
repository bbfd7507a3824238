use Rattle.std.specs.Net.ToAddrs.{host_addrs}
use Rattle.relay_net.specs.Waiting.{limit_nanos}
use Rattle.relay_net.proofs.Trying.{fails, connects, all_failed}
use Rattle.relay_net.proofs.reach.try_in_turn.Goals as goal

-- src/reach.rt:124:27
pub returns-in-Ok-connect : goal.returns-in-Ok-connect
returns-in-Ok-connect g c = connects c.args.name.now (limit_nanos c.args.limit) (host_addrs c.in-Ok.found) (host_addrs c.tries.addresses)
    (host_addrs c.next_address.new.addresses) c.tries.why (g.N.Reach.did c.args.net.now) (g.N.Reach.did c.tries.net)
    (g.N.Reach.did c.connect.new.self) c.in-Some.address c.tries.invariant c.in-Some.ensures c.in-Ok-connect.ensures

-- src/reach.rt:122:5
pub tries-preserved : goal.tries-preserved
tries-preserved g c = fails c.args.name.now (limit_nanos c.args.limit) (host_addrs c.in-Ok.found) (host_addrs c.tries.addresses)
    (host_addrs c.next_address.new.addresses) c.tries.why (g.N.Reach.did c.args.net.now) (g.N.Reach.did c.tries.net)
    (g.N.Reach.did c.connect.new.self) c.in-Some.address c.in-Err-connect.reason c.tries.invariant c.in-Some.ensures
    c.in-Err-connect.ensures

-- src/reach.rt:109:1
pub returns : goal.returns
returns g c = all_failed c.args.name.now (limit_nanos c.args.limit) (host_addrs c.in-Ok.found) (host_addrs c.tries.addresses)
    c.tries.why (g.N.Reach.did c.args.net.now) (g.N.Reach.did c.tries.net) c.tries.invariant c.in_default.ensures
