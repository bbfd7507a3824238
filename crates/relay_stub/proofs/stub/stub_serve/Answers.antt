use Rattle.std.proofs.Common.{◌≡◌, subst, arith, rules}
use Rattle.relay_index.specs.Serving.{under}
use Rattle.relay_stub.specs.Visits.{VisitsAll}
use Rattle.relay_stub.proofs.Counting.{count_after}
use Rattle.relay_stub.proofs.stub.stub_serve.Goals as goal

pub returns-clause-accepted : goal.returns-clause-accepted
returns-clause-accepted g c room =
    let shows = g.L.Listen.shows in
    let from = shows c.args.listener.now in
    let to = shows c.loop-served.listener in
    let old = under c.args.index.now c.args.script.now in
    let new = under c.loop-served.index c.loop-served.script in
    let all : c.loop-served.served ≡ c.args.requests = omega (arith, c.loop-served.invariant.within, c.loop-served-test.false) in
    count_after c.args.requests from to old new (subst (λ n. VisitsAll n from old to new) all c.loop-served.invariant.visits) room

pub loop-served-init : goal.loop-served-init
loop-served-init c = search rules
