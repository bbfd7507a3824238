use Rattle.relay_threads.proofs.ToldOnce.{stays_told}
use Rattle.relay_threads.proofs.run.go_on.Goals as goal

pub returns-clause-told : goal.returns-clause-told
returns-clause-told g c =
    let d = g.W.Wire.describes in
    let u = c.args.wire.now in
    let v = c.settle_some.new.wire in
    stays_told (d u) (d v) g.W.Wire.fits g.W.Wire.carries u v c.send_due.new.wire c.args.lane.now.state c.settle_some.new.lane.state c.send_due.new.lane.state c.settle_some.ensures.describes c.settle_some.ensures.told c.send_due.ensures.told
