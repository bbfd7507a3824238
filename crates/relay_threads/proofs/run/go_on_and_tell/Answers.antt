use Rattle.relay_threads.proofs.ToldOnce.{goes_on_telling, goes_on_by}
use Rattle.relay_threads.proofs.run.go_on_and_tell.Goals as goal

pub returns-in_err-go_on-clause-told : goal.returns-in_err-go_on-clause-told
returns-in_err-go_on-clause-told g c heard = c.go_on.ensures.told (g.T.Tell.told c.args.tell.now) c.args.told.now heard

pub returns-clause-told : goal.returns-clause-told
returns-clause-told g c heard =
    let d = g.W.Wire.describes in
    let fits = g.W.Wire.fits in
    let carries = g.W.Wire.carries in
    let u = c.args.wire.now in
    let v = c.go_on.new.wire in
    let t = g.T.Tell.told c.args.tell.now in
    let last = g.T.Tell.told c.tell_all.new.tell in
    let k = c.args.told.now in
    let s = c.go_on.new.lane.state in
    goes_on_telling (d u) (d v) fits carries u v v t t last k k c.tell_all.new.told c.args.lane.now.state s c.tell_all.new.lane.state heard heard heard c.go_on.ensures.describes
    (c.go_on.ensures.told t k heard)
    (goes_on_by (d v) fits carries v t last k c.tell_all.new.told s c.tell_all.new.lane.state heard c.tell_all.ensures.state c.tell_all.ensures.told)
