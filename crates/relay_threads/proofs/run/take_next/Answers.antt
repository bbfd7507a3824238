use Rattle.std.proofs.lemmas.Result.{err_from_is_err_and}
use Rattle.relay_threads.specs.declared.lane_end.LaneEndKind.TheVariants.{Memory}
use Rattle.relay_threads.proofs.Hearing.{heard_all}
use Rattle.relay_threads.proofs.ToldOnce.{as_told, takes_some_told, goes_on_telling}
use Rattle.relay_threads.proofs.run.take_next.Goals as goal

pub returns-in_err-make_place-clause-stopped : goal.returns-in_err-make_place-clause-stopped
returns-in_err-make_place-clause-stopped g c =
    let p = err_from_is_err_and c.from_residual.result c.from_residual.ensures.1 in
    let a = c.args.take.now.taken in
    rw (p.1, p.2) (a, heard_all Memory a, c.make_place.ensures.told (g.T.Tell.told c.args.tell.now) c.args.told.now a)

pub returns-in_err-message-clause-stopped : goal.returns-in_err-message-clause-stopped
returns-in_err-message-clause-stopped g c =
    let p = err_from_is_err_and c.from_residual-in_err-message.result c.from_residual-in_err-message.ensures.1 in
    let d = g.W.Wire.describes in
    let fits = g.W.Wire.fits in
    let carries = g.W.Wire.carries in
    let a = c.args.take.now.taken in
    let u = c.args.wire.now in
    let v = c.make_place.new.wire in
    let x = g.T.Tell.told c.args.tell.now in
    let k = c.args.told.now in
    let s = c.make_place.new.lane.state in
    let t = c.take_message.new.lane.state in
    rw (p.1, p.2) (
      a,
      c.in_err-message.ensures.heard,
      goes_on_telling (d u) (d v) fits carries u v v x x x k k k c.args.lane.now.state s t a a a c.make_place.ensures.describes (c.make_place.ensures.told x k a) (as_told (d v) fits carries v s t c.in_err-message.ensures.unchanged x k a),
    )

pub returns-clause-told : goal.returns-clause-told
returns-clause-told g c =
    let d = g.W.Wire.describes in
    let fits = g.W.Wire.fits in
    let carries = g.W.Wire.carries in
    let u = c.args.wire.now in
    let v = c.make_place.new.wire in
    let w = c.go_on_and_tell.new.wire in
    let x = g.T.Tell.told c.args.tell.now in
    let k = c.args.told.now in
    let a = c.args.take.now.taken in
    let b = c.take_message.new.take.taken in
    let r = c.args.lane.now.state in
    let s = c.make_place.new.lane.state in
    let t = c.take_message.new.lane.state in
    goes_on_telling (d u) (d v) fits carries u v w x x (g.T.Tell.told c.go_on_and_tell.new.tell) k k c.go_on_and_tell.new.told r t c.go_on_and_tell.new.lane.state a b b c.make_place.ensures.describes
    (goes_on_telling (d u) (d v) fits carries u v v x x x k k k r s t a a b c.make_place.ensures.describes (c.make_place.ensures.told x k a) (takes_some_told (d v) fits carries v x k s t a b c.in_ok-message.message c.in_ok-message.ensures.takes c.in_ok-message.ensures.nothing))
    (c.go_on_and_tell.ensures.told b)

pub returns-in_err-go_on_and_tell-clause-stopped : goal.returns-in_err-go_on_and_tell-clause-stopped
returns-in_err-go_on_and_tell-clause-stopped g c =
    let p = err_from_is_err_and c.from_residual-in_err-go_on_and_tell.result c.from_residual-in_err-go_on_and_tell.ensures.1 in
    let d = g.W.Wire.describes in
    let fits = g.W.Wire.fits in
    let carries = g.W.Wire.carries in
    let u = c.args.wire.now in
    let v = c.make_place.new.wire in
    let w = c.go_on_and_tell.new.wire in
    let x = g.T.Tell.told c.args.tell.now in
    let k = c.args.told.now in
    let a = c.args.take.now.taken in
    let b = c.take_message.new.take.taken in
    let r = c.args.lane.now.state in
    let s = c.make_place.new.lane.state in
    let t = c.take_message.new.lane.state in
    rw (p.1, p.2) (
      b,
      heard_all Memory b,
      goes_on_telling (d u) (d v) fits carries u v w x x (g.T.Tell.told c.go_on_and_tell.new.tell) k k c.go_on_and_tell.new.told r t c.go_on_and_tell.new.lane.state a b b c.make_place.ensures.describes
          (goes_on_telling (d u) (d v) fits carries u v v x x x k k k r s t a a b c.make_place.ensures.describes (c.make_place.ensures.told x k a) (takes_some_told (d v) fits carries v x k s t a b c.in_ok-message.message c.in_ok-message.ensures.takes c.in_ok-message.ensures.nothing))
          (c.go_on_and_tell.ensures.told b),
    )

pub returns-then-may_gather-clause-told : goal.returns-then-may_gather-clause-told
returns-then-may_gather-clause-told g c =
    let d = g.W.Wire.describes in
    let fits = g.W.Wire.fits in
    let carries = g.W.Wire.carries in
    let u = c.args.wire.now in
    let v = c.make_place.new.wire in
    let x = g.T.Tell.told c.args.tell.now in
    let k = c.args.told.now in
    let a = c.args.take.now.taken in
    let b = c.take_message.new.take.taken in
    let r = c.args.lane.now.state in
    let s = c.make_place.new.lane.state in
    let t = c.take_message.new.lane.state in
    goes_on_telling (d u) (d v) fits carries u v v x x x k k k r s t a a b c.make_place.ensures.describes (c.make_place.ensures.told x k a) (takes_some_told (d v) fits carries v x k s t a b c.in_ok-message.message c.in_ok-message.ensures.takes c.in_ok-message.ensures.nothing)
