use Rattle.std.proofs.Common.{false}
use Rattle.relay_lane.specs.Turns.{holds_some}
use Rattle.relay_threads.proofs.Draining.{turned_told, drains_and_tells}
use Rattle.relay_threads.proofs.run.drain_turn.Goals as goal

pub returns-in_err-drain_next-clause-told : goal.returns-in_err-drain_next-clause-told
returns-in_err-drain_next-clause-told g c heard =
    turned_told (g.W.Wire.describes c.args.wire.now) g.W.Wire.fits g.W.Wire.carries holds_some false c.args.wire.now c.drain_next.new.wire c.args.lane.now.state c.drain_next.new.lane.state c.in_err-drain_next.ensures.turn c.drain_next.ensures.stays
    (g.T.Tell.told c.args.tell.now) c.args.told.now heard

pub returns-then-not-branch-clause-told : goal.returns-then-not-branch-clause-told
returns-then-not-branch-clause-told g c heard =
    turned_told (g.W.Wire.describes c.args.wire.now) g.W.Wire.fits g.W.Wire.carries holds_some c.in_ok-drain_next.field-0 c.args.wire.now c.drain_next.new.wire c.args.lane.now.state c.drain_next.new.lane.state c.in_ok-drain_next.ensures.turn c.drain_next.ensures.stays
    (g.T.Tell.told c.args.tell.now) c.args.told.now heard

pub returns-in_err-tell_all-clause-told : goal.returns-in_err-tell_all-clause-told
returns-in_err-tell_all-clause-told g c heard =
    let d = g.W.Wire.describes in
    let fits = g.W.Wire.fits in
    let carries = g.W.Wire.carries in
    let u = c.args.wire.now in
    let w = c.drain_next.new.wire in
    let s = c.args.lane.now.state in
    let t = c.drain_next.new.lane.state in
    let x = g.T.Tell.told c.args.tell.now in
    let k = c.args.told.now in
    drains_and_tells (d w) (d u) fits carries u w x x (g.T.Tell.told c.tell_all.new.tell) k k c.tell_all.new.told s t c.tell_all.new.lane.state heard c.drain_next.ensures.describes
    (turned_told (d u) fits carries holds_some c.in_ok-drain_next.field-0 u w s t c.in_ok-drain_next.ensures.turn c.drain_next.ensures.stays x k heard) c.tell_all.ensures.state c.tell_all.ensures.told

pub returns-clause-told : goal.returns-clause-told
returns-clause-told g c heard =
    let d = g.W.Wire.describes in
    let fits = g.W.Wire.fits in
    let carries = g.W.Wire.carries in
    let u = c.args.wire.now in
    let w = c.drain_next.new.wire in
    let s = c.args.lane.now.state in
    let t = c.drain_next.new.lane.state in
    let x = g.T.Tell.told c.args.tell.now in
    let k = c.args.told.now in
    drains_and_tells (d w) (d u) fits carries u w x x (g.T.Tell.told c.tell_all.new.tell) k k c.tell_all.new.told s t c.tell_all.new.lane.state heard c.drain_next.ensures.describes
    (turned_told (d u) fits carries holds_some c.in_ok-drain_next.field-0 u w s t c.in_ok-drain_next.ensures.turn c.drain_next.ensures.stays x k heard) c.tell_all.ensures.state c.tell_all.ensures.told
