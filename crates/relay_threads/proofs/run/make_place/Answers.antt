use Rattle.std.proofs.Common.{refl}
use Rattle.relay_core.specs.State.{after_flush}
use Rattle.relay_lane.specs.Turns.{is_full}
use Rattle.relay_threads.proofs.ToldOnce.{flushed_told, stays_told, works_told}
use Rattle.relay_threads.proofs.run.make_place.Goals as goal

pub returns-clause-told : goal.returns-clause-told
returns-clause-told g c =
    let d = g.W.Wire.describes c.args.wire.now in
    let fits = g.W.Wire.fits in
    let carries = g.W.Wire.carries in
    let v = c.args.wire.now in
    let w = c.make_room.new.wire in
    let s = c.args.lane.now.state in
    let t = c.make_room.new.lane.state in
    stays_told d d fits carries v v w s (after_flush s) t refl (flushed_told d fits carries v s) (works_told d fits carries is_full v w (after_flush s) t c.make_room.ensures.worked (record { config = c.make_room.ensures.stays.config; closed = c.make_room.ensures.stays.closed; taken = c.make_room.ensures.stays.taken }))
