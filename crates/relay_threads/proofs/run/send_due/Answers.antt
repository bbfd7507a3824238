use Rattle.std.proofs.Common.{◌∙◌, ap, sym, refl}
use Rattle.relay_lane.specs.Out.{out_of}
use Rattle.relay_lane.specs.Turns.{sends_only}
use Rattle.relay_threads.proofs.ToldOnce.{ticked_told, stays_told, works_told}
use Rattle.relay_threads.proofs.run.send_due.Goals as goal

pub send_ready-requires : goal.send_ready-requires
send_ready-requires g c = record { out = c.requires.out ∙ ap out_of (sym c.pass.ensures.ticked.reached) }

pub returns-in_err-send_ready-clause-told : goal.returns-in_err-send_ready-clause-told
returns-in_err-send_ready-clause-told g c =
    let d = g.W.Wire.describes c.args.wire.now in
    let fits = g.W.Wire.fits in
    let carries = g.W.Wire.carries in
    let v = c.args.wire.now in
    let s = c.args.lane.now.state in
    let t = c.pass.new.lane.state in
    stays_told d d fits carries v v c.send_ready.new.wire s t c.send_ready.new.lane.state refl (ticked_told d fits carries v s t c.pass.ensures.ticked)
    (works_told d fits carries sends_only v c.send_ready.new.wire t c.send_ready.new.lane.state c.send_ready.ensures.worked c.send_ready.ensures.stays)

pub returns-clause-told : goal.returns-clause-told
returns-clause-told g c =
    let d = g.W.Wire.describes c.args.wire.now in
    let fits = g.W.Wire.fits in
    let carries = g.W.Wire.carries in
    let v = c.args.wire.now in
    let s = c.args.lane.now.state in
    let t = c.pass.new.lane.state in
    stays_told d d fits carries v v c.send_ready.new.wire s t c.send_ready.new.lane.state refl (ticked_told d fits carries v s t c.pass.ensures.ticked)
    (works_told d fits carries sends_only v c.send_ready.new.wire t c.send_ready.new.lane.state c.send_ready.ensures.worked c.send_ready.ensures.stays)
