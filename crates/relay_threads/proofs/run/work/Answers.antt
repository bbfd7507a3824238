use Rattle.relay_threads.proofs.Ending.{ends_early, ends_drained}
use Rattle.relay_threads.proofs.Hearing.{heard_all}
use Rattle.relay_threads.proofs.ToldOnce.{told_on}
use Rattle.relay_threads.proofs.run.work.Goals as goal

pub returns-in-Ok-clause-told : goal.returns-in-Ok-clause-told
returns-in-Ok-clause-told g c =
    let t = c.take_all.new in
    let d = g.W.Wire.describes in (
      t.take.taken,
      heard_all c.drain_all.result t.take.taken,
      told_on (d c.args.wire.now) (d t.wire) g.W.Wire.fits g.W.Wire.carries c.args.wire.now t.wire c.drain_all.new.wire c.args.lane.now.state.config (g.T.Tell.told c.args.tell.now) (g.T.Tell.told t.tell) (g.T.Tell.told c.drain_all.new.tell)
          t.told c.drain_all.new.told t.lane.state c.drain_all.new.lane.state t.take.taken t.take.taken c.take_all.ensures.describes c.in-Ok.ensures.told (c.drain_all.ensures.told t.take.taken),
    )

pub returns-in-Err-clause-told : goal.returns-in-Err-clause-told
returns-in-Err-clause-told g c = c.in-Err.ensures.stopped

pub returns-in-Ok-clause-ends : goal.returns-in-Ok-clause-ends
returns-in-Ok-clause-ends g c =
    let t = c.take_all.new in
    let d = g.W.Wire.describes in
    let told =
    told_on (d c.args.wire.now) (d t.wire) g.W.Wire.fits g.W.Wire.carries c.args.wire.now t.wire c.drain_all.new.wire c.args.lane.now.state.config (g.T.Tell.told c.args.tell.now) (g.T.Tell.told t.tell) (g.T.Tell.told c.drain_all.new.tell)
    t.told c.drain_all.new.told t.lane.state c.drain_all.new.lane.state t.take.taken t.take.taken c.take_all.ensures.describes c.in-Ok.ensures.told (c.drain_all.ensures.told t.take.taken) in
    ends_drained (d c.args.wire.now) g.W.Wire.fits g.W.Wire.carries c.args.wire.now c.drain_all.new.wire c.args.lane.now.state.config t.take.taken c.drain_all.result t.lane.state c.drain_all.new.lane.state
    told.course c.in-Ok.ensures.closed c.drain_all.ensures.closed c.drain_all.ensures.none c.drain_all.ensures.early

pub returns-in-Err-clause-ends : goal.returns-in-Err-clause-ends
returns-in-Err-clause-ends g c =
    let t = c.take_all.new in
    let x = c.in-Err.ensures.stopped in
    ends_early (g.W.Wire.describes c.args.wire.now) g.W.Wire.fits g.W.Wire.carries c.args.wire.now t.wire c.args.lane.now.state.config t.take.taken c.in-Err.kind t.lane.state c.in-Err.ensures.early c.in-Err.ensures.not_closed x.0 x.1 x.2.course
