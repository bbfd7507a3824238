use Rattle.std.proofs.Common.{refl, ◌∙◌}
use Rattle.std.proofs.lemmas.Result.{err_from_is_err_and}
use Rattle.relay_threads.proofs.ToldOnce.{fresh_told, told_on}
use Rattle.relay_threads.proofs.run.take_all.Goals as goal

pub messages-init : goal.messages-init
messages-init g c = record {
  queue = refl;
  senders = refl;
  out = c.requires.out;
  describes = refl;
  told = fresh_told (g.W.Wire.describes c.args.wire.now) g.W.Wire.fits g.W.Wire.carries c.args.wire.now (g.T.Tell.told c.args.tell.now) c.args.lane.now.state.config c.args.told.now c.args.lane.now.state c.args.take.now.taken c.requires.fresh c.requires.none_taken c.requires.none_told;
  destination = refl;
}

pub messages-preserved : goal.messages-preserved
messages-preserved g c =
    let i = c.messages.invariant in
    let d = g.W.Wire.describes in
    record {
      queue = c.take_next.ensures.same.0 ∙ i.queue;
      senders = c.take_next.ensures.same.1 ∙ i.senders;
      out = c.take_next.ensures.out;
      describes = c.take_next.ensures.describes ∙ i.describes;
      told =
          told_on (d c.args.wire.now) (d c.messages.wire) g.W.Wire.fits g.W.Wire.carries c.args.wire.now c.messages.wire c.take_next.new.wire c.args.lane.now.state.config (g.T.Tell.told c.args.tell.now) (g.T.Tell.told c.messages.tell) (g.T.Tell.told c.take_next.new.tell)
          c.messages.told c.take_next.new.told c.messages.lane.state c.take_next.new.lane.state c.messages.take.taken c.take_next.new.take.taken i.describes i.told c.in_ok-more.ensures.told;
      destination = c.take_next.ensures.destination ∙ i.destination;
    }

pub returns-in_err-more-clause-stopped : goal.returns-in_err-more-clause-stopped
returns-in_err-more-clause-stopped g c =
    let i = c.messages.invariant in
    let d = g.W.Wire.describes in
    let x = c.in_err-more.ensures.stopped in
    let p = err_from_is_err_and c.from_residual.result c.from_residual.ensures.1 in
    rw (p.1, p.2) (
      x.0,
      x.1,
      told_on (d c.args.wire.now) (d c.messages.wire) g.W.Wire.fits g.W.Wire.carries c.args.wire.now c.messages.wire c.take_next.new.wire c.args.lane.now.state.config (g.T.Tell.told c.args.tell.now) (g.T.Tell.told c.messages.tell) (g.T.Tell.told c.take_next.new.tell)
          c.messages.told c.take_next.new.told c.messages.lane.state c.take_next.new.lane.state c.messages.take.taken x.0 i.describes i.told x.2,
    )
