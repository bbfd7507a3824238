use Rattle.std.proofs.Common.{refl, ap, ◌∙◌}
use Rattle.std.specs.List.{list_all}
use Rattle.std.specs.Prelude.{Bool}
use Rattle.relay_threads.proofs.ToldOnce.{goes_on_telling}
use Rattle.relay_threads.proofs.run.drain_turns.Goals as goal

pub turns-init : goal.turns-init
turns-init g c = record { closed = refl; out = c.requires.out; describes = refl; told = λ heard first config start h. h; destination = refl }

pub drain_turn-requires-clause-closed : goal.drain_turn-requires-clause-closed
drain_turn-requires-clause-closed g c = ap (list_all (λ (b : Bool). b)) c.turns.invariant.closed ∙ c.requires.closed

pub turns-preserved : goal.turns-preserved
turns-preserved g c =
    let i = c.turns.invariant in
    let d = g.W.Wire.describes in
    record {
      closed = c.drain_turn.ensures.closed ∙ i.closed;
      out = c.drain_turn.ensures.out;
      describes = c.drain_turn.ensures.describes ∙ i.describes;
      told = λ heard.
          goes_on_telling (d c.args.wire.now) (d c.turns.wire) g.W.Wire.fits g.W.Wire.carries c.args.wire.now c.turns.wire c.drain_turn.new.wire (g.T.Tell.told c.args.tell.now) (g.T.Tell.told c.turns.tell) (g.T.Tell.told c.drain_turn.new.tell)
          c.args.told.now c.turns.told c.drain_turn.new.told c.args.lane.now.state c.turns.lane.state c.drain_turn.new.lane.state heard heard heard i.describes (i.told heard) (c.drain_turn.ensures.told heard);
      destination = c.drain_turn.ensures.destination ∙ i.destination;
    }

pub returns-then-not-branch-clause-told : goal.returns-then-not-branch-clause-told
returns-then-not-branch-clause-told g c heard =
    let i = c.turns.invariant in
    let d = g.W.Wire.describes in
    goes_on_telling (d c.args.wire.now) (d c.turns.wire) g.W.Wire.fits g.W.Wire.carries c.args.wire.now c.turns.wire c.drain_turn.new.wire (g.T.Tell.told c.args.tell.now) (g.T.Tell.told c.turns.tell) (g.T.Tell.told c.drain_turn.new.tell)
    c.args.told.now c.turns.told c.drain_turn.new.told c.args.lane.now.state c.turns.lane.state c.drain_turn.new.lane.state heard heard heard i.describes (i.told heard) (c.drain_turn.ensures.told heard)

pub returns-in_err-drain_turn-clause-told : goal.returns-in_err-drain_turn-clause-told
returns-in_err-drain_turn-clause-told g c heard =
    let i = c.turns.invariant in
    let d = g.W.Wire.describes in
    goes_on_telling (d c.args.wire.now) (d c.turns.wire) g.W.Wire.fits g.W.Wire.carries c.args.wire.now c.turns.wire c.drain_turn.new.wire (g.T.Tell.told c.args.tell.now) (g.T.Tell.told c.turns.tell) (g.T.Tell.told c.drain_turn.new.tell)
    c.args.told.now c.turns.told c.drain_turn.new.told c.args.lane.now.state c.turns.lane.state c.drain_turn.new.lane.state heard heard heard i.describes (i.told heard) (c.drain_turn.ensures.told heard)
