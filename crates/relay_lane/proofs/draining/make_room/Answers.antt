use Rattle.std.proofs.Common.{◌≡◌, ℕ, ◌<◌, ◌≤◌, sym, ap, ◌∙◌, subst, length}
use Rattle.std.specs.Prelude.{OnOk, OnErr}
use Rattle.relay_core.specs.declared.config.RelayConfig.{RelayConfig}
use Rattle.relay_core.specs.State.{State, after_flush}
use Rattle.relay_lane.specs.Turns.{Worked, holds}
use Rattle.relay_lane.specs.Steps.{IsPressed}
use Rattle.relay_lane.specs.Delivers.{WorkedOn}
use Rattle.relay_lane.proofs.Flushing.{flushed_pressed, worked_config, worked_full}
use Rattle.relay_lane.proofs.draining.make_room.Goals as goal

pub work-requires-clause-pressed : goal.work-requires-clause-pressed
work-requires-clause-pressed g c = subst IsPressed (sym c.flush.ensures.flushed) (flushed_pressed c.args.lane.now.state c.totals.ensures.lane)

-- the config of a lane that worked is the one that it had
the_same : (n : ℕ) (s u t : State) → n ≡ s.config.max_held → u ≡ after_flush s → Worked (holds n) u t → n ≡ t.config.max_held
the_same n s u t most flush w = most ∙ ap (λ (c : RelayConfig). c.max_held) (sym (worked_config (holds n) u t w ∙ ap (λ (x : State). x.config) flush))

pub returns-clause-done : goal.returns-clause-done
returns-clause-done g c =
    subst (λ n. OnOk c.work.result (length c.work.new.lane.state.core.held < n)) (the_same c.max_held-most.result c.args.lane.now.state c.flush.new.self.state c.work.new.lane.state c.max_held-most.ensures c.flush.ensures.flushed c.work.ensures.worked.worked) c.work.ensures.done

pub returns-clause-memory : goal.returns-clause-memory
returns-clause-memory g c =
    subst (λ n. OnErr c.work.result (n ≤ length c.work.new.lane.state.core.held)) (the_same c.max_held-most.result c.args.lane.now.state c.flush.new.self.state c.work.new.lane.state c.max_held-most.ensures c.flush.ensures.flushed c.work.ensures.worked.worked) c.work.ensures.memory

pub returns-clause-worked : goal.returns-clause-worked
returns-clause-worked g c =
    let d = g.W.Wire.describes c.args.wire.now in
    let v = c.args.wire.now in
    let w = c.work.new.wire in
    worked_full d g.W.Wire.fits g.W.Wire.carries v w c.max_held-most.result (after_flush c.args.lane.now.state) c.work.new.lane.state c.max_held-most.ensures
    (subst (λ s. WorkedOn d g.W.Wire.fits g.W.Wire.carries (holds c.max_held-most.result) v w s c.work.new.lane.state) c.flush.ensures.flushed c.work.ensures.worked)
