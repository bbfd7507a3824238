use Rattle.std.proofs.Common.{refl, sym, ap, ◌∙◌, arith}
use Rattle.std.specs.Prelude.{is_some}
use Rattle.std.proofs.lemmas.List.{length-map}
use Rattle.relay_flight.specs.InFlight.{numbered_batch}
use Rattle.relay_core.specs.State.{Seen, all_closed, next_batch}
use Rattle.relay_core.specs.Memory.{writes_in}
use Rattle.relay_core.specs.View.{state_of}
use Rattle.relay_core.proofs.Entering.{due_now, none_now}
use Rattle.relay_core.proofs.Looking.{looked_most}
use Rattle.relay_core.proofs.Still.{sound_still}
use Rattle.relay_core.proofs.lane.Lane.has_batch.Goals as goal

pub returns-then-is_roomy-clause-has : goal.returns-then-is_roomy-clause-has
returns-then-is_roomy-clause-has c =
    let i = c.self.inside in
    let roomy = sym c.is_roomy.ensures ∙ c.if-is_roomy.true in
    ap is_some (none_now (state_of i) (writes_in i.flight.requests) i.held.list i.room refl roomy (c.self.invariant.quiet roomy) ∙ ap (λ (v : Seen). next_batch v.state) c.self.view_is)

pub is_due-requires : goal.is_due-requires
is_due-requires c = c.self.invariant.readable.rises

pub invariant_of-self : goal.invariant_of-self
invariant_of-self c = sound_still c.self.inside c.is_due.new.held c.self.inside.room c.is_due.ensures.held c.self.invariant c.self.invariant.quiet

pub returns-clause-has : goal.returns-clause-has
returns-clause-has c =
    let i = c.self.inside in
    let closed = c.closed-all_closed.ensures ∙ ap all_closed (sym (ap (λ (v : Seen). v.state) c.self.view_is)) in
    c.is_due.ensures.due ∙ due_now (state_of i) (writes_in i.flight.requests) i.held.list c.closed-all_closed.result refl closed (omega (arith, c.flying.ensures, c.if-flying-self.false, length-map i.flight.requests numbered_batch)) ∙ ap (λ (v : Seen). is_some (next_batch v.state)) c.self.view_is

pub returns-clause-unchanged : goal.returns-clause-unchanged
returns-clause-unchanged c =
    let i = c.self.inside in
    (λ j. state_of (record i { held = c.is_due.ensures.held j })) ∙ ap (λ (v : Seen). v.state) c.self.view_is

pub returns-clause-looks : goal.returns-clause-looks
returns-clause-looks c = looked_most c.self.inside c.args.self.now c.is_due.new.held.looks c.self.view_is c.is_due.ensures.looks
