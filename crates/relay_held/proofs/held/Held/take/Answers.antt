use Rattle.std.proofs.Common.{◌∙◌, ◌-◌, sym, ap, subst}
use Rattle.relay_held.specs.Queues.{Holding, without_first, first_of, name_in}
use Rattle.relay_held.specs.Shelf.{IsHeld}
use Rattle.relay_held.proofs.Holding.{first_here}
use Rattle.relay_held.proofs.Calls.{Flies, taken, none_taken}
use Rattle.relay_held.proofs.held.Held.take.Goals as goal

pub wait-requires : goal.wait-requires
wait-requires c =
    (taken c.self.inside.documents c.take.new.self c.self.inside.count c.self.inside.waiting c.args.key.now c.in_ok-name.field-0.name c.in_ok-name.field-0.next c.self.invariant
    c.in_ok-name.ensures.taken c.in_ok-name.ensures.slots c.in_ok-name.ensures.fewer c.in_ok-name.ensures.unique c.in_ok-name.ensures.name c.in_ok-name.ensures.next
    (subst (λ (s : Holding). Flies s.list c.args.key.now) (sym c.self.view_is) c.requires.flies)).joined.free

pub invariant_of-self-2 : goal.invariant_of-self-2
invariant_of-self-2 c =
    subst (IsHeld c.take.new.self (c.self.inside.count - 1)) (sym c.wait.ensures)
    (taken c.self.inside.documents c.take.new.self c.self.inside.count c.self.inside.waiting c.args.key.now c.in_ok-name.field-0.name c.in_ok-name.field-0.next c.self.invariant
    c.in_ok-name.ensures.taken c.in_ok-name.ensures.slots c.in_ok-name.ensures.fewer c.in_ok-name.ensures.unique c.in_ok-name.ensures.name c.in_ok-name.ensures.next
    (subst (λ (s : Holding). Flies s.list c.args.key.now) (sym c.self.view_is) c.requires.flies)).joined.held

pub invariant_of-self : goal.invariant_of-self
invariant_of-self c =
    (none_taken c.self.inside.documents c.take.new.self c.self.inside.count c.self.inside.waiting c.args.key.now c.self.invariant
    c.in_err-name.ensures.taken c.in_err-name.ensures.slots c.in_err-name.ensures.fewer c.in_err-name.ensures.unique c.in_err-name.ensures.name).joined.held

pub returns-clause-list : goal.returns-clause-list
returns-clause-list c =
    (taken c.self.inside.documents c.take.new.self c.self.inside.count c.self.inside.waiting c.args.key.now c.in_ok-name.field-0.name c.in_ok-name.field-0.next c.self.invariant
    c.in_ok-name.ensures.taken c.in_ok-name.ensures.slots c.in_ok-name.ensures.fewer c.in_ok-name.ensures.unique c.in_ok-name.ensures.name c.in_ok-name.ensures.next
    (subst (λ (s : Holding). Flies s.list c.args.key.now) (sym c.self.view_is) c.requires.flies)).becomes.list
    ∙ ap (λ (s : Holding). without_first c.args.key.now s.list) c.self.view_is

pub returns-clause-name : goal.returns-clause-name
returns-clause-name c =
    c.in_ok-name.ensures.name ∙ ap name_in (first_here c.self.inside.documents.queues c.self.inside.count c.args.key.now c.self.invariant.holding)
    ∙ ap (λ (s : Holding). name_in (first_of c.args.key.now s.list)) c.self.view_is

pub returns-in_err-name-clause-list : goal.returns-in_err-name-clause-list
returns-in_err-name-clause-list c =
    (none_taken c.self.inside.documents c.take.new.self c.self.inside.count c.self.inside.waiting c.args.key.now c.self.invariant
    c.in_err-name.ensures.taken c.in_err-name.ensures.slots c.in_err-name.ensures.fewer c.in_err-name.ensures.unique c.in_err-name.ensures.name).becomes.list
    ∙ ap (λ (s : Holding). without_first c.args.key.now s.list) c.self.view_is

pub returns-in_err-name-clause-name : goal.returns-in_err-name-clause-name
returns-in_err-name-clause-name c =
    c.from_residual.ensures ∙ c.in_err-name.ensures.name ∙ ap name_in (first_here c.self.inside.documents.queues c.self.inside.count c.args.key.now c.self.invariant.holding)
    ∙ ap (λ (s : Holding). name_in (first_of c.args.key.now s.list)) c.self.view_is
