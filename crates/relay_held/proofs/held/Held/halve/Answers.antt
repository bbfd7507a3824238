use Rattle.std.proofs.Common.{◌∙◌, refl, sym, ap, subst}
use Rattle.relay_held.specs.Operations.{halved_at}
use Rattle.relay_held.specs.Queues.{Holding, with_first}
use Rattle.relay_held.specs.Shelf.{IsHeld}
use Rattle.relay_held.proofs.Holding.{halved_keeps}
use Rattle.relay_held.proofs.Calls.{Flies, landed}
use Rattle.relay_held.proofs.held.Held.halve.Goals as goal

pub wait-requires : goal.wait-requires
wait-requires c =
    (landed c.self.inside.documents c.halve-entry.new.self c.self.inside.count c.self.inside.waiting c.args.write.key (halved_at c.args.due c.args.cap c.args.write) c.halve-entry.result c.self.invariant (halved_keeps c.args.due c.args.cap c.args.write) (λ h. refl)
    c.halve-entry.ensures.halved c.halve-entry.ensures.slots c.halve-entry.ensures.keys c.halve-entry.ensures.unique c.halve-entry.ensures.entry
    (subst (λ (s : Holding). Flies s.list c.args.write.key) (sym c.self.view_is) c.requires.flies)).joined.free

pub invariant_of-self : goal.invariant_of-self
invariant_of-self c =
    subst (IsHeld c.halve-entry.new.self c.self.inside.count) (sym c.wait.ensures)
    (landed c.self.inside.documents c.halve-entry.new.self c.self.inside.count c.self.inside.waiting c.args.write.key (halved_at c.args.due c.args.cap c.args.write) c.halve-entry.result c.self.invariant (halved_keeps c.args.due c.args.cap c.args.write) (λ h. refl)
    c.halve-entry.ensures.halved c.halve-entry.ensures.slots c.halve-entry.ensures.keys c.halve-entry.ensures.unique c.halve-entry.ensures.entry
    (subst (λ (s : Holding). Flies s.list c.args.write.key) (sym c.self.view_is) c.requires.flies)).joined.held

pub returns-clause-list : goal.returns-clause-list
returns-clause-list c =
    (landed c.self.inside.documents c.halve-entry.new.self c.self.inside.count c.self.inside.waiting c.args.write.key (halved_at c.args.due c.args.cap c.args.write) c.halve-entry.result c.self.invariant (halved_keeps c.args.due c.args.cap c.args.write) (λ h. refl)
    c.halve-entry.ensures.halved c.halve-entry.ensures.slots c.halve-entry.ensures.keys c.halve-entry.ensures.unique c.halve-entry.ensures.entry
    (subst (λ (s : Holding). Flies s.list c.args.write.key) (sym c.self.view_is) c.requires.flies)).becomes.list
    ∙ ap (λ (s : Holding). with_first c.args.write.key (halved_at c.args.due c.args.cap c.args.write) s.list) c.self.view_is
