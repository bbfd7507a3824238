use Rattle.std.proofs.Common.{◌∙◌, refl, sym, ap, subst}
use Rattle.relay_held.specs.Operations.{back_at}
use Rattle.relay_held.specs.Queues.{Holding, with_first}
use Rattle.relay_held.specs.Shelf.{IsHeld}
use Rattle.relay_held.proofs.Holding.{back_keeps}
use Rattle.relay_held.proofs.Calls.{Flies, landed}
use Rattle.relay_held.proofs.held.Held.land.Goals as goal

pub wait-requires : goal.wait-requires
wait-requires c =
    (landed c.self.inside.documents c.land-entry.new.self c.self.inside.count c.self.inside.waiting c.args.write.key (back_at c.args.due c.args.write) c.land-entry.result c.self.invariant (back_keeps c.args.due c.args.write) (λ h. refl)
    c.land-entry.ensures.landed c.land-entry.ensures.slots c.land-entry.ensures.keys c.land-entry.ensures.unique c.land-entry.ensures.entry
    (subst (λ (s : Holding). Flies s.list c.args.write.key) (sym c.self.view_is) c.requires.flies)).joined.free

pub invariant_of-self : goal.invariant_of-self
invariant_of-self c =
    subst (IsHeld c.land-entry.new.self c.self.inside.count) (sym c.wait.ensures)
    (landed c.self.inside.documents c.land-entry.new.self c.self.inside.count c.self.inside.waiting c.args.write.key (back_at c.args.due c.args.write) c.land-entry.result c.self.invariant (back_keeps c.args.due c.args.write) (λ h. refl)
    c.land-entry.ensures.landed c.land-entry.ensures.slots c.land-entry.ensures.keys c.land-entry.ensures.unique c.land-entry.ensures.entry
    (subst (λ (s : Holding). Flies s.list c.args.write.key) (sym c.self.view_is) c.requires.flies)).joined.held

pub returns-clause-list : goal.returns-clause-list
returns-clause-list c =
    (landed c.self.inside.documents c.land-entry.new.self c.self.inside.count c.self.inside.waiting c.args.write.key (back_at c.args.due c.args.write) c.land-entry.result c.self.invariant (back_keeps c.args.due c.args.write) (λ h. refl)
    c.land-entry.ensures.landed c.land-entry.ensures.slots c.land-entry.ensures.keys c.land-entry.ensures.unique c.land-entry.ensures.entry
    (subst (λ (s : Holding). Flies s.list c.args.write.key) (sym c.self.view_is) c.requires.flies)).becomes.list
    ∙ ap (λ (s : Holding). with_first c.args.write.key (back_at c.args.due c.args.write) s.list) c.self.view_is
