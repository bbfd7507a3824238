use Rattle.std.proofs.Common.{◌≡◌, ◌∙◌, inl, inr, subst, List, ℕ, None}
use Rattle.relay_action.specs.Actions.{IsIndexOf}
use Rattle.relay_front.specs.Operations.{source_reason}
use Rattle.relay_front.specs.Service.{on_one_line}
use Rattle.relay_front.proofs.replying.reply_to_source.Goals as goal

pub returns-in-Ok : goal.returns-in-Ok
returns-in-Ok g c =
    let stored = rw c.in-Ok.is at c.in_ok-action.ensures.ok in
    let is : c.deref.result.now ≡ on_one_line c.args.body.now = c.deref.ensures.value ∙ c.in_ok-source.ensures in
    let none = subst (λ (s : List ℕ). source_reason s ≡ None) is stored.0 in
    let action = subst (λ (s : List ℕ). IsIndexOf s c.in-Ok.action) is stored.1 in
    inr (inl (c.in-Ok.action, none, action, c.reply_to_write.ensures))
