use Rattle.std.proofs.Common.{◌∙◌, ap, max}
use Rattle.relay_index.specs.States.{State}
use Rattle.relay_index.proofs.Appended.{IsIndex-appended, IsHighest-appended}
use Rattle.relay_index.proofs.index.Index.apply.Goals as goal

pub invariant_of-self-2 : goal.invariant_of-self-2
invariant_of-self-2 c =
    let old = c.self.inside in
    let s : State = record { documents = old.documents.entries; count = old.count; states = old.states } in
    let newer = rw (← c.self.view_is) at c.requires in
    let top = c.max.ensures ∙ ap (λ n. max n c.args.write.now.version) c.unwrap_or.ensures in
    rw (c.in_ok-append.ensures.ok, c.saturating_add-self-inside.ensures, top)
    (record { index = IsIndex-appended s c.args.write.now c.self.invariant.index newer; highest = IsHighest-appended s c.args.write.now old.highest c.self.invariant.highest newer })
