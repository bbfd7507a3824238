use Rattle.std.proofs.Common.{◌++◌, sym, ap, subst, ◌∙◌}
use Rattle.relay_delay.specs.Waiting.{Rises}
use Rattle.relay_delay.proofs.Delaying.{back_fresh, back_kept}
use Rattle.relay_delay.proofs.queue.give_back.Goals as goal

pub push-requires-clause-fresh : goal.push-requires-clause-fresh
push-requires-clause-fresh c =
    back_fresh c.pop_back.new.self.items c.args.ready.now.entries c.in-Some.last
    (subst (λ xs. Rises (xs ++ c.args.ready.now.entries)) c.in-Some.ensures.items c.requires.rises)

pub returns-in-Some-clause-kept : goal.returns-in-Some-clause-kept
returns-in-Some-clause-kept c =
    ap (λ xs. c.pop_back.new.self.items ++ xs) c.push.ensures.entries
    ∙ back_kept c.pop_back.new.self.items c.args.ready.now.entries c.in-Some.last
    (subst (λ xs. Rises (xs ++ c.args.ready.now.entries)) c.in-Some.ensures.items c.requires.rises)
    ∙ ap (λ xs. xs ++ c.args.ready.now.entries) (sym c.in-Some.ensures.items)
