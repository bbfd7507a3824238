use Rattle.std.proofs.Common.{◌∷◌, [], ◌++◌, sym, ap, ◌∙◌, subst}
use Rattle.relay_world.specs.State.{Desk}
use Rattle.relay_world.specs.Changes.{after_post}
use Rattle.relay_world.specs.Memory.{IsDesk, IsOpenAt}
use Rattle.relay_world.proofs.Places.{at_index}
use Rattle.relay_world.proofs.Desks.{open_within, posted_keeps, posted_is}
use Rattle.relay_world.proofs.desk.Desk.post.Goals as goal

pub invariant_of-self-2 : goal.invariant_of-self-2
invariant_of-self-2 c =
    let i = c.self.inside in
    let d : Desk = record { queue = i.queue.items; senders = i.senders.items; taken = i.taken.items; lane = i.lane.state } in
    let open_there : IsOpenAt c.args.sender d = subst (IsOpenAt c.args.sender) (sym c.self.view_is) c.requires in
    let there = at_index i.senders.items c.args.sender c.index.result.now (open_within i.senders.items c.args.sender open_there) c.index.ensures in
    let q = c.push_back_reserved.ensures.items ∙ ap (λ ms. ms ++ record { sender = c.args.sender; number = c.next_of-next.result.count; body = c.args.body } ∷ []) c.reserve.ensures.items in
    subst IsDesk (sym (posted_is d c.args.sender c.args.body c.index.result.now c.next_of-next.result c.push_back_reserved.new.self.items there c.next_of-next.ensures q))
    (posted_keeps c.args.sender c.args.body d c.self.invariant open_there)

pub returns-clause-ok : goal.returns-clause-ok
returns-clause-ok c =
    let i = c.self.inside in
    let d : Desk = record { queue = i.queue.items; senders = i.senders.items; taken = i.taken.items; lane = i.lane.state } in
    let open_there : IsOpenAt c.args.sender d = subst (IsOpenAt c.args.sender) (sym c.self.view_is) c.requires in
    let there = at_index i.senders.items c.args.sender c.index.result.now (open_within i.senders.items c.args.sender open_there) c.index.ensures in
    let q = c.push_back_reserved.ensures.items ∙ ap (λ ms. ms ++ record { sender = c.args.sender; number = c.next_of-next.result.count; body = c.args.body } ∷ []) c.reserve.ensures.items in
    posted_is d c.args.sender c.args.body c.index.result.now c.next_of-next.result c.push_back_reserved.new.self.items there c.next_of-next.ensures q
    ∙ ap (after_post c.args.sender c.args.body) c.self.view_is
