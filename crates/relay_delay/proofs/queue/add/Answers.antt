use Rattle.std.proofs.Common.{◌++◌, length, length-append, refl, sym, ap, ◌∙◌, subst, arith}
use Rattle.relay_delay.specs.Waiting.{Rises, insert}
use Rattle.relay_delay.proofs.Delaying.{front_rises, insert_behind}
use Rattle.relay_delay.proofs.queue.add.Goals as goal

pub give_back-requires-clause-room : goal.give_back-requires-clause-room
give_back-requires-clause-room c =
    let i = c.back.invariant in
    let n = sym (length-append c.back.front.items c.back.ready.entries) ∙ ap length i.kept ∙ length-append c.args.front.now.items c.args.ready.now.entries in
    let room = i.room in let few = c.requires.room in
    omega (arith, n, room, few)

pub push-requires-clause-room : goal.push-requires-clause-room
push-requires-clause-room c =
    let i = c.back.invariant in
    let n = sym (length-append c.back.front.items c.back.ready.entries) ∙ ap length i.kept ∙ length-append c.args.front.now.items c.args.ready.now.entries in
    let room = i.room in let few = c.requires.room in
    omega (arith, n, room, few)

pub returns-clause-added : goal.returns-clause-added
returns-clause-added c =
    let i = c.back.invariant in
    let fs = c.back.front.items in
    ap (λ xs. fs ++ xs) c.push.ensures.entries
    ∙ insert_behind c.args.one fs c.back.ready.entries (c.back-test.ensures.none refl (front_rises fs c.back.ready.entries (subst Rises (sym i.kept) c.requires.rises)))
    ∙ ap (insert c.args.one) i.kept
