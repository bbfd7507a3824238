use Rattle.std.proofs.Common.{◌∙◌, ◌+◌, ◌++◌, ◌∷◌, [], sym, ap, subst, arith}
use Rattle.relay_held.specs.Queues.{Holding, AllUnder}
use Rattle.relay_held.specs.Shelf.{IsHeld}
use Rattle.relay_held.proofs.Counting.{ok_of}
use Rattle.relay_held.proofs.Calls.{roomier, pushed}
use Rattle.relay_held.proofs.held.Held.push.Goals as goal

pub wait-requires : goal.wait-requires
wait-requires c =
    (pushed c.self.inside.documents c.push.new.self c.self.inside.count c.reserve.new.self c.args.one c.in_ok-entry.entry
    (roomier c.self.inside.documents c.self.inside.count c.self.inside.waiting c.reserve.new.self c.self.invariant c.reserve.ensures.grows c.reserve.ensures.entries)
    (subst (λ (s : Holding). AllUnder c.args.one.version s.list) (sym c.self.view_is) c.requires.above) c.requires.waits c.in_ok-entry.ensures.ok c.in_ok-entry.ensures.slots
    (let room = ok_of c.reserve.result _ (sym c.is_err.ensures.value ∙ c.if-is_err.false) c.reserve.ensures.ok in
    let len = c.len.ensures.len in
    let more = c.in_ok-entry.ensures.more in
    omega (arith, room, len, more)) c.in_ok-entry.ensures.unique c.in_ok-entry.ensures.entry).joined.free

pub invariant_of-self-2 : goal.invariant_of-self-2
invariant_of-self-2 c =
    subst (IsHeld c.push.new.self (c.self.inside.count + 1)) (sym c.wait.ensures)
    (pushed c.self.inside.documents c.push.new.self c.self.inside.count c.reserve.new.self c.args.one c.in_ok-entry.entry
    (roomier c.self.inside.documents c.self.inside.count c.self.inside.waiting c.reserve.new.self c.self.invariant c.reserve.ensures.grows c.reserve.ensures.entries)
    (subst (λ (s : Holding). AllUnder c.args.one.version s.list) (sym c.self.view_is) c.requires.above) c.requires.waits c.in_ok-entry.ensures.ok c.in_ok-entry.ensures.slots
    (let room = ok_of c.reserve.result _ (sym c.is_err.ensures.value ∙ c.if-is_err.false) c.reserve.ensures.ok in
    let len = c.len.ensures.len in
    let more = c.in_ok-entry.ensures.more in
    omega (arith, room, len, more)) c.in_ok-entry.ensures.unique c.in_ok-entry.ensures.entry).joined.held

pub returns-clause-ok : goal.returns-clause-ok
returns-clause-ok c =
    (pushed c.self.inside.documents c.push.new.self c.self.inside.count c.reserve.new.self c.args.one c.in_ok-entry.entry
    (roomier c.self.inside.documents c.self.inside.count c.self.inside.waiting c.reserve.new.self c.self.invariant c.reserve.ensures.grows c.reserve.ensures.entries)
    (subst (λ (s : Holding). AllUnder c.args.one.version s.list) (sym c.self.view_is) c.requires.above) c.requires.waits c.in_ok-entry.ensures.ok c.in_ok-entry.ensures.slots
    (let room = ok_of c.reserve.result _ (sym c.is_err.ensures.value ∙ c.if-is_err.false) c.reserve.ensures.ok in
    let len = c.len.ensures.len in
    let more = c.in_ok-entry.ensures.more in
    omega (arith, room, len, more)) c.in_ok-entry.ensures.unique c.in_ok-entry.ensures.entry).becomes.list
    ∙ ap (λ (s : Holding). s.list ++ c.args.one ∷ []) c.self.view_is
