use Rattle.std.proofs.Common.{◌≡◌, [], ◌∷◌, ◌++◌, IfNone, IfSome, subst}
use Rattle.relay_keeping.proofs.Founding.{keeps_next, keeps_same}
use Rattle.relay_keeping.proofs.keeper.MarkKeeper.try_follow.Goals as goal

pub invariant_of-self : goal.invariant_of-self
invariant_of-self g c =
    let d = c.self.inside in
    keeps_same d.is_whole d.inputs.items d.given.items d.take c.try_take.new.self c.in_err-notice.ensures.gone c.self.invariant

pub invariant_of-self-in-Some : goal.invariant_of-self-in-Some
invariant_of-self-in-Some g c =
    let d = c.self.inside in
    let more = subst (λ o. IfSome o (λ n. c.try_take.new.self.taken ≡ d.take.taken ++ n ∷ [])) c.in-Some.is c.in_ok-notice.ensures.taken in
    keeps_next d.is_whole c.follow_if-self-inside.result d.inputs.items c.follow_if-self-inside.new.inputs.items d.take.taken c.try_take.new.self.taken c.in-Some.notice d.given.items more c.follow_if-self-inside.ensures.follows c.follow_if-self-inside.ensures.starts c.self.invariant

pub invariant_of-self-in-None : goal.invariant_of-self-in-None
invariant_of-self-in-None g c =
    let d = c.self.inside in
    keeps_same d.is_whole d.inputs.items d.given.items d.take c.try_take.new.self (subst (λ o. IfNone o (c.try_take.new.self ≡ d.take)) c.in-None.is c.in_ok-notice.ensures.none) c.self.invariant
