use Rattle.std.proofs.Common.{List, subst}
use Rattle.relay_receipts.specs.declared.notice.Notice.{Notice}
use Rattle.relay_keeping.specs.declared.told.Told.{Told}
use Rattle.relay_keeping.specs.Keepers.{IsMarkAfter, Keeping}
use Rattle.relay_keeping.specs.Steps.{FollowAll, starts_of}
use Rattle.relay_keeping.proofs.Founding.{keeps_mark}
use Rattle.relay_keeping.proofs.keeper.MarkKeeper.mark.Goals as goal

pub invariant_of-self : goal.invariant_of-self
invariant_of-self c =
    let d = c.self.inside in
    let now = subst (λ fs. (t : List (Notice Told)) → FollowAll t fs → IsMarkAfter (starts_of fs) t c.args.producer c.in_ok-mark.mark) c.deref.ensures.value c.in_ok-mark.ensures in
    keeps_mark d.is_whole d.inputs.items d.take.taken d.given.items c.and-self-inside.result.items c.args.producer c.in_ok-mark.mark c.and-self-inside.ensures c.if-not-self.false now c.self.invariant

pub returns-clause-mark : goal.returns-clause-mark
returns-clause-mark c =
    let d = c.self.inside in
    let now = subst (λ fs. (t : List (Notice Told)) → FollowAll t fs → IsMarkAfter (starts_of fs) t c.args.producer c.in_ok-mark.mark) c.deref.ensures.value c.in_ok-mark.ensures in
    subst (λ (k : Keeping). IsMarkAfter k.starts k.taken c.args.producer c.in_ok-mark.mark) c.self.view_is (now d.take.taken (c.self.invariant.0 c.if-not-self.false))
