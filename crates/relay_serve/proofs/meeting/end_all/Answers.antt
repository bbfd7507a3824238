use Rattle.std.proofs.Common.{[], ◌∷◌, ◌++◌, ap, sym, subst, ◌∙◌, append_assoc}
use Rattle.std.specs.Vec.Iter.{into_iter_items}
use Rattle.relay_serve.specs.Meeting.{AllWellTaken}
use Rattle.relay_serve.proofs.Meets.{well_more}
use Rattle.relay_serve.proofs.meeting.end_all.Goals as goal

pub receipts-preserved : goal.receipts-preserved
receipts-preserved c =
    let i = c.receipts.invariant in
    let ended = c.receipts.ended.items in
    let left = into_iter_items c.next.new.self in
    let more = c.in_ok-push.ensures.items in
    record {
      same = ap (λ l. l ++ left) more ∙ append_assoc ended (c.end.result ∷ []) left ∙ ap (λ t. ended ++ t ∷ left) c.end.ensures.same ∙ ap (λ l. ended ++ l) (sym c.in-Some.ensures.steps.0) ∙ i.same;
      well = subst AllWellTaken (sym more) (well_more ended c.end.result i.well c.end.ensures.well_taken);
    }
