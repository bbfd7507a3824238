use Rattle.std.proofs.Common.{◌≡◌, [], ◌∷◌, ◌++◌, ap, sym, subst, ◌∙◌, append_assoc}
use Rattle.std.specs.Vec.Iter.{into_iter_items}
use Rattle.relay_serve.specs.Meeting.{AllMet}
use Rattle.relay_serve.proofs.Meets.{met_more, next_met}
use Rattle.relay_serve.proofs.meeting.meet_lane.Goals as goal

pub workers-preserved : goal.workers-preserved
workers-preserved c =
    let i = c.workers.invariant in
    let met = c.workers.met.items in
    let one = c.in-Some.one in
    let end = c.in-Some-next.end in
    let left = into_iter_items c.next.new.self in
    let rest = into_iter_items c.next-in-workers.new.self in
    let step = c.in-Some.ensures.steps.0 in
    let taken = c.in-Some-next.ensures.cases.0 in
    let more : c.push_reserved.new.self.items ≡ met ++ one ∷ [] =
    c.push_reserved.ensures.items ∙ ap (λ l. l ++ c.in_ok-meet_one.field-0 ∷ []) c.reserve.ensures.items ∙ ap (λ t. met ++ t ∷ []) c.in_ok-meet_one.ensures.same in
    record {
      same = ap (λ l. l ++ left) more ∙ append_assoc met (one ∷ []) left ∙ ap (λ l. met ++ l) (sym step) ∙ i.same;
      met = (
        i.met.0 ++ end ∷ [],
        i.met.1 ∙ ap (λ l. i.met.0 ++ l) taken ∙ sym (append_assoc i.met.0 (end ∷ []) rest),
        subst (λ l. AllMet l (i.met.0 ++ end ∷ [])) (sym more) (met_more met i.met.0 one end i.met.2 c.in_ok-meet_one.ensures.met),
      );
      channels = (next_met (into_iter_items c.workers.one-iterator) left (into_iter_items c.workers.ends) rest one end i.channels taken step).others;
    }
