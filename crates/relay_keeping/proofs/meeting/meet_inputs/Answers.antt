use Rattle.std.proofs.Common.{◌+◌, [], ◌∷◌, ◌++◌, Some, ap, sym, subst, ◌∙◌, append_assoc}
use Rattle.std.specs.Vec.Iter.{into_iter_items}
use Rattle.std.proofs.lemmas.List.{map-append}
use Rattle.relay_receipts.specs.Ends.{TakeEnd}
use Rattle.relay_keeping.specs.declared.told.Told.{Told}
use Rattle.relay_keeping.specs.Meeting.{AllMet, AreSeated, IsMet, input_ends}
use Rattle.relay_keeping.specs.Tellers.{InputState, seat}
use Rattle.relay_keeping.proofs.Seats.{met_push, puts_push}
use Rattle.relay_keeping.proofs.meeting.meet_inputs.Goals as goal

pub meet_one-met-requires : goal.meet_one-met-requires
meet_one-met-requires c =
    let i = c.inputs.invariant in
    let on = subst (λ vs. AreSeated c.args.taken.channel i.others.0 (input_ends vs)) c.in-Some.ensures.steps.0 i.others.1 in
    (i.others.0, ap seat c.end.ensures.end ∙ on.0 ∙ ap (λ (t : TakeEnd Told). Some (t.channel, i.others.0)) (sym i.same))

pub inputs-preserved : goal.inputs-preserved
inputs-preserved c =
    let i = c.inputs.invariant in
    let one = c.in-Some.input in
    let rest = into_iter_items c.next.new.self in
    let step = c.in-Some.ensures.steps.0 in
    let on = subst (λ vs. AreSeated c.args.taken.channel i.others.0 (input_ends vs)) step i.others.1 in
    let met = subst (λ e. IsMet c.args.taken.taken e) c.end.ensures.end (subst (λ (t : TakeEnd Told). IsMet t.taken c.end.result) i.same c.meet_one-met.ensures.met) in
    record {
      same = c.meet_one-met.ensures.same ∙ i.same;
      met = (
        i.met.0 ++ one ∷ [],
        i.met.1 ∙ ap (λ l. i.met.0 ++ l) step ∙ sym (append_assoc i.met.0 (one ∷ []) rest),
        subst (AllMet c.args.taken.taken) (sym (map-append (λ (v : InputState). v.end) i.met.0 (one ∷ []))) (met_push c.args.taken.taken (input_ends i.met.0) one.end i.met.2 met),
        puts_push i.met.0 one i.met.3 c.end.ensures.only,
      );
      others = (i.others.0 + 1, on.1);
    }
