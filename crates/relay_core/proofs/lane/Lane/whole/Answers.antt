use Rattle.std.proofs.Common.{◌≡◌, None, sym, ap, ◌∙◌, arith, length, subst, refl}
use Rattle.relay_results.specs.Verdicts.{is_halved}
use Rattle.relay_results.specs.Outside.{Whole}
use Rattle.relay_core.specs.State.{State, Seen, writes_of, after_answer_to, explained_at, AreCounts}
use Rattle.relay_core.specs.Memory.{IsHalf}
use Rattle.relay_core.specs.View.{state_of}
use Rattle.relay_core.proofs.Reading.{flying_positive, writes_seen}
use Rattle.relay_core.proofs.Invariant.{few_in}
use Rattle.relay_core.proofs.Saying.{way_by, whole_says, whole_halves, whole_tells, reports_final, final_reports}
use Rattle.relay_core.proofs.Rejecting.{rejected, same_counts}
use Rattle.relay_core.proofs.lane.Lane.whole.Goals as goal

pub way_of-whole-requires : goal.way_of-whole-requires
way_of-whole-requires c =
    let i = c.self.inside in
    let from = flying_positive c.args.self.now.state.core.flying c.args.number (sym c.in-Some.ensures.flies) in
    let e = c.in-Some.ensures.writes ∙ ap (λ (s : State). writes_of c.args.number s) (sym (ap (λ (v : Seen). v.state) c.self.view_is)) ∙ writes_seen 1 i.flight.next i.flight.requests c.args.number (omega arith) c.self.invariant.flight.numbered from in
    let n = ap length e in
    let f = few_in i.flight.requests c.args.number c.self.invariant.readable.few in
    omega (arith, n, f)

pub settle-requires : goal.settle-requires
settle-requires c =
    record { halves = subst (λ ws. IsHalf c.way_of-whole.result (length ws)) c.in-Some.ensures.writes (whole_halves (length c.in-Some.writes.now) c.args.status c.way_of-whole.result c.way_of-whole.ensures) }

-- each operation is reported, and the first gets the reason
pub returns-in-Reported-clause-ok : goal.returns-in-Reported-clause-ok
returns-in-Reported-clause-ok c =
    let i = c.self.inside in
    let n = c.args.number in
    let status = c.args.status in
    let s = c.args.self.now.state in
    let same : state_of i ≡ s = ap (λ (v : Seen). v.state) c.self.view_is in
    let way = c.way_of-whole.ensures ∙ ap (λ ws. way_by (length ws) status) c.in-Some.ensures.writes in
    let final = reports_final (length (writes_of n s)) status c.in-Reported.field-0 c.way_of-whole.result way c.in-Reported.is in
    let from = flying_positive s.core.flying n (sym c.in-Some.ensures.flies) in
    let settled = c.in-Some-settle.ensures.settled (Whole status None)
    (whole_says (writes_of n s) status None _ _ way c.new.ensures.items (λ half again. refl))
    (whole_tells (writes_of n s) status None _ c.new.ensures.items) in
    let half = ap (λ (t : State). is_halved (length (writes_of n t)) status) same ∙ final.0 in
    c.explain.ensures.state ∙ ap (explained_at c.len-reported.result c.args.reason) (settled ∙ ap (λ (t : State). after_answer_to t n (Whole status None)) (sym same))
    ∙ rejected i c.self.invariant n status c.args.reason from half final.1 c.len-reported.result (c.len-reported.ensures ∙ i.reports.ok.0)
    ∙ ap (λ (t : State). after_answer_to t n (Whole status c.args.reason)) same

pub returns-in-Reported-clause-counts : goal.returns-in-Reported-clause-counts
returns-in-Reported-clause-counts c =
    let i = c.self.inside in
    let n = c.args.number in
    let status = c.args.status in
    let s = c.args.self.now.state in
    let same : state_of i ≡ s = ap (λ (v : Seen). v.state) c.self.view_is in
    let way = c.way_of-whole.ensures ∙ ap (λ ws. way_by (length ws) status) c.in-Some.ensures.writes in
    let final = reports_final (length (writes_of n s)) status c.in-Reported.field-0 c.way_of-whole.result way c.in-Reported.is in
    let from = flying_positive s.core.flying n (sym c.in-Some.ensures.flies) in
    let half = ap (λ (t : State). is_halved (length (writes_of n t)) status) same ∙ final.0 in
    let counts = c.in-Some-settle.ensures.counts (Whole status None) (whole_says (writes_of n s) status None _ _ way c.new.ensures.items (λ half again. refl)) in
    subst (λ (t : State). AreCounts t n (Whole status c.args.reason) c.in-Some-settle.found) same
    (same_counts i c.self.invariant n status c.args.reason from half final.1 c.in-Some-settle.found
    (subst (λ (t : State). AreCounts t n (Whole status None) c.in-Some-settle.found) (sym same) counts))

-- it is halved or retried, and the reason says nothing
pub returns-in_default-whole : goal.returns-in_default-whole
returns-in_default-whole c =
    let n = c.args.number in
    let status = c.args.status in
    let s = c.args.self.now.state in
    let way = c.way_of-whole.ensures ∙ ap (λ ws. way_by (length ws) status) c.in-Some.ensures.writes in
    let says = whole_says (writes_of n s) status c.args.reason _ _ way c.new.ensures.items
    (λ half again. absurd (c.in_default-whole.not-Reported status (final_reports (length (writes_of n s)) status c.way_of-whole.result way half again))) in
    record {
      flies = c.in-Some-settle.ensures.flies;
      ok = c.in-Some-settle.ensures.settled (Whole status c.args.reason) says (whole_tells (writes_of n s) status c.args.reason _ c.new.ensures.items);
      counts = c.in-Some-settle.ensures.counts (Whole status c.args.reason) says;
      matched = c.in-Some-settle.ensures.matched;
      unchanged = tt;
      looks = c.in-Some-settle.ensures.looks;
    }
