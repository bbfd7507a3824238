use Rattle.std.proofs.Common.{◌≡◌, ◌+◌, ◌++◌, [], ◌∷◌, map, ap, arith, sym, ◌∙◌, vec_len}
use Rattle.std.proofs.lemmas.List.{map-append}
use Rattle.relay_common.specs.Counts.{total}
use Rattle.relay_serve.specs.declared.terms.Term.{Term}
use Rattle.relay_serve.specs.Answering.{index_in}
use Rattle.relay_serve.specs.Terms.{ended, floor_after, total_of}
use Rattle.relay_serve.proofs.Turning.{floor_more, one_more_delivered, total_more}
use Rattle.relay_serve.proofs.terms.Terms.and.Goals as goal

pub invariant_of-result : goal.invariant_of-result
invariant_of-result c =
    let row = λ (x : Term × Unit {0}). ended x.0.epoch x.0.taken.items x.0.summary.lanes.items in
    let s = c.args.self in
    let t = c.args.term in
    let old = map row s.log.items in
    let one = row (t, tt) in
    let new : map row c.and-log.result.items ≡ old ++ one ∷ [] = ap (map row) c.and-log.ensures ∙ map-append row s.log.items ((t, tt) ∷ []) in
    let floor : floor_after s.first (map row c.and-log.result.items) ≡ t.epoch + 1 = ap (floor_after s.first) new ∙ floor_more s.first old one in
    record {
      delivered =
          one_more_delivered _ _ _ _ s.options.value.face (index_in s.options.value.index) s.options.value.config s.first s.floor old (map row c.and-log.result.items) one
          s.delivered s.above c.requires.floor c.requires.delivered new;
      above = omega (arith, floor, c.from.ensures);
      applied = c.count_all.ensures.applied ∙ ap (λ n. total (λ s. s.applied) n t.summary.lanes.items) s.applied ∙ sym (ap (total_of (λ s. s.applied) 0) new ∙ total_more (λ s. s.applied) 0 old one);
      already = c.count_all.ensures.already ∙ ap (λ n. total (λ s. s.already) n t.summary.lanes.items) s.already ∙ sym (ap (total_of (λ s. s.already) 0) new ∙ total_more (λ s. s.already) 0 old one);
      reported = c.count_all.ensures.reported ∙ ap (λ n. total (λ s. vec_len s.reports) n t.summary.lanes.items) s.reported ∙ sym (ap (total_of (λ s. vec_len s.reports) 0) new ∙ total_more (λ s. vec_len s.reports) 0 old one);
    }
