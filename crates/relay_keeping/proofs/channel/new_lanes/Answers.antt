use Rattle.std.proofs.Common.{◌≡◌, ◌+◌, [], Some, length, vec_len, sym, ap, ◌∙◌, subst, arith}
use Rattle.std.specs.Vec.Iter.{into_iter_items, into_iter_len}
use Rattle.relay_keeping.specs.Seats.{tells_from}
use Rattle.relay_keeping.specs.Tellers.{AreNewLanes, new_lane}
use Rattle.relay_keeping.proofs.Seats.{from_next, lanes_push}
use Rattle.relay_keeping.proofs.channel.new_lanes.Goals as goal

pub ends-init : goal.ends-init
ends-init c =
    let g = c.into_iter-end-iterator.ensures.into_iter_gives in
    let n = c.new-lanes.ensures.len in
    record {
      count = omega (arith, g.1, n);
      given = λ channel teller e.
          (g.0 ∙ e ∙ ap (tells_from channel teller) (sym g.1) ∙ ap (λ k. tells_from channel k (into_iter_len c.into_iter-end-iterator.result)) (let z : teller ≡ teller + vec_len c.new-lanes.result = omega (arith, n) in z), subst (AreNewLanes channel teller) (sym c.new-lanes.ensures.items) tt);
    }

pub new-requires : goal.new-requires
new-requires c =
    let i = c.ends.invariant in
    let s = c.in-Some.ensures.steps in
    let r = c.requires in
    (from_next r.0 (r.1 + vec_len c.ends.lanes) (into_iter_len c.ends.end-iterator) (into_iter_len c.next.new.self) c.in-Some.end (into_iter_items c.next.new.self) (sym s.0 ∙ (i.given r.0 r.1 r.2).0) (sym s.1)).told

pub ends-preserved : goal.ends-preserved
ends-preserved c =
    let i = c.ends.invariant in
    let s = c.in-Some.ensures.steps in
    let more = c.in_ok-push.ensures.items in
    let len = c.in_ok-push.ensures.len in
    record {
      count = omega (arith, i.count, s.1, len);
      given = λ channel teller e.
          let h = i.given channel teller e in
          let k = teller + vec_len c.ends.lanes in
          let n = from_next channel k (into_iter_len c.ends.end-iterator) (into_iter_len c.next.new.self) c.in-Some.end (into_iter_items c.next.new.self) (sym s.0 ∙ h.0) (sym s.1) in
          let at : vec_len c.ends.lanes ≡ length c.ends.lanes.items = c.ends.lanes.ok.0 in (
            n.there ∙ ap (λ j. tells_from channel j (into_iter_len c.next.new.self)) (let z : k + 1 ≡ teller + vec_len c.push.new.self = omega (arith, len) in z),
            subst (AreNewLanes channel teller) (sym more) (lanes_push channel teller c.ends.lanes.items c.new.result h.1 (c.new.ensures ∙ ap (λ t. record { end = Some t; applied = []; saved = [] }) n.here ∙ ap (λ j. new_lane channel (teller + j)) at)),
          );
    }
