use Rattle.std.proofs.Common.{◌≡◌, ◌<◌, ◌+◌, length, vec_len, Some, sym, ap, ◌∙◌, arith}
use Rattle.std.specs.Vec.Iter.{into_iter_items, into_iter_len}
use Rattle.relay_keeping.specs.Seats.{tells_from}
use Rattle.relay_keeping.proofs.Seats.{from_next, inputs_next}
use Rattle.relay_keeping.proofs.channel.new_inputs.Goals as goal

pub ends-preserved : goal.ends-preserved
ends-preserved c =
    let i = c.ends.invariant in
    let s = c.in-Some.ensures.steps in
    let more = c.in_ok-push.ensures.items in
    let len = c.in_ok-push.ensures.len in
    let k = vec_len c.ends.inputs in
    let v = c.new.result in
    let within : k < length c.args.starts.now = omega (arith, i.count, s.1) in
    record {
      count = omega (arith, i.count, s.1, len);
      given = λ channel e.
          let h = i.given channel e in
          let n = from_next channel k (into_iter_len c.ends.end-iterator) (into_iter_len c.next.new.self) c.in-Some.end (into_iter_items c.next.new.self) (sym s.0 ∙ h.0) (sym s.1) in (
            n.there ∙ ap (λ j. tells_from channel j (into_iter_len c.next.new.self)) (let z : k + 1 ≡ vec_len c.push.new.self = omega (arith, len) in z),
            inputs_next channel c.args.starts.now c.ends.inputs.items c.push.new.self.items c.len.result k (vec_len c.push.new.self) _ v more c.ends.inputs.ok.0 c.len.ensures (omega (arith, len)) within
                (record { end = c.new.ensures.end ∙ ap Some n.here; start = c.new.ensures.start; batch = c.new.ensures.empty.0; whole = c.new.ensures.empty.1 }) h.1,
          );
    }
