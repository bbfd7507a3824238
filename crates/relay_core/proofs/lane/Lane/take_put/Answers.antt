use Rattle.std.proofs.Common.{◌≡◌, ◌^◌, ◌+◌, ◌<◌, ◌≤◌, ◌++◌, ◌∷◌, [], refl, sym, ap, ◌∙◌, subst, true, length, length-append, arith}
use Rattle.std.specs.Prelude.{map, min, nat_lt}
use Rattle.std.proofs.lemmas.Bool.{lt-ltb}
use Rattle.relay_delivery.specs.Machine.{spent_if}
use Rattle.relay_delivery.specs.Lane.{entry_if}
use Rattle.std.specs.Prelude.{Bool}
use Rattle.std.specs.List.{list_all}
use Rattle.relay_held.specs.declared.kept.Kept.{Kept}
use Rattle.relay_held.specs.Queues.{Holding}
use Rattle.relay_core.specs.Quiet.{is_roomy, IsQuiet}
use Rattle.relay_core.proofs.Quiet.{quiet_taken}
use Rattle.relay_core.specs.Walk.{report_of, items_of_kept}
use Rattle.relay_core.specs.State.{State, bytes_of, after_op}
use Rattle.relay_core.specs.Memory.{entries, writes_in, kept_new, AllUnder, tries_left}
use Rattle.relay_core.specs.View.{state_of, IsSound}
use Rattle.relay_core.proofs.Taken.{entries_new, under_more, under_same, readable_more, left_more, entries_length, on_ok, with_none}
use Rattle.relay_core.proofs.Still.{sound_roomier}
use Rattle.relay_core.proofs.Valid.{valid_facts}
use Rattle.relay_delivery.proofs.Halving.{halvings_few}
use Rattle.relay_core.specs.State.{Seen}
use Rattle.relay_core.proofs.lane.Lane.take_put.Goals as goal

pub invariant_of-self : goal.invariant_of-self
invariant_of-self c = let m = c.make_room.ensures in sound_roomier c.self.inside c.make_room.new.reports c.make_room.new.successes m.reports_len m.capacity m.successes_len m.places c.self.invariant

pub invariant_of-self-in_default : goal.invariant_of-self-in_default
invariant_of-self-in_default c = let m = c.make_room.ensures in sound_roomier c.self.inside c.make_room.new.reports c.make_room.new.successes m.reports_len m.capacity m.successes_len m.places c.self.invariant

pub invariant_of-self-in-Err : goal.invariant_of-self-in-Err
invariant_of-self-in-Err c =
    let i = c.self.inside in
    let m = c.make_room.ensures in
    subst (λ (h : Holding). IsSound (record i { held = h; reports = c.make_room.new.reports; successes = c.make_room.new.successes })) (sym c.in-Err.ensures.unchanged)
    (sound_roomier c.self.inside c.make_room.new.reports c.make_room.new.successes m.reports_len m.capacity m.successes_len m.places c.self.invariant)

pub invariant_of-self-then-self : goal.invariant_of-self-then-self
invariant_of-self-then-self c =
    let i = c.self.inside in
    let v = c.self.invariant in
    let m = c.make_room.ensures in
    let p = c.push_reserved.ensures in
    let room = on_ok _ _ c.if-is_err.ensures.negation m.reports_room in
    record {
      readable = v.readable;
      under = under_same (i.first + min i.taken i.config.deal) (i.first + min (i.taken + 1) i.config.deal) i.held.list (omega arith) v.under;
      flight = v.flight;
      most = v.most;
      room = (let len = p.len in let cap = p.capacity in omega (arith, len, cap, room));
      places = (let old = v.places in let len = m.successes_len in let more = m.places in omega (arith, old, len, more));
      few = v.few;
      limit = v.limit;
      tries = v.tries;
      senders = v.senders;
      first = v.first;
      versions = v.versions;
      dealt = v.dealt;
      counted = (let old = v.counted in let len = p.len in let before = m.reports_len in omega (arith, old, len, before));
      done = (let old = v.done in omega (arith, old));
      left = (let old = v.left in omega (arith, old));
      config = v.config;
      begins = v.begins;
      quiet = v.quiet;
    }

pub invariant_of-self-in-Ok-push : goal.invariant_of-self-in-Ok-push
invariant_of-self-in-Ok-push c =
    let i = c.self.inside in
    let v = c.self.invariant in
    let m = c.make_room.ensures in
    let p = c.in-Ok-push.ensures.ok in
    let room = on_ok _ _ c.if-is_err.ensures.negation m.reports_room in
    let lt : length (state_of i).core.held < (state_of i).config.max_held = subst (λ (s : State). length s.core.held < s.config.max_held) (sym (ap (λ (v : Seen). v.state) c.self.view_is)) c.requires in
    let n = entries_length i.held.list (writes_in i.flight.requests) in
    let hs = i.held.list in
    let count = (valid_facts i.config v.config).count.1 in
    let p14 : 2 ^ 14 ≡ 16384 = refl in
    let low : i.config.limits.count < 2 ^ 14 = omega (arith, count, p14) in
    let made = c.kept_of-kept.ensures ∙ (λ j. kept_new c.args.op (i.first + i.taken) (bytes_of (state_of c.self.inside) c.args.op) (c.clock.ensures j) i.config.limits.count) in
    let items : c.push.new.self.list ≡ hs ++ kept_new c.args.op (i.first + i.taken) (bytes_of (state_of c.self.inside) c.args.op) i.held.clock i.config.limits.count ∷ [] = p ∙ (λ j. hs ++ made j ∷ []) in
    let one = kept_new c.args.op (i.first + i.taken) (bytes_of (state_of c.self.inside) c.args.op) i.held.clock i.config.limits.count in
    let len : length c.push.new.self.list ≡ length hs + 1 = ap length items ∙ length-append hs (one ∷ []) in
    record {
      readable = readable_more i.config.attempts i.flight.next (i.first + i.taken) (bytes_of (state_of c.self.inside) c.args.op) i.held.clock i.config.limits.count hs _ i.flight.requests c.args.op v.tries.0 low (omega (arith, c.self.ranges)) refl items
          (under_same (i.first + min i.taken i.config.deal) (i.first + i.taken) hs (omega arith) v.under) v.readable;
      under = subst (λ xs. AllUnder (i.first + min (i.taken + 1) i.config.deal) xs) (sym items)
          (under_more (i.first + min i.taken i.config.deal) (i.first + min (i.taken + 1) i.config.deal) hs (kept_new c.args.op (i.first + i.taken) (bytes_of (state_of c.self.inside) c.args.op) i.held.clock i.config.limits.count) (omega arith) (omega (arith, c.if-self.false)) v.under);
      flight = v.flight;
      most = v.most;
      room = omega (arith, len, room);
      places = (let p = on_ok _ _ c.if-is_err.ensures.negation m.successes_room in omega (arith, len, p));
      few = omega (arith, len, lt, n);
      limit = v.limit;
      tries = v.tries;
      senders = v.senders;
      first = v.first;
      versions = v.versions;
      dealt = v.dealt;
      counted = (let a = c.if-self.false in omega arith);
      done = (let d = v.done in let e = c.if-self.false in omega (arith, len, d, e));
      left = (let a = ap (tries_left i.config.attempts) items in
          let b = left_more i.config.attempts hs (kept_new c.args.op (i.first + i.taken) (bytes_of (state_of c.self.inside) c.args.op) i.held.clock i.config.limits.count) in
          let l = v.left in let t = v.tries in let e = c.if-self.false in let h = halvings_few 14 i.config.limits.count low in omega arith);
      config = v.config;
      begins = v.begins;
      quiet = λ roomy.
          let h = c.kept_of-kept.result in
          let taken_in : c.push.new.self.list ≡ hs ++ h ∷ [] = p in
          let version : i.first + min i.taken i.config.deal ≤ h.version = (let e = ap (λ (x : Kept). x.version) made in omega arith) in
          subst (λ k. IsQuiet k i.mark (list_all (λ (b : Bool). b) i.closed.items) i.config.limits (items_of_kept c.push.new.self.list k c.push.new.self.list) c.less-room.result) (sym c.in-Ok-push.ensures.clock)
          (subst (IsQuiet i.held.clock i.mark (list_all (λ (b : Bool). b) i.closed.items) i.config.limits (items_of_kept c.push.new.self.list i.held.clock c.push.new.self.list)) (sym c.less-room.ensures)
          (quiet_taken i.held.clock i.mark (list_all (λ (b : Bool). b) i.closed.items) i.config.limits hs c.push.new.self.list h i.room taken_in (let e = ap (λ (x : Kept). x.cap) made in omega (arith, e))
          (under_same (i.first + min i.taken i.config.deal) h.version hs version v.under) v.quiet (ap is_roomy (sym c.less-room.ensures) ∙ roomy)));
    }

pub returns-in-Ok-push-clause-ok : goal.returns-in-Ok-push-clause-ok
returns-in-Ok-push-clause-ok c =
    let i = c.self.inside in
    let m = c.make_room.ensures in
    let fs = i.flight.requests in
    let hs = i.held.list in
    let s = (state_of i).core in
    let o = c.args.op in
    let made = c.kept_of-kept.ensures ∙ (λ j. kept_new o (i.first + i.taken) (bytes_of (state_of c.self.inside) o) (c.clock.ensures j) i.config.limits.count) in
    let items : c.push.new.self.list ≡ hs ++ kept_new o (i.first + i.taken) (bytes_of (state_of c.self.inside) c.args.op) i.held.clock i.config.limits.count ∷ [] = c.in-Ok-push.ensures.ok ∙ (λ j. hs ++ made j ∷ []) in
    let held = ap (λ xs. entries xs (writes_in fs)) items ∙ entries_new s hs (writes_in fs) o (bytes_of (state_of c.self.inside) c.args.op) in
    let reports = ap (map report_of) m.reports ∙ with_none (map report_of i.reports.items) in
    let successes = m.successes in
    let t : nat_lt i.taken i.config.deal ≡ true = lt-ltb _ _ (omega (arith, c.if-self.false)) in
    (λ j. record (state_of i) { core = record s { clock = c.in-Ok-push.ensures.clock j; taken = i.taken + 1; held = held j; reports = reports j }; successes = successes j })
    ∙ (λ j. record (state_of i) { core = record s { taken = i.taken + 1; held = s.held ++ entry_if (sym t j) s o (bytes_of (state_of c.self.inside) c.args.op); reports = s.reports ++ spent_if (sym t j) o } })
    ∙ ap (λ (x : State). after_op x o) (ap (λ (v : Seen). v.state) c.self.view_is)
