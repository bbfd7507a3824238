use Rattle.std.proofs.Common.{◌≡◌, ℕ, ◌==◌, ◌-◌, ◌+◌, ◌<◌, ◌≤◌, ◌++◌, ◌∷◌, [], refl, sym, ap, ◌∙◌, subst, ⊎_elim, false, length, take, arith}
use Rattle.std.specs.Prelude.{map, Some}
use Rattle.std.proofs.lemmas.Bool.{lt-ltb}
use Rattle.std.proofs.lemmas.List.{map-append}
use Rattle.relay_results.proofs.Lists.{apart_tests, true_or_false, equal, equal_test}
use Rattle.relay_delivery.specs.Lane.{held_of, launched_entry, writes_of_all}
use Rattle.relay_flight.specs.declared.request.Request.{Request}
use Rattle.relay_flight.specs.InFlight.{InFlight, numbered_batch, batches_of, with_request}
use Rattle.relay_flight.proofs.Numbers.{lacks_next, batches_entered}
use Rattle.relay_core.specs.Walk.{item_of_kept, launched_kept, freight}
use Rattle.relay_core.specs.State.{State, next_batch, next_entries, after_request}
use Rattle.relay_core.specs.Memory.{entries, writes_in, flying_of, is_in, Carries, HasRoom, AllUnder, tries_left, IsReadable}
use Rattle.relay_core.specs.View.{state_of}
use Rattle.relay_core.proofs.Launching.{loads, freight_is, kept_sub, loads_seen}
use Rattle.relay_core.proofs.Launched.{under_launched, rises_launched, all_launched, left_more, carries_new, carries_other, freight_fits, room_new, room_other}
use Rattle.relay_core.proofs.Batched.{batch_kept, batch_few, all_cap, few_more}
use Rattle.relay_core.proofs.Valid.{valid_facts}
use Rattle.relay_batch.specs.Batches.{IsBatch}
use Rattle.relay_core.proofs.Sending.{not_it, from_zero_on, launched_seen, none_in, writes_more_other, writes_more_here}
use Rattle.relay_core.proofs.Taken.{on_ok}
use Rattle.relay_core.proofs.Forming.{formed}
use Rattle.relay_core.specs.Quiet.{is_roomy}
use Rattle.std.specs.Prelude.{Result, Ok, Err, OnErr, List, Bool, is_some, IfSome, min, unwrap_or}
use Rattle.std.proofs.lemmas.List.{length-map}
use Rattle.relay_batch.specs.declared.item.BatchItem.{BatchItem}
use Rattle.relay_held.specs.Queues.{Holding, Rises, candidates_kept}
use Rattle.relay_core.specs.State.{all_closed}
use Rattle.relay_core.specs.Quiet.{IsQuiet}
use Rattle.relay_core.specs.Walk.{items_of_kept}
use Rattle.relay_core.proofs.Forming.{candidates_of_batch, candidates_due}
use Rattle.relay_core.proofs.Entering.{front_of, length_launched, batch_now, due_now, none_now}
use Rattle.relay_core.specs.State.{Seen}
use Rattle.relay_core.specs.State.{looked_at_least}
use Rattle.relay_core.proofs.Looking.{looked_most}
use Rattle.relay_core.proofs.Still.{sound_still}
use Rattle.relay_core.proofs.lane.Lane.request.Goals as goal

err_holds : {A E : Type 0} (r : Result A E) (P : Type 0) → P → OnErr r P
err_holds (Ok x) P p = tt
err_holds (Err e) P p = p

pub returns-then-is_roomy-clause-when : goal.returns-then-is_roomy-clause-when
returns-then-is_roomy-clause-when c =
    let i = c.self.inside in
    let roomy = sym c.is_roomy.ensures ∙ c.if-is_roomy.true in
    ap is_some (none_now (state_of i) (writes_in i.flight.requests) i.held.list i.room refl roomy (c.self.invariant.quiet roomy) ∙ ap next_batch (ap (λ (v : Seen). v.state) c.self.view_is))

pub returns-then-is_roomy-clause-after : goal.returns-then-is_roomy-clause-after
returns-then-is_roomy-clause-after c =
    let i = c.self.inside in
    let roomy = sym c.is_roomy.ensures ∙ c.if-is_roomy.true in
    ap (after_request c.args.self.now.state) (none_now (state_of i) (writes_in i.flight.requests) i.held.list i.room refl roomy (c.self.invariant.quiet roomy) ∙ ap next_batch (ap (λ (v : Seen). v.state) c.self.view_is))

pub returns-in_err-batch-clause-due : goal.returns-in_err-batch-clause-due
returns-in_err-batch-clause-due c =
    let i = c.self.inside in
    let closed = c.closed-all_closed.ensures ∙ ap all_closed (sym (ap (λ (v : Seen). v.state) c.self.view_is)) in
    err_holds c.from_residual.result _
    (sym (due_now (state_of i) (writes_in i.flight.requests) i.held.list c.closed-all_closed.result refl closed (omega (arith, c.flying.ensures, c.if-flying-self.false, length-map i.flight.requests numbered_batch)) ∙ ap (λ (v : Seen). is_some (next_batch v.state)) c.self.view_is) ∙ c.in_err-batch.ensures.due)

pub returns-in_err-batch-clause-candidates : goal.returns-in_err-batch-clause-candidates
returns-in_err-batch-clause-candidates c =
    let i = c.self.inside in
    let closed = c.closed-all_closed.ensures ∙ ap all_closed (sym (ap (λ (v : Seen). v.state) c.self.view_is)) in
    err_holds c.from_residual.result _
    (candidates_due c.args.self.now.state (sym (due_now (state_of i) (writes_in i.flight.requests) i.held.list c.closed-all_closed.result refl closed (omega (arith, c.flying.ensures, c.if-flying-self.false, length-map i.flight.requests numbered_batch)) ∙ ap (λ (v : Seen). is_some (next_batch v.state)) c.self.view_is) ∙ c.in_err-batch.ensures.due))

pub invariant_of-self-in_default : goal.invariant_of-self-in_default
invariant_of-self-in_default c =
    let a = c.self.inside in
    sound_still a c.due_batch.new.held c.in_ok-batch.field-0.room c.in_ok-batch.ensures.held c.self.invariant
    (λ roomy. subst (λ (b : Bool). IsQuiet a.held.clock a.mark b a.config.limits (items_of_kept a.held.list a.held.clock a.held.list) c.in_ok-batch.field-0.room) (c.closed-all_closed.ensures ∙ ap all_closed (sym (ap (λ (v : Seen). v.state) c.self.view_is)))
    (c.in_ok-batch.ensures.quiet roomy))

pub returns-in_default-clause-when : goal.returns-in_default-clause-when
returns-in_default-clause-when c =
    let i = c.self.inside in
    let closed = c.closed-all_closed.ensures ∙ ap all_closed (sym (ap (λ (v : Seen). v.state) c.self.view_is)) in
    let batch = batch_now (state_of i) (writes_in i.flight.requests) i.held.list c.closed-all_closed.result c.in_ok-batch.field-0.batch refl closed (omega (arith, c.flying.ensures, c.if-flying-self.false, length-map i.flight.requests numbered_batch)) c.in_ok-batch.ensures.batch in
    ap is_some (sym c.in_default.is ∙ batch ∙ ap next_batch (ap (λ (v : Seen). v.state) c.self.view_is))

pub returns-in_default-clause-after : goal.returns-in_default-clause-after
returns-in_default-clause-after c =
    let i = c.self.inside in
    let closed = c.closed-all_closed.ensures ∙ ap all_closed (sym (ap (λ (v : Seen). v.state) c.self.view_is)) in
    let batch = batch_now (state_of i) (writes_in i.flight.requests) i.held.list c.closed-all_closed.result c.in_ok-batch.field-0.batch refl closed (omega (arith, c.flying.ensures, c.if-flying-self.false, length-map i.flight.requests numbered_batch)) c.in_ok-batch.ensures.batch in
    (λ j. state_of (record i { held = c.in_ok-batch.ensures.held j })) ∙ (ap (λ (v : Seen). v.state) c.self.view_is) ∙ ap (after_request c.args.self.now.state) (sym c.in_default.is ∙ batch ∙ ap next_batch (ap (λ (v : Seen). v.state) c.self.view_is))

pub returns-in_err-writes-clause-candidates : goal.returns-in_err-writes-clause-candidates
returns-in_err-writes-clause-candidates c =
    let i = c.self.inside in
    let closed = c.closed-all_closed.ensures ∙ ap all_closed (sym (ap (λ (v : Seen). v.state) c.self.view_is)) in
    let batch = batch_now (state_of i) (writes_in i.flight.requests) i.held.list c.closed-all_closed.result c.in_ok-batch.field-0.batch refl closed (omega (arith, c.flying.ensures, c.if-flying-self.false, length-map i.flight.requests numbered_batch)) c.in_ok-batch.ensures.batch in
    err_holds c.from_residual-in_err-writes.result _ (candidates_of_batch c.args.self.now.state c.in-Some.batch (sym (batch ∙ ap next_batch (ap (λ (v : Seen). v.state) c.self.view_is)) ∙ c.in-Some.is))

pub returns-in_err-writes-clause-due : goal.returns-in_err-writes-clause-due
returns-in_err-writes-clause-due c =
    let i = c.self.inside in
    let closed = c.closed-all_closed.ensures ∙ ap all_closed (sym (ap (λ (v : Seen). v.state) c.self.view_is)) in
    let batch = batch_now (state_of i) (writes_in i.flight.requests) i.held.list c.closed-all_closed.result c.in_ok-batch.field-0.batch refl closed (omega (arith, c.flying.ensures, c.if-flying-self.false, length-map i.flight.requests numbered_batch)) c.in_ok-batch.ensures.batch in
    err_holds c.from_residual-in_err-writes.result _ (sym (ap is_some (sym c.in-Some.is ∙ batch ∙ ap next_batch (ap (λ (v : Seen). v.state) c.self.view_is))))

pub launch-requires-clause-count : goal.launch-requires-clause-count
launch-requires-clause-count c =
    let i = c.self.inside in
    let v = c.self.invariant in
    let closed = c.closed-all_closed.ensures ∙ ap all_closed (sym (ap (λ (v : Seen). v.state) c.self.view_is)) in
    let batch = batch_now (state_of i) (writes_in i.flight.requests) i.held.list c.closed-all_closed.result c.in_ok-batch.field-0.batch refl closed (omega (arith, c.flying.ensures, c.if-flying-self.false, length-map i.flight.requests numbered_batch)) c.in_ok-batch.ensures.batch in
    let front = front_of (state_of i) (writes_in i.flight.requests) i.held.list c.in-Some.batch refl v.readable.rises (sym batch ∙ c.in-Some.is) in
    let few = front.few in
    let n = ap length c.items-2.ensures.items in
    let same = ap (λ (h : Holding). length (candidates_kept h.list h.clock)) c.in_ok-batch.ensures.held in
    omega (arith, few, n, same)

pub launch-requires-clause-rises : goal.launch-requires-clause-rises
launch-requires-clause-rises c = subst (λ (h : Holding). Rises h.list) (sym c.in_ok-batch.ensures.held) c.self.invariant.readable.rises

pub returns-clause-when : goal.returns-clause-when
returns-clause-when c =
    let i = c.self.inside in
    let closed = c.closed-all_closed.ensures ∙ ap all_closed (sym (ap (λ (v : Seen). v.state) c.self.view_is)) in
    let batch = batch_now (state_of i) (writes_in i.flight.requests) i.held.list c.closed-all_closed.result c.in_ok-batch.field-0.batch refl closed (omega (arith, c.flying.ensures, c.if-flying-self.false, length-map i.flight.requests numbered_batch)) c.in_ok-batch.ensures.batch in
    ap is_some (sym c.in-Some.is ∙ batch ∙ ap next_batch (ap (λ (v : Seen). v.state) c.self.view_is))

pub returns-clause-after : goal.returns-clause-after
returns-clause-after c =
    let i = c.self.inside in
    let v = c.self.invariant in
    let closed = c.closed-all_closed.ensures ∙ ap all_closed (sym (ap (λ (v : Seen). v.state) c.self.view_is)) in
    let batch = batch_now (state_of i) (writes_in i.flight.requests) i.held.list c.closed-all_closed.result c.in_ok-batch.field-0.batch refl closed (omega (arith, c.flying.ensures, c.if-flying-self.false, length-map i.flight.requests numbered_batch)) c.in_ok-batch.ensures.batch in
    let fs = i.flight.requests in
    let hs = i.held.list in
    let f = writes_in fs in
    let n = i.flight.next in
    let max = i.config.attempts in
    let s = state_of i in
    let next : next_batch s ≡ Some c.in-Some.batch = sym batch ∙ c.in-Some.is in
    let x = formed s f hs c.in-Some.batch refl next in
    let ps = x.ops in
    let one : Request = record { number = n; batch = c.in-Some.batch; writes = c.launch.new.writes } in
    let entered : c.enter.new.self ≡ with_request one i.flight = on_ok c.enter.result _ (c.enter.ensures.room ∙ lt-ltb _ _ (let few = x.few in let m = v.most in let l = length-map fs numbered_batch in omega (arith, few, m, l))) c.enter.ensures.ok in
    let cs = candidates_kept hs i.held.clock in
    let front = front_of s f hs c.in-Some.batch refl v.readable.rises next in
    let items : map item_of_kept (take (length c.items-2.result.now) cs) ≡ map item_of_kept ps = ap (λ (xs : List BatchItem). map item_of_kept (take (length xs) cs)) c.items-2.ensures.items ∙ front.ones ∙ x.items_are in
    let is_n : c.next-number.result ≡ n = c.next-number.ensures.next in
    let sent_held = c.launch.ensures.held ∙ (λ j. launched_kept (c.in_ok-batch.ensures.held j).clock (c.in_ok-batch.ensures.held j).list c.next-number.result 0 (map item_of_kept (take (length c.items-2.result.now) (candidates_kept (c.in_ok-batch.ensures.held j).list (c.in_ok-batch.ensures.held j).clock)))) in
    let sent_writes = c.launch.ensures.writes ∙ (λ j. c.in_ok-writes.ensures.items j ++ freight (c.in_ok-batch.ensures.held j).list (map item_of_kept (take (length c.items-2.result.now) (candidates_kept (c.in_ok-batch.ensures.held j).list (c.in_ok-batch.ensures.held j).clock)))) in
    let begun = v.flight.begun in
    let none : is_in n fs ≡ false = none_in n fs (lacks_next 1 n fs v.flight.numbered) in
    let f' = writes_in c.enter.new.self.requests in
    let flown : c.enter.new.self.requests ≡ fs ++ one ∷ [] = ap (λ (y : InFlight). y.requests) entered in
    let written : c.launch.new.writes.items ≡ loads ps = sent_writes ∙ (λ j. freight hs (items j)) ∙ freight_is hs ps v.readable.rises x.sub x.wait in
    let same : (m : ℕ) → m < n → f' m ≡ f m = λ m lt. ap (λ xs. writes_in xs m) flown ∙ writes_more_other fs one m (not_it n m (λ e. omega (arith, e, lt))) in
    let here : f' n ≡ loads ps = ap (λ xs. writes_in xs n) flown ∙ writes_more_here fs one none ∙ written in
    let held : entries c.launch.new.held.list f' ≡ map (launched_entry i.held.clock (n - 1) (held_of (next_entries s))) (entries hs f) =
    ap (λ xs. entries xs f') (sent_held ∙ (λ j. launched_kept i.held.clock hs (is_n j) 0 (items j)))
    ∙ launched_seen i.held.clock max n v.tries.1 f f' same hs ps 0 [] [] refl here tt (from_zero_on hs) v.readable.rises v.readable.kept x.sub x.wait
    ∙ ap (λ es. map (launched_entry i.held.clock (n - 1) (held_of es)) (entries hs f)) (sym x.entries_are) in
    let sent : c.launch.new.writes.items ≡ writes_of_all (next_entries s) = written ∙ loads_seen max n f ps (kept_sub max n ps hs x.sub v.readable.kept) x.wait ∙ ap writes_of_all (sym x.entries_are) in
    let flying = ap (map flying_of) flown ∙ map-append flying_of fs (one ∷ []) ∙ (λ j. map flying_of fs ++ record { request = n - 1; writes = sent j } ∷ []) in
    let requests : c.enter.new.self.next - 1 ≡ n - 1 + 1 = (let e = ap (λ (y : InFlight). y.next) entered in omega (arith, e, begun)) in
    let flights = ap batches_of entered ∙ batches_entered one i.flight refl in
    (λ j. record s { core = record s.core { clock = (c.launch.ensures.clock ∙ ap (λ (h : Holding). h.clock) c.in_ok-batch.ensures.held) j; requests = requests j; held = held j; flying = flying j }; flights = flights j })
    ∙ ap (λ (y : State). after_request y (Some c.in-Some.batch)) (ap (λ (v : Seen). v.state) c.self.view_is)
    ∙ ap (after_request c.args.self.now.state) (sym c.in-Some.is ∙ batch ∙ ap next_batch (ap (λ (v : Seen). v.state) c.self.view_is))

pub invariant_of-self-2 : goal.invariant_of-self-2
invariant_of-self-2 c =
    let i = c.self.inside in
    let v = c.self.invariant in
    let closed = c.closed-all_closed.ensures ∙ ap all_closed (sym (ap (λ (v : Seen). v.state) c.self.view_is)) in
    let batch = batch_now (state_of i) (writes_in i.flight.requests) i.held.list c.closed-all_closed.result c.in_ok-batch.field-0.batch refl closed (omega (arith, c.flying.ensures, c.if-flying-self.false, length-map i.flight.requests numbered_batch)) c.in_ok-batch.ensures.batch in
    let fs = i.flight.requests in
    let hs = i.held.list in
    let f = writes_in fs in
    let n = i.flight.next in
    let max = i.config.attempts in
    let s = state_of i in
    let sends : next_batch s ≡ Some c.in-Some.batch = sym batch ∙ c.in-Some.is in
    let x = formed s f hs c.in-Some.batch refl sends in
    let ps = x.ops in
    let one : Request = record { number = n; batch = c.in-Some.batch; writes = c.launch.new.writes } in
    let entered : c.enter.new.self ≡ with_request one i.flight = on_ok c.enter.result _ (c.enter.ensures.room ∙ lt-ltb _ _ (let few = x.few in let m = v.most in let l = length-map fs numbered_batch in omega (arith, few, m, l))) c.enter.ensures.ok in
    let cs = candidates_kept hs i.held.clock in
    let front = front_of s f hs c.in-Some.batch refl v.readable.rises sends in
    let items : map item_of_kept (take (length c.items-2.result.now) cs) ≡ map item_of_kept ps = ap (λ (xs : List BatchItem). map item_of_kept (take (length xs) cs)) c.items-2.ensures.items ∙ front.ones ∙ x.items_are in
    let is_n : c.next-number.result ≡ n = c.next-number.ensures.next in
    let sent_held = c.launch.ensures.held ∙ (λ j. launched_kept (c.in_ok-batch.ensures.held j).clock (c.in_ok-batch.ensures.held j).list c.next-number.result 0 (map item_of_kept (take (length c.items-2.result.now) (candidates_kept (c.in_ok-batch.ensures.held j).list (c.in_ok-batch.ensures.held j).clock)))) in
    let sent_writes = c.launch.ensures.writes ∙ (λ j. c.in_ok-writes.ensures.items j ++ freight (c.in_ok-batch.ensures.held j).list (map item_of_kept (take (length c.items-2.result.now) (candidates_kept (c.in_ok-batch.ensures.held j).list (c.in_ok-batch.ensures.held j).clock)))) in
    let begun = v.flight.begun in
    let none : is_in n fs ≡ false = none_in n fs (lacks_next 1 n fs v.flight.numbered) in
    let flown : c.enter.new.self.requests ≡ fs ++ one ∷ [] = ap (λ (y : InFlight). y.requests) entered in
    let held : c.launch.new.held.list ≡ launched_kept i.held.clock hs n 0 (map item_of_kept ps) = sent_held ∙ (λ j. launched_kept i.held.clock hs (is_n j) 0 (items j)) in
    let written : c.launch.new.writes.items ≡ freight hs (map item_of_kept ps) = sent_writes ∙ (λ j. freight hs (items j)) in
    let next : c.enter.new.self.next ≡ i.flight.next + 1 = ap (λ (y : InFlight). y.next) entered in
    let len_held : length c.launch.new.held.list ≡ length hs = ap length held ∙ length_launched i.held.clock n hs 0 (map item_of_kept ps) in
    let later : n + 1 ≡ c.enter.new.self.next = sym next in
    let carries : (m : ℕ) → Carries m 0 (launched_kept i.held.clock hs n 0 (map item_of_kept ps)) (writes_in (fs ++ one ∷ []) m) =
    λ m. ⊎_elim {C = Carries m 0 (launched_kept i.held.clock hs n 0 (map item_of_kept ps)) (writes_in (fs ++ one ∷ []) m)}
    (λ t.
    let e : m ≡ n = equal m n t in
    subst (λ k. Carries k 0 (launched_kept i.held.clock hs n 0 (map item_of_kept ps)) (writes_in (fs ++ one ∷ []) k)) (sym e)
    (subst (λ ws. Carries n 0 (launched_kept i.held.clock hs n 0 (map item_of_kept ps)) ws) (sym (writes_more_here fs one none ∙ written))
    (carries_new i.held.clock max n hs 0 (map item_of_kept ps) v.readable.kept)))
    (λ t.
    let apart : (n == m) ≡ false = not_it n m (λ e. let k = equal_test m n (sym e) in absurd (cc)) in
    subst (λ ws. Carries m 0 (launched_kept i.held.clock hs n 0 (map item_of_kept ps)) ws) (sym (writes_more_other fs one m apart))
    (carries_other i.held.clock max n m hs 0 (map item_of_kept ps) 0 (writes_in fs m) t (v.readable.carries m)))
    (true_or_false (m == n)) in
    let within = subst (IsBatch i.config.limits) x.items_are (batch_kept s c.in-Some.batch sends) in
    let fits = freight_fits hs (map item_of_kept ps) in
    let size = batch_few i.config.limits (map item_of_kept ps) within in
    let count = (valid_facts i.config v.config).count.1 in
    let of_writes = ap length written in
    let len = length (freight hs (map item_of_kept ps)) in
    let caps : (m : ℕ) → HasRoom m (length (writes_in (fs ++ one ∷ []) m)) (launched_kept i.held.clock hs n 0 (map item_of_kept ps)) =
    λ m. ⊎_elim {C = HasRoom m (length (writes_in (fs ++ one ∷ []) m)) (launched_kept i.held.clock hs n 0 (map item_of_kept ps))}
    (λ t.
    let e = equal m n t in
    subst (λ k. HasRoom k (length (writes_in (fs ++ one ∷ []) k)) (launched_kept i.held.clock hs n 0 (map item_of_kept ps))) (sym e)
    (subst (λ ws. HasRoom n (length ws) (launched_kept i.held.clock hs n 0 (map item_of_kept ps))) (sym (writes_more_here fs one none ∙ written))
    (room_new i.held.clock max n len hs ps 0 v.readable.kept v.readable.rises x.sub x.wait (all_cap i.config.limits ps len within fits))))
    (λ t.
    let apart : (n == m) ≡ false = not_it n m (λ e. let k = equal_test m n (sym e) in absurd (cc)) in
    subst (λ ws. HasRoom m (length ws) (launched_kept i.held.clock hs n 0 (map item_of_kept ps))) (sym (writes_more_other fs one m apart))
    (room_other i.held.clock n m (length (writes_in fs m)) hs 0 (map item_of_kept ps) t (v.readable.caps m)))
    (true_or_false (m == n)) in
    record {
      readable = subst (λ k. IsReadable max k c.launch.new.held.list c.enter.new.self.requests) later
          (subst (λ xs. IsReadable max (n + 1) xs c.enter.new.self.requests) (sym held)
          (subst (λ xs. IsReadable max (n + 1) (launched_kept i.held.clock hs n 0 (map item_of_kept ps)) xs) (sym flown) (record {
            kept = all_launched i.held.clock max n hs 0 (map item_of_kept ps) begun v.tries.1 v.readable.kept;
            rises = rises_launched i.held.clock n hs 0 (map item_of_kept ps) v.readable.rises;
            carries = carries;
            caps = caps;
            few = few_more fs one v.readable.few (omega (arith, of_writes, fits, size, count));
          })));
      under = subst (AllUnder _) (sym held) (under_launched i.held.clock n _ hs 0 (map item_of_kept ps) v.under);
      flight = c.enter.ensures.kept;
      most = ap (λ (y : InFlight). y.max) entered ∙ v.most;
      room = (let p = v.room in omega (arith, len_held, p));
      places = (let p = v.places in omega (arith, len_held, p));
      few = (let p = v.few in omega (arith, len_held, p));
      limit = v.limit;
      tries = v.tries;
      senders = v.senders;
      first = v.first;
      versions = v.versions;
      dealt = v.dealt;
      counted = v.counted;
      done = (let p = v.done in omega (arith, len_held, p));
      left = (let a = ap (tries_left max) held in
          let b = left_more i.held.clock max n hs ps v.tries.1 v.readable.kept v.readable.rises x.sub x.wait (subst (λ xs. 0 < length xs) x.items_are x.some) in
          let l = v.left in omega (arith, a, b, l, next, begun));
      config = v.config;
      begins = v.begins;
      quiet = λ roomy. absurd (apart_tests (ap is_roomy (sym c.no_room-self-inside.ensures) ∙ roomy));
    }

pub returns-in_err-batch-clause-looks : goal.returns-in_err-batch-clause-looks
returns-in_err-batch-clause-looks c = looked_most c.self.inside c.args.self.now c.due_batch.new.held.looks c.self.view_is c.in_err-batch.ensures.looks

pub returns-in_default-clause-looks : goal.returns-in_default-clause-looks
returns-in_default-clause-looks c = looked_most c.self.inside c.args.self.now c.due_batch.new.held.looks c.self.view_is c.in_ok-batch.ensures.looks

pub returns-in_err-writes-clause-looks : goal.returns-in_err-writes-clause-looks
returns-in_err-writes-clause-looks c = looked_most c.self.inside c.args.self.now c.due_batch.new.held.looks c.self.view_is c.in_ok-batch.ensures.looks

pub returns-clause-looks : goal.returns-clause-looks
returns-clause-looks c = looked_most c.self.inside c.args.self.now c.launch.new.held.looks c.self.view_is (let l = c.launch.ensures.looks in let b = c.in_ok-batch.ensures.looks in omega (arith, l, b))

pub returns-clause-looks_sent : goal.returns-clause-looks_sent
returns-clause-looks_sent c =
    let i = c.self.inside in
    let closed = c.closed-all_closed.ensures ∙ ap all_closed (sym (ap (λ (v : Seen). v.state) c.self.view_is)) in
    let batch = batch_now (state_of i) (writes_in i.flight.requests) i.held.list c.closed-all_closed.result c.in_ok-batch.field-0.batch refl closed (omega (arith, c.flying.ensures, c.if-flying-self.false, length-map i.flight.requests numbered_batch)) c.in_ok-batch.ensures.batch in
    let next : Some c.in-Some.batch ≡ next_batch c.args.self.now.state = sym c.in-Some.is ∙ batch ∙ ap next_batch (ap (λ (v : Seen). v.state) c.self.view_is) in
    let least : min (i.held.looks + length c.in-Some.batch) 18446744073709551615 ≤ c.due_batch.new.held.looks = subst (λ o. IfSome o (λ (b : List BatchItem). min (i.held.looks + length b) 18446744073709551615 ≤ c.due_batch.new.held.looks)) c.in-Some.is c.in_ok-batch.ensures.looked in
    let same : looked_at_least c.args.self.now ≡ min (i.held.looks + length c.in-Some.batch) 18446744073709551615 = λ j. min (sym (ap (λ (v : Seen). v.looks) c.self.view_is) j + length (unwrap_or (sym next j) [])) 18446744073709551615 in
    let kept = c.launch.ensures.looks in
    omega (arith, least, same, kept)
