use Rattle.std.proofs.Common.{◌≡◌, ◌∙◌, [], ap, sym, subst, map, vec_len}
use Rattle.relay_core.specs.declared.config.RelayConfig.{RelayConfig}
use Rattle.relay_producer.specs.Ends.{identities, open_puts}
use Rattle.relay_telling.specs.New.{channels_of, new_take}
use Rattle.relay_threads.specs.Relay.{NoneOut, AreNew, new_control}
use Rattle.relay_wires.specs.Numbers.{numbers}
use Rattle.relay_example.proofs.Handles.{known, is_new, none_taken, producer_names, control_names, rows_fit}
use Rattle.relay_example.proofs.deliver.Goals as goal

pub new-producer-requires-clause-put : goal.new-producer-requires-clause-put
new-producer-requires-clause-put g c =
    let r = c.in_ok-relay in
    let new = known (λ t. AreNew t.0.queues 1 0 t.1.items) c.start_telling.result _ r.ensures.value c.start_telling.ensures.producers in
    let one = known (λ t. vec_len t.1 ≡ 1) c.start_telling.result _ r.ensures.value c.start_telling.ensures.count in
    ap (λ p. p.put) (is_new r.relay.queues 1 r.producers.items c.pop.new.self.items c.in_ok-pop.field-0 new c.in_ok-pop.ensures.items (sym r.producers.ok.0 ∙ one))

pub new-producer-requires-clause-taken : goal.new-producer-requires-clause-taken
new-producer-requires-clause-taken g c =
    let t = c.in_ok-tells in
    let new = known (λ u. u.1.items ≡ map (new_take 1) (channels_of u.1.items)) c.telling.result _ t.ensures.value c.telling.ensures.takes in
    let one = known (λ u. vec_len u.1 ≡ 1) c.telling.result _ t.ensures.value c.telling.ensures.producers in
    none_taken 1 t.takes.items c.pop-2.new.self.items c.in_ok-pop-2.field-0 new c.in_ok-pop-2.ensures.items (sym t.takes.ok.0 ∙ one)

pub finish-requires-clause-count : goal.finish-requires-clause-count
finish-requires-clause-count g c κs within =
    let config = known (λ t. t.0.config ≡ _) c.start_telling.result _ c.in_ok-relay.ensures.value c.start_telling.ensures.config in
    let one = known (λ v. vec_len v ≡ 1) c.from_array-2.result _ c.in_ok-closed.ensures.value c.from_array-2.ensures.len in
    one ∙ sym (ap (λ (k : RelayConfig). k.producers) config)

pub finish-requires-clause-rows : goal.finish-requires-clause-rows
finish-requires-clause-rows g c κs within =
    let r = c.in_ok-relay in
    let new = known (λ t. AreNew t.0.queues 1 0 t.1.items) c.start_telling.result _ r.ensures.value c.start_telling.ensures.producers in
    let one = known (λ t. vec_len t.1 ≡ 1) c.start_telling.result _ r.ensures.value c.start_telling.ensures.count in
    let is = is_new r.relay.queues 1 r.producers.items c.pop.new.self.items c.in_ok-pop.field-0 new c.in_ok-pop.ensures.items (sym r.producers.ok.0 ∙ one) in
    let control = known (λ t. t.2 ≡ new_control t.0.queues 1) c.start_telling.result _ r.ensures.value c.start_telling.ensures.control in
    let alone = known (λ v. v.items ≡ _) c.from_array-2.result _ c.in_ok-closed.ensures.value c.from_array-2.ensures.items in
    let put = ap (λ w. identities (open_puts w.producer.ends)) c.new-producer.ensures in
    rows_fit r.relay.queues c.in_ok-closed.closed.items _ c.close-control.result alone
    (c.close-producer.ensures.ends ∙ c.put_all.ensures ∙ put ∙ producer_names r.relay.queues 1 c.in_ok-pop.field-0 is)
    (c.close-control.ensures.ends ∙ control_names r.relay.queues r.control control)

pub start_telling-requires-after_bounds : goal.start_telling-requires-after_bounds
start_telling-requires-after_bounds g c κs within =
    let all = known (λ v. v.items ≡ _) c.from_array.result _ c.in_ok-wires.ensures.value c.from_array.ensures.items in
    let is = known (λ w. (w.out ≡ []) × (w.peer ≡ c.new-index.result)) c.wire_to.result _ c.in_ok-ok.ensures.value c.wire_to.ensures.begun in
    subst (λ ws. NoneOut (λ w. numbers w.out) ws) (sym all) (ap numbers is.0, tt)
