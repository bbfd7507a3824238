use Rattle.std.proofs.Common.{◌≡◌, ◌+◌, [], ◌∷◌, ◌++◌, length, map, refl, ap, sym, ◌∙◌, inl, inr, arith, append_assoc, vec_len}
use Rattle.std.specs.Vec.Iter.{into_iter_items}
use Rattle.relay_front.specs.Operations.{Write}
use Rattle.relay_producer.specs.States.{ProducerState}
use Rattle.relay_serve.specs.Settling.{WasPut, WasHeard, puts_in}
use Rattle.relay_serve.proofs.Noting.{fits_empty}
use Rattle.relay_serve.proofs.Putting.{came_none, came_heard, came_put, some_full, some_gone, puts_later, puts_more, lanes_kept}
use Rattle.relay_serve.proofs.Staying.{stays_same, stays_on}
use Rattle.relay_serve.proofs.settler.Settler.put_all.Goals as goal

pub writes-init : goal.writes-init
writes-init g c =
    let old = c.args.self.now.producer in
    let batch = c.args.batch.now in
    let rest : into_iter_items c.into_iter-key-iterator.result ≡ c.args.writes.items = c.into_iter-key-iterator.ensures.into_iter_gives.0 in
    let none : vec_len batch.items ≡ 0 = batch.items.ok.0 ∙ ap length c.requires.none in
    record {
      stays = stays_same old;
      len = ap (λ l. vec_len batch.items + length l) rest ∙ ap (λ n. vec_len batch.items + n) (sym c.args.writes.ok.0);
      room = refl;
      came = ([], sym rest, came_none old batch none (fits_empty _ _ batch c.requires.none));
    }

pub writes-preserved : goal.writes-preserved
writes-preserved g c =
    let old = c.args.self.now.producer in
    let i = c.writes.invariant in
    let step = c.in-Some.ensures.steps.0 in
    let became = c.in-Done.ensures.became in
    let before = i.came.0 in
    let w : Write = (c.in-Some.key, c.in-Some.action) in
    let left = into_iter_items c.next.new.self in
    let keeps = c.in-Done.ensures.keeps in
    let es = before ++ map WasHeard became.1.heard in
    let mid = came_heard old c.writes.self.producer became.0 before c.writes.batch c.put.new.batch i.came.2 became.1 keeps.len in
    let one : length (into_iter_items c.writes.key-iterator) ≡ length left + 1 = omega (arith, ap length step) in
    record {
      stays = stays_on _ _ _ i.stays c.in-Done.ensures.stays;
      len = omega (arith, c.add.ensures.len, keeps.len, one, i.len);
      room = c.add.ensures.room ∙ keeps.room ∙ i.room;
      came = (
        es ++ WasPut w ∷ [],
        i.came.1 ∙ ap (λ l. puts_in before ++ l) step ∙ sym (append_assoc (puts_in before) (w ∷ []) left)
            ∙ ap (λ l. (l ++ w ∷ []) ++ left) (sym (puts_later before became.1.heard)) ∙ ap (λ l. l ++ left) (sym (puts_more es w)),
        came_put old became.0 c.put.new.self.producer es c.in-Some.key c.in-Some.action _ c.put.new.batch c.add.new.self
            (ap (λ (p : ProducerState). length p.ends) became.1.same ∙ lanes_kept old c.writes.self.producer i.stays) mid became.2 c.add.ensures.added c.add.ensures.len,
      );
    }

pub returns-in-Late-clause-puts : goal.returns-in-Late-clause-puts
returns-in-Late-clause-puts g c =
    let old = c.args.self.now.producer in
    let i = c.writes.invariant in
    let became = c.in-Late.ensures.became in
    let before = i.came.0 in
    let w : Write = (c.in-Some.key, c.in-Some.action) in
    let left = into_iter_items c.next.new.self in
    let es = before ++ map WasHeard became.1.heard in
    let mid = came_heard old c.writes.self.producer became.0 before c.writes.batch c.put.new.batch i.came.2 became.1 c.in-Late.ensures.keeps.len in
    let is = i.came.1 ∙ ap (λ l. puts_in before ++ l) c.in-Some.ensures.steps.0 ∙ ap (λ l. l ++ w ∷ left) (sym (puts_later before became.1.heard)) in
    some_full old became.0 c.put.new.self.producer es w left c.args.writes.items c.put.new.batch is (became.1.window ∙ i.stays.window) mid became.2

pub returns-in-Gone-clause-puts : goal.returns-in-Gone-clause-puts
returns-in-Gone-clause-puts g c =
    let old = c.args.self.now.producer in
    let i = c.writes.invariant in
    let became = c.in-Gone.ensures.became in
    let before = i.came.0 in
    let w : Write = (c.in-Some.key, c.in-Some.action) in
    let left = into_iter_items c.next.new.self in
    let es = before ++ map WasHeard became.1.heard in
    let mid = came_heard old c.writes.self.producer became.0 before c.writes.batch c.put.new.batch i.came.2 became.1 c.in-Gone.ensures.keeps.len in
    let is = i.came.1 ∙ ap (λ l. puts_in before ++ l) c.in-Some.ensures.steps.0 ∙ ap (λ l. l ++ w ∷ left) (sym (puts_later before became.1.heard)) in
    some_gone old became.0 c.put.new.self.producer es w left c.args.writes.items c.put.new.batch is mid became.2

pub returns-in-Late-clause-others : goal.returns-in-Late-clause-others
returns-in-Late-clause-others g c = inl refl

pub returns-in-Gone-clause-others : goal.returns-in-Gone-clause-others
returns-in-Gone-clause-others g c = inr refl
