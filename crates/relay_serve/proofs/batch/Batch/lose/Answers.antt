use Rattle.std.proofs.Common.{◌≡◌, length, ap, ◌∙◌, arith, vec_len}
use Rattle.std.proofs.lemmas.List.{with_items_is}
use Rattle.relay_serve.specs.Batches.{each_noted, all_in}
use Rattle.relay_serve.proofs.batch.Batch.lose.Goals as goal

pub returns-clause-noted : goal.returns-clause-noted
returns-clause-noted c =
    let batch = c.args.self.now in
    let len : length c.lose_in-self.new.items ≡ vec_len batch.items = omega (arith, c.lose_in-self.auto.items, c.as_mut_slice.ensures.len) in
    with_items_is batch.items c.lose_in-self.new.items len ∙ c.lose_in-self.ensures batch.first ∙ ap (each_noted (all_in c.args.lane) batch.first) c.as_mut_slice.ensures.value
