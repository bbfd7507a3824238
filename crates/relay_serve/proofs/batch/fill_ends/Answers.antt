use Rattle.std.proofs.Common.{[], ◌∷◌, ◌++◌, ap, ◌∙◌, arith, append_assoc}
use Rattle.relay_serve.proofs.Noting.{all_more}
use Rattle.relay_serve.proofs.batch.fill_ends.Goals as goal

pub places-preserved : goal.places-preserved
places-preserved c =
    let i = c.places.invariant.filled in
    let e = c.copy_end.result in
    record {
      len = omega (arith, c.push_reserved.ensures.len, c.places.invariant.len);
      filled = (i.0 ++ e ∷ [], c.push_reserved.ensures.items ∙ ap (λ l. l ++ e ∷ []) i.1 ∙ append_assoc c.args.ends.now.items i.0 (e ∷ []), all_more c.args.end.now i.0 e i.2 (c.copy_end.ensures c.requires.unput));
      room = c.push_reserved.ensures.capacity ∙ c.places.invariant.room;
    }
