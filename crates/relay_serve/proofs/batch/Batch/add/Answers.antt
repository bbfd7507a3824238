use Rattle.std.proofs.Common.{refl, ◌∙◌, arith}
use Rattle.relay_serve.proofs.Noting.{fits_put}
use Rattle.relay_serve.proofs.batch.Batch.add.Goals as goal

pub returns-clause-added : goal.returns-clause-added
returns-clause-added c = λ lanes n events w fits is lane.
    fits_put lanes n events w c.args.number c.args.lane c.args.self.now _ _ refl refl lane c.push_reserved.ensures.items
    (λ e. c.first_with-self.ensures.none (c.len.ensures ∙ e)) (λ k. c.first_with-self.ensures.some (omega (arith, k, c.len.ensures))) fits is
