use Rattle.std.proofs.Common.{[], ◌∷◌, ◌++◌, Some, sym, subst}
use Rattle.relay_keeping.specs.Histories.{names_in, places_in}
use Rattle.relay_keeping.specs.Steps.{AreTrails, with_puts}
use Rattle.relay_keeping.proofs.Following.{told_put, told_settled}
use Rattle.relay_keeping.proofs.Messages.{on_ok}
use Rattle.relay_keeping.proofs.trails.follow_told.Goals as goal

pub returns-in-Put-clause-trails : goal.returns-in-Put-clause-trails
returns-in-Put-clause-trails c =
    let k = c.args.teller in
    let fs = c.put_at.new.inputs.items in
    let ends = c.in-Put.ends in
    on_ok c.put_at.result
    (λ f puts names all.
    subst (λ t. AreTrails (with_puts puts k (places_in (Some t ∷ []))) (names ++ names_in (Some t ∷ [])) fs) (sym c.in-Put.is)
    (told_put k puts names ends.items fs (subst (λ ps. AreTrails (with_puts puts k ps) names fs) c.deref.ensures.value (f puts names all)))) c.put_at.ensures.trails

pub returns-in-Settled-clause-trails : goal.returns-in-Settled-clause-trails
returns-in-Settled-clause-trails c =
    let k = c.args.teller in
    let fs = c.settle_all.new.inputs.items in
    let more = c.in-Settled.names in
    on_ok c.settle_all.result
    (λ f puts names all.
    subst (λ t. AreTrails (with_puts puts k (places_in (Some t ∷ []))) (names ++ names_in (Some t ∷ [])) fs) (sym c.in-Settled.is)
    (told_settled k puts names more.items fs (subst (λ ns. AreTrails puts (names ++ ns) fs) c.deref-in-Settled.ensures.value (f puts names all)))) c.settle_all.ensures.trails
