use Rattle.std.proofs.Common.{◌∙◌, inl, inr, ⊎_elim}
use Rattle.std.specs.Prelude.{is_ok}
use Rattle.relay_serve.proofs.Repeats.{pushed_cases}
use Rattle.relay_serve.proofs.remembering.Remembering.offer.Goals as goal

pub returns-clause-given : goal.returns-clause-given
returns-clause-given g c = λ e m. ⊎_elim (λ l. inl l) (λ is. inr (is ∙ c.in-Some.ensures)) (pushed_cases (is_ok c.push.result) e _ _ c.in-Some.entry c.push.ensures.items m)
