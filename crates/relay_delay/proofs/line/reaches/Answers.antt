use Rattle.std.proofs.Common.{◌<◌, refl, subst, ap, ◌∙◌, ◌-◌}
use Rattle.std.specs.Prelude.{slice_index_or}
use Rattle.std.proofs.lemmas.Bool.{ltb-false}
use Rattle.relay_delay.proofs.Delaying.{last_up_to}
use Rattle.relay_delay.proofs.line.reaches.Goals as goal

pub returns-in-Some-clause-none : goal.returns-in-Some-clause-none
returns-in-Some-clause-none c = λ no rises.
    let e = c.in-Some.ensures in
    let q = c.args.line.now in
    let last = c.in-Some.last.now in
    last_up_to c.args.version q.items last rises (subst (λ n. 0 < n) q.ok.0 (e.variant.0 refl))
    (e.lookup ∙ ap (λ n. slice_index_or q.items (n - 1) last) q.ok.0)
    (ltb-false c.args.version last.version no)
