use Rattle.std.proofs.Common.{ap, sym, ◌∙◌, ◌++◌, length, List, ℕ}
use Rattle.relay_sift.specs.Sifting.{Sifting}
use Rattle.relay_sift.proofs.Sifting.{passes_held}
use Rattle.relay_sift.proofs.sifted.Sifted.pass_held.Goals as goal

pub returns-in-Ok-clause-ok : goal.returns-in-Ok-clause-ok
returns-in-Ok-clause-ok g c =
    let passing = ap (λ (s : Sifting). s.passing) c.self.view_is ∙ c.requires.passing in
    let added = c.in-Ok.ensures.ok ∙ ap (λ (x : List ℕ). c.self.inside.out ++ x) c.held.ensures in
    rw (sym c.self.view_is) (passes_held _ _ _ (length c.held-count.result.now) passing added c.skip.ensures (ap length c.held-count.ensures))
