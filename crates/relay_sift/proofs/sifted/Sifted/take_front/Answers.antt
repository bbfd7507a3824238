use Rattle.std.proofs.Common.{ap, sym, subst, ◌∙◌}
use Rattle.relay_sift.specs.Fronts.{FrontsAt}
use Rattle.relay_sift.specs.Sifting.{Sifting}
use Rattle.relay_sift.proofs.Sifting.{passes_rest, ends_absent}
use Rattle.relay_sift.proofs.sifted.Sifted.take_front.Goals as goal

pub take_portion-requires-clause-end : goal.take_portion-requires-clause-end
take_portion-requires-clause-end g c = (rw c.in-Portion.is at c.requires.within).0

pub take_portion-requires-clause-front : goal.take_portion-requires-clause-front
take_portion-requires-clause-front g c = rw c.in-Portion.is at c.requires.front

pub returns-in-Rest-clause-ok : goal.returns-in-Rest-clause-ok
returns-in-Rest-clause-ok g c =
    let passing = ap (λ (s : Sifting). s.passing) c.self.view_is ∙ c.requires.passing in
    let found = subst (λ (s : Sifting). FrontsAt s.left s.default s.count s.held c.args.front) (sym c.self.view_is) c.requires.front in
    rw (sym c.self.view_is) (passes_rest _ _ _ passing (rw c.in-Rest.is at found))

pub returns-in-Absent-clause-end : goal.returns-in-Absent-clause-end
returns-in-Absent-clause-end g c = ends_absent c.args.self.now c.requires.passing c.requires.out (rw c.in-Absent.is at c.requires.front)
