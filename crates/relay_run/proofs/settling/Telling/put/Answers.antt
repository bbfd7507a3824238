use Rattle.std.proofs.Common.{map, List, sym, subst}
use Rattle.relay_resume.specs.declared.mark.Place.{Place}
use Rattle.relay_run.specs.Places.{IsTold}
use Rattle.relay_run.proofs.Places.{noted_place, told_put}
use Rattle.relay_run.proofs.settling.Telling.put.Goals as goal

pub invariant_of-self : goal.invariant_of-self
invariant_of-self g c =
    let d = c.self.inside in
    subst (λ (ps : List Place). IsTold c.put.new.self ps) (sym (noted_place d.places.items c.and-self-inside.result.items c.place_behind-place.result c.and-self-inside.ensures))
    (told_put d.input c.put.new.self (map (λ (x : Place × Unit {0}). x.0) d.places.items) c.place_behind-place.result c.self.invariant c.put.ensures.puts)
