use Rattle.std.proofs.Common.{map, refl}
use Rattle.relay_keeping.specs.Tellers.{name_of}
use Rattle.relay_keeping.proofs.Places.{only_applied}
use Rattle.relay_keeping.proofs.tellers.LaneTelling.applied.Goals as goal

pub invariant_of-self : goal.invariant_of-self
invariant_of-self g c =
    let d = c.self.inside in
    let applied = map (λ x. x.0) d.applied.items in
    let saved = map (λ x. x.0) d.saved.items in
    only_applied (map name_of c.args.successes.now) (record { end = d.end; applied = applied; saved = saved }) (record { end = c.tell_applied.new.end; applied = map (λ x. x.0) c.note_all.new.noted.items; saved = saved }) c.tell_applied.ensures.told c.note_all.ensures refl c.self.invariant
