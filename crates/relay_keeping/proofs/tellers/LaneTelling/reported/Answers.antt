use Rattle.std.proofs.Common.{◌≡◌, [], ◌∷◌, ◌++◌, map, refl, ap, ◌∙◌}
use Rattle.std.proofs.lemmas.List.{map-append}
use Rattle.relay_keeping.proofs.Places.{only_saved}
use Rattle.relay_keeping.proofs.tellers.LaneTelling.reported.Goals as goal

pub invariant_of-self : goal.invariant_of-self
invariant_of-self g c =
    let d = c.self.inside in
    let applied = map (λ x. x.0) d.applied.items in
    let saved = map (λ x. x.0) d.saved.items in
    let now = map (λ x. x.0) c.and-self-inside.result.items in
    let more : now ≡ saved ++ c.args.name ∷ [] = ap (map (λ x. x.0)) c.and-self-inside.ensures ∙ map-append (λ x. x.0) d.saved.items ((c.args.name, tt) ∷ []) in
    only_saved (c.args.name ∷ []) (record { end = d.end; applied = applied; saved = saved }) (record { end = c.tell_one.new.end; applied = applied; saved = now }) c.tell_one.ensures.told refl more c.self.invariant
