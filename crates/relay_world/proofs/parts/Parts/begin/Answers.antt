use Rattle.std.proofs.Common.{◌≡◌, ◌++◌, ◌∷◌, [], length, ap, ◌∙◌, arith}
use Rattle.std.specs.Prelude.{map, replicate}
use Rattle.relay_world.specs.State.{Desk, World, fresh_desk}
use Rattle.relay_world.specs.Refusals.{is_above}
use Rattle.relay_world.specs.Changes.{in_new_epoch, after_restart}
use Rattle.relay_world.specs.View.{world_of}
use Rattle.relay_world.proofs.Starting.{valid_in, fresh_parts, restarts_so}
use Rattle.relay_core.specs.Limits.{is_valid}
use Rattle.relay_results.proofs.Lists.{and_right}
use Rattle.relay_world.proofs.parts.Parts.begin.Goals as goal

pub returns-clause-ok : goal.returns-clause-ok
returns-clause-ok c =
    let w = world_of c.self.inside in
    let g = c.in_new_epoch-config.result in
    let new : g ≡ in_new_epoch w.config c.args.epoch = c.in_new_epoch-config.ensures in
    let ds : c.replace-old_desks.new.dest.items ≡ replicate g.lanes (fresh_desk g) = rw c.replace-old_desks.ensures.after c.in_ok-desks.ensures in
    let os : c.replace-old_accepted.new.dest.items ≡ replicate g.producers [] = rw c.replace-old_accepted.ensures.after c.in_ok-accepted.ensures in
    let ts : c.take_all-taken.result.items ≡ map (λ (d : Desk). d.taken) w.desks = cc in
    let n : c.len-2.result ≡ length w.sent = omega arith in
    let es : c.push_reserved.new.self.items ≡ w.ended ++ record { epoch = w.config.epoch; accepted = w.accepted; taken = c.take_all-taken.result.items; sent = c.len-2.result } ∷ [] = cc in
    restarts_so w c.args.epoch c.len-2.result g c.replace-old_desks.new.dest.items c.replace-old_accepted.new.dest.items c.take_all-taken.result.items c.push_reserved.new.self.items new ds os ts n es
    ∙ ap (λ (x : World). after_restart x c.args.epoch) c.self.view_is

pub invariant_of-self-2 : goal.invariant_of-self-2
invariant_of-self-2 c =
    let w = world_of c.self.inside in
    let g = c.in_new_epoch-config.result in
    let new : g ≡ in_new_epoch w.config c.args.epoch = c.in_new_epoch-config.ensures in
    let ds : c.replace-old_desks.new.dest.items ≡ replicate g.lanes (fresh_desk g) = rw c.replace-old_desks.ensures.after c.in_ok-desks.ensures in
    let os : c.replace-old_accepted.new.dest.items ≡ replicate g.producers [] = rw c.replace-old_accepted.ensures.after c.in_ok-accepted.ensures in
    let above = ap (λ (x : World). is_above x c.args.epoch) c.self.view_is ∙ c.requires in
    let v = ap is_valid new ∙ valid_in w.config c.args.epoch (and_right _ _ above) c.self.invariant.valid in
    fresh_parts _ v ds os
