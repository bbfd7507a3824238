use Rattle.std.proofs.Common.{◌≡◌, refl, sym, ap, ◌∙◌, subst, true, arith}
use Rattle.std.specs.Prelude.{is_some, IfSome, option_map}
use Rattle.relay_world.specs.Changes.{items_of}
use Rattle.relay_world.proofs.Places.{some_of}
use Rattle.relay_world.proofs.Desks.{batch_found, batch_few}
use Rattle.relay_core.specs.State.{next_batch}
use Rattle.relay_world.proofs.desk.form.Goals as goal

pub unwrap-batch-requires : goal.unwrap-batch-requires
unwrap-batch-requires c =
    let s = c.args.lane.now.state in
    let r = c.in_ok-number.ensures in
    let some : true ≡ is_some (next_batch s) = sym (ap is_some c.in-Some.is) ∙ r.when in
    let number = subst (λ o. IfSome o (λ n. n ≡ s.flights.next)) c.in-Some.is r.number in
    some_of c.items.result _ (next_batch s) (c.items.ensures ∙ batch_found s c.request.new.self.state c.in-Some.number (next_batch s) refl some c.requires number r.after) some

pub add_items-requires-clause-room : goal.add_items-requires-clause-room
add_items-requires-clause-room c =
    let s = c.args.lane.now.state in
    let r = c.in_ok-number.ensures in
    let some : true ≡ is_some (next_batch s) = sym (ap is_some c.in-Some.is) ∙ r.when in
    let number = subst (λ o. IfSome o (λ n. n ≡ s.flights.next)) c.in-Some.is r.number in
    let found = c.items.ensures ∙ batch_found s c.request.new.self.state c.in-Some.number (next_batch s) refl some c.requires number r.after in
    let few = batch_few s c.unwrap-batch.result.now (sym (ap (λ o. option_map (λ b. b.now) o) (sym c.unwrap-batch.ensures) ∙ found)) in
    let room = c.in_ok-items.ensures.exact in
    let held = c.held.ensures in
    omega (arith, few, room, held)

pub returns-clause-items : goal.returns-clause-items
returns-clause-items c =
    let s = c.args.lane.now.state in
    let r = c.in_ok-number.ensures in
    let some : true ≡ is_some (next_batch s) = sym (ap is_some c.in-Some.is) ∙ r.when in
    let number = subst (λ o. IfSome o (λ n. n ≡ s.flights.next)) c.in-Some.is r.number in
    let found = c.items.ensures ∙ batch_found s c.request.new.self.state c.in-Some.number (next_batch s) refl some c.requires number r.after in
    c.add_items.ensures ∙ ap items_of (ap (λ o. option_map (λ b. b.now) o) (sym c.unwrap-batch.ensures) ∙ found)
