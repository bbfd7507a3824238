use Rattle.std.proofs.Common.{◌+◌, ◌++◌, sym, ap, ◌∙◌}
use Rattle.std.specs.Prelude.{option_map}
use Rattle.relay_world.proofs.Places.{at_index}
use Rattle.std.proofs.Common.{drop}
use Rattle.relay_world.specs.Refusals.{entries_from, entry_at}
use Rattle.relay_world.proofs.Entries.{ended, went_on}
use Rattle.relay_world.proofs.parts.Parts.entries_for.Goals as goal

pub returns-in_default : goal.returns-in_default
returns-in_default c =
    let w = c.args.self.now in
    let x = c.index-items-place.result in
    let at = at_index c.args.items.now c.items.place x c.items-test.true c.index-items-place.is in
    let none = sym (c.in_ok-entry.ensures ∙ ap (λ p. entry_at w c.args.lane p x) c.pick_at.ensures) ∙ c.in_default.is in
    sym (c.items.invariant ∙ ap (option_map (λ os. c.items.outcomes.items ++ os)) (ended w c.args.lane c.args.picks.now c.items.place c.args.items.now x at none))

pub items-preserved : goal.items-preserved
items-preserved c =
    let w = c.args.self.now in
    let x = c.index-items-place.result in
    let at = at_index c.args.items.now c.items.place x c.items-test.true c.index-items-place.is in
    let some = sym (c.in_ok-entry.ensures ∙ ap (λ p. entry_at w c.args.lane p x) c.pick_at.ensures) ∙ c.in-Some.is in
    c.items.invariant
    ∙ went_on w c.args.lane c.args.picks.now c.items.place c.args.items.now x c.items.outcomes.items c.in-Some.entry at some
    ∙ ap (λ xs. option_map (λ os. xs ++ os) (entries_from w c.args.lane c.args.picks.now (c.items.place + 1) (drop (c.items.place + 1) c.args.items.now))) (sym c.in_ok-push.ensures.items)
