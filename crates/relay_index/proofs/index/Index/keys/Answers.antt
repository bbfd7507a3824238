use Rattle.std.proofs.Common.{rules}
use Rattle.relay_index.specs.States.{State}
use Rattle.relay_index.proofs.Listed.{sorted_keys, AreKeys-sorted}
use Rattle.relay_index.proofs.index.Index.keys.Goals as goal

pub returns : goal.returns
returns c =
    let old = c.self.inside in
    let s : State = record { documents = old.documents.entries; count = old.count; states = old.states } in
    let moved = rw c.in_ok-keys.ensures.copied at c.sort_by.ensures.permutation in
    let sorted = sorted_keys c.sort_by.new.self.items c.in_ok-sort_by.ensures.sorted (λ f a r f' k. search rules) in
    rw (← c.self.view_is) (AreKeys-sorted s c.sort_by.new.self.items c.self.invariant.index.begun c.copied_keys.ensures.distinct moved sorted)
