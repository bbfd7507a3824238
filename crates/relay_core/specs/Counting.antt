-- The next batch, counted without its items, for when there is no memory for them.
use Rattle.std.specs.Prelude.{List, [], ◌∷◌, Bool, true, false, if◌then◌else◌}
use Rattle.relay_batch.specs.declared.item.BatchItem.{BatchItem}
use Rattle.relay_batch.specs.declared.tally.Tally.{Tally}
use Rattle.relay_batch.specs.Tallies.{is_closed_to, with_tallied}

-- the items are counted one after another until one does not fit or none is left
abbrev pub counted_after : List BatchItem → Tally → Tally
counted_after [] t = t
counted_after (i ∷ is) t = if is_closed_to i t then t else counted_after is (with_tallied i t)

-- one did not fit
abbrev pub closes_count : List BatchItem → Tally → Bool
closes_count [] t = false
closes_count (i ∷ is) t = if is_closed_to i t then true else closes_count is (with_tallied i t)
