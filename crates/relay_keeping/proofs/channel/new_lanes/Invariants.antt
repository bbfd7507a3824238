use Rattle.std.proofs.Common.{◌≡◌, ℕ, ◌+◌, vec_len}
use Rattle.std.specs.Vec.Iter.{into_iter_items, into_iter_len}
use Rattle.relay_receipts.specs.Ends.{Channel}
use Rattle.relay_keeping.specs.declared.told.Told.{Told}
use Rattle.relay_keeping.specs.Seats.{tells_from}
use Rattle.relay_keeping.specs.Tellers.{AreNewLanes}
use Rattle.relay_keeping.proofs.channel.new_lanes.Given as goal

abbrev pub invariant-ends : goal.invariant-ends
invariant-ends l = record {
  count : vec_len l.lanes + into_iter_len l.end-iterator ≡ vec_len l.fn.ends;
  given : (channel : Channel Told) (teller : ℕ) → l.fn.ends.items ≡ tells_from channel teller (vec_len l.fn.ends)
      → (into_iter_items l.end-iterator ≡ tells_from channel (teller + vec_len l.lanes) (into_iter_len l.end-iterator)) × AreNewLanes channel teller l.lanes.items;
}
