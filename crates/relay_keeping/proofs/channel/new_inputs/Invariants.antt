use Rattle.std.proofs.Common.{◌≡◌, ◌+◌, length, take, vec_len}
use Rattle.std.specs.Vec.Iter.{into_iter_items, into_iter_len}
use Rattle.relay_receipts.specs.Ends.{Channel}
use Rattle.relay_keeping.specs.declared.told.Told.{Told}
use Rattle.relay_keeping.specs.Seats.{tells_from}
use Rattle.relay_keeping.specs.Tellers.{AreNewInputs}
use Rattle.relay_keeping.proofs.channel.new_inputs.Given as goal

abbrev pub invariant-ends : goal.invariant-ends
invariant-ends l = record {
  count : vec_len l.inputs + into_iter_len l.end-iterator ≡ length l.starts;
  given : (channel : Channel Told) → l.fn.ends.items ≡ tells_from channel 0 (vec_len l.fn.ends)
      → (into_iter_items l.end-iterator ≡ tells_from channel (vec_len l.inputs) (into_iter_len l.end-iterator)) × AreNewInputs channel 0 (take (vec_len l.inputs) l.starts) l.inputs.items;
}
