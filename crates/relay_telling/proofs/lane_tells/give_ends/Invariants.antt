use Rattle.std.proofs.Common.{◌≡◌, ◌+◌, vec_len}
use Rattle.std.specs.Vec.Iter.{into_iter_items, into_iter_len}
use Rattle.relay_receipts.specs.Ends.{Channel, fresh_tells}
use Rattle.relay_telling.specs.declared.ending.Ending.{Ending}
use Rattle.relay_telling.specs.New.{FirstHave}
use Rattle.relay_telling.proofs.New.{tells_from}
use Rattle.relay_telling.proofs.lane_tells.give_ends.Given as goal

abbrev pub invariant-loop-tell : goal.invariant-loop-tell
invariant-loop-tell l = record {
  count : l.lane + into_iter_len l.tell-iterator ≡ vec_len l.tells;
  len : vec_len l.tells ≡ vec_len l.fn.tells;
  given : (channel : Channel Ending) → l.fn.ends.items ≡ fresh_tells channel (vec_len l.fn.tells) → (into_iter_items l.tell-iterator ≡ tells_from channel l.lane (into_iter_len l.tell-iterator)) × FirstHave channel 0 l.lane l.fn.tells.items l.tells.items;
}
