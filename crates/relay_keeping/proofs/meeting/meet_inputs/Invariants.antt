use Rattle.std.proofs.Common.{◌≡◌, ℕ, List, ◌++◌}
use Rattle.std.specs.Vec.Iter.{into_iter_items}
use Rattle.relay_keeping.specs.Meeting.{AllMet, AreSeated, input_ends}
use Rattle.relay_keeping.specs.Met.{AllPutOnly}
use Rattle.relay_keeping.specs.Tellers.{InputState}
use Rattle.relay_keeping.proofs.meeting.meet_inputs.Given as goal

-- what was taken was met with what the first told, and the others tell on the same channel
abbrev pub invariant-inputs : goal.invariant-inputs
invariant-inputs l = record {
  same : l.met ≡ l.fn.taken;
  met : (done : List InputState) × (l.fn.inputs.items ≡ done ++ into_iter_items l.input-iterator) × AllMet l.fn.taken.taken (input_ends done) × AllPutOnly done;
  others : (teller : ℕ) × AreSeated l.fn.taken.channel teller (input_ends (into_iter_items l.input-iterator));
}
