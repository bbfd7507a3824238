use Rattle.std.proofs.Common.{◌≡◌, List, ◌++◌, map}
use Rattle.std.specs.Vec.Iter.{into_iter_items}
use Rattle.relay_telling.specs.declared.lane_tells.ProducerTell.{ProducerTell}
use Rattle.relay_telling.specs.New.{channels_of}
use Rattle.relay_serve.specs.Meeting.{AllMet}
use Rattle.relay_serve.proofs.meeting.meet_lane.Given as goal

-- the first were met with the lane's first ends, and there is an end of its channel for each that is left
abbrev pub invariant-workers : goal.invariant-workers
invariant-workers l = record {
  same : l.met.items ++ into_iter_items l.one-iterator ≡ l.fn.taken.items;
  met : (done : List ProducerTell) × (l.fn.tells.ends.items ≡ done ++ into_iter_items l.ends) × AllMet l.met.items done;
  channels : map (λ (e : ProducerTell). e.tell.channel) (into_iter_items l.ends) ≡ channels_of (into_iter_items l.one-iterator);
}
