use Rattle.std.proofs.Common.{◌≡◌, [], vec_len, ◌⊎◌}
use Rattle.crossbeam_channel.specs.Claims.{view, IsSeatAt}
use Rattle.crossbeam_channel.specs.Ends.{sends_on, ruled_capacity}
use Rattle.relay_queue.specs.declared.rule.Knowledge.TheVariants.{Taker}
use Rattle.relay_queue.specs.Steps.{capacity_of}
use Rattle.relay_queue.specs.Ends.{queue_with, fresh_puts}
use Rattle.relay_queue.proofs.queue.lane_queue.Given as goal

abbrev pub invariant-loop-sender : goal.invariant-loop-sender
invariant-loop-sender l = record {
  seat : IsSeatAt (sends_on l.sends) l.pass;
  known : view l.pass ≡ Taker (capacity_of (view l.pass)) l.sender [] [];
  places : (l.sender ≡ 0) ⊎ (capacity_of (view l.pass) ≡ ruled_capacity (sends_on l.sends));
  len : vec_len l.puts ≡ l.sender;
  puts : l.puts.items ≡ fresh_puts (queue_with l.pass (ruled_capacity (sends_on l.sends))) l.sender;
}

abbrev pub ghosts-add_sender : goal.ghosts-add_sender
ghosts-add_sender a = record { places = ruled_capacity (sends_on a.sends.now) }
