use Rattle.std.proofs.Common.{◌≡◌, [], vec_len}
use Rattle.crossbeam_channel.specs.Claims.{view, IsSeatAt}
use Rattle.crossbeam_channel.specs.Ends.{sends_on}
use Rattle.relay_receipts.specs.declared.rule.Knowledge.TheVariants.{Taker}
use Rattle.relay_receipts.specs.Ends.{channel_of, fresh_tells}
use Rattle.relay_receipts.proofs.channel.receipts.Given as goal

abbrev pub invariant-loop-lane : goal.invariant-loop-lane
invariant-loop-lane g l = record {
  seat : IsSeatAt (sends_on l.sends) l.pass;
  known : view l.pass ≡ Taker l.lane [] [];
  len : vec_len l.tells ≡ l.lane;
  tells : l.tells.items ≡ fresh_tells (channel_of l.pass) l.lane;
}
