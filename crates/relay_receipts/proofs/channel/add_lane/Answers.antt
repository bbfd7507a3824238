use Rattle.std.proofs.Common.{sym, subst}
use Rattle.relay_receipts.specs.Steps.{IsTaker}
use Rattle.relay_receipts.proofs.Keeping.{splits}
use Rattle.relay_receipts.proofs.channel.add_lane.Goals as goal

pub another-pass-requires-clause-rule : goal.another-pass-requires-clause-rule
another-pass-requires-clause-rule g c = splits _ _ (subst IsTaker (sym c.requires.known) tt)
