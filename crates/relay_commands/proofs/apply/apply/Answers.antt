use Rattle.std.proofs.Common.{sym, subst}
use Rattle.relay_commands.specs.Pieces.{IsAnswered}
use Rattle.relay_commands.proofs.Answering.{sends, calls}
use Rattle.relay_commands.proofs.apply.apply.Goals as goal

pub returns-clause-applied : goal.returns-clause-applied
returns-clause-applied g c =
    sends c.args.index c.args.script _ _ _ _ _ _ c.as_slice.result.now c.send.result
    (subst (IsAnswered c.args.index c.args.script (g.R.ByteStream.left c.args.reader.now) (g.R.ByteStream.left c.answer.new.reader)) (sym c.as_slice.ensures.value) c.in_ok-out.ensures.ok)
    c.send.ensures

pub returns-clause-calls : goal.returns-clause-calls
returns-clause-calls g c = calls _ _ _ _ _ _ c.as_slice.result.now c.send.result c.in_ok-out.ensures.failed c.send.ensures
