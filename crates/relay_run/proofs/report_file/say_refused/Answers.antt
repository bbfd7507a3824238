use Rattle.relay_run.proofs.Said.{is_said}
use Rattle.relay_run.proofs.report_file.say_refused.Goals as goal

pub returns-clause-said : goal.returns-clause-said
returns-clause-said g c = (
  (g.E.ByteStream.written c.say_not_opened.new.err, g.E.ByteStream.failed c.say_not_opened.new.err),
  c.deref.result.now,
  c.in_ok-exit.ensures.said,
  is_said c.deref.result.now _ _ c.say.result c.say.ensures.all c.say.ensures.failed,
)
