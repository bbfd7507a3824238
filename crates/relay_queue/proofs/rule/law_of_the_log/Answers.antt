use Rattle.relay_queue.proofs.Keeping.{has_log}
use Rattle.relay_queue.proofs.rule.law_of_the_log.Goals as goal

pub returns : goal.returns
returns c queued passes h = has_log queued passes h
