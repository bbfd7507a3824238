use Rattle.std.proofs.Common.{refl, rules}
use Rattle.relay_wires.proofs.told.tell.Goals as goal

pub returns-in-Ok : goal.returns-in-Ok
returns-in-Ok c = (c.if-reply-ne-OK.true, refl, search rules)

pub returns-in-Ok-read_reply : goal.returns-in-Ok-read_reply
returns-in-Ok-read_reply c = (c.if-reply-ne-OK.false, search rules)

pub returns-in-Err-read_reply : goal.returns-in-Err-read_reply
returns-in-Err-read_reply c = search rules
