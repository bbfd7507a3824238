use Rattle.relay_target.proofs.Escapes.{encoded}
use Rattle.relay_target.proofs.writing.add_escaped.Goals as goal

pub returns : goal.returns
returns c = rw (← encoded c.reserved.result c.reserved.ensures c.args.part.now, ← c.as_bytes.ensures.value, ← c.percent_encode.ensures.text) c.append_to.ensures.ok
