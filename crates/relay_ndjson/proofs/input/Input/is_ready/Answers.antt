use Rattle.std.proofs.Common.{rules}
use Rattle.relay_ndjson.proofs.input.Input.is_ready.Goals as goal

pub returns : goal.returns
returns g c = search rules
