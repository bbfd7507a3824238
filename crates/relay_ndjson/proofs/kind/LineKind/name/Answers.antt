use Rattle.std.proofs.Common.{rules}
use Rattle.relay_ndjson.proofs.kind.LineKind.name.Goals as goal

pub returns-in-LineLong : goal.returns-in-LineLong
returns-in-LineLong c = search rules
