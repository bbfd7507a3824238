use Rattle.std.proofs.Common.{rules}
use Rattle.relay_ndjson.proofs.parser.Parser.new.Goals as goal

pub returns : goal.returns
returns c = search rules
