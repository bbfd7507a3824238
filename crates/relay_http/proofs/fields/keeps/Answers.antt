use Rattle.std.proofs.Common.{rules}
use Rattle.relay_http.proofs.fields.keeps.Goals as goal

pub returns-then-minor-gt0 : goal.returns-then-minor-gt0
returns-then-minor-gt0 c = search rules

pub returns-else-minor-gt0 : goal.returns-else-minor-gt0
returns-else-minor-gt0 c = search rules
