use Rattle.std.proofs.Common.{refl}
use Rattle.relay_commands.proofs.lines.numbered.Goals as goal

pub returns-then-version-gt-LAST_VERSION : goal.returns-then-version-gt-LAST_VERSION
returns-then-version-gt-LAST_VERSION c = (refl, c.if-version-gt-LAST_VERSION.true)

pub returns : goal.returns
returns c = (refl, c.if-version-gt-LAST_VERSION.false)
