use Rattle.std.proofs.Common.{sym, ◌∙◌}
use Rattle.relay_front.proofs.Given.{some-kept, null-kept, other-found}
use Rattle.relay_front.proofs.metadata.first_other.Goals as goal

pub returns-then-is_some : goal.returns-then-is_some
returns-then-is_some c d ms at un h = some-kept c.args.other c.args.name.now d ms (sym c.is_some.ensures ∙ c.if-is_some.true) h

pub returns-then-is_null : goal.returns-then-is_null
returns-then-is_null c d ms at un h = null-kept c.args.other c.args.name.now c.args.leaf d ms at (sym c.is_null.ensures.variant ∙ c.if-is_null.true) h

pub returns : goal.returns
returns c d ms at un h = other-found c.args.name d ms un
