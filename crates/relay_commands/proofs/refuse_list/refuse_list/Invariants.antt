use Rattle.std.proofs.Common.{length, IsUtf8}
use Rattle.relay_commands.proofs.Parts.{HasParts}
use Rattle.relay_commands.proofs.refuse_list.refuse_list.Given as goal

-- the refusals before the rest are those of the script
abbrev pub invariant-parts : goal.invariant-parts
invariant-parts l = HasParts l.fn.list l.rest l.script l.before × IsUtf8 l.rest

abbrev pub decreases-parts : goal.decreases-parts
decreases-parts l = length l.rest
