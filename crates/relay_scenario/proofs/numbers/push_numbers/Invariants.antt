use Rattle.std.proofs.Common.{length, IsUtf8}
use Rattle.relay_scenario.proofs.Counting.{HasParts}
use Rattle.relay_scenario.proofs.numbers.push_numbers.Given as goal

-- the numbers before the rest are those of the list
abbrev pub invariant-words : goal.invariant-words
invariant-words l = HasParts l.fn.text l.rest l.numbers.items × IsUtf8 l.rest

abbrev pub decreases-words : goal.decreases-words
decreases-words l = length l.rest
