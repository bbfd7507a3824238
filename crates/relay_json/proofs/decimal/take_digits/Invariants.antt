use Rattle.std.proofs.Common.{◌≡◌, ◌^◌, ◌<◌, ◌++◌, length}
use Rattle.std.specs.Fmt.{decimal}
use Rattle.relay_json.proofs.decimal.take_digits.Given as goal

-- the number so far, and then the rest, is what was there
abbrev pub invariant-digits : goal.invariant-digits
invariant-digits l = (0 < l.number) × (l.number < 10 ^ 18) × (decimal l.fn.front ++ l.fn.bytes ≡ decimal l.number ++ l.rest)

abbrev pub decreases-digits : goal.decreases-digits
decreases-digits l = length l.rest
