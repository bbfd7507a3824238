use Rattle.std.proofs.Common.{arith}
use Rattle.relay_json.proofs.Digits.{number_of-digits}
use Rattle.relay_json.proofs.number.is_short_integer.Goals as goal

pub returns : goal.returns
returns c all = number_of-digits c.args.bytes.now (c.are_digits.ensures all) (omega arith) (omega arith)
