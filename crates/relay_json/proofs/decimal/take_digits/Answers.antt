use Rattle.std.proofs.Common.{◌∙◌, sym, arith}
use Rattle.relay_json.proofs.Decimals.{digit_at_front, digit_more, too_long}
use Rattle.relay_json.proofs.decimal.take_digits.Goals as goal

pub digits-preserved : goal.digits-preserved
digits-preserved c = (
  omega arith,
  omega arith,
  c.digits.invariant.2 ∙ digit_more c.digits.rest.now c.digits.number c.from.result _ (omega arith) (omega arith) (omega arith) (omega arith) (omega arith) (omega arith),
)

pub returns-then-number-ge-LEAST_OF_18_DIGITS-clause-none : goal.returns-then-number-ge-LEAST_OF_18_DIGITS-clause-none
returns-then-number-ge-LEAST_OF_18_DIGITS-clause-none c m rest same whole =
    let standing = c.digits.invariant in
    too_long c.digits.number c.digits.rest.now (omega arith) standing.1 (digit_at_front c.digits.rest.now (omega arith) (omega arith) (omega arith)) m rest (sym standing.2 ∙ same) whole
