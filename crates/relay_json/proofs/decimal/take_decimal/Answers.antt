use Rattle.std.proofs.Common.{◌≡◌, ℕ, List, ◌++◌, IfSome, IfNone, sym, subst, arith}
use Rattle.std.specs.Fmt.{decimal}
use Rattle.relay_json.specs.Decimals.{IsWhole}
use Rattle.relay_json.proofs.Decimals.{digit_first, front_of_digit, no_decimal}
use Rattle.relay_json.proofs.decimal.take_decimal.Goals as goal

pub returns-in-48-clause-parts : goal.returns-in-48-clause-parts
returns-in-48-clause-parts c = digit_first c.args.bytes.now 0 _ (omega arith) (omega arith) (omega arith) (omega arith)

pub returns-in-49-to-57-clause-parts : goal.returns-in-49-to-57-clause-parts
returns-in-49-to-57-clause-parts c =
    let first = digit_first c.args.bytes.now c.from.result _ (omega arith) (omega arith) (omega arith) (omega arith) in
    subst (λ bytes. IfSome c.take_digits.result (λ d. bytes ≡ decimal d.0 ++ d.1.now)) (sym first) c.take_digits.ensures.parts

pub returns-in-49-to-57-clause-none : goal.returns-in-49-to-57-clause-none
returns-in-49-to-57-clause-none c =
    let first = digit_first c.args.bytes.now c.from.result _ (omega arith) (omega arith) (omega arith) (omega arith) in
    subst (λ bytes. IfNone c.take_digits.result ((n : ℕ) (rest : List ℕ) → bytes ≡ decimal n ++ rest → IsWhole n rest → ⊥)) (sym first) c.take_digits.ensures.none

pub returns-in_default-clause-none : goal.returns-in_default-clause-none
returns-in_default-clause-none c = no_decimal c.args.bytes.now (λ digit. let front = front_of_digit c.args.bytes.now digit in grind arith)
