use Rattle.std.proofs.Common.{rules, subst, sym, List, ℕ}
use Rattle.std.proofs.lemmas.Result.{IfErr-weaker, err_from_is_err_and}
use Rattle.relay_scenario.specs.Numbers.{IsNumbersFault, IsWordFault}
use Rattle.relay_scenario.proofs.Counting.{parts_more, parts_fault, parts_none_last, HasParts}
use Rattle.relay_scenario.proofs.numbers.push_numbers.Goals as goal

pub returns-in_err-push_number-clause-err : goal.returns-in_err-push_number-clause-err
returns-in_err-push_number-clause-err c =
    let p = err_from_is_err_and c.from_residual.result c.from_residual.ensures.1 in
    rw (p.1, p.2) (parts_fault _ _ _ _ _ c.in_err-push_number.field-0.0 c.words.invariant.0 c.in-Some.ensures c.in_err-push_number.ensures.err)

pub words-preserved : goal.words-preserved
words-preserved c = (
  let a = c.in_ok-push_number.ensures.ok in
      subst (λ (xs : List ℕ). HasParts c.args.text.now c.in-Some.later.now xs) (sym a.2) (parts_more _ _ _ _ _ a.0 c.words.invariant.0 c.in-Some.ensures a.1),
  search rules,
)

pub returns-clause-err : goal.returns-clause-err
returns-clause-err c = IfErr-weaker c.push_number-2.result (IsWordFault c.words.rest.now) (IsNumbersFault c.args.text.now)
    (λ e. parts_none_last _ _ _ e c.words.invariant.0 c.in_default.ensures) c.push_number-2.ensures.err
