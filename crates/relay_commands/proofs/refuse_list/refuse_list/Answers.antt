use Rattle.std.proofs.Common.{rules}
use Rattle.std.proofs.lemmas.Result.{err_from_is_err_and}
use Rattle.relay_commands.proofs.Parts.{parts_at_start, part_more, part_last, part_fault, last_fault, refuses_none}
use Rattle.relay_commands.proofs.refuse_list.refuse_list.Goals as goal

pub parts-init : goal.parts-init
parts-init c = (parts_at_start _ _ (refuses_none _ c.new-script.ensures), c.utf8.list)

pub returns-in_err-add-clause-err : goal.returns-in_err-add-clause-err
returns-in_err-add-clause-err c =
    let p = err_from_is_err_and c.from_residual.result c.from_residual.ensures.1 in
    rw (p.1, p.2) (part_fault _ _ _ _ _ _ c.in_err-add.field-0.0 c.parts.invariant.0 c.in-Some.ensures c.in_err-add.ensures.err)

pub parts-preserved : goal.parts-preserved
parts-preserved c = (
  let a = c.in_ok-add.ensures.ok in
      part_more _ _ _ _ _ _ _ c.parts.invariant.0 c.in-Some.ensures a.0 a.1 a.2 a.3,
  search rules,
)

pub returns-clause-ok : goal.returns-clause-ok
returns-clause-ok c =
    let a = c.in_ok-add-2.ensures.ok in
    part_last _ _ _ _ _ c.parts.invariant.0 a.0 a.1 a.2 a.3

pub returns-in_err-add-2-clause-err : goal.returns-in_err-add-2-clause-err
returns-in_err-add-2-clause-err c =
    let p = err_from_is_err_and c.from_residual-in_err-add-2.result c.from_residual-in_err-add-2.ensures.1 in
    rw (p.1, p.2) (last_fault _ _ _ _ c.in_err-add-2.field-0.0 c.parts.invariant.0 c.in_default.ensures c.in_err-add-2.ensures.err)
