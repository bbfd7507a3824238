use Rattle.std.proofs.Common.{◌∙◌, sym}
use Rattle.std.proofs.lemmas.Result.{err_from_is_err_and}
use Rattle.relay_index.proofs.Written.{set_value-with_write, set_value-same, insert_entry-with_write}
use Rattle.relay_index.proofs.index.append.Goals as goal

pub returns-in-Some-clause-ok : goal.returns-in-Some-clause-ok
returns-in-Some-clause-ok c =
    (c.get_mut.follows.holds c.push.new.self).0 ∙ rw (c.in_ok-push.ensures.ok, c.in_ok-copy.ensures)
    (set_value-with_write c.args.documents.now.entries c.args.write.now c.in-Some.history.now (sym c.in-Some.ensures.value))

pub returns-in_err-push-clause-err : goal.returns-in_err-push-clause-err
returns-in_err-push-clause-err c =
    let p = err_from_is_err_and c.from_residual-in_err-push.result c.from_residual-in_err-push.ensures.1 in
    rw p.1
    ((c.get_mut.follows.holds c.push.new.self).0 ∙ rw c.in_err-push.ensures.err
    (set_value-same c.args.documents.now.entries c.args.write.now.key c.in-Some.history.now (sym c.in-Some.ensures.value)))

pub returns-clause-ok : goal.returns-clause-ok
returns-clause-ok c =
    rw (c.in_ok-insert.ensures.entries, c.get_mut.follows.holds-at-none, c.in_ok-push-2.ensures.ok, c.new-history.ensures, c.in_ok-copy.ensures, c.in_ok-copy-2.ensures)
    (insert_entry-with_write c.args.documents.now.entries c.args.write.now (sym c.in_default.ensures.value))
