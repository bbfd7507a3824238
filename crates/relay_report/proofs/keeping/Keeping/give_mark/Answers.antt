use Rattle.std.proofs.Common.{sym, ◌∙◌}
use Rattle.relay_report.proofs.Noted.{gives_none, gives_one}
use Rattle.relay_report.proofs.keeping.Keeping.give_mark.Goals as goal

pub returns-in_ok-insert-clause-marks : goal.returns-in_ok-insert-clause-marks
returns-in_ok-insert-clause-marks c =
    gives_one _ _ c.args.key.now (sym c.contains_key.ensures ∙ c.if-not-contains_key.true) (rw c.in_ok-copy.ensures at c.in_ok-insert.ensures.updates)

pub returns-else-not-contains_key-clause-marks : goal.returns-else-not-contains_key-clause-marks
returns-else-not-contains_key-clause-marks c =
    gives_none _ c.args.key.now (sym c.contains_key.ensures ∙ c.if-not-contains_key.false)
