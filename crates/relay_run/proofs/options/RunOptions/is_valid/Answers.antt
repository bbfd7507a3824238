use Rattle.std.proofs.Common.{sym, ◌∙◌}
use Rattle.std.proofs.lemmas.Bool.{eqb-true}
use Rattle.relay_run.proofs.options.RunOptions.is_valid.Goals as goal

pub returns-then-is_host-clause-files : goal.returns-then-is_host-clause-files
returns-then-is_host-clause-files c = λ t. sym c.len.ensures ∙ eqb-true _ _ t
