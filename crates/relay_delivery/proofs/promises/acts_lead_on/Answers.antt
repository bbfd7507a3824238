use Rattle.relay_delivery.proofs.Accounts.{fresh_together, act_together, restart_together, epochs_are_above, together_may, together_runs, together_continues}
use Rattle.relay_delivery.proofs.Joined.{nothing_after_close}
use Rattle.relay_delivery.proofs.promises.acts_lead_on.Goals as goal

pub returns-clause-fresh : goal.returns-clause-fresh
returns-clause-fresh c = fresh_together

pub returns-clause-act : goal.returns-clause-act
returns-clause-act c = act_together

pub returns-clause-restart : goal.returns-clause-restart
returns-clause-restart c = restart_together

pub returns-clause-above : goal.returns-clause-above
returns-clause-above c = epochs_are_above

pub returns-clause-may : goal.returns-clause-may
returns-clause-may c = together_may

pub returns-clause-runs : goal.returns-clause-runs
returns-clause-runs c = together_runs

pub returns-clause-outside : goal.returns-clause-outside
returns-clause-outside c = together_continues

pub returns-clause-closed : goal.returns-clause-closed
returns-clause-closed c = nothing_after_close
