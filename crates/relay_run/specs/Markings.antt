-- For the steps of a run: what its threads tell by, at the start and at the end.
use Rattle.std.specs.Prelude.{◌≡◌, List, map, Option, Result, IfOk}
use Rattle.relay_core.specs.declared.config.RelayConfig.{RelayConfig}
use Rattle.relay_threads.specs.declared.fault.FinishFault.{FinishFault}
use Rattle.relay_threads.specs.declared.summary.Summary.{Summary}
use Rattle.relay_run.specs.Marks.{Fixed}
use Rattle.relay_run.specs.Saving.{Saver, seat_of}
use Rattle.relay_run.specs.Settling.{Tellings, teller_of}

-- what the lanes tell by, what the producers tell by, and what the state that is kept is bound to, if there is one
pub record Marking : Type 0 where
  pub tells : List Saver
  pub inputs : List Tellings
  pub fixed : Option Fixed

-- the config of a run, and the same
pub record Jobs : Type 0 where
  pub config : RelayConfig
  pub tells : List Saver
  pub inputs : List Tellings

-- At the end the producers tell by the ends that they had at the start, and so do the lanes, if there is a summary.
pub record EndsAsTold {W : Type 0} (inputs : List Tellings) (tells : List Saver) (end : Result (Summary W) FinishFault) (inputs' : List Tellings) (tells' : List Saver) : Type 0 where
  pub producers : map teller_of inputs' ≡ map teller_of inputs
  pub lanes : IfOk end (λ s. map seat_of tells' ≡ map seat_of tells)
