use Rattle.std.proofs.Common.{◌≡◌, ◌<◌, List, [], length, arith}
use Rattle.std.specs.Prelude.{Result, Ok, Err, OnOk}
use Rattle.relay_lane.proofs.Limits.{nothing}
use Rattle.relay_lane.proofs.Flushing.{worked_some}
use Rattle.relay_lane.proofs.Stepping.{most_sent}
use Rattle.relay_lane.proofs.draining.drain.Goals as goal

none_held : {A B E : Type 0} (r : Result B E) (xs : List A) → OnOk r (length xs < 1) → OnOk r (xs ≡ [])
none_held (Ok x) xs few = nothing xs (omega (arith, few))
none_held (Err e) xs few = few

pub returns-clause-done : goal.returns-clause-done
returns-clause-done g c = none_held c.work.result c.work.new.lane.state.core.held c.work.ensures.done

pub returns-clause-worked : goal.returns-clause-worked
returns-clause-worked g c = worked_some (g.W.Wire.describes c.args.wire.now) g.W.Wire.fits g.W.Wire.carries c.args.wire.now c.work.new.wire c.args.lane.now.state c.work.new.lane.state c.work.ensures.worked

pub returns-clause-most : goal.returns-clause-most
returns-clause-most g c = most_sent c.args.lane.now.state c.work.new.lane.state c.totals.ensures.lane c.work.ensures.bound
