use Rattle.std.proofs.Common.{◌≡◌, take}
use Rattle.std.specs.List.{count_by}
use Rattle.relay_producer.proofs.lanes.count_gone.Given as goal

abbrev pub invariant-loop-end : goal.invariant-loop-end
invariant-loop-end l = l.gone ≡ count_by (λ e. e.gone) (take l.end-index l.ends)
