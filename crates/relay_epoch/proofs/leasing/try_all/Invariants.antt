use Rattle.std.proofs.Common.{◌≡◌, List, length}
use Rattle.relay_epoch.specs.Asking.{AllPassing, more_by}
use Rattle.relay_epoch.specs.declared.fault.EpochFault.{EpochFault}
use Rattle.relay_epoch.proofs.leasing.try_all.Given as goal

-- the tries so far
abbrev pub invariant-tries : goal.invariant-tries
invariant-tries g l =
    let show = g.S.ByteStream in
    (earlier : List EpochFault) × AllPassing show.left show.written show.failed l.message earlier
    × (g.D.Dial.dialled l.dial ≡ more_by (length earlier) (g.D.Dial.dialled l.fn.dial))

abbrev pub decreases-tries : goal.decreases-tries
decreases-tries g l = g.P.Patience.left l.patience
