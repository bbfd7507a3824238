-- The exit status if there is no epoch.
use Rattle.relay_epoch.specs.declared.fault.EpochFault.{EpochFault}
use Rattle.relay_epoch.specs.declared.fault.EpochFault.TheVariants as fault
use Rattle.relay_words.specs.declared.exit.Exit.{Exit}
use Rattle.relay_words.specs.declared.exit.Exit.TheVariants as exit

-- only a failed allocation is no fault of a device
abbrev pub exit_of_epoch : EpochFault → Exit
exit_of_epoch fault.Unreachable = exit.Device
exit_of_epoch (fault.Status status kind) = exit.Device
exit_of_epoch fault.NoVersion = exit.Device
exit_of_epoch fault.Spent = exit.Device
exit_of_epoch fault.Memory = exit.Memory
