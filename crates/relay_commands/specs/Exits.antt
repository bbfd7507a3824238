-- How the program ends after a fault.
use Rattle.relay_commands.specs.declared.lines.LinesFault.{LinesFault}
use Rattle.relay_commands.specs.declared.lines.LinesFault.TheVariants as fault
use Rattle.relay_commands.specs.declared.apply.ApplyFault.{ApplyFault}
use Rattle.relay_commands.specs.declared.apply.ApplyFault.TheVariants as apply
use Rattle.relay_words.specs.declared.exit.Exit.{Exit}
use Rattle.relay_words.specs.declared.exit.Exit.TheVariants as exit
use Rattle.relay_words.specs.Exits.{exit_of_kind}

abbrev pub exit_of : LinesFault → Exit
exit_of (fault.Input e) = exit_of_kind e.kind
exit_of (fault.VersionsSpent line) = exit.Input
exit_of (fault.Write sent) = exit.Device
exit_of fault.Memory = exit.Memory

abbrev pub exit_of_apply : ApplyFault → Exit
exit_of_apply apply.BodyLong = exit.Input
exit_of_apply apply.Read = exit.Device
exit_of_apply (apply.Write sent) = exit.Device
exit_of_apply apply.Memory = exit.Memory
