-- The exit status after a script.
use Rattle.relay_words.specs.declared.exit.Exit.{Exit}
use Rattle.relay_words.specs.declared.exit.Exit.TheVariants as exit
use Rattle.relay_scenario.specs.declared.script.ScriptFault.{ScriptFault}
use Rattle.relay_scenario.specs.declared.script.ScriptFault.TheVariants as fault

-- a bad line is a fault of the input; a failed read or write is a fault of a device
abbrev pub exit_of_script : ScriptFault → Exit
exit_of_script (fault.BadLine line) = exit.Input
exit_of_script fault.Read = exit.Device
exit_of_script (fault.Write sent) = exit.Device
exit_of_script fault.Memory = exit.Memory
