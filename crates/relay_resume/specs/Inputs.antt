-- Whether an input is the one that a state describes.
use Rattle.std.specs.Prelude.{◌==◌, ◌||◌, not, nat_lt, if◌then◌else◌, bytes_eq, Result, Ok, Err}
use Rattle.relay_resume.specs.declared.mark.Mark.{Mark}
use Rattle.relay_resume.specs.declared.state.InputState.{InputState}
use Rattle.relay_resume.specs.declared.input.Found.{Found}
use Rattle.relay_resume.specs.declared.input.Changed.{Changed}
use Rattle.relay_resume.specs.declared.input.Changed.TheVariants as changed

-- It is the one if it has the same device and inode, is as long as what was read and checked, and begins with the same
-- bytes. The first difference counts.
abbrev pub resumes : Found → InputState → Result Mark Changed
resumes now i =
    if not (now.device == i.device) then Err changed.Device
    else if not (now.inode == i.inode) then Err changed.Inode
    else if nat_lt now.length i.mark.offset || nat_lt now.length i.checked then Err changed.Shorter
    else if not (bytes_eq now.digest i.digest) then Err changed.Start
    else Ok i.mark
