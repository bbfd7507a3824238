-- The subcommands, and the name of each on the command line.
use Rattle.std.specs.Prelude.{ℕ, List, bytes_eq, codes, Option, None, Some, if◌then◌else◌}
use Rattle.relay_commands.specs.declared.subcommand.Subcommand.{Subcommand}
use Rattle.relay_commands.specs.declared.subcommand.Subcommand.TheVariants.{Lines, Apply, Run, Pick, Stub, World, Serve}

-- the name of a subcommand
abbrev pub word_of : Subcommand → List ℕ
word_of Lines = codes "lines"
word_of Apply = codes "apply"
word_of Run = codes "run"
word_of Pick = codes "pick"
word_of Stub = codes "stub"
word_of World = codes "world"
word_of Serve = codes "serve"

-- the subcommand with this name
abbrev pub subcommand_of : List ℕ → Option Subcommand
subcommand_of word =
    if bytes_eq word (word_of Lines) then Some Lines
    else if bytes_eq word (word_of Apply) then Some Apply
    else if bytes_eq word (word_of Run) then Some Run
    else if bytes_eq word (word_of Pick) then Some Pick
    else if bytes_eq word (word_of Stub) then Some Stub
    else if bytes_eq word (word_of World) then Some World
    else if bytes_eq word (word_of Serve) then Some Serve
    else None
