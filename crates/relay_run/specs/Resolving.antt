-- What is written if the host of the address is unknown.
use Rattle.std.specs.Prelude.{List, ℕ, ◌++◌, codes}

abbrev pub unknown_text : List ℕ → List ℕ
unknown_text address = address ++ codes ": unknown host\n"
