-- What was put and settled of each input, by what its producer and the lanes told.
use Rattle.std.specs.Prelude.{ℕ, ◌==◌, if◌then◌else◌, List, [], ◌∷◌, ◌++◌, Option, Some, None, map}
use Rattle.relay_action.specs.declared.operation.OpName.{OpName}
use Rattle.relay_resume.specs.declared.mark.Mark.{Mark}
use Rattle.relay_resume.specs.declared.mark.Place.{Place}
use Rattle.relay_resume.specs.Trails.{History}
use Rattle.relay_receipts.specs.declared.notice.Notice.{Notice}
use Rattle.relay_receipts.specs.Notices.{said_by}
use Rattle.relay_keeping.specs.declared.told.Told.{Told}
use Rattle.relay_keeping.specs.declared.told.Told.TheVariants.{Put, Settled}

-- the places that messages tell, in order
abbrev pub places_in : List (Option Told) → List Place
places_in [] = []
places_in (None ∷ said) = places_in said
places_in (Some (Put ends) ∷ said) = ends.items ++ places_in said
places_in (Some (Settled names) ∷ said) = places_in said

-- the names of the operations that messages tell as settled, in order
abbrev pub names_in : List (Option Told) → List OpName
names_in [] = []
names_in (None ∷ said) = names_in said
names_in (Some (Put ends) ∷ said) = names_in said
names_in (Some (Settled names) ∷ said) = names.items ++ names_in said

-- the numbers of those operations that are of this producer
abbrev pub numbers_of : ℕ → List OpName → List ℕ
numbers_of producer [] = []
numbers_of producer (n ∷ ns) = if n.producer == producer then n.number ∷ numbers_of producer ns else numbers_of producer ns

-- what notices say, of all tellers
abbrev pub said_in : List (Notice Told) → List (Option Told)
said_in taken = map (λ n. n.told) taken

-- The history of a producer's input that these notices make, which is read from this mark on: put were the places that
-- the producer told, in order, and settled are the numbers of its operations that any teller named.
abbrev pub history_of : Mark → ℕ → List (Notice Told) → History
history_of start producer taken = record {
  start = start;
  puts = places_in (said_by producer taken);
  settled = numbers_of producer (names_in (said_in taken));
}
