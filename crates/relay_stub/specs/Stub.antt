-- What `relay stub` serves and writes, and its exit status.
use Rattle.std.specs.Prelude.{◌≡◌, ◌⊎◌, ℕ, ◌<◌, List, length, take, Option, Result, Ok, Err}
use Rattle.std.specs.Io.KnownBytes.{append_known}
use Rattle.relay_action.specs.Streams.{one_more}
use Rattle.relay_index.specs.States.{State}
use Rattle.relay_index.specs.Plans.{Plan}
use Rattle.relay_index.specs.Serving.{under}
use Rattle.relay_words.specs.declared.exit.Exit.{Exit}
use Rattle.relay_words.specs.declared.exit.Exit.TheVariants as exit
use Rattle.relay_http.specs.Listening.{Listening}
use Rattle.relay_stub.specs.Listing.{IsListing}
use Rattle.relay_stub.specs.Visits.{Serves}
use Rattle.relay_stub.specs.declared.stub.ServeError.TheVariants as error
use Rattle.relay_stub.specs.declared.command.StubFault.{StubFault}
use Rattle.relay_stub.specs.declared.command.StubFault.TheVariants as fault

-- all connections were served with the first index, and the second one is that index afterwards
abbrev pub ServesAll : ℕ → State → Plan → Listening → Listening → State → Type 0
ServesAll requests index script from to end = (left : Plan) × Serves requests from (under index script) to (under end left) (Ok tt)

-- all connections were served, and this is the listing of the index then
abbrev pub IsOutput : ℕ → State → Plan → Listening → Listening → List ℕ → Type 0
IsOutput requests index script from to text = (end : State) × ServesAll requests index script from to end × IsListing end text

-- why there is no listing: a connection could not be accepted; or an allocation failed, at a connection or after all
-- were served
abbrev pub NoOutput : ℕ → State → Plan → Listening → Listening → StubFault → Type 0
NoOutput requests index script from to fault.Accept =
    (end : State) × (left : Plan) × Serves requests from (under index script) to (under end left) (Err error.Accept)
NoOutput requests index script from to (fault.Write sent) = ⊥
NoOutput requests index script from to fault.Memory =
    ((end : State) × (left : Plan) × Serves requests from (under index script) to (under end left) (Err error.Memory))
    ⊎ ((end : State) × ServesAll requests index script from to end)

-- What was written, by how it ended: the listing of the index that served all connections; after a failed write
-- exactly the first of its bytes; otherwise nothing.
abbrev pub Stubs : ℕ → State → Plan → Listening → Listening → Option (List ℕ) → Option (List ℕ) → Result (Unit {0}) StubFault → Type 0
Stubs requests index script from to before after (Ok u) =
    (text : List ℕ) × IsOutput requests index script from to text × (after ≡ append_known before text)
Stubs requests index script from to before after (Err (fault.Write sent)) =
    (text : List ℕ) × IsOutput requests index script from to text × (sent < length text) × (after ≡ append_known before (take sent text))
Stubs requests index script from to before after (Err fault.Accept) = NoOutput requests index script from to fault.Accept × (after ≡ before)
Stubs requests index script from to before after (Err fault.Memory) = NoOutput requests index script from to fault.Memory × (after ≡ before)

-- the text was written, or after a failed write exactly the first of its bytes
abbrev pub WritesListing : Option (List ℕ) → Option (List ℕ) → ℕ → ℕ → List ℕ → Result (Unit {0}) StubFault → Type 0
WritesListing before after failed count text (Ok u) = (after ≡ append_known before text) × (count ≡ failed)
WritesListing before after failed count text (Err (fault.Write sent)) =
    (sent < length text) × (after ≡ append_known before (take sent text)) × (count ≡ one_more failed)
WritesListing before after failed count text (Err fault.Accept) = ⊥
WritesListing before after failed count text (Err fault.Memory) = ⊥

-- the number of failed calls of the writer after this result
abbrev pub failed_by : Result (Unit {0}) StubFault → ℕ → ℕ
failed_by (Ok u) n = n
failed_by (Err fault.Accept) n = n
failed_by (Err (fault.Write sent)) n = one_more n
failed_by (Err fault.Memory) n = n

-- the exit status
abbrev pub exit_of_stub : StubFault → Exit
exit_of_stub fault.Accept = exit.Device
exit_of_stub (fault.Write sent) = exit.Device
exit_of_stub fault.Memory = exit.Memory
