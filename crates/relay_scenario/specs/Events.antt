-- The lines of events.
use Rattle.std.specs.Prelude.{◌≡◌, ◌⊎◌, ℕ, ◌<◌, ◌^◌, List, [], ◌∷◌, codes, Bool, ◌&&◌, bytes_eq, nat_lt, Option, None, Some, option_map, if◌then◌else◌, IsUtf8}
use Rattle.relay_action.specs.declared.key.DocKey.{DocKey}
use Rattle.relay_action.specs.declared.action.Action.{Action}
use Rattle.relay_action.specs.declared.action.Action.TheVariants.{Index, Delete}
use Rattle.relay_action.specs.declared.fault.ActionFault.{ActionFault}
use Rattle.relay_action.specs.declared.fault.ActionFault.TheVariants as action
use Rattle.relay_index.specs.declared.choice.Choice.TheVariants as choice
use Rattle.relay_world.specs.declared.event.Event.{Event}
use Rattle.relay_world.specs.declared.event.Event.TheVariants as event
use Rattle.relay_scenario.specs.Words.{Begins}
use Rattle.relay_words.specs.Numbers.{IsNumber}
use Rattle.relay_scenario.specs.Numbers.{AreNumbers}
use Rattle.relay_scenario.specs.declared.event_line.LineFault.{LineFault}
use Rattle.relay_scenario.specs.declared.event_line.LineFault.TheVariants as fault

-- ---- events of a word and numbers

-- lanes, producers and senders are numbers of 32 bits, statuses of 16; requests, items and runs have 64
abbrev pub fits : ℕ → ℕ → Bool
fits bits n = nat_lt n (2 ^ bits)

abbrev pub only_lane : List ℕ → Option ℕ
only_lane (lane ∷ []) = if fits 32 lane then Some lane else None
only_lane other = None

abbrev pub of_lane : (ℕ → Event) → List ℕ → Option Event
of_lane f numbers = option_map f (only_lane numbers)

abbrev pub close_of : List ℕ → Option Event
close_of (sender ∷ lane ∷ []) = if fits 32 sender && fits 32 lane then Some (event.Close sender lane) else None
close_of other = None

abbrev pub run_of : List ℕ → Option Event
run_of (request ∷ item ∷ []) = Some (event.Run request item choice.Run)
run_of (request ∷ item ∷ status ∷ []) = if fits 16 status then Some (event.Run request item (choice.Refuse status)) else None
run_of other = None

abbrev pub whole_of : List ℕ → Option Event
whole_of (request ∷ status ∷ []) = if fits 16 status then Some (event.Whole request status) else None
whole_of other = None

abbrev pub lost_of : List ℕ → Option Event
lost_of (request ∷ []) = Some (event.Lost request)
lost_of other = None

abbrev pub restart_of : List ℕ → Option Event
restart_of (epoch ∷ []) = if fits 32 epoch then Some (event.Restart epoch) else None
restart_of other = None

-- a request, and its picks if there are any
abbrev pub reply_of : List ℕ → Option Event
reply_of [] = None
reply_of (request ∷ picks) = Some (event.Reply request picks)

abbrev pub event_of : List ℕ → List ℕ → Option Event
event_of word numbers =
    if bytes_eq word (codes "close") then close_of numbers
    else if bytes_eq word (codes "tick") then of_lane event.Tick numbers
    else if bytes_eq word (codes "flush") then of_lane event.Flush numbers
    else if bytes_eq word (codes "take") then of_lane event.Take numbers
    else if bytes_eq word (codes "send") then of_lane event.Send numbers
    else if bytes_eq word (codes "run") then run_of numbers
    else if bytes_eq word (codes "reply") then reply_of numbers
    else if bytes_eq word (codes "whole") then whole_of numbers
    else if bytes_eq word (codes "lost") then lost_of numbers
    else if bytes_eq word (codes "restart") then restart_of numbers
    else None

-- ---- puts

-- `delete`, or `index` and the source, which is all that follows the space
abbrev pub AsksFor : List ℕ → Action → Type 0
AsksFor text (Index source) = Begins text (codes "index") source.text
AsksFor text Delete = text ≡ codes "delete"

-- the index name and the id of a document, and what follows them
pub record IsKey (text : List ℕ) (key : DocKey) (rest : List ℕ) : Type 0 where
  pub middle : List ℕ
  pub index : Begins text key.index middle
  pub id : Begins middle key.id rest

-- a producer, a document, and the action on it
pub record IsPut (text : List ℕ) (producer : ℕ) (key : DocKey) (action : Action) : Type 0 where
  pub word : List ℕ
  pub after_word : List ℕ
  pub after_key : List ℕ
  pub begins : Begins text word after_word
  pub number : IsNumber word producer
  pub small : producer < 2 ^ 32
  pub document : IsKey after_word key after_key
  pub asks : AsksFor after_key action

abbrev pub Puts : List ℕ → Event → Type 0
Puts text (event.Put producer key action) = IsPut text producer key action
Puts text other = ⊥

-- ---- all events

-- what follows the word of an event
abbrev pub Follows : List ℕ → List ℕ → Event → Type 0
Follows word rest e =
    ((word ≡ codes "put") × Puts rest e)
    ⊎ ((numbers : List ℕ) × AreNumbers rest numbers × (event_of word numbers ≡ Some e))

pub record IsEventLine (line : List ℕ) (e : Event) : Type 0 where
  pub utf8 : IsUtf8 line
  pub word : List ℕ
  pub rest : List ℕ
  pub begins : Begins line word rest
  pub follows : Follows word rest e

-- why a line has no event: no event has this line, or an allocation failed
abbrev pub IsLineFault : List ℕ → LineFault → Type 0
IsLineFault line fault.Bad = (e : Event) → IsEventLine line e → ⊥
IsLineFault line fault.Memory = Unit {0}

-- ---- why a part of a line is invalid: it has another form, or an allocation failed

-- a failed allocation has its own fault
abbrev pub fault_of : ActionFault → LineFault
fault_of action.Memory = fault.Memory
fault_of other = fault.Bad

abbrev pub IsKeyFault : List ℕ → LineFault → Type 0
IsKeyFault text fault.Bad = (key : DocKey) (rest : List ℕ) → IsKey text key rest → ⊥
IsKeyFault text fault.Memory = Unit {0}

abbrev pub IsActionFault : List ℕ → LineFault → Type 0
IsActionFault text fault.Bad = (a : Action) → AsksFor text a → ⊥
IsActionFault text fault.Memory = Unit {0}

abbrev pub IsPutFault : List ℕ → LineFault → Type 0
IsPutFault text fault.Bad = (e : Event) → Puts text e → ⊥
IsPutFault text fault.Memory = Unit {0}

abbrev pub IsNumberedFault : List ℕ → List ℕ → LineFault → Type 0
IsNumberedFault word text fault.Bad = (numbers : List ℕ) (e : Event) → AreNumbers text numbers → event_of word numbers ≡ Some e → ⊥
IsNumberedFault word text fault.Memory = Unit {0}
