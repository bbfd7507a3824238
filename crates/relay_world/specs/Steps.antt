-- One event, and a list of events.
use Rattle.std.specs.Prelude.{◌≡◌, ◌+◌, List, [], ◌∷◌, Option, Some, None, Bool, true, false}
use Rattle.relay_world.specs.declared.event.Event.{Event}
use Rattle.relay_world.specs.declared.event.Event.TheVariants as event
use Rattle.relay_world.specs.declared.event.Refusal.{Refusal}
use Rattle.relay_world.specs.declared.event.StepAnswer.{StepAnswer}
use Rattle.relay_world.specs.declared.event.StepAnswer.TheVariants as answer
use Rattle.relay_world.specs.declared.event.RunEnd.{RunEnd}
use Rattle.relay_world.specs.State.{World}
use Rattle.relay_world.specs.Refusals.{refusal}
use Rattle.relay_world.specs.Changes.{Changes}

-- a refused event returns why, and changes nothing
abbrev pub StepsBy : Option Refusal → World → Event → StepAnswer → World → Type 0
StepsBy (Some r) w e x new = (x ≡ answer.Refused r) × (new ≡ w)
StepsBy None w e x new = Changes w e x new

abbrev pub Steps : World → Event → StepAnswer → World → Type 0
Steps w e x new = StepsBy (refusal w e) w e x new

-- answering a request as a whole, and losing its reply, does not allocate
abbrev pub may_allocate : Event → Bool
may_allocate (event.Whole request status) = false
may_allocate (event.Lost request) = false
may_allocate _ = true

-- ---- a list of events

abbrev pub none_yet : RunEnd
none_yet = record { done = 0; refused = 0 }

-- the counts after one more event
abbrev pub counts_after : StepAnswer → RunEnd → RunEnd
counts_after (answer.Refused r) n = record n { refused = n.refused + 1 }
counts_after (answer.Put name) n = record n { done = n.done + 1 }
counts_after (answer.Sent number) n = record n { done = n.done + 1 }
counts_after (answer.Ran status) n = record n { done = n.done + 1 }
counts_after (answer.Settled counts) n = record n { done = n.done + 1 }
counts_after answer.Done n = record n { done = n.done + 1 }

-- The events were played one after another, going on after refused ones; these are the counts of accepted and refused
-- events, added to those before, and this is the world after them.
abbrev pub Plays : World → RunEnd → List Event → RunEnd → World → Type 0
Plays w n [] end new = (end ≡ n) × (new ≡ w)
Plays w n (e ∷ es) end new = (x : StepAnswer) × (next : World) × Steps w e x next × Plays next (counts_after x n) es end new
