-- Why an event is refused: for each kind of event the causes in order, of which the first that applies is returned.
use Rattle.std.specs.Prelude.{ℕ, ◌+◌, ◌^◌, ◌-◌, ◌==◌, List, [], ◌∷◌, Option, Some, None, option_map, option_and_then, is_some, slice_get, Bool, true, false, not, ◌&&◌, ◌||◌, nat_lt, nat_le, length, if◌then◌else◌}
use Rattle.relay_action.specs.Actions.{kind_of}
use Rattle.relay_action.specs.declared.mail.Mail.{Mail}
use Rattle.relay_action.specs.declared.write.Write.{Write}
use Rattle.relay_results.specs.declared.outcome.Outcome.{Outcome}
use Rattle.relay_results.specs.Documents.{document_of, write_for}
use Rattle.relay_results.specs.Outside.{RunOutcome}
use Rattle.relay_index.specs.declared.choice.Choice.{Choice}
use Rattle.relay_index.specs.declared.choice.Choice.TheVariants as choice
use Rattle.relay_core.specs.State as lane
use Rattle.relay_world.specs.declared.event.Event.{Event}
use Rattle.relay_world.specs.declared.event.Event.TheVariants as event
use Rattle.relay_world.specs.declared.event.Refusal.{Refusal}
use Rattle.relay_world.specs.declared.event.Refusal.TheVariants as no
use Rattle.relay_world.specs.State.{Desk, Item, Sent, World, desk_at, lane_of, accepted_from, request_at, op_with, write_at, has_closed, is_closed}

-- a cause if the test holds, otherwise the next one
abbrev pub cause_if : Bool → Refusal → Option Refusal → Option Refusal
cause_if b r next = if b then Some r else next

-- a test of a lane, if there is such a lane
abbrev pub at_desk : Option Desk → (Desk → Option Refusal) → Option Refusal
at_desk None f = Some no.NoSuch
at_desk (Some d) f = f d

-- ---- puts, closes, ticks and flushes

-- the queue is at its capacity
abbrev pub is_full : World → Desk → Bool
is_full w d = nat_le w.config.capacity (length d.queue)

-- the producer has put its maximum number of operations
abbrev pub is_spent : World → ℕ → Bool
is_spent w p = nat_le (2 ^ 40) (length (accepted_from w p))

abbrev pub put_refusal : World → ℕ → ℕ → Option Refusal
put_refusal w p l =
    cause_if (nat_le w.config.producers p) no.NoSuch
    (cause_if (is_closed w p) no.Closed
    (cause_if (is_spent w p) no.NumbersSpent
    (at_desk (desk_at w l) (λ d. cause_if (is_full w d) no.QueueFull None))))

-- the senders are the producers and the control, whose number is one above that of the last producer
abbrev pub close_refusal : World → ℕ → ℕ → Option Refusal
close_refusal w p l =
    at_desk (desk_at w l) (λ d.
    cause_if (nat_lt w.config.producers p) no.NoSuch
    (cause_if (has_closed p d) no.Closed
    (cause_if (is_full w d) no.QueueFull None)))

-- a tick or a flush of the control
abbrev pub control_refusal : World → ℕ → Option Refusal
control_refusal w l =
    at_desk (desk_at w l) (λ d.
    cause_if (is_closed w w.config.producers) no.Closed
    (cause_if (is_full w d) no.QueueFull None))

-- ---- takes and sends

abbrev pub front_refusal : lane.State → List Mail → Option Refusal
front_refusal s [] = Some no.NothingQueued
front_refusal s (m ∷ ms) = cause_if (lane.is_full s m.body) no.HeldFull None

abbrev pub take_refusal : World → ℕ → Option Refusal
take_refusal w l = at_desk (desk_at w l) (λ d. front_refusal d.lane d.queue)

abbrev pub send_refusal : World → ℕ → Option Refusal
send_refusal w l = at_desk (desk_at w l) (λ d. cause_if (not (is_some (lane.next_batch d.lane))) no.NoRequest None)

-- ---- runs

-- the statuses with which an index may be told to refuse
abbrev pub may_refuse : ℕ → Bool
may_refuse status = (nat_le 400 status && nat_le status 599) && (not (status == 404) && not (status == 409))

abbrev pub may_choose : Choice → Bool
may_choose choice.Run = true
may_choose (choice.Refuse status) = may_refuse status

abbrev pub run_refusal : World → ℕ → ℕ → Choice → Option Refusal
run_refusal w request item c =
    cause_if (not (is_some (write_at w request item))) no.NotSent
    (cause_if (not (may_choose c)) no.BadStatus None)

-- ---- answers

abbrev pub flies_at : ℕ → Option Desk → Bool
flies_at number None = false
flies_at number (Some d) = lane.is_flying number d.lane

-- the request is in flight: it was sent in the current epoch, and was not answered yet
abbrev pub is_flying : World → Sent → Bool
is_flying w s = (s.epoch == w.config.epoch) && flies_at s.number (desk_at w s.lane)

-- the last of these runs, or the one with a number, from 1
abbrev pub last_run : List RunOutcome → Option RunOutcome
last_run os = slice_get os (length os - 1)

abbrev pub run_by : List RunOutcome → Option ℕ → Option RunOutcome
run_by os None = last_run os
run_by os (Some number) = if number == 0 then None else slice_get os (number - 1)

-- what a reply says of an item with this outcome
abbrev pub entry_for : Write → RunOutcome → Outcome
entry_for w o = record { kind = kind_of w.action; id = w.key.id; status = o.status; error = o.error }

-- the entry of an item: from its last run, or from the one that is picked
abbrev pub entry_at : World → ℕ → Option ℕ → Item → Option Outcome
entry_at w l pick i = option_and_then (λ o. option_map (entry_for (write_for o i.version)) (run_by i.runs pick)) (op_with w l i.version)

-- entry after entry, if each item has one
abbrev pub and_more : Option Outcome → Option (List Outcome) → Option (List Outcome)
and_more None rest = None
and_more (Some o) None = None
and_more (Some o) (Some os) = Some (o ∷ os)

abbrev pub entries_from : World → ℕ → List ℕ → ℕ → List Item → Option (List Outcome)
entries_from w l picks place [] = Some []
entries_from w l picks place (i ∷ is) = and_more (entry_at w l (slice_get picks place) i) (entries_from w l picks (place + 1) is)

-- there are no picks, or one for each item
abbrev pub are_picks : List ℕ → Sent → Bool
are_picks picks s = (length picks == 0) || (length picks == length s.items)

-- the entries of a reply to a request, if the picks are valid and each item has its run
abbrev pub entries : World → Sent → List ℕ → Option (List Outcome)
entries w s picks = if are_picks picks s then entries_from w s.lane picks 0 s.items else None

-- a test of a request, if it was sent
abbrev pub at_request : Option Sent → (Sent → Option Refusal) → Option Refusal
at_request None f = Some no.NotSent
at_request (Some s) f = f s

abbrev pub reply_refusal : World → ℕ → List ℕ → Option Refusal
reply_refusal w request picks =
    at_request (request_at w request) (λ s.
    cause_if (not (is_flying w s)) no.NotFlying
    (cause_if (not (is_some (entries w s picks))) no.NotRun None))

-- the statuses with which a request as a whole may be answered
abbrev pub is_whole : ℕ → Bool
is_whole status = nat_lt 200 status && nat_le status 599

abbrev pub whole_refusal : World → ℕ → ℕ → Option Refusal
whole_refusal w request status =
    at_request (request_at w request) (λ s.
    cause_if (not (is_flying w s)) no.NotFlying
    (cause_if (not (is_whole status)) no.BadStatus None))

abbrev pub lost_refusal : World → ℕ → Option Refusal
lost_refusal w request = at_request (request_at w request) (λ s. cause_if (not (is_flying w s)) no.NotFlying None)

-- ---- restarts

-- the epoch is above the current one, and within its limit
abbrev pub is_above : World → ℕ → Bool
is_above w epoch = nat_lt w.config.epoch epoch && nat_le epoch 4194303

abbrev pub restart_refusal : World → ℕ → Option Refusal
restart_refusal w epoch = cause_if (not (is_above w epoch)) no.NotAbove None

-- ---- all events

abbrev pub refusal : World → Event → Option Refusal
refusal w (event.Put p key action) = put_refusal w p (lane_of w (document_of key))
refusal w (event.Close p l) = close_refusal w p l
refusal w (event.Tick l) = control_refusal w l
refusal w (event.Flush l) = control_refusal w l
refusal w (event.Take l) = take_refusal w l
refusal w (event.Send l) = send_refusal w l
refusal w (event.Run request item c) = run_refusal w request item c
refusal w (event.Reply request picks) = reply_refusal w request picks
refusal w (event.Whole request status) = whole_refusal w request status
refusal w (event.Lost request) = lost_refusal w request
refusal w (event.Restart epoch) = restart_refusal w epoch
