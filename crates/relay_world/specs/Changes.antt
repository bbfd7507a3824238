-- What each accepted event changes, and what it returns. Fields that are not named are unchanged.
use Rattle.std.specs.Prelude.{◌≡◌, ℕ, ◌+◌, ◌-◌, List, [], ◌∷◌, ◌++◌, Option, Some, None, slice_get, unwrap_or, option_map, Bool, true, false, ◌&&◌, ◌||◌, length, map, replicate, if◌then◌else◌}
use Rattle.relay_results.specs.declared.cause.Loss.TheVariants as loss
use Rattle.relay_action.specs.Streams.{one_more}
use Rattle.relay_action.specs.declared.key.DocKey.{DocKey}
use Rattle.relay_action.specs.declared.action.Action.{Action}
use Rattle.relay_action.specs.declared.operation.Op.{Op}
use Rattle.relay_action.specs.declared.mail.Mail.{Mail}
use Rattle.relay_action.specs.declared.mail.Body.{Body}
use Rattle.relay_action.specs.declared.mail.Body.TheVariants as body
use Rattle.relay_action.specs.declared.write.Write.{Write}
use Rattle.relay_batch.specs.declared.item.BatchItem.{BatchItem}
use Rattle.relay_results.specs.declared.outcome.Outcome.{Outcome}
use Rattle.relay_results.specs.Words.{update}
use Rattle.relay_results.specs.Documents.{Document, document_of, same_document, name_of, write_for}
use Rattle.relay_results.specs.Outside.{Answer, Unanswered, Items, Whole, Lost, RunOutcome}
use Rattle.relay_results.specs.Matching.{matches}
use Rattle.relay_index.specs.States as index
use Rattle.relay_index.specs.Runs.{is_run, done_of, outcome_of_run, Effect}
use Rattle.relay_index.specs.declared.choice.Choice.{Choice}
use Rattle.relay_core.specs.declared.config.RelayConfig.{RelayConfig}
use Rattle.relay_core.specs.State as lane
use Rattle.relay_core.specs.Ties.{ops_of}
use Rattle.relay_core.specs.declared.settled.Settled.{Settled}
use Rattle.relay_world.specs.declared.event.Event.{Event}
use Rattle.relay_world.specs.declared.event.Event.TheVariants as event
use Rattle.relay_world.specs.declared.event.StepAnswer.{StepAnswer}
use Rattle.relay_world.specs.declared.event.StepAnswer.TheVariants as answer
use Rattle.relay_world.specs.declared.sender.Sender.{Sender}
use Rattle.relay_world.specs.State.{Desk, Item, Sent, World, fresh_desk, incarnations, lane_of, desk_at, accepted_from, element_at, request_at, op_with, Named, names_at, before_at}
use Rattle.relay_world.specs.Refusals.{entries}

-- the desk of a lane is changed
abbrev pub at_lane : ℕ → (Desk → Desk) → World → World
at_lane l f w = record w { desks = update l f w.desks }

-- ---- a message is put into a queue

abbrev pub is_done_mail : Body → Bool
is_done_mail (body.Put o) = false
is_done_mail body.Tick = false
is_done_mail body.Flush = false
is_done_mail body.Done = true

-- a sender at a lane after one more message; a Done closes it there
abbrev pub after_mail : Body → Sender → Sender
after_mail b s = record { count = one_more s.count; closed = s.closed || is_done_mail b }

-- a sender's message, under its next number at this lane, from 1
abbrev pub mail_of : Desk → ℕ → Body → Mail
mail_of d sender b = record { sender = sender; number = one_more (unwrap_or (option_map (λ (s : Sender). s.count) (slice_get d.senders sender)) 0); body = b }

abbrev pub after_post : ℕ → Body → Desk → Desk
after_post sender b d = record d { queue = d.queue ++ mail_of d sender b ∷ []; senders = update sender (after_mail b) d.senders }

-- the operation of a put: it has the next number of its producer
abbrev pub op_of_put : World → ℕ → DocKey → Action → Op
op_of_put w p key action = record { epoch = w.config.epoch; producer = p; number = length (accepted_from w p) + 1; key = key; action = action }

abbrev pub after_put : World → Op → World
after_put w o = record (at_lane (lane_of w (document_of o.key)) (after_post o.producer (body.Put o)) w) {
  accepted = update o.producer (λ os. os ++ o ∷ []) w.accepted;
}

-- ---- a lane takes the front of its queue

abbrev pub front_taken : List Mail → Desk → Desk
front_taken [] d = d
front_taken (m ∷ ms) d = record d { queue = ms; taken = d.taken ++ ops_of m.body; lane = lane.after_take d.lane m.sender m.body }

abbrev pub took_front : Desk → Desk
took_front d = front_taken d.queue d

-- ---- a request is sent

abbrev pub item_of : BatchItem → Item
item_of i = record { version = i.version; runs = [] }

abbrev pub items_of : Option (List BatchItem) → List Item
items_of None = []
items_of (Some is) = map item_of is

abbrev pub sent_request : Desk → Desk
sent_request d = record d { lane = lane.after_request d.lane (lane.next_batch d.lane) }

abbrev pub request_of : ℕ → ℕ → Desk → Sent
request_of epoch l d = record { epoch = epoch; lane = l; number = d.lane.flights.next; items = items_of (lane.next_batch d.lane); answer = Unanswered }

abbrev pub sent_by : ℕ → ℕ → Option Desk → List Sent
sent_by epoch l None = []
sent_by epoch l (Some d) = request_of epoch l d ∷ []

abbrev pub after_send : World → ℕ → World
after_send w l = record (at_lane l sent_request w) { sent = w.sent ++ sent_by w.config.epoch l (desk_at w l) }

-- ---- an item is run

abbrev pub with_outcome : RunOutcome → Item → Item
with_outcome o i = record i { runs = i.runs ++ o ∷ [] }

abbrev pub ran_item : ℕ → RunOutcome → Sent → Sent
ran_item item o s = record s { items = update (item - 1) (with_outcome o) s.items }

-- the outcome of a run of a write
abbrev pub outcome_of : World → Write → Choice → RunOutcome
outcome_of w x c = outcome_of_run (done_of w.index x c)

-- the outcome is added to the item's runs
abbrev pub after_run : World → ℕ → ℕ → RunOutcome → index.State → List (DocKey × Named) → World
after_run w request item o i kept = record w {
  index = i;
  sent = update (request - 1) (ran_item item o) w.sent;
  kept = kept;
}

-- An item of a sent request was run, and its status is returned: the index did with the write of its operation what
-- it does with any write, and if the write was applied, the operation's name was added to the names of its document.
pub record RunsItem (w : World) (request item : ℕ) (c : Choice) (x : StepAnswer) (new : World) : Type 0 where
  pub sent : Sent
  pub was_sent : request_at w request ≡ Some sent
  pub its_item : Item
  pub stands : element_at sent.items item ≡ Some its_item
  pub op : Op
  pub its_op : op_with w sent.lane its_item.version ≡ Some op
  pub effect : Effect w.index (write_for op its_item.version) c new.index
  pub names : (k : Document) → names_at new k
      ≡ names_at w k ++ (if is_run w.index (write_for op its_item.version) c && same_document k (document_of op.key) then name_of op ∷ [] else [])
  pub before : (k : Document) → before_at new k ≡ before_at w k
  pub after : new ≡ after_run w request item (outcome_of w (write_for op its_item.version) c) new.index new.kept
  pub says : x ≡ answer.Ran (outcome_of w (write_for op its_item.version) c).status

-- ---- a request is answered

abbrev pub with_answer : Answer → Sent → Sent
with_answer a s = record s { answer = a }

abbrev pub answered_desk : ℕ → Answer → Desk → Desk
answered_desk number a d = record d { lane = lane.after_answer_to d.lane number a }

abbrev pub after_answer : World → ℕ → Sent → Answer → World
after_answer w request s a = record (at_lane s.lane (answered_desk s.number a) w) { sent = update (request - 1) (with_answer a) w.sent }

-- entries may fail to match; any other answer has nothing to match
abbrev pub matched_by : Answer → List Write → Bool
matched_by Unanswered ws = true
matched_by (Items os) ws = matches os ws
matched_by (Whole status reason) ws = true
matched_by (Lost why) ws = true

-- a request in flight was answered, and the counts of how its operations ended are returned
pub record Answers (w : World) (request : ℕ) (s : Sent) (a : Answer) (x : StepAnswer) (new : World) : Type 0 where
  pub desk : Desk
  pub there : desk_at w s.lane ≡ Some desk
  pub counts : Settled
  pub are : lane.AreCounts desk.lane s.number a counts
  pub matched : counts.matched ≡ matched_by a (lane.writes_of s.number desk.lane)
  pub after : new ≡ after_answer w request s a
  pub says : x ≡ answer.Settled counts

abbrev pub AnswersBy : World → ℕ → Answer → StepAnswer → World → Type 0
AnswersBy w request a x new = (s : Sent) × (request_at w request ≡ Some s) × Answers w request s a x new

-- the request is answered with entries from its items' runs
abbrev pub RepliesBy : World → ℕ → List ℕ → StepAnswer → World → Type 0
RepliesBy w request picks x new =
    (s : Sent) × (os : List Outcome) × (request_at w request ≡ Some s) × (entries w s picks ≡ Some os)
    × Answers w request s (Items os) x new

-- ---- a restart

abbrev pub in_new_epoch : RelayConfig → ℕ → RelayConfig
in_new_epoch c epoch = record c { epoch = epoch }

-- Queues, lanes, reports and producers start afresh; requests with their runs and answers, the index and the kept
-- names are unchanged; and what was accepted and taken since the last restart is kept with that of earlier
-- incarnations.
abbrev pub after_restart : World → ℕ → World
after_restart w epoch = record {
  opening = w.opening;
  config = in_new_epoch w.config epoch;
  desks = replicate w.config.lanes (fresh_desk (in_new_epoch w.config epoch));
  accepted = replicate w.config.producers [];
  ended = incarnations w;
  sent = w.sent;
  index = w.index;
  kept = w.kept;
}

-- ---- all events

-- the world after an accepted event, and what the event returns
abbrev pub Changes : World → Event → StepAnswer → World → Type 0
Changes w (event.Put p key action) x new =
    (x ≡ answer.Put (name_of (op_of_put w p key action))) × (new ≡ after_put w (op_of_put w p key action))
Changes w (event.Close p l) x new = (x ≡ answer.Done) × (new ≡ at_lane l (after_post p body.Done) w)
Changes w (event.Tick l) x new = (x ≡ answer.Done) × (new ≡ at_lane l (after_post w.config.producers body.Tick) w)
Changes w (event.Flush l) x new = (x ≡ answer.Done) × (new ≡ at_lane l (after_post w.config.producers body.Flush) w)
Changes w (event.Take l) x new = (x ≡ answer.Done) × (new ≡ at_lane l took_front w)
Changes w (event.Send l) x new = (x ≡ answer.Sent (length w.sent + 1)) × (new ≡ after_send w l)
Changes w (event.Run request item c) x new = RunsItem w request item c x new
Changes w (event.Reply request picks) x new = RepliesBy w request picks x new
Changes w (event.Whole request status) x new = AnswersBy w request (Whole status None) x new
Changes w (event.Lost request) x new = AnswersBy w request (Lost loss.Closed) x new
Changes w (event.Restart epoch) x new = (x ≡ answer.Done) × (new ≡ after_restart w epoch)
