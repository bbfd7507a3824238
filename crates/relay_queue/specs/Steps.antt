-- What each kind of step does to what a pass knows, and what it shows.
use Rattle.std.specs.Prelude.{◌≡◌, ℕ, ◌+◌, ◌<◌, ◌≤◌, Bool, true, false, List, [], ◌∷◌, ◌++◌, length}
use mathlib.Core.Option.{some}
use lib.ListN.{get_elem?}
use Rattle.relay_action.specs.declared.mail.Mail.{Mail}
use Rattle.relay_queue.specs.declared.rule.SentList.{SentList}
use Rattle.relay_queue.specs.declared.rule.Knowledge.{Knowledge}
use Rattle.relay_queue.specs.declared.rule.Knowledge.TheVariants.{Sender, Taker, Met}
use Rattle.relay_queue.specs.Messages.{HasDoneIff, IsWellSent, IsWellTaken}
use Rattle.relay_queue.specs.Log.{IsAllOf}

-- ---- the parts of what a pass knows

-- the pass is a sender's, closed or not
abbrev pub IsSender : Bool → Knowledge → Type 0
IsSender state (Sender capacity sender sent closed) = closed ≡ state
IsSender state (Taker capacity senders taken met) = ⊥
IsSender state Met = ⊥

-- the pass is the taker's
abbrev pub IsTaker : Knowledge → Type 0
IsTaker (Sender capacity sender sent closed) = ⊥
IsTaker (Taker capacity senders taken met) = Unit {0}
IsTaker Met = ⊥

-- the number of places in the queue
abbrev pub capacity_of : Knowledge → ℕ
capacity_of (Sender capacity sender sent closed) = capacity
capacity_of (Taker capacity senders taken met) = capacity
capacity_of Met = 0

-- a sender's number, and what it sent
abbrev pub sender_of : Knowledge → ℕ
sender_of (Sender capacity sender sent closed) = sender
sender_of (Taker capacity senders taken met) = 0
sender_of Met = 0

abbrev pub sent_of : Knowledge → List Mail
sent_of (Sender capacity sender sent closed) = sent
sent_of (Taker capacity senders taken met) = []
sent_of Met = []

-- the number of senders that the taker's pass made, what it took, and what the senders that it met sent
abbrev pub senders_of : Knowledge → ℕ
senders_of (Sender capacity sender sent closed) = 0
senders_of (Taker capacity senders taken met) = senders
senders_of Met = 0

abbrev pub taken_of : Knowledge → List Mail
taken_of (Sender capacity sender sent closed) = []
taken_of (Taker capacity senders taken met) = taken
taken_of Met = []

abbrev pub met_of : Knowledge → List SentList
met_of (Sender capacity sender sent closed) = []
met_of (Taker capacity senders taken met) = met
met_of Met = []

-- ---- the steps

-- one more message was sent, and the sender has closed with it or not
abbrev pub with_sent : Bool → Knowledge → Mail → Knowledge
with_sent state (Sender capacity sender sent closed) m = Sender capacity sender (sent ++ m ∷ []) state
with_sent state (Taker capacity senders taken met) m = Taker capacity senders taken met
with_sent state Met m = Met

-- one more message was taken
abbrev pub with_taken : Knowledge → Mail → Knowledge
with_taken (Sender capacity sender sent closed) m = Sender capacity sender sent closed
with_taken (Taker capacity senders taken met) m = Taker capacity senders (taken ++ m ∷ []) met
with_taken Met m = Met

-- one more sender was made; the first one fixes the number of places
abbrev pub with_sender : ℕ → Knowledge → Knowledge
with_sender places (Sender capacity sender sent closed) = Sender capacity sender sent closed
with_sender places (Taker capacity senders taken met) = Taker places (senders + 1) taken met
with_sender places Met = Met

-- the sender that was made
abbrev pub new_sender : ℕ → Knowledge → Knowledge
new_sender places (Sender capacity sender sent closed) = Met
new_sender places (Taker capacity senders taken met) = Sender places senders [] false
new_sender places Met = Met

-- one more sender was met
abbrev pub with_met : Knowledge → Knowledge → Knowledge
with_met (Sender capacity sender sent closed) w = Sender capacity sender sent closed
with_met (Taker capacity senders taken met) w = Taker capacity senders taken (record { sender = sender_of w; sent = sent_of w } ∷ met)
with_met Met w = Met

-- ---- what the steps show

-- a send: the message was added to the sender's list, which is well sent, with a Done exactly if the sender has
-- closed
abbrev pub SendsNext : Bool → Knowledge → Mail → Knowledge → Type 0
SendsNext state v m w = (w ≡ with_sent state v m) × IsWellSent (sent_of w) × HasDoneIff state (sent_of w)

-- a take: the message was added to what was taken; its sender is one of those that were made, and what was taken is
-- well taken
abbrev pub Receives : Knowledge → Mail → Knowledge → Type 0
Receives v m w = (w ≡ with_taken v m) × (m.sender < senders_of v) × IsWellTaken (senders_of w) (taken_of w)

-- a reading: no more is queued than there are places, and what each sender that was met sent is all that the log,
-- what was taken and then what is queued, has of it, with a Done
abbrev pub Learns : Knowledge → List Mail → Type 0
Learns v queued =
    (length queued ≤ capacity_of v)
    × ((i : ℕ) (m : SentList) → get_elem? (met_of v) i ≡ some m → (m.sender < senders_of v) × IsAllOf (taken_of v ++ queued) m.sender m.sent true)
