-- The rule of a queue: what holds at every moment of the queued messages and of what the passes know.
use Rattle.std.specs.Prelude.{◌≡◌, ℕ, ◌<◌, ◌≤◌, Bool, List, [], ◌++◌, length, ⊤}
use mathlib.Core.Option.{Option, some, none}
use lib.ListN.{get_elem?}
use Rattle.relay_action.specs.declared.mail.Mail.{Mail}
use Rattle.relay_queue.specs.declared.rule.SentList.{SentList}
use Rattle.relay_queue.specs.declared.rule.Knowledge.{Knowledge}
use Rattle.relay_queue.specs.declared.rule.Knowledge.TheVariants.{Sender, Taker, Met}
use Rattle.relay_queue.specs.Messages.{mail_of, HasDone, HasDoneIff, IsWellSent}

-- what the passes are about: the number of places, the number of the taker's pass, that of the pass of each sender
-- that was not met, the messages taken, and the log
pub record History : Type 0 where
  pub capacity : ℕ
  pub taker : ℕ
  pub pass_of : ℕ → Option ℕ
  pub taken : List Mail
  pub log : List Mail

-- what a sender's pass knows: the number of places, the sender's number, what it sent, and whether it closed
pub record OfSender : Type 0 where
  pub capacity : ℕ
  pub sender : ℕ
  pub sent : List Mail
  pub closed : Bool

-- what the taker's pass knows: the number of places, the number of senders that were made, what was taken, and what
-- the senders that were met sent
pub record OfTaker : Type 0 where
  pub capacity : ℕ
  pub senders : ℕ
  pub taken : List Mail
  pub met : List SentList

-- a sender's pass is the only one of that sender; what it knows to be sent is what the log has of the sender, with a
-- Done exactly if the sender closed
pub record FitsSender (history : History) (pass : ℕ) (known : OfSender) : Type 0 where
  pub places : known.capacity ≡ history.capacity
  pub own : history.pass_of known.sender ≡ some pass
  pub all : known.sent ≡ mail_of known.sender history.log
  pub done : HasDoneIff known.closed known.sent

-- a sender that was not made yet has no pass and sent nothing
pub record IsUnmade (history : History) (sender : ℕ) : Type 0 where
  pub no_pass : history.pass_of sender ≡ none
  pub nothing : mail_of sender history.log ≡ []

-- a sender that was met no longer has a pass, is closed, and sent what the log has of it
pub record WasMet (history : History) (senders : ℕ) (met : SentList) : Type 0 where
  pub made : met.sender < senders
  pub no_pass : history.pass_of met.sender ≡ none
  pub all : met.sent ≡ mail_of met.sender history.log
  pub done : HasDone met.sent

-- the taker's pass is the only one of its kind; it knows what was taken, that later senders are not made, and what
-- the senders that it met sent
pub record FitsTaker (history : History) (pass : ℕ) (known : OfTaker) : Type 0 where
  pub places : known.capacity ≡ history.capacity
  pub own : pass ≡ history.taker
  pub front : known.taken ≡ history.taken
  pub later : (sender : ℕ) → known.senders ≤ sender → IsUnmade history sender
  pub closed : (i : ℕ) (m : SentList) → get_elem? known.met i ≡ some m → WasMet history known.senders m

-- what the pass knows is true
abbrev pub Fits : History → ℕ → Knowledge → Type 0
Fits history pass (Sender capacity sender sent closed) =
    FitsSender history pass (record { capacity = capacity; sender = sender; sent = sent; closed = closed })
Fits history pass (Taker capacity senders taken met) =
    FitsTaker history pass (record { capacity = capacity; senders = senders; taken = taken; met = met })
Fits history pass Met = ⊤

-- the rule: there is a log, of what was taken and then what is queued; what it has of each sender is well sent; no
-- more is queued than there are places; and what each pass knows is true
pub record Delivers (queued : List Mail) (passes : List Knowledge) : Type 0 where
  pub history : History
  pub in_log : history.log ≡ history.taken ++ queued
  pub well_sent : (sender : ℕ) → IsWellSent (mail_of sender history.log)
  pub within : length queued ≤ history.capacity
  pub known : (pass : ℕ) (v : Knowledge) → get_elem? passes pass ≡ some v → Fits history pass v
