-- The log of a queue, in plain terms: the messages taken, followed by those that are queued.
use Rattle.std.specs.Prelude.{◌≡◌, ℕ, ◌≤◌, Bool, true, List, [], ◌++◌, length}
use mathlib.Core.Option.{some}
use lib.ListN.{get_elem?}
use Rattle.relay_action.specs.declared.mail.Mail.{Mail}
use Rattle.relay_queue.specs.declared.rule.SentList.{SentList}
use Rattle.relay_queue.specs.declared.rule.Knowledge.{Knowledge}
use Rattle.relay_queue.specs.declared.rule.Knowledge.TheVariants.{Sender, Taker}
use Rattle.relay_queue.specs.Messages.{mail_of, HasDoneIff, IsWellSent}

-- the log contains exactly the list that this sender sent, numbered from 1 and with nothing after a Done; it contains
-- a Done exactly if the sender closed
pub record IsAllOf (log : List Mail) (sender : ℕ) (sent : List Mail) (closed : Bool) : Type 0 where
  pub all : sent ≡ mail_of sender log
  pub well_sent : IsWellSent sent
  pub done : HasDoneIff closed sent

-- there is a log: what each sender's end, and the taker's end for those it met, knows to be sent is all that the log
-- has of that sender; the log has nothing of a sender that was not made; the taker's end knows what was taken; and no
-- more is queued than there are places
pub record HasLog (queued : List Mail) (passes : List Knowledge) : Type 0 where
  pub capacity : ℕ
  pub taken : List Mail
  pub within : length queued ≤ capacity
  pub senders : (pass places sender : ℕ) (sent : List Mail) (closed : Bool) → get_elem? passes pass ≡ some (Sender places sender sent closed) → (places ≡ capacity) × IsAllOf (taken ++ queued) sender sent closed
  pub takers : (pass places made : ℕ) (front : List Mail) (met : List SentList) → get_elem? passes pass ≡ some (Taker places made front met) → (places ≡ capacity) × (front ≡ taken) × ((sender : ℕ) → made ≤ sender → mail_of sender (taken ++ queued) ≡ [])
      × ((i : ℕ) (m : SentList) → get_elem? met i ≡ some m → IsAllOf (taken ++ queued) m.sender m.sent true)
