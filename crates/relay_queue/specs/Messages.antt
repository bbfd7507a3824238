-- What one sender may send, and the messages of one sender in a list.
use Rattle.std.specs.Prelude.{◌≡◌, ℕ, ◌+◌, ◌≤◌, ◌==◌, Bool, true, false, if◌then◌else◌, List, [], ◌∷◌, ◌⊎◌, ⊤}
use Rattle.relay_action.specs.declared.mail.Mail.{Mail}
use Rattle.relay_action.specs.declared.mail.Body.{Body}
use Rattle.relay_action.specs.declared.mail.Body.TheVariants.{Done}

-- the message of a sender with this number
abbrev pub message : ℕ → ℕ → Body → Mail
message sender number body = record { sender = sender; number = number; body = body }

-- the messages of one sender, in order
abbrev pub mail_of : ℕ → List Mail → List Mail
mail_of sender [] = []
mail_of sender (m ∷ ms) = if m.sender == sender then m ∷ mail_of sender ms else mail_of sender ms

-- numbered n, n + 1, and so on
abbrev pub AreNumberedFrom : ℕ → List Mail → Type 0
AreNumberedFrom n [] = ⊤
AreNumberedFrom n (m ∷ ms) = (m.number ≡ n) × AreNumberedFrom (n + 1) ms

-- the message says that its sender has closed
abbrev pub IsDone : Mail → Type 0
IsDone m = m.body ≡ Done

-- one of the messages is a Done
abbrev pub HasDone : List Mail → Type 0
HasDone [] = ⊥
HasDone (m ∷ ms) = IsDone m ⊎ HasDone ms

-- nothing follows a Done
abbrev pub NothingAfterDone : List Mail → Type 0
NothingAfterDone [] = ⊤
NothingAfterDone (m ∷ ms) = (IsDone m → ms ≡ []) × NothingAfterDone ms

-- what one sender may have sent: numbered from 1, and nothing after a Done
abbrev pub IsWellSent : List Mail → Type 0
IsWellSent ms = AreNumberedFrom 1 ms × NothingAfterDone ms

-- what may have been taken from a queue with this many senders: from each a prefix of what it may send, and nothing
-- from any other
pub record IsWellTaken (senders : ℕ) (taken : List Mail) : Type 0 where
  pub in_order : (sender : ℕ) → IsWellSent (mail_of sender taken)
  pub no_other : (sender : ℕ) → senders ≤ sender → mail_of sender taken ≡ []

-- Done was sent exactly if the sender closed
abbrev pub HasDoneIff : Bool → List Mail → Type 0
HasDoneIff true sent = HasDone sent
HasDoneIff false sent = ¬ HasDone sent
