-- What passes over a wire, one exchange after another, and that a lane's calls are exactly these exchanges.
use Rattle.std.specs.Prelude.{◌≡◌, ◌+◌, ◌⊎◌, ℕ, List, [], ◌∷◌, Option, Some, None}
use Rattle.relay_action.specs.declared.write.Write.{Write}
use Rattle.relay_results.specs.declared.cause.Loss.{Loss}
use Rattle.relay_results.specs.Outside.{Answer, Lost}
use Rattle.relay_results.specs.Words.{Mem}
use Rattle.relay_delivery.specs.Lane.{Entry, writes_of_all}
use Rattle.relay_delivery.specs.Reach.{Call, Takes, Ticks, Answers}
use Rattle.relay_delivery.specs.Reach as core

-- the wire was given these writes as the request with this number, and sent them, or could not, for this reason; or it
-- was asked for the answer to the request with this number, and returned this one
pub data Exchange : Type 0 where
  Sends : ℕ → List Write → Option Loss → Exchange
  Receives : ℕ → Answer → Exchange

module _ {S : Type 0} (carries : S → Exchange → S → Type 0) where
  -- The same with a request that could not be sent, if there is one, and that is not settled yet: it is settled before
  -- anything else passes, as lost for the reason that the wire returned.
  abbrev pub PassesFrom : Option Loss → List Call → ℕ → S → ℕ → S → Type 0
  PassesFrom failed [] n old m new = (failed ≡ None) × (m ≡ n) × (new ≡ old)
  PassesFrom failed (Takes o bytes ∷ cs) n old m new = PassesFrom failed cs n old m new
  PassesFrom failed (Ticks clock ∷ cs) n old m new = PassesFrom failed cs n old m new
  PassesFrom failed (core.Sends chosen ∷ cs) n old m new =
      (failed ≡ None) × (fault : Option Loss) × (mid : S) × carries old (Sends (n + 1) (writes_of_all chosen) fault) mid × PassesFrom fault cs (n + 1) mid m new
  PassesFrom None (Answers number a ∷ cs) n old m new = (mid : S) × carries old (Receives number a) mid × PassesFrom None cs n mid m new
  PassesFrom (Some why) (Answers number a ∷ cs) n old m new = (number ≡ n) × (a ≡ Lost why) × PassesFrom None cs n old m new

  -- By the exchanges of these calls, and by no others, the wire went from one state to another, and the number of
  -- requests that it was given from one to another. A request is given to it with the next number and the writes of what
  -- is sent. Each answer is the one that the wire returned for that number; only a request that it could not send is
  -- settled without an answer of it. No message and no tick passes over the wire.
  abbrev pub Passes : List Call → ℕ → S → ℕ → S → Type 0
  Passes calls n old m new = PassesFrom None calls n old m new

-- ---- what follows

module _ {S : Type 0} (carries : S → Exchange → S → Type 0) where
  -- the wire was given these writes as the request with this number
  pub record IsGiven (number : ℕ) (ws : List Write) : Type 0 where
    pub fault : Option Loss
    pub old : S
    pub new : S
    pub was : carries old (Sends number ws fault) new

  -- the wire returned this answer for the request with this number
  pub record IsReturned (number : ℕ) (a : Answer) : Type 0 where
    pub old : S
    pub new : S
    pub was : carries old (Receives number a) new

  -- the wire could not send the request with this number, for the reason for which this answer says that it is lost
  pub record IsUnsent (number : ℕ) (a : Answer) : Type 0 where
    pub why : Loss
    pub is : a ≡ Lost why
    pub writes : List Write
    pub old : S
    pub new : S
    pub was : carries old (Sends number writes (Some why)) new

  -- each request of calls that are what passed over the wire was given to it with its writes
  abbrev pub RequestsAreGiven : Type 0
  RequestsAreGiven =
      (calls : List Call) (n m : ℕ) (old new : S) → Passes carries calls n old m new → (chosen : List Entry) → Mem (core.Sends chosen) calls → (number : ℕ) × IsGiven number (writes_of_all chosen)

  -- and each answer is one that it returned, for the request with that number, or the loss of one that it could not send
  abbrev pub AnswersAreReturned : Type 0
  AnswersAreReturned =
      (calls : List Call) (n m : ℕ) (old new : S) → Passes carries calls n old m new → (number : ℕ) (a : Answer) → Mem (Answers number a) calls → IsReturned number a ⊎ IsUnsent number a
