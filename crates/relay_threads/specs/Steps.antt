-- What the private steps of a lane's thread keep.
use Rattle.std.specs.Prelude.{◌≡◌, ◌⊎◌, ◌<◌, List, [], ◌∷◌, ◌++◌, length}
use Rattle.relay_action.specs.declared.mail.Mail.{Mail}
use Rattle.relay_action.specs.declared.mail.Body.TheVariants.{Tick}
use Rattle.relay_core.specs.State.{State, after_take}

-- the lane took one message of a known sender, the next one that was taken from the queue; a tick may have only woken it
pub record Takes (s t : State) (old new : List Mail) : Type 0 where
  pub mail : Mail
  pub taken : new ≡ old ++ mail ∷ []
  pub sender : mail.sender < length s.closed
  pub reached : (t ≡ after_take s mail.sender mail.body) ⊎ ((mail.body ≡ Tick) × (t ≡ s))
