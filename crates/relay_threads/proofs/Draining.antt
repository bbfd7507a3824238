-- What a lane tells that drains, turn by turn.
use Rattle.std.proofs.Common.{◌≡◌, ℕ, List, [], ◌∷◌, Option, Bool, true, false, refl, sym, ap, ◌∙◌, length, arith}
use Rattle.std.specs.Prelude.{nat_lt}
use borrow.Author.Tests.{ltb-false}
use Rattle.relay_action.specs.declared.mail.Mail.{Mail}
use Rattle.relay_results.specs.Outside.{Outside}
use Rattle.relay_core.specs.State.{State, without_successes}
use Rattle.relay_lane.specs.Delivers.{TookTurnIf, WorkedOn}
use Rattle.relay_lane.specs.Turns.{Turn, Stays}
use Rattle.relay_lane.proofs.Calling.{worked_on_none, worked_on_turn, worked_on_still}
use Rattle.relay_lane.specs.Exchanges.{Exchange}
use Rattle.relay_threads.specs.Told.{Told, TellsMore, GoesOnTelling, StaysTold}
use Rattle.relay_threads.proofs.ToldOnce.{works_told, goes_on_telling, goes_on_by}

module _ {S : Type 0} (d : Bool) (fits : S → Outside → Type 0) (carries : S → Exchange → S → Type 0) (going : Turn → State → Bool) where
  worked_if : (b : Bool) (v w : S) (s t : State) → TookTurnIf b d fits carries going v w s t → WorkedOn d fits carries going v w s t
  worked_if true v w s t x = worked_on_turn d fits carries going x.turn v w s t x.goes x.may x.reached x.delivers
  worked_if false v w s t x = worked_on_still d fits carries going d v v w s s t refl (worked_on_none d fits carries going v s) x.0 x.1

  -- a turn, or none, is told of later
  pub turned_told : (b : Bool) (v w : S) (s t : State) → TookTurnIf b d fits carries going v w s t → Stays s t → StaysTold d fits carries v w s t
  turned_told b v w s t x stays = works_told d fits carries going v w s t (worked_if b v w s t x) stays

  -- until now, and then a turn
  pub drains_on : (e : Bool) (u v w : S) (t0 t1 : ℕ → Option Told) (j k : ℕ) (b : Bool) (r s t : State) (heard : List Mail) → d ≡ e → GoesOnTelling e fits carries u v t0 t1 j k r s heard heard → TookTurnIf b d fits carries going v w s t → Stays s t → GoesOnTelling e fits carries u w t0 t1 j k r t heard heard
  drains_on e u v w t0 t1 j k b r s t heard same x y stays = goes_on_telling e d fits carries u v w t0 t1 t1 j k k r s t heard heard heard same x (turned_told b v w s t y stays t1 k heard)

-- and what ended in it is told
pub drains_and_tells : {S : Type 0} (d e : Bool) (fits : S → Outside → Type 0) (carries : S → Exchange → S → Type 0) (u w : S) (t0 t1 t2 : ℕ → Option Told) (j k l : ℕ) (r t z : State) (heard : List Mail) → d ≡ e → GoesOnTelling e fits carries u w t0 t1 j k r t heard heard → z ≡ without_successes t → TellsMore t1 t2 k l t z → GoesOnTelling e fits carries u w t0 t2 j l r z heard heard
drains_and_tells d e fits carries u w t0 t1 t2 j k l r t z heard same x is y = goes_on_telling e d fits carries u w w t0 t1 t2 j k l r t z heard heard heard same x (goes_on_by d fits carries w t1 t2 k l t z heard is y)

-- no turn was taken since nothing is held
empty : {A : Type 0} (xs : List A) → false ≡ nat_lt 0 (length xs) → xs ≡ []
empty [] e = refl
empty (x ∷ xs) e = absurd (let k = ltb-false 0 (length (x ∷ xs)) (sym e) in omega (arith, k))

pub none_left : {S : Type 0} (d : Bool) (fits : S → Outside → Type 0) (carries : S → Exchange → S → Type 0) (going : Turn → State → Bool) (v w : S) (s t : State) → false ≡ nat_lt 0 (length s.core.held) → TookTurnIf false d fits carries going v w s t → t.core.held ≡ []
none_left d fits carries going v w s t some x = ap (λ (z : State). z.core.held) x.0 ∙ empty s.core.held some
