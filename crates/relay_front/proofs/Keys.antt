-- A document of a request, by its index name and id.
use Rattle.std.proofs.Common.{◌≡◌, ℕ, List, Bool, Option, Some, None, Result, Ok, Err, ap, sym, ◌∙◌}
use Rattle.relay_action.specs.Faults.{key_fault}
use Rattle.relay_action.specs.declared.fault.ActionFault.{ActionFault}
use Rattle.relay_front.specs.declared.operation.ItemFault.{ItemFault}
use Rattle.relay_front.specs.Operations.{Named, key_by, unless}

named : List ℕ → List ℕ → Bool → Result Named ItemFault
named index id made = Ok (index, id, made)

made_of : Bool → Result Named ItemFault → Bool
made_of made (Ok key) = key.2
made_of made (Err f) = made

made_at : (fault : Option ActionFault) (index id other name : List ℕ) (made own : Bool) → named other name own ≡ unless {A = Named} fault (index, id, made) → unless {A = Named} fault (index, id, made) ≡ named other name made
unfolding named made_of
made_at None index id other name made own e = let same : own ≡ made = ap (made_of made) e in sym e ∙ ap (λ b. named other name b) same
made_at (Some f) index id other name made own e = cc

pub made_is : (index id other name : List ℕ) (made own : Bool) → ◌≡◌ {A = Result Named ItemFault} (Ok (other, name, own)) (key_by index made id) → ◌≡◌ {A = Result Named ItemFault} (key_by index made id) (Ok (other, name, made))
unfolding named
made_is index id other name made own e = made_at (key_fault index id) index id other name made own e
