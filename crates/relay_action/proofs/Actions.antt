-- The names of the kinds of actions.
use Rattle.std.proofs.Common.{◌≡◌, refl}
use Rattle.relay_action.specs.Actions.{kind_name}
use Rattle.relay_action.specs.declared.action.ActionKind.{ActionKind}
use Rattle.relay_action.specs.declared.action.ActionKind.TheVariants as kind

-- a name belongs to one kind
pub one_kind : (a b : ActionKind) → kind_name a ≡ kind_name b → a ≡ b
one_kind kind.Index kind.Index e = refl
one_kind kind.Index kind.Delete e = cc
one_kind kind.Delete kind.Index e = cc
one_kind kind.Delete kind.Delete e = refl
