-- Why a source refuses its operation.
use Rattle.std.proofs.Common.{◌≡◌, ℕ, List, Option, Some, None, refl, ap, sym, ◌∙◌, subst, unwrap_or, option_map, inl, inr, IsUtf8}
use Rattle.std.specs.Str.{is_utf8}
use Rattle.std.proofs.lemmas.Str.{IsUtf8-from_is_utf8, is_utf8-from_IsUtf8}
use Rattle.relay_action.specs.Actions.{IsIndexOf}
use Rattle.relay_action.specs.Faults.{source_fault}
use Rattle.relay_action.specs.declared.action.Action.{Action}
use Rattle.relay_action.specs.declared.fault.ActionFault.{ActionFault}
use Rattle.relay_action.specs.declared.fault.ActionFault.TheVariants as limit
use Rattle.relay_front.specs.declared.operation.ItemFault.TheVariants as fault
use Rattle.relay_front.specs.Operations.{source_reason}
use Rattle.relay_front.proofs.Given.{decide}

pub not_text : (source : List ℕ) → (IsUtf8 source → ⊥) → source_reason source ≡ Some fault.SourceForm
not_text source not =
    elim (decide (is_utf8 source)) [ inl e ↦ absurd (not (IsUtf8-from_is_utf8 source e)) | inr e ↦ rw e refl ]

of_text : (source : List ℕ) → IsUtf8 source → source_reason source ≡ option_map fault.Action (source_fault source)
of_text source u = let e = is_utf8-from_IsUtf8 source u in rw e refl

pub no_reason : (source text : List ℕ) (a : Action) → text ≡ source → IsUtf8 source → source_fault text ≡ None → IsIndexOf text a → (source_reason source ≡ None) × IsIndexOf source a
no_reason source text a same u none is = (of_text source u ∙ ap (option_map fault.Action) (ap source_fault (sym same) ∙ none), subst (λ (s : List ℕ). IsIndexOf s a) same is)

some_of : (f : ActionFault) (found : Option ActionFault) → f ≡ unwrap_or found limit.Memory → (f ≡ limit.Memory → ⊥) → found ≡ Some f
some_of f None is other = absurd (other is)
some_of f (Some g) is other = ap Some (sym is)

pub reason_from : (source text : List ℕ) (f : ActionFault) → text ≡ source → IsUtf8 source → f ≡ unwrap_or (source_fault text) limit.Memory → (f ≡ limit.Memory → ⊥) → source_reason source ≡ Some (fault.Action f)
reason_from source text f same u is other =
    of_text source u ∙ ap (option_map fault.Action) (ap source_fault (sym same) ∙ some_of f (source_fault text) is other)
