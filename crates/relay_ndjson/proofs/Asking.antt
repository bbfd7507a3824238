-- What an action line asks for.
use Rattle.std.proofs.Common.{◌≡◌, ◌⊎◌, ℕ, List, Option, Some, None, refl, ap, ◌∙◌, arith, unwrap_or, option_map, inl, inr, Bool, true, false, IsUtf8}
use Rattle.std.specs.Str.{is_utf8}
use Rattle.std.proofs.lemmas.Str.{IsUtf8-from_is_utf8, is_utf8-from_IsUtf8}
use Rattle.serde_json.specs.Read.{read}
use Rattle.serde_json.specs.Data.{Data, null, boolean, number, string, array, object, Members, member, no_members}
use Rattle.relay_json.specs.Sole.{sole_object}
use Rattle.relay_action.specs.Actions.{kind_name, kind_named}
use Rattle.relay_action.specs.declared.action.ActionKind.{ActionKind}
use Rattle.relay_action.specs.declared.action.ActionKind.TheVariants as action
use Rattle.relay_action.specs.Faults.{source_fault}
use Rattle.relay_action.specs.declared.fault.ActionFault.{ActionFault}
use Rattle.relay_action.specs.declared.fault.ActionFault.TheVariants as fault
use Rattle.relay_ndjson.specs.declared.kind.LineKind.{LineKind}
use Rattle.relay_ndjson.specs.declared.kind.LineKind.TheVariants as kind
use Rattle.relay_ndjson.specs.Kinds.{kind_of}
use Rattle.relay_ndjson.specs.declared.metadata.Metadata.{Metadata}
use Rattle.relay_ndjson.specs.Metadata.{action_of, line_fault, value_fault, source_line_fault}
use Rattle.relay_ndjson.specs.Fields.{SaysAction, action_fault}

-- ---- UTF-8

pub decide : (b : Bool) → (b ≡ true) ⊎ (b ≡ false)
decide true = inl refl
decide false = inr refl

pub not_utf8 : (text : List ℕ) → (IsUtf8 text → ⊥) → is_utf8 text ≡ false
not_utf8 text h = elim (decide (is_utf8 text)) [ inl e ↦ absurd (h (IsUtf8-from_is_utf8 text e)) | inr e ↦ e ]

pub line_fault-value : (default : Option (List ℕ)) (text : List ℕ) (d : Data) → IsUtf8 text → read text ≡ Some d → line_fault default text ≡ value_fault default d
line_fault-value default text d u r = let e = is_utf8-from_IsUtf8 text u in rw (e, r) refl

pub source_line_fault-text : (text : List ℕ) → IsUtf8 text → source_line_fault text ≡ option_map kind.Action (source_fault text)
source_line_fault-text text u = let e = is_utf8-from_IsUtf8 text u in rw e refl

pub source_line_fault-bytes : (text : List ℕ) → (IsUtf8 text → ⊥) → source_line_fault text ≡ Some kind.NotJson
source_line_fault-bytes text h = let e = not_utf8 text h in rw e refl

pub source_kind : (text : List ℕ) (f : ActionFault) → f ≡ unwrap_or (source_fault text) fault.Memory → (kind_of f ≡ kind.Memory) ⊎ (option_map kind.Action (source_fault text) ≡ Some (kind_of f))
source_kind text f e = grind (arith, e)

pub source_line_kind : (line text : List ℕ) (f : ActionFault) → IsUtf8 line → text ≡ line → f ≡ unwrap_or (source_fault text) fault.Memory → (kind_of f ≡ kind.Memory) ⊎ (source_line_fault line ≡ Some (kind_of f))
source_line_kind line text f u e h = let t = source_line_fault-text line u in let k = source_kind line f (rw e at h) in rw t k

-- no allocation is tried for a source with a fault
source_none : (text : List ℕ) (f : ActionFault) → f ≡ unwrap_or (source_fault text) fault.Memory → kind_of f ≡ kind.Memory → source_fault text ≡ None
source_none text f e is = grind (arith, e, is)

pub source_line_none : (line text : List ℕ) (f : ActionFault) → IsUtf8 line → text ≡ line → f ≡ unwrap_or (source_fault text) fault.Memory → kind_of f ≡ kind.Memory → source_line_fault line ≡ None
source_line_none line text f u e h is = source_line_fault-text line u ∙ ap (option_map kind.Action) (source_none line f (rw e at h) is)

-- ---- an action and its metadata

action_of-sole : (d : Data) → action_of d ≡ sole_object d
action_of-sole null = refl
action_of-sole (boolean b) = refl
action_of-sole (number n) = refl
action_of-sole (string s) = refl
action_of-sole (array ds) = refl
action_of-sole (object ms) = refl

pub not_json : (of_metadata : Data → Option LineKind) (text : List ℕ) → (IsUtf8 text → read text ≡ None) → action_fault of_metadata text ≡ Some kind.NotJson
not_json of_metadata text h =
    elim (decide (is_utf8 text)) [ inl e ↦ (let r = h (IsUtf8-from_is_utf8 text e) in rw (e, r) refl) | inr e ↦ rw e refl ]

pub not_one_action : (of_metadata : Data → Option LineKind) (text : List ℕ) (d : Data) → IsUtf8 text → read text ≡ Some d → sole_object d ≡ None → action_fault of_metadata text ≡ Some kind.NotOneAction
not_one_action of_metadata text d u r n = let e = is_utf8-from_IsUtf8 text u in let a : action_of d ≡ None = action_of-sole d ∙ n in rw (e, r, a) refl

pub unsupported : (of_metadata : Data → Option LineKind) (text : List ℕ) (d : Data) (name : List ℕ) (m : Data) → IsUtf8 text → read text ≡ Some d → sole_object d ≡ Some (name, m) → kind_named name ≡ None → action_fault of_metadata text ≡ Some kind.UnsupportedAction
unsupported of_metadata text d name m u r s k = let e = is_utf8-from_IsUtf8 text u in let a : action_of d ≡ Some (name, m) = action_of-sole d ∙ s in rw (e, r, a, k) refl

of_one : (of_metadata : Data → Option LineKind) (text : List ℕ) (a : ActionKind) (ms : Members) → is_utf8 text ≡ true → read text ≡ Some (object (member (kind_name a) (object ms) no_members)) → action_fault of_metadata text ≡ of_metadata (object ms)
of_one of_metadata text action.Index ms u r = rw (u, r) refl
of_one of_metadata text action.Delete ms u r = rw (u, r) refl

-- the fault of a text that says an action is that of its metadata
pub metadata_kind : (of_metadata : Data → Option LineKind) (text : List ℕ) (a : ActionKind) (m : Metadata) (k : LineKind) (s : SaysAction text a m) → (k ≡ kind.Memory) ⊎ (of_metadata (object s.3) ≡ Some k) → (k ≡ kind.Memory) ⊎ (action_fault of_metadata text ≡ Some k)
metadata_kind of_metadata text a m k s h = rw (of_one of_metadata text a s.3 (is_utf8-from_IsUtf8 text s.0) (s.2 ∙ ap Some s.4)) h

pub metadata_none : (of_metadata : Data → Option LineKind) (text : List ℕ) (a : ActionKind) (m : Metadata) (s : SaysAction text a m) → of_metadata (object s.3) ≡ None → action_fault of_metadata text ≡ None
metadata_none of_metadata text a m s h = of_one of_metadata text a s.3 (is_utf8-from_IsUtf8 text s.0) (s.2 ∙ ap Some s.4) ∙ h
