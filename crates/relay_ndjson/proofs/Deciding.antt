-- A text has no fault exactly if it asks for an action.
use Rattle.std.proofs.Common.{◌≡◌, ℕ, List, [], codes, true, Option, None, Some, refl, ap, sym, ◌∙◌, subst, arith, inl, inr, option_map, unwrap_or, bytes_eq, if◌then◌else◌}
use Rattle.std.proofs.lemmas.Slice.Eq.{bytes_eq-Decides}
use Rattle.relay_action.specs.declared.fault.ActionFault.{ActionFault}
use Rattle.std.proofs.lemmas.Grind.{common_steps}
use Rattle.std.proofs.lemmas.Str.{IsUtf8-from_is_utf8}
use Rattle.std.specs.Str.{is_utf8}
use Rattle.serde_json.specs.Data.{Data, null, boolean, number, string, array, object, Members, member, no_members}
use Rattle.serde_json.specs.Read.{read}
use Rattle.serde_json.proofs.OnLiterals.{serde_json_on_literals}
use Rattle.relay_action.specs.Actions.{kind_name, kind_named}
use Rattle.relay_action.specs.Faults.{key_fault}
use Rattle.relay_action.specs.Limits.{HasLength, index_limit, id_limit}
use Rattle.relay_action.specs.declared.action.ActionKind.{ActionKind}
use Rattle.relay_action.specs.declared.action.ActionKind.TheVariants as action
use Rattle.relay_ndjson.specs.declared.kind.LineKind.{LineKind}
use Rattle.relay_ndjson.specs.declared.kind.LineKind.TheVariants as kind
use Rattle.relay_ndjson.specs.Names.{has_only, all_names}
use Rattle.relay_ndjson.specs.Metadata.{is_document, is_field, index_of, id_of, Asks, Says, metadata_fault, value_fault, line_fault, IsDocument, fault_or, action_of}
use Rattle.relay_ndjson.specs.Laws.{TextDecides}
use Rattle.relay_ndjson.proofs.Asking.{decide, line_fault-value}

fields_of_document : (ms : Members) → all_names is_document ms ≡ true → all_names is_field ms ≡ true
fields_of_document no_members h = refl
fields_of_document (member name d ms) h =
    let here : is_document name ≡ true = grind (arith, common_steps) in
    let later : all_names is_document ms ≡ true = grind (arith, common_steps) in
    let rest = fields_of_document ms later in grind (arith, common_steps)

metadata_none : (default : Option (List ℕ)) (ms : Members) (index id : List ℕ) → IsDocument default (object ms) index id → key_fault index id ≡ None → metadata_fault default (object ms) ≡ None
metadata_none default ms index id d k =
    let f = fields_of_document ms d.0 in
    let a = d.0 in let b = d.1 in let c = d.2 in rw (f, a, b, c, k) refl

asks_none : (default : Option (List ℕ)) (d : Data) (a : ActionKind) (index id : List ℕ) → Asks default d a index id → key_fault index id ≡ None → value_fault default d ≡ None
asks_none default d action.Index index id s k = let e = s.1 in rw e (metadata_none default s.0 index id s.2 k)
asks_none default d action.Delete index id s k = let e = s.1 in rw e (metadata_none default s.0 index id s.2 k)

pub says_none : (default : Option (List ℕ)) (text : List ℕ) (a : ActionKind) (index id : List ℕ) → Says default text a index id → key_fault index id ≡ None → line_fault default text ≡ None
says_none default text a index id s k = line_fault-value default text s.1 s.0 s.2 ∙ asks_none default s.1 a index id s.3 k

pub key_none : (index id : List ℕ) → HasLength index_limit index → HasLength id_limit id → key_fault index id ≡ None
key_none index id h k = grind (arith, h.0, h.1, k.0, k.1)

pub not_empty : (default : Option (List ℕ)) (a : ActionKind) (index id : List ℕ) → Says default [] a index id → ⊥
unfolding serde_json_on_literals
not_empty default a index id s = let n : read [] ≡ None = refl in let b : Some s.1 ≡ None = sym s.2 ∙ n in cc

pub one_name : (default : Option (List ℕ)) (text : List ℕ) (index id other name : List ℕ) → Says default text action.Index index id → Says default text action.Delete other name → ⊥
one_name default text index id other name s t =
    let same : Some s.1 ≡ Some t.1 = sym s.2 ∙ t.2 in
    let d : s.1 ≡ t.1 = cc in
    let e : object (member (codes "index") (object s.3.0) no_members) ≡ object (member (codes "delete") (object t.3.0) no_members) = sym s.3.1 ∙ (d ∙ t.3.1) in
    cc

-- ---- the other way

eq-from : (xs ys : List ℕ) → bytes_eq xs ys ≡ true → xs ≡ ys
eq-from xs ys e = grind (arith, common_steps, bytes_eq-Decides xs ys)

pub kind_of_name : (name : List ℕ) (a : ActionKind) → kind_named name ≡ Some a → name ≡ kind_name a
kind_of_name name action.Index e =
    elim (decide (bytes_eq name (codes "index"))) [
      | inl t ↦ eq-from name (codes "index") t
      | inr f ↦ (let g : kind_named name ≡ (if bytes_eq name (codes "delete") then Some action.Delete else None) = rw f refl in
          elim (decide (bytes_eq name (codes "delete"))) [ inl t ↦ (let h : kind_named name ≡ Some action.Delete = rw (f, t) refl in cc) | inr u ↦ (let h : kind_named name ≡ None = rw (f, u) refl in cc) ])
    ]
kind_of_name name action.Delete e =
    elim (decide (bytes_eq name (codes "index"))) [
      | inl t ↦ (let h : kind_named name ≡ Some action.Index = rw t refl in cc)
      | inr f ↦
          elim (decide (bytes_eq name (codes "delete"))) [ inl t ↦ eq-from name (codes "delete") t | inr u ↦ (let h : kind_named name ≡ None = rw (f, u) refl in cc) ]
    ]

abbrev Asked : Option (List ℕ) → Data → Type 0
Asked default d = (a : ActionKind) × (index : List ℕ) × (id : List ℕ) × Asks default d a index id × (key_fault index id ≡ None)

pub no_fault : {A : Type 0} (k : LineKind) (f : A → Option LineKind) (o : Option A) → fault_or k f o ≡ None → (x : A) × (o ≡ Some x) × (f x ≡ None)
no_fault k f None e = cc
no_fault k f (Some x) e = (x, refl, e)

pub no_kind : (o : Option ActionFault) → option_map kind.Action o ≡ None → o ≡ None
no_kind None e = refl
no_kind (Some x) e = cc

-- metadata without a fault names a document
none_metadata : (default : Option (List ℕ)) (m : Data) → metadata_fault default m ≡ None → (index : List ℕ) × (id : List ℕ) × IsDocument default m index id × (key_fault index id ≡ None)
none_metadata default m e =
    elim (decide (has_only is_field m)) [
      | inr f ↦ (let h : metadata_fault default m ≡ Some kind.UnsupportedField = rw f refl in cc)
      | inl t ↦
          elim (decide (has_only is_document m)) [
            | inr g ↦ (let h : metadata_fault default m ≡ Some kind.VersionGiven = rw (t, g) refl in cc)
            | inl u ↦
                (let r : fault_or kind.MissingIndex (λ index. fault_or kind.MissingId (λ id. option_map kind.Action (key_fault index id)) (id_of m)) (index_of default m) ≡ None = rw (t, u) at e in
                let i = no_fault kind.MissingIndex _ (index_of default m) r in
                let d = no_fault kind.MissingId _ (id_of m) i.2 in
                (i.0, d.0, (u, i.1, d.1), no_kind (key_fault i.0 d.0) d.2))
          ]
    ]

-- the form of an action
pub action_form : (d : Data) (name : List ℕ) (m : Data) → action_of d ≡ Some (name, m) → (ms : Members) × (d ≡ object (member name (object ms) no_members)) × (m ≡ object ms)
action_form null name m e = cc
action_form (boolean b) name m e = cc
action_form (number n) name m e = cc
action_form (string s) name m e = cc
action_form (array ds) name m e = cc
action_form (object no_members) name m e = cc
action_form (object (member x null no_members)) name m e = cc
action_form (object (member x (boolean b) no_members)) name m e = cc
action_form (object (member x (number n) no_members)) name m e = cc
action_form (object (member x (string s) no_members)) name m e = cc
action_form (object (member x (array ds) no_members)) name m e = cc
action_form (object (member x (object ms) no_members)) name m e =
    let p : (x, object ms) ≡ (name, m) = ap (λ (o : Option (List ℕ × Data)). unwrap_or o (x, object ms)) e in
    let a : x ≡ name = ap (λ (q : List ℕ × Data). q.0) p in let b : object ms ≡ m = ap (λ (q : List ℕ × Data). q.1) p in (ms, ap (λ y. object (member y (object ms) no_members)) a, sym b)
action_form (object (member x d (member y f ms))) name m e = cc

none_asks : (default : Option (List ℕ)) (d : Data) → value_fault default d ≡ None → Asked default d
none_asks default d e =
    let a = no_fault kind.NotOneAction _ (action_of d) e in
    let k = no_fault kind.UnsupportedAction _ (kind_named a.0.0) a.2 in
    let form = action_form d a.0.0 a.0.1 a.1 in
    let m = none_metadata default a.0.1 k.2 in
    let name = kind_of_name a.0.0 k.0 k.1 in
    (k.0, m.0, m.1, (form.0, form.1 ∙ ap (λ y. object (member y (object form.0) no_members)) name, subst (λ (x : Data). IsDocument default x m.0 m.1) form.2 m.2), m.3)

pub none_says : (default : Option (List ℕ)) (text : List ℕ) → line_fault default text ≡ None → (a : ActionKind) × (index : List ℕ) × (id : List ℕ) × Says default text a index id × (key_fault index id ≡ None)
none_says default text e =
    elim (decide (is_utf8 text)) [
      | inr f ↦ (let h : line_fault default text ≡ Some kind.NotJson = rw f refl in cc)
      | inl t ↦
          (let r : fault_or kind.NotJson (value_fault default) (read text) ≡ None = rw t at e in
          let v = no_fault kind.NotJson _ (read text) r in
          let s = none_asks default v.0 v.2 in
          (s.0, s.1, s.2, (IsUtf8-from_is_utf8 text t, v.0, v.1, s.3), s.4))
    ]

pub text_decides : TextDecides
text_decides default text = (none_says default text, λ s. says_none default text s.0 s.1 s.2 s.3 s.4)
