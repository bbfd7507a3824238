-- What an action line of the index side asks for.
use Rattle.std.proofs.Common.{◌≡◌, ℕ, List, Option, None, Some, refl, ap, sym, ◌∙◌, subst, inl, inr, true, false, Bool, is_some, ◌&&◌, IsUtf8}
use Rattle.std.specs.Str.{is_utf8}
use Rattle.std.proofs.lemmas.Str.{is_utf8-from_IsUtf8, IsUtf8-from_is_utf8}
use Rattle.serde_json.specs.Data.{Data, object, Members, member, no_members}
use Rattle.serde_json.specs.Read.{read}
use Rattle.relay_action.specs.Actions.{kind_name, kind_named}
use Rattle.relay_action.specs.Faults.{key_fault}
use Rattle.relay_action.specs.declared.action.ActionKind.{ActionKind}
use Rattle.relay_action.specs.declared.action.ActionKind.TheVariants as action
use Rattle.relay_ndjson.specs.declared.kind.LineKind.TheVariants as kind
use Rattle.relay_ndjson.specs.Names.{has_only}
use Rattle.relay_ndjson.specs.Metadata.{is_field, index_of, id_of, fault_or, document_fault, action_of}
use Rattle.relay_ndjson.specs.VersionedLines.{version_of, is_external, IsVersioned, AsksVersioned, SaysVersioned, versioned_fault, write_fault, write_line_fault}
use Rattle.relay_ndjson.specs.Laws.{VersionedTextDecides}
use Rattle.relay_action.proofs.Actions.{one_kind}
use Rattle.relay_ndjson.proofs.Asking.{decide}
use Rattle.relay_ndjson.proofs.Deciding.{kind_of_name, no_fault, no_kind, action_form}

write_line_fault-value : (text : List ℕ) (d : Data) → IsUtf8 text → read text ≡ Some d → write_line_fault text ≡ write_fault d
write_line_fault-value text d u r = let e = is_utf8-from_IsUtf8 text u in rw (e, r) refl

-- ---- a line that says what it has to has no fault

versioned_none : (ms : Members) (index id : List ℕ) (version : ℕ) → IsVersioned (object ms) index id version → key_fault index id ≡ None → versioned_fault (object ms) ≡ None
versioned_none ms index id version v k =
    let a = v.0 in let b = v.1 in let c = v.2 in let d = v.3 in let e = v.4 in rw (a, b, c, d, e, k) refl

asks_none : (d : Data) (a : ActionKind) (index id : List ℕ) (version : ℕ) → AsksVersioned d a index id version → key_fault index id ≡ None → write_fault d ≡ None
asks_none d action.Index index id version s k = let e = s.1 in rw e (versioned_none s.0 index id version s.2 k)
asks_none d action.Delete index id version s k = let e = s.1 in rw e (versioned_none s.0 index id version s.2 k)

pub says_none : (text : List ℕ) (a : ActionKind) (index id : List ℕ) (version : ℕ) → SaysVersioned text a index id version → key_fault index id ≡ None → write_line_fault text ≡ None
says_none text a index id version s k = write_line_fault-value text s.1 s.0 s.2 ∙ asks_none s.1 a index id version s.3 k

-- ---- a text asks for one thing

pub some_same : {A : Type 0} (x y : A) → Some x ≡ Some y → x ≡ y
some_same x y e = cc

pub same_object : (name other : List ℕ) (ms ns : Members) → object (member name (object ms) no_members) ≡ object (member other (object ns) no_members) → (name ≡ other) × (ms ≡ ns)
same_object name other ms ns e = (cc, cc)

-- what two equal texts ask for
pub record AsksOne (a b : ActionKind) (index id other name : List ℕ) (version later : ℕ) : Type 0 where
  pub same_kind : a ≡ b
  pub same_index : index ≡ other
  pub same_id : id ≡ name
  pub same_version : version ≡ later

pub asks_one : (text : List ℕ) (a b : ActionKind) (index id other name : List ℕ) (version later : ℕ) → SaysVersioned text a index id version → SaysVersioned text b other name later → AsksOne a b index id other name version later
asks_one text a b index id other name version later s t =
    let d : s.1 ≡ t.1 = some_same s.1 t.1 (sym s.2 ∙ t.2) in
    let o = same_object (kind_name a) (kind_name b) s.3.0 t.3.0 (sym s.3.1 ∙ (d ∙ t.3.1)) in
    let v = subst (λ (ms : Members). IsVersioned (object ms) index id version) o.1 s.3.2 in
    let w = t.3.2 in record {
      same_kind = one_kind a b o.0;
      same_index = some_same index other (sym v.3 ∙ w.3);
      same_id = some_same id name (sym v.4 ∙ w.4);
      same_version = some_same version later (sym v.1 ∙ w.1);
    }

-- ---- the other way

both : (o : Option ℕ) (b : Bool) → (is_some o && b) ≡ true → (n : ℕ) × (o ≡ Some n) × (b ≡ true)
both None b e = cc
both (Some n) true e = (n, refl, refl)
both (Some n) false e = cc

abbrev NamesVersion : Data → Type 0
NamesVersion m = (index : List ℕ) × (id : List ℕ) × (version : ℕ) × IsVersioned m index id version × (key_fault index id ≡ None)

-- metadata without a fault name a document and its version
none_versioned : (m : Data) → versioned_fault m ≡ None → NamesVersion m
none_versioned m e =
    elim (decide (has_only is_field m)) [
      | inr f ↦ (let h : versioned_fault m ≡ Some kind.UnsupportedField = rw f refl in cc)
      | inl t ↦
          elim (decide (is_some (version_of m) && is_external m)) [
            | inr g ↦ (let h : versioned_fault m ≡ Some kind.VersionMissing = rw (t, g) refl in cc)
            | inl u ↦
                (let r : document_fault None m ≡ None = rw (t, u) at e in
                let v = both (version_of m) (is_external m) u in
                let i = no_fault kind.MissingIndex _ (index_of None m) r in
                let d = no_fault kind.MissingId _ (id_of m) i.2 in
                (i.0, d.0, v.0, (t, v.1, v.2, i.1, d.1), no_kind (key_fault i.0 d.0) d.2))
          ]
    ]

abbrev AskedFor : Data → Type 0
AskedFor d = (a : ActionKind) × (index : List ℕ) × (id : List ℕ) × (version : ℕ) × AsksVersioned d a index id version × (key_fault index id ≡ None)

none_asks : (d : Data) → write_fault d ≡ None → AskedFor d
none_asks d e =
    let a = no_fault kind.NotOneAction _ (action_of d) e in
    let k = no_fault kind.UnsupportedAction _ (kind_named a.0.0) a.2 in
    let form = action_form d a.0.0 a.0.1 a.1 in
    let m = none_versioned a.0.1 k.2 in
    let name = kind_of_name a.0.0 k.0 k.1 in
    (k.0, m.0, m.1, m.2, (form.0, form.1 ∙ ap (λ y. object (member y (object form.0) no_members)) name, subst (λ (x : Data). IsVersioned x m.0 m.1 m.2) form.2 m.3), m.4)

none_says : (text : List ℕ) → write_line_fault text ≡ None → (a : ActionKind) × (index : List ℕ) × (id : List ℕ) × (version : ℕ) × SaysVersioned text a index id version × (key_fault index id ≡ None)
none_says text e =
    elim (decide (is_utf8 text)) [
      | inr f ↦ (let h : write_line_fault text ≡ Some kind.NotJson = rw f refl in cc)
      | inl t ↦
          (let r : fault_or kind.NotJson write_fault (read text) ≡ None = rw t at e in
          let v = no_fault kind.NotJson _ (read text) r in
          let s = none_asks v.0 v.2 in
          (s.0, s.1, s.2, s.3, (IsUtf8-from_is_utf8 text t, v.0, v.1, s.4), s.5))
    ]

pub versioned_text_decides : VersionedTextDecides
versioned_text_decides text = (none_says text, λ s. says_none text s.0 s.1 s.2 s.3 s.4 s.5)
