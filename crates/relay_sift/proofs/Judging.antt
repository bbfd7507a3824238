-- What belongs to a line.
use Rattle.std.proofs.Common.{◌≡◌, ◌≢◌, ◌⊎◌, ℕ, List, [], ◌∷◌, length, Option, None, Some, Result, Ok, Err, IfOk, subst, refl, sym, ◌∙◌, arith, inl, inr, IsUtf8}
use Rattle.std.specs.Str.{is_utf8}
use Rattle.std.proofs.lemmas.Str.{IsUtf8-from_is_utf8, is_utf8-from_IsUtf8}
use Rattle.serde_json.specs.Data.{Data}
use Rattle.serde_json.specs.Read.{read}
use Rattle.relay_json.specs.Sole.{sole_object}
use Rattle.relay_action.specs.Actions.{IsIndexOf}
use Rattle.relay_action.specs.Faults.{key_fault}
use Rattle.relay_action.specs.declared.action.Action.{Action}
use Rattle.relay_action.specs.declared.action.Action.TheVariants.{Index, Delete}
use Rattle.relay_action.specs.declared.action.ActionKind.TheVariants as action
use Rattle.relay_action.specs.declared.key.DocKey.{DocKey}
use Rattle.std.specs.declared.alloc.AllocError.{AllocError}
use Rattle.relay_ndjson.specs.declared.kind.LineKind.{LineKind}
use Rattle.relay_ndjson.specs.declared.kind.LineKind.TheVariants as kind
use Rattle.relay_ndjson.specs.Metadata.{Says, line_fault, source_line_fault}
use Rattle.relay_ndjson.proofs.Asking.{decide}
use Rattle.relay_ndjson.proofs.Deciding.{says_none, key_none, not_empty}
use Rattle.relay_ndjson.proofs.Exclusion.{source_none}
use Rattle.relay_sift.specs.declared.asking.Extent.TheVariants as extent
use Rattle.relay_sift.specs.declared.front.Judged.TheVariants as judged
use Rattle.relay_sift.specs.Asking.{extent_of, extent_named}
use Rattle.relay_sift.specs.Fronts.{Judges}

pub extent_found : (text : List ℕ) (d : Data) (name : List ℕ) (m : Data) → IsUtf8 text → read text ≡ Some d → sole_object d ≡ Some (name, m) → extent_named name ≡ extent_of text
extent_found text d name m u r s = let e = is_utf8-from_IsUtf8 text u in rw (e, r, s) refl

pub extent_none : (text : List ℕ) (d : Data) → IsUtf8 text → read text ≡ Some d → sole_object d ≡ None → extent.Lost ≡ extent_of text
extent_none text d u r s = let e = is_utf8-from_IsUtf8 text u in rw (e, r, s) refl

pub extent_not_json : (text : List ℕ) → (IsUtf8 text → read text ≡ None) → extent.Lost ≡ extent_of text
extent_not_json text h =
    elim (decide (is_utf8 text)) [ inl e ↦ (let r = h (IsUtf8-from_is_utf8 text e) in rw (e, r) refl) | inr e ↦ rw e refl ]

pub blank_alone : (d : Option (List ℕ)) (text : List ℕ) → length text ≡ 0 → Judges d text (judged.Alone None)
blank_alone d [] h = (refl, refl)
blank_alone d (x ∷ xs) h = absurd (omega (arith, h))

pub key_valid : (key : DocKey) → key_fault key.index key.id ≡ None
key_valid key = key_none key.index key.id key.index_ok key.id_ok

extent_one : (text index id : List ℕ) (d : Option (List ℕ)) → Says d text action.Delete index id → extent_of text ≡ extent.One
extent_one text index id d s = let e = is_utf8-from_IsUtf8 text s.0 in let r = s.2 in let f = s.3.1 in rw (e, r, f) refl

extent_two : (text index id : List ℕ) (d : Option (List ℕ)) → Says d text action.Index index id → extent_of text ≡ extent.Two
extent_two text index id d s = let e = is_utf8-from_IsUtf8 text s.0 in let r = s.2 in let f = s.3.1 in rw (e, r, f) refl

pub says_alone : (d : Option (List ℕ)) (text : List ℕ) (key : DocKey) → Says d text action.Delete key.index key.id → Judges d text (judged.Alone None)
says_alone d [] key s = absurd (not_empty d action.Delete key.index key.id s)
says_alone d (x ∷ xs) key s = (extent_one (x ∷ xs) key.index key.id d s, sym (says_none d (x ∷ xs) action.Delete key.index key.id s (key_valid key)))

pub says_pair : (d : Option (List ℕ)) (text : List ℕ) (key : DocKey) → Says d text action.Index key.index key.id → Judges d text (judged.Pair None)
says_pair d [] key s = absurd (not_empty d action.Index key.index key.id s)
says_pair d (x ∷ xs) key s = (extent_two (x ∷ xs) key.index key.id d s, sym (says_none d (x ∷ xs) action.Index key.index key.id s (key_valid key)))

pub judged_lost : (d : Option (List ℕ)) (text : List ℕ) (k : LineKind) → length text ≢ 0 → extent.Lost ≡ extent_of text → line_fault d text ≡ Some k → Judges d text (judged.Lost k)
judged_lost d [] k n e f = absurd (n refl)
judged_lost d (x ∷ xs) k n e f = (sym e, f)

pub judged_alone : (d : Option (List ℕ)) (text : List ℕ) (k : LineKind) → length text ≢ 0 → extent.One ≡ extent_of text → line_fault d text ≡ Some k → Judges d text (judged.Alone (Some k))
judged_alone d [] k n e f = absurd (n refl)
judged_alone d (x ∷ xs) k n e f = (sym e, sym f)

pub judged_pair : (d : Option (List ℕ)) (text : List ℕ) (k : LineKind) → length text ≢ 0 → extent.Two ≡ extent_of text → line_fault d text ≡ Some k → Judges d text (judged.Pair (Some k))
judged_pair d [] k n e f = absurd (n refl)
judged_pair d (x ∷ xs) k n e f = (sym e, sym f)

pub source_valid : (text : List ℕ) (a : Action) → IsIndexOf text a → None ≡ source_line_fault text
source_valid text (Index s) e = subst (λ (t : List ℕ). None ≡ source_line_fault t) e (sym (source_none s))
source_valid text Delete e = absurd e

-- ---- sources

pub refused_fault : (r : Result (Option LineKind) AllocError) (k : LineKind) (text : List ℕ) → IfOk r (λ fault. (fault ≡ Some k) × (k ≢ kind.Memory)) → (k ≡ kind.Memory) ⊎ (source_line_fault text ≡ Some k) → IfOk r (λ fault. fault ≡ source_line_fault text)
refused_fault (Ok o) k text h f = elim f [ inl m ↦ absurd (h.1 m) | inr e ↦ h.0 ∙ sym e ]
refused_fault (Err e) k text h f = tt
