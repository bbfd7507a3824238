-- Where the reader stops at a fault.
use Rattle.std.proofs.Common.{◌≡◌, ◌⊎◌, ℕ, ◌+◌, ◌≤◌, List, [], ◌∷◌, length, Option, None, Some, Ok, true, false, refl, ap, sym, ◌∙◌, subst, arith, inl, inr, length-append, option_map}
use Rattle.std.specs.Str.{is_utf8}
use Rattle.serde_json.specs.Data.{Data}
use Rattle.serde_json.specs.Read.{read}
use Rattle.relay_action.specs.Actions.{kind_named}
use Rattle.relay_action.specs.Faults.{key_fault, source_fault}
use Rattle.relay_action.specs.declared.action.ActionKind.TheVariants as action
use Rattle.relay_action.specs.declared.fault.ActionFault.{ActionFault}
use Rattle.relay_action.specs.declared.key.DocKey.{DocKey}
use Rattle.relay_ndjson.specs.declared.kind.InputFault.{InputFault}
use Rattle.relay_ndjson.specs.declared.kind.LineKind.{LineKind}
use Rattle.relay_ndjson.specs.declared.kind.LineKind.TheVariants as kind
use Rattle.relay_ndjson.specs.Names.{has_only}
use Rattle.relay_ndjson.specs.Lines.{IsOfOneLine, IsLineBefore, IsRaw, StopsInLine, TakesText, TakesBlank, is_read, line_limit}
use Rattle.relay_ndjson.specs.LineReading.{TakesNext}
use Rattle.relay_ndjson.specs.Metadata.{Says, is_document, is_field, index_of, id_of, action_of, fault_or, id_fault, document_fault, metadata_fault, value_fault, line_fault, source_line_fault}
use Rattle.relay_ndjson.specs.Operations.{blank_limit, saturating_count, Position, Stops}
use Rattle.relay_ndjson.specs.declared.lines.LineEnd.{LineEnd}
use Rattle.relay_ndjson.specs.OperationLines.{SkipsTo, StopsInSource}
use Rattle.relay_ndjson.proofs.Asking.{decide}
use Rattle.relay_ndjson.proofs.Deciding.{key_none}
use Rattle.relay_ndjson.proofs.Taking.{blank_last, text_of}

-- ---- no fault of a line is that of a read

abbrev NoRead : Option LineKind → Type 0
NoRead o = (k : LineKind) → o ≡ Some k → is_read k ≡ false

no_read_some : (l : LineKind) → is_read l ≡ false → NoRead (Some l)
no_read_some l h k e = let same : l ≡ k = cc in subst (λ (x : LineKind). is_read x ≡ false) same h

no_read_or : {A : Type 0} (l : LineKind) (f : A → Option LineKind) (o : Option A) → is_read l ≡ false → ((x : A) → NoRead (f x)) → NoRead (fault_or l f o)
no_read_or l f None h n = no_read_some l h
no_read_or l f (Some x) h n = n x

no_read_action : (o : Option ActionFault) → NoRead (option_map kind.Action o)
no_read_action None k e = cc
no_read_action (Some f) k e = no_read_some (kind.Action f) refl k e

no_read_document : (default : Option (List ℕ)) (m : Data) → NoRead (document_fault default m)
no_read_document default m =
    no_read_or kind.MissingIndex (λ index. id_fault index (id_of m)) (index_of default m) refl
    (λ index. no_read_or kind.MissingId (λ id. option_map kind.Action (key_fault index id)) (id_of m) refl (λ id. no_read_action (key_fault index id)))

no_read_metadata : (default : Option (List ℕ)) (m : Data) → NoRead (metadata_fault default m)
no_read_metadata default m k e =
    elim (decide (has_only is_field m)) [
      | inr f ↦ no_read_some kind.UnsupportedField refl k (rw f at e)
      | inl t ↦ elim (decide (has_only is_document m)) [
        | inr g ↦ no_read_some kind.VersionGiven refl k (rw (t, g) at e)
        | inl u ↦ no_read_document default m k (rw (t, u) at e)
      ]
    ]

no_read_value : (default : Option (List ℕ)) (d : Data) → NoRead (value_fault default d)
no_read_value default d =
    no_read_or kind.NotOneAction _ (action_of d) refl (λ a. no_read_or kind.UnsupportedAction _ (kind_named a.0) refl (λ k. no_read_metadata default a.1))

no_read_line : (default : Option (List ℕ)) (text : List ℕ) → NoRead (line_fault default text)
no_read_line default text k e =
    elim (decide (is_utf8 text)) [
      | inr f ↦ no_read_some kind.NotJson refl k (rw f at e)
      | inl t ↦ no_read_or kind.NotJson (value_fault default) (read text) refl (no_read_value default) k (rw t at e)
    ]

no_read_source : (text : List ℕ) → NoRead (source_line_fault text)
no_read_source text k e =
    elim (decide (is_utf8 text)) [
      | inr f ↦ no_read_some kind.NotJson refl k (rw f at e)
      | inl t ↦ no_read_action (source_fault text) k (rw t at e)
    ]

-- ---- a line that was taken

raw_short : (text raw : List ℕ) → IsRaw text raw → length text ≤ line_limit → length raw ≤ line_limit + 1
raw_short text raw (inl e) h = let n : length raw ≡ length text + 1 = ap length e ∙ length-append text (13 ∷ []) in omega (arith, n, h)
raw_short text raw (inr e) h = let n : length raw ≡ length text = ap length e.0 in omega (arith, n, h)

line_short : (rest : Option (List ℕ)) (text bytes : List ℕ) → IsLineBefore rest text bytes → length bytes ≤ line_limit + 2
line_short rest text bytes (inl l) =
    let n : length bytes ≡ length l.0 + 1 = ap length l.4 ∙ length-append l.0 (10 ∷ []) in
    let m = raw_short text l.0 l.2 l.3 in omega (arith, n, m)
line_short rest text bytes (inr l) = let n : length bytes ≡ length text = ap length l.3 in let m = l.2 in omega (arith, n, m)

line_part : (rest : Option (List ℕ)) (text bytes : List ℕ) → IsLineBefore rest text bytes → IsOfOneLine bytes
line_part rest text bytes (inl l) = inr (l.0, l.1, l.4)
line_part rest text bytes (inr l) = let e = l.3 in inl (rw e l.0)

stops_after : (old new : Option (List ℕ)) (held text : List ℕ) (k : LineKind) → TakesText old new text → is_read k ≡ false → StopsInLine old new held k
stops_after old new held text k t n = record {
  used = t.bytes;
  rest = t.taken;
  part = line_part new text t.bytes t.line;
  short = line_short new text t.bytes t.line;
  cut = λ h. cc;
}

-- ---- the steps of the reader

-- a blank line too many
pub blank_stops : (default : Option (List ℕ)) (old new : Position) (n : ℕ) → n ≡ blank_limit + 1 → TakesBlank n old.ahead new.ahead → new.count ≡ saturating_count (old.count + n) → Stops default old new (record { line = new.count; kind = kind.LineLong })
blank_stops default old new n e t c =
    let last = blank_last blank_limit old.ahead new.ahead (rw e at t) in record {
      taken = blank_limit;
      front = last.0;
      begins = inl (omega arith, last.1);
      line = omega (arith, c, e);
      stop = stops_after last.0 new.ahead new.held [] kind.LineLong last.2 refl;
    }

-- an action line that breaks the grammar, or for which an allocation failed
pub action_stops : (default : Option (List ℕ)) (old new : Position) (text : List ℕ) (end : LineEnd) (k : LineKind) → SkipsTo old new text end → (k ≡ kind.Memory) ⊎ (line_fault default text ≡ Some k) → Stops default old new (record { line = new.count; kind = k })
action_stops default old new text end k s f =
    let no : is_read k ≡ false = elim f [ inl m ↦ ap is_read m | inr e ↦ no_read_line default text k e ] in record {
      taken = s.0;
      front = s.1;
      begins = inl (s.2, s.3);
      line = omega (arith, s.6);
      stop = stops_after s.1 new.ahead new.held text k (text_of s.1 new.ahead text end s.4) no;
    }

-- a line that is not a source, or for which an allocation failed
pub line_stops : (old new : Position) (text : List ℕ) (k : LineKind) → TakesNext old.ahead new.ahead old.count new.count text (Ok true) → (k ≡ kind.Memory) ⊎ (source_line_fault text ≡ Some k) → StopsInSource old new (record { line = new.count; kind = k })
line_stops old new text k t f =
    let no : is_read k ≡ false = elim f [ inl m ↦ ap is_read m | inr e ↦ no_read_source text k e ] in
    inl (t.1, stops_after old.ahead new.ahead new.held text k t.0 no)

-- a source that is invalid, or for which an allocation failed
pub source_stops : (default : Option (List ℕ)) (old mid new : Position) (text : List ℕ) (end : LineEnd) (key : DocKey) (e : InputFault) → SkipsTo old mid text end → Says default text action.Index key.index key.id → StopsInSource mid new e → Stops default old new e
source_stops default old mid new text end key e s says (inl f) = record {
  taken = s.0 + 1;
  front = mid.ahead;
  begins = inr (s.0, s.1, text, key.index, key.id, s.2, s.3, text_of s.1 mid.ahead text end s.4, says, key_none key.index key.id key.index_ok key.id_ok, refl);
  line = omega (arith, s.6, f.0);
  stop = f.1;
}
source_stops default old mid new text end key e s says (inr f) = record {
  taken = s.0;
  front = s.1;
  begins = inl (s.2, s.3);
  line = omega (arith, s.6, f.0);
  stop = stops_after s.1 new.ahead new.held text e.kind (subst (λ (o : Option (List ℕ)). TakesText s.1 o text) (sym f.2) (text_of s.1 mid.ahead text end s.4)) (ap is_read f.1);
}
