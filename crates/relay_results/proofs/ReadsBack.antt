-- A reply that was written reads as what was written.
use Rattle.std.proofs.Common.{◌≡◌, ◌≤◌, ℕ, List, [], ◌∷◌, take, length, Option, None, Some, Bool, false, refl, ap, ◌∙◌, sym, subst, arith, lit≤, String, Global, string_bytes}
use Rattle.std.specs.Prelude.{map, ◌||◌, codes, option_map}
use Rattle.std.proofs.lemmas.Grind.{common_steps}
use Rattle.std.proofs.lemmas.Str.{IsUtf8-string_bytes}
use Rattle.serde_json.specs.Data.{Data, string, number, unsigned, object, item, depth, items_depth}
use Rattle.serde_json.specs.Find.{get}
use Rattle.serde_json.specs.View.{view, items_view, items_of}
use Rattle.serde_json.specs.Read.{read, max_depth}
use Rattle.serde_json.specs.Written.{compact_text, has_float, items_have_float}
use Rattle.serde_json.specs.declared.value.Value.{Value}
use Rattle.relay_results.specs.declared.done.ItemDone.{ItemDone}
use Rattle.relay_results.specs.declared.done.DoneResult.{DoneResult}
use Rattle.relay_results.specs.declared.done.DoneResult.TheVariants as done
use Rattle.relay_results.specs.declared.done.VersionConflict.{VersionConflict}
use Rattle.relay_results.specs.Conflicts.{conflict_reason, front}
use Rattle.relay_results.proofs.Reasons.{front_is, reason-starts, states_stored}
use Rattle.relay_results.specs.Done.{bare_error, error_by, error_fields, IsStatable, failure, fields_by, entry_data, entries_data, reply_data, reply_text, outcome_of, outcomes_of, HaveStatuses, AreStatable}
use Rattle.relay_results.specs.Replies.{IsTruncated, error_limit, reason_limit, error_member, error_texts, IsDetail, SaysError, IsEntry, AreEntries, IsBulkReply}

pub entries_data-map : (ds : List ItemDone) → items_of (map entry_data ds) ≡ entries_data ds
entries_data-map [] = refl
entries_data-map (d ∷ ds) = ap (λ rest. item (entry_data d) rest) (entries_data-map ds)

pub all_written : (vs : List Value) (ds : List ItemDone) (n : ℕ) → length ds ≤ n → map view vs ≡ map entry_data (take n ds) → items_view vs ≡ entries_data ds
all_written vs ds n h e =
    let whole : take n ds ≡ ds = grind (arith, common_steps, h) in
    ap items_of (e ∙ ap (λ xs. map entry_data xs) whole) ∙ entries_data-map ds

-- ---- no floats, and little depth

or-false : (a b : Bool) → a ≡ false → b ≡ false → (a || b) ≡ false
or-false a b h k = rw (h, k) refl

error-no_float : (id kind : List ℕ) (c : Option VersionConflict) → has_float (object (error_fields id c kind)) ≡ false
error-no_float id kind None = refl
error-no_float id kind (Some c) = refl

fields-no_float : (d : ItemDone) (f : Option (List ℕ)) → has_float (object (fields_by d f)) ≡ false
fields-no_float d None = refl
fields-no_float d (Some e) = or-false (has_float (object (error_fields d.key.id d.conflict e))) _ (error-no_float d.key.id e d.conflict) refl

entries-no_float : (ds : List ItemDone) → items_have_float (entries_data ds) ≡ false
entries-no_float [] = refl
entries-no_float (d ∷ ds) = or-false (has_float (entry_data d)) (items_have_float (entries_data ds)) (or-false _ _ (fields-no_float d (failure d.result)) refl) (entries-no_float ds)

pub reply-no_float : (took : ℕ) (ds : List ItemDone) → has_float (reply_data took ds) ≡ false
reply-no_float took ds = or-false _ _ (entries-no_float ds) refl

error-depth : (id kind : List ℕ) (c : Option VersionConflict) → depth (object (error_fields id c kind)) ≤ 1
error-depth id kind None = lit≤ tt
error-depth id kind (Some c) = lit≤ tt

fields-depth : (d : ItemDone) (f : Option (List ℕ)) → depth (object (fields_by d f)) ≤ 2
fields-depth d None = lit≤ tt
fields-depth d (Some e) = let one = error-depth d.key.id e d.conflict in omega (arith, one)

entries-depth : (ds : List ItemDone) → items_depth (entries_data ds) ≤ 3
entries-depth [] = lit≤ tt
entries-depth (d ∷ ds) = let a = fields-depth d (failure d.result) in let b = entries-depth ds in omega (arith, a, b)

pub reply-depth : (took : ℕ) (ds : List ItemDone) → depth (reply_data took ds) ≤ max_depth
reply-depth took ds = let b = entries-depth ds in omega (arith, b)

-- ---- each entry says its outcome

-- a short text is not cut
cut_whole : (text : List ℕ) → length text ≤ error_limit → IsTruncated error_limit text text
cut_whole text h = record {
  count = length text;
  within = h;
  ends = (omega arith, λ inside. absurd (omega (arith, inside)));
  longest = λ more over low b. absurd (omega (arith, b.0));
  front_is = grind (arith, common_steps);
}

bare_detail : (kind : List ℕ) → length kind ≤ error_limit → IsDetail (record { kind = Some kind; reason = None }) (bare_error kind)
bare_detail kind h = record { kind = cut_whole kind h; reason = refl; stored = refl }

detail_by : (id kind : List ℕ) (c : Option VersionConflict) → length kind ≤ error_limit → IsStatable c → IsDetail (error_texts (object (error_fields id c kind))) (error_by id c kind)
detail_by id kind None h s = bare_detail kind h
detail_by id kind (Some c) h s = record {
  kind = cut_whole kind h;
  reason = (front reason_limit (conflict_reason id c), front_is reason_limit (conflict_reason id c) (reason-starts id c), refl);
  stored = states_stored id c s.0 s.1;
}

says_error : (d : ItemDone) (r : DoneResult) → IsStatable d.conflict → SaysError (error_member (object (fields_by d (failure r)))) (option_map (error_by d.key.id d.conflict) (failure r))
says_error d done.Created s = refl
says_error d done.Updated s = refl
says_error d done.Deleted s = refl
says_error d done.NotFound s = refl
says_error d done.Conflict s =
    let kind = codes "version_conflict_engine_exception" in
    (error_by d.key.id d.conflict kind, detail_by d.key.id kind d.conflict (lit≤ tt) s, refl)
says_error d done.Refused s = let kind = codes "scripted_refusal" in (error_by d.key.id d.conflict kind, detail_by d.key.id kind d.conflict (lit≤ tt) s, refl)

fields-id : (d : ItemDone) (f : Option (List ℕ)) → get (codes "_id") (object (fields_by d f)) ≡ Some (string d.key.id)
fields-id d None = refl
fields-id d (Some e) = refl

fields-status : (d : ItemDone) (f : Option (List ℕ)) → get (codes "status") (object (fields_by d f)) ≡ Some (number (unsigned d.status))
fields-status d None = refl
fields-status d (Some e) = refl

says_entry : (d : ItemDone) → 100 ≤ d.status → d.status ≤ 599 → IsStatable d.conflict → IsEntry (entry_data d) (outcome_of d)
says_entry d low high statable = record {
  fields = fields_by d (failure d.result);
  action = refl;
  id = fields-id d (failure d.result);
  status = fields-status d (failure d.result);
  least = low;
  most = high;
  error = says_error d d.result statable;
}

pub says_each : (ds : List ItemDone) → HaveStatuses ds → AreStatable ds → AreEntries (entries_data ds) (outcomes_of ds)
says_each [] h s = tt
says_each (d ∷ ds) h s = (says_entry d h.0 h.1 s.0, says_each ds h.2 s.1)

pub reply_back : (text : String Global) (took : ℕ) (ds : List ItemDone) → read (string_bytes text) ≡ Some (reply_data took ds) → HaveStatuses ds → AreStatable ds → IsBulkReply (string_bytes text) (outcomes_of ds)
reply_back text took ds r h s = record {
  value = reply_data took ds;
  reads = record { utf8 = IsUtf8-string_bytes text; value = r };
  entries = entries_data ds;
  items = refl;
  each = says_each ds h s;
}

-- ---- what writing gives

pub text_is : (v : Data) (bytes : List ℕ) (took : ℕ) (ds : List ItemDone) → v ≡ reply_data took ds → (has_float v ≡ false → bytes ≡ compact_text v) → bytes ≡ reply_text took ds
unfolding reply_text
text_is v bytes took ds e h = h (ap has_float e ∙ reply-no_float took ds) ∙ ap compact_text e

pub read_is : (v : Data) (text : String Global) (took : ℕ) (ds : List ItemDone) → v ≡ reply_data took ds → (depth v ≤ max_depth → read (string_bytes text) ≡ Some v) → HaveStatuses ds → AreStatable ds → IsBulkReply (string_bytes text) (outcomes_of ds)
read_is v text took ds e h = reply_back text took ds (h (subst (λ d. depth d ≤ max_depth) (sym e) (reply-depth took ds)) ∙ ap Some e)
