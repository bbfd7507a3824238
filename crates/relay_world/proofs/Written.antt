-- The documents that were written since the start.
use Rattle.std.proofs.Common.{◌≡◌, ℕ, zero, suc, ◌-◌, List, [], ◌∷◌, length, drop, Option, Some, None, Bool, true, false, ◌==◌, refl, sym, ap, ◌∙◌, arith}
use Rattle.std.specs.Prelude.{slice_get, option_map, is_some, not, ◌&&◌}
use Rattle.std.specs.List.{filter}
use Rattle.std.proofs.lemmas.List.Kept.{IsStrictlySortedBy-filter}
use Rattle.std.proofs.lemmas.Map.Views.{any-filter_same}
use Rattle.relay_action.specs.declared.key.DocKey.{DocKey}
use Rattle.relay_action.specs.declared.write.Write.{Write}
use Rattle.relay_results.specs.Documents.{document_of, same_document}
use Rattle.relay_results.proofs.Same.{same_document-true}
use Rattle.relay_index.specs.States as index
use Rattle.relay_index.specs.Keys.{key_order, AreKeys}
use Rattle.relay_world.specs.State.{World, before_at, is_written, AreKeysOf}

last_there : {A : Type 0} (x : A) (xs : List A) → is_some (slice_get (x ∷ xs) (length xs)) ≡ true
last_there x [] = refl
last_there x (y ∷ ys) = last_there y ys

drop-none : (n : ℕ) → (let none : List Write = [] in length (drop n none)) ≡ 0
drop-none zero = refl
drop-none (suc n) = refl

-- what was written has a version
stored_by : (ws : List Write) (n : ℕ) → (not (length (drop n ws) == 0) && is_some (option_map (λ (x : Write). x.version) (index.last_of ws))) ≡ not (length (drop n ws) == 0)
stored_by [] n = ap (λ k. not (k == 0) && false) (drop-none n) ∙ ap (λ k. not (k == 0)) (sym (drop-none n))
stored_by (x ∷ ws) n =
    let last : length (x ∷ ws) - 1 ≡ length ws = omega arith in
    by (index.last_of (x ∷ ws)) (ap (λ k. is_some (slice_get (x ∷ ws) k)) last ∙ last_there x ws) (not (length (drop n (x ∷ ws)) == 0))
  where
    by : (o : Option Write) → is_some o ≡ true → (b : Bool) → (b && is_some (option_map (λ (y : Write). y.version) o)) ≡ b
    by None e b = absurd (cc)
    by (Some y) e true = refl
    by (Some y) e false = refl

-- the keys of the index, but for those of documents that nothing was applied to since the start
pub written_keys : (w : World) (keys : List DocKey) → AreKeys w.index keys → AreKeysOf w (filter (λ key. is_written w (document_of key)) keys)
written_keys w keys k = record {
  rising = IsStrictlySortedBy-filter key_order (λ key. is_written w (document_of key)) keys k.rising;
  written = λ d.
      any-filter_same (λ key. same_document d (document_of key)) (λ key. is_written w (document_of key)) (is_written w d) (λ key t. ap (is_written w) (sym (same_document-true d (document_of key) t))) keys
      ∙ ap (λ b. is_written w d && b) (k.written d)
      ∙ stored_by (index.applied_writes w.index d) (before_at w d);
}
