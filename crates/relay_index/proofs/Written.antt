-- The entries of the map after one more write.
use Rattle.std.proofs.Common.{◌≡◌, List, [], ◌∷◌, ◌++◌, Some, None, Bool, true, false, refl, ap, sym}
use Rattle.std.specs.Map.{lookup, set_value}
use Rattle.indexmap.specs.IndexMap.{insert_entry}
use Rattle.relay_action.specs.declared.key.DocKey.{DocKey}
use Rattle.relay_action.specs.declared.write.Write.{Write}
use Rattle.relay_index.specs.Keys.{same_key}
use Rattle.relay_index.specs.Lists.{with_write}

some_none : (ws : List Write) → Some ws ≡ None → ⊥
some_none ws e = cc

-- the list of a document is put back with the write at its end
pub set_value-with_write : (es : List (DocKey × List Write)) (w : Write) (ws : List Write) → lookup (same_key w.key) es ≡ Some ws
    → set_value (same_key w.key) es (ws ++ w ∷ []) ≡ with_write es w
set_value-with_write [] w ws e = absurd (some_none ws (sym e))
set_value-with_write (x ∷ xs) w ws e = by (same_key w.key x.0) refl (set_value-with_write xs w ws)
  where
    by : (b : Bool) → same_key w.key x.0 ≡ b → (lookup (same_key w.key) xs ≡ Some ws → set_value (same_key w.key) xs (ws ++ w ∷ []) ≡ with_write xs w)
        → set_value (same_key w.key) (x ∷ xs) (ws ++ w ∷ []) ≡ with_write (x ∷ xs) w
    by true f rest = let found : Some x.1 ≡ Some ws = rw f at e in let is : ws ≡ x.1 = cc in rw (f, is) refl
    by false f rest = let later = rw f at e in rw f (ap (λ l. x ∷ l) (rest later))

-- a list that is put back as it was changes nothing
pub set_value-same : (es : List (DocKey × List Write)) (key : DocKey) (ws : List Write) → lookup (same_key key) es ≡ Some ws
    → set_value (same_key key) es ws ≡ es
set_value-same [] key ws e = refl
set_value-same (x ∷ xs) key ws e = by (same_key key x.0) refl (set_value-same xs key ws)
  where
    by : (b : Bool) → same_key key x.0 ≡ b → (lookup (same_key key) xs ≡ Some ws → set_value (same_key key) xs ws ≡ xs)
        → set_value (same_key key) (x ∷ xs) ws ≡ x ∷ xs
    by true f rest = let found : Some x.1 ≡ Some ws = rw f at e in let is : ws ≡ x.1 = cc in rw (f, is) refl
    by false f rest = let later = rw f at e in rw f (ap (λ l. x ∷ l) (rest later))

-- a document that had no list comes last
pub insert_entry-with_write : (es : List (DocKey × List Write)) (w : Write) → lookup (same_key w.key) es ≡ None
    → insert_entry same_key es w.key (w ∷ []) ≡ with_write es w
insert_entry-with_write [] w e = refl
insert_entry-with_write (x ∷ xs) w e = by (same_key w.key x.0) refl (insert_entry-with_write xs w)
  where
    by : (b : Bool) → same_key w.key x.0 ≡ b → (lookup (same_key w.key) xs ≡ None → insert_entry same_key xs w.key (w ∷ []) ≡ with_write xs w)
        → insert_entry same_key (x ∷ xs) w.key (w ∷ []) ≡ with_write (x ∷ xs) w
    by true f rest = let found : Some x.1 ≡ None = rw f at e in absurd (some_none x.1 found)
    by false f rest = let later = rw f at e in rw f (ap (λ l. x ∷ l) (rest later))
