-- Each document's queue is in its slot: what a change of one slot makes of the queues.
use Rattle.std.proofs.Common.{◌≡◌, ◌≢◌, ℕ, Bool, ◌<◌, List, [], ◌∷◌, ◌++◌, length, Option, Some, None, true, false, refl, sym, ap, ◌∙◌, subst, ⊎_elim, arith}
use Rattle.std.specs.Prelude.{cond, unwrap_or, option_map, slice_get, drop, is_some, IfSome, IfNone}
use Rattle.std.specs.List.{IsDistinct}
use Rattle.std.specs.Map.{lookup, lookup_key, keys_of}
use Rattle.std.specs.HashMap.{HashMap, Updates as MapUpdates}
use Rattle.std.proofs.lemmas.List.{length-map}
use Rattle.slab.specs.Slab.{Slab, get, Updates}
use Rattle.relay_action.specs.declared.key.DocKey.{DocKey}
use Rattle.relay_delay.specs.declared.entry.Entry.{Entry}
use Rattle.relay_results.proofs.Lists.{apart_tests, true_or_false, none_some, some_same, equal_or_not}
use Rattle.relay_held.specs.declared.kept.Kept.{Kept}
use Rattle.relay_held.specs.declared.documents.Taken.{Taken}
use Rattle.relay_held.specs.Queues.{same_key, on_first, queue_of, first_name, Changes, NoneEmpty}
use Rattle.relay_held.specs.Shelf.{queue_in, queues_in, Shelf, IsShelf, IsPlaceOf, Sets, slot_of, KeepsSlots, entry_at, entry_after}
use Rattle.relay_held.proofs.Merging.{same_along}
use Rattle.relay_held.proofs.Changing.{changes_none, same_queue}

-- ---- what is shown

pub keys_shelved : (s : Slab (List Kept)) (ss : List (DocKey × ℕ)) → keys_of (queues_in s ss) ≡ keys_of ss
keys_shelved s [] = refl
keys_shelved s (e ∷ es) = ap (λ ks. e.0 ∷ ks) (keys_shelved s es)

pub lookup_shelved : (s : Slab (List Kept)) (ss : List (DocKey × ℕ)) (k : DocKey) → lookup (same_key k) (queues_in s ss) ≡ option_map (queue_in s) (lookup (same_key k) ss)
lookup_shelved s [] k = refl
lookup_shelved s (e ∷ es) k = ⊎_elim {C = lookup (same_key k) (queues_in s (e ∷ es)) ≡ option_map (queue_in s) (lookup (same_key k) (e ∷ es))}
    (λ t. rw t refl)
    (λ f. rw f (lookup_shelved s es k))
    (true_or_false (same_key k e.0))

pub queue_shelved : (s : Slab (List Kept)) (ss : List (DocKey × ℕ)) (k : DocKey) → queue_of (queues_in s ss) k ≡ unwrap_or (option_map (queue_in s) (lookup (same_key k) ss)) []
queue_shelved s ss k = ap (λ o. unwrap_or o []) (lookup_shelved s ss k)

pub queue_here : (s : Slab (List Kept)) (ss : List (DocKey × ℕ)) (k : DocKey) (slot : ℕ) → lookup (same_key k) ss ≡ Some slot → queue_of (queues_in s ss) k ≡ queue_in s slot
queue_here s ss k slot e = queue_shelved s ss k ∙ ap (λ o. unwrap_or (option_map (queue_in s) o) []) e

pub queue_none : (s : Slab (List Kept)) (ss : List (DocKey × ℕ)) (k : DocKey) → lookup (same_key k) ss ≡ None → queue_of (queues_in s ss) k ≡ []
queue_none s ss k e = queue_shelved s ss k ∙ ap (λ o. unwrap_or (option_map (queue_in s) o) []) e

pub found_along : (ss : List (DocKey × ℕ)) (a b : DocKey) → same_key a b ≡ true → lookup (same_key a) ss ≡ lookup (same_key b) ss
found_along [] a b t = refl
found_along (e ∷ es) a b t = λ i. cond (same_along a b e.0 t i) (Some e.1) (found_along es a b t i)

-- no queue is empty
pub none_empty : (s : Slab (List Kept)) (ss : List (DocKey × ℕ)) → IsShelf ss s → NoneEmpty (queues_in s ss)
none_empty s ss a = record { filled = λ k q e. by k q (lookup (same_key k) ss) refl (sym (lookup_shelved s ss k) ∙ e) }
  where
    by : (k : DocKey) (q : List Kept) (o : Option ℕ) → lookup (same_key k) ss ≡ o → option_map (queue_in s) o ≡ Some q → 0 < length q
    by k q None is e = absurd (cc)
    by k q (Some slot) is e = subst (λ x. 0 < length x) (some_same (queue_in s slot) q e) (a.filled k slot is)

pub unique_shelved : (s : Slab (List Kept)) (ss : List (DocKey × ℕ)) → IsShelf ss s → IsDistinct same_key (keys_of (queues_in s ss))
unique_shelved s ss a = subst (IsDistinct same_key) (sym (keys_shelved s ss)) a.unique

-- a document of which something is held has a slot
pub a_slot : (s : Slab (List Kept)) (ss : List (DocKey × ℕ)) (k : DocKey) (h : Kept) → slice_get (queue_of (queues_in s ss) k) 0 ≡ Some h → lookup (same_key k) ss ≡ Some (slot_of ss k)
a_slot s ss k h e = by (lookup (same_key k) ss) (sym (ap (λ q. slice_get q 0) (queue_shelved s ss k)) ∙ e)
  where
    by : (o : Option ℕ) → slice_get (unwrap_or (option_map (queue_in s) o) []) 0 ≡ Some h → o ≡ Some (unwrap_or o 0)
    by None is = absurd (cc)
    by (Some slot) is = refl

-- ---- a change of one slot

-- the document has this slot afterwards, or none; no other document has that slot, and no other queue changed
pub record Moves (s t : Slab (List Kept)) (ss rs : List (DocKey × ℕ)) (key : DocKey) (slot : ℕ) (w : Option ℕ) : Type 0 where
  pub slots : (k : DocKey) → lookup (same_key k) rs ≡ cond (same_key key k) w (lookup (same_key k) ss)
  pub here : (i : ℕ) → w ≡ Some i → i ≡ slot
  pub free : (k : DocKey) → same_key key k ≡ false → lookup (same_key k) ss ≡ Some slot → ⊥
  pub others : (i : ℕ) → i ≢ slot → queue_in t i ≡ queue_in s i

pub moves_changes : (s t : Slab (List Kept)) (ss rs : List (DocKey × ℕ)) (key : DocKey) (slot : ℕ) (w : Option ℕ) → Moves s t ss rs key slot w
    → Changes (queues_in s ss) (queues_in t rs) key (unwrap_or (option_map (queue_in t) w) [])
moves_changes s t ss rs key slot w m = record {
  queues = λ k. queue_shelved t rs k ∙ ⊎_elim {C = unwrap_or (option_map (queue_in t) (lookup (same_key k) rs)) [] ≡ cond (same_key key k) (unwrap_or (option_map (queue_in t) w) []) (queue_of (queues_in s ss) k)}
      (λ u. rw (m.slots k) (rw u refl))
      (λ f. rw (m.slots k) (rw f (apart k f (lookup (same_key k) ss) refl ∙ sym (queue_shelved s ss k))))
      (true_or_false (same_key key k));
}
  where
    apart : (k : DocKey) → same_key key k ≡ false → (o : Option ℕ) → lookup (same_key k) ss ≡ o → unwrap_or (option_map (queue_in t) o) [] ≡ unwrap_or (option_map (queue_in s) o) []
    apart k f None e = refl
    apart k f (Some i) e = m.others i (λ is. m.free k f (e ∙ ap Some is))

pub moves_shelf : (s t : Slab (List Kept)) (ss rs : List (DocKey × ℕ)) (key : DocKey) (slot : ℕ) (w : Option ℕ) → Moves s t ss rs key slot w → IsShelf ss s → IsDistinct same_key (keys_of rs)
    → ((i : ℕ) → w ≡ Some i → 0 < length (queue_in t i)) → IsShelf rs t
moves_shelf s t ss rs key slot w m a unique some = record {
  unique = unique;
  filled = λ k i e. ⊎_elim {C = 0 < length (queue_in t i)}
      (λ u. some i (now k u i e))
      (λ f. let is = was k f i e in subst (λ q. 0 < length q) (sym (m.others i (λ at. m.free k f (is ∙ ap Some at)))) (a.filled k i is))
      (true_or_false (same_key key k));
  apart = λ j k i d e. ⊎_elim {C = same_key j k ≡ true}
      (λ u. ⊎_elim {C = same_key j k ≡ true}
      (λ v. sym (same_along key j k u) ∙ v)
      (λ g. absurd (m.free k g (was k g i e ∙ ap Some (m.here i (now j u i d)))))
      (true_or_false (same_key key k)))
      (λ f. ⊎_elim {C = same_key j k ≡ true}
      (λ v. absurd (m.free j f (was j f i d ∙ ap Some (m.here i (now k v i e)))))
      (λ g. a.apart j k i (was j f i d) (was k g i e))
      (true_or_false (same_key key k)))
      (true_or_false (same_key key j));
}
  where
    now : (k : DocKey) → same_key key k ≡ true → (i : ℕ) → lookup (same_key k) rs ≡ Some i → w ≡ Some i
    now k u i e = sym (ap (λ b. cond b w (lookup (same_key k) ss)) u) ∙ sym (m.slots k) ∙ e

    was : (k : DocKey) → same_key key k ≡ false → (i : ℕ) → lookup (same_key k) rs ≡ Some i → lookup (same_key k) ss ≡ Some i
    was k f i e = sym (ap (λ b. cond b w (lookup (same_key k) ss)) f) ∙ sym (m.slots k) ∙ e

-- ---- the queue of a document is another one

set_moves : (s t : Slab (List Kept)) (ss : List (DocKey × ℕ)) (key : DocKey) (slot : ℕ) (q : List Kept) → IsShelf ss s → lookup (same_key key) ss ≡ Some slot → Sets s t slot q → Moves s t ss ss key slot (Some slot)
set_moves s t ss key slot q a e c = record {
  slots = λ k. ⊎_elim {C = lookup (same_key k) ss ≡ cond (same_key key k) (Some slot) (lookup (same_key k) ss)}
      (λ u. rw u (sym (found_along ss key k u) ∙ e))
      (λ f. rw f refl)
      (true_or_false (same_key key k));
  here = λ i is. sym (some_same slot i is);
  free = λ k f is. apart_tests (sym f ∙ a.apart key k slot e is);
  others = c.others;
}

pub set_changes : (s t : Slab (List Kept)) (ss : List (DocKey × ℕ)) (key : DocKey) (slot : ℕ) (q : List Kept) → IsShelf ss s → lookup (same_key key) ss ≡ Some slot → Sets s t slot q
    → Changes (queues_in s ss) (queues_in t ss) key q
set_changes s t ss key slot q a e c = subst (Changes (queues_in s ss) (queues_in t ss) key) c.here (moves_changes s t ss ss key slot (Some slot) (set_moves s t ss key slot q a e c))

pub set_shelf : (s t : Slab (List Kept)) (ss : List (DocKey × ℕ)) (slot : ℕ) (q : List Kept) → IsShelf ss s → Sets s t slot q → (0 < length (queue_in s slot) → 0 < length q) → IsShelf ss t
set_shelf s t ss slot q a c some = record {
  unique = a.unique;
  filled = λ k i e. ⊎_elim {C = 0 < length (queue_in t i)}
      (λ is. subst (λ j. 0 < length (queue_in t j)) (sym is) (subst (λ x. 0 < length x) (sym c.here) (some (subst (λ j. 0 < length (queue_in s j)) is (a.filled k i e)))))
      (λ n. subst (λ x. 0 < length x) (sym (c.others i n)) (a.filled k i e))
      (equal_or_not i slot);
  apart = a.apart;
}

pub length_on : (f : Kept → Kept) (q : List Kept) → 0 < length q → 0 < length (on_first f q)
length_on f [] lt = lt
length_on f (h ∷ hs) lt = omega arith

-- ---- a document comes, or goes

pub updates_sets : (s t : Slab (List Kept)) (slot : ℕ) (w : Option (List Kept)) → Updates s t slot w → Sets s t slot (unwrap_or w [])
updates_sets s t slot w u = record { here = ap (λ o. unwrap_or o []) u.changed; others = λ i n. ap (λ o. unwrap_or o []) (u.others i n) }

add_moves : (s t : Slab (List Kept)) (ss rs : List (DocKey × ℕ)) (key : DocKey) (slot : ℕ) (q : List Kept) → IsShelf ss s → Sets s t slot q → get s slot ≡ None
    → ((k : DocKey) → lookup (same_key k) rs ≡ cond (same_key key k) (Some slot) (lookup (same_key k) ss)) → Moves s t ss rs key slot (Some slot)
add_moves s t ss rs key slot q a c e u = record {
  slots = u;
  here = λ i is. sym (some_same slot i is);
  free = λ k f is. let lt = subst (λ o. 0 < length (unwrap_or o [])) e (a.filled k slot is) in omega (arith, lt);
  others = c.others;
}

pub add_changes : (s t : Slab (List Kept)) (ss rs : List (DocKey × ℕ)) (key : DocKey) (slot : ℕ) (q : List Kept) → IsShelf ss s → Sets s t slot q → get s slot ≡ None
    → ((k : DocKey) → lookup (same_key k) rs ≡ cond (same_key key k) (Some slot) (lookup (same_key k) ss)) → Changes (queues_in s ss) (queues_in t rs) key q
add_changes s t ss rs key slot q a c e u = subst (Changes (queues_in s ss) (queues_in t rs) key) c.here (moves_changes s t ss rs key slot (Some slot) (add_moves s t ss rs key slot q a c e u))

pub add_shelf : (s t : Slab (List Kept)) (ss rs : List (DocKey × ℕ)) (key : DocKey) (slot : ℕ) (q : List Kept) → IsShelf ss s → Sets s t slot q → get s slot ≡ None
    → ((k : DocKey) → lookup (same_key k) rs ≡ cond (same_key key k) (Some slot) (lookup (same_key k) ss)) → IsDistinct same_key (keys_of rs) → 0 < length q → IsShelf rs t
add_shelf s t ss rs key slot q a c e u unique lt =
    moves_shelf s t ss rs key slot (Some slot) (add_moves s t ss rs key slot q a c e u) a unique
    (λ i is. subst (λ j. 0 < length (queue_in t j)) (some_same slot i is) (subst (λ x. 0 < length x) (sym c.here) lt))

remove_moves : (s t : Slab (List Kept)) (ss rs : List (DocKey × ℕ)) (key : DocKey) (slot : ℕ) (q : List Kept) → IsShelf ss s → Sets s t slot q → lookup (same_key key) ss ≡ Some slot
    → ((k : DocKey) → lookup (same_key k) rs ≡ cond (same_key key k) None (lookup (same_key k) ss)) → Moves s t ss rs key slot None
remove_moves s t ss rs key slot q a c e u = record {
  slots = u;
  here = λ i is. absurd (none_some i is);
  free = λ k f is. apart_tests (sym f ∙ a.apart key k slot e is);
  others = c.others;
}

-- the first key that passes a test passes it
pub key_passes : (test : DocKey → Bool) (ss : List (DocKey × ℕ)) (k : DocKey) → lookup_key test ss ≡ Some k → test k ≡ true
key_passes test [] k is = absurd (none_some k is)
key_passes test (e ∷ es) k is = ⊎_elim {C = test k ≡ true}
    (λ t. subst (λ x. test x ≡ true) (some_same e.0 k (sym (ap (λ b. cond b (Some e.0) (lookup_key test es)) t) ∙ is)) t)
    (λ f. key_passes test es k (sym (ap (λ b. cond b (Some e.0) (lookup_key test es)) f) ∙ is))
    (true_or_false (test e.0))

-- the entry at a document's place is removed
pub removed_at : {S : Type 0} (old new : HashMap DocKey ℕ S) (key : DocKey) (at slot : ℕ) (r : Option (DocKey × ℕ)) → IsPlaceOf old.entries key at slot → r ≡ slice_get old.entries at
    → IfSome r (λ p. MapUpdates same_key old new p.0 None) → (k : DocKey) → lookup (same_key k) new.entries ≡ cond (same_key key k) None (lookup (same_key k) old.entries)
removed_at old new key at slot r p is u k =
    let updates = subst (λ o. IfSome o (λ q. MapUpdates same_key old new q.0 None)) (is ∙ p.there) u in
    updates.0 k ∙ ap (λ b. cond b None (lookup (same_key k) old.entries)) (sym (same_along key p.own k p.same))

pub remove_changes : (s t : Slab (List Kept)) (ss rs : List (DocKey × ℕ)) (key : DocKey) (slot : ℕ) (q : List Kept) → IsShelf ss s → Sets s t slot q → lookup (same_key key) ss ≡ Some slot
    → ((k : DocKey) → lookup (same_key k) rs ≡ cond (same_key key k) None (lookup (same_key k) ss)) → Changes (queues_in s ss) (queues_in t rs) key []
remove_changes s t ss rs key slot q a c e u = moves_changes s t ss rs key slot None (remove_moves s t ss rs key slot q a c e u)

pub remove_shelf : (s t : Slab (List Kept)) (ss rs : List (DocKey × ℕ)) (key : DocKey) (slot : ℕ) (q : List Kept) → IsShelf ss s → Sets s t slot q → lookup (same_key key) ss ≡ Some slot
    → ((k : DocKey) → lookup (same_key k) rs ≡ cond (same_key key k) None (lookup (same_key k) ss)) → IsDistinct same_key (keys_of rs) → IsShelf rs t
remove_shelf s t ss rs key slot q a c e u unique =
    moves_shelf s t ss rs key slot None (remove_moves s t ss rs key slot q a c e u) a unique (λ i is. absurd (none_some i is))

-- ---- the same, as the contracts say it

abbrev pub Shows : Slab (List Kept) → List (DocKey × ℕ) → Shelf → Type 0
Shows s ss v = ◌≡◌ {A = Shelf} (record { queues = queues_in s ss; slots = ss }) v

pub lookup_shown : (s : Slab (List Kept)) (ss : List (DocKey × ℕ)) (key : DocKey) (o : Option ℕ) (v : Shelf) → Shows s ss v → o ≡ lookup (same_key key) v.slots → lookup (same_key key) ss ≡ o
lookup_shown s ss key o v e l = ap (λ (v : Shelf). lookup (same_key key) v.slots) e ∙ sym l

pub queue_shown : (s : Slab (List Kept)) (ss : List (DocKey × ℕ)) (key : DocKey) (slot : ℕ) (v : Shelf) → Shows s ss v → Some slot ≡ lookup (same_key key) v.slots → queue_of v.queues key ≡ queue_in s slot
queue_shown s ss key slot v e l = ap (λ (v : Shelf). queue_of v.queues key) (sym e) ∙ queue_here s ss key slot (lookup_shown s ss key (Some slot) v e l)

pub none_shown : (s : Slab (List Kept)) (ss : List (DocKey × ℕ)) (key : DocKey) (v : Shelf) → Shows s ss v → None ≡ lookup (same_key key) v.slots → queue_of v.queues key ≡ []
none_shown s ss key v e l = ap (λ (v : Shelf). queue_of v.queues key) (sym e) ∙ queue_none s ss key (lookup_shown s ss key None v e l)

pub no_queue : (s : Slab (List Kept)) (ss : List (DocKey × ℕ)) (key : DocKey) (v : Shelf) (slot : Option ℕ) → Shows s ss v → slot ≡ lookup (same_key key) v.slots → IfNone slot (queue_of v.queues key ≡ [])
no_queue s ss key v None e l = none_shown s ss key v e l
no_queue s ss key v (Some n) e l = tt

pub slot_shown : (s : Slab (List Kept)) (ss : List (DocKey × ℕ)) (k : DocKey) (h : Kept) (slot : ℕ) (v : Shelf) → Shows s ss v → slice_get (queue_of v.queues k) 0 ≡ Some h → slot_of v.slots k ≡ slot
    → Some slot ≡ lookup (same_key k) v.slots
slot_shown s ss k h slot v e is at =
    let l = a_slot s ss k h (ap (λ (v : Shelf). slice_get (queue_of v.queues k) 0) e ∙ is) in
    sym (ap (λ (v : Shelf). lookup (same_key k) v.slots) (sym e) ∙ l ∙ ap (λ (v : Shelf). Some (slot_of v.slots k)) e ∙ ap Some at)

pub head_shown : (s : Slab (List Kept)) (ss : List (DocKey × ℕ)) (k : DocKey) (h : Kept) (slot : ℕ) (v : Shelf) → Shows s ss v → slice_get (queue_of v.queues k) 0 ≡ Some h → slot_of v.slots k ≡ slot
    → slice_get (queue_in s slot) 0 ≡ Some h
head_shown s ss k h slot v e is at = ap (λ q. slice_get q 0) (sym (queue_shown s ss k slot v e (slot_shown s ss k h slot v e is at))) ∙ is

pub keys_shown : (s t : Slab (List Kept)) (ss : List (DocKey × ℕ)) (v : Shelf) → Shows s ss v → keys_of (queues_in t ss) ≡ keys_of v.queues
keys_shown s t ss v e = keys_shelved t ss ∙ sym (keys_shelved s ss) ∙ ap (λ (v : Shelf). keys_of v.queues) e

pub set_shown : (s t : Slab (List Kept)) (ss : List (DocKey × ℕ)) (key : DocKey) (slot : ℕ) (q : List Kept) (v : Shelf) → Shows s ss v → IsShelf ss s → Some slot ≡ lookup (same_key key) v.slots
    → Sets s t slot q → Changes v.queues (queues_in t ss) key q
set_shown s t ss key slot q v e a l c = subst (λ (v : Shelf). Changes v.queues (queues_in t ss) key q) e (set_changes s t ss key slot q a (lookup_shown s ss key (Some slot) v e l) c)

pub on_shown : (f : Kept → Kept) (s t : Slab (List Kept)) (ss : List (DocKey × ℕ)) (key : DocKey) (slot : ℕ) (v : Shelf) → Shows s ss v → IsShelf ss s → Some slot ≡ lookup (same_key key) v.slots
    → Sets s t slot (on_first f (queue_in s slot)) → Changes v.queues (queues_in t ss) key (on_first f (queue_of v.queues key))
on_shown f s t ss key slot v e a l c = subst (λ q. Changes v.queues (queues_in t ss) key (on_first f q)) (sym (queue_shown s ss key slot v e l)) (set_shown s t ss key slot (on_first f (queue_in s slot)) v e a l c)

pub on_none : (f : Kept → Kept) (s : Slab (List Kept)) (ss : List (DocKey × ℕ)) (key : DocKey) (v : Shelf) → Shows s ss v → None ≡ lookup (same_key key) v.slots
    → Changes v.queues v.queues key (on_first f (queue_of v.queues key))
on_none f s ss key v e l = let is = none_shown s ss key v e l in changes_none v.queues key (on_first f (queue_of v.queues key)) (ap (on_first f) is ∙ sym is)

pub entry_shown : (s t : Slab (List Kept)) (ss : List (DocKey × ℕ)) (key : DocKey) (slot : ℕ) (v : Shelf) (o : Option Entry) → Shows s ss v → Some slot ≡ lookup (same_key key) v.slots
    → o ≡ option_map (entry_at slot) (slice_get (queue_in t slot) 0) → o ≡ option_map (entry_at (slot_of v.slots key)) (slice_get (queue_of (queues_in t ss) key) 0)
entry_shown s t ss key slot v o e l is =
    is ∙ ap (λ n. option_map (entry_at n) (slice_get (queue_in t slot) 0)) (ap (λ o. unwrap_or o 0) l)
    ∙ ap (λ q. option_map (entry_at (slot_of v.slots key)) (slice_get q 0)) (sym (queue_here t ss key slot (lookup_shown s ss key (Some slot) v e l)))

pub no_entry : (s : Slab (List Kept)) (ss : List (DocKey × ℕ)) (key : DocKey) (slot : ℕ) (v : Shelf) → Shows s ss v → None ≡ lookup (same_key key) v.slots
    → None ≡ option_map (entry_at slot) (slice_get (queue_of v.queues key) 0)
no_entry s ss key slot v e l = ap (λ q. option_map (entry_at slot) (slice_get q 0)) (sym (none_shown s ss key v e l))

-- ---- a document comes, or goes, as the contracts say it

pub count_shelved : (s : Slab (List Kept)) (ss : List (DocKey × ℕ)) → length (keys_of (queues_in s ss)) ≡ length ss
count_shelved s ss = ap length (keys_shelved s ss) ∙ length-map ss (λ (e : DocKey × ℕ). e.0)

pub new_shown : (s t : Slab (List Kept)) (ss rs : List (DocKey × ℕ)) (key : DocKey) (one : Kept) (v : Shelf) → Shows s ss v → None ≡ lookup (same_key key) v.slots
    → Changes (queues_in s ss) (queues_in t rs) key (one ∷ []) → Changes v.queues (queues_in t rs) key (queue_of v.queues key ++ one ∷ [])
new_shown s t ss rs key one v e l c =
    subst (λ q. Changes v.queues (queues_in t rs) key (q ++ one ∷ [])) (sym (none_shown s ss key v e l)) (subst (λ (v : Shelf). Changes v.queues (queues_in t rs) key (one ∷ [])) e c)

pub new_entry : (s : Slab (List Kept)) (ss : List (DocKey × ℕ)) (key : DocKey) (slot : ℕ) (one : Kept) (v : Shelf) → Shows s ss v → None ≡ lookup (same_key key) v.slots
    → Some (entry_at slot one) ≡ entry_after (queue_of v.queues key) slot one
new_entry s ss key slot one v e l = ap (λ q. entry_after q slot one) (sym (none_shown s ss key v e l))

pub new_slots : (s t : Slab (List Kept)) (ss rs : List (DocKey × ℕ)) (key : DocKey) (v : Shelf) → Shows s ss v → None ≡ lookup (same_key key) v.slots
    → ((k : DocKey) → same_key key k ≡ false → lookup (same_key k) rs ≡ lookup (same_key k) ss) → KeepsSlots v (record { queues = queues_in t rs; slots = rs })
new_slots s t ss rs key v e l others = λ k g h is at. ⊎_elim {C = slot_of rs k ≡ slot_of v.slots k}
    (λ u. absurd (none_some g (sym (ap (λ q. slice_get q 0) (sym (same_queue v.queues key k u) ∙ none_shown s ss key v e l)) ∙ is)))
    (λ f. ap (λ o. unwrap_or o 0) (others k f) ∙ ap (λ (v : Shelf). slot_of v.slots k) e)
    (true_or_false (same_key key k))

pub count_shown : (s : Slab (List Kept)) (ss : List (DocKey × ℕ)) (v : Shelf) → Shows s ss v → length ss ≡ length (keys_of v.queues)
count_shown s ss v e = sym (count_shelved s ss) ∙ ap (λ (v : Shelf). length (keys_of v.queues)) e

pub old_entry : (s : Slab (List Kept)) (ss : List (DocKey × ℕ)) (key : DocKey) (slot at : ℕ) (one : Kept) (v : Shelf) → Shows s ss v → IsShelf ss s → Some slot ≡ lookup (same_key key) v.slots
    → None ≡ entry_after (queue_of v.queues key) at one
old_entry s ss key slot at one v e a l = by (queue_of v.queues key) (subst (λ q. 0 < length q) (sym (queue_shown s ss key slot v e l)) (a.filled key slot (lookup_shown s ss key (Some slot) v e l)))
  where
    by : (q : List Kept) → 0 < length q → None ≡ entry_after q at one
    by [] lt = absurd (omega (arith, lt))
    by (x ∷ xs) lt = refl

pub unique_keys : (t : Slab (List Kept)) (ss : List (DocKey × ℕ)) → IsDistinct same_key (keys_of ss) → IsDistinct same_key (keys_of (queues_in t ss))
unique_keys t ss d = subst (IsDistinct same_key) (sym (keys_shelved t ss)) d

pub unique_shown : (s t : Slab (List Kept)) (ss : List (DocKey × ℕ)) → IsShelf ss s → IsDistinct same_key (keys_of (queues_in t ss))
unique_shown s t ss a = unique_keys t ss a.unique

-- after the first of a queue came out, and a next one is there
pub next_name : (r : Option Taken) (p : List Kept) → is_some r ≡ true → IfSome r (λ t. Some t.name ≡ first_name p) → option_map (λ (t : Taken). t.name) r ≡ first_name p
next_name None p i e = absurd (cc)
next_name (Some t) p i e = e

pub next_left : (r : Option Taken) (p q : List Kept) → is_some r ≡ true → IfSome r (λ t. q ≡ drop 1 p) → q ≡ drop 1 p
next_left None p q i e = absurd (cc)
next_left (Some t) p q i e = e

pub if_some_map : (r : Option Taken) (P Q : Taken → Type 0) → ((t : Taken) → P t → Q t) → IfSome r P → IfSome r Q
if_some_map None P Q f a = tt
if_some_map (Some t) P Q f a = f t a

pub none_of : (r : Option Taken) (P : Type 0) → is_some r ≡ false → IfNone r P → P
none_of None P i a = a
none_of (Some t) P i a = absurd (cc)

pub kept_removed : (es : List (DocKey × List Kept)) (rs ss : List (DocKey × ℕ)) (fs : List (DocKey × List Kept)) (key : DocKey) → Changes es fs key []
    → ((k : DocKey) → same_key key k ≡ false → lookup (same_key k) rs ≡ lookup (same_key k) ss) → (k : DocKey) (h : Kept) → slice_get (queue_of fs k) 0 ≡ Some h → lookup (same_key k) rs ≡ lookup (same_key k) ss
kept_removed es rs ss fs key c others k h e = ⊎_elim {C = lookup (same_key k) rs ≡ lookup (same_key k) ss}
    (λ u. absurd (none_some h (sym (ap (λ q. slice_get q 0) (c.queues k ∙ ap (λ b. cond b [] (queue_of es k)) u)) ∙ e)))
    (others k)
    (true_or_false (same_key key k))

pub taken_shown : (s t : Slab (List Kept)) (ss rs : List (DocKey × ℕ)) (key : DocKey) (slot : ℕ) (v : Shelf) → Shows s ss v → Some slot ≡ lookup (same_key key) v.slots
    → Changes (queues_in s ss) (queues_in t rs) key (drop 1 (queue_in s slot)) → Changes v.queues (queues_in t rs) key (drop 1 (queue_of v.queues key))
taken_shown s t ss rs key slot v e l c =
    subst (λ q. Changes v.queues (queues_in t rs) key (drop 1 q)) (sym (queue_shown s ss key slot v e l)) (subst (λ (v : Shelf). Changes v.queues (queues_in t rs) key (drop 1 (queue_in s slot))) e c)

pub next_shown : (s : Slab (List Kept)) (ss : List (DocKey × ℕ)) (key : DocKey) (slot : ℕ) (v : Shelf) (o : Option Entry) → Shows s ss v → Some slot ≡ lookup (same_key key) v.slots
    → o ≡ option_map (entry_at slot) (slice_get (drop 1 (queue_in s slot)) 0) → o ≡ option_map (entry_at (slot_of v.slots key)) (slice_get (drop 1 (queue_of v.queues key)) 0)
next_shown s ss key slot v o e l is =
    is ∙ ap (λ n. option_map (entry_at n) (slice_get (drop 1 (queue_in s slot)) 0)) (ap (λ o. unwrap_or o 0) l)
    ∙ ap (λ q. option_map (entry_at (slot_of v.slots key)) (slice_get (drop 1 q) 0)) (sym (queue_shown s ss key slot v e l))

pub kept_shown : (s t : Slab (List Kept)) (ss rs : List (DocKey × ℕ)) (v : Shelf) → Shows s ss v
    → ((k : DocKey) (h : Kept) → slice_get (queue_of (queues_in t rs) k) 0 ≡ Some h → lookup (same_key k) rs ≡ lookup (same_key k) ss) → KeepsSlots v (record { queues = queues_in t rs; slots = rs })
kept_shown s t ss rs v e kept = λ k g h is at. ap (λ o. unwrap_or o 0) (kept k h at) ∙ ap (λ (v : Shelf). slot_of v.slots k) e
