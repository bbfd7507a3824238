-- What each call makes of what is held and of the delay queue.
use Rattle.std.proofs.Common.{◌≡◌, ℕ, ◌+◌, ◌-◌, ◌≤◌, List, [], ◌∷◌, ◌++◌, length, Option, Some, None, true, false, refl, sym, ap, ◌∙◌, subst, inl, inr, arith, drop}
use Rattle.std.specs.Prelude.{slice_get, option_map, cond}
use Rattle.std.specs.List.{IsDistinct}
use Rattle.std.specs.Map.{keys_of}
use Rattle.relay_action.specs.declared.key.DocKey.{DocKey}
use Rattle.relay_action.specs.declared.operation.OpName.{OpName}
use Rattle.relay_delay.specs.declared.entry.Entry.{Entry}
use Rattle.relay_delay.specs.Waiting.{Delays, without}
use Rattle.relay_results.proofs.Lists.{apart_tests, none_some, some_same}
use Rattle.relay_held.specs.declared.kept.Kept.{Kept}
use Rattle.relay_held.specs.Operations.{waits_here, launch_one}
use Rattle.relay_held.specs.Queues.{AllUnder, AllWait, same_key, first_of, with_first, without_first, on_first, merge_of, queue_of, first_name, Changes}
use Rattle.relay_held.specs.Shelf.{Shelf, IsHeld, slot_of, KeepsSlots, entry_at, entry_after}
use Rattle.relay_held.proofs.Merging.{same_self}
use Rattle.relay_held.proofs.Changing.{Keeps}
use Rattle.relay_held.proofs.Holding.{Becomes, with_becomes, push_becomes, take_becomes, none_becomes, first_here, launch_keeps}
use Rattle.relay_held.proofs.Waiting.{WaitsFirst, Joins, Joined, joined, left, IsDueAt}

-- what is held afterwards, and what joins the delay queue
pub record Moved (w : Shelf) (n : ℕ) (d : Delays) (o : Option Entry) (hs : List Kept) : Type 0 where
  pub becomes : Becomes w.queues n hs
  pub joined : Joined w n d o

head_after : (v w : Shelf) (key : DocKey) (q : List Kept) → Changes v.queues w.queues key q → slice_get (queue_of w.queues key) 0 ≡ slice_get q 0
head_after v w key q c = ap (λ p. slice_get p 0) (c.queues key ∙ ap (λ b. cond b q (queue_of v.queues key)) (same_self key))

-- the first of a document, if one is held, is in flight
abbrev pub Flies : List Kept → DocKey → Type 0
Flies hs key = (h : Kept) → first_of key hs ≡ Some h → waits_here h.flies ≡ false

none_waits : (v : Shelf) (n : ℕ) (d : Delays) (key : DocKey) → IsHeld v n d → Flies (merge_of v.queues) key → (y : Kept) → WaitsFirst (queue_of v.queues key) y → ⊥
none_waits v n d key a f y w = apart_tests (sym (f y (sym (first_here v.queues n key a.holding) ∙ w.0)) ∙ w.1)

-- ---- it waits again

land_joins : (v w : Shelf) (key : DocKey) (f : Kept → Kept) (o : Option Entry) (p : List Kept) → queue_of v.queues key ≡ p → ((h : Kept) → waits_here (f h).flies ≡ true)
    → o ≡ option_map (entry_at (slot_of w.slots key)) (slice_get (on_first f p) 0) → ((y : Kept) → WaitsFirst p y → ⊥) → Joins v w key (on_first f p) o
land_joins v w key f o [] e waits is none = inl (is, (λ x u. absurd (none x u)), (λ x u. (sym (ap (λ q. slice_get q 0) e) ∙ u.0, u.1)))
land_joins v w key f o (h ∷ hs) e waits is none = inr (f h, is, (refl, waits h), λ y u. none y (sym (ap (λ q. slice_get q 0) e) ∙ u.0, u.1))

pub landed : (v w : Shelf) (n : ℕ) (d : Delays) (key : DocKey) (f : Kept → Kept) (o : Option Entry) → IsHeld v n d → Keeps f → ((h : Kept) → waits_here (f h).flies ≡ true)
    → Changes v.queues w.queues key (on_first f (queue_of v.queues key)) → w.slots ≡ v.slots → keys_of w.queues ≡ keys_of v.queues → IsDistinct same_key (keys_of w.queues)
    → o ≡ option_map (entry_at (slot_of v.slots key)) (slice_get (queue_of w.queues key) 0) → Flies (merge_of v.queues) key → Moved w n d o (with_first key f (merge_of v.queues))
landed v w n d key f o a p waits c slots keys unique is flies =
    let b = with_becomes v.queues w.queues n key f p a.holding unique c in
    record {
      becomes = b;
      joined = joined v w n n d key (on_first f (queue_of v.queues key)) o a b.holding c (λ k g h i j. ap (λ ss. slot_of ss k) slots)
          (subst (λ ks. length ks ≤ d.room) (sym keys) a.room)
          (land_joins v w key f o (queue_of v.queues key) refl waits
          (is ∙ ap (option_map (entry_at (slot_of v.slots key))) (head_after v w key (on_first f (queue_of v.queues key)) c) ∙ ap (λ ss. option_map (entry_at (slot_of ss key)) (slice_get (on_first f (queue_of v.queues key)) 0)) (sym slots))
          (none_waits v n d key a flies));
    }

-- ---- one more is held

push_joins : (v w : Shelf) (x : Kept) (o : Option Entry) (p : List Kept) → queue_of v.queues x.key ≡ p → x.flies ≡ None → o ≡ entry_after p (slot_of w.slots x.key) x → Joins v w x.key (p ++ x ∷ []) o
push_joins v w x o [] e waits is = inr (x, is, (refl, ap waits_here waits), λ y u. none_some y (sym (ap (λ q. slice_get q 0) e) ∙ u.0))
push_joins v w x o (h ∷ hs) e waits is = inl (is, (λ y u. (ap (λ q. slice_get q 0) e ∙ u.0, u.1)), (λ y u. (sym (ap (λ q. slice_get q 0) e) ∙ u.0, u.1)))

-- more room for the entries
pub roomier : (v : Shelf) (n : ℕ) (d e : Delays) → IsHeld v n d → d.room ≤ e.room → e.entries ≡ d.entries → IsHeld v n e
roomier v n d e a le same = record { holding = a.holding; entries = same ∙ a.entries; room = let r = a.room in omega (arith, r, le) }

pub pushed : (v w : Shelf) (n : ℕ) (d : Delays) (x : Kept) (o : Option Entry) → IsHeld v n d → AllUnder x.version (merge_of v.queues) → x.flies ≡ None
    → Changes v.queues w.queues x.key (queue_of v.queues x.key ++ x ∷ []) → KeepsSlots v w → length (keys_of w.queues) ≤ d.room → IsDistinct same_key (keys_of w.queues)
    → o ≡ entry_after (queue_of v.queues x.key) (slot_of w.slots x.key) x → Moved w (n + 1) d o (merge_of v.queues ++ x ∷ [])
pushed v w n d x o a under waits c slots room unique is =
    let b = push_becomes v.queues w.queues n x a.holding unique under waits c in
    record {
      becomes = b;
      joined = joined v w n (n + 1) d x.key (queue_of v.queues x.key ++ x ∷ []) o a b.holding c slots room (push_joins v w x o (queue_of v.queues x.key) refl waits is);
    }

-- ---- the first comes out

take_joins : (v w : Shelf) (key : DocKey) (x : Kept) (o : Option Entry) (p : List Kept) → queue_of v.queues key ≡ p → Changes v.queues w.queues key (drop 1 p) → KeepsSlots v w → slice_get p 0 ≡ Some x
    → AllWait (drop 1 p) → o ≡ option_map (entry_at (slot_of v.slots key)) (slice_get (drop 1 p) 0) → ((y : Kept) → WaitsFirst (queue_of v.queues key) y → ⊥) → Joins v w key (drop 1 p) o
take_joins v w key x o [] e c slots first wait is none = absurd (none_some x first)
take_joins v w key x o (h ∷ []) e c slots first wait is none = inl (is, (λ y u. absurd (none_some y u.0)), (λ y u. absurd (none y u)))
take_joins v w key x o (h ∷ (y ∷ ys)) e c slots first wait is none =
    let same = slots key h y (ap (λ q. slice_get q 0) e) (head_after v w key (y ∷ ys) c) in
    inr (y, is ∙ ap (λ n. Some (entry_at n y)) (sym same), (refl, ap waits_here wait.0), none)

one_taken : (v w : Shelf) (n : ℕ) (d : Delays) (key : DocKey) (x : Kept) (o : Option Entry) → IsHeld v n d → Changes v.queues w.queues key (drop 1 (queue_of v.queues key)) → KeepsSlots v w
    → length (keys_of w.queues) ≤ length (keys_of v.queues) → IsDistinct same_key (keys_of w.queues) → slice_get (queue_of v.queues key) 0 ≡ Some x
    → o ≡ option_map (entry_at (slot_of v.slots key)) (slice_get (drop 1 (queue_of v.queues key)) 0) → Flies (merge_of v.queues) key → Moved w (n - 1) d o (without_first key (merge_of v.queues))
one_taken v w n d key x o a c slots fewer unique first is flies =
    let b = take_becomes v.queues w.queues n key x a.holding unique c first in
    record {
      becomes = b;
      joined = joined v w n (n - 1) d key (drop 1 (queue_of v.queues key)) o a b.holding c slots (let r = a.room in omega (arith, r, fewer))
          (take_joins v w key x o (queue_of v.queues key) refl c slots first (subst (λ q. AllWait (drop 1 q)) (sym (a.holding.merge.queues key)) (a.holding.behind key)) is (none_waits v n d key a flies));
    }

named_first : (q : List Kept) (name : OpName) → Some name ≡ first_name q → (x : Kept) × (slice_get q 0 ≡ Some x)
named_first [] name e = absurd (cc)
named_first (h ∷ hs) name e = (h, refl)

no_first : (q : List Kept) → None ≡ first_name q → slice_get q 0 ≡ None
no_first [] e = refl
no_first (h ∷ hs) e = absurd (cc)

pub taken : (v w : Shelf) (n : ℕ) (d : Delays) (key : DocKey) (name : OpName) (o : Option Entry) → IsHeld v n d → Changes v.queues w.queues key (drop 1 (queue_of v.queues key)) → KeepsSlots v w
    → length (keys_of w.queues) ≤ length (keys_of v.queues) → IsDistinct same_key (keys_of w.queues) → Some name ≡ first_name (queue_of v.queues key)
    → o ≡ option_map (entry_at (slot_of v.slots key)) (slice_get (drop 1 (queue_of v.queues key)) 0) → Flies (merge_of v.queues) key → Moved w (n - 1) d o (without_first key (merge_of v.queues))
taken v w n d key name o a c slots fewer unique first is flies =
    let x = named_first (queue_of v.queues key) name first in
    one_taken v w n d key x.0 o a c slots fewer unique x.1 is flies

none_joins : (v w : Shelf) (key : DocKey) (p : List Kept) → queue_of v.queues key ≡ p → slice_get p 0 ≡ None → Joins v w key (drop 1 p) None
none_joins v w key [] e first = inl (refl, (λ y u. absurd (none_some y u.0)), (λ y u. (sym (ap (λ q. slice_get q 0) e) ∙ u.0, u.1)))
none_joins v w key (h ∷ hs) e first = absurd (none_some h (sym first))

pub none_taken : (v w : Shelf) (n : ℕ) (d : Delays) (key : DocKey) → IsHeld v n d → Changes v.queues w.queues key (drop 1 (queue_of v.queues key)) → KeepsSlots v w
    → length (keys_of w.queues) ≤ length (keys_of v.queues) → IsDistinct same_key (keys_of w.queues) → None ≡ first_name (queue_of v.queues key) → Moved w n d None (without_first key (merge_of v.queues))
none_taken v w n d key a c slots fewer unique no_name =
    let first = no_first (queue_of v.queues key) no_name in
    let b = none_becomes v.queues w.queues n key a.holding unique c first in
    record {
      becomes = b;
      joined = joined v w n n d key (drop 1 (queue_of v.queues key)) None a b.holding c slots (let r = a.room in omega (arith, r, fewer)) (none_joins v w key (queue_of v.queues key) refl first);
    }

-- ---- the first is sent

pub record Launched (v w : Shelf) (n : ℕ) (d : Delays) (e : Entry) (clock number place : ℕ) (x : Kept) : Type 0 where
  pub becomes : Becomes w.queues n (with_first x.key (launch_one clock number place) (merge_of v.queues))
  pub held : IsHeld w n (record d { entries = without e.version d.entries })

flies_now : (p : List Kept) (clock number place : ℕ) (y : Kept) → WaitsFirst (on_first (launch_one clock number place) p) y → ⊥
flies_now [] clock number place y u = none_some y u.0
flies_now (h ∷ hs) clock number place y u =
    let is = some_same (launch_one clock number place h) y u.0 in
    apart_tests (ap (λ (z : Kept). waits_here z.flies) is ∙ u.1)

pub launched : (v w : Shelf) (n : ℕ) (d : Delays) (e : Entry) (clock number place : ℕ) → IsHeld v n d → (x : IsDueAt v d 0 e)
    → Changes v.queues w.queues x.one.key (on_first (launch_one clock number place) (queue_of v.queues x.one.key)) → w.slots ≡ v.slots → keys_of w.queues ≡ keys_of v.queues → IsDistinct same_key (keys_of w.queues)
    → Launched v w n d e clock number place x.one
launched v w n d e clock number place a x c slots keys unique =
    let b = with_becomes v.queues w.queues n x.one.key (launch_one clock number place) (launch_keeps clock number place) a.holding unique c in
    record {
      becomes = b;
      held = subst (λ m. IsHeld w n (record d { entries = without m d.entries })) (sym (ap (λ (y : Entry). y.version) x.entry))
          (left v w n d x.one.key (on_first (launch_one clock number place) (queue_of v.queues x.one.key)) x.one a b.holding c slots keys x.waits (flies_now (queue_of v.queues x.one.key) clock number place));
    }
