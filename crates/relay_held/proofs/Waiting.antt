-- The delay queue has the first operation of each document that waits: what a change of one queue makes of it.
use Rattle.std.proofs.Common.{◌≡◌, ℕ, zero, suc, ◌+◌, ◌<◌, ◌≤◌, List, [], ◌∷◌, length, Option, Some, None, true, false, ◌==◌, refl, sym, ap, ◌∙◌, subst, ⊎_elim, inl, inr, arith}
use Rattle.std.specs.Prelude.{◌⊎◌, if◌then◌else◌, cond, not, nat_lt, nat_le, map, filter, slice_get, option_map, unwrap_or, IfSome}
use Rattle.std.specs.Map.{keys_of}
use Rattle.std.proofs.lemmas.Bool.{ltb-true, ltb-false}
use Rattle.std.proofs.lemmas.List.{length-map}
use Rattle.relay_action.specs.declared.key.DocKey.{DocKey}
use Rattle.relay_delay.specs.declared.entry.Entry.{Entry}
use Rattle.relay_delay.specs.Waiting.{Delays, insert, without, has_version, is_due, due_entries, first_due, sooner}
use Rattle.relay_results.specs.Words.{Mem}
use Rattle.relay_results.proofs.Lists.{apart_tests, true_or_false, none_some, some_same, equal, equal_test, Mem-filter, filter-Mem, Mem-map, any_true, at-Mem}
use Rattle.relay_held.specs.declared.kept.Kept.{Kept}
use Rattle.relay_held.specs.Operations.{waits_here}
use Rattle.relay_held.specs.Queues.{AllAbove, Rises, same_key, first_of, candidates_kept, eligible, first_due_kept, insert_one, merge_of, queue_of, IsMerge, IsHolding, Changes}
use Rattle.relay_held.specs.Shelf.{Shelf, IsHeld, slot_of, KeepsSlots, entry_at, entry_of, with_entry}
use Rattle.relay_held.proofs.Merging.{same_self, rises_filter}
use Rattle.relay_held.proofs.Changing.{first_is, same_queue}
use Rattle.relay_held.proofs.Shelving.{found_along}
use Rattle.relay_held.proofs.Heads.{above_mem, one_version, first_mem, eligible_is, eligible_first, eligible_rises, due_eligible, few_eligible}

-- ---- lists in ascending order of version

-- two that have the same elements are one
pub same_rising : (xs ys : List Kept) → Rises xs → Rises ys → ((z : Kept) → Mem z xs → Mem z ys) → ((z : Kept) → Mem z ys → Mem z xs) → xs ≡ ys
same_rising [] [] r s f g = refl
same_rising [] (y ∷ ys) r s f g = elim (g y (inl refl)) [ ]
same_rising (x ∷ xs) [] r s f g = elim (f x (inl refl)) [ ]
same_rising (x ∷ xs) (y ∷ ys) r s f g =
    let here : x ≡ y = ⊎_elim {C = x ≡ y}
    (λ e. e)
    (λ m. ⊎_elim {C = x ≡ y} (λ e. sym e) (λ n. let lt = above_mem y.version ys x s.0 m in let gt = above_mem x.version xs y r.0 n in absurd (omega (arith, lt, gt))) (g y (inl refl)))
    (f x (inl refl)) in
    let same = ap (λ (z : Kept). z.version) here in
    (λ i. here i ∷ same_rising xs ys r.1 s.1
    (λ z m. ⊎_elim {C = Mem z ys} (λ e. let lt = above_mem x.version xs z r.0 m in let v = ap (λ (z : Kept). z.version) e in absurd (omega (arith, lt, v, same))) (λ n. n) (f z (inr m)))
    (λ z m. ⊎_elim {C = Mem z xs} (λ e. let lt = above_mem y.version ys z s.0 m in let v = ap (λ (z : Kept). z.version) e in absurd (omega (arith, lt, v, same))) (λ n. n) (g z (inr m))) i)

mem_insert : (x z : Kept) (ys : List Kept) → Mem z (insert_one x ys) → (z ≡ x) ⊎ Mem z ys
mem_insert x z [] m = m
mem_insert x z (y ∷ ys) m = ⊎_elim {C = (z ≡ x) ⊎ Mem z (y ∷ ys)}
    (λ t. subst (λ b. Mem z (if b then x ∷ y ∷ ys else y ∷ insert_one x ys)) t m)
    (λ f. ⊎_elim {C = (z ≡ x) ⊎ Mem z (y ∷ ys)}
    (λ e. inr (inl e))
    (λ n. ⊎_elim {C = (z ≡ x) ⊎ Mem z (y ∷ ys)} (λ e. inl e) (λ k. inr (inr k)) (mem_insert x z ys n))
    (subst (λ b. Mem z (if b then x ∷ y ∷ ys else y ∷ insert_one x ys)) f m))
    (true_or_false (nat_lt x.version y.version))

insert_mem : (x z : Kept) (ys : List Kept) → (z ≡ x) ⊎ Mem z ys → Mem z (insert_one x ys)
insert_mem x z [] m = m
insert_mem x z (y ∷ ys) m = ⊎_elim {C = Mem z (insert_one x (y ∷ ys))}
    (λ t. rw t m)
    (λ f. rw f (⊎_elim {C = Mem z (y ∷ insert_one x ys)}
    (λ e. inr (insert_mem x z ys (inl e)))
    (λ n. ⊎_elim {C = Mem z (y ∷ insert_one x ys)} (λ e. inl e) (λ k. inr (insert_mem x z ys (inr k))) n)
    m))
    (true_or_false (nat_lt x.version y.version))

above_insert : (v : ℕ) (x : Kept) (ys : List Kept) → v < x.version → AllAbove v ys → AllAbove v (insert_one x ys)
above_insert v x [] lt a = (lt, tt)
above_insert v x (y ∷ ys) lt a = ⊎_elim {C = AllAbove v (insert_one x (y ∷ ys))}
    (λ t. rw t (lt, a))
    (λ f. rw f (a.0, above_insert v x ys lt a.1))
    (true_or_false (nat_lt x.version y.version))

above_less : (v w : ℕ) (ys : List Kept) → v < w → AllAbove w ys → AllAbove v ys
above_less v w [] lt a = tt
above_less v w (y ∷ ys) lt a = (omega (arith, a.0, lt), above_less v w ys lt a.1)

pub rises_insert : (x : Kept) (ys : List Kept) → Rises ys → ((y : Kept) → Mem y ys → y.version ≡ x.version → ⊥) → Rises (insert_one x ys)
rises_insert x [] r f = (tt, tt)
rises_insert x (y ∷ ys) r f = ⊎_elim {C = Rises (insert_one x (y ∷ ys))}
    (λ t. let lt = ltb-true x.version y.version t in rw t ((lt, above_less x.version y.version ys lt r.0), (r.0, r.1)))
    (λ g. let ge = ltb-false x.version y.version g in
    rw g (above_insert y.version x ys (less ge) r.0, rises_insert x ys r.1 (λ z m. f z (inr m))))
    (true_or_false (nat_lt x.version y.version))
  where
    less : y.version ≤ x.version → y.version < x.version
    less le = ⊎_elim {C = y.version < x.version}
        (λ t. ltb-true y.version x.version t)
        (λ n. let ge = ltb-false y.version x.version n in absurd (f y (inl refl) (omega (arith, le, ge))))
        (true_or_false (nat_lt y.version x.version))

length_insert : (x : Kept) (ys : List Kept) → length (insert_one x ys) ≡ length ys + 1
length_insert x [] = refl
length_insert x (y ∷ ys) = ⊎_elim {C = length (insert_one x (y ∷ ys)) ≡ length (y ∷ ys) + 1}
    (λ t. rw t (omega arith))
    (λ f. rw f (let e = length_insert x ys in omega (arith, e)))
    (true_or_false (nat_lt x.version y.version))

-- ---- the first operations that wait, and the queues

pub mem_head : (es : List (DocKey × List Kept)) (hs : List Kept) (x : Kept) → IsMerge es hs → Mem x (eligible hs) → (slice_get (queue_of es x.key) 0 ≡ Some x) × (waits_here x.flies ≡ true)
mem_head es hs x m e =
    let f = eligible_first hs x m.rises e in
    (ap (λ q. slice_get q 0) (m.queues x.key) ∙ sym (first_is x.key hs) ∙ f.0, f.1)

pub first_head : (es : List (DocKey × List Kept)) (hs : List Kept) (k : DocKey) (x : Kept) → IsMerge es hs → slice_get (queue_of es k) 0 ≡ Some x → first_of k hs ≡ Some x
first_head es hs k x m e = first_is k hs ∙ ap (λ q. slice_get q 0) (sym (m.queues k)) ∙ e

pub head_mem : (es : List (DocKey × List Kept)) (hs : List Kept) (k : DocKey) (x : Kept) → IsMerge es hs → slice_get (queue_of es k) 0 ≡ Some x → waits_here x.flies ≡ true → Mem x (eligible hs)
head_mem es hs k x m e w = eligible_is k hs x m.rises (first_head es hs k x m e) w

head_key : (es : List (DocKey × List Kept)) (hs : List Kept) (k : DocKey) (x : Kept) → IsMerge es hs → slice_get (queue_of es k) 0 ≡ Some x → same_key k x.key ≡ true
head_key es hs k x m e = (first_mem k hs x (first_head es hs k x m e)).1

-- the first of a document waits, and is this one
abbrev pub WaitsFirst : List Kept → Kept → Type 0
WaitsFirst q x = (slice_get q 0 ≡ Some x) × (waits_here x.flies ≡ true)

waits_after : (es fs : List (DocKey × List Kept)) (key : DocKey) (q : List Kept) (k : DocKey) (x : Kept) → Changes es fs key q → same_key key k ≡ true → WaitsFirst q x → WaitsFirst (queue_of fs k) x
waits_after es fs key q k x c t w = (ap (λ p. slice_get p 0) (c.queues k ∙ ap (λ b. cond b q (queue_of es k)) t) ∙ w.0, w.1)

waits_now : (es fs : List (DocKey × List Kept)) (key : DocKey) (q : List Kept) (k : DocKey) (x : Kept) → Changes es fs key q → same_key key k ≡ true → WaitsFirst (queue_of fs k) x → WaitsFirst q x
waits_now es fs key q k x c t w = (sym (ap (λ p. slice_get p 0) (c.queues k ∙ ap (λ b. cond b q (queue_of es k)) t)) ∙ w.0, w.1)

waits_still : (es fs : List (DocKey × List Kept)) (key : DocKey) (q : List Kept) (k : DocKey) (x : Kept) → Changes es fs key q → same_key key k ≡ false → WaitsFirst (queue_of es k) x → WaitsFirst (queue_of fs k) x
waits_still es fs key q k x c f w = (ap (λ p. slice_get p 0) (c.queues k ∙ ap (λ b. cond b q (queue_of es k)) f) ∙ w.0, w.1)

waits_before : (es fs : List (DocKey × List Kept)) (key : DocKey) (q : List Kept) (k : DocKey) (x : Kept) → Changes es fs key q → same_key key k ≡ false → WaitsFirst (queue_of fs k) x → WaitsFirst (queue_of es k) x
waits_before es fs key q k x c f w = (sym (ap (λ p. slice_get p 0) (c.queues k ∙ ap (λ b. cond b q (queue_of es k)) f)) ∙ w.0, w.1)

waits_along : (es : List (DocKey × List Kept)) (a b : DocKey) (x : Kept) → same_key a b ≡ true → WaitsFirst (queue_of es b) x → WaitsFirst (queue_of es a) x
waits_along es a b x t w = (ap (λ p. slice_get p 0) (same_queue es a b t) ∙ w.0, w.1)

-- ---- what a change of one queue makes of them

-- the first waits as before
pub eligible_same : (es fs : List (DocKey × List Kept)) (hs gs : List Kept) (key : DocKey) (q : List Kept) → IsMerge es hs → IsMerge fs gs → Changes es fs key q
    → ((x : Kept) → WaitsFirst q x → WaitsFirst (queue_of es key) x) → ((x : Kept) → WaitsFirst (queue_of es key) x → WaitsFirst q x) → eligible gs ≡ eligible hs
eligible_same es fs hs gs key q m n c f g = same_rising (eligible gs) (eligible hs) (eligible_rises gs n.rises) (eligible_rises hs m.rises)
    (λ z e. let w = mem_head fs gs z n e in ⊎_elim {C = Mem z (eligible hs)}
    (λ t. let v = f z (waits_now es fs key q z.key z c t w) in head_mem es hs key z m v.0 v.1)
    (λ u. let v = waits_before es fs key q z.key z c u w in head_mem es hs z.key z m v.0 v.1)
    (true_or_false (same_key key z.key)))
    (λ z e. let w = mem_head es hs z m e in ⊎_elim {C = Mem z (eligible gs)}
    (λ t. let v = waits_after es fs key q z.key z c t (g z (waits_along es key z.key z t w)) in head_mem fs gs z.key z n v.0 v.1)
    (λ u. let v = waits_still es fs key q z.key z c u w in head_mem fs gs z.key z n v.0 v.1)
    (true_or_false (same_key key z.key)))

fresh_one : (es fs : List (DocKey × List Kept)) (hs gs : List Kept) (key : DocKey) (q : List Kept) (x : Kept) → IsMerge es hs → IsMerge fs gs → Changes es fs key q
    → WaitsFirst q x → ((y : Kept) → WaitsFirst (queue_of es key) y → ⊥) → (y : Kept) → Mem y (eligible hs) → y.version ≡ x.version → ⊥
fresh_one es fs hs gs key q x m n c w none y e v =
    let h = mem_head es hs y m e in
    let now = waits_after es fs key q key x c (same_self key) w in
    ⊎_elim {C = ⊥}
    (λ t. none y (waits_along es key y.key y t h))
    (λ u. let there = waits_still es fs key q y.key y c u h in
    let is = one_version gs y x n.rises (first_mem y.key gs y (first_head fs gs y.key y n there.0)).0 (first_mem key gs x (first_head fs gs key x n now.0)).0 v in
    apart_tests (sym u ∙ ap (λ (z : Kept). same_key key z.key) is ∙ head_key fs gs key x n now.0))
    (true_or_false (same_key key y.key))

-- the first waits now, and did not
pub eligible_more : (es fs : List (DocKey × List Kept)) (hs gs : List Kept) (key : DocKey) (q : List Kept) (x : Kept) → IsMerge es hs → IsMerge fs gs → Changes es fs key q
    → WaitsFirst q x → ((y : Kept) → WaitsFirst (queue_of es key) y → ⊥) → eligible gs ≡ insert_one x (eligible hs)
eligible_more es fs hs gs key q x m n c w none = same_rising (eligible gs) (insert_one x (eligible hs)) (eligible_rises gs n.rises)
    (rises_insert x (eligible hs) (eligible_rises hs m.rises) (fresh_one es fs hs gs key q x m n c w none))
    (λ z e. let h = mem_head fs gs z n e in insert_mem x z (eligible hs) (⊎_elim {C = (z ≡ x) ⊎ Mem z (eligible hs)}
    (λ t. let v = waits_now es fs key q z.key z c t h in inl (some_same z x (sym v.0 ∙ w.0)))
    (λ u. let v = waits_before es fs key q z.key z c u h in inr (head_mem es hs z.key z m v.0 v.1))
    (true_or_false (same_key key z.key))))
    (λ z e. ⊎_elim {C = Mem z (eligible gs)}
    (λ is. let v = waits_after es fs key q key x c (same_self key) w in subst (λ y. Mem y (eligible gs)) (sym is) (head_mem fs gs key x n v.0 v.1))
    (λ l. let h = mem_head es hs z m l in ⊎_elim {C = Mem z (eligible gs)}
    (λ t. absurd (none z (waits_along es key z.key z t h)))
    (λ u. let v = waits_still es fs key q z.key z c u h in head_mem fs gs z.key z n v.0 v.1)
    (true_or_false (same_key key z.key)))
    (mem_insert x z (eligible hs) e))

abbrev pub without_version : ℕ → List Kept → List Kept
without_version v hs = filter (λ (h : Kept). not (h.version == v)) hs

-- the first waited, and does not wait now
pub eligible_less : (es fs : List (DocKey × List Kept)) (hs gs : List Kept) (key : DocKey) (q : List Kept) (x : Kept) → IsMerge es hs → IsMerge fs gs → Changes es fs key q
    → WaitsFirst (queue_of es key) x → ((y : Kept) → WaitsFirst q y → ⊥) → eligible gs ≡ without_version x.version (eligible hs)
eligible_less es fs hs gs key q x m n c w none = same_rising (eligible gs) (without_version x.version (eligible hs)) (eligible_rises gs n.rises)
    (rises_filter (λ (h : Kept). not (h.version == x.version)) (eligible hs) (eligible_rises hs m.rises))
    (λ z e. let h = mem_head fs gs z n e in ⊎_elim {C = Mem z (without_version x.version (eligible hs))}
    (λ t. absurd (none z (waits_now es fs key q z.key z c t h)))
    (λ u. let v = waits_before es fs key q z.key z c u h in
    let l = head_mem es hs z.key z m v.0 v.1 in
    filter-Mem (λ (h : Kept). not (h.version == x.version)) z (eligible hs) l (other z u l))
    (true_or_false (same_key key z.key)))
    (λ z e. let l = Mem-filter (λ (h : Kept). not (h.version == x.version)) z (eligible hs) e in
    let h = mem_head es hs z m l.0 in ⊎_elim {C = Mem z (eligible gs)}
    (λ t. let is = some_same z x (sym (waits_along es key z.key z t h).0 ∙ w.0) in absurd (apart_tests (sym (ap not (equal_test z.version x.version (ap (λ (y : Kept). y.version) is))) ∙ l.1)))
    (λ u. let v = waits_still es fs key q z.key z c u h in head_mem fs gs z.key z n v.0 v.1)
    (true_or_false (same_key key z.key)))
  where
    other : (z : Kept) → same_key key z.key ≡ false → Mem z (eligible hs) → not (z.version == x.version) ≡ true
    other z u l = ⊎_elim {C = not (z.version == x.version) ≡ true}
        (λ t. let is = one_version (eligible hs) z x (eligible_rises hs m.rises) l (head_mem es hs key x m w.0 w.1) (equal z.version x.version t) in
        absurd (apart_tests (sym u ∙ ap (λ (y : Kept). same_key key y.key) is ∙ head_key es hs key x m w.0)))
        (λ f. ap not f)
        (true_or_false (z.version == x.version))

-- ---- their entries

map_insert : (ss : List (DocKey × ℕ)) (x : Kept) (ys : List Kept) → map (entry_of ss) (insert_one x ys) ≡ insert (entry_of ss x) (map (entry_of ss) ys)
map_insert ss x [] = refl
map_insert ss x (y ∷ ys) = ⊎_elim {C = map (entry_of ss) (insert_one x (y ∷ ys)) ≡ insert (entry_of ss x) (map (entry_of ss) (y ∷ ys))}
    (λ t. rw t refl)
    (λ f. rw f (ap (λ zs. entry_of ss y ∷ zs) (map_insert ss x ys)))
    (true_or_false (nat_lt x.version y.version))

map_without : (ss : List (DocKey × ℕ)) (v : ℕ) (ys : List Kept) → map (entry_of ss) (without_version v ys) ≡ without v (map (entry_of ss) ys)
map_without ss v [] = refl
map_without ss v (y ∷ ys) = ⊎_elim {C = map (entry_of ss) (without_version v (y ∷ ys)) ≡ without v (map (entry_of ss) (y ∷ ys))}
    (λ t. rw t (map_without ss v ys))
    (λ f. rw f (ap (λ zs. entry_of ss y ∷ zs) (map_without ss v ys)))
    (true_or_false (y.version == v))

map_due : (ss : List (DocKey × ℕ)) (clock : ℕ) (ys : List Kept) → filter (is_due clock) (map (entry_of ss) ys) ≡ map (entry_of ss) (filter (λ (h : Kept). nat_le h.due clock) ys)
map_due ss clock [] = refl
map_due ss clock (y ∷ ys) = ⊎_elim {C = filter (is_due clock) (map (entry_of ss) (y ∷ ys)) ≡ map (entry_of ss) (filter (λ (h : Kept). nat_le h.due clock) (y ∷ ys))}
    (λ t. rw t (ap (λ zs. entry_of ss y ∷ zs) (map_due ss clock ys)))
    (λ f. rw f (map_due ss clock ys))
    (true_or_false (nat_le y.due clock))

sooner_same : (due : ℕ) (o : Option ℕ) → sooner due o ≡ Rattle.relay_held.specs.Queues.sooner due o
sooner_same due None = refl
sooner_same due (Some n) = refl

map_first_due : (ss : List (DocKey × ℕ)) (ys : List Kept) → first_due (map (entry_of ss) ys) ≡ first_due_kept ys
map_first_due ss [] = refl
map_first_due ss (y ∷ ys) = ap (sooner y.due) (map_first_due ss ys) ∙ sooner_same y.due (first_due_kept ys)

map_same : (ss rs : List (DocKey × ℕ)) (ys : List Kept) → ((y : Kept) → Mem y ys → slot_of rs y.key ≡ slot_of ss y.key) → map (entry_of ss) ys ≡ map (entry_of rs) ys
map_same ss rs [] f = refl
map_same ss rs (y ∷ ys) f = λ i. entry_at (sym (f y (inl refl)) i) y ∷ map_same ss rs ys (λ z m. f z (inr m)) i

map_fresh : (ss : List (DocKey × ℕ)) (v : ℕ) (ys : List Kept) → ((y : Kept) → Mem y ys → y.version ≡ v → ⊥) → has_version v (map (entry_of ss) ys) ≡ false
map_fresh ss v ys f = ⊎_elim {C = has_version v (map (entry_of ss) ys) ≡ false}
    (λ t. let a = any_true (λ (e : Entry). e.version == v) (map (entry_of ss) ys) t in
    let y = Mem-map (entry_of ss) a.0 ys a.1 in
    absurd (f y.0 y.1 (ap (λ (e : Entry). e.version) (sym y.2) ∙ equal a.0.version v a.2)))
    (λ e. e)
    (true_or_false (has_version v (map (entry_of ss) ys)))

pub slice_map : {A B : Type 0} (f : A → B) (xs : List A) (n : ℕ) → slice_get (map f xs) n ≡ option_map f (slice_get xs n)
slice_map f [] n = refl
slice_map f (x ∷ xs) zero = refl
slice_map f (x ∷ xs) (suc n) = slice_map f xs n

-- ---- what is held, and the delay queue

-- an entry that joins is that of the first that waits now and did not; otherwise the first waits as before
abbrev pub Joins : Shelf → Shelf → DocKey → List Kept → Option Entry → Type 0
Joins v w key q o =
    ((o ≡ None) × ((x : Kept) → WaitsFirst q x → WaitsFirst (queue_of v.queues key) x) × ((x : Kept) → WaitsFirst (queue_of v.queues key) x → WaitsFirst q x))
    ⊎ ((x : Kept) × (o ≡ Some (entry_at (slot_of w.slots key) x)) × WaitsFirst q x × ((y : Kept) → WaitsFirst (queue_of v.queues key) y → ⊥))

pub record Joined (w : Shelf) (n : ℕ) (d : Delays) (o : Option Entry) : Type 0 where
  pub free : IfSome o (λ e. (length d.entries < d.room) × (has_version e.version d.entries ≡ false))
  pub held : IsHeld w n (record d { entries = with_entry o d.entries })

-- the entries, with the slots afterwards
entries_now : (v w : Shelf) (hs : List Kept) (es : List Entry) → IsMerge v.queues hs → KeepsSlots v w → es ≡ map (entry_of v.slots) (eligible hs)
    → ((y : Kept) → Mem y (eligible hs) → (h : Kept) × (slice_get (queue_of w.queues y.key) 0 ≡ Some h)) → es ≡ map (entry_of w.slots) (eligible hs)
entries_now v w hs es m slots e still = e ∙ map_same v.slots w.slots (eligible hs) (λ y l. let h = still y l in slots y.key y h.0 (mem_head v.queues hs y m l).0 h.1)

pub joined : (v w : Shelf) (n l : ℕ) (d : Delays) (key : DocKey) (q : List Kept) (o : Option Entry) → IsHeld v n d → IsHolding w.queues l → Changes v.queues w.queues key q → KeepsSlots v w
    → length (keys_of w.queues) ≤ d.room → Joins v w key q o → Joined w l d o
joined v w n l d key q o a b c slots room j = ⊎_elim {C = Joined w l d o} same more j
  where
    same : (o ≡ None) × ((x : Kept) → WaitsFirst q x → WaitsFirst (queue_of v.queues key) x) × ((x : Kept) → WaitsFirst (queue_of v.queues key) x → WaitsFirst q x) → Joined w l d o
    same s =
        let hs = merge_of v.queues in
        let gs = merge_of w.queues in
        let is = eligible_same v.queues w.queues hs gs key q a.holding.merge b.merge c s.1 s.2 in
        subst (Joined w l d) (sym s.0) (record {
          free = tt;
          held = record {
            holding = b;
            entries = entries_now v w hs d.entries a.holding.merge slots a.entries (λ y m. (y, (mem_head w.queues gs y b.merge (subst (Mem y) (sym is) m)).0)) ∙ ap (map (entry_of w.slots)) (sym is);
            room = room;
          };
        })

    more : (x : Kept) × (o ≡ Some (entry_at (slot_of w.slots key) x)) × WaitsFirst q x × ((y : Kept) → WaitsFirst (queue_of v.queues key) y → ⊥) → Joined w l d o
    more (x, s, waits, none) =
        let hs = merge_of v.queues in
        let gs = merge_of w.queues in
        let is = eligible_more v.queues w.queues hs gs key q x a.holding.merge b.merge c waits none in
        let now = waits_after v.queues w.queues key q key x c (same_self key) waits in
        let fresh = fresh_one v.queues w.queues hs gs key q x a.holding.merge b.merge c waits none in
        let at : slot_of w.slots key ≡ slot_of w.slots x.key = ap (λ o. unwrap_or o 0) (found_along w.slots key x.key (head_key w.queues gs key x b.merge now.0)) in
        let few = few_eligible w.queues gs b.merge in
        let long = ap length is ∙ length_insert x (eligible hs) in
        let count = ap length a.entries ∙ length-map (eligible hs) (entry_of v.slots) in
        let kept = entries_now v w hs d.entries a.holding.merge slots a.entries
        (λ y m. (y, (mem_head w.queues gs y b.merge (subst (Mem y) (sym is) (insert_mem x y (eligible hs) (inr m)))).0)) in
        subst (Joined w l d) (sym (s ∙ ap (λ n. Some (entry_at n x)) at)) (record {
          free = (omega (arith, few, long, count, room), ap (has_version x.version) a.entries ∙ map_fresh v.slots x.version (eligible hs) fresh);
          held = record {
            holding = b;
            entries = ap (insert (entry_of w.slots x)) kept ∙ sym (map_insert w.slots x (eligible hs)) ∙ ap (map (entry_of w.slots)) (sym is);
            room = room;
          };
        })

-- the first of a document is sent
pub left : (v w : Shelf) (n : ℕ) (d : Delays) (key : DocKey) (q : List Kept) (x : Kept) → IsHeld v n d → IsHolding w.queues n → Changes v.queues w.queues key q → w.slots ≡ v.slots
    → keys_of w.queues ≡ keys_of v.queues → WaitsFirst (queue_of v.queues key) x → ((y : Kept) → WaitsFirst q y → ⊥) → IsHeld w n (record d { entries = without x.version d.entries })
left v w n d key q x a b c slots keys waits none =
    let hs = merge_of v.queues in
    let is = eligible_less v.queues w.queues hs (merge_of w.queues) key q x a.holding.merge b.merge c waits none in
    record {
      holding = b;
      entries = ap (without x.version) a.entries ∙ sym (map_without v.slots x.version (eligible hs)) ∙ ap (map (entry_of v.slots)) (sym is) ∙ ap (λ ss. map (entry_of ss) (eligible (merge_of w.queues))) (sym slots);
      room = subst (λ ks. length ks ≤ d.room) (sym keys) a.room;
    }

-- ---- which are due

pub due_now : (v : Shelf) (n : ℕ) (d : Delays) → IsHeld v n d → due_entries d ≡ map (entry_of v.slots) (candidates_kept (merge_of v.queues) d.clock)
due_now v n d a =
    ap (filter (is_due d.clock)) a.entries ∙ map_due v.slots d.clock (eligible (merge_of v.queues)) ∙ ap (map (entry_of v.slots)) (sym (due_eligible (merge_of v.queues) d.clock))

pub due_place : (v : Shelf) (n : ℕ) (d : Delays) (at : ℕ) → IsHeld v n d → slice_get (due_entries d) at ≡ option_map (entry_of v.slots) (slice_get (candidates_kept (merge_of v.queues) d.clock) at)
due_place v n d at a = ap (λ es. slice_get es at) (due_now v n d a) ∙ slice_map (entry_of v.slots) (candidates_kept (merge_of v.queues) d.clock) at

pub record IsDueAt (v : Shelf) (d : Delays) (at : ℕ) (e : Entry) : Type 0 where
  pub one : Kept
  pub here : slice_get (candidates_kept (merge_of v.queues) d.clock) at ≡ Some one
  pub entry : e ≡ entry_of v.slots one
  pub waits : WaitsFirst (queue_of v.queues one.key) one

pub is_due_at : (v : Shelf) (n : ℕ) (d : Delays) (at : ℕ) (e : Entry) → IsHeld v n d → Some e ≡ slice_get (due_entries d) at → IsDueAt v d at e
is_due_at v n d at e a l = by (slice_get (candidates_kept (merge_of v.queues) d.clock) at) refl (l ∙ due_place v n d at a)
  where
    by : (o : Option Kept) → slice_get (candidates_kept (merge_of v.queues) d.clock) at ≡ o → Some e ≡ option_map (entry_of v.slots) o → IsDueAt v d at e
    by None is f = absurd (cc)
    by (Some h) is f = record {
      one = h;
      here = is;
      entry = some_same e (entry_of v.slots h) f;
      waits =
          let m = Mem-filter (λ (y : Kept). nat_le y.due d.clock) h (eligible (merge_of v.queues)) (subst (Mem h) (due_eligible (merge_of v.queues) d.clock) (at-Mem (candidates_kept (merge_of v.queues) d.clock) at h is)) in
          mem_head v.queues (merge_of v.queues) h a.holding.merge m.0;
    }

pub none_due : (v : Shelf) (n : ℕ) (d : Delays) (at : ℕ) → IsHeld v n d → None ≡ slice_get (due_entries d) at → slice_get (candidates_kept (merge_of v.queues) d.clock) at ≡ None
none_due v n d at a l = by (slice_get (candidates_kept (merge_of v.queues) d.clock) at) (l ∙ due_place v n d at a)
  where
    by : (o : Option Kept) → None ≡ option_map (entry_of v.slots) o → o ≡ None
    by None f = refl
    by (Some h) f = absurd (cc)

pub none_there : (cs : List Kept) → slice_get cs 0 ≡ None → 0 < length cs → ⊥
none_there [] e lt = omega (arith, lt)
none_there (c ∷ cs) e lt = none_some c (sym e)

pub due_is : (v : Shelf) (n : ℕ) (d : Delays) → IsHeld v n d → first_due d.entries ≡ first_due_kept (eligible (merge_of v.queues))
due_is v n d a = ap first_due a.entries ∙ map_first_due v.slots (eligible (merge_of v.queues))
