-- What a push to or a pop from a heap, or a heap and its line, does to the sorted operations.
use Rattle.std.proofs.Common.{◌≡◌, ℕ, ◌+◌, ◌<◌, ◌≤◌, List, [], ◌∷◌, ◌++◌, length, length-append, append_assoc, drop, Option, Some, None, false, refl, sym, ap, ◌∙◌, subst, arith}
use Rattle.std.specs.Prelude.{Result, Ok, Err, IsOk, OnOk, map, slice_get, slice_index_or, MatchOption, option_to_list}
use Rattle.std.specs.List.{IsDistinct}
use Rattle.std.specs.List.Sorted.{IsPermutation}
use Rattle.std.specs.BinaryHeap.{IsHeap, IsUpperBound}
use Rattle.std.proofs.lemmas.List.{append-nil}
use Rattle.std.proofs.lemmas.List.Sorted.{IsPermutation-map, IsPermutation-sym, IsPermutation-middle, IsPermutation-append_left}
use Rattle.std.proofs.lemmas.Map.Keys.{IsDistinct-tail, ge_from_not_lt}
use Rattle.relay_delay.specs.declared.entry.Entry.{Entry}
use Rattle.relay_delay.specs.declared.ready.ByVersion.{ByVersion}
use Rattle.relay_delay.specs.declared.later.ByDue.{ByDue}
use Rattle.relay_delay.specs.Waiting.{AllAbove, Rises, has_version, insert}
use Rattle.relay_delay.specs.Heaps.{Heap, sort, same_version, by_version, by_due, ready_items, later_items, IsReady, IsLater, AllUpTo, AllFrom, StartsUpTo, Leads}
use Rattle.relay_delay.proofs.Sorting.{above_insert, rises_insert, distinct_cons, distinct_head, distinct_moved, sorted_moved, sorted_fresh, insert_front, fresh_head, fresh_tail, strict, length_sorted}
use Rattle.relay_delay.proofs.Delaying.{insert_behind, none_here}

pub on_ok : {A E : Type 0} (r : Result A E) (P : Type 0) → IsOk r → OnOk r P → P
on_ok (Ok x) P is p = p
on_ok (Err e) P is p = absurd (cc)

push_distinct : (one : Entry) (xs ys : List Entry) → IsPermutation (one ∷ xs) ys → IsDistinct same_version xs → has_version one.version (sort xs) ≡ false → IsDistinct same_version ys
push_distinct one xs ys p d f = distinct_moved (one ∷ xs) ys p (distinct_cons one xs (sorted_fresh one.version xs f) d)

push_entries : (one : Entry) (xs ys : List Entry) → IsPermutation (one ∷ xs) ys → IsDistinct same_version xs → has_version one.version (sort xs) ≡ false → sort ys ≡ insert one (sort xs)
push_entries one xs ys p d f = sym (sorted_moved (one ∷ xs) ys p (distinct_cons one xs (sorted_fresh one.version xs f) d))

pop_distinct : (one : Entry) (xs ys : List Entry) → IsPermutation xs (one ∷ ys) → IsDistinct same_version xs → IsDistinct same_version ys
pop_distinct one xs ys p d = IsDistinct-tail same_version one ys (distinct_moved xs (one ∷ ys) p d)

pop_entries : (one : Entry) (xs ys : List Entry) → IsPermutation xs (one ∷ ys) → IsDistinct same_version xs → sort xs ≡ insert one (sort ys)
pop_entries one xs ys p d = sorted_moved xs (one ∷ ys) p d

-- ---- those that are due

above_sorted : (v : ℕ) (es : List Entry) → AllAbove v es → AllAbove v (sort es)
above_sorted v [] a = tt
above_sorted v (e ∷ es) a = above_insert v e (sort es) a.0 (above_sorted v es a.1)

strictly : (x : Entry) (es : List Entry) → AllFrom x.version es → has_version x.version es ≡ false → AllAbove x.version es
strictly x [] a f = tt
strictly x (e ∷ es) a f = (strict x.version e.version a.0 (λ q. fresh_head x.version e es f (sym q)), strictly x es a.1 (fresh_tail x.version e es f))

-- one that is no higher than any other is the first
pop_first : (one : Entry) (xs ys : List Entry) → IsPermutation xs (one ∷ ys) → IsDistinct same_version xs → AllFrom one.version ys → sort xs ≡ one ∷ sort ys
pop_first one xs ys p d a =
    let f = distinct_head one ys (distinct_moved xs (one ∷ ys) p d) in
    pop_entries one xs ys p d ∙ insert_front one (sort ys) (above_sorted one.version ys (strictly one ys a f))

from_more : (v w : ℕ) (es : List Entry) → v ≤ w → AllFrom w es → AllFrom v es
from_more v w [] le a = tt
from_more v w (e ∷ es) le a = (let l = a.0 in omega (arith, le, l), from_more v w es le a.1)

from_above : (v : ℕ) (es : List Entry) → AllAbove v es → AllFrom v es
from_above v [] a = tt
from_above v (e ∷ es) a = (let l = a.0 in omega (arith, l), from_above v es a.1)

from_both : (v : ℕ) (xs ys : List Entry) → AllFrom v xs → AllFrom v ys → AllFrom v (xs ++ ys)
from_both v [] ys a b = b
from_both v (x ∷ xs) ys a b = (a.0, from_both v xs ys a.1 b)

from_top : (top : ByVersion) (bs : List ByVersion) → IsUpperBound by_version top bs → AllFrom top.0.version (ready_items bs)
from_top top [] u = tt
from_top top (b ∷ bs) u = (ge_from_not_lt b.0.version top.0.version u.0, from_top top bs u.1)

fresh_behind : (v : ℕ) (xs ys : List Entry) → has_version v (xs ++ ys) ≡ false → has_version v ys ≡ false
fresh_behind v [] ys f = f
fresh_behind v (x ∷ xs) ys f = fresh_behind v xs ys (fresh_tail v x (xs ++ ys) f)

-- ---- one more in the heap

heap_more : (one : ByVersion) (xs ys : List ByVersion) (line : List Entry) → IsPermutation (one ∷ xs) ys → IsPermutation (one.0 ∷ (ready_items xs ++ line)) (ready_items ys ++ line)
heap_more one xs ys line p = IsPermutation-append_left line (ready_items (one ∷ xs)) (ready_items ys) (IsPermutation-map (λ (b : ByVersion). b.0) (one ∷ xs) ys p)

pub heap_pushed : (one : ByVersion) (xs ys : List ByVersion) (line : List Entry) → IsPermutation (one ∷ xs) ys → IsHeap by_version ys → IsReady xs line
    → has_version one.0.version (sort (ready_items xs ++ line)) ≡ false → IsReady ys line
heap_pushed one xs ys line p h r f = record { order = h; rises = r.rises; distinct = push_distinct one.0 (ready_items xs ++ line) (ready_items ys ++ line) (heap_more one xs ys line p) r.distinct f }

pub heap_push_entries : (one : ByVersion) (xs ys : List ByVersion) (line : List Entry) → IsPermutation (one ∷ xs) ys → IsReady xs line
    → has_version one.0.version (sort (ready_items xs ++ line)) ≡ false → sort (ready_items ys ++ line) ≡ insert one.0 (sort (ready_items xs ++ line))
heap_push_entries one xs ys line p r f = push_entries one.0 (ready_items xs ++ line) (ready_items ys ++ line) (heap_more one xs ys line p) r.distinct f

-- ---- one more at the end of the line

line_more : (one : Entry) (es line : List Entry) → IsPermutation (one ∷ (es ++ line)) (es ++ (line ++ one ∷ []))
line_more one es line =
    subst (λ zs. IsPermutation (one ∷ zs) (es ++ (line ++ one ∷ []))) (append-nil (es ++ line))
    (subst (λ zs. IsPermutation (one ∷ ((es ++ line) ++ [])) zs) (append_assoc es line (one ∷ []))
    (IsPermutation-sym ((es ++ line) ++ one ∷ []) (one ∷ ((es ++ line) ++ [])) (IsPermutation-middle (es ++ line) one [])))

pub line_pushed : (one : Entry) (bs : List ByVersion) (line next : List Entry) → IsReady bs line → AllUpTo one.version line
    → has_version one.version (sort (ready_items bs ++ line)) ≡ false → next ≡ line ++ one ∷ [] → IsReady bs next
line_pushed one bs line next r a f is =
    let g = fresh_behind one.version (ready_items bs) line (sorted_fresh one.version (ready_items bs ++ line) f) in
    subst (IsReady bs) (sym is) (record {
      order = r.order;
      rises = subst Rises (sym (insert_behind one line [] a ∙ ap (insert one) (append-nil line))) (rises_insert one line g r.rises);
      distinct = push_distinct one (ready_items bs ++ line) (ready_items bs ++ (line ++ one ∷ [])) (line_more one (ready_items bs) line) r.distinct f;
    })

pub line_push_entries : (one : Entry) (bs : List ByVersion) (line : List Entry) → IsReady bs line
    → has_version one.version (sort (ready_items bs ++ line)) ≡ false → sort (ready_items bs ++ (line ++ one ∷ [])) ≡ insert one (sort (ready_items bs ++ line))
line_push_entries one bs line r f = push_entries one (ready_items bs ++ line) (ready_items bs ++ (line ++ one ∷ [])) (line_more one (ready_items bs) line) r.distinct f

-- ---- which of both has the first

pub top_leads : (top : ByVersion) (bs : List ByVersion) (line : List Entry) → 0 < length bs → top ≡ slice_index_or bs 0 top → AllAbove top.0.version line → Leads (ready_items bs) line
top_leads top [] line lt e a = absurd (omega (arith, lt))
top_leads top (b ∷ bs) line lt e a = subst (λ (t : ByVersion). AllFrom t.0.version line) e (from_above top.0.version line a)

pub line_leads : (top : ByVersion) (bs : List ByVersion) (line : List Entry) → StartsUpTo top.0.version line → IsUpperBound by_version top bs → Leads line (ready_items bs)
line_leads top bs [] s u = absurd s
line_leads top bs (x ∷ xs) s u = from_more x.version top.0.version (ready_items bs) s (from_top top bs u)

pub line_alone : (bs : List ByVersion) (line : List Entry) → bs ≡ [] → Leads line (ready_items bs)
line_alone bs [] e = ap ready_items e
line_alone bs (x ∷ xs) e = subst (λ cs. AllFrom x.version (ready_items cs)) (sym e) tt

-- ---- the top of the heap

heap_less : (one : ByVersion) (xs ys : List ByVersion) (line : List Entry) → IsPermutation xs (one ∷ ys) → IsPermutation (ready_items xs ++ line) (one.0 ∷ (ready_items ys ++ line))
heap_less one xs ys line p = IsPermutation-append_left line (ready_items xs) (ready_items (one ∷ ys)) (IsPermutation-map (λ (b : ByVersion). b.0) xs (one ∷ ys) p)

pub heap_popped : (one : ByVersion) (xs ys : List ByVersion) (line : List Entry) → IsPermutation xs (one ∷ ys) → IsHeap by_version ys → IsReady xs line → IsReady ys line
heap_popped one xs ys line p h r = record { order = h; rises = r.rises; distinct = pop_distinct one.0 (ready_items xs ++ line) (ready_items ys ++ line) (heap_less one xs ys line p) r.distinct }

under_top : (one : ByVersion) (xs : List ByVersion) (line : List Entry) → one ≡ slice_index_or xs 0 one → Leads (ready_items xs) line → AllFrom one.0.version line
under_top one [] line e l = subst (AllFrom one.0.version) (sym l) tt
under_top one (x ∷ xs) line e l = subst (λ (t : ByVersion). AllFrom t.0.version line) (sym e) l

pub heap_pop_entries : (one : ByVersion) (xs ys : List ByVersion) (line : List Entry) → IsPermutation xs (one ∷ ys) → IsReady xs line → IsUpperBound by_version one ys
    → one ≡ slice_index_or xs 0 one → Leads (ready_items xs) line → sort (ready_items xs ++ line) ≡ one.0 ∷ sort (ready_items ys ++ line)
heap_pop_entries one xs ys line p r u e l =
    pop_first one.0 (ready_items xs ++ line) (ready_items ys ++ line) (heap_less one xs ys line p) r.distinct
    (from_both one.0.version (ready_items ys) line (from_top one ys u) (under_top one xs line e l))

-- ---- the first in the line

pub line_popped : (bs : List ByVersion) (line : List Entry) → IsReady bs line → IsReady bs (drop 1 line)
line_popped bs [] r = r
line_popped bs (x ∷ xs) r = record { order = r.order; rises = r.rises.1; distinct = pop_distinct x (ready_items bs ++ x ∷ xs) (ready_items bs ++ xs) (IsPermutation-middle (ready_items bs) x xs) r.distinct }

pub record FromLine (bs : List ByVersion) (line : List Entry) : Type 0 where
  pub first : slice_get line 0 ≡ slice_get (sort (ready_items bs ++ line)) 0
  pub rest : sort (ready_items bs ++ drop 1 line) ≡ drop 1 (sort (ready_items bs ++ line))

pub line_pop_entries : (bs : List ByVersion) (line : List Entry) → IsReady bs line → Leads line (ready_items bs) → FromLine bs line
line_pop_entries bs [] r l =
    let e : sort (ready_items bs ++ []) ≡ [] = ap (λ es. sort (es ++ [])) l in
    record { first = sym (ap (λ es. slice_get es 0) e); rest = e ∙ sym (ap (drop 1) e) }
line_pop_entries bs (x ∷ xs) r l =
    let e = pop_first x (ready_items bs ++ x ∷ xs) (ready_items bs ++ xs) (IsPermutation-middle (ready_items bs) x xs) r.distinct (from_both x.version (ready_items bs) xs l (from_above x.version xs r.rises.0)) in
    record { first = sym (ap (λ es. slice_get es 0) e); rest = sym (ap (drop 1) e) }

pub popped_is : (o : Option Entry) (line rest : List Entry) (n m : ℕ) → n ≡ length line → line ≡ option_to_list o ++ rest → MatchOption o ((n ≡ 0) × (m ≡ 0)) (λ _. m + 1 ≡ n) → o ≡ slice_get line 0
popped_is None line rest n m is e c = sym (ap (λ es. slice_get es 0) (none_here line n is c.0))
popped_is (Some x) line rest n m is e c = sym (ap (λ es. slice_get es 0) e)

-- ---- those that are not

pub later_pushed : (one : ByDue) (xs ys : List ByDue) → IsPermutation (one ∷ xs) ys → IsHeap by_due ys → IsLater xs → has_version one.0.version (sort (later_items xs)) ≡ false → IsLater ys
later_pushed one xs ys p h r f = record { order = h; distinct = push_distinct one.0 (later_items xs) (later_items ys) (IsPermutation-map (λ (b : ByDue). b.0) (one ∷ xs) ys p) r.distinct f }

pub later_push_entries : (one : ByDue) (xs ys : List ByDue) → IsPermutation (one ∷ xs) ys → IsLater xs → has_version one.0.version (sort (later_items xs)) ≡ false → sort (later_items ys) ≡ insert one.0 (sort (later_items xs))
later_push_entries one xs ys p r f = push_entries one.0 (later_items xs) (later_items ys) (IsPermutation-map (λ (b : ByDue). b.0) (one ∷ xs) ys p) r.distinct f

pub later_popped : (one : ByDue) (xs ys : List ByDue) → IsPermutation xs (one ∷ ys) → IsHeap by_due ys → IsLater xs → IsLater ys
later_popped one xs ys p h r = record { order = h; distinct = pop_distinct one.0 (later_items xs) (later_items ys) (IsPermutation-map (λ (b : ByDue). b.0) xs (one ∷ ys) p) r.distinct }

pub later_pop_entries : (one : ByDue) (xs ys : List ByDue) → IsPermutation xs (one ∷ ys) → IsLater xs → sort (later_items xs) ≡ insert one.0 (sort (later_items ys))
later_pop_entries one xs ys p r = pop_entries one.0 (later_items xs) (later_items ys) (IsPermutation-map (λ (b : ByDue). b.0) xs (one ∷ ys) p) r.distinct

-- ---- none

no_two : IsDistinct same_version []
unfolding IsDistinct
no_two = tt

distinct_none : (es : List Entry) → es ≡ [] → IsDistinct same_version es
distinct_none es e = subst (IsDistinct same_version) (sym e) no_two

pub ready_none : (bs : List ByVersion) (line : List Entry) → bs ≡ [] → line ≡ [] → IsHeap by_version bs → IsReady bs line
ready_none bs line e l h = record {
  order = h;
  rises = subst Rises (sym l) tt;
  distinct = distinct_none (ready_items bs ++ line) (ap (λ cs. ready_items cs ++ line) e ∙ l);
}

pub later_none : (xs : List ByDue) → xs ≡ [] → IsHeap by_due xs → IsLater xs
later_none xs e h = record { order = h; distinct = distinct_none (later_items xs) (ap later_items e) }

-- ---- lengths

items_length : {A : Type 0} (f : A → Entry) (xs : List A) → length (map f xs) ≡ length xs
items_length f [] = refl
items_length f (x ∷ xs) = let ih = items_length f xs in omega (arith, ih)

pub ready_length : (bs : List ByVersion) (line : List Entry) → length (sort (ready_items bs ++ line)) ≡ length bs + length line
ready_length bs line =
    let s = length_sorted (ready_items bs ++ line) in
    let a = length-append (ready_items bs) line in
    let i = items_length (λ (b : ByVersion). b.0) bs in
    omega (arith, s, a, i)

pub later_length : (xs : List ByDue) → length (sort (later_items xs)) ≡ length xs
later_length xs = length_sorted (later_items xs) ∙ items_length (λ (b : ByDue). b.0) xs

-- what a heap shows has none of the version, so what it holds has none
pub none_has : (v : ℕ) {g h : Heap} → g ≡ h → has_version v h.entries ≡ false → has_version v g.entries ≡ false
none_has v e f = ap (λ (k : Heap). has_version v k.entries) e ∙ f
