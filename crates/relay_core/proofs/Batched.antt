-- What is gathered is within the limits of a batch and the caps of its items.
use Rattle.std.proofs.Common.{◌≡◌, ℕ, ◌+◌, ◌<◌, ◌≤◌, List, [], ◌∷◌, ◌++◌, length, refl, ap, subst, inl, inr, arith}
use Rattle.std.specs.Prelude.{map, Some}
use Rattle.std.proofs.lemmas.List.{length-map}
use Rattle.relay_batch.specs.declared.item.BatchItem.{BatchItem}
use Rattle.relay_batch.specs.declared.item.Limits.{Limits}
use Rattle.relay_batch.specs.declared.offer.Offer.{Offer}
use Rattle.relay_batch.specs.declared.offer.Offer.TheVariants.{Busy, Closed, Added}
use Rattle.relay_batch.specs.Batches.{IsBatch, count_of}
use Rattle.relay_batch.specs.Gathering.{Gathering, answer_to}
use Rattle.relay_batch.proofs.Added.{item_added}
use Rattle.relay_results.specs.Words.{Mem}
use Rattle.relay_results.proofs.Lists.{Mem-map}
use Rattle.relay_delivery.specs.Machine.{Held, KeepsCaps}
use Rattle.relay_delivery.specs.Lane.{Entry, candidates, held_of}
use Rattle.relay_held.specs.declared.kept.Kept.{Kept}
use Rattle.relay_core.specs.Rule.{by_answer, with_item, gathering_after, item_of}
use Rattle.relay_core.specs.Walk.{item_of_kept}
use Rattle.relay_core.specs.State.{State, gathering, next_batch, next_entries}
use Rattle.relay_flight.specs.declared.request.Request.{Request}
use Rattle.relay_core.specs.Memory.{AreFew}
use Rattle.relay_core.proofs.Quiet.{count_most}
use Rattle.relay_core.proofs.Launched.{AllCap}
use Rattle.relay_core.proofs.Forming.{items_of_operations, batch_offered}

-- ---- the limits

by_keep : (limits : Limits) (x : Offer) (busy closed added : Gathering) → IsBatch limits busy.items → IsBatch limits closed.items → (x ≡ Added → IsBatch limits added.items) → IsBatch limits (by_answer x busy closed added).items
by_keep limits Busy busy closed added b c a = b
by_keep limits Closed busy closed added b c a = c
by_keep limits Added busy closed added b c a = a refl

offered_keep : (is : List BatchItem) (g : Gathering) → IsBatch g.limits g.items → IsBatch g.limits (gathering_after is g).items
offered_keep [] g b = b
offered_keep (i ∷ is) g b =
    by_keep g.limits (answer_to i g) (gathering_after is g) g (gathering_after is (with_item i g)) (offered_keep is g b) b (λ e. offered_keep is (with_item i g) (item_added g i e b))

nothing_gathered : (limits : Limits) → IsBatch limits []
nothing_gathered limits = record { distinct = λ i j d lt within. absurd (omega (arith, within)); counted = λ more. absurd (omega (arith, more)); weighed = λ more. absurd (omega (arith, more)) }

pub batch_kept : (s : State) (items : List BatchItem) → next_batch s ≡ Some items → IsBatch s.config.limits items
batch_kept s items e = subst (IsBatch s.config.limits) (batch_offered s items e) (offered_keep (map item_of (candidates s.core)) (gathering s) (nothing_gathered s.config.limits))

-- ---- the caps

pub least_cap : (count : ℕ) (is : List BatchItem) (i : BatchItem) → Mem i is → count_of count is ≤ i.cap
least_cap count [] i m = absurd m
least_cap count (x ∷ is) i (inl e) = let c = ap (λ (y : BatchItem). y.cap) e in omega (arith, c)
least_cap count (x ∷ is) i (inr m) = let r = least_cap count is i m in omega (arith, r)

Mem-into : {A B : Type 0} (f : A → B) (x : A) (xs : List A) → Mem x xs → Mem (f x) (map f xs)
Mem-into f x [] m = absurd m
Mem-into f x (y ∷ xs) (inl e) = inl (ap f e)
Mem-into f x (y ∷ xs) (inr m) = inr (Mem-into f x xs m)

length-held : (es : List Entry) → length (held_of es) ≡ length es
length-held es = length-map es (λ (e : Entry). e.held)

-- the operations of the next request keep their caps
pub next_keeps : (s : State) (items : List BatchItem) → next_batch s ≡ Some items → KeepsCaps (held_of (next_entries s))
next_keeps s items e more h m =
    let b = subst (IsBatch s.config.limits) (items_of_operations s items e) (batch_kept s items e) in
    let n = length-held (next_entries s) in
    let k = length-map (next_entries s) item_of in
    let x = Mem-map (λ (y : Entry). y.held) h (next_entries s) m in
    let l = least_cap s.config.limits.count (map item_of (next_entries s)) (item_of x.0) (Mem-into item_of x.0 (next_entries s) x.1) in
    let c = b.counted (omega (arith, more, n, k)) in
    let same = ap (λ (y : Held). y.cap) x.2 in
    omega (arith, n, k, l, c, same)

cap_by : (count len : ℕ) (all ps : List Kept) → ((p : Kept) → Mem p ps → Mem p all) → (1 < len → len ≤ count_of count (map item_of_kept all)) → AllCap len ps
cap_by count len all [] among le = tt
cap_by count len all (p ∷ ps) among le = (
  (λ more. let l = least_cap count (map item_of_kept all) (item_of_kept p) (Mem-into item_of_kept p all (among p (inl refl))) in let c = le more in omega (arith, l, c)),
  cap_by count len all ps (λ q m. among q (inr m)) le,
)

-- so do those in memory, with a request of no more writes
pub all_cap : (limits : Limits) (ps : List Kept) (len : ℕ) → IsBatch limits (map item_of_kept ps) → len ≤ length (map item_of_kept ps) → AllCap len ps
all_cap limits ps len b le = cap_by limits.count len ps ps (λ p m. m) (λ more. let c = b.counted (omega (arith, more, le)) in omega (arith, c, le))

-- a batch is no longer than the count, or has one item
pub batch_few : (limits : Limits) (is : List BatchItem) → IsBatch limits is → length is ≤ limits.count + 1
batch_few limits [] b = omega arith
batch_few limits (i ∷ []) b = omega arith
batch_few limits (i ∷ j ∷ is) b = let c = b.counted (omega arith) in let m = count_most limits.count (i ∷ j ∷ is) in omega (arith, c, m)

pub few_more : (fs : List Request) (x : Request) → AreFew fs → length x.writes.items ≤ 4294967295 → AreFew (fs ++ x ∷ [])
few_more [] x f le = (le, tt)
few_more (y ∷ fs) x f le = (f.0, few_more fs x f.1 le)
