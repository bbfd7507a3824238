-- An item that is added keeps a batch a batch.
use Rattle.std.proofs.Common.{◌≡◌, ◌≢◌, ℕ, suc, ◌+◌, ◌<◌, ◌≤◌, List, [], ◌∷◌, ◌++◌, length, Option, Some, None, Bool, true, false, refl, sym, ◌∙◌, arith, length-append}
use Rattle.std.specs.Prelude.{min, ◌||◌, ◌&&◌, ◌==◌, nat_lt, nat_le, if◌then◌else◌}
use Rattle.std.proofs.lemmas.List.Elements.{All-push}
use Rattle.std.proofs.lemmas.List.Kept.{AllPairs-cons}
use Rattle.std.proofs.lemmas.List.Sums.{sum_by_push}
use Rattle.std.proofs.lemmas.Bool.{ltb-false, leb-false, lt-ltb, eqb-false}
use Rattle.relay_batch.specs.declared.item.BatchItem.{BatchItem}
use Rattle.relay_batch.specs.declared.offer.Offer.TheVariants.{Busy, Closed, Added}
use Rattle.relay_batch.specs.Batches.{HasDistinctDocuments, IsBatch, bytes_of, count_of}
use Rattle.relay_batch.specs.Gathering.{Gathering, answer_to, holds_document, passes_count, passes_bytes}

pub or_none : (a b : Bool) → (a || b) ≡ false → (a ≡ false) × (b ≡ false)
or_none true b e = absurd (cc)
or_none false b e = (refl, e)

push_apart : (xs : List BatchItem) (y : BatchItem) → HasDistinctDocuments xs → holds_document y.doc xs ≡ false → HasDistinctDocuments (xs ++ y ∷ [])
push_apart [] y h absent = λ i j d lt within. absurd (omega (arith, lt, within))
push_apart (x ∷ xs) y h absent =
    let n = or_none (x.doc == y.doc) (holds_document y.doc xs) absent in
    AllPairs-cons (λ (a b : BatchItem). a.doc ≢ b.doc) x (xs ++ y ∷ [])
    (All-push (λ (b : BatchItem). x.doc ≢ b.doc) xs y (λ j d within. h 0 (suc j) d (omega arith) (omega (arith, within))) (eqb-false x.doc y.doc n.0))
    (push_apart xs y (λ i j d lt within. h (suc i) (suc j) d (omega (arith, lt)) (omega (arith, within))) n.1)

-- what an offer that was Added says
was_added : (a b : Bool) → (if a then Busy else if b then Closed else Added) ≡ Added → (a ≡ false) × (b ≡ false)
was_added true b e = absurd (cc)
was_added false true e = absurd (cc)
was_added false false e = (refl, refl)

pub and_none : (a b : Bool) → (a && b) ≡ false → a ≡ true → b ≡ false
and_none true b e t = e
and_none false b e t = absurd (cc)

weighed_more : (g : Gathering) (i : BatchItem) → passes_bytes g i.bytes ≡ false → 1 < length (g.items ++ i ∷ []) → bytes_of (g.items ++ i ∷ []) ≤ g.limits.bytes
weighed_more g i fits more =
    let n = length-append g.items (i ∷ []) in
    let sum = sum_by_push (λ (x : BatchItem). x.bytes) g.items i in
    let some : nat_lt 0 (length g.items) ≡ true = lt-ltb 0 (length g.items) (omega (arith, n, more)) in
    let le = ltb-false _ _ (and_none (nat_lt 0 (length g.items)) (nat_lt g.limits.bytes (bytes_of g.items + i.bytes)) fits some) in
    omega (arith, le, sum)

-- one more item counts by its cap
pub count-more : (count : ℕ) (is : List BatchItem) (i : BatchItem) → count_of count (is ++ i ∷ []) ≡ min (count_of count is) i.cap
count-more count [] i = omega arith
count-more count (x ∷ is) i = let r = count-more count is i in omega (arith, r)

counted_more : (g : Gathering) (i : BatchItem) → passes_count g i.cap ≡ false → 1 < length (g.items ++ i ∷ []) → length (g.items ++ i ∷ []) ≤ count_of g.limits.count (g.items ++ i ∷ [])
counted_more g i few more =
    let n = length-append g.items (i ∷ []) in
    let c = count-more g.limits.count g.items i in
    let some : nat_lt 0 (length g.items) ≡ true = lt-ltb 0 (length g.items) (omega (arith, n, more)) in
    let lt = leb-false _ _ (and_none (nat_lt 0 (length g.items)) (nat_le (min (count_of g.limits.count g.items) i.cap) (length g.items)) few some) in
    omega (arith, n, c, lt)

some_same : {x y : ℕ} → Some x ≡ Some y → x ≡ y
some_same e = cc

pub batch_more : (g : Gathering) (i : BatchItem) → holds_document i.doc g.items ≡ false → passes_count g i.cap ≡ false → passes_bytes g i.bytes ≡ false → IsBatch g.limits g.items → IsBatch g.limits (g.items ++ i ∷ [])
batch_more g i absent few fits b = record {
  distinct = push_apart g.items i b.distinct absent;
  counted = counted_more g i few;
  weighed = weighed_more g i fits;
}

pub item_added : (g : Gathering) (i : BatchItem) → answer_to i g ≡ Added → IsBatch g.limits g.items → IsBatch g.limits (g.items ++ i ∷ [])
item_added g i e b =
    let a = was_added (holds_document i.doc g.items) (passes_count g i.cap || passes_bytes g i.bytes) e in
    let c = or_none (passes_count g i.cap) (passes_bytes g i.bytes) a.1 in
    batch_more g i a.0 c.0 c.1 b

-- what the bytes with one more say
pub fits_then : (p : Bool) (n total : ℕ) (found : Option ℕ) → found ≡ (if p then None else Some n) → found ≡ Some total → (p ≡ false) × (total ≡ n)
fits_then true n total found e f = let t = sym e ∙ f in absurd (cc)
fits_then false n total found e f = (refl, some_same (sym f ∙ e))
