-- What is counted of a batch answers as the batch does.
use Rattle.std.proofs.Common.{◌≡◌, ℕ, ◌+◌, List, [], ◌∷◌, ◌++◌, length, length-append, Option, Some, None, Bool, true, false, arith, refl, sym, ap, ◌∙◌}
use Rattle.std.specs.Prelude.{Ok, ◌&&◌, nat_lt, slice_get, if◌then◌else◌}
use Rattle.std.proofs.lemmas.Bool.{lt-ltb}
use Rattle.std.proofs.lemmas.List.Sums.{sum_by_push}
use Rattle.relay_batch.specs.declared.item.BatchItem.{BatchItem}
use Rattle.relay_batch.specs.declared.offer.Offer.{Offer}
use Rattle.relay_batch.specs.declared.offer.Offer.TheVariants.{Busy, Closed, Added}
use Rattle.relay_batch.specs.declared.tally.Tally.{Tally}
use Rattle.relay_batch.specs.Batches.{bytes_of}
use Rattle.relay_batch.specs.Gathering.{Gathering, answer_to, after_offer, holds_document, is_ready}
use Rattle.relay_batch.specs.Tallies.{tally_of, is_closed_to, tally_answer, after_tally, with_tallied, first_or, is_tally_ready, is_ready_since}
use Rattle.relay_batch.proofs.Added.{count-more}

first_more : (is : List BatchItem) (item : BatchItem) → slice_get (is ++ item ∷ []) 0 ≡ Some (first_or item (slice_get is 0))
first_more [] item = refl
first_more (i ∷ is) item = refl

bytes_more : (is : List BatchItem) (item : BatchItem) → bytes_of (is ++ item ∷ []) ≡ (if nat_lt 0 (length is) then bytes_of is + item.bytes else item.bytes)
bytes_more [] item = omega arith
bytes_more (i ∷ is) item = rw (lt-ltb 0 (length (i ∷ is)) (omega arith)) (sum_by_push (λ (x : BatchItem). x.bytes) (i ∷ is) item)

-- one more item in the batch is one more that is counted
pub tally_more : (g : Gathering) (item : BatchItem) → tally_of (record g { items = g.items ++ item ∷ [] }) ≡ with_tallied item (tally_of g)
tally_more g item = λ i. record {
  limits = g.limits;
  count = length-append g.items (item ∷ []) i;
  bytes = bytes_more g.items item i;
  most = count-more g.limits.count g.items item i;
  first = first_more g.items item i;
}

pub ready_of_tally : (now : ℕ) (g : Gathering) → is_tally_ready now (tally_of g) ≡ is_ready now g
ready_of_tally now g = by g.items
  where
    by : (is : List BatchItem) → is_tally_ready now (tally_of (record { limits = g.limits; items = is })) ≡ is_ready now (record { limits = g.limits; items = is })
    by [] = refl
    by (i ∷ is) = sym (ap (λ b. b && is_ready_since now (tally_of (record { limits = g.limits; items = i ∷ is })) (Some i)) (lt-ltb 0 (length (i ∷ is)) (omega arith)))

-- of a document that the batch does not have
answer_by : (held closed : Bool) → held ≡ false → (if closed then Closed else Added) ≡ (if held then Busy else if closed then Closed else Added)
answer_by true closed e = absurd (cc)
answer_by false closed e = refl

after_by : (g : Gathering) (item : BatchItem) (closed : Bool)
    → (if closed then tally_of g else with_tallied item (tally_of g)) ≡ tally_of (after_offer {E = Unit {0}} item g (Ok (if closed then Closed else Added)))
after_by g item true = refl
after_by g item false = sym (tally_more g item)

pub offered : (item : BatchItem) (old new : Tally) (o : Offer) → o ≡ tally_answer item old → new ≡ after_tally item old → (g : Gathering) → old ≡ tally_of g → holds_document item.doc g.items ≡ false
    → (o ≡ answer_to item g) × (new ≡ tally_of (after_offer {E = Unit {0}} item g (Ok o)))
offered item old new o answer after g is absent =
    let closed = is_closed_to item (tally_of g) in
    let same = answer ∙ ap (tally_answer item) is in (
      same ∙ answer_by (holds_document item.doc g.items) closed absent,
      after ∙ ap (after_tally item) is ∙ after_by g item closed ∙ ap (λ p. tally_of (after_offer {E = Unit {0}} item g (Ok p))) (sym same),
    )

-- what the bytes with one more say
pub closed_then : (b : Bool) (n : ℕ) (found : Option ℕ) → found ≡ (if b then None else Some n) → found ≡ None → b ≡ true
closed_then true n found e f = refl
closed_then false n found e f = let t = sym e ∙ f in absurd (cc)
