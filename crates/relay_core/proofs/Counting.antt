-- A batch that is counted without its items is due exactly if the batch of them is.
use Rattle.std.proofs.Common.{◌≡◌, ℕ, List, [], ◌∷◌, Bool, true, false, ◌||◌, refl, sym, ap, subst, ◌∙◌, ⊎_elim}
use Rattle.std.specs.Prelude.{Ok, if◌then◌else◌, map, is_some}
use Rattle.relay_results.proofs.Lists.{true_or_false}
use Rattle.relay_batch.specs.declared.item.BatchItem.{BatchItem}
use Rattle.relay_batch.specs.declared.item.Limits.{Limits}
use Rattle.relay_batch.specs.declared.tally.Tally.{Tally}
use Rattle.relay_batch.specs.declared.offer.Offer.{Offer}
use Rattle.relay_batch.specs.declared.offer.Offer.TheVariants.{Busy, Closed, Added}
use Rattle.relay_batch.specs.Gathering.{Gathering, answer_to, after_offer, passes_count, passes_bytes}
use Rattle.relay_batch.specs.Tallies.{tally_of, is_closed_to, tally_answer, after_tally, with_tallied}
use Rattle.relay_batch.proofs.Tallying.{tally_more}
use Rattle.relay_held.specs.declared.kept.Kept.{Kept}
use Rattle.relay_held.specs.Queues.{Rises}
use Rattle.relay_core.specs.Counting.{counted_after, closes_count}
use Rattle.relay_core.specs.Rule.{by_answer, with_item, gathering_after, closes, goes, batch_if, batch_of}
use Rattle.relay_core.specs.Walk.{item_of_kept}
use Rattle.relay_core.proofs.Going.{DocsBelow, BelowFirst, docs_free, below_next, answered_open, offer_closed, offer_on}

-- ---- one offer after another

pub count_closed : (i : BatchItem) (is : List BatchItem) (t u : Tally) (o : Offer) → o ≡ tally_answer i t → o ≡ Closed → u ≡ after_tally i t
    → (counted_after (i ∷ is) t ≡ u) × (closes_count (i ∷ is) t ≡ true)
count_closed i is t u o answer shut after = ⊎_elim {C = (counted_after (i ∷ is) t ≡ u) × (closes_count (i ∷ is) t ≡ true)}
    (λ b. (
      ap (λ x. if x then t else counted_after is (with_tallied i t)) b ∙ sym (after ∙ ap (λ x. if x then t else with_tallied i t) b),
      ap (λ x. if x then true else closes_count is (with_tallied i t)) b,
    ))
    (λ b. let e : Added ≡ Closed = sym (answer ∙ ap (λ x. if x then Closed else Added) b) ∙ shut in absurd (cc))
    (true_or_false (is_closed_to i t))

pub count_on : (i : BatchItem) (is : List BatchItem) (t u : Tally) (o : Offer) → o ≡ tally_answer i t → (o ≡ Closed → ⊥) → u ≡ after_tally i t
    → (counted_after (i ∷ is) t ≡ counted_after is u) × (closes_count (i ∷ is) t ≡ closes_count is u)
count_on i is t u o answer on after = ⊎_elim {C = (counted_after (i ∷ is) t ≡ counted_after is u) × (closes_count (i ∷ is) t ≡ closes_count is u)}
    (λ b. absurd (on (answer ∙ ap (λ x. if x then Closed else Added) b)))
    (λ b. let added = sym (after ∙ ap (λ x. if x then t else with_tallied i t) b) in (
      ap (λ x. if x then t else counted_after is (with_tallied i t)) b ∙ ap (counted_after is) added,
      ap (λ x. if x then true else closes_count is (with_tallied i t)) b ∙ ap (closes_count is) added,
    ))
    (true_or_false (is_closed_to i t))

-- ---- what is counted is what would be gathered: no offer is Busy, since versions number the documents and increase

pub counted_seen : (cs : List Kept) (g : Gathering) → Rises cs → BelowFirst cs g.items
    → (counted_after (map item_of_kept cs) (tally_of g) ≡ tally_of (gathering_after (map item_of_kept cs) g)) × (closes_count (map item_of_kept cs) (tally_of g) ≡ closes (map item_of_kept cs) g)
counted_seen [] g r b = (refl, refl)
counted_seen (c ∷ cs) g r b =
    let i = item_of_kept c in
    let is = map item_of_kept cs in
    let shut = passes_count g i.cap || passes_bytes g i.bytes in
    let absent = ap (λ x. if x then Busy else if shut then Closed else Added) (docs_free c.version g.items b) in
    ⊎_elim {C = (counted_after (i ∷ is) (tally_of g) ≡ tally_of (gathering_after (i ∷ is) g)) × (closes_count (i ∷ is) (tally_of g) ≡ closes (i ∷ is) g)}
    (λ t. let closed = offer_closed i is g (absent ∙ ap (λ x. if x then Closed else Added) t) in (
      ap (λ x. if x then tally_of g else counted_after is (with_tallied i (tally_of g))) t ∙ ap tally_of (sym closed.0),
      ap (λ x. if x then true else closes_count is (with_tallied i (tally_of g))) t ∙ sym closed.1,
    ))
    (λ f. let e : answer_to i g ≡ Added = absent ∙ ap (λ x. if x then Closed else Added) f in
    let rest = counted_seen cs (with_item i g) r.1 (below_next c cs g.items r.0 b) in (
      ap (λ x. if x then tally_of g else counted_after is (with_tallied i (tally_of g))) f ∙ ap (counted_after is) (sym (tally_more g i)) ∙ rest.0
          ∙ ap tally_of (sym (ap (λ o. by_answer o (gathering_after is g) g (gathering_after is (with_item i g))) e)),
      ap (λ x. if x then true else closes_count is (with_tallied i (tally_of g))) f ∙ ap (closes_count is) (sym (tally_more g i)) ∙ rest.1
          ∙ sym (ap (λ o. by_answer o (closes is g) true (closes is (with_item i g))) e),
    ))
    (true_or_false shut)

-- one is added, and the rest is counted
pub counted_on : (one : Kept) (rest : List Kept) (g : Gathering) (t u : Tally) (closed : Bool) → Rises (one ∷ rest) → DocsBelow one.version g.items → answer_to (item_of_kept one) g ≡ Added
    → t ≡ tally_of (with_item (item_of_kept one) g) → u ≡ counted_after (map item_of_kept rest) t → closed ≡ closes_count (map item_of_kept rest) t
    → (u ≡ tally_of (gathering_after (map item_of_kept (one ∷ rest)) g)) × (closed ≡ closes (map item_of_kept (one ∷ rest)) g)
counted_on one rest g t u closed r b answer start tally shut =
    let i = item_of_kept one in
    let is = map item_of_kept rest in
    let seen = counted_seen rest (with_item i g) r.1 (below_next one rest g.items r.0 b) in
    let on = offer_on i is g (with_item i g) Added (sym answer) (λ e. cc) refl in
    (tally ∙ ap (counted_after is) start ∙ seen.0 ∙ ap tally_of (sym on.0), shut ∙ ap (closes_count is) start ∙ seen.1 ∙ sym on.1)

-- the documents of a batch are below those of the candidates that are left
pub below_on : (one : Kept) (rest : List Kept) (g h : Gathering) (o : Offer) → Rises (one ∷ rest) → DocsBelow one.version g.items → o ≡ answer_to (item_of_kept one) g → (o ≡ Closed → ⊥)
    → h ≡ after_offer {E = Unit {0}} (item_of_kept one) g (Ok o) → BelowFirst rest h.items
below_on one rest g h o r b answer on after = ⊎_elim {C = BelowFirst rest h.items}
    (λ e. absurd (on (answer ∙ e)))
    (λ e. subst (λ (x : Gathering). BelowFirst rest x.items) (sym (after ∙ ap (λ p. after_offer {E = Unit {0}} (item_of_kept one) g (Ok p)) (answer ∙ e))) (below_next one rest g.items r.0 b))
    (answered_open (item_of_kept one) g (docs_free one.version g.items b))

-- ---- whether it goes

some_if : (b : Bool) (items : List BatchItem) → b ≡ is_some (batch_if b items)
some_if true items = refl
some_if false items = refl

-- a batch is sent exactly if it goes
pub goes_some : (clock mark : ℕ) (all_closed : Bool) (limits : Limits) (is : List BatchItem)
    → goes clock mark all_closed (gathering_after is (record { limits = limits; items = [] })) (closes is (record { limits = limits; items = [] })) ≡ is_some (batch_of clock mark all_closed limits is)
goes_some clock mark all_closed limits is = some_if _ _
