-- The batch is the first of the candidates.
use Rattle.std.proofs.Common.{◌≡◌, ℕ, zero, suc, ◌+◌, ◌<◌, ◌≤◌, List, [], ◌∷◌, length, Option, Some, None, Bool, true, false, refl, sym, ap, ◌∙◌, ⊎_elim, arith, take, drop}
use Rattle.std.specs.Prelude.{map, is_some, nat_lt, if◌then◌else◌}
use Rattle.std.proofs.lemmas.Bool.{lt-ltb}
use Rattle.std.proofs.lemmas.List.{length-map}
use Rattle.relay_action.specs.declared.write.Write.{Write}
use Rattle.relay_batch.specs.declared.item.BatchItem.{BatchItem}
use Rattle.relay_held.specs.declared.kept.Kept.{Kept}
use Rattle.relay_held.specs.Queues.{Rises, candidates_kept, is_candidate_kept}
use Rattle.relay_held.proofs.Merging.{rises_filter}
use Rattle.relay_batch.specs.declared.item.Room.{Room}
use Rattle.relay_delivery.specs.Lane.{candidates}
use Rattle.relay_core.specs.Rule.{gathering_after, item_of, batch_of}
use Rattle.relay_core.specs.Quiet.{is_roomy, IsQuiet}
use Rattle.relay_core.proofs.Quiet.{quiet_none}
use Rattle.relay_core.specs.State.{State, all_closed, gathering, next_batch}
use Rattle.relay_results.proofs.Lists.{true_or_false}
use Rattle.relay_core.specs.Walk.{item_of_kept, items_of_kept, is_next, launched_kept}
use Rattle.relay_core.specs.Memory.{entries}
use Rattle.relay_core.proofs.Reading.{offers_seen}
use Rattle.relay_core.proofs.Forming.{batch_offered}
use Rattle.relay_core.proofs.Going.{BelowFirst, first_ones}

pub below_none : (cs : List Kept) → BelowFirst cs []
below_none [] = tt
below_none (c ∷ cs) = tt

length_take : (n : ℕ) (cs : List Kept) → n ≤ length cs → length (take n cs) ≡ n
length_take zero cs le = refl
length_take (suc n) [] le = absurd (omega (arith, le))
length_take (suc n) (c ∷ cs) le = let r = length_take n cs (omega (arith, le)) in ap suc r

pub record Front (cs : List Kept) (items : List BatchItem) : Type 0 where
  pub few : length items ≤ length cs
  pub ones : map item_of_kept (take (length items) cs) ≡ items

pub front_of : (s : State) (f : ℕ → List Write) (hs : List Kept) (items : List BatchItem) → s.core.held ≡ entries hs f → Rises hs → next_batch s ≡ Some items
    → Front (candidates_kept hs s.core.clock) items
front_of s f hs items held rises e =
    let cs = candidates_kept hs s.core.clock in
    let r = first_ones cs (gathering s) (rises_filter (is_candidate_kept hs s.core.clock) hs rises) (below_none cs) in
    let is : items ≡ map item_of_kept (take r.0 cs) = sym (batch_offered s items e) ∙ ap (λ xs. (gathering_after xs (gathering s)).items) (offers_seen s.core f hs held) ∙ r.1 in
    let len : length items ≡ r.0 = ap length is ∙ length-map (take r.0 cs) item_of_kept ∙ length_take r.0 cs r.2 in
    let le = r.2 in
    record {
      few = omega (arith, len, le);
      ones = ap (λ n. map item_of_kept (take n cs)) len ∙ sym is;
    }

pub length_launched : (clock n : ℕ) (hs : List Kept) (p : ℕ) (is : List BatchItem) → length (launched_kept clock hs n p is) ≡ length hs
length_launched clock n [] p is = refl
length_launched clock n (h ∷ hs) p is = ⊎_elim {C = length (launched_kept clock (h ∷ hs) n p is) ≡ length (h ∷ hs)}
    (λ t. rw t (ap suc (length_launched clock n hs (p + 1) (drop 1 is))))
    (λ f. rw f (ap suc (length_launched clock n hs p is)))
    (true_or_false (is_next is h))

-- ---- what is to be sent now

none_either : (b : Bool) (x : Option (List BatchItem)) → x ≡ None → (if b then x else None) ≡ None
none_either true x e = e
none_either false x e = refl

-- if there is room, nothing is
pub none_now : (s : State) (f : ℕ → List Write) (hs : List Kept) (room : Room) → s.core.held ≡ entries hs f → is_roomy room ≡ true
    → IsQuiet s.core.clock s.mark (all_closed s) s.config.limits (items_of_kept hs s.core.clock hs) room → None ≡ next_batch s
none_now s f hs room held roomy quiet =
    let none = ap (batch_of s.core.clock s.mark (all_closed s) s.config.limits) (offers_seen s.core f hs held)
    ∙ quiet_none s.core.clock s.mark (all_closed s) s.config.limits (items_of_kept hs s.core.clock hs) room roomy quiet in
    sym (none_either (nat_lt (length s.flights.batches) s.config.in_flight) (batch_of s.core.clock s.mark (all_closed s) s.config.limits (map item_of (candidates s.core))) none)

-- otherwise it is what is gathered of what is in memory
pub batch_now : (s : State) (f : ℕ → List Write) (hs : List Kept) (closed : Bool) (b : Option (List BatchItem)) → s.core.held ≡ entries hs f → closed ≡ all_closed s
    → length s.flights.batches < s.config.in_flight → b ≡ batch_of s.core.clock s.mark closed s.config.limits (items_of_kept hs s.core.clock hs) → b ≡ next_batch s
batch_now s f hs closed b held c lt e =
    let few : nat_lt (length s.flights.batches) s.config.in_flight ≡ true = lt-ltb _ _ lt in
    e
    ∙ (λ i. batch_of s.core.clock s.mark (c i) s.config.limits (sym (offers_seen s.core f hs held) i))
    ∙ sym (ap (λ t. if t then batch_of s.core.clock s.mark (all_closed s) s.config.limits (map item_of (candidates s.core)) else None) few)

-- ... and one is sent exactly if what is gathered is
pub due_now : (s : State) (f : ℕ → List Write) (hs : List Kept) (closed : Bool) → s.core.held ≡ entries hs f → closed ≡ all_closed s → length s.flights.batches < s.config.in_flight
    → is_some (batch_of s.core.clock s.mark closed s.config.limits (items_of_kept hs s.core.clock hs)) ≡ is_some (next_batch s)
due_now s f hs closed held c lt = ap is_some (batch_now s f hs closed (batch_of s.core.clock s.mark closed s.config.limits (items_of_kept hs s.core.clock hs)) held c lt refl)
