-- The batch of the sending rule, in terms of what is in memory.
use Rattle.std.proofs.Common.{◌≡◌, ℕ, ◌<◌, List, [], ◌∷◌, length, Option, Some, None, Bool, true, false, refl, sym, ap, ◌∙◌, subst, arith}
use Rattle.std.specs.Prelude.{if◌then◌else◌, nat_lt, map, filter, Result, Ok, Err, IfOk, is_ok, is_some}
use borrow.Author.Tests.{ltb-true}
use Rattle.relay_action.specs.declared.write.Write.{Write}
use Rattle.relay_batch.specs.declared.item.BatchItem.{BatchItem}
use Rattle.relay_batch.specs.declared.item.Limits.{Limits}
use Rattle.std.proofs.lemmas.List.{length-map}
use Rattle.relay_results.specs.Words.{IsSubsequence}
use Rattle.relay_results.proofs.Lists.{and_left}
use Rattle.relay_delivery.specs.Lane.{candidates}
use Rattle.relay_held.specs.declared.kept.Kept.{Kept}
use Rattle.relay_core.specs.Rule.{item_of, chosen_entries, gathering_after, closes, goes, batch_if, batch_of}
use Rattle.relay_core.specs.Walk.{is_candidate_kept, item_of_kept}
use Rattle.relay_core.specs.State.{State, all_closed, gathering, next_entries, next_batch}
use Rattle.relay_core.specs.Flights.{ItemsAreOfOperations}
use Rattle.relay_core.specs.Memory.{entries}
use Rattle.relay_core.proofs.Reading.{candidates_seen, items_seen}
use Rattle.relay_core.proofs.Launching.{picked, offered_chosen, chosen_picked, candidates_wait, candidates_sub, AllWait}

if_some : {A : Type 0} (b : Bool) (x : Option A) (y : A) → (if b then x else None) ≡ Some y → (b ≡ true) × (x ≡ Some y)
if_some true x y e = (refl, e)
if_some false x y e = absurd (cc)

if_batch : (b : Bool) (is js : List BatchItem) → batch_if b is ≡ Some js → (b ≡ true) × (is ≡ js)
if_batch true is js e = (refl, cc)
if_batch false is js e = absurd (cc)

pub ok_const : {A E : Type 0} (r : Result A E) (P : Type 0) → is_ok r ≡ true → IfOk r (λ x. P) → P
ok_const (Ok x) P t h = h
ok_const (Err e) P t h = absurd (cc)

pub record Formed (s : State) (f : ℕ → List Write) (hs : List Kept) (items : List BatchItem) : Type 0 where
  pub few : length s.flights.batches < s.config.in_flight
  pub ops : List Kept
  pub items_are : items ≡ map item_of_kept ops
  pub entries_are : next_entries s ≡ entries ops f
  pub wait : AllWait ops
  pub sub : IsSubsequence ops hs
  pub some : 0 < length items

pub formed : (s : State) (f : ℕ → List Write) (hs : List Kept) (items : List BatchItem) → s.core.held ≡ entries hs f → next_batch s ≡ Some items → Formed s f hs items
formed s f hs items held e =
    let a = if_some (nat_lt (length s.flights.batches) s.config.in_flight) _ items e in
    let all = map item_of (candidates s.core) in
    let g = gathering s in
    let b = if_batch (goes s.core.clock s.mark (all_closed s) (gathering_after all g) (closes all g)) _ items a.1 in
    let seen = candidates_seen s.core f hs held in
    let kept = filter (is_candidate_kept hs s.core.clock) hs in
    let ops = picked kept g in
    let entries_are : next_entries s ≡ entries ops f = ap (λ es. chosen_entries es g) seen ∙ chosen_picked f kept g in
    record {
      few = ltb-true _ _ a.0;
      ops = ops;
      items_are = sym b.1 ∙ offered_chosen (candidates s.core) g ∙ ap (map item_of) entries_are ∙ items_seen f ops;
      entries_are = entries_are;
      wait = candidates_wait hs s.core.clock g;
      sub = candidates_sub hs s.core.clock g;
      some = subst (λ xs. 0 < length xs) b.1 (ltb-true _ _ (and_left _ _ b.0));
    }

-- the batch is what was gathered of the candidates
pub batch_offered : (s : State) (items : List BatchItem) → next_batch s ≡ Some items → (gathering_after (map item_of (candidates s.core)) (gathering s)).items ≡ items
batch_offered s items e =
    let a = if_some (nat_lt (length s.flights.batches) s.config.in_flight) _ items e in
    let all = map item_of (candidates s.core) in
    let g = gathering s in
    (if_batch (goes s.core.clock s.mark (all_closed s) (gathering_after all g) (closes all g)) _ items a.1).1

pub items_of_operations : ItemsAreOfOperations
items_of_operations s items e = sym (batch_offered s items e) ∙ offered_chosen (candidates s.core) (gathering s)

some_offered : (clock mark : ℕ) (all_closed : Bool) (limits : Limits) (is items : List BatchItem) → batch_of clock mark all_closed limits is ≡ Some items → 0 < length is
some_offered clock mark all_closed limits [] items e = absurd (cc)
some_offered clock mark all_closed limits (i ∷ is) items e = omega arith

-- if a batch is sent, there are candidates
pub candidates_of_batch : (s : State) (items : List BatchItem) → next_batch s ≡ Some items → 0 < length (candidates s.core)
candidates_of_batch s items e =
    let a = if_some (nat_lt (length s.flights.batches) s.config.in_flight) _ items e in
    let n = length-map (candidates s.core) item_of in
    let some = some_offered s.core.clock s.mark (all_closed s) s.config.limits (map item_of (candidates s.core)) items a.1 in
    omega (arith, some, n)

-- if there is a batch to send, there are candidates
pub candidates_due : (s : State) → is_some (next_batch s) ≡ true → 0 < length (candidates s.core)
candidates_due s due = by (next_batch s) refl due
  where
    by : (o : Option (List BatchItem)) → next_batch s ≡ o → is_some o ≡ true → 0 < length (candidates s.core)
    by None e t = absurd (cc)
    by (Some items) e t = candidates_of_batch s items e
