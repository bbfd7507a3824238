-- What passed over a wire is what a lane's calls say.
use Rattle.std.proofs.Common.{◌≡◌, ℕ, ◌+◌, List, [], ◌∷◌, ◌++◌, Option, Some, None, Bool, true, refl, sym, ap, ◌∙◌, subst}
use Rattle.relay_action.specs.declared.write.Write.{Write}
use Rattle.relay_batch.specs.declared.item.BatchItem.{BatchItem}
use Rattle.relay_results.specs.declared.cause.Loss.{Loss}
use Rattle.relay_results.specs.Outside.{Answer, Lost, Outside}
use Rattle.relay_delivery.specs.Lane.{writes_of_all}
use Rattle.relay_delivery.specs.Reach.{Call, Takes, Ticks, Answers}
use Rattle.relay_delivery.specs.Reach as core
use Rattle.relay_core.specs.State.{State, next_batch, next_entries, after_request, after_answer_to, is_flying, IsLane}
use Rattle.relay_lane.specs.Exchanges.{Exchange, Sends, Receives, Passes, PassesFrom}
use Rattle.relay_lane.specs.Wires.{SendsOn, AnswersOn, ExchangesOn, Shows, ShowsNext}
use Rattle.relay_lane.specs.Turns.{Pauses, after_send, after_ticks, after_fail}
use Rattle.relay_lane.specs.Turns as turns
use Rattle.relay_lane.specs.Calls.{called_by}
use Rattle.relay_lane.specs.Delivers.{Delivers}
use Rattle.relay_lane.proofs.Carrying.{leads_itself, leads_on, leads_ticks, leads_send, leads_fail, leads_answer}

module _ {S : Type 0} (carries : S → Exchange → S → Type 0) where
  -- one after another
  passes_more : (failed : Option Loss) (cs ds : List Call) (j k l : ℕ) (u v w : S) → PassesFrom carries failed cs j u k v → Passes carries ds k v l w → PassesFrom carries failed (cs ++ ds) j u l w
  passes_more failed [] ds j k l u v w a b =
      subst (λ f. PassesFrom carries f ds j u l w) (sym a.0) (subst (λ n. PassesFrom carries None ds n u l w) a.1 (subst (λ z. PassesFrom carries None ds k z l w) a.2 b))
  passes_more failed (Takes o bytes ∷ cs) ds j k l u v w a b = passes_more failed cs ds j k l u v w a b
  passes_more failed (Ticks clock ∷ cs) ds j k l u v w a b = passes_more failed cs ds j k l u v w a b
  passes_more failed (core.Sends chosen ∷ cs) ds j k l u v w a b = (a.0, a.1, a.2, a.3, passes_more a.1 cs ds (j + 1) k l a.2 v w a.4 b)
  passes_more None (Answers number a ∷ cs) ds j k l u v w x b = (x.0, x.1, passes_more None cs ds j k l x.0 v w x.2 b)
  passes_more (Some why) (Answers number a ∷ cs) ds j k l u v w x b = (x.0, x.1, passes_more None cs ds j k l u v w x.2 b)

  pub passes_on : (cs ds : List Call) (j k l : ℕ) (u v w : S) → Passes carries cs j u k v → Passes carries ds k v l w → Passes carries (cs ++ ds) j u l w
  passes_on cs ds j k l u v w a b = passes_more None cs ds j k l u v w a b

  pub passes_none : (n : ℕ) (w : S) → Passes carries [] n w n w
  passes_none n w = (refl, refl, refl)

-- the number of requests after one more
one_request : (s : State) (b : Option (List BatchItem)) (items : List BatchItem) → b ≡ Some items → (after_request s b).core.requests ≡ s.core.requests + 1
one_request s b items e = ap (λ x. (after_request s x).core.requests) e

-- ---- what passed, and what it leads to

pub delivers_itself : {S : Type 0} (d : Bool) (fits : S → Outside → Type 0) (carries : S → Exchange → S → Type 0) (v w : S) (s t : State) → w ≡ v → t ≡ s → Delivers d fits carries v w s t []
delivers_itself d fits carries v w s t same_wire same = record {
  passes = (refl, ap (λ (x : State). x.core.requests) same, same_wire);
  leads = leads_itself d fits v w s t same_wire same;
}

pub delivers_on : {S : Type 0} (d e : Bool) (fits : S → Outside → Type 0) (carries : S → Exchange → S → Type 0) (u v w : S) (r s t : State) (cs ds : List Call) → e ≡ d → Delivers d fits carries u v r s cs → Delivers e fits carries v w s t ds → Delivers d fits carries u w r t (cs ++ ds)
delivers_on d e fits carries u v w r s t cs ds same a b = record {
  passes = passes_on carries cs ds r.core.requests s.core.requests t.core.requests u v w a.passes b.passes;
  leads = leads_on d e fits u v w r s t cs ds same a.leads b.leads;
}

pub delivers_ticks : {S : Type 0} (d : Bool) (fits : S → Outside → Type 0) (carries : S → Exchange → S → Type 0) (w : S) (s t : State) (n : ℕ) → t ≡ after_ticks n s → Delivers d fits carries w w s t (called_by (Pauses n) s)
delivers_ticks d fits carries w s t n e = record {
  passes = (refl, ap (λ (x : State). x.core.requests) e, refl);
  leads = leads_ticks d fits w s t n e;
}

module _ {S : Type 0} (d : Bool) (fits : S → Outside → Type 0) (carries : S → Exchange → S → Type 0) (v w : S) (s : State) (l : IsLane s) (items : List BatchItem) (some : next_batch s ≡ Some items) (ws : List Write) (are : ws ≡ writes_of_all (next_entries s)) where
  -- the request is the next one of the lane, with the writes of the operations that it carries
  sends_next : (fault : Option Loss) → carries v (Sends s.flights.next ws fault) w → carries v (Sends (s.core.requests + 1) (writes_of_all (next_entries s)) fault) w
  sends_next fault x = subst (λ us. carries v (Sends (s.core.requests + 1) us fault) w) are (subst (λ n. carries v (Sends n ws fault) w) l.next x)

  pub delivers_send : (n : ℕ) → ShowsNext d fits v w s.flights.next (SendsOn ws) → carries v (Sends s.flights.next ws None) w → Delivers d fits carries v w s (after_ticks n (after_send s)) (called_by (turns.Sends n) s)
  delivers_send n shows x = record {
    passes = (refl, None, w, sends_next None x, (refl, one_request s (next_batch s) items some, refl));
    leads = leads_send d fits v w s l items some ws are n shows;
  }

  pub delivers_fail : (why : Loss) (n : ℕ) → ShowsNext d fits v w s.flights.next (ExchangesOn s.flights.next ws (Lost why)) → carries v (Sends s.flights.next ws (Some why)) w → Delivers d fits carries v w s (after_fail why n s) (called_by (turns.Fails why n) s)
  delivers_fail why n shows x = record {
    passes = (refl, Some why, w, sends_next (Some why) x, (l.next, refl, (refl, one_request s (next_batch s) items some, refl)));
    leads = leads_fail d fits v w s l items some ws are why n shows;
  }

pub delivers_answer : {S : Type 0} (d : Bool) (fits : S → Outside → Type 0) (carries : S → Exchange → S → Type 0) (v w : S) (s : State) (n number : ℕ) (a : Answer) → is_flying number s ≡ true → Shows d fits v w (AnswersOn number a) → carries v (Receives number a) w
    → Delivers d fits carries v w s (after_answer_to (after_ticks n s) number a) (core.Ticks (s.core.clock + n) ∷ core.Answers number a ∷ [])
delivers_answer d fits carries v w s n number a flies shows x = record {
  passes = (w, x, (refl, refl, refl));
  leads = leads_answer d fits v w s n number a flies shows;
}
