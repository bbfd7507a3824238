-- What the producers were fed is what they put.
use Rattle.std.proofs.Common.{◌≡◌, ℕ, suc, ◌+◌, List, [], ◌∷◌, ◌++◌, length, drop, map, get_or, refl, sym, ap, subst, ◌∙◌, arith, append-nil, append_assoc}
use Rattle.std.specs.Prelude.{Option, None, Some, MatchOption, Result, Ok, Err, IfOk}
use Rattle.std.specs.Option.{option_flatten}
use Rattle.std.specs.declared.thread.PromisedHandle.{PromisedHandle}
use Rattle.std.proofs.lemmas.List.{map-append}
use Rattle.relay_action.specs.declared.operation.Op.{Op}
use Rattle.relay_ndjson.specs.Operations.{Operation}
use Rattle.relay_ndjson.specs.Reading.{Reading}
use Rattle.relay_core.specs.declared.config.RelayConfig.{RelayConfig}
use Rattle.relay_queue.specs.Ends.{Queue, SenderEnd}
use Rattle.relay_producer.specs.Ends.{open_puts, closed_puts}
use Rattle.relay_producer.specs.Puts.{HasPut}
use Rattle.relay_producer.specs.States.{ProducerState, ClosedProducerState, lane_for}
use Rattle.relay_producer.proofs.Putting.{same_marked}
use Rattle.relay_producer.proofs.Closing.{put_kept}
use Rattle.relay_threads.specs.Relay.{AreNew, new_producer}
use Rattle.relay_threads.specs.DeliveryOfAll.{HavePut}
use Rattle.relay_threads.specs.declared.fault.FinishFault.{FinishFault}
use Rattle.relay_threads.specs.declared.summary.LaneSummary.{LaneSummary}
use Rattle.relay_threads.specs.declared.summary.Summary.{Summary}
use Rattle.relay_common.specs.Identities.{identity_of, identity_of_closed}
use Rattle.relay_common.specs.Putting.{after_puts, named_ops}
use Rattle.relay_common.proofs.Putting.{put_on, new_none, HavePutAs, put_at}
use Rattle.relay_run.specs.declared.feed.FeedFault.{FeedFault}
use Rattle.relay_run.specs.declared.feed.FeedFault.TheVariants as fault
use Rattle.relay_run.specs.declared.producing.FedProducer.{FedProducer}
use Rattle.relay_run.specs.declared.producing.FedPromise.{FedPromise}
use Rattle.relay_run.specs.Feeding.{Stops}
use Rattle.relay_run.specs.Readers.{answer_of, first_reader, other_readers, IsFedFrom, IsFed, AreFedFrom}
use Rattle.relay_run.specs.Handles.{Given, given_to, given_telling, telling_of, all_given, EndsFed, AllEndFed}
use Rattle.relay_run.specs.Settling.{Tellings}

-- ---- one producer

-- what stopped the feeding has put nothing more
record PutsNoMore (fed after : ProducerState) : Type 0 where
  pub put : after.put ≡ fed.put
  pub ends : open_puts after.ends ≡ open_puts fed.ends

stays : (fed after : ProducerState) → after ≡ fed → PutsNoMore fed after
stays fed after is = record { put = ap (λ (s : ProducerState). s.put) is; ends = ap (λ (s : ProducerState). open_puts s.ends) is }

stopped : (rest new : Reading) (fed after : ProducerState) (f : Option FeedFault) → Stops rest new fed after (answer_of f) → PutsNoMore fed after
stopped rest new fed after None h = stays fed after h.1
stopped rest new fed after (Some (fault.Input e)) h = stays fed after h.1
stopped rest new fed after (Some fault.NumbersSpent) h = stays fed after h.4
stopped rest new fed after (Some fault.Stopped) h = stays fed after h.1
stopped rest new fed after (Some fault.LaneGone) h =
    record {
      put = ap (λ (s : ProducerState). s.put) h.3;
      ends = ap (λ (s : ProducerState). open_puts s.ends) h.3 ∙ same_marked (lane_for h.1.0 fed) fed.ends;
    }

module _ {S : Type 0} (left : S → Option (List ℕ)) (failed : S → ℕ) (index : Option (List ℕ)) where
  fed_put : (queues : List Queue) (epoch p : ℕ) (reader : Option S) (ops : List Operation) (after : ProducerState) (t n : Tellings) (f : Option FeedFault) → IsFedFrom left failed index reader ops (new_producer queues epoch p) after t n f
      → HasPut p after.put (open_puts after.ends) (named_ops epoch p 1 ops)
  fed_put queues epoch p None ops after t n f h =
      let P : List Operation × ProducerState → Type 0 = λ x. HasPut p x.1.put (open_puts x.1.ends) (named_ops epoch p 1 x.0) in
      subst P (λ i. (sym h.0 i, sym h.1 i)) (new_none queues epoch p)
  fed_put queues epoch p (Some reader) ops after t n f h =
      let x = h.1.0 in
      let all = put_on (new_producer queues epoch p) [] x.ops (new_none queues epoch p) in
      let s = stopped x.rest h.0 (after_puts (new_producer queues epoch p) x.ops) after f x.stops in
      let P : ℕ × List SenderEnd × List Operation → Type 0 = λ y. HasPut p y.0 y.1 (named_ops epoch p 1 y.2) in
      subst P (λ i. (sym s.put i, sym s.ends i, h.2 i)) all

  closed_put : (queues : List Queue) (epoch p : ℕ) (reader : Option S) (c : ClosedProducerState) (t n : Tellings) (f : Option FeedFault) (x : IsFed left failed index reader (new_producer queues epoch p) c t n f) → HasPut p c.put (closed_puts c.ends) (named_ops epoch p 1 x.ops)
  closed_put queues epoch p reader c t n f x =
      subst (λ k. HasPut p k (closed_puts c.ends) (named_ops epoch p 1 x.ops)) (sym x.same.1)
      (put_kept p x.after.put x.after.ends c.ends (named_ops epoch p 1 x.ops) x.closes (fed_put queues epoch p reader x.ops x.after t n f x.fed))

  -- ---- all of them

  -- the same with the operations of each in a list
  abbrev pub AreFedAs : List Queue → ℕ → ℕ → List (List Operation) → List (Option S) → (told now : List Tellings) → List (Option FeedFault) → Type 0
  AreFedAs queues epoch p [] readers [] [] [] = Unit {0}
  AreFedAs queues epoch p [] readers [] [] (f ∷ fs) = ⊥
  AreFedAs queues epoch p [] readers [] (n ∷ ns) fs = ⊥
  AreFedAs queues epoch p [] readers (t ∷ ts) ns fs = ⊥
  AreFedAs queues epoch p (o ∷ os) readers [] ns fs = ⊥
  AreFedAs queues epoch p (o ∷ os) readers (t ∷ ts) [] fs = ⊥
  AreFedAs queues epoch p (o ∷ os) readers (t ∷ ts) (n ∷ ns) [] = ⊥
  AreFedAs queues epoch p (o ∷ os) readers (t ∷ ts) (n ∷ ns) (f ∷ fs) =
      ((after : ProducerState) × IsFedFrom left failed index (first_reader readers) o (new_producer queues epoch p) after t n f) × AreFedAs queues epoch (p + 1) os (other_readers readers) ts ns fs

  fed_at : (queues : List Queue) (epoch p : ℕ) (all : ℕ → List Operation) (os : List (List Operation)) (readers : List (Option S)) (ts ns : List Tellings) (fs : List (Option FeedFault)) → ((k : ℕ) → all (p + k) ≡ get_or os k []) → AreFedAs queues epoch p os readers ts ns fs → AreFedFrom left failed index queues epoch all p readers ts ns fs
  fed_at queues epoch p all [] readers [] [] [] e h = tt
  fed_at queues epoch p all [] readers [] [] (f ∷ fs) e h = absurd h
  fed_at queues epoch p all [] readers [] (n ∷ ns) fs e h = absurd h
  fed_at queues epoch p all [] readers (t ∷ ts) ns fs e h = absurd h
  fed_at queues epoch p all (o ∷ os) readers [] ns fs e h = absurd h
  fed_at queues epoch p all (o ∷ os) readers (t ∷ ts) [] fs e h = absurd h
  fed_at queues epoch p all (o ∷ os) readers (t ∷ ts) (n ∷ ns) [] e h = absurd h
  fed_at queues epoch p all (o ∷ os) readers (t ∷ ts) (n ∷ ns) (f ∷ fs) e h =
      let here : all p ≡ o = ap all (let z : p ≡ p + 0 = omega arith in z) ∙ e 0 in (
        (h.0.0, subst (λ x. IsFedFrom left failed index (first_reader readers) x (new_producer queues epoch p) h.0.0 t n f) (sym here) h.0.1),
        fed_at queues epoch (p + 1) all os (other_readers readers) ts ns fs (λ k. ap all (let z : p + 1 + k ≡ p + suc k = omega arith in z) ∙ e (suc k)) h.1,
      )

module _ {S : Type 0} (left : S → Option (List ℕ)) (failed : S → ℕ) where
  -- what is known of all that have ended
  pub record AllFed (index : Option (List ℕ)) (queues : List Queue) (epoch p : ℕ) (readers : List (Option S)) (ps : List ProducerState) (cs : List ClosedProducerState) (ts ns : List Tellings) (fs : List (Option FeedFault)) : Type 0 where
    pub ops : List (List Operation)
    pub fed : AreFedAs left failed index queues epoch p ops readers ts ns fs
    pub put : HavePutAs epoch p ops cs
    pub identities : map identity_of_closed cs ≡ map identity_of ps
    pub count : length fs ≡ length ps

  first_given : (g x : Given S) (gs xs : List (Given S)) → g ∷ gs ≡ x ∷ xs → g ≡ x
  first_given g x gs xs e = ap (first_or g) e
    where
      first_or : Given S → List (Given S) → Given S
      first_or d [] = d
      first_or d (y ∷ ys) = y

  pub all_fed : (index : Option (List ℕ)) (queues : List Queue) (epoch p : ℕ) (readers : List (Option S)) (ps : List ProducerState) (hs : List (PromisedHandle FedProducer (FedPromise S))) (cs : List ClosedProducerState) (ns : List Tellings) (fs : List (Option FeedFault)) → AreNew queues epoch p ps
      → map given_to hs ≡ all_given index readers ps → AllEndFed left failed (map given_telling hs) cs ns fs → AllFed index queues epoch p readers ps cs (map telling_of hs) ns fs
  all_fed index queues epoch p readers [] [] [] [] [] new given h = record { ops = []; fed = tt; put = tt; identities = refl; count = refl }
  all_fed index queues epoch p readers [] [] [] [] (f ∷ fs) new given h = absurd h
  all_fed index queues epoch p readers [] [] [] (n ∷ ns) fs new given h = absurd h
  all_fed index queues epoch p readers [] [] (c ∷ cs) ns fs new given h = absurd h
  all_fed index queues epoch p readers [] (t ∷ hs) cs ns fs new given h = absurd (let e : suc (length (map given_to hs)) ≡ 0 = ap length given in omega (arith, e))
  all_fed index queues epoch p readers (x ∷ ps) [] cs ns fs new given h = absurd (let e : 0 ≡ suc (length (all_given index (other_readers readers) ps)) = ap length given in omega (arith, e))
  all_fed index queues epoch p readers (x ∷ ps) (t ∷ hs) [] ns fs new given h = absurd h
  all_fed index queues epoch p readers (x ∷ ps) (t ∷ hs) (c ∷ cs) [] fs new given h = absurd h
  all_fed index queues epoch p readers (x ∷ ps) (t ∷ hs) (c ∷ cs) (n ∷ ns) [] new given h = absurd h
  all_fed index queues epoch p readers (x ∷ ps) (t ∷ hs) (c ∷ cs) (n ∷ ns) (f ∷ fs) new given h =
      let one = first_given (given_to t) (x, first_reader readers, index) (map given_to hs) (all_given index (other_readers readers) ps) given in
      let fed : IsFed left failed index (first_reader readers) x c (telling_of t) n f = subst (λ (g : Given S). IsFed left failed g.2 g.1 g.0 c (telling_of t) n f) one h.0 in
      let own : IsFed left failed index (first_reader readers) (new_producer queues epoch p) c (telling_of t) n f = subst (λ (s : ProducerState). IsFed left failed index (first_reader readers) s c (telling_of t) n f) new.0 fed in
      let r = all_fed index queues epoch (p + 1) (other_readers readers) ps hs cs ns fs new.1 (ap (drop 1) given) h.1 in
      let same : identity_of_closed c ≡ identity_of x = fed.identity in
      let others = r.identities in
      record {
        ops = own.ops ∷ r.ops;
        fed = ((own.after, own.fed), r.fed);
        put = (closed_put left failed index queues epoch p (first_reader readers) c (telling_of t) n f own, r.put);
        identities = λ i. same i ∷ others i;
        count = ap suc r.count;
      }

  -- what `run` says of them
  pub record FedAndPut (index : Option (List ℕ)) (queues : List Queue) (epoch : ℕ) (readers : List (Option S)) (cs : List ClosedProducerState) (ts ns : List Tellings) (fs : List (Option FeedFault)) : Type 0 where
    pub ops : ℕ → List Operation
    pub fed : AreFedFrom left failed index queues epoch ops 0 readers ts ns fs
    pub put : HavePut (λ p. named_ops epoch p 1 (ops p)) 0 cs

  pub fed_and_put : (index : Option (List ℕ)) (queues : List Queue) (epoch : ℕ) (readers : List (Option S)) (ps : List ProducerState) (cs : List ClosedProducerState) (ts ns : List Tellings) (fs : List (Option FeedFault)) → AllFed index queues epoch 0 readers ps cs ts ns fs
      → FedAndPut index queues epoch readers cs ts ns fs
  fed_and_put index queues epoch readers ps cs ts ns fs h =
      let all : ℕ → List Operation = λ k. get_or h.ops k [] in
      let same : (k : ℕ) → all (0 + k) ≡ get_or h.ops k [] = λ k. ap all (let z : 0 + k ≡ k = omega arith in z) in
      record {
        ops = all;
        fed = fed_at left failed index queues epoch 0 all h.ops readers ts ns fs same h.fed;
        put = put_at epoch 0 all h.ops cs same h.put;
      }

  -- ---- one thread after another

  none_left : (xs : List (Option S)) → length xs ≡ 0 → xs ≡ []
  none_left [] n = refl
  none_left (x ∷ xs) n = absurd (omega (arith, n))

  -- the first reader is taken, if there is one
  pub record TakesReader (r : Option (Option S)) (old new : List (Option S)) : Type 0 where
    pub first : option_flatten r ≡ first_reader old
    pub others : new ≡ other_readers old

  pub takes_reader : (r : Option (Option S)) (old new : List (Option S)) (m n : ℕ) → m ≡ length old → n ≡ length new → MatchOption r ((m ≡ 0) × (n ≡ 0)) (λ x. (old ≡ x ∷ new) × (n + 1 ≡ m)) → TakesReader r old new
  takes_reader None old new m n is now h =
      let none_old = none_left old (sym is ∙ h.0) in
      let none_new = none_left new (sym now ∙ h.1) in
      record { first = sym (ap first_reader none_old); others = none_new ∙ sym (ap other_readers none_old) }
  takes_reader (Some x) old new m n is now h = record { first = sym (ap first_reader h.0); others = sym (ap other_readers h.0) }

  pub given_push : (hs : List (PromisedHandle FedProducer (FedPromise S))) (h : PromisedHandle FedProducer (FedPromise S)) → map given_to (hs ++ h ∷ []) ≡ map given_to hs ++ given_to h ∷ []
  given_push [] h = refl
  given_push (x ∷ hs) h = ap (λ l. given_to x ∷ l) (given_push hs h)

  pub given_more : (index : Option (List ℕ)) (before all : List (Given S)) (g : Given S) (rs later : List (Option S)) (ps others : List ProducerState) (p : ProducerState) (r : Option S)
      → ps ≡ p ∷ others → g ≡ (p, r, index) → r ≡ first_reader rs → later ≡ other_readers rs → before ++ all_given index rs ps ≡ all → (before ++ g ∷ []) ++ all_given index later others ≡ all
  given_more index before all g rs later ps others p r next is first rest h =
      let whole : g ∷ all_given index later others ≡ all_given index rs (p ∷ others) = λ i. (is ∙ ap (λ (x : Option S). let y : Given S = (p, x, index) in y) first) i ∷ all_given index (rest i) others in
      append_assoc before (g ∷ []) (all_given index later others) ∙ ap (λ l. before ++ l) (whole ∙ ap (all_given index rs) (sym next)) ∙ h

  all_end_more : (gs : List (Given S × Tellings)) (cs : List ClosedProducerState) (ns : List Tellings) (fs : List (Option FeedFault)) (g : Given S × Tellings) (c : ClosedProducerState) (n : Tellings) (f : Option FeedFault) → AllEndFed left failed gs cs ns fs → EndsFed left failed g c n f
      → AllEndFed left failed (gs ++ g ∷ []) (cs ++ c ∷ []) (ns ++ n ∷ []) (fs ++ f ∷ [])
  all_end_more [] [] [] [] g c n f a k = (k, tt)
  all_end_more [] [] [] (y ∷ fs) g c n f a k = absurd a
  all_end_more [] [] (m ∷ ns) fs g c n f a k = absurd a
  all_end_more [] (x ∷ cs) ns fs g c n f a k = absurd a
  all_end_more (w ∷ gs) [] ns fs g c n f a k = absurd a
  all_end_more (w ∷ gs) (x ∷ cs) [] fs g c n f a k = absurd a
  all_end_more (w ∷ gs) (x ∷ cs) (m ∷ ns) [] g c n f a k = absurd a
  all_end_more (w ∷ gs) (x ∷ cs) (m ∷ ns) (y ∷ fs) g c n f a k = (a.0, all_end_more gs cs ns fs g c n f a.1 k)

  -- the first of these threads have ended, and the others are left
  pub record JoinsFed (hs others : List (PromisedHandle FedProducer (FedPromise S))) (cs : List ClosedProducerState) (ns : List Tellings) (fs : List (Option FeedFault)) : Type 0 where
    pub joined : List (PromisedHandle FedProducer (FedPromise S))
    pub all : hs ≡ joined ++ others
    pub ended : AllEndFed left failed (map given_telling joined) cs ns fs

  pub joins_none : (hs : List (PromisedHandle FedProducer (FedPromise S))) (cs : List ClosedProducerState) (ns : List Tellings) (fs : List (Option FeedFault)) → cs ≡ [] → ns ≡ [] → fs ≡ [] → JoinsFed hs hs cs ns fs
  joins_none hs cs ns fs none_c none_n none_f = record {
    joined = [];
    all = refl;
    ended = subst (λ (x : List ClosedProducerState × List Tellings × List (Option FeedFault)). AllEndFed left failed [] x.0 x.1 x.2) (λ i. (sym none_c i, sym none_n i, sym none_f i)) tt;
  }

  pub joins_on : (hs others later : List (PromisedHandle FedProducer (FedPromise S))) (cs new_cs : List ClosedProducerState) (ns new_ns : List Tellings) (fs new_fs : List (Option FeedFault)) (h : PromisedHandle FedProducer (FedPromise S)) (c : ClosedProducerState) (n : Tellings) (f : Option FeedFault)
      → JoinsFed hs others cs ns fs → others ≡ h ∷ later → EndsFed left failed (given_telling h) c n f → new_cs ≡ cs ++ c ∷ [] → new_ns ≡ ns ++ n ∷ [] → new_fs ≡ fs ++ f ∷ [] → JoinsFed hs later new_cs new_ns new_fs
  joins_on hs others later cs new_cs ns new_ns fs new_fs h c n f j is k more_c more_n more_f =
      let pushed = map-append given_telling j.joined (h ∷ []) in record {
        joined = j.joined ++ h ∷ [];
        all = j.all ∙ ap (λ l. j.joined ++ l) is ∙ sym (append_assoc j.joined (h ∷ []) later);
        ended =
            subst (λ (x : List (Given S × Tellings) × List ClosedProducerState × List Tellings × List (Option FeedFault)). AllEndFed left failed x.0 x.1 x.2 x.3) (λ i. (sym pushed i, sym more_c i, sym more_n i, sym more_f i))
            (all_end_more (map given_telling j.joined) cs ns fs (given_telling h) c n f j.ended k);
      }

  pub joins_all : (hs others : List (PromisedHandle FedProducer (FedPromise S))) (cs : List ClosedProducerState) (ns : List Tellings) (fs : List (Option FeedFault)) → JoinsFed hs others cs ns fs → others ≡ [] → AllEndFed left failed (map given_telling hs) cs ns fs
  joins_all hs others cs ns fs j none =
      subst (λ l. AllEndFed left failed (map given_telling l) cs ns fs) (sym (j.all ∙ ap (λ l. j.joined ++ l) none ∙ append-nil j.joined)) j.ended

-- what `finish_telling` says of these operations, with the config and the wires of the start
pub said_as : {W V : Type 0} (P : RelayConfig → (ℕ → List Op) → List W → List (LaneSummary W) → Type 0) (c k : RelayConfig) (ws vs : List W) (puts : ℕ → List Op) (cs : List ClosedProducerState) (r : Result (Summary W × V) FinishFault)
    → c ≡ k → ws ≡ vs → HavePut puts 0 cs → IfOk r (λ f. (all : ℕ → List Op) → HavePut all 0 cs → P c all ws f.0.lanes.items) → IfOk r (λ f. P k puts vs f.0.lanes.items)
said_as {W = W} P c k ws vs puts cs (Ok f) same wires h d = subst (λ (x : RelayConfig × List W). P x.0 puts x.1 f.0.lanes.items) (λ i. (same i, wires i)) (d puts h)
said_as P c k ws vs puts cs (Err e) same wires h d = tt
