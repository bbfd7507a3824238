-- What the lanes took is what the producers put.
use Rattle.std.proofs.Common.{◌≡◌, ◌≢◌, ℕ, zero, suc, ◌+◌, ◌<◌, ◌≤◌, Bool, true, false, eqb, eq-eqb, ne_eqb, List, [], ◌∷◌, ◌++◌, length, map, sym, refl, ap, ◌∙◌, subst, arith, ⊎_elim, inl, inr, length-append}
use Rattle.std.specs.Prelude.{filter, Option, Some, None, slice_get, ◌⊎◌, if◌then◌else◌}
use Rattle.std.proofs.lemmas.Bool.Decides.{eqb_tells}
use Rattle.relay_action.specs.declared.operation.Op.{Op}
use Rattle.relay_action.specs.declared.operation.OpName.{OpName}
use Rattle.relay_action.specs.declared.mail.Mail.{Mail}
use Rattle.relay_action.specs.declared.mail.Body.{Body}
use Rattle.relay_action.specs.declared.mail.Body.TheVariants as body
use Rattle.relay_action.specs.Lanes.{lane_of_document}
use Rattle.relay_results.specs.Words.{Mem, AllDistinct}
use Rattle.relay_results.specs.Documents.{name_of}
use Rattle.relay_results.specs.Outside.{Outside}
use Rattle.relay_delivery.specs.Attribution.{is_from}
use Rattle.relay_delivery.specs.Delivery.{taken_of, HasDistinctNames}
use Rattle.relay_queue.specs.Ends.{Queue, SenderEnd}
use Rattle.relay_queue.specs.Messages.{mail_of}
use Rattle.relay_core.specs.declared.config.RelayConfig.{RelayConfig}
use Rattle.relay_core.specs.Ties.{ops_of}
use Rattle.relay_lane.specs.Exchanges.{Exchange}
use Rattle.relay_producer.specs.declared.ends.ClosedEnd.{ClosedEnd}
use Rattle.relay_producer.specs.declared.ends.ClosedEnd.TheVariants.{Closed, Gone}
use Rattle.relay_producer.specs.Ends.{end_of, closed_puts}
use Rattle.relay_producer.specs.Puts as put
use Rattle.relay_producer.specs.Puts.{AreNumberedBy, ops_for, HasPut, HaveNoPuts}
use Rattle.relay_producer.specs.States.{ClosedProducerState, ClosedControlState}
use Rattle.relay_threads.specs.declared.summary.LaneSummary.{LaneSummary}
use Rattle.relay_threads.specs.Course.{puts_of}
use Rattle.relay_threads.specs.Relay.{AreRows, rows_of}
use Rattle.relay_threads.specs.Sums.{IsMetAt, AreMetAt}
use Rattle.relay_threads.specs.Ending.{FinishedLane, AllFinished}
use Rattle.relay_threads.proofs.Popping.{long_map}
use Rattle.relay_threads.proofs.Summing.{row_long}
use Rattle.relay_threads.specs.DeliveryOfAll.{HavePut, DeliveredLane, AllDelivered}
use Rattle.relay_threads.specs.Told.{Told}
use Rattle.relay_threads.specs.ToldAll.{ToldLane, AllTold, ToldOfPuts, AllToldOfPuts}

-- ---- operations of one producer

abbrev AllBy : ℕ → List Op → Type 0
AllBy p [] = Unit {0}
AllBy p (o ∷ os) = (o.producer ≡ p) × AllBy p os

by_left : (p : ℕ) (a b : List Op) → AllBy p (a ++ b) → AllBy p a
by_left p [] b h = tt
by_left p (o ∷ os) b h = (h.0, by_left p os b h.1)

by_right : (p : ℕ) (a b : List Op) → AllBy p (a ++ b) → AllBy p b
by_right p [] b h = h
by_right p (o ∷ os) b h = by_right p os b h.1

filter_append : (f : Op → Bool) (a b : List Op) → filter f (a ++ b) ≡ filter f a ++ filter f b
filter_append f [] b = refl
filter_append f (o ∷ os) b = by (f o) refl (filter_append f os b) where
  by : (t : Bool) → f o ≡ t → filter f (os ++ b) ≡ filter f os ++ filter f b → filter f (o ∷ (os ++ b)) ≡ filter f (o ∷ os) ++ filter f b
  by true e r = rw e (ap (λ l. o ∷ l) r)
  by false e r = rw e r

keeps_own : (p : ℕ) (os : List Op) → AllBy p os → filter (is_from p) os ≡ os
keeps_own p [] h = refl
keeps_own p (o ∷ os) h = rw (eq-eqb o.producer p h.0) (ap (λ l. o ∷ l) (keeps_own p os h.1))

drops_other : (p q : ℕ) (os : List Op) → q ≢ p → AllBy q os → filter (is_from p) os ≡ []
drops_other p q [] n h = refl
drops_other p q (o ∷ os) n h = let other : o.producer ≢ p = λ e. n (sym h.0 ∙ e) in rw (ne_eqb o.producer p other) (drops_other p q os n h.1)

-- ---- messages, and the operations of one sender

own_part : (ms : List Mail) (m : Mail) (p : ℕ) → AllBy p (puts_of (mail_of p (m ∷ ms))) → AllBy p (puts_of (mail_of p ms))
own_part ms m p h =
    ⊎_elim (λ (t : (eqb m.sender p ≡ true) × (m.sender ≡ p)). by_right p (ops_of m.body) (puts_of (mail_of p ms)) (subst (λ (b : Bool). AllBy p (puts_of (if b then m ∷ mail_of p ms else mail_of p ms))) t.0 h))
    (λ (t : (eqb m.sender p ≡ false) × (m.sender ≢ p)). subst (λ (b : Bool). AllBy p (puts_of (if b then m ∷ mail_of p ms else mail_of p ms))) t.0 h) (eqb_tells m.sender p)

own_head : (ms : List Mail) (m : Mail) → AllBy m.sender (puts_of (mail_of m.sender (m ∷ ms))) → AllBy m.sender (ops_of m.body)
own_head ms m h = by_left m.sender (ops_of m.body) (puts_of (mail_of m.sender ms)) (subst (λ (b : Bool). AllBy m.sender (puts_of (if b then m ∷ mail_of m.sender ms else mail_of m.sender ms))) (eq-eqb m.sender m.sender refl) h)

pub taken_is : (p : ℕ) (ms : List Mail) → ((q : ℕ) → AllBy q (puts_of (mail_of q ms))) → taken_of (puts_of ms) p ≡ puts_of (mail_of p ms)
taken_is p [] own = refl
taken_is p (m ∷ ms) own =
    let head = own_head ms m (own m.sender) in
    let rest = taken_is p ms (λ q. own_part ms m q (own q)) in
    filter_append (is_from p) (ops_of m.body) (puts_of ms)
    ∙ ⊎_elim (λ (t : (eqb m.sender p ≡ true) × (m.sender ≡ p)). rw t.0 ((λ i. keeps_own p (ops_of m.body) (subst (λ k. AllBy k (ops_of m.body)) t.1 head) i ++ rest i)))
    (λ (t : (eqb m.sender p ≡ false) × (m.sender ≢ p)). let n = t.1 in rw t.0 ((λ i. drops_other p m.sender (ops_of m.body) n head i ++ rest i))) (eqb_tells m.sender p)

-- ---- names

abbrev AtLeast : ℕ → List Op → Type 0
AtLeast k [] = Unit {0}
AtLeast k (o ∷ os) = (k ≤ o.number) × AtLeast k os

numbered_least : (lanes lane p n k : ℕ) (os : List Op) → k ≤ n → AreNumberedBy p n os → AtLeast k (ops_for lanes lane os)
numbered_least lanes lane p n k [] le h = tt
numbered_least lanes lane p n k (o ∷ os) le h = by (eqb (lane_of_document o.key lanes) lane) refl (numbered_least lanes lane p (n + 1) k os (omega (arith, le)) h.2) where
  by : (t : Bool) → eqb (lane_of_document o.key lanes) lane ≡ t → AtLeast k (ops_for lanes lane os) → AtLeast k (ops_for lanes lane (o ∷ os))
  by true e r = rw e (omega (arith, le, h.1), r)
  by false e r = rw e r

least_mem : (k : ℕ) (n : OpName) (os : List Op) → AtLeast k os → Mem n (map name_of os) → k ≤ n.number
least_mem k n [] h m = absurd m
least_mem k n (o ∷ os) h m =
    ⊎_elim (λ (e : n ≡ name_of o). let same = ap (λ (x : OpName). x.number) e in omega (arith, same, h.0)) (λ (r : Mem n (map name_of os)). least_mem k n os h.1 r) m

pub distinct_numbered : (lanes lane p n : ℕ) (os : List Op) → AreNumberedBy p n os → AllDistinct (map name_of (ops_for lanes lane os))
distinct_numbered lanes lane p n [] h = tt
distinct_numbered lanes lane p n (o ∷ os) h = by (eqb (lane_of_document o.key lanes) lane) refl (distinct_numbered lanes lane p (n + 1) os h.2) where
  alone : Mem (name_of o) (map name_of (ops_for lanes lane os)) → ⊥
  alone m = let l = least_mem (n + 1) (name_of o) (ops_for lanes lane os) (numbered_least lanes lane p (n + 1) (n + 1) os (omega arith) h.2) m in let at = h.1 in absurd (omega (arith, l, at))

  by : (t : Bool) → eqb (lane_of_document o.key lanes) lane ≡ t → AllDistinct (map name_of (ops_for lanes lane os)) → AllDistinct (map name_of (ops_for lanes lane (o ∷ os)))
  by true e r = rw e (alone, r)
  by false e r = rw e r

by_numbered : (p n : ℕ) (os : List Op) → AreNumberedBy p n os → AllBy p os
by_numbered p n [] h = tt
by_numbered p n (o ∷ os) h = (h.0, by_numbered p (n + 1) os h.2)

by_for : (lanes lane p : ℕ) (os : List Op) → AllBy p os → AllBy p (ops_for lanes lane os)
by_for lanes lane p [] h = tt
by_for lanes lane p (o ∷ os) h = by (eqb (lane_of_document o.key lanes) lane) refl (by_for lanes lane p os h.1) where
  by : (t : Bool) → eqb (lane_of_document o.key lanes) lane ≡ t → AllBy p (ops_for lanes lane os) → AllBy p (ops_for lanes lane (o ∷ os))
  by true e r = rw e (h.0, r)
  by false e r = rw e r

mem_filter : (p : ℕ) (n : OpName) (os : List Op) → n.producer ≡ p → Mem n (map name_of os) → Mem n (map name_of (filter (is_from p) os))
mem_filter p n [] is m = absurd m
mem_filter p n (o ∷ os) is m =
    ⊎_elim (λ (e : n ≡ name_of o). let own : o.producer ≡ p = sym (ap (λ (x : OpName). x.producer) e) ∙ is in rw (eq-eqb o.producer p own) (inl e))
    (λ (r : Mem n (map name_of os)). by (eqb o.producer p) refl (mem_filter p n os is r)) m where
      by : (t : Bool) → eqb o.producer p ≡ t → Mem n (map name_of (filter (is_from p) os)) → Mem n (map name_of (filter (is_from p) (o ∷ os)))
      by true e r = rw e (inr r)
      by false e r = rw e r

pub distinct_all : (os : List Op) → ((p : ℕ) → AllDistinct (map name_of (filter (is_from p) os))) → AllDistinct (map name_of os)
distinct_all [] h = tt
distinct_all (o ∷ os) h =
    let here = subst (λ (b : Bool). AllDistinct (map name_of (if b then o ∷ filter (is_from o.producer) os else filter (is_from o.producer) os))) (eq-eqb o.producer o.producer refl) (h o.producer) in
    ((λ m. here.0 (mem_filter o.producer (name_of o) os refl m)), distinct_all os (λ p. rest p (eqb o.producer p) refl (h p))) where
      rest : (p : ℕ) (t : Bool) → eqb o.producer p ≡ t → AllDistinct (map name_of (filter (is_from p) (o ∷ os))) → AllDistinct (map name_of (filter (is_from p) os))
      rest p true e d = (subst (λ (b : Bool). AllDistinct (map name_of (if b then o ∷ filter (is_from p) os else filter (is_from p) os))) e d).1
      rest p false e d = subst (λ (b : Bool). AllDistinct (map name_of (if b then o ∷ filter (is_from p) os else filter (is_from p) os))) e d

-- ---- what was met

same_ops : (b : Body) → put.puts_in b ≡ ops_of b
same_ops (body.Put o) = refl
same_ops body.Tick = refl
same_ops body.Flush = refl
same_ops body.Done = refl

same_puts : (ms : List Mail) → put.puts_of ms ≡ puts_of ms
same_puts [] = refl
same_puts (m ∷ ms) = λ i. same_ops m.body i ++ same_puts ms i

get_put : (row : List ClosedEnd) (lane : ℕ) (x : SenderEnd) → slice_get row lane ≡ Some (Closed x) → slice_get (closed_puts row) lane ≡ Some x
get_put [] lane x e = absurd (cc)
get_put (y ∷ ys) zero x e = let same : y ≡ Closed x = cc in ap (λ z. Some (end_of z)) same
get_put (y ∷ ys) (suc lane) x e = get_put ys lane x e

none_at : (row : List ClosedEnd) (lane : ℕ) (x : SenderEnd) → HaveNoPuts (closed_puts row) → slice_get row lane ≡ Some (Closed x) → put.puts_of x.sent ≡ []
none_at [] lane x h e = absurd (cc)
none_at (y ∷ ys) zero x h e = let same : y ≡ Closed x = cc in ap (λ z. put.puts_of (end_of z).sent) (sym same) ∙ h.0
none_at (y ∷ ys) (suc lane) x h e = none_at ys lane x h.1 e

-- the closed end that was met there
pub record MetEnd (row : List ClosedEnd) (lane p : ℕ) (ms : List Mail) : Type 0 where
  pub end : SenderEnd
  pub at : slice_get row lane ≡ Some (Closed end)
  pub same : mail_of p ms ≡ end.sent

met_end : (row : List ClosedEnd) (lane p : ℕ) (ms : List Mail) → IsMetAt (slice_get row lane) p ms → MetEnd row lane p ms
met_end row lane p ms h = by (slice_get row lane) refl h where
  by : (o : Option ClosedEnd) → slice_get row lane ≡ o → IsMetAt o p ms → MetEnd row lane p ms
  by None e m = absurd m
  by (Some (Closed x)) e m = record { end = x; at = e; same = m }
  by (Some (Gone x)) e m = absurd m

-- what a lane took of one sender
pub record OfSender (lanes lane : ℕ) (puts : ℕ → List Op) (ms : List Mail) (q : ℕ) : Type 0 where
  pub is : puts_of (mail_of q ms) ≡ ops_for lanes lane (puts q)
  pub numbered : AreNumberedBy q 1 (puts q)

of_one : (lanes lane p : ℕ) (puts : ℕ → List Op) (ms : List Mail) (c : ClosedProducerState) → length (closed_puts c.ends) ≡ lanes → HasPut p c.put (closed_puts c.ends) (puts p) → IsMetAt (slice_get c.ends lane) p ms → OfSender lanes lane puts ms p
of_one lanes lane p puts ms c long h m =
    let e = met_end c.ends lane p ms m in
    record {
      is = ap puts_of e.same ∙ sym (same_puts e.end.sent) ∙ h.sent lane e.end (get_put c.ends lane e.end e.at) ∙ ap (λ n. ops_for n lane (puts p)) long;
      numbered = h.numbered;
    }

-- the closed ends are of all lanes
abbrev pub AreLong : ℕ → List ClosedProducerState → Type 0
AreLong lanes [] = Unit {0}
AreLong lanes (c ∷ cs) = (length (closed_puts c.ends) ≡ lanes) × AreLong lanes cs

of_senders : (lanes lane p : ℕ) (puts : ℕ → List Op) (ms : List Mail) (cs : List ClosedProducerState) (k : ClosedControlState) → AreLong lanes cs → HavePut puts p cs → AreMetAt lane p ms (rows_of cs k) → (q : ℕ) → p ≤ q → q < p + length cs → OfSender lanes lane puts ms q
of_senders lanes lane p puts ms [] k long h m q le lt = absurd (omega (arith, le, lt))
of_senders lanes lane p puts ms (c ∷ cs) k long h m q le lt =
    ⊎_elim (λ (t : (eqb q p ≡ true) × (q ≡ p)). subst (OfSender lanes lane puts ms) (sym t.1) (of_one lanes lane p puts ms c long.0 h.0 m.0))
    (λ (t : (eqb q p ≡ false) × (q ≢ p)). let n = t.1 in of_senders lanes lane (p + 1) puts ms cs k long.1 h.1 m.1 q (omega (arith, le, n)) (omega (arith, lt))) (eqb_tells q p)

of_control : (lane p : ℕ) (ms : List Mail) (cs : List ClosedProducerState) (k : ClosedControlState) → HaveNoPuts (closed_puts k.ends) → AreMetAt lane p ms (rows_of cs k) → (q : ℕ) → q ≡ p + length cs → puts_of (mail_of q ms) ≡ []
of_control lane p ms [] k none m q is =
    let e = met_end k.ends lane p ms m.0 in
    let same : q ≡ p = omega (arith, is) in
    ap (λ n. puts_of (mail_of n ms)) same ∙ ap puts_of e.same ∙ sym (same_puts e.end.sent) ∙ none_at k.ends lane e.end none e.at
of_control lane p ms (c ∷ cs) k none m q is = of_control lane (p + 1) ms cs k none m.1 q (omega (arith, is))

split : (q n : ℕ) → (q < n) ⊎ ((q ≡ n) ⊎ (n < q))
split zero zero = inr (inl refl)
split zero (suc n) = inl (omega arith)
split (suc q) zero = inr (inr (omega arith))
split (suc q) (suc n) = ⊎_elim (λ (l : q < n). inl (omega (arith, l))) (λ (r : (q ≡ n) ⊎ (n < q)). inr (⊎_elim (λ (e : q ≡ n). inl (ap suc e)) (λ (g : n < q). inr (omega (arith, g))) r)) (split q n)

-- what a lane took of all senders
pub record OfAll (lanes lane count : ℕ) (puts : ℕ → List Op) (ms : List Mail) : Type 0 where
  pub own : (q : ℕ) → q < count → taken_of (puts_of ms) q ≡ ops_for lanes lane (puts q)
  pub no_other : (q : ℕ) → count ≤ q → taken_of (puts_of ms) q ≡ []
  pub distinct : HasDistinctNames (puts_of ms)

of_all : (lanes lane count : ℕ) (puts : ℕ → List Op) (ms : List Mail) → ((q : ℕ) → q < count → OfSender lanes lane puts ms q) → ((q : ℕ) → count ≤ q → puts_of (mail_of q ms) ≡ []) → OfAll lanes lane count puts ms
of_all lanes lane count puts ms some none =
    record {
      own = λ q lt. taken_is q ms each ∙ (some q lt).is;
      no_other = λ q le. taken_is q ms each ∙ none q le;
      distinct = distinct_all (puts_of ms) (λ q. subst (λ l. AllDistinct (map name_of l)) (sym (taken_is q ms each)) (alone q));
    } where
      each : (q : ℕ) → AllBy q (puts_of (mail_of q ms))
      each q =
          ⊎_elim (λ (l : q < count). let s = some q l in subst (AllBy q) (sym s.is) (by_for lanes lane q (puts q) (by_numbered q 1 (puts q) s.numbered)))
          (λ (r : (q ≡ count) ⊎ (count < q)). subst (AllBy q) (sym (none q (⊎_elim (λ (e : q ≡ count). let le : count ≤ q = omega (arith, e) in le) (λ (g : count < q). let le : count ≤ q = omega (arith, g) in le) r))) tt) (split q count)

      alone : (q : ℕ) → AllDistinct (map name_of (puts_of (mail_of q ms)))
      alone q =
          ⊎_elim (λ (l : q < count). let s = some q l in subst (λ (x : List Op). AllDistinct (map name_of x)) (sym s.is) (distinct_numbered lanes lane q 1 (puts q) s.numbered))
          (λ (r : (q ≡ count) ⊎ (count < q)). subst (λ (x : List Op). AllDistinct (map name_of x)) (sym (none q (⊎_elim (λ (e : q ≡ count). let le : count ≤ q = omega (arith, e) in le) (λ (g : count < q). let le : count ≤ q = omega (arith, g) in le) r))) tt) (split q count)

-- a row of closed ends is as long as there are queues
pub are_long : (qs : List Queue) (p lanes : ℕ) (cs : List ClosedProducerState) (k : ClosedControlState) → length qs ≡ lanes → AreRows qs p (rows_of cs k) → AreLong lanes cs
are_long qs p lanes [] k n own = tt
are_long qs p lanes (c ∷ cs) k n own = (long_map end_of c.ends ∙ row_long qs p c.ends own.0 ∙ n, are_long qs (p + 1) lanes cs k n own.1)

-- ---- lanes

long_ends : (xs : List ClosedProducerState) → length (map (λ (x : ClosedProducerState). x.ends) xs) ≡ length xs
long_ends [] = refl
long_ends (x ∷ xs) = ap suc (long_ends xs)

-- what a lane took is what was put for it
of_lane : (c : RelayConfig) (puts : ℕ → List Op) (cs : List ClosedProducerState) (k : ClosedControlState) (lane : ℕ) (ms : List Mail) → length cs ≡ c.producers → AreLong c.lanes cs → HavePut puts 0 cs → HaveNoPuts (closed_puts k.ends)
    → AreMetAt lane 0 ms (rows_of cs k) → ((sender : ℕ) → length (rows_of cs k) ≤ sender → mail_of sender ms ≡ []) → OfAll c.lanes lane c.producers puts ms
of_lane c puts cs k lane ms n long h none met no_other =
    let rows : length (rows_of cs k) ≡ length cs + 1 = length-append (map (λ (x : ClosedProducerState). x.ends) cs) (k.ends ∷ []) ∙ ap (λ m. m + 1) (long_ends cs) in
    of_all c.lanes lane c.producers puts ms (λ q lt. of_senders c.lanes lane 0 puts ms cs k long h met q (omega arith) (omega (arith, lt, n)))
    (λ q le. ⊎_elim (λ (l : q < c.producers). absurd (let x : ⊥ = omega (arith, l, le) in x))
    (λ (r : (q ≡ c.producers) ⊎ (c.producers < q)).
    ⊎_elim (λ (e : q ≡ c.producers). of_control lane 0 ms cs k none met q (omega (arith, e, n)))
    (λ (g : c.producers < q). ap puts_of (no_other q (omega (arith, g, rows, n)))) r) (split q c.producers))

module _ {W : Type 0} (describes : W → Bool) (fits : W → Outside → Type 0) (carries : W → Exchange → W → Type 0) (c : RelayConfig) (puts : ℕ → List Op) (cs : List ClosedProducerState) (k : ClosedControlState) where
  one_delivered : (lane : ℕ) (w : W) (s : LaneSummary W) → length cs ≡ c.producers → AreLong c.lanes cs → HavePut puts 0 cs → HaveNoPuts (closed_puts k.ends) → FinishedLane describes fits carries c (rows_of cs k) lane w s → DeliveredLane describes fits carries c puts (rows_of cs k) lane w s
  one_delivered lane w s n long h none f =
      let all = of_lane c puts cs k lane f.messages n long h none f.met f.no_other in
      record {
        finished = f;
        own = all.own;
        no_other = all.no_other;
        explained = f.explained all.distinct;
        explained_if_stated = f.explained_if_stated all.distinct;
        delivers = f.delivers all.distinct;
      }

  pub all_delivered : (lane : ℕ) (ws : List W) (ss : List (LaneSummary W)) → length cs ≡ c.producers → AreLong c.lanes cs → HavePut puts 0 cs → HaveNoPuts (closed_puts k.ends) → AllFinished describes fits carries c (rows_of cs k) lane ws ss → AllDelivered describes fits carries c puts (rows_of cs k) lane ws ss
  all_delivered lane [] [] n long h none f = tt
  all_delivered lane [] (s ∷ ss) n long h none f = absurd f
  all_delivered lane (w ∷ ws) [] n long h none f = absurd f
  all_delivered lane (w ∷ ws) (s ∷ ss) n long h none f = (one_delivered lane w s n long h none f.0, all_delivered (lane + 1) ws ss n long h none f.1)

-- ---- what they told

module _ {W T : Type 0} (describes : W → Bool) (fits : W → Outside → Type 0) (carries : W → Exchange → W → Type 0) (told : T → ℕ → Option Told) (c : RelayConfig) (puts : ℕ → List Op) (cs : List ClosedProducerState) (k : ClosedControlState) where
  one_told_of : (lane : ℕ) (w : W) (f t : T) (s : LaneSummary W) → length cs ≡ c.producers → AreLong c.lanes cs → HavePut puts 0 cs → HaveNoPuts (closed_puts k.ends) → ToldLane describes fits carries told c (rows_of cs k) lane w f t s → ToldOfPuts describes fits carries told c puts (rows_of cs k) lane w f t s
  one_told_of lane w f t s n long h none x =
      let all = of_lane c puts cs k lane x.messages n long h none x.met x.no_other in
      record { lane_told = x; own = all.own; none_besides = all.no_other; distinct = all.distinct }

  pub all_told_of : (lane : ℕ) (ws : List W) (fs ts : List T) (ss : List (LaneSummary W)) → length cs ≡ c.producers → AreLong c.lanes cs → HavePut puts 0 cs → HaveNoPuts (closed_puts k.ends) → AllTold describes fits carries told c (rows_of cs k) lane ws fs ts ss
      → AllToldOfPuts describes fits carries told c puts (rows_of cs k) lane ws fs ts ss
  all_told_of lane [] [] [] [] n long h none x = tt
  all_told_of lane [] [] [] (s ∷ ss) n long h none x = absurd x
  all_told_of lane [] [] (t ∷ ts) ss n long h none x = absurd x
  all_told_of lane [] (f ∷ fs) ts ss n long h none x = absurd x
  all_told_of lane (w ∷ ws) [] ts ss n long h none x = absurd x
  all_told_of lane (w ∷ ws) (f ∷ fs) [] ss n long h none x = absurd x
  all_told_of lane (w ∷ ws) (f ∷ fs) (t ∷ ts) [] n long h none x = absurd x
  all_told_of lane (w ∷ ws) (f ∷ fs) (t ∷ ts) (s ∷ ss) n long h none x =
      (one_told_of lane w f t s n long h none x.0, all_told_of (lane + 1) ws fs ts ss n long h none x.1)
