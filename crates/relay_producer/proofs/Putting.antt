-- An operation joins what a producer put.
use Rattle.std.proofs.Common.{◌≡◌, ◌≢◌, ℕ, zero, suc, ◌+◌, ◌<◌, ◌≤◌, true, false, eqb, eq-eqb, ne_eqb, List, [], ◌∷◌, ◌++◌, length, set, get_or, sym, refl, ap, ◌∙◌, subst, ⊎_elim, inl, inr, arith, append-nil, ◌⊎◌}
use Rattle.std.specs.Prelude.{Some, ◌^◌, Result, Ok, Err, is_ok, OnOk, OnErr}
use Rattle.std.specs.List.{All, slice_get}
use Rattle.std.proofs.lemmas.List.{length-map, length_push}
use Rattle.std.proofs.lemmas.Bool.Decides.{eqb_tells}
use Rattle.std.proofs.lemmas.List.Elements.{All-nil, All-cons, All-head, All-tail}
use Rattle.relay_action.specs.declared.key.DocKey.{DocKey}
use Rattle.relay_action.specs.declared.operation.Op.{Op}
use Rattle.relay_action.specs.declared.mail.Body.{Body}
use Rattle.relay_action.specs.declared.mail.Body.TheVariants.{Put}
use Rattle.relay_action.specs.Lanes.{lane_of_document}
use Rattle.relay_queue.specs.Messages.{message}
use Rattle.relay_queue.specs.Ends.{SenderEnd}
use Rattle.relay_producer.specs.declared.ends.OpenEnd.{OpenEnd}
use Rattle.relay_producer.specs.Ends.{with_sent, one_more, with_mark, is_gone_at, open_puts, identity, identities, change_at}
use Rattle.relay_producer.specs.Puts.{puts_of, ops_for, AreNumberedBy, HasPut}
use Rattle.relay_producer.specs.States.{AreEndsOf, HasLanes, ProducerState, IsProducer}
use Rattle.relay_producer.proofs.Closing.{puts_of-append}

-- ---- one end changed

pub set_change : (lane : ℕ) (f : OpenEnd → OpenEnd) (xs : List OpenEnd) (x : OpenEnd) → lane < length xs → x ≡ get_or xs lane x → set xs lane (f x) ≡ change_at lane f xs
set_change lane f [] x lt at = absurd (omega arith)
set_change zero f (y ∷ ys) x lt at = ap (λ z. f z ∷ ys) at
set_change (suc lane) f (y ∷ ys) x lt at = ap (λ l. y ∷ l) (set_change lane f ys x (omega arith) at)

length-change_at : (lane : ℕ) (f : OpenEnd → OpenEnd) (xs : List OpenEnd) → length (change_at lane f xs) ≡ length xs
length-change_at lane f [] = refl
length-change_at zero f (y ∷ ys) = refl
length-change_at (suc lane) f (y ∷ ys) = ap suc (length-change_at lane f ys)

all_changed : (P Q : OpenEnd → Type 0) (lane : ℕ) (f : OpenEnd → OpenEnd) (xs : List OpenEnd) → ((x : OpenEnd) → P x → Q x) → ((x : OpenEnd) → P x → Q (f x)) → All P xs → All Q (change_at lane f xs)
all_changed P Q lane f [] keep new h = All-nil Q
all_changed P Q zero f (y ∷ ys) keep new h =
    All-cons Q (f y) ys (new y (All-head P y ys h)) (λ k d lt. keep (get_or ys k d) (All-tail P y ys h k d lt))
all_changed P Q (suc lane) f (y ∷ ys) keep new h = All-cons Q y (change_at lane f ys) (keep y (All-head P y ys h)) (all_changed P Q lane f ys keep new (All-tail P y ys h))

pub same_identities : (lane : ℕ) (f : OpenEnd → OpenEnd) (xs : List OpenEnd) → ((x : OpenEnd) → identity (f x).put ≡ identity x.put) → identities (open_puts (change_at lane f xs)) ≡ identities (open_puts xs)
same_identities lane f [] h = refl
same_identities zero f (y ∷ ys) h = ap (λ p. p ∷ identities (open_puts ys)) (h y)
same_identities (suc lane) f (y ∷ ys) h = ap (λ l. identity y.put ∷ l) (same_identities lane f ys h)

pub same_marked : (lane : ℕ) (xs : List OpenEnd) → open_puts (change_at lane with_mark xs) ≡ open_puts xs
same_marked lane [] = refl
same_marked zero (y ∷ ys) = refl
same_marked (suc lane) (y ∷ ys) = ap (λ l. y.put ∷ l) (same_marked lane ys)

-- ---- an end at a lane after a change

record IsAfterChange (f : OpenEnd → OpenEnd) (xs : List OpenEnd) (lane : ℕ) (put : SenderEnd) : Type 0 where
  pub end : OpenEnd
  pub at : slice_get (open_puts xs) lane ≡ Some end.put
  pub now : put ≡ (f end).put

changed_at : (k : ℕ) (f : OpenEnd → OpenEnd) (xs : List OpenEnd) (lane : ℕ) (put : SenderEnd) → slice_get (open_puts (change_at k f xs)) lane ≡ Some put → ((lane ≢ k) × (slice_get (open_puts xs) lane ≡ Some put)) ⊎ ((lane ≡ k) × IsAfterChange f xs lane put)
changed_at k f [] lane put at = absurd (cc)
changed_at zero f (y ∷ ys) zero put at = inr (refl, record { end = y; at = refl; now = cc })
changed_at zero f (y ∷ ys) (suc lane) put at = inl ((λ e. omega arith), at)
changed_at (suc k) f (y ∷ ys) zero put at = inl ((λ e. omega arith), at)
changed_at (suc k) f (y ∷ ys) (suc lane) put at =
    ⊎_elim (λ (t : (lane ≢ k) × (slice_get (open_puts ys) lane ≡ Some put)). let n = t.0 in inl ((λ e. n (omega arith)), t.1))
    (λ (t : (lane ≡ k) × IsAfterChange f ys lane put). inr (ap suc t.0, record { end = t.1.end; at = t.1.at; now = t.1.now })) (changed_at k f ys lane put at)

-- ---- one more operation

numbered_push : (producer n : ℕ) (ops : List Op) (op : Op) → AreNumberedBy producer n ops → op.producer ≡ producer → op.number ≡ n + length ops → AreNumberedBy producer n (ops ++ op ∷ [])
numbered_push producer n [] op h p e = (p, omega arith, tt)
numbered_push producer n (o ∷ os) op h p e = (h.0, h.1, numbered_push producer (n + 1) os op h.2 p (omega arith))

ops_for-append : (lanes lane : ℕ) (a b : List Op) → ops_for lanes lane (a ++ b) ≡ ops_for lanes lane a ++ ops_for lanes lane b
ops_for-append lanes lane [] b = refl
ops_for-append lanes lane (o ∷ os) b =
    ⊎_elim (λ (e : (eqb (lane_of_document o.key lanes) lane ≡ true) × (lane_of_document o.key lanes ≡ lane)). rw e.0 (ap (λ l. o ∷ l) (ops_for-append lanes lane os b)))
    (λ (e : (eqb (lane_of_document o.key lanes) lane ≡ false) × (lane_of_document o.key lanes ≢ lane)). rw e.0 (ops_for-append lanes lane os b)) (eqb_tells (lane_of_document o.key lanes) lane)

ops_for-own : (lanes lane : ℕ) (ops : List Op) (op : Op) → lane_of_document op.key lanes ≡ lane → ops_for lanes lane (ops ++ op ∷ []) ≡ ops_for lanes lane ops ++ op ∷ []
ops_for-own lanes lane ops op e = ops_for-append lanes lane ops (op ∷ []) ∙ ap (λ l. ops_for lanes lane ops ++ l) (rw (eq-eqb (lane_of_document op.key lanes) lane e))

ops_for-other : (lanes lane : ℕ) (ops : List Op) (op : Op) → lane_of_document op.key lanes ≢ lane → ops_for lanes lane (ops ++ op ∷ []) ≡ ops_for lanes lane ops
ops_for-other lanes lane ops op n = ops_for-append lanes lane ops (op ∷ []) ∙ rw (ne_eqb (lane_of_document op.key lanes) lane n) (append-nil (ops_for lanes lane ops))

puts_more : (op : Op) (put : SenderEnd) → puts_of (one_more (Put op) put).sent ≡ puts_of put.sent ++ op ∷ []
puts_more op put = puts_of-append put.sent (message put.sender (length put.sent + 1) (Put op) ∷ [])

pub put_more : (producer count : ℕ) (ends : List OpenEnd) (ops : List Op) (op : Op) → op.producer ≡ producer → op.number ≡ count + 1 → HasPut producer count (open_puts ends) ops
    → HasPut producer (count + 1) (open_puts (change_at (lane_of_document op.key (length ends)) (with_sent (Put op)) ends)) (ops ++ op ∷ [])
put_more producer count ends ops op named number h =
    let k = lane_of_document op.key (length ends) in
    let f = with_sent (Put op) in
    let old_len : length (open_puts ends) ≡ length ends = length-map ends (λ (e : OpenEnd). e.put) in
    let len : length (open_puts (change_at k f ends)) ≡ length ends = length-map (change_at k f ends) (λ (e : OpenEnd). e.put) ∙ length-change_at k f ends in
    let many = h.counted in
    record {
      counted = length_push ops op ∙ omega arith;
      numbered = numbered_push producer 1 ops op h.numbered named (omega arith);
      senders = λ lane put at.
          ⊎_elim (λ (t : (lane ≢ k) × (slice_get (open_puts ends) lane ≡ Some put)). h.senders lane put t.1)
          (λ (t : (lane ≡ k) × IsAfterChange f ends lane put). ap (λ (p : SenderEnd). p.sender) t.1.now ∙ h.senders lane t.1.end.put t.1.at) (changed_at k f ends lane put at);
      sent = λ lane put at.
          ⊎_elim
          (λ (t : (lane ≢ k) × (slice_get (open_puts ends) lane ≡ Some put)).
          let n = t.0 in
          h.sent lane put t.1 ∙ ap (λ j. ops_for j lane ops) old_len ∙ sym (ops_for-other (length ends) lane ops op (λ e. n (sym e))) ∙ ap (λ j. ops_for j lane (ops ++ op ∷ [])) (sym len))
          (λ (t : (lane ≡ k) × IsAfterChange f ends lane put).
          ap (λ (p : SenderEnd). puts_of p.sent) t.1.now ∙ puts_more op t.1.end.put
          ∙ ap (λ l. l ++ op ∷ []) (h.sent lane t.1.end.put t.1.at ∙ ap (λ j. ops_for j lane ops) old_len)
          ∙ sym (ops_for-own (length ends) lane ops op (sym t.0)) ∙ ap (λ j. ops_for j lane (ops ++ op ∷ [])) (sym len)) (changed_at k f ends lane put at);
    }

-- ---- the producer afterwards

-- a producer with these ends
abbrev pub with_ends : ℕ → ℕ → ℕ → List OpenEnd → ProducerState
with_ends epoch producer put ends = record { epoch = epoch; producer = producer; put = put; ends = ends }

own_more : (sender count k : ℕ) (body : Body) (ends : List OpenEnd) → AreEndsOf sender count ends → AreEndsOf sender (count + 1) (change_at k (with_sent body) ends)
own_more sender count k body ends h =
    let P : OpenEnd → Type 0 = λ e. (e.put.sender ≡ sender) × (length e.put.sent ≤ count) in
    let Q : OpenEnd → Type 0 = λ e. (e.put.sender ≡ sender) × (length e.put.sent ≤ count + 1) in
    let keep : (x : OpenEnd) → P x → Q x = λ x p. (p.0, omega arith) in
    let new : (x : OpenEnd) → P x → Q (with_sent body x) = λ x p.
    let n = length_push x.put.sent (message x.put.sender (length x.put.sent + 1) body) in (p.0, omega arith) in
    all_changed P Q k (with_sent body) ends keep new h

own_marked : (sender count k : ℕ) (ends : List OpenEnd) → AreEndsOf sender count ends → AreEndsOf sender count (change_at k with_mark ends)
own_marked sender count k ends h =
    let P : OpenEnd → Type 0 = λ e. (e.put.sender ≡ sender) × (length e.put.sent ≤ count) in
    let keep : (x : OpenEnd) → P x → P x = λ x p. p in
    let new : (x : OpenEnd) → P x → P (with_mark x) = λ x p. p in
    all_changed P P k with_mark ends keep new h

lanes_changed : (k : ℕ) (f : OpenEnd → OpenEnd) (ends : List OpenEnd) → HasLanes ends → HasLanes (change_at k f ends)
lanes_changed k f ends h = let n = length-change_at k f ends in (omega arith, omega arith)

pub producer_puts : (epoch producer count : ℕ) (ends new : List OpenEnd) (op : Op) → op.producer ≡ producer → op.number ≡ count + 1 → count < 2 ^ 40 → new ≡ change_at (lane_of_document op.key (length ends)) (with_sent (Put op)) ends
    → IsProducer (with_ends epoch producer count ends) → IsProducer (with_ends epoch producer (count + 1) new)
producer_puts epoch producer count ends new op named number room is p =
    let k = lane_of_document op.key (length ends) in
    subst (λ (es : List OpenEnd). IsProducer (with_ends epoch producer (count + 1) es)) (sym is)
    (record {
      lanes = lanes_changed k (with_sent (Put op)) ends p.lanes;
      limit = omega arith;
      own = own_more producer count k (Put op) ends p.own;
      shown = (p.shown.0 ++ op ∷ [], put_more producer count ends p.shown.0 op named number p.shown.1);
    })

pub producer_marks : (epoch producer count k : ℕ) (ends new : List OpenEnd) → new ≡ change_at k with_mark ends → IsProducer (with_ends epoch producer count ends) → IsProducer (with_ends epoch producer count new)
producer_marks epoch producer count k ends new is p =
    subst (λ (es : List OpenEnd). IsProducer (with_ends epoch producer count es)) (sym is)
    (record {
      lanes = lanes_changed k with_mark ends p.lanes;
      limit = p.limit;
      own = own_marked producer count k ends p.own;
      shown = (p.shown.0, subst (λ (ps : List SenderEnd). HasPut producer count ps p.shown.0) (sym (same_marked k ends)) p.shown.1);
    })

-- there are as many ends as before
pub same_count : (k : ℕ) (f : OpenEnd → OpenEnd) (ends new : List OpenEnd) → new ≡ change_at k f ends → length new ≡ length ends
same_count k f ends new is = ap length is ∙ length-change_at k f ends

-- the lane of the document, among as many lanes as there are ends
pub at_lane : (key : DocKey) (f : OpenEnd → OpenEnd) (ends new : List OpenEnd) (lane count : ℕ) → new ≡ change_at lane f ends → lane ≡ lane_of_document key count → count ≡ length ends → new ≡ change_at (lane_of_document key (length ends)) f ends
at_lane key f ends new lane count e at len = e ∙ ap (λ k. change_at k f ends) (at ∙ ap (lane_of_document key) len)

-- ---- what a call says of an Ok and of an Err, for the one that came

pub on_ok : {T E P : Type 0} (r : Result T E) → true ≡ is_ok r → OnOk r P → P
on_ok (Ok x) e h = h
on_ok (Err x) e h = absurd (cc)

pub on_err : {T E P : Type 0} (r : Result T E) → false ≡ is_ok r → OnErr r P → P
on_err (Ok x) e h = absurd (cc)
on_err (Err x) e h = h

-- ---- a lane that is marked

-- the end at a lane says whether the lane is marked
pub gone_here : (xs : List OpenEnd) (lane : ℕ) (x : OpenEnd) → lane < length xs → x ≡ get_or xs lane x → is_gone_at xs lane ≡ x.gone
gone_here [] lane x lt at = absurd (omega arith)
gone_here (y ∷ ys) zero x lt at = ap (λ (e : OpenEnd). e.gone) (sym at)
gone_here (y ∷ ys) (suc lane) x lt at = gone_here ys lane x (omega arith) at

-- to mark a lane that is marked changes nothing
pub marked_already : (xs : List OpenEnd) (lane : ℕ) → is_gone_at xs lane ≡ true → xs ≡ change_at lane with_mark xs
marked_already [] lane gone = refl
marked_already (y ∷ ys) zero gone = λ i. record { put = y.put; gone = gone i } ∷ ys
marked_already (y ∷ ys) (suc lane) gone = ap (λ l. y ∷ l) (marked_already ys lane gone)
