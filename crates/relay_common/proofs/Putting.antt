-- What producers put, under their names.
use Rattle.std.proofs.Common.{◌≡◌, ℕ, zero, suc, ◌+◌, List, [], ◌∷◌, ◌++◌, map, get_or, refl, sym, ap, subst, ◌∙◌, arith, append-nil, append_assoc}
use Rattle.std.specs.Prelude.{Some, slice_get}
use Rattle.relay_action.specs.declared.operation.Op.{Op}
use Rattle.relay_ndjson.specs.Operations.{Operation}
use Rattle.relay_queue.specs.Ends.{Queue, SenderEnd, fresh}
use Rattle.relay_producer.specs.Ends.{open_end, open_puts, closed_puts}
use Rattle.relay_producer.specs.Puts.{puts_of, HasPut}
use Rattle.relay_producer.specs.States.{ProducerState, ClosedProducerState, next_op, after_put}
use Rattle.relay_producer.proofs.Putting.{put_more}
use Rattle.relay_threads.specs.DeliveryOfAll.{HavePut}
use Rattle.relay_threads.specs.Relay.{new_producer}
use Rattle.relay_common.specs.Putting.{after_puts, named_ops}

-- the operations that it was fed are added to what it had put, with their names
pub put_on : (s : ProducerState) (done : List Op) (ops : List Operation) → HasPut s.producer s.put (open_puts s.ends) done
    → HasPut s.producer (after_puts s ops).put (open_puts (after_puts s ops).ends) (done ++ named_ops s.epoch s.producer (s.put + 1) ops)
put_on s done [] h = subst (HasPut s.producer s.put (open_puts s.ends)) (sym (append-nil done)) h
put_on s done (op ∷ ops) h =
    let next = next_op op.0 op.1 s in
    let t = after_put op.0 op.1 s in
    let more : HasPut t.producer t.put (open_puts t.ends) (done ++ next ∷ []) = put_more s.producer s.put s.ends done next refl refl h in
    subst (HasPut s.producer (after_puts t ops).put (open_puts (after_puts t ops).ends)) (append_assoc done (next ∷ []) (named_ops s.epoch s.producer (t.put + 1) ops)) (put_on t (done ++ next ∷ []) ops more)

same_producer : (s : ProducerState) (ops : List Operation) → (after_puts s ops).producer ≡ s.producer
same_producer s [] = refl
same_producer s (op ∷ ops) = same_producer (after_put op.0 op.1 s) ops

-- an end of a new producer
record IsFresh (p : ℕ) (put : SenderEnd) : Type 0 where
  pub sender : put.sender ≡ p
  pub sent : put.sent ≡ []

fresh_at : (queues : List Queue) (p lane : ℕ) (put : SenderEnd) → slice_get (open_puts (map (λ q. open_end (fresh q p)) queues)) lane ≡ Some put → IsFresh p put
fresh_at [] p lane put at = absurd (cc)
fresh_at (q ∷ qs) p zero put at =
    let is : put ≡ fresh q p = cc in
    record { sender = ap (λ (x : SenderEnd). x.sender) is; sent = ap (λ (x : SenderEnd). x.sent) is }
fresh_at (q ∷ qs) p (suc lane) put at = fresh_at qs p lane put at

pub new_none : (queues : List Queue) (epoch p : ℕ) → HasPut p 0 (open_puts (new_producer queues epoch p).ends) []
new_none queues epoch p = record {
  counted = refl;
  numbered = tt;
  senders = λ lane put at. (fresh_at queues p lane put at).sender;
  sent = λ lane put at. ap puts_of (fresh_at queues p lane put at).sent;
}

-- what they put
abbrev pub HavePutAs : ℕ → ℕ → List (List Operation) → List ClosedProducerState → Type 0
HavePutAs epoch p [] [] = Unit {0}
HavePutAs epoch p [] (c ∷ cs) = ⊥
HavePutAs epoch p (o ∷ os) [] = ⊥
HavePutAs epoch p (o ∷ os) (c ∷ cs) = HasPut p c.put (closed_puts c.ends) (named_ops epoch p 1 o) × HavePutAs epoch (p + 1) os cs

pub put_at : (epoch p : ℕ) (all : ℕ → List Operation) (os : List (List Operation)) (cs : List ClosedProducerState) → ((k : ℕ) → all (p + k) ≡ get_or os k []) → HavePutAs epoch p os cs → HavePut (λ q. named_ops epoch q 1 (all q)) p cs
put_at epoch p all [] [] e h = tt
put_at epoch p all [] (c ∷ cs) e h = absurd h
put_at epoch p all (o ∷ os) [] e h = absurd h
put_at epoch p all (o ∷ os) (c ∷ cs) e h =
    let here : all p ≡ o = ap all (let z : p ≡ p + 0 = omega arith in z) ∙ e 0 in
    (subst (λ x. HasPut p c.put (closed_puts c.ends) (named_ops epoch p 1 x)) (sym here) h.0, put_at epoch (p + 1) all os cs (λ k. ap all (let z : p + 1 + k ≡ p + suc k = omega arith in z) ∙ e (suc k)) h.1)
