-- A handle over the ends of a sender that sent nothing.
use Rattle.std.proofs.Common.{◌≡◌, ℕ, ◌≤◌, List, [], ◌∷◌, length, map, sym, refl, ap, subst, arith}
use Rattle.std.specs.Prelude.{Some}
use Rattle.std.specs.List.{slice_get}
use Rattle.std.proofs.lemmas.List.{length-map}
use Rattle.std.proofs.lemmas.Option.{slice_get_within, get_or_from_slice_get}
use Rattle.std.proofs.lemmas.List.Elements.{All-map, All-weaker, All-head, All-tail}
use Rattle.relay_queue.specs.Ends.{SenderEnd, fresh}
use Rattle.relay_producer.specs.declared.ends.OpenEnd.{OpenEnd}
use Rattle.relay_producer.specs.Ends.{open_end, open_puts}
use Rattle.relay_producer.specs.Puts.{puts_of, HasPut, HaveNoPuts}
use Rattle.relay_producer.specs.States.{AreFresh, AreEndsOf, HasLanes, IsProducer, IsControl}

pub opened_puts : (puts : List SenderEnd) → open_puts (map open_end puts) ≡ puts
opened_puts [] = refl
opened_puts (p ∷ ps) = ap (λ l. p ∷ l) (opened_puts ps)

-- an end at a lane
fresh_at : (sender : ℕ) (puts : List SenderEnd) (lane : ℕ) (put : SenderEnd) → AreFresh sender puts → slice_get puts lane ≡ Some put → put ≡ fresh put.queue sender
fresh_at sender puts lane put h at =
    subst (λ (p : SenderEnd). p ≡ fresh p.queue sender) (get_or_from_slice_get puts lane put put at) (h lane put (slice_get_within puts lane put at))

-- it has put nothing
pub has_none : (sender : ℕ) (puts : List SenderEnd) → AreFresh sender puts → HasPut sender 0 puts []
has_none sender puts h = record {
  counted = refl;
  numbered = tt;
  senders = λ lane put at. ap (λ (p : SenderEnd). p.sender) (fresh_at sender puts lane put h at);
  sent = λ lane put at. ap (λ (p : SenderEnd). puts_of p.sent) (fresh_at sender puts lane put h at);
}

own_fresh : (sender : ℕ) (puts : List SenderEnd) → AreFresh sender puts → AreEndsOf sender 0 (map open_end puts)
own_fresh sender puts h =
    let P : OpenEnd → Type 0 = λ e. (e.put.sender ≡ sender) × (length e.put.sent ≤ 0) in
    let F : SenderEnd → Type 0 = λ p. p ≡ fresh p.queue sender in
    let step : (p : SenderEnd) → F p → P (open_end p) = λ p e. let none : length p.sent ≡ 0 = ap (λ (q : SenderEnd). length q.sent) e in (ap (λ (q : SenderEnd). q.sender) e, omega arith) in
    All-map P open_end puts (All-weaker F (λ p. P (open_end p)) step puts h)

lanes_opened : (puts : List SenderEnd) → HasLanes puts → HasLanes (map open_end puts)
lanes_opened puts h = let n : length (map open_end puts) ≡ length puts = length-map puts open_end in (omega arith, omega arith)

pub is_producer : (epoch sender : ℕ) (puts : List SenderEnd) → HasLanes puts → AreFresh sender puts → IsProducer (record { epoch = epoch; producer = sender; put = 0; ends = map open_end puts })
is_producer epoch sender puts lanes h = record {
  lanes = lanes_opened puts lanes;
  limit = omega arith;
  own = own_fresh sender puts h;
  shown = ([], subst (λ (ps : List SenderEnd). HasPut sender 0 ps []) (sym (opened_puts puts)) (has_none sender puts h));
}

-- it has sent no operation
pub fresh_no_puts : (sender : ℕ) (puts : List SenderEnd) → AreFresh sender puts → HaveNoPuts puts
fresh_no_puts sender [] h = tt
fresh_no_puts sender (p ∷ ps) h =
    let F : SenderEnd → Type 0 = λ q. q ≡ fresh q.queue sender in
    (ap (λ (q : SenderEnd). puts_of q.sent) (All-head F p ps h), fresh_no_puts sender ps (All-tail F p ps h))

pub is_control : (sender : ℕ) (puts : List SenderEnd) → HasLanes puts → AreFresh sender puts → IsControl (record { sender = sender; ends = map open_end puts })
is_control sender puts lanes h =
    let P : OpenEnd → Type 0 = λ e. e.put.sender ≡ sender in
    let F : SenderEnd → Type 0 = λ p. p ≡ fresh p.queue sender in
    let step : (p : SenderEnd) → F p → P (open_end p) = λ p e. ap (λ (q : SenderEnd). q.sender) e in
    record {
      lanes = lanes_opened puts lanes;
      own = All-map P open_end puts (All-weaker F (λ p. P (open_end p)) step puts h);
      no_puts = subst HaveNoPuts (sym (opened_puts puts)) (fresh_no_puts sender puts h);
    }
