-- The close of each lane's end keeps what was put.
use Rattle.std.proofs.Common.{◌≡◌, ℕ, zero, suc, ◌+◌, List, [], ◌∷◌, ◌++◌, length, sym, refl, ap, ◌∙◌, arith, append-nil, append_assoc}
use Rattle.std.specs.Prelude.{Some}
use Rattle.std.proofs.lemmas.List.{length-map}
use Rattle.std.specs.List.{All, AllZip, slice_get}
use Rattle.std.proofs.lemmas.List.Elements.{All-nil, All-cons, All-head, All-tail}
use Rattle.relay_action.specs.declared.operation.Op.{Op}
use Rattle.relay_action.specs.declared.mail.Mail.{Mail}
use Rattle.relay_action.specs.declared.mail.Body.TheVariants.{Done}
use Rattle.relay_queue.specs.Messages.{message}
use Rattle.relay_queue.specs.Ends.{Queue, SenderEnd}
use Rattle.relay_producer.specs.declared.ends.OpenEnd.{OpenEnd}
use Rattle.relay_producer.specs.declared.ends.ClosedEnd.{ClosedEnd}
use Rattle.relay_producer.specs.declared.ends.ClosedEnd.TheVariants.{Closed, Gone}
use Rattle.relay_producer.specs.Ends.{Closes, end_of, open_puts, closed_puts, identity, identities, IsClosedBy}
use Rattle.relay_producer.specs.Puts.{puts_in, puts_of, ops_for, HasPut, HaveNoPuts}
use Rattle.relay_producer.specs.States.{HasLanes, IsProducer, IsClosedProducer, IsControl, IsClosedControl}

pub puts_of-append : (a b : List Mail) → puts_of (a ++ b) ≡ puts_of a ++ puts_of b
puts_of-append [] b = refl
puts_of-append (m ∷ ms) b = ap (λ l. puts_in m.body ++ l) (puts_of-append ms b) ∙ sym (append_assoc (puts_in m.body) (puts_of ms) (puts_of b))

-- what one end keeps
same_identity : (x : OpenEnd) (y : ClosedEnd) → Closes x y → identity (end_of y) ≡ identity x.put
same_identity x (Closed p) h = ap identity h.1
same_identity x (Gone p) h = ap identity h

same_puts : (x : OpenEnd) (y : ClosedEnd) → Closes x y → puts_of (end_of y).sent ≡ puts_of x.put.sent
same_puts x (Closed p) h =
    ap (λ (q : SenderEnd). puts_of q.sent) h.1 ∙ puts_of-append x.put.sent (message x.put.sender (length x.put.sent + 1) Done ∷ []) ∙ append-nil (puts_of x.put.sent)
same_puts x (Gone p) h = ap (λ (q : SenderEnd). puts_of q.sent) h

pub closed_identities : (old : List OpenEnd) (new : List ClosedEnd) → AllZip Closes old new → identities (closed_puts new) ≡ identities (open_puts old)
closed_identities [] [] h = refl
closed_identities [] (y ∷ ys) h = absurd h
closed_identities (x ∷ xs) [] h = absurd h
closed_identities (x ∷ xs) (y ∷ ys) h =
    let e = same_identity x y h.0 in
    let r = closed_identities xs ys h.1 in
    (λ i. e i ∷ r i)

-- the end before that of a lane
record Before (old : List OpenEnd) (lane : ℕ) (put : SenderEnd) : Type 0 where
  pub end : OpenEnd
  pub at : slice_get (open_puts old) lane ≡ Some end.put
  pub sender : put.sender ≡ end.put.sender
  pub sent : puts_of put.sent ≡ puts_of end.put.sent

closed_at : (old : List OpenEnd) (new : List ClosedEnd) (lane : ℕ) (put : SenderEnd) → AllZip Closes old new → slice_get (closed_puts new) lane ≡ Some put → Before old lane put
closed_at [] [] lane put h at = absurd (cc)
closed_at [] (y ∷ ys) lane put h at = absurd h
closed_at (x ∷ xs) [] lane put h at = absurd h
closed_at (x ∷ xs) (y ∷ ys) zero put h at =
    let is : put ≡ end_of y = cc in
    record {
      end = x;
      at = refl;
      sender = ap (λ (q : SenderEnd). q.sender) is ∙ ap (λ (q : Queue × ℕ). q.1) (same_identity x y h.0);
      sent = ap (λ (q : SenderEnd). puts_of q.sent) is ∙ same_puts x y h.0;
    }
closed_at (x ∷ xs) (y ∷ ys) (suc lane) put h at =
    let r = closed_at xs ys lane put h.1 at in
    record { end = r.end; at = r.at; sender = r.sender; sent = r.sent }

pub zip_push : (old : List OpenEnd) (new : List ClosedEnd) (x : OpenEnd) (y : ClosedEnd) → AllZip Closes old new → Closes x y → AllZip Closes (old ++ x ∷ []) (new ++ y ∷ [])
zip_push [] [] x y h c = (c, tt)
zip_push [] (b ∷ bs) x y h c = absurd h
zip_push (a ∷ as') [] x y h c = absurd h
zip_push (a ∷ as') (b ∷ bs) x y h c = (h.0, zip_push as' bs x y h.1 c)

-- the end that comes next leaves the ends in their order
pub in_turn : (before rest left all : List OpenEnd) (x : OpenEnd) → rest ≡ x ∷ left → before ++ rest ≡ all → (before ++ x ∷ []) ++ left ≡ all
in_turn before rest left all x e h = append_assoc before (x ∷ []) left ∙ ap (λ r. before ++ r) (sym e) ∙ h

count_kept : (old : List OpenEnd) (new : List ClosedEnd) → AllZip Closes old new → length new ≡ length old
count_kept [] [] h = refl
count_kept [] (y ∷ ys) h = absurd h
count_kept (x ∷ xs) [] h = absurd h
count_kept (x ∷ xs) (y ∷ ys) h = ap suc (count_kept xs ys h.1)

same_length : (old : List OpenEnd) (new : List ClosedEnd) → AllZip Closes old new → length (closed_puts new) ≡ length (open_puts old)
same_length old new h = length-map new end_of ∙ count_kept old new h ∙ sym (length-map old (λ (e : OpenEnd). e.put))

pub put_kept : (producer count : ℕ) (old : List OpenEnd) (new : List ClosedEnd) (ops : List Op) → AllZip Closes old new → HasPut producer count (open_puts old) ops → HasPut producer count (closed_puts new) ops
put_kept producer count old new ops h p = record {
  counted = p.counted;
  numbered = p.numbered;
  senders = λ lane put at. let b = closed_at old new lane put h at in b.sender ∙ p.senders lane b.end.put b.at;
  sent = λ lane put at.
      let b = closed_at old new lane put h at in
      b.sent ∙ p.sent lane b.end.put b.at ∙ ap (λ n. ops_for n lane ops) (sym (same_length old new h));
}

-- each is closed by its sender
closed_by : (sender : ℕ) (x : OpenEnd) (y : ClosedEnd) → x.put.sender ≡ sender → Closes x y → IsClosedBy sender y
closed_by sender x (Closed p) e h =
    let mine : p.sender ≡ sender = ap (λ (q : SenderEnd). q.sender) h.1 ∙ e in
    (mine, (x.put.sent, ap (λ (q : SenderEnd). q.sent) h.1 ∙ ap (λ s. x.put.sent ++ message s (length x.put.sent + 1) Done ∷ []) e))
closed_by sender x (Gone p) e h = ap (λ (q : SenderEnd). q.sender) h ∙ e

pub all_closed_by : (sender : ℕ) (old : List OpenEnd) (new : List ClosedEnd) → All (λ e. e.put.sender ≡ sender) old → AllZip Closes old new → All (IsClosedBy sender) new
all_closed_by sender [] [] own h = All-nil (IsClosedBy sender)
all_closed_by sender [] (y ∷ ys) own h = absurd h
all_closed_by sender (x ∷ xs) [] own h = absurd h
all_closed_by sender (x ∷ xs) (y ∷ ys) own h =
    let P : OpenEnd → Type 0 = λ e. e.put.sender ≡ sender in
    All-cons (IsClosedBy sender) y ys (closed_by sender x y (All-head P x xs own) h.0) (all_closed_by sender xs ys (All-tail P x xs own) h.1)

lanes_kept : (old : List OpenEnd) (new : List ClosedEnd) → AllZip Closes old new → HasLanes old → HasLanes new
lanes_kept old new h lanes = let n = count_kept old new h in (omega arith, omega arith)

pub producer_closed : (epoch producer put : ℕ) (old : List OpenEnd) (new : List ClosedEnd) → AllZip Closes old new → IsProducer (record { epoch = epoch; producer = producer; put = put; ends = old }) → IsClosedProducer (record { producer = producer; put = put; ends = new })
producer_closed epoch producer put old new h p = record {
  lanes = lanes_kept old new h p.lanes;
  own = all_closed_by producer old new (λ k d lt. (p.own k d lt).0) h;
  shown = (p.shown.0, put_kept producer put old new p.shown.0 h p.shown.1);
}

-- the close sends no operation
no_puts_closed : (old : List OpenEnd) (new : List ClosedEnd) → AllZip Closes old new → HaveNoPuts (open_puts old) → HaveNoPuts (closed_puts new)
no_puts_closed [] [] h none = tt
no_puts_closed [] (y ∷ ys) h none = absurd h
no_puts_closed (x ∷ xs) [] h none = absurd h
no_puts_closed (x ∷ xs) (y ∷ ys) h none = (same_puts x y h.0 ∙ none.0, no_puts_closed xs ys h.1 none.1)

pub control_closed : (sender : ℕ) (old : List OpenEnd) (new : List ClosedEnd) → AllZip Closes old new → IsControl (record { sender = sender; ends = old }) → IsClosedControl (record { sender = sender; ends = new })
control_closed sender old new h p = record {
  lanes = lanes_kept old new h p.lanes;
  own = all_closed_by sender old new p.own h;
  no_puts = no_puts_closed old new h p.no_puts;
}
