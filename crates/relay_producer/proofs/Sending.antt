-- A signal goes to one lane after another.
use Rattle.std.proofs.Common.{◌≡◌, ◌≢◌, ℕ, zero, suc, ◌+◌, ◌<◌, ◌≤◌, true, false, eqb, List, [], ◌∷◌, ◌++◌, length, set, get_or, sym, refl, ap, ◌∙◌, subst, ⊎_elim, arith, length-set, get_or-set_other, get_or-set_same}
use Rattle.std.proofs.lemmas.Bool.Decides.{eqb_tells}
use Rattle.std.proofs.lemmas.List.{get_or_read}
use Rattle.std.proofs.lemmas.List.Sums.{sum_by-set}
use Rattle.relay_action.specs.declared.mail.Body.{Body}
use Rattle.relay_producer.specs.declared.ends.OpenEnd.{OpenEnd}
use Rattle.relay_queue.specs.Ends.{Queue}
use Rattle.relay_queue.specs.Messages.{message}
use Rattle.relay_producer.specs.Puts.{puts_in, puts_of, HaveNoPuts}
use Rattle.relay_producer.specs.States.{IsControl}
use Rattle.relay_producer.proofs.Closing.{puts_of-append}
use Rattle.relay_producer.specs.Ends.{Takes, IsSent, with_mark, count_sent, open_puts, identity, identities, IsSentToAll}

-- the first lanes were sent the message, which this many took, and the others are as before
pub record IsSentBelow (body : Body) (lane taken : ℕ) (old now : List OpenEnd) : Type 0 where
  pub lanes : length now ≡ length old
  pub done : (k : ℕ) (d : OpenEnd) → k < lane → IsSent body (get_or old k d) (get_or now k d)
  pub left : (k : ℕ) (d : OpenEnd) → lane ≤ k → get_or now k d ≡ get_or old k d
  pub count : count_sent old + taken ≡ count_sent now
  pub same : identities (open_puts now) ≡ identities (open_puts old)
  pub most : taken ≤ lane

pub begins : (body : Body) (old : List OpenEnd) → IsSentBelow body 0 0 old old
begins body old = record { lanes = refl; done = λ k d lt. absurd (omega arith); left = λ k d le. refl; count = omega arith; same = refl; most = omega arith }

-- a lane's end stays that of its queue and sender
sent_identity : (body : Body) (x y : OpenEnd) → IsSent body x y → identity y.put ≡ identity x.put
sent_identity body x y h =
    ⊎_elim (λ (t : Takes body x y). ap (λ (e : OpenEnd). identity e.put) t.sent)
    (λ m. ⊎_elim (λ (e : y ≡ with_mark x). ap (λ (z : OpenEnd). identity z.put) e) (λ (e : y ≡ x). ap (λ (z : OpenEnd). identity z.put) e) m) h

set_identity : (lane : ℕ) (xs : List OpenEnd) (x y : OpenEnd) → lane < length xs → x ≡ get_or xs lane x → identity y.put ≡ identity x.put → identities (open_puts (set xs lane y)) ≡ identities (open_puts xs)
set_identity lane [] x y lt at e = refl
set_identity zero (z ∷ zs) x y lt at e = ap (λ p. p ∷ identities (open_puts zs)) (e ∙ ap (λ (w : OpenEnd). identity w.put) at)
set_identity (suc lane) (z ∷ zs) x y lt at e = ap (λ l. identity z.put ∷ l) (set_identity lane zs x y (omega arith) at e)

-- one more lane
pub goes_on : (body : Body) (lane taken more : ℕ) (old now : List OpenEnd) (x y : OpenEnd) → IsSentBelow body lane taken old now → lane < length now → x ≡ get_or now lane x → IsSent body x y → length y.put.sent ≡ length x.put.sent + more → more ≤ 1
    → IsSentBelow body (lane + 1) (taken + more) old (set now lane y)
goes_on body lane taken more old now x y h lt at sent grown most =
    let here : (d : OpenEnd) → IsSent body (get_or old lane d) (get_or (set now lane y) lane d) = λ d.
    subst (λ (z : OpenEnd × OpenEnd). IsSent body z.0 z.1) (λ i. ((get_or_read now lane x lt at d ∙ h.left lane d (omega arith)) i, sym (get_or-set_same now lane y d lt) i)) sent in
    let before : (k : ℕ) (d : OpenEnd) → k ≢ lane → k < lane → IsSent body (get_or old k d) (get_or (set now lane y) k d) = λ k d n below.
    subst (λ z. IsSent body (get_or old k d) z) (sym (get_or-set_other now lane k y d n)) (h.done k d below) in
    let total = sum_by-set (λ (e : OpenEnd). length e.put.sent) now lane y x lt in
    let same : length x.put.sent ≡ length (get_or now lane x).put.sent = ap (λ (e : OpenEnd). length e.put.sent) at in
    let c = h.count in
    let m = h.most in
    record {
      lanes = length-set now lane y ∙ h.lanes;
      done = λ k d below.
          ⊎_elim (λ (t : (eqb k lane ≡ true) × (k ≡ lane)). subst (λ j. IsSent body (get_or old j d) (get_or (set now lane y) j d)) (sym t.1) (here d))
          (λ (t : (eqb k lane ≡ false) × (k ≢ lane)). let n = t.1 in before k d n (omega arith)) (eqb_tells k lane);
      left = λ k d le. let n : k ≢ lane = omega arith in get_or-set_other now lane k y d n ∙ h.left k d (omega arith);
      count = omega arith;
      same = set_identity lane now x y lt at (sent_identity body x y sent) ∙ h.same;
      most = omega arith;
    }

pub all_sent : (body : Body) (lane taken : ℕ) (old now : List OpenEnd) → IsSentBelow body lane taken old now → length old ≤ lane → IsSentToAll body old now
all_sent body lane taken old now h le = record { lanes = h.lanes; each = λ k d lt. h.done k d (omega arith) }

-- ---- the control afterwards

-- a message that is not an operation adds none
no_put_sent : (body : Body) (x y : OpenEnd) → puts_in body ≡ [] → IsSent body x y → puts_of x.put.sent ≡ [] → puts_of y.put.sent ≡ []
no_put_sent body x y silent h none =
    ⊎_elim (λ (t : Takes body x y).
    ap (λ (e : OpenEnd). puts_of e.put.sent) t.sent ∙ puts_of-append x.put.sent (message x.put.sender (length x.put.sent + 1) body ∷ [])
    ∙ ap (λ l. l ++ (puts_in body ++ [])) none ∙ ap (λ l. l ++ []) silent)
    (λ m. ⊎_elim (λ (e : y ≡ with_mark x). ap (λ (z : OpenEnd). puts_of z.put.sent) e ∙ none) (λ (e : y ≡ x). ap (λ (z : OpenEnd). puts_of z.put.sent) e ∙ none) m) h

no_puts_sent : (body : Body) (old new : List OpenEnd) → puts_in body ≡ [] → IsSentToAll body old new → HaveNoPuts (open_puts old) → HaveNoPuts (open_puts new)
no_puts_sent body [] [] silent h none = tt
no_puts_sent body [] (y ∷ ys) silent h none = absurd (let n = h.lanes in omega arith)
no_puts_sent body (x ∷ xs) [] silent h none = absurd (let n = h.lanes in omega arith)
no_puts_sent body (x ∷ xs) (y ∷ ys) silent h none =
    let n = h.lanes in
    let first : IsSent body x y = h.each 0 x (omega arith) in
    let later : IsSentToAll body xs ys = record { lanes = omega arith; each = λ lane d lt. h.each (suc lane) d (omega arith) } in
    (no_put_sent body x y silent first none.0, no_puts_sent body xs ys silent later none.1)

pub control_sends : (body : Body) (sender : ℕ) (old new : List OpenEnd) → puts_in body ≡ [] → IsSentToAll body old new → IsControl (record { sender = sender; ends = old }) → IsControl (record { sender = sender; ends = new })
control_sends body sender old new silent h p =
    let n = h.lanes in
    let lanes = p.lanes in
    record {
      lanes = (omega arith, omega arith);
      own = λ k d lt.
          let within : k < length old = omega arith in
          ap (λ (q : Queue × ℕ). q.1) (sent_identity body (get_or old k d) (get_or new k d) (h.each k d within)) ∙ p.own k d within;
      no_puts = no_puts_sent body old new silent h p.no_puts;
    }
