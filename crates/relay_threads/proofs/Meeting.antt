-- What was taken is met with what each sender sent, sender by sender.
use Rattle.std.proofs.Common.{◌≡◌, ℕ, ◌+◌, List, [], ◌∷◌, ◌++◌, length, sym, refl, ap, ◌∙◌, subst, arith, append-nil, append_assoc, length-append}
use Rattle.relay_action.specs.declared.mail.Mail.{Mail}
use Rattle.relay_queue.specs.Ends.{Queue}
use Rattle.relay_producer.specs.declared.ends.ClosedEnd.{ClosedEnd}
use Rattle.relay_threads.specs.Sums.{IsClosedOn, AreClosedOn, IsMet, AreMet}

-- this many were met, and the others are left
pub record MeetsOn (queue : Queue) (taken : List Mail) (column left : List ClosedEnd) (sender : ℕ) : Type 0 where
  pub met : List ClosedEnd
  pub all : column ≡ met ++ left
  pub each : AreMet 0 taken met
  pub so_far : length met ≡ sender
  pub closed : AreClosedOn queue sender left

pub meets_none : (queue : Queue) (taken : List Mail) (column : List ClosedEnd) → AreClosedOn queue 0 column → MeetsOn queue taken column column 0
meets_none queue taken column c = record { met = []; all = refl; each = tt; so_far = refl; closed = c }

met_more : (p n : ℕ) (taken : List Mail) (es : List ClosedEnd) (e : ClosedEnd) → AreMet p taken es → p + length es ≡ n → IsMet n taken e → AreMet p taken (es ++ e ∷ [])
met_more p n taken [] e a at m = (subst (λ k. IsMet k taken e) (let x : n ≡ p = omega (arith, at) in x) m, tt)
met_more p n taken (x ∷ es) e a at m = (a.0, met_more (p + 1) n taken es e a.1 (omega (arith, at)) m)

pub here_closed : (queue : Queue) (taken : List Mail) (column left left' : List ClosedEnd) (sender : ℕ) (e : ClosedEnd) → MeetsOn queue taken column left sender → left ≡ e ∷ left' → IsClosedOn queue sender e
here_closed queue taken column left left' sender e m is = (subst (AreClosedOn queue sender) is m.closed).0

pub meets_on : (queue : Queue) (taken : List Mail) (column left left' : List ClosedEnd) (sender : ℕ) (e : ClosedEnd) → MeetsOn queue taken column left sender → left ≡ e ∷ left' → IsMet sender taken e → MeetsOn queue taken column left' (sender + 1)
meets_on queue taken column left left' sender e m is one =
    let at = m.so_far in
    let long : length (m.met ++ e ∷ []) ≡ length m.met + 1 = snoc_long m.met e in
    record {
      met = m.met ++ e ∷ [];
      all = m.all ∙ ap (λ l. m.met ++ l) is ∙ sym (append_assoc m.met (e ∷ []) left');
      each = met_more 0 sender taken m.met e m.each (omega (arith, at)) one;
      so_far = long ∙ ap (λ n. n + 1) at;
      closed = (subst (AreClosedOn queue sender) is m.closed).1;
    } where
      snoc_long : (xs : List ClosedEnd) (x : ClosedEnd) → length (xs ++ x ∷ []) ≡ length xs + 1
      snoc_long xs x = length-append xs (x ∷ [])

pub meets_all : (queue : Queue) (taken : List Mail) (column left : List ClosedEnd) (sender : ℕ) → MeetsOn queue taken column left sender → left ≡ [] → AreMet 0 taken column
meets_all queue taken column left sender m none = subst (AreMet 0 taken) (sym (m.all ∙ ap (λ l. m.met ++ l) none ∙ append-nil m.met)) m.each
