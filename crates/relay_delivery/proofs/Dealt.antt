-- A version has one operation; what requests carry.
use Rattle.std.proofs.Common.{◌≡◌, ℕ, ◌+◌, ◌<◌, List, [], ◌∷◌, ◌++◌, length, Some, true, refl, sym, ap, ◌∙◌, subst, ⊎_elim, inl, inr, arith}
use Rattle.std.specs.Prelude.{◌⊎◌, slice_get}
use Rattle.relay_action.specs.declared.write.Write.{Write}
use Rattle.relay_action.specs.declared.operation.Op.{Op}
use Rattle.relay_results.specs.Words.{Mem, update}
use Rattle.relay_results.specs.Documents.{write_for, same_write}
use Rattle.relay_results.specs.Outside.{Answer, Request, writes_of}
use Rattle.relay_delivery.specs.Causes.{carries, CarriedAt}
use Rattle.relay_results.proofs.Same.{same_write-true, same_write-self}
use Rattle.relay_delivery.specs.Machine.{Config, Held, write_of}
use Rattle.relay_results.proofs.Lists.{any_true, any_from, at-Mem, at-left, at-cases, at-within, Mem-at, at-update-cases}
use Rattle.relay_delivery.proofs.Facts.{IsDealt, IsOfOne, IsSent, HeldFact}

pub some_same : {A : Type 0} (x y : A) → Some x ≡ Some y → x ≡ y
some_same x y e = cc

module _ (g : Config) (taken : List Op) where
  -- a version is assigned to one operation
  pub dealt_once : (o p : Op) (v u : ℕ) → IsDealt g taken o v → IsDealt g taken p u → v ≡ u → o ≡ p
  dealt_once o p v u d e same =
      let place : d.place ≡ e.place = omega (arith, d.version, e.version, same) in
      some_same o p (sym d.stands ∙ ap (slice_get taken) place ∙ e.stands)

  pub write_once : (w x : Write) → IsOfOne g taken w → IsOfOne g taken x → w.version ≡ x.version → w ≡ x
  write_once w x a b same =
      let o = dealt_once a.op b.op w.version x.version a.dealt b.dealt same in
      a.write ∙ (λ i. write_for (o i) (same i)) ∙ sym b.write

  pub write_same : (w x : Write) → IsOfOne g taken w → IsOfOne g taken x → same_write w x ≡ true → w ≡ x
  write_same w x a b t = write_once w x a b (same_write-true w x t).version

  -- it was assigned before the next
  pub dealt_before : (o : Op) (v : ℕ) → IsDealt g taken o v → v < g.first + length taken
  dealt_before o v d = let w = at-within taken d.place o d.stands in omega (arith, d.version, w)

  pub dealt-more : (n o : Op) (v : ℕ) → IsDealt g taken o v → IsDealt g (taken ++ n ∷ []) o v
  dealt-more n o v d = record { place = d.place; stands = at-left taken (n ∷ []) d.place o d.stands; within = d.within; version = d.version }

  pub one-more : (n : Op) (w : Write) → IsOfOne g taken w → IsOfOne g (taken ++ n ∷ []) w
  one-more n w a = record { op = a.op; write = a.write; dealt = dealt-more n a.op w.version a.dealt }

  pub of_held : (requests : List Request) (h : Held) → HeldFact g taken requests h → IsOfOne g taken (write_of h)
  of_held requests h f = record { op = h.op; write = refl; dealt = f.dealt }

-- a request that carries a write has one at some place
pub carried_at : (requests : List Request) (number : ℕ) (q : Request) (w : Write) → slice_get requests number ≡ Some q → carries w q ≡ true → (place : ℕ) × CarriedAt requests w number place q
carried_at requests number q w s t =
    let x = any_true (same_write w) q.writes t in
    let p = Mem-at x.0 q.writes x.1 in
    (p.0, record { write = x.0; sent = s; stands = p.1; same = x.2 })

pub carries_at : (requests : List Request) (number place : ℕ) (q : Request) (w : Write) → CarriedAt requests w number place q → carries w q ≡ true
carries_at requests number place q w c = any_from (same_write w) c.write q.writes (at-Mem q.writes place c.write c.stands) c.same

pub carries_its : (w : Write) (q : Request) → Mem w q.writes → carries w q ≡ true
carries_its w q m = any_from (same_write w) w q.writes m (same_write-self w)

pub sent_by : (requests : List Request) (number : ℕ) (q : Request) (w : Write) → slice_get requests number ≡ Some q → Mem w q.writes → IsSent requests w
sent_by requests number q w s m = record { number = number; request = q; sent = s; is_in = m }

pub sent_at : (requests : List Request) (number place : ℕ) (q : Request) (w : Write) → (c : CarriedAt requests w number place q) → IsSent requests c.write
sent_at requests number place q w c = sent_by requests number q c.write c.sent (at-Mem q.writes place c.write c.stands)

pub sent-push_cases : (requests : List Request) (q : Request) (w : Write) → IsSent (requests ++ q ∷ []) w → IsSent requests w ⊎ Mem w q.writes
sent-push_cases requests q w s = ⊎_elim
    (λ l. inl (sent_by requests s.number s.request w l s.is_in))
    (λ r. inr (subst (λ (p : Request). Mem w p.writes) r.1 s.is_in))
    (at-cases requests q s.number s.request s.sent)

abbrev pub with_answer : Answer → Request → Request
with_answer a q = record { writes = writes_of q; answer = a }

pub sent_answered : (requests : List Request) (number : ℕ) (a : Answer) (w : Write) → IsSent (update number (with_answer a) requests) w → IsSent requests w
sent_answered requests number a w s = ⊎_elim
    (λ l. sent_by requests s.number s.request w l.1 s.is_in)
    (λ r. sent_by requests number r.1.0 w r.1.1 (subst (λ (p : Request). Mem w p.writes) r.1.2 s.is_in))
    (at-update-cases number (with_answer a) requests s.number s.request s.sent)
