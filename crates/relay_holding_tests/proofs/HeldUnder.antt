-- Versions below a bound stay below it.
use Rattle.std.proofs.Common.{◌≡◌, ℕ, ◌+◌, List, [], ◌∷◌, ◌++◌, refl, sym, ap, ◌∙◌, subst, ⊎_elim, arith}
use Rattle.std.specs.Prelude.{Result, Ok, Err, OnOk, OnErr, Option, Some, None, slice_get, option_map}
use Rattle.relay_held.specs.declared.held.NotHeld.{NotHeld}
use Rattle.relay_action.specs.declared.key.DocKey.{DocKey}
use Rattle.relay_results.proofs.Lists.{true_or_false}
use Rattle.relay_held.specs.declared.kept.Kept.{Kept}
use Rattle.relay_held.specs.declared.kept.Candidate.{Candidate}
use Rattle.relay_held.specs.Operations.{launch_one, candidate_of}
use Rattle.relay_held.specs.Queues.{AllUnder, is_of, with_first, without_first, candidates_kept, Holding}
use Rattle.relay_held.proofs.Changing.{Keeps}
use Rattle.relay_held.proofs.Holding.{launch_keeps}

pub under_more : (v : ℕ) (hs : List Kept) → AllUnder v hs → AllUnder (v + 1) hs
under_more v [] a = tt
under_more v (h ∷ hs) a = (omega (arith, a.0), under_more v hs a.1)

pub under_push : (v : ℕ) (hs : List Kept) (x : Kept) → x.version ≡ v → AllUnder v hs → AllUnder (v + 1) (hs ++ x ∷ [])
under_push v [] x e a = (omega (arith, e), tt)
under_push v (h ∷ hs) x e a = (omega (arith, a.0), under_push v hs x e a.1)

pub under_with : (v : ℕ) (k : DocKey) (f : Kept → Kept) (hs : List Kept) → Keeps f → AllUnder v hs → AllUnder v (with_first k f hs)
under_with v k f [] p a = tt
under_with v k f (h ∷ hs) p a = ⊎_elim {C = AllUnder v (with_first k f (h ∷ hs))}
    (λ t. let e = p.version h in rw t (omega (arith, a.0, e), a.1))
    (λ g. rw g (a.0, under_with v k f hs p a.1))
    (true_or_false (is_of k h))

pub under_without : (v : ℕ) (k : DocKey) (hs : List Kept) → AllUnder v hs → AllUnder v (without_first k hs)
under_without v k [] a = tt
under_without v k (h ∷ hs) a = ⊎_elim {C = AllUnder v (without_first k (h ∷ hs))}
    (λ t. rw t a.1)
    (λ g. rw g (a.0, under_without v k hs a.1))
    (true_or_false (is_of k h))

-- it is held, or nothing changed
pub under_either : (r : Result (Unit {0}) NotHeld) (v : ℕ) (old new : Holding) (x : Kept) → x.version ≡ v → OnOk r (new.list ≡ old.list ++ x ∷ []) → OnErr r (new ≡ old) → AllUnder v old.list → AllUnder (v + 1) new.list
under_either (Ok u) v old new x e a b under = subst (AllUnder (v + 1)) (sym a) (under_push v old.list x e under)
under_either (Err f) v old new x e a b under = subst (λ (s : Holding). AllUnder (v + 1) s.list) (sym b) (under_more v old.list under)

-- the first that may be sent is sent
pub under_launch : (v number place looks : ℕ) (old mid new : Holding) (x : Candidate) → mid ≡ record old { looks = looks } → Some x ≡ option_map candidate_of (slice_get (candidates_kept old.list old.clock) 0)
    → ((h : Kept) → slice_get (candidates_kept mid.list mid.clock) 0 ≡ Some h → new.list ≡ with_first h.key (launch_one mid.clock number place) mid.list) → AllUnder v old.list → AllUnder v new.list
under_launch v number place looks old mid new x same found sent under = by (slice_get (candidates_kept old.list old.clock) 0) refl found
  where
    by : (o : Option Kept) → slice_get (candidates_kept old.list old.clock) 0 ≡ o → Some x ≡ option_map candidate_of o → AllUnder v new.list
    by None is e = absurd (cc)
    by (Some h) is e =
        subst (AllUnder v) (sym (sent h (ap (λ (s : Holding). slice_get (candidates_kept s.list s.clock) 0) same ∙ is)))
        (under_with v h.key (launch_one mid.clock number place) mid.list (launch_keeps mid.clock number place) (subst (λ (s : Holding). AllUnder v s.list) (sym same) under))
