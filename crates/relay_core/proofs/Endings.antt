-- Each operation ends once, and what is noted of one that ends as applied is true.
use Rattle.std.proofs.Common.{◌≡◌, ℕ, ◌+◌, List, [], ◌∷◌, Option, None, refl, ap, ⊎_elim, inl, inr, arith}
use Rattle.std.specs.Prelude.{◌⊎◌}
use Rattle.relay_action.specs.declared.write.Write.{Write}
use Rattle.relay_action.specs.declared.operation.OpName.{OpName}
use Rattle.relay_results.specs.Words.{Mem, count, one_if}
use Rattle.relay_results.specs.Numbers.{from_zero}
use Rattle.relay_results.specs.Documents.{name_of}
use Rattle.relay_results.specs.Outside.{Answer}
use Rattle.relay_results.specs.Fates.{Fate, Flies, Applied, Already, Retried, Halved, Reported}
use Rattle.relay_results.proofs.Lists.{Mem-one, Mem-cases, count-append}
use Rattle.relay_delivery.specs.Machine.{Held, fate_of, kept_one, reported_one, still_held, reports_from}
use Rattle.relay_delivery.specs.Lane.{held_of, tries_in}
use Rattle.relay_delivery.proofs.Fitting.{held_kept, ended_where}
use Rattle.relay_core.specs.declared.success.Success.{Success}
use Rattle.relay_core.specs.Successes.{status_of, success_of, successes_from}
use Rattle.relay_core.specs.State.{writes_of}
use Rattle.relay_core.specs.Endings.{is_held_as, is_success_as, is_report_as, EachEndsOnce, SuccessesAreTrue}

-- ---- once

ends_head : (n : OpName) (t : Fate) (status : Option ℕ) (h : Held)
    → one_if (is_held_as n h) ≡ count (is_held_as n) (kept_one t h) + count (is_success_as n) (success_of t status h) + count (is_report_as n) (reported_one t h)
ends_head n Flies status h = omega arith
ends_head n Applied status h = omega arith
ends_head n Already status h = omega arith
ends_head n Retried status h = omega arith
ends_head n (Halved cap) status h = omega arith
ends_head n (Reported cause) status h = omega arith

ends_all : (allowed : ℕ → ℕ) (number : ℕ) (ws : List Write) (a : Answer) (n : OpName) (hs : List Held)
    → count (is_held_as n) hs ≡ count (is_held_as n) (still_held allowed number ws a hs) + count (is_success_as n) (successes_from allowed number ws a hs) + count (is_report_as n) (reports_from allowed number ws a hs)
ends_all allowed number ws a n [] = refl
ends_all allowed number ws a n (h ∷ hs) =
    let t = fate_of allowed number ws a h h.flies in
    let status = status_of ws a h.flies in
    let e = ends_head n t status h in
    let r = ends_all allowed number ws a n hs in
    let x = count-append (is_held_as n) (kept_one t h) (still_held allowed number ws a hs) in
    let y = count-append (is_success_as n) (success_of t status h) (successes_from allowed number ws a hs) in
    let z = count-append (is_report_as n) (reported_one t h) (reports_from allowed number ws a hs) in
    omega arith

pub each_ends_once : EachEndsOnce
each_ends_once s number a n =
    let allowed = tries_in s.core in
    let ws = writes_of number s in
    let e = ends_all allowed (from_zero number) ws a n (held_of s.core.held) in
    let k = ap (count (is_held_as n)) (held_kept allowed s.core.clock (from_zero number) ws a s.core.held) in
    omega arith

-- ---- true

Ends : (ℕ → ℕ) → ℕ → List Write → Answer → Success → Held → Type 0
Ends allowed number ws a x h = ((fate_of allowed number ws a h h.flies ≡ Applied) ⊎ (fate_of allowed number ws a h h.flies ≡ Already)) × (x.name ≡ name_of h.op) × (x.version ≡ h.version)

success_head : (t : Fate) (status : Option ℕ) (h : Held) (x : Success) → Mem x (success_of t status h) → ((t ≡ Applied) ⊎ (t ≡ Already)) × (x.name ≡ name_of h.op) × (x.version ≡ h.version)
success_head Flies status h x m = elim m [ ]
success_head Applied status h x m =
    let e = Mem-one x (record { name = name_of h.op; version = h.version; status = status }) m in (inl refl, ap (λ (z : Success). z.name) e, ap (λ (z : Success). z.version) e)
success_head Already status h x m =
    let e = Mem-one x (record { name = name_of h.op; version = h.version; status = None }) m in (inr refl, ap (λ (z : Success). z.name) e, ap (λ (z : Success). z.version) e)
success_head Retried status h x m = elim m [ ]
success_head (Halved cap) status h x m = elim m [ ]
success_head (Reported cause) status h x m = elim m [ ]

success_from : (allowed : ℕ → ℕ) (number : ℕ) (ws : List Write) (a : Answer) (hs : List Held) (x : Success) → Mem x (successes_from allowed number ws a hs) → (h : Held) × Mem h hs × Ends allowed number ws a x h
unfolding Ends
success_from allowed number ws a [] x m = elim m [ ]
success_from allowed number ws a (h ∷ hs) x m = ⊎_elim
    (λ y. (h, inl refl, success_head (fate_of allowed number ws a h h.flies) (status_of ws a h.flies) h x y))
    (λ y. let r = success_from allowed number ws a hs x y in (r.0, inr r.1, r.2))
    (Mem-cases x (success_of (fate_of allowed number ws a h h.flies) (status_of ws a h.flies) h) (successes_from allowed number ws a hs) m)

pub successes_are_true : SuccessesAreTrue
unfolding Ends
successes_are_true s number a taken out flies may fits x m =
    let r = success_from (tries_in s.core) (from_zero number) (writes_of number s) a (held_of s.core.held) x m in
    record {
      held = r.0;
      was_held = r.1;
      name = r.2.1;
      version = r.2.2;
      applied = ended_where s.core number a taken out flies may fits r.0 r.1 r.2.0;
    }
