-- One candidate after another is asked for.
use Rattle.std.proofs.Common.{◌≡◌, ◌∙◌, ℕ, ◌+◌, ◌≤◌, ◌∷◌, ⊎_elim, List, Option, Some, sym, ap, arith, drop}
use Rattle.std.specs.Prelude.{◌⊎◌, map, min, nat_lt, slice_get, option_map, if◌then◌else◌}
use Rattle.std.proofs.Common.{inl, inr}
use Rattle.std.proofs.lemmas.Bool.{ltb-false}
use Rattle.relay_results.proofs.Lists.{true_or_false}
use Rattle.relay_batch.specs.declared.offer.Offer.{Offer}
use Rattle.relay_batch.specs.declared.offer.Offer.TheVariants.{Busy, Closed, Added}
use Rattle.relay_held.specs.declared.kept.Candidate.{Candidate}
use Rattle.relay_held.specs.declared.kept.Kept.{Kept}
use Rattle.relay_held.specs.Operations.{candidate_of}
use Rattle.relay_held.specs.Queues.{Holding, candidates_kept, looked}
use Rattle.relay_core.specs.Walk.{item_of_kept}
use Rattle.relay_core.proofs.Going.{Asked, asked_for}

pub asked : (h held : Holding) (i : ℕ) (x : Candidate) (o : Option Candidate) → h ≡ held → o ≡ option_map candidate_of (slice_get (candidates_kept h.list h.clock) i) → o ≡ Some x → Asked (candidates_kept held.list held.clock) i x
asked h held i x o same found is = asked_for (candidates_kept held.list held.clock) i x (sym is ∙ found ∙ ap (λ (s : Holding). option_map candidate_of (slice_get (candidates_kept s.list s.clock) i)) same)

-- a candidate that was found is one more look
pub record OneMore (old new : ℕ) : Type 0 where
  pub most : new ≤ old + 1
  pub rise : old ≤ new
  pub one : min (old + 1) 18446744073709551615 ≤ new

one_more : (old new : ℕ) → new ≡ (if nat_lt old 18446744073709551615 then old + 1 else old) → OneMore old new
one_more old new is = ⊎_elim {C = OneMore old new}
    (λ t. let e = is ∙ ap (λ b. if b then old + 1 else old) t in record { most = omega (arith, e); rise = omega (arith, e); one = omega (arith, e) })
    (λ f. let ge = ltb-false old 18446744073709551615 f in let e = is ∙ ap (λ b. if b then old + 1 else old) f in record { most = omega (arith, e); rise = omega (arith, e); one = omega (arith, e, ge) })
    (true_or_false (nat_lt old 18446744073709551615))

pub looked_one : (old new : Holding) (o : Option Candidate) (x : Candidate) → new ≡ record old { looks = looked o old.looks } → o ≡ Some x → OneMore old.looks new.looks
looked_one old new o x same is = one_more old.looks new.looks (ap (λ (h : Holding). h.looks) same ∙ ap (λ p. looked p old.looks) is)

-- only the looks have changed
pub same_but : (first old new : Holding) (n : ℕ) → old ≡ record first { looks = old.looks } → new ≡ record old { looks = n } → new ≡ record first { looks = new.looks }
same_but first old new n before same =
    let list = ap (λ (h : Holding). h.list) same ∙ ap (λ (h : Holding). h.list) before in
    let clock = ap (λ (h : Holding). h.clock) same ∙ ap (λ (h : Holding). h.clock) before in
    λ i. record { list = list i; clock = clock i; looks = new.looks }

pub items_next : (cs : List Kept) (i : ℕ) (h : Kept) → drop i cs ≡ h ∷ drop (i + 1) cs → map item_of_kept (drop i cs) ≡ item_of_kept h ∷ map item_of_kept (drop (i + 1) cs)
items_next cs i h e = ap (map item_of_kept) e

pub not_closed : (o : Offer) → (o ≡ Busy) ⊎ (o ≡ Added) → o ≡ Closed → ⊥
not_closed Busy e q = cc
not_closed Added e q = cc
not_closed Closed (inl e) q = cc
not_closed Closed (inr e) q = cc
