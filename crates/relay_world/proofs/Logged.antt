-- The runs of each item, as one log of all.
use Rattle.std.proofs.Common.{◌≡◌, ℕ, zero, suc, List, [], ◌∷◌, ◌++◌, Option, Some, None, Bool, true, false, ◌==◌, refl, sym, ap, ◌∙◌, ⊎_elim, inl, inr, append_assoc, append-nil}
use Rattle.std.specs.Prelude.{slice_get, option_and_then, ◌&&◌, if◌then◌else◌}
use Rattle.relay_results.specs.Words.{Mem, update}
use Rattle.relay_results.specs.Outside.{Ran, RunOutcome}
use Rattle.relay_results.proofs.Lists.{and_left, and_right, and_both, equal, equal_test, equal_or_not, at-update_same, at-update_other, Mem-cases}
use Rattle.relay_world.specs.State.{Item, Sent}
use Rattle.relay_world.specs.Headline.{outcomes_at, runs_of}
use Rattle.relay_world.specs.Changes.{with_outcome}
use Rattle.relay_world.proofs.Places.{not_equal}

-- a run's outcome, if it is of this item
abbrev pub outcome_if : ℕ → ℕ → Ran → List RunOutcome
outcome_if request place r = if (r.request == request) && (r.place == place) then r.outcome ∷ [] else []

pub outcomes-push : (request place : ℕ) (log : List Ran) (r : Ran) → outcomes_at request place (log ++ r ∷ []) ≡ outcomes_at request place log ++ outcome_if request place r
outcomes-push request place [] r = append-nil (outcome_if request place r)
outcomes-push request place (x ∷ xs) r =
    ap (λ os. outcome_if request place x ++ os) (outcomes-push request place xs r)
    ∙ sym (append_assoc (outcome_if request place x) (outcomes_at request place xs) (outcome_if request place r))

-- an outcome of an item is that of a run in the log
pub record LoggedRun (request place : ℕ) (log : List Ran) (o : RunOutcome) : Type 0 where
  pub run : Ran
  pub among : Mem run log
  pub of_request : run.request ≡ request
  pub of_place : run.place ≡ place
  pub outcome : run.outcome ≡ o

if_mem : (request place : ℕ) (r : Ran) (o : RunOutcome) (b : Bool) → ((r.request == request) && (r.place == place)) ≡ b → Mem o (if b then r.outcome ∷ [] else []) → (r.request ≡ request) × (r.place ≡ place) × (r.outcome ≡ o)
if_mem request place r o true e m = (
  equal r.request request (and_left (r.request == request) (r.place == place) e),
  equal r.place place (and_right (r.request == request) (r.place == place) e),
  ⊎_elim (λ s. sym s) (λ z. absurd z) m,
)
if_mem request place r o false e m = absurd m

pub logged_run : (request place : ℕ) (log : List Ran) (o : RunOutcome) → Mem o (outcomes_at request place log) → LoggedRun request place log o
logged_run request place [] o m = absurd m
logged_run request place (r ∷ rs) o m = ⊎_elim
    (λ l. let p = if_mem request place r o ((r.request == request) && (r.place == place)) refl l in record { run = r; among = inl refl; of_request = p.0; of_place = p.1; outcome = p.2 })
    (λ x. let p = logged_run request place rs o x in record { run = p.run; among = inr p.among; of_request = p.of_request; of_place = p.of_place; outcome = p.outcome })
    (Mem-cases o (outcome_if request place r) (outcomes_at request place rs) m)

-- ---- one more request, whose items were not run

pub pushed_at : {A : Type 0} (g : Option A → List RunOutcome) (xs : List A) (y : A) (n : ℕ) → g None ≡ [] → g (Some y) ≡ [] → g (slice_get (xs ++ y ∷ []) n) ≡ g (slice_get xs n)
pushed_at g [] y zero none e = e ∙ sym none
pushed_at g [] y (suc n) none e = refl
pushed_at g (x ∷ xs) y zero none e = refl
pushed_at g (x ∷ xs) y (suc n) none e = pushed_at g xs y n none e

-- ---- a run

both_false : (a b : Bool) → (a ≡ true → b ≡ false) → (a && b) ≡ false
both_false true b f = f refl
both_false false b f = refl

nsome_more : (a b : List RunOutcome) (t : Bool) (o : RunOutcome) → t ≡ false → a ≡ b → a ≡ b ++ (if t then o ∷ [] else [])
nsome_more a b t o f e = e ∙ sym (append-nil b) ∙ ap (λ c. b ++ (if c then o ∷ [] else [])) (sym f)

some_more : (a b : List RunOutcome) (t : Bool) (o : RunOutcome) → t ≡ true → a ≡ b ++ o ∷ [] → a ≡ b ++ (if t then o ∷ [] else [])
some_more a b t o f e = e ∙ ap (λ c. b ++ (if c then o ∷ [] else [])) (sym f)

-- the runs of each item, after one of an item of a request
module _ (xs : List Sent) (k n : ℕ) (s : Sent) (i : Item) (o : RunOutcome) (here : slice_get xs k ≡ Some s) (item : slice_get s.items n ≡ Some i) where
  abbrev runs_in : List Sent → ℕ → ℕ → List RunOutcome
  runs_in ys r p = runs_of (option_and_then (λ (z : Sent). slice_get z.items p) (slice_get ys r))

  abbrev changed : List Sent
  changed = update k (λ (z : Sent). record z { items = update n (with_outcome o) z.items }) xs

  here_now : slice_get changed k ≡ Some (record s { items = update n (with_outcome o) s.items })
  here_now = at-update_same k (λ (z : Sent). record z { items = update n (with_outcome o) z.items }) xs s here

  pub ran_at : (r p : ℕ) → runs_in changed r p ≡ runs_in xs r p ++ (if (k == r) && (n == p) then o ∷ [] else [])
  ran_at r p = ⊎_elim
      (λ er. ⊎_elim
      (λ ep.
      let now = ap (λ m. runs_in changed m p) er ∙ ap (λ z. runs_of (option_and_then (λ (y : Sent). slice_get y.items p) z)) here_now
      ∙ ap (λ m. runs_of (slice_get (update n (with_outcome o) s.items) m)) ep ∙ ap runs_of (at-update_same n (with_outcome o) s.items i item) in
      let before = ap (λ m. runs_in xs m p) er ∙ ap (λ z. runs_of (option_and_then (λ (y : Sent). slice_get y.items p) z)) here ∙ ap (λ m. runs_of (slice_get s.items m)) ep ∙ ap runs_of item in
      some_more (runs_in changed r p) (runs_in xs r p) ((k == r) && (n == p)) o (and_both (k == r) (n == p) (equal_test k r (sym er)) (equal_test n p (sym ep)))
      (now ∙ ap (λ os. os ++ o ∷ []) (sym before)))
      (λ np.
      let now = ap (λ m. runs_in changed m p) er ∙ ap (λ z. runs_of (option_and_then (λ (y : Sent). slice_get y.items p) z)) here_now
      ∙ ap runs_of (at-update_other n (with_outcome o) s.items p np) in
      let before = ap (λ m. runs_in xs m p) er ∙ ap (λ z. runs_of (option_and_then (λ (y : Sent). slice_get y.items p) z)) here in
      nsome_more (runs_in changed r p) (runs_in xs r p) ((k == r) && (n == p)) o (both_false (k == r) (n == p) (λ t. not_equal n p (λ e. np (sym e)))) (now ∙ sym before))
      (equal_or_not p n))
      (λ nr.
      let same = ap (λ z. runs_of (option_and_then (λ (y : Sent). slice_get y.items p) z)) (at-update_other k (λ (z : Sent). record z { items = update n (with_outcome o) z.items }) xs r nr) in
      nsome_more (runs_in changed r p) (runs_in xs r p) ((k == r) && (n == p)) o (both_false (k == r) (n == p) (λ t. absurd (nr (sym (equal k r t))))) same)
      (equal_or_not r k)
