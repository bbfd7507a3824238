-- A desk whose lane is that of a machine, and desks of which one was changed.
use Rattle.std.proofs.Common.{◌≡◌, ◌≢◌, ℕ, zero, suc, List, [], ◌∷◌, ◌++◌, length, Option, Some, Bool, true, false, ◌==◌, refl, sym, ap, ◌∙◌, subst, ⊎_elim, append-nil}
use Rattle.std.specs.Prelude.{slice_get, ◌||◌, if◌then◌else◌}
use Rattle.std.specs.List.{list_any}
use Rattle.relay_action.specs.declared.operation.Op.{Op}
use Rattle.relay_results.specs.Words.{update}
use Rattle.relay_results.proofs.Lists.{or_right, equal_test, equal_or_not, at-update_same, at-update_other}
use Rattle.relay_delivery.specs.Machine.{Core}
use Rattle.relay_delivery.specs.Lane as delivery
use Rattle.relay_delivery.specs.Renumbering.{numbered_on}
use Rattle.relay_delivery.specs.Lanes.{with_added, with_value}
use Rattle.relay_delivery.specs.Together.{Together}
use Rattle.relay_core.specs.declared.config.RelayConfig.{RelayConfig}
use Rattle.relay_core.specs.State.{config_of}
use Rattle.relay_world.specs.State.{Desk, Sent, World, desk_at, accepted_from, is_closed, taken_of}
use Rattle.relay_world.specs.Headline.{request_of, IsLog}
use Rattle.relay_world.specs.Ties.{queue_of, core_of, versions_of, IsLaneOf, AreLanes, AreRequests}
use Rattle.relay_world.proofs.Carried.{Keeps, TakesMore, map-kept, request_kept, found_kept}
use Rattle.relay_world.proofs.Indexed.{over_same}
use Rattle.relay_world.proofs.Places.{not_equal}

-- ---- by number

if_true : {A : Type 0} (b : Bool) (x y : A) → b ≡ true → (if b then x else y) ≡ x
if_true b x y e = ap (λ c. if c then x else y) e

if_false : {A : Type 0} (b : Bool) (x y : A) → b ≡ false → (if b then x else y) ≡ y
if_false b x y e = ap (λ c. if c then x else y) e

pub changed_same : {A : Type 0} (f : ℕ → A) (n : ℕ) (x : A) → with_value f n x n ≡ x
changed_same f n x = if_true (n == n) x (f n) (equal_test n n refl)

pub changed_other : {A : Type 0} (f : ℕ → A) (n : ℕ) (x : A) (m : ℕ) → m ≢ n → with_value f n x m ≡ f m
changed_other f n x m ne = if_false (m == n) x (f m) (not_equal m n ne)

pub added_same : {A : Type 0} (f : ℕ → List A) (n : ℕ) (x : A) → with_added f n x n ≡ f n ++ x ∷ []
added_same f n x = if_true (n == n) (f n ++ x ∷ []) (f n) (equal_test n n refl)

pub added_other : {A : Type 0} (f : ℕ → List A) (n : ℕ) (x : A) (m : ℕ) → m ≢ n → with_added f n x m ≡ f m
added_other f n x m ne = if_false (m == n) (f m ++ x ∷ []) (f m) (not_equal m n ne)

-- ---- lists of which one element was changed

pub any_unmoved : {A : Type 0} (p : A → Bool) (f : A → A) (k : ℕ) (xs : List A) → ((x : A) → p (f x) ≡ p x) → list_any p (update k f xs) ≡ list_any p xs
any_unmoved p f k [] same = refl
any_unmoved p f zero (x ∷ xs) same = ap (λ b. b || list_any p xs) (same x)
any_unmoved p f (suc k) (x ∷ xs) same = ap (λ b. p x || b) (any_unmoved p f k xs same)

pub any_now : {A : Type 0} (p : A → Bool) (f : A → A) (k : ℕ) (xs : List A) (x : A) → slice_get xs k ≡ Some x → p (f x) ≡ true → list_any p (update k f xs) ≡ true
any_now p f k [] x at t = absurd (cc)
any_now p f zero (y ∷ xs) x at t = let same : y ≡ x = cc in ap (λ b. b || list_any p xs) (ap (λ z. p (f z)) same ∙ t)
any_now p f (suc k) (y ∷ xs) x at t = ap (λ b. p y || b) (any_now p f k xs x at t) ∙ or_right (p y) true refl

-- what is seen of an element does not show the change
pub seen_unmoved : {A B : Type 0} (g : Option A → B) (f : A → A) (k : ℕ) (xs : List A) (n : ℕ) → ((x : A) → g (Some (f x)) ≡ g (Some x)) → g (slice_get (update k f xs) n) ≡ g (slice_get xs n)
seen_unmoved g f k [] n same = refl
seen_unmoved g f zero (x ∷ xs) zero same = same x
seen_unmoved g f zero (x ∷ xs) (suc n) same = refl
seen_unmoved g f (suc k) (x ∷ xs) zero same = refl
seen_unmoved g f (suc k) (x ∷ xs) (suc n) same = seen_unmoved g f k xs n same

-- ---- a desk and its machine

pub record IsDeskOf (c : RelayConfig) (n : ℕ) (o : Option Desk) (queue : List Op) (core : Core) : Type 0 where
  pub queue_is : queue ≡ queue_of o
  pub taken : core.taken ≡ taken_of o
  pub lane : delivery.IsOf (numbered_on n (core_of (config_of c) o)) core
  pub works : (d : Desk) → o ≡ Some d → IsLaneOf c d

pub desk_of : (w : World) (t : Together) (n : ℕ → ℕ) → AreLanes w t n → (l : ℕ) → IsDeskOf w.config (n l) (desk_at w l) (t.lanes.queue l) (t.lanes.lane l)
desk_of w t n a l = record { queue_is = a.queue l; taken = a.taken l; lane = a.lane l; works = a.works l }

pub desk_there : (w : World) (t : Together) (n : ℕ → ℕ) → AreLanes w t n → (l : ℕ) (d : Desk) → desk_at w l ≡ Some d → IsDeskOf w.config (n l) (Some d) (t.lanes.queue l) (t.lanes.lane l)
desk_there w t n a l d there = subst (λ o. IsDeskOf w.config (n l) o (t.lanes.queue l) (t.lanes.lane l)) there (desk_of w t n a l)

-- one desk was changed, and one queue and one core
module _ (w : World) (t : Together) (n : ℕ → ℕ) (a : AreLanes w t n) (l : ℕ) (d : Desk) (there : desk_at w l ≡ Some d) (f : Desk → Desk) (queues : ℕ → List Op) (cores : ℕ → Core)
    (now : IsDeskOf w.config (n l) (Some (f d)) (queues l) (cores l)) (others : (m : ℕ) → m ≢ l → (queues m ≡ t.lanes.queue m) × (cores m ≡ t.lanes.lane m)) where
  pub desks_after : (m : ℕ) → IsDeskOf w.config (n m) (slice_get (update l f w.desks) m) (queues m) (cores m)
  desks_after m = ⊎_elim {C = IsDeskOf w.config (n m) (slice_get (update l f w.desks) m) (queues m) (cores m)}
      (λ e. subst (λ k. IsDeskOf w.config (n k) (slice_get (update l f w.desks) k) (queues k) (cores k)) (sym e)
      (subst (λ o. IsDeskOf w.config (n l) o (queues l) (cores l)) (sym (at-update_same l f w.desks d there)) now))
      (λ ne.
      subst (λ o. IsDeskOf w.config (n m) o (queues m) (cores m)) (sym (at-update_other l f w.desks m ne))
      (subst (λ c. IsDeskOf w.config (n m) (desk_at w m) (queues m) c) (sym (others m ne).1)
      (subst (λ q. IsDeskOf w.config (n m) (desk_at w m) q (t.lanes.lane m)) (sym (others m ne).0) (desk_of w t n a m))))
      (equal_or_not m l)

pub lanes_from : (w : World) (t : Together) (n : ℕ → ℕ) → length w.accepted ≡ w.config.producers → ((p : ℕ) → t.lanes.accepted p ≡ accepted_from w p) → ((p : ℕ) → t.lanes.closed p ≡ is_closed w p) → ((l : ℕ) → IsDeskOf w.config (n l) (desk_at w l) (t.lanes.queue l) (t.lanes.lane l)) → AreLanes w t n
lanes_from w t n producers accepted closed desks = record {
  producers = producers;
  accepted = accepted;
  closed = closed;
  queue = λ l. (desks l).queue_is;
  taken = λ l. (desks l).taken;
  lane = λ l. (desks l).lane;
  works = λ l. (desks l).works;
}

-- what the machines took, if the desks took more
pub takes_more : (w new : World) (t u : Together) (n k : ℕ → ℕ) → AreLanes w t n → AreLanes new u k → TakesMore w new → (l : ℕ) → (os : List Op) × ((u.lanes.lane l).taken ≡ (t.lanes.lane l).taken ++ os)
takes_more w new t u n k a b more l = ((more l).0, b.taken l ∙ (more l).1 ∙ ap (λ os. os ++ (more l).0) (sym (a.taken l)))

-- no desk has taken more
pub takes_none : (w : World) (l : ℕ) (f : Desk → Desk) (accepted : List (List Op)) (sent : List Sent) → ((x : Desk) → (f x).taken ≡ x.taken) → TakesMore w (over_same w (update l f w.desks) accepted sent)
takes_none w l f accepted sent same m = ([], seen_unmoved taken_of f l w.desks m same ∙ sym (append-nil (taken_of (desk_at w m))))

-- requests that no event touched
pub requests_kept : (w : World) (desks : List Desk) (accepted : List (List Op)) (t u : Together) (n : ℕ → ℕ) → AreRequests w t n → Keeps w (over_same w desks accepted w.sent) → u.sent ≡ t.sent → u.origins ≡ t.origins → u.runs ≡ t.runs
    → AreRequests (over_same w desks accepted w.sent) u n
requests_kept w desks accepted t u n r k sent origins runs =
    let new = over_same w desks accepted w.sent in
    record {
      sent = sent ∙ r.sent ∙ sym (map-kept (request_of new) (request_of w) w.sent (λ s m. request_kept w new s s s.answer k (r.found s m) refl refl refl));
      origins = λ j s at. let o = r.origins j s at in record { number = o.number; origin = ap (λ os. slice_get os j) origins ∙ o.origin; not_later = o.not_later; of_now = o.of_now };
      grown = r.grown;
      runs = subst (IsLog new) (sym runs) r.runs;
      found = λ s m. found_kept w new k s.lane (versions_of s) (r.found s m);
    }
