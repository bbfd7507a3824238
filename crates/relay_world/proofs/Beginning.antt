-- A fresh world is tied to fresh machines.
use Rattle.std.proofs.Common.{◌≡◌, ℕ, zero, suc, ◌+◌, List, [], ◌∷◌, length, take, drop, Option, Some, None, Bool, false, refl, sym, ap, ◌∙◌, subst, append-nil, arith}
use Rattle.std.specs.Prelude.{◌<◌, ◌^◌, slice_get, option_map, unwrap_or, replicate, ◌||◌}
use Rattle.std.specs.List.{list_any}
use borrow.Author.Tests.{ltb-true}
use Rattle.relay_action.specs.declared.operation.Op.{Op}
use Rattle.relay_core.specs.declared.config.RelayConfig.{RelayConfig}
use Rattle.relay_results.specs.Outside.{Outside}
use Rattle.relay_index.specs.States as index
use Rattle.relay_delivery.specs.Machine.{Core}
use Rattle.relay_delivery.specs.Lane as delivery
use Rattle.relay_delivery.specs.Together.{Together}
use Rattle.relay_delivery.proofs.Accounts.{fresh_together}
use Rattle.relay_delivery.specs.Renumbering.{numbered_on}
use Rattle.relay_core.specs.State.{config_of}
use Rattle.relay_world.specs.declared.sender.Sender.{Sender}
use Rattle.relay_world.specs.State.{Desk, fresh, fresh_desk, has_closed, opening_version, lane_of, taken_of}
use Rattle.relay_world.specs.Ties.{queue_of, core_of, IsLaneOf, IsTied, FreshIsBelow, HighestIsBelow, FreshIsWorld}
use Rattle.relay_world.proofs.Starting.{at-all}

-- there is nothing at any place of a list of empty ones
pub none_at_all : (n p : ℕ) → unwrap_or (slice_get (replicate n (let e : List Op = [] in e)) p) [] ≡ []
none_at_all zero p = refl
none_at_all (suc n) zero = refl
none_at_all (suc n) (suc p) = none_at_all n p

pub open_at_all : (n p : ℕ) → unwrap_or (option_map (λ (s : Sender). s.closed) (slice_get (replicate n (record { count = 0; closed = false })) p)) false ≡ false
open_at_all zero p = refl
open_at_all (suc n) zero = refl
open_at_all (suc n) (suc p) = open_at_all n p

pub none_passes : {A : Type 0} (f : A → Bool) (x : A) (n : ℕ) → f x ≡ false → list_any f (replicate n x) ≡ false
none_passes f x zero e = refl
none_passes f x (suc n) e = ap (λ b. b || list_any f (replicate n x)) e ∙ none_passes f x n e

-- what an empty desk shows, at each lane
pub at_fresh : {A : Type 0} (g : Option Desk → A) (x : A) (d : Desk) → g None ≡ x → g (Some d) ≡ x → (n l : ℕ) → g (slice_get (replicate n d) l) ≡ x
at_fresh g x d none some zero l = none
at_fresh g x d none some (suc n) zero = some
at_fresh g x d none some (suc n) (suc l) = at_fresh g x d none some n l

take-all : {A : Type 0} (xs : List A) → xs ≡ take (length xs) xs
take-all [] = refl
take-all (x ∷ xs) = ap (λ ys. x ∷ ys) (take-all xs)

drop-all : {A : Type 0} (xs : List A) → drop (length xs) xs ≡ []
drop-all [] = refl
drop-all (x ∷ xs) = drop-all xs

pub length-same : {A : Type 0} (n : ℕ) (x : A) → length (replicate n x) ≡ n
length-same zero x = refl
length-same (suc n) x = ap suc (length-same n x)

-- ---- an index that is below a version

pub fresh_is_below : FreshIsBelow
fresh_is_below first k u e = absurd (cc)

pub highest_is_below : HighestIsBelow
highest_is_below first i None h above k u e = let none = h k in absurd (cc)
highest_is_below first i (Some v) h above k u e =
    let le = h.1 k u e in
    let lt = ltb-true v first above in
    omega (arith, le, lt)

-- ---- the fresh world

module _ (c : RelayConfig) (i : index.State) (few : c.deal < 2 ^ 40) where
  abbrev opening : Outside
  opening = record { requests = []; runs = []; stored = index.stored_version i; before = index.applied_writes i; applied = λ k. [] }

  abbrev core : Core
  core = record { taken = []; held = []; reports = []; applied = 0; already = 0; outside = opening }

  abbrev machines : Together
  machines = record { lanes = record { accepted = λ p. []; closed = λ p. false; queue = λ l. []; lane = λ l. core }; sent = []; origins = []; runs = [] }

  tied : IsTied (fresh c i) machines (λ l. 0)
  tied = record {
    few = few;
    came_about = fresh_together (opening_version (fresh c i)) (config_of c) (lane_of (fresh c i)) machines (record {
      lanes = record { accepted = λ p. refl; queue = λ l. refl; lane = λ l. record { taken = refl; held = refl; reports = refl; applied = refl; already = refl; opening = record { requests = refl; runs = refl; applied = λ k. refl } } };
      sent = refl;
      origins = refl;
      runs = refl;
      found = λ l k. refl;
    });
    lanes = record {
      producers = length-same c.producers [];
      accepted = λ p. sym (none_at_all c.producers p);
      closed = λ p. sym (none_passes (has_closed p) (fresh_desk c) c.lanes (open_at_all (c.producers + 1) p));
      queue = λ l. sym (at_fresh queue_of [] (fresh_desk c) refl refl c.lanes l);
      taken = λ l. sym (at_fresh taken_of [] (fresh_desk c) refl refl c.lanes l);
      lane = λ l. at_core (slice_get (replicate c.lanes (fresh_desk c)) l) (at-all c.lanes l (fresh_desk c));
      works = λ l d e. subst (IsLaneOf c) (sym (at-all c.lanes l (fresh_desk c) d e)) (record { config = refl; senders = length-same (c.producers + 1) (record { count = 0; closed = false }); next = refl });
    };
    requests = record { sent = refl; origins = λ k s at. absurd (cc); grown = λ p m. absurd m; runs = λ request place. refl; found = λ s m. absurd m };
    index = record {
      applied = λ k. sym (drop-all (index.applied_writes i k));
      before = λ k. take-all (index.applied_writes i k);
      within = λ k. omega arith;
      shows = record { versions = λ k. refl; lists = λ k. append-nil (index.applied_writes i k) };
      names = λ k. refl;
    };
  }
    where
      at_core : (o : Option Desk) → ((d : Desk) → o ≡ Some d → d ≡ fresh_desk c) → delivery.IsOf (numbered_on 0 (core_of (config_of c) o)) core
      at_core None f = record { taken = refl; held = refl; reports = refl; applied = refl; already = refl; requests = refl; flying = λ x m. absurd m }
      at_core (Some d) f = subst (λ x. delivery.IsOf (numbered_on 0 (core_of (config_of c) (Some x))) core) (sym (f d refl)) (record { taken = refl; held = refl; reports = refl; applied = refl; already = refl; requests = refl; flying = λ x m. absurd m })

pub fresh_is_world : FreshIsWorld
fresh_is_world c i few = record {
  has = record { machines = machines c i few; before = λ l. 0; tied = tied c i few };
  states = refl;
  stated = λ on request place o m. absurd m;
}
