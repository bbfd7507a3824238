-- What holds at the start, and after a restart.
use Rattle.std.proofs.Common.{◌≡◌, ℕ, zero, suc, ◌+◌, List, [], ◌∷◌, ◌++◌, length, Some, true, false, refl, sym, ap, ◌∙◌, subst, arith}
use Rattle.std.specs.Prelude.{slice_get, nat_le, map, replicate}
use Rattle.relay_action.specs.declared.operation.Op.{Op}
use Rattle.relay_results.proofs.Lists.{and_left, and_right, and_both}
use Rattle.relay_core.specs.declared.config.RelayConfig.{RelayConfig}
use Rattle.relay_core.specs.Limits.{is_from_to, are_valid_limits, are_attempts, is_age, is_valid}
use Rattle.relay_world.specs.State.{Desk, Past, World, fresh_desk}
use Rattle.relay_world.specs.Changes.{in_new_epoch, after_restart}
use Rattle.relay_world.specs.Memory.{WorksAs, ArePartsOf}

pub length-all : {A : Type 0} (n : ℕ) (x : A) → length (replicate n x) ≡ n
length-all zero x = refl
length-all (suc n) x = let e = length-all n x in omega (arith, e)

pub at-all : {A : Type 0} (n m : ℕ) (x y : A) → slice_get (replicate n x) m ≡ Some y → y ≡ x
at-all zero m x y e = absurd (cc)
at-all (suc n) zero x y e = cc
at-all (suc n) (suc m) x y e = at-all n m x y e

-- desks and lists as they are at the start are the parts of a world
pub fresh_parts : (w : World) → is_valid w.config ≡ true → w.desks ≡ replicate w.config.lanes (fresh_desk w.config) → w.accepted ≡ replicate w.config.producers [] → ArePartsOf w
fresh_parts w v desks lists =
    let c = w.config in
    record {
      valid = v;
      lanes = ap length desks ∙ length-all c.lanes (fresh_desk c);
      producers = ap length lists ∙ length-all c.producers [];
      works = λ l d e.
          subst (WorksAs c) (sym (at-all c.lanes l (fresh_desk c) d (ap (λ ds. slice_get ds l) (sym desks) ∙ e)))
          (record { config = refl; senders = length-all (c.producers + 1) (record { count = 0; closed = false }) });
    }

-- a config stays valid in an epoch within its limit
pub valid_in : (c : RelayConfig) (epoch : ℕ) → nat_le epoch 4194303 ≡ true → is_valid c ≡ true → is_valid (in_new_epoch c epoch) ≡ true
valid_in c epoch within v =
    let v2 = and_right (is_from_to 1 8 c.lanes) _ v in
    let v3 = and_right (is_from_to 1 256 c.producers) _ v2 in
    let v4 = and_right (is_from_to 1 65536 c.capacity) _ v3 in
    let v5 = and_right (is_from_to 1 65536 c.max_held) _ v4 in
    let v6 = and_right (are_valid_limits c.limits) _ v5 in
    let v7 = and_right (are_attempts c.attempts) _ v6 in
    let v8 = and_right (is_age c.give_up_after) _ v7 in
    let v9 = and_right (is_from_to 1 8 c.in_flight) _ v8 in
    and_both (is_from_to 1 8 c.lanes) _ (and_left _ _ v)
    (and_both (is_from_to 1 256 c.producers) _ (and_left _ _ v2)
    (and_both (is_from_to 1 65536 c.capacity) _ (and_left _ _ v3)
    (and_both (is_from_to 1 65536 c.max_held) _ (and_left _ _ v4)
    (and_both (are_valid_limits c.limits) _ (and_left _ _ v5)
    (and_both (are_attempts c.attempts) _ (and_left _ _ v6)
    (and_both (is_age c.give_up_after) _ (and_left _ _ v7)
    (and_both (is_from_to 1 8 c.in_flight) _ (and_left _ _ v8)
    (and_both (nat_le epoch 4194303) _ within (and_right (nat_le c.epoch 4194303) _ v9)))))))))

-- what a restart makes of the parts, one by one
pub restarts_so : (w : World) (epoch sent : ℕ) (c : RelayConfig) (desks : List Desk) (accepted taken : List (List Op)) (ended : List Past)
    → c ≡ in_new_epoch w.config epoch → desks ≡ replicate c.lanes (fresh_desk c) → accepted ≡ replicate c.producers [] → taken ≡ map (λ (d : Desk). d.taken) w.desks → sent ≡ length w.sent
    → ended ≡ w.ended ++ record { epoch = w.config.epoch; accepted = w.accepted; taken = taken; sent = sent } ∷ []
    → record { opening = w.opening; config = c; desks = desks; accepted = accepted; ended = ended; sent = w.sent; index = w.index; kept = w.kept } ≡ after_restart w epoch
restarts_so w epoch sent c desks accepted taken ended new ds os ts n es =
    let all : ended ≡ w.ended ++ record { epoch = w.config.epoch; accepted = w.accepted; taken = map (λ (d : Desk). d.taken) w.desks; sent = length w.sent } ∷ [] =
    es ∙ (λ j. w.ended ++ record { epoch = w.config.epoch; accepted = w.accepted; taken = ts j; sent = n j } ∷ []) in
    λ j. record {
      opening = w.opening;
      config = new j;
      desks = (ds ∙ (λ i. replicate (new i).lanes (fresh_desk (new i)))) j;
      accepted = (os ∙ (λ i. replicate (new i).producers [])) j;
      ended = all j;
      sent = w.sent;
      index = w.index;
      kept = w.kept;
    }
