-- What a valid config has.
use Rattle.std.proofs.Common.{◌≡◌, ◌==◌, ◌||◌, ℕ, ◌≤◌, true, sym, ap, ◌∙◌, ⊎_elim, arith}
use Rattle.std.specs.Prelude.{nat_le}
use borrow.Author.Tests.{leb-true}
use Rattle.relay_results.proofs.Lists.{true_or_false, equal, and_left, and_right}
use Rattle.relay_core.specs.declared.config.RelayConfig.{RelayConfig}
use Rattle.relay_core.specs.Limits.{is_from_to, are_attempts, is_age, are_valid_limits, is_valid}

pub record Facts (c : RelayConfig) : Type 0 where
  pub producers : c.producers ≤ 256
  pub held : c.max_held ≤ 65536
  pub tries : (1 ≤ c.attempts) × (c.attempts ≤ 2097152)
  pub epoch : c.epoch ≤ 4194303
  pub deal : (1 ≤ c.deal) × (c.deal ≤ 1099511627775)
  pub count : (1 ≤ c.limits.count) × (c.limits.count ≤ 10000)

within : (least most n : ℕ) → is_from_to least most n ≡ true → (least ≤ n) × (n ≤ most)
within least most n t = (leb-true _ _ (and_left _ _ t), leb-true _ _ (and_right (nat_le least n) _ t))

attempts_within : (n : ℕ) → are_attempts n ≡ true → (1 ≤ n) × (n ≤ 2097152)
attempts_within n t = ⊎_elim {C = (1 ≤ n) × (n ≤ 2097152)}
    (λ few. let w = within 1 32 n few in (w.0, let le = w.1 in omega (arith, le)))
    (λ not. let e = equal n 2097152 (ap (λ b. b || (n == 2097152)) (sym not) ∙ t) in (omega (arith, e), omega (arith, e)))
    (true_or_false (is_from_to 1 32 n))

pub valid_facts : (c : RelayConfig) → is_valid c ≡ true → Facts c
valid_facts c t =
    let t2 = and_right (is_from_to 1 8 c.lanes) _ t in
    let t3 = and_right (is_from_to 1 256 c.producers) _ t2 in
    let t4 = and_right (is_from_to 1 65536 c.capacity) _ t3 in
    let t5 = and_right (is_from_to 1 65536 c.max_held) _ t4 in
    let t6 = and_right (are_valid_limits c.limits) _ t5 in
    let t7 = and_right (is_age c.give_up_after) _ (and_right (are_attempts c.attempts) _ t6) in
    let t8 = and_right (is_from_to 1 8 c.in_flight) _ t7 in
    record {
      producers = (within 1 256 c.producers (and_left _ _ t2)).1;
      held = (within 1 65536 c.max_held (and_left _ _ t4)).1;
      tries = attempts_within c.attempts (and_left _ _ t6);
      epoch = leb-true _ _ (and_left _ _ t8);
      deal = within 1 1099511627775 c.deal (and_right (nat_le c.epoch 4194303) _ t8);
      count = within 1 10000 c.limits.count (and_left _ _ (and_left _ _ t5));
    }
