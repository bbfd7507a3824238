use Rattle.std.proofs.Common.{◌≡◌, ◌<◌, ◌≤◌, ◌^◌, ℕ, List, length, Bool, Option, Some, None, true, false, refl, sym, ap, ◌∙◌, subst, ⊎_elim, arith}
use Rattle.std.specs.Prelude.{nat_le, option_map}
use Rattle.relay_action.specs.declared.operation.Op.{Op}
use Rattle.relay_core.specs.declared.config.RelayConfig.{RelayConfig}
use borrow.Author.Tests.{leb-true}
use Rattle.std.proofs.lemmas.Bool.{le-leb}
use Rattle.relay_results.proofs.Lists.{true_or_false}
use Rattle.relay_world.specs.State.{Desk, World, desk_at, accepted_from, is_closed}
use Rattle.relay_world.specs.declared.event.Refusal.{Refusal}
use Rattle.relay_world.specs.declared.event.Refusal.TheVariants as no
use Rattle.relay_world.specs.Refusals.{cause_if, at_desk, is_full, is_spent, put_refusal}
use Rattle.relay_world.proofs.parts.Parts.put_refusal.Goals as goal

not_below : (a b : ℕ) → b < a → nat_le a b ≡ false
not_below a b lt = ⊎_elim {C = nat_le a b ≡ false} (λ t. let le = leb-true a b t in absurd (omega (arith, le, lt))) (λ f. f) (true_or_false (nat_le a b))

-- a known producer that has not closed
open_refusal : (w : World) (p l : ℕ) → p < w.config.producers → is_closed w p ≡ false
    → put_refusal w p l ≡ cause_if (is_spent w p) no.NumbersSpent (at_desk (desk_at w l) (λ (d : Desk). cause_if (is_full w d) no.QueueFull None))
open_refusal w p l few unclosed =
    ap (λ b. cause_if b no.NoSuch (cause_if (is_closed w p) no.Closed (cause_if (is_spent w p) no.NumbersSpent (at_desk (desk_at w l) (λ (d : Desk). cause_if (is_full w d) no.QueueFull None))))) (not_below w.config.producers p few)
    ∙ ap (λ b. cause_if b no.Closed (cause_if (is_spent w p) no.NumbersSpent (at_desk (desk_at w l) (λ (d : Desk). cause_if (is_full w d) no.QueueFull None)))) unclosed

-- and that has not put its last operation
unspent_refusal : (w : World) (p l : ℕ) → p < w.config.producers → is_closed w p ≡ false → length (accepted_from w p) < 2 ^ 40
    → put_refusal w p l ≡ at_desk (desk_at w l) (λ (d : Desk). cause_if (is_full w d) no.QueueFull None)
unspent_refusal w p l few unclosed left =
    open_refusal w p l few unclosed
    ∙ ap (λ b. cause_if b no.NumbersSpent (at_desk (desk_at w l) (λ (d : Desk). cause_if (is_full w d) no.QueueFull None))) (not_below (2 ^ 40) (length (accepted_from w p)) left)

pub returns-then-accepted-ge-NUMBER_LIMIT : goal.returns-then-accepted-ge-NUMBER_LIMIT
returns-then-accepted-ge-NUMBER_LIMIT c =
    let w = c.args.self.now in
    let p = c.args.producer in
    let few : p < w.config.producers = subst (λ (g : RelayConfig). p < g.producers) c.config-config.ensures.config c.if-producer-config.false in
    let spent : 2 ^ 40 ≤ length (accepted_from w p) = subst (λ (os : List Op). 2 ^ 40 ≤ length os) c.accepted.ensures c.if-accepted-ge-NUMBER_LIMIT.true in
    sym (open_refusal w p c.args.lane few (sym c.is_closed.ensures ∙ c.if-is_closed.false)
    ∙ ap (λ b. cause_if b no.NumbersSpent (at_desk (desk_at w c.args.lane) (λ (d : Desk). cause_if (is_full w d) no.QueueFull None))) (le-leb (2 ^ 40) (length (accepted_from w p)) spent))

pub returns-in-None : goal.returns-in-None
returns-in-None c =
    let w = c.args.self.now in
    let p = c.args.producer in
    let few : p < w.config.producers = subst (λ (g : RelayConfig). p < g.producers) c.config-config.ensures.config c.if-producer-config.false in
    let left : length (accepted_from w p) < 2 ^ 40 = subst (λ (os : List Op). length os < 2 ^ 40) c.accepted.ensures c.if-accepted-ge-NUMBER_LIMIT.false in
    let none : desk_at w c.args.lane ≡ None = sym c.desk.ensures ∙ ap (option_map _) c.in-None.is in
    sym (unspent_refusal w p c.args.lane few (sym c.is_closed.ensures ∙ c.if-is_closed.false) left
    ∙ ap (λ o. at_desk o (λ (d : Desk). cause_if (is_full w d) no.QueueFull None)) none)

pub returns-in-Some : goal.returns-in-Some
returns-in-Some c =
    let w = c.args.self.now in
    let p = c.args.producer in
    let few : p < w.config.producers = subst (λ (g : RelayConfig). p < g.producers) c.config-config.ensures.config c.if-producer-config.false in
    let left : length (accepted_from w p) < 2 ^ 40 = subst (λ (os : List Op). length os < 2 ^ 40) c.accepted.ensures c.if-accepted-ge-NUMBER_LIMIT.false in
    let some : desk_at w c.args.lane ≡ Some c.in-Some.desk.now = sym c.desk.ensures ∙ ap (option_map _) c.in-Some.is in
    c.full_refusal.ensures
    ∙ ap (λ (g : RelayConfig). cause_if (nat_le g.capacity (length c.in-Some.desk.now.queue)) no.QueueFull None) c.config-config.ensures.config
    ∙ sym (unspent_refusal w p c.args.lane few (sym c.is_closed.ensures ∙ c.if-is_closed.false) left
    ∙ ap (λ o. at_desk o (λ (d : Desk). cause_if (is_full w d) no.QueueFull None)) some)
