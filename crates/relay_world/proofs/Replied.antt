-- A reply that is not refused settles what its request carried.
use Rattle.std.proofs.Common.{◌≡◌, ℕ, ◌-◌, List, Option, Some, None, Bool, true, refl, sym, ap, ◌∙◌, subst}
use Rattle.std.specs.Prelude.{not, is_some}
use Rattle.relay_results.specs.Outside.{Items}
use Rattle.relay_results.specs.Words.{update}
use Rattle.relay_results.specs.declared.outcome.Outcome.{Outcome}
use Rattle.relay_results.proofs.Lists.{some_same}
use Rattle.relay_core.specs.declared.settled.Settled.{Settled}
use Rattle.relay_world.specs.declared.event.Event.TheVariants as event
use Rattle.relay_world.specs.declared.event.Refusal.TheVariants as no
use Rattle.relay_world.specs.declared.event.StepAnswer.TheVariants as answer
use Rattle.relay_world.specs.State.{Sent, World, request_at}
use Rattle.relay_world.specs.Refusals.{cause_if, at_request, is_flying, entries, reply_refusal}
use Rattle.relay_world.specs.Changes.{Answers, at_lane, answered_desk, with_answer, after_answer}
use Rattle.relay_world.specs.Steps.{Steps, StepsBy}
use Rattle.relay_world.specs.Memory.{IsSettledAt}

module _ (w : World) (request : ℕ) (picks : List ℕ) (s : Sent) (kept given : List Outcome) (there : request_at w request ≡ Some s) (flies : is_flying w s ≡ true) (noted : entries w s picks ≡ Some kept) (told : entries w s picks ≡ Some given) where
  not_refused : reply_refusal w request picks ≡ None
  not_refused =
      ap (λ o. at_request o (λ x. cause_if (not (is_flying w x)) no.NotFlying (cause_if (not (is_some (entries w x picks))) no.NotRun None))) there
      ∙ ap (λ b. cause_if (not b) no.NotFlying (cause_if (not (is_some (entries w s picks))) no.NotRun None)) flies
      ∙ ap (λ o. cause_if (not (is_some o)) no.NotRun None) noted

  -- the lane is told one copy of the entries, and the other one is kept with the request
  pub replied : (l n : ℕ) (counts : Settled) (settled new : World) → l ≡ s.lane → n ≡ s.number → IsSettledAt w l n (Items given) counts
      → settled ≡ at_lane l (answered_desk n (Items given)) w → new ≡ record settled { sent = update (request - 1) (with_answer (Items kept)) settled.sent }
      → Steps w (event.Reply request picks) (answer.Settled counts) new
  replied l n counts settled new its_lane its_number are is_settled is_new =
      let here : IsSettledAt w s.lane s.number (Items given) counts = subst (λ m. IsSettledAt w m s.number (Items given) counts) its_lane (subst (λ m. IsSettledAt w l m (Items given) counts) its_number are) in
      let after : new ≡ after_answer w request s (Items given) =
      is_new
      ∙ ap (λ (x : World). record x { sent = update (request - 1) (with_answer (Items kept)) x.sent })
      (is_settled ∙ ap (λ m. at_lane m (answered_desk n (Items given)) w) its_lane ∙ ap (λ m. at_lane s.lane (answered_desk m (Items given)) w) its_number)
      ∙ ap (λ os. record (at_lane s.lane (answered_desk s.number (Items given)) w) { sent = update (request - 1) (with_answer (Items os)) w.sent }) (some_same kept given (sym noted ∙ told)) in
      let answers : Answers w request s (Items given) (answer.Settled counts) new = record { desk = here.desk; there = here.there; counts = counts; are = here.are; matched = here.matched; after = after; says = refl } in
      subst (λ r. StepsBy r w (event.Reply request picks) (answer.Settled counts) new) (sym not_refused) (s, given, there, told, answers)
