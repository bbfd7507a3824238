-- Each call of a lane is a step of delivery, or does not concern it.
use Rattle.std.proofs.Common.{◌≡◌, List, [], ◌∷◌, ◌++◌, refl, sym, ap, subst, inl, inr}
use Rattle.relay_action.specs.declared.mail.Body.TheVariants as body
use Rattle.relay_batch.specs.Gathering.{Gathering, answer_to}
use Rattle.relay_batch.specs.declared.offer.Offer.{Offer}
use Rattle.relay_batch.specs.declared.offer.Offer.TheVariants.{Busy, Closed, Added}
use Rattle.relay_results.specs.Words.{IsSubsequence}
use Rattle.relay_results.specs.Outside.{Sends, after}
use Rattle.relay_delivery.specs.Lane.{Entry, candidates, writes_of_all}
use Rattle.relay_delivery.proofs.Fitting as delivery
use Rattle.relay_core.specs.Rule.{by_answer, chosen_entries, item_of, with_item}
use Rattle.relay_core.specs.State.{config_of, later, bytes_of, after_take, gathering, next_entries, after_request}
use Rattle.relay_core.proofs.Batched.{next_keeps}
use Rattle.relay_core.specs.Ties.{Fits, FreshFits, TakeFits, RequestFits, RunFits, AnswerFits}

pub fresh_fits : FreshFits
fresh_fits c out opening below = delivery.fresh_fits (config_of c) out opening below

none_more : {A : Type 0} (xs : List A) → xs ≡ xs ++ []
none_more [] = refl
none_more (x ∷ xs) = ap (λ ys. x ∷ ys) (none_more xs)

pub take_fits : TakeFits
take_fits s sender (body.Put o) taken out f = delivery.take_fits s.core o (bytes_of s o) taken out f
take_fits s sender body.Tick taken out f = subst (λ os. Fits (after_take s sender body.Tick) os out) (none_more taken) (delivery.clock_fits s.core (later s.core.clock) taken out f)
take_fits s sender body.Flush taken out f = subst (λ os. Fits (after_take s sender body.Flush) os out) (none_more taken) f
take_fits s sender body.Done taken out f = subst (λ os. Fits (after_take s sender body.Done) os out) (none_more taken) f

-- those that are chosen are among the candidates, in their order
skip : {A : Type 0} (xs : List A) (y : A) (ys : List A) → IsSubsequence xs ys → IsSubsequence xs (y ∷ ys)
skip [] y ys s = tt
skip (x ∷ xs) y ys s = inr s

chosen_by : (x : Offer) (e : Entry) (es busy added : List Entry) → IsSubsequence busy es → IsSubsequence added es → IsSubsequence (by_answer x busy [] (e ∷ added)) (e ∷ es)
chosen_by Busy e es busy added b a = skip busy e es b
chosen_by Closed e es busy added b a = tt
chosen_by Added e es busy added b a = inl (refl, a)

pub chosen_sub : (es : List Entry) (g : Gathering) → IsSubsequence (chosen_entries es g) es
chosen_sub [] g = tt
chosen_sub (e ∷ es) g = chosen_by (answer_to (item_of e) g) e es (chosen_entries es g) (chosen_entries es (with_item (item_of e) g)) (chosen_sub es g) (chosen_sub es (with_item (item_of e) g))

pub request_fits : RequestFits
request_fits s items taken out some f =
    subst (λ b. Fits (after_request s b) taken (after (Sends (writes_of_all (next_entries s))) out)) (sym some)
    (delivery.send_fits s.core (next_entries s) taken out (chosen_sub (candidates s.core) (gathering s)) (next_keeps s items some) f)

pub run_fits : RunFits
run_fits s r taken out may f = delivery.run_fits s.core r taken out may f

pub answer_fits : AnswerFits
answer_fits s number a taken out flies may f = delivery.answer_fits s.core number a taken out flies may f
