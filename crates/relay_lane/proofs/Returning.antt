-- What was settled is what a wire returned.
use Rattle.std.proofs.Common.{◌≡◌, ◌⊎◌, ℕ, ◌+◌, List, [], ◌∷◌, Option, Some, None, sym, subst, ◌∙◌, inl, inr}
use Rattle.relay_action.specs.declared.write.Write.{Write}
use Rattle.relay_results.specs.declared.cause.Loss.{Loss}
use Rattle.relay_results.specs.Outside.{Answer, Lost}
use Rattle.relay_results.specs.Words.{Mem}
use Rattle.relay_delivery.specs.Lane.{Entry, writes_of_all}
use Rattle.relay_delivery.specs.Reach.{Call, Takes, Ticks, Answers}
use Rattle.relay_delivery.specs.Reach as core
use Rattle.relay_lane.specs.Exchanges.{Exchange, Sends, Receives, PassesFrom, IsGiven, IsReturned, IsUnsent, RequestsAreGiven, AnswersAreReturned}

module _ {S : Type 0} (carries : S → Exchange → S → Type 0) where
  given : (failed : Option Loss) (cs : List Call) (n m : ℕ) (old new : S) → PassesFrom carries failed cs n old m new → (chosen : List Entry) → Mem (core.Sends chosen) cs → (number : ℕ) × IsGiven carries number (writes_of_all chosen)
  given failed [] n m old new x chosen at = absurd at
  given failed (Takes o bytes ∷ cs) n m old new x chosen (inl e) = absurd (cc)
  given failed (Takes o bytes ∷ cs) n m old new x chosen (inr at) = given failed cs n m old new x chosen at
  given failed (Ticks clock ∷ cs) n m old new x chosen (inl e) = absurd (cc)
  given failed (Ticks clock ∷ cs) n m old new x chosen (inr at) = given failed cs n m old new x chosen at
  given failed (core.Sends es ∷ cs) n m old new x chosen (inl e) =
      let same : es ≡ chosen = cc in
      (n + 1, record { fault = x.1; old = old; new = x.2; was = subst (λ ds. carries old (Sends (n + 1) (writes_of_all ds) x.1) x.2) same x.3 })
  given failed (core.Sends es ∷ cs) n m old new x chosen (inr at) = given x.1 cs (n + 1) m x.2 new x.4 chosen at
  given None (Answers k b ∷ cs) n m old new x chosen (inl e) = absurd (cc)
  given None (Answers k b ∷ cs) n m old new x chosen (inr at) = given None cs n m x.0 new x.2 chosen at
  given (Some why) (Answers k b ∷ cs) n m old new x chosen (inl e) = absurd (cc)
  given (Some why) (Answers k b ∷ cs) n m old new x chosen (inr at) = given None cs n m old new x.2 chosen at

  -- the last request could not be sent
  abbrev Pending : Option Loss → ℕ → Type 0
  Pending None n = Unit {0}
  Pending (Some why) n = (writes : List Write) × (old : S) × (new : S) × carries old (Sends n writes (Some why)) new

  pending : (fault : Option Loss) (n : ℕ) (writes : List Write) (old new : S) → carries old (Sends n writes fault) new → Pending fault n
  pending None n writes old new x = tt
  pending (Some why) n writes old new x = (writes, old, new, x)

  unsent : (why : Loss) (n k number : ℕ) (a b : Answer) → Pending (Some why) n → k ≡ n → b ≡ Lost why → k ≡ number → b ≡ a → IsUnsent carries number a
  unsent why n k number a b p at lost same answer = record {
    why = why;
    is = sym answer ∙ lost;
    writes = p.0;
    old = p.1;
    new = p.2;
    was = subst (λ j. carries p.1 (Sends j p.0 (Some why)) p.2) (sym at ∙ same) p.3;
  }

  returned : (failed : Option Loss) (cs : List Call) (n m : ℕ) (old new : S) → Pending failed n → PassesFrom carries failed cs n old m new → (number : ℕ) (a : Answer) → Mem (Answers number a) cs → IsReturned carries number a ⊎ IsUnsent carries number a
  returned failed [] n m old new p x number a at = absurd at
  returned failed (Takes o bytes ∷ cs) n m old new p x number a (inl e) = absurd (cc)
  returned failed (Takes o bytes ∷ cs) n m old new p x number a (inr at) = returned failed cs n m old new p x number a at
  returned failed (Ticks clock ∷ cs) n m old new p x number a (inl e) = absurd (cc)
  returned failed (Ticks clock ∷ cs) n m old new p x number a (inr at) = returned failed cs n m old new p x number a at
  returned failed (core.Sends es ∷ cs) n m old new p x number a (inl e) = absurd (cc)
  returned failed (core.Sends es ∷ cs) n m old new p x number a (inr at) = returned x.1 cs (n + 1) m x.2 new (pending x.1 (n + 1) (writes_of_all es) old x.2 x.3) x.4 number a at
  returned None (Answers k b ∷ cs) n m old new p x number a (inl e) =
      let same : k ≡ number = cc in
      let answer : b ≡ a = cc in
      inl (record { old = old; new = x.0; was = subst (λ (z : ℕ × Answer). carries old (Receives z.0 z.1) x.0) (λ i. (same i, answer i)) x.1 })
  returned None (Answers k b ∷ cs) n m old new p x number a (inr at) = returned None cs n m x.0 new p x.2 number a at
  returned (Some why) (Answers k b ∷ cs) n m old new p x number a (inl e) =
      let same : k ≡ number = cc in
      let answer : b ≡ a = cc in
      inr (unsent why n k number a b p x.0 x.1 same answer)
  returned (Some why) (Answers k b ∷ cs) n m old new p x number a (inr at) = returned None cs n m old new tt x.2 number a at

  pub requests_are_given : RequestsAreGiven carries
  requests_are_given calls n m old new x chosen at = given None calls n m old new x chosen at

  pub answers_are_returned : AnswersAreReturned carries
  answers_are_returned calls n m old new x number a at = returned None calls n m old new tt x number a at
