-- Requests that are sent and lost.
use Rattle.std.proofs.Common.{◌≡◌, ◌≢◌, ◌⊎◌, inl, inr, ℕ, List, [], ◌∷◌, ◌++◌, length, Option, Some, None, refl, ap, ◌∙◌, arith}
use Rattle.std.specs.Prelude.{slice_get}
use Rattle.relay_results.specs.declared.cause.Loss.{Loss}
use Rattle.relay_results.specs.declared.cause.Loss.TheVariants as loss
use Rattle.relay_action.specs.declared.write.Write.{Write}
use Rattle.relay_results.specs.Numbers.{from_zero}
use Rattle.relay_results.specs.Outside.{Answer, Request, Unanswered, Lost, Outside, Sends, Answers, MayAnswer, after, writes_of}
use Rattle.relay_results.proofs.Lists.{at-left, at-last, at-within, at-update_other}
use Rattle.relay_lane.specs.Wires.{SendsOn, AnswersOn, ExchangesOn, IsNext}
use Rattle.relay_fixtures.proofs.Items.{no_runs}
use Rattle.relay_lane.specs.Exchanges.{IsReturned, IsUnsent}
use Rattle.relay_lane_tests.specs.Shown.{IsOut, LosesEach}

-- each answer that passed over the wire, or that a request got which it could not send, is that it is lost
pub each_is_lost : {S : Type 0} (flying : S → Option ℕ) (number : ℕ) (a : Answer) → IsReturned (λ v x w. LosesEach (flying v) x (flying w)) number a ⊎ IsUnsent (λ v x w. LosesEach (flying v) x (flying w)) number a → (why : Loss) × (a ≡ Lost why)
each_is_lost flying number a (inl r) = (loss.Closed, r.was.0)
each_is_lost flying number a (inr u) = (u.why, u.is)

pub sent_out : (why : Loss) (o : Outside) (number : ℕ) (ws : List Write) → IsNext number o → MayAnswer (after (Sends ws) o) (from_zero number) (Lost why)
sent_out why o number ws next =
    let same : from_zero number ≡ length o.requests = omega (arith, next) in
    record {
      request = record { writes = ws; answer = Unanswered };
      sent = ap (slice_get (o.requests ++ record { writes = ws; answer = Unanswered } ∷ [])) same ∙ at-last o.requests (record { writes = ws; answer = Unanswered });
      open_yet = refl;
      honest = tt;
    }

pub sends_on : (o : Outside) (ws : List Write) → SendsOn ws o (after (Sends ws) o)
sends_on o ws = record { runs = no_runs (after (Sends ws) o) }

pub lost_on : (why : Loss) (o : Outside) (number : ℕ) → MayAnswer o (from_zero number) (Lost why) → AnswersOn number (Lost why) o (after (Answers (from_zero number) (Lost why)) o)
lost_on why o number may = record { before = o; runs = no_runs o; may = may; reached = refl }

unfoldable pub unsent : Loss → Outside → ℕ → List Write → Outside
unsent why o number ws = after (Answers (from_zero number) (Lost why)) (after (Sends ws) o)

pub unsent_on : (why : Loss) (o : Outside) (number : ℕ) (ws : List Write) → IsNext number o → ExchangesOn number ws (Lost why) o (unsent why o number ws)
unfolding unsent
unsent_on why o number ws next = record { between = after (Sends ws) o; sends = sends_on o ws; answers = lost_on why (after (Sends ws) o) number (sent_out why o number ws next) }

still_out : (why : Loss) (o : Outside) (number k : ℕ) (ws : List Write) → IsNext number o → MayAnswer o k (Lost loss.Closed) → MayAnswer (unsent why o number ws) k (Lost loss.Closed)
unfolding unsent
still_out why o number k ws next may =
    let below = at-within o.requests k may.request may.sent in
    let ne : k ≢ from_zero number = λ e. omega (arith, below, e, next) in
    record {
      request = may.request;
      sent = at-update_other (from_zero number) (λ (q : Request). record { writes = writes_of q; answer = Lost why }) (o.requests ++ record { writes = ws; answer = Unanswered } ∷ []) k ne
          ∙ at-left o.requests (record { writes = ws; answer = Unanswered } ∷ []) k may.request may.sent;
      open_yet = may.open_yet;
      honest = tt;
    }

pub other_out : (why : Loss) (x : Option ℕ) (o : Outside) (number : ℕ) (ws : List Write) → IsNext number o → IsOut x o → IsOut x (unsent why o number ws)
other_out why None o number ws next out = tt
other_out why (Some k) o number ws next out = still_out why o number (from_zero k) ws next out
