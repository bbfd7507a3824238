-- Requests that an index runs.
use Rattle.std.proofs.Common.{◌≡◌, ◌≢◌, ℕ, List, [], ◌∷◌, ◌++◌, length, Option, Some, None, false, refl, sym, ap, ◌∙◌, subst, ⊎_elim, arith}
use Rattle.std.specs.Prelude.{slice_get, is_some}
use Rattle.std.specs.Option.{option_to_list}
use Rattle.relay_results.specs.declared.cause.Loss.{Loss}
use Rattle.relay_action.specs.declared.write.Write.{Write}
use Rattle.relay_index.specs.States.{State}
use Rattle.relay_index.specs.Runs.{Shows}
use Rattle.relay_results.specs.declared.outcome.Outcome.{Outcome}
use Rattle.relay_results.specs.Numbers.{from_zero}
use Rattle.relay_results.specs.Words.{Mem}
use Rattle.relay_results.specs.Outside.{Request, Unanswered, writes_of, Items, Lost, Answer, Outside, Sends, Answers, MayAnswer, after}
use Rattle.relay_results.proofs.Lists.{at-last, at-left, at-within, at-update_other}
use Rattle.relay_lane.specs.Wires.{SendsOn, AnswersOn, ExchangesOn, IsNext}
use Rattle.relay_fixtures.specs.Runs.{IsSent, RanSome}
use Rattle.relay_fixtures.proofs.Items.{no_runs}
use Rattle.relay_lane_tests.specs.Telling.{Waits, IsOutWith}
use Rattle.relay_lane_tests.proofs.Losses.{lost_on, unsent, unsent_on}

-- ---- a request

shows_sent : (o : Outside) (ws : List Write) (s : State) → Shows o s → Shows (after (Sends ws) o) s
shows_sent o ws s x = record { versions = x.versions; lists = x.lists }

shows_answered : (o : Outside) (n : ℕ) (a : Answer) (s : State) → Shows o s → Shows (after (Answers n a) o) s
shows_answered o n a s x = record { versions = x.versions; lists = x.lists }

none_out : (x : Option ℕ) (reply : List Outcome) (o : Outside) → is_some x ≡ false → IsOutWith x reply o
none_out None reply o e = tt
none_out (Some n) reply o e = absurd (cc)

is_sent : (o : Outside) (number : ℕ) (ws : List Write) → IsNext number o → IsSent (from_zero number) ws (after (Sends ws) o)
is_sent o number ws next =
    let same : from_zero number ≡ length o.requests = omega (arith, next) in
    ap (slice_get (o.requests ++ record { writes = ws; answer = Unanswered } ∷ [])) same ∙ at-last o.requests (record { writes = ws; answer = Unanswered })

-- the request was sent and run
pub Sent : ℕ → List Write → State → Outside → List Outcome → Type 0
Sent number ws t o found = RanSome (from_zero number) 0 t (after (Sends ws) o) found

pub sent_and_run : (o : Outside) (number : ℕ) (ws : List Write) (s t : State) (found : List Outcome) → IsNext number o → Shows o s
    → ((q : Outside) (n : ℕ) → Shows q s → IsSent n ws q → RanSome n 0 t q found) → Sent number ws t o found
unfolding Sent
sent_and_run o number ws s t found next shows run =
    run (after (Sends ws) o) (from_zero number) (shows_sent o ws s shows) (is_sent o number ws next)

pub sent_fits : (o : Outside) (number : ℕ) (ws : List Write) (t : State) (found : List Outcome) → IsNext number o → Sent number ws t o found
    → (p : Outside) × (Shows p t × IsOutWith (Some number) found p) × SendsOn ws o p
unfolding Sent
sent_fits o number ws t found next a = (
  a.after,
  (a.shows, record { writes = ws; sent = ap (λ rs. slice_get rs (from_zero number)) a.same ∙ is_sent o number ws next; each = a.each }),
  record { runs = a.runs },
)

pub lost_fits : (why : Loss) (o : Outside) (number : ℕ) (ws : List Write) (t : State) (found : List Outcome) (x : Option ℕ) (reply : List Outcome) → IsNext number o → is_some x ≡ false
    → Sent number ws t o found → (p : Outside) × (Shows p t × IsOutWith x reply p) × ExchangesOn number ws (Lost why) o p
unfolding Sent
lost_fits why o number ws t found x reply next none a =
    let there : IsSent (from_zero number) ws a.after = ap (λ rs. slice_get rs (from_zero number)) a.same ∙ is_sent o number ws next in
    let may : MayAnswer a.after (from_zero number) (Lost why) = record { request = record { writes = ws; answer = Unanswered }; sent = there; open_yet = refl; honest = tt } in
    let p = after (Answers (from_zero number) (Lost why)) a.after in (
      p,
      (shows_answered a.after (from_zero number) (Lost why) t a.shows, none_out x reply p none),
      record { between = a.after; sends = record { runs = a.runs }; answers = lost_on why a.after number may },
    )

-- ---- what is answered

waits_of : (x : Option ℕ) (number : ℕ) (reply : List Outcome) (o : Outside) → Mem number (option_to_list x) → IsOutWith x reply o → Waits number reply o
waits_of None number reply o m w = absurd m
waits_of (Some n) number reply o m w = ⊎_elim {C = Waits number reply o} (λ e. subst (λ k. Waits k reply o) (sym e) w) (λ none. absurd none) m

answered_by : (number : ℕ) (a : Answer) (o : Outside) (t : State) → Shows o t → MayAnswer o (from_zero number) a → (later : List Outcome)
    → (p : Outside) × (Shows p t × IsOutWith None later p) × AnswersOn number a o p
answered_by number a o t shows may later =
    let p = after (Answers (from_zero number) a) o in
    (p, (shows_answered o (from_zero number) a t shows, tt), record { before = o; runs = no_runs o; may = may; reached = refl })

pub answered_lost : (why : Loss) (x : Option ℕ) (number : ℕ) (reply later : List Outcome) (o : Outside) (t : State) → Mem number (option_to_list x) → Shows o t → IsOutWith x reply o
    → (p : Outside) × (Shows p t × IsOutWith None later p) × AnswersOn number (Lost why) o p
answered_lost why x number reply later o t m shows w =
    let y = waits_of x number reply o m w in
    answered_by number (Lost why) o t shows (record { request = record { writes = y.writes; answer = Unanswered }; sent = y.sent; open_yet = refl; honest = tt }) later

pub answered_items : (x : Option ℕ) (number : ℕ) (reply later : List Outcome) (o : Outside) (t : State) → Mem number (option_to_list x) → Shows o t → IsOutWith x reply o
    → (p : Outside) × (Shows p t × IsOutWith None later p) × AnswersOn number (Items reply) o p
answered_items x number reply later o t m shows w =
    let y = waits_of x number reply o m w in
    answered_by number (Items reply) o t shows (record { request = record { writes = y.writes; answer = Unanswered }; sent = y.sent; open_yet = refl; honest = λ b. y.each }) later

-- ---- a request that could not be sent

still_waits : (why : Loss) (o : Outside) (number k : ℕ) (ws : List Write) (reply : List Outcome) → IsNext number o → Waits k reply o → Waits k reply (unsent why o number ws)
unfolding unsent
still_waits why o number k ws reply next w =
    let below = at-within o.requests (from_zero k) (record { writes = w.writes; answer = Unanswered }) w.sent in
    let ne : from_zero k ≢ from_zero number = λ e. omega (arith, below, e, next) in
    record {
      writes = w.writes;
      sent = at-update_other (from_zero number) (λ (q : Request). record { writes = writes_of q; answer = Lost why }) (o.requests ++ record { writes = ws; answer = Unanswered } ∷ []) (from_zero k) ne
          ∙ at-left o.requests (record { writes = ws; answer = Unanswered } ∷ []) (from_zero k) (record { writes = w.writes; answer = Unanswered }) w.sent;
      each = w.each;
    }

still_out : (why : Loss) (x : Option ℕ) (reply : List Outcome) (o : Outside) (number : ℕ) (ws : List Write) → IsNext number o → IsOutWith x reply o → IsOutWith x reply (unsent why o number ws)
still_out why None reply o number ws next w = tt
still_out why (Some k) reply o number ws next w = still_waits why o number k ws reply next w

shows_unsent : (why : Loss) (o : Outside) (number : ℕ) (ws : List Write) (t : State) → Shows o t → Shows (unsent why o number ws) t
unfolding unsent
shows_unsent why o number ws t x = record { versions = x.versions; lists = x.lists }

pub refused_fits : (why : Loss) (x : Option ℕ) (reply : List Outcome) (o : Outside) (number : ℕ) (ws : List Write) (t : State) → IsNext number o → Shows o t → IsOutWith x reply o
    → (p : Outside) × (Shows p t × IsOutWith x reply p) × ExchangesOn number ws (Lost why) o p
refused_fits why x reply o number ws t next shows w = (unsent why o number ws, (shows_unsent why o number ws t shows, still_out why x reply o number ws next w), unsent_on why o number ws next)
