-- Several lanes over one index: one list of requests and one log of runs, in the order in which they came about.
use Rattle.std.specs.Prelude.{◌≡◌, ℕ, List, [], ◌∷◌, ◌++◌, Option, Some, slice_get, Bool, map, length}
use Rattle.relay_results.specs.Words.{update}
use Rattle.relay_results.specs.Documents.{Document}
use Rattle.relay_results.specs.Outside.{Answer, Unanswered, Request, writes_of, RunOutcome, Ran, Outside}
use Rattle.relay_delivery.specs.Machine.{Config, Held, Sends, Runs, Answers, write_of, MayStep}
use Rattle.relay_delivery.specs.Lanes.{Lanes, Move, Puts, Closes, Fetches, Steps, move, MayMove, IsStart}

-- the lane that sent a request, and the number of the request there
pub record Origin : Type 0 where
  pub lane : ℕ
  pub number : ℕ

-- the lanes, all requests in the order in which they were sent, where each came from, and all runs
pub record Together : Type 0 where
  pub lanes : Lanes
  pub sent : List Request
  pub origins : List Origin
  pub runs : List Ran

-- ---- acts

-- a put, a close or a take; a lane sends; an item is run; a request is answered: each by its number among all
-- requests, with its origin
pub data Act : Type 0 where
  Plain : Move → Act
  SendsFrom : ℕ → List Held → Act
  RunsAt : ℕ → ℕ → RunOutcome → Origin → Act
  AnswersAt : ℕ → Answer → (ℕ → Bool) → Origin → Act

abbrev pub run_at : ℕ → ℕ → RunOutcome → Ran
run_at request place outcome = record { request = request; place = place; outcome = outcome }

abbrev pub act : Config → (Document → ℕ) → Act → Together → Together
act g lane_of (Plain m) s = record { lanes = move g lane_of m s.lanes; sent = s.sent; origins = s.origins; runs = s.runs }
act g lane_of (SendsFrom l chosen) s = record {
  lanes = move g lane_of (Steps l (Sends chosen)) s.lanes;
  sent = s.sent ++ record { writes = map write_of chosen; answer = Unanswered } ∷ [];
  origins = s.origins ++ record { lane = l; number = length (s.lanes.lane l).outside.requests } ∷ [];
  runs = s.runs;
}
act g lane_of (RunsAt request place outcome from) s = record {
  lanes = move g lane_of (Steps from.lane (Runs (run_at from.number place outcome))) s.lanes;
  sent = s.sent;
  origins = s.origins;
  runs = s.runs ++ run_at request place outcome ∷ [];
}
act g lane_of (AnswersAt request a old from) s = record {
  lanes = move g lane_of (Steps from.lane (Answers from.number a old)) s.lanes;
  sent = update request (λ q. record { writes = writes_of q; answer = a }) s.sent;
  origins = s.origins;
  runs = s.runs;
}

abbrev pub IsPlain : Move → Type 0
IsPlain (Puts o) = Unit {0}
IsPlain (Closes p) = Unit {0}
IsPlain (Fetches l) = Unit {0}
IsPlain (Steps l s) = ⊥

-- each act is a move of its lane, given the origin of its request
abbrev pub MayAct : Config → Act → Together → Type 0
MayAct g (Plain m) s = IsPlain m × MayMove g m s.lanes
MayAct g (SendsFrom l chosen) s = MayStep (Sends chosen) (s.lanes.lane l)
MayAct g (RunsAt request place outcome from) s =
    (slice_get s.origins request ≡ Some from) × MayStep (Runs (run_at from.number place outcome)) (s.lanes.lane from.lane)
MayAct g (AnswersAt request a old from) s =
    (slice_get s.origins request ≡ Some from) × MayStep (Answers from.number a old) (s.lanes.lane from.lane)

abbrev pub acts_of : Config → (Document → ℕ) → List Act → Together → Together
acts_of g lane_of [] s = s
acts_of g lane_of (a ∷ more) s = acts_of g lane_of more (act g lane_of a s)

abbrev pub AllMayAct : Config → (Document → ℕ) → List Act → Together → Type 0
AllMayAct g lane_of [] s = Unit {0}
AllMayAct g lane_of (a ∷ more) s = MayAct g a s × AllMayAct g lane_of more (act g lane_of a s)

-- nothing has happened yet, over an index with these versions stored
pub record IsFreshTogether (stored : Document → Option ℕ) (s : Together) : Type 0 where
  pub lanes : IsStart s.lanes
  pub sent : s.sent ≡ []
  pub origins : s.origins ≡ []
  pub runs : s.runs ≡ []
  pub found : (l : ℕ) (k : Document) → (s.lanes.lane l).outside.stored k ≡ stored k

-- ---- the one outside

-- the common outside of all lanes; for a document, its lane's outside shows what the index has
abbrev pub outside_of : (Document → ℕ) → Together → Outside
outside_of lane_of s = record {
  requests = s.sent;
  runs = s.runs;
  stored = λ k. (s.lanes.lane (lane_of k)).outside.stored k;
  before = λ k. (s.lanes.lane (lane_of k)).outside.before k;
  applied = λ k. (s.lanes.lane (lane_of k)).outside.applied k;
}
