-- The course of a lane continues while it works and takes: what each step leaves of it, with the calls by which the lane
-- reached its state.
use Rattle.std.proofs.Common.{◌≡◌, ◌≢◌, ℕ, ◌+◌, ◌<◌, List, [], ◌∷◌, ◌++◌, Bool, Result, Ok, Err, OnOk, OnErr, refl, sym, ap, ◌∙◌, subst, arith, length, length-append, append-nil}
use Rattle.std.proofs.lemmas.List.{length-replicate}
use Rattle.relay_action.specs.declared.mail.Mail.{Mail}
use Rattle.relay_action.specs.declared.mail.Body.{Body}
use Rattle.relay_action.specs.declared.mail.Body.TheVariants as body
use Rattle.relay_action.specs.declared.operation.Op.{Op}
use Rattle.relay_results.specs.Outside.{Outside}
use Rattle.relay_results.proofs.Steps.{continues_itself, continues_on}
use Rattle.relay_delivery.specs.Explained.{Explains}
use Rattle.relay_delivery.specs.Lane as delivery
use Rattle.relay_delivery.specs.Reach.{Call, Takes, Ticks, calls_of, AllMayCall, taken_in}
use Rattle.relay_core.specs.declared.config.RelayConfig.{RelayConfig}
use Rattle.relay_core.specs.declared.success.Success.{Success}
use Rattle.relay_core.specs.State.{State, fresh, after_take, bytes_of, later}
use Rattle.relay_core.specs.Ties.{Fits, ops_of}
use Rattle.relay_core.proofs.Tying.{fresh_fits, take_fits}
use Rattle.relay_lane.specs.Calls.{called_in}
use Rattle.relay_lane.specs.Turns.{Turn, Stays, after_ticks}
use Rattle.relay_lane.specs.Delivers.{LeadsOn, WorkedOn}
use Rattle.relay_lane.specs.Reach.{IsReached}
use Rattle.relay_lane.specs.Out.{out_of}
use Rattle.relay_lane.proofs.Calling.{work_called}
use Rattle.relay_lane.proofs.Carrying.{goes_on, explains_none, explains_on, leads_ticks}
use Rattle.relay_lane.proofs.Passing.{passes_on, passes_none}
use Rattle.relay_lane.proofs.Out.{take_keeps_out}
use Rattle.relay_lane.specs.Exchanges.{Exchange, Passes}
use Rattle.relay_threads.specs.Course.{puts_of, KnowsClosed, KnowsOpen, DeliversFrom, Course}
use Rattle.relay_threads.specs.Told.{noted_in}
use Rattle.relay_threads.proofs.Totals.{worked_totals, take_totals, take_counts}
use Rattle.relay_threads.proofs.Hearing.{puts_push, puts_tick, knows_more, knows_take, open_stays, open_take, not_done, none_known, take_senders, take_config}
use Rattle.relay_threads.proofs.Noting.{calls_config, reached_on}

-- ---- a message

pub tick_apart : body.Tick ≢ body.Done
tick_apart e = cc

-- the calls of a message
abbrev pub heard_as : State → Body → List Call
heard_as s (body.Put o) = Takes o (bytes_of s o) ∷ []
heard_as s body.Tick = Ticks (later s.core.clock) ∷ []
heard_as s body.Flush = []
heard_as s body.Done = []

-- what they come to
pub record Hears (s t : State) (b : Body) : Type 0 where
  pub same : t.core.config ≡ s.core.config
  pub may : AllMayCall (heard_as s b) s.core
  pub is : calls_of (heard_as s b) s.core ≡ t.core
  pub took : taken_in (heard_as s b) ≡ ops_of b
  pub numbers : s.flights.next ≡ s.core.requests + 1 → t.flights.next ≡ t.core.requests + 1
  pub notes : t.successes ≡ s.successes ++ noted_in (heard_as s b) s.core
  pub explained : (o : Outside) → Explains (heard_as s b) o o

pub hears : (s : State) (sender : ℕ) (b : Body) → Hears s (after_take s sender b) b
hears s sender (body.Put o) = record { same = refl; may = (tt, tt); is = refl; took = refl; numbers = λ e. e; notes = sym (append-nil s.successes); explained = λ p. ([], tt, tt, ([], tt, refl)) }
hears s sender body.Tick = record { same = refl; may = (tt, tt); is = refl; took = refl; numbers = λ e. e; notes = sym (append-nil s.successes); explained = λ p. ([], tt, tt, ([], tt, refl)) }
hears s sender body.Flush = record { same = refl; may = tt; is = refl; took = refl; numbers = λ e. e; notes = sym (append-nil s.successes); explained = λ p. ([], tt, refl) }
hears s sender body.Done = record { same = refl; may = tt; is = refl; took = refl; numbers = λ e. e; notes = sym (append-nil s.successes); explained = λ p. ([], tt, refl) }

pub counts_more : (s : State) (heard : List Mail) (m : Mail) → s.core.taken ≡ length (puts_of heard) → (after_take s m.sender m.body).core.taken ≡ length (puts_of (heard ++ m ∷ []))
counts_more s heard m t =
    let n = take_counts s m.sender m.body in
    let p = ap length (puts_push heard m) in
    let a = length-append (puts_of heard) (ops_of m.body) in
    omega (arith, n, p, a, t)

module _ {S : Type 0} (d : Bool) (fits : S → Outside → Type 0) (carries : S → Exchange → S → Type 0) where
  -- ---- at the start

  abbrev pub fresh_course : (w : S) (c : RelayConfig) → Course d fits carries w w c [] (fresh c)
  fresh_course w c = record {
    config = refl;
    core = refl;
    taken = refl;
    senders = length-replicate (c.producers + 1) _;
    closed = none_known (c.producers + 1) [];
    not_closed = λ p lt e d. d;
    totals = refl;
    reached = record { core = record { calls = []; may = tt; took = refl; reached = refl }; next = refl };
    passes = passes_none carries 0 w;
    delivers = λ is o f opening below. goes_on fits w (fresh c) [] [] o o f (continues_itself o) (explains_none o) (fresh_fits c o opening below);
  }

  -- ---- it works

  -- what was delivered until now continues over requests
  pub further : (start v w : S) (s t : State) (c : RelayConfig) (heard : List Mail) (cs ds : List Call) → LeadsOn d fits v w s t ds → DeliversFrom d fits start v c heard s cs → DeliversFrom d fits start w c heard t (cs ++ ds)
  further start v w s t c heard cs ds new old is o f opening below =
      let x = old is o f opening below in
      let y = new is (puts_of heard) x.outside x.fitting x.lane in
      goes_on fits w t (puts_of heard) (cs ++ ds) o y.outside y.fitting (continues_on o x.outside y.outside x.continues y.continues) (explains_on cs ds o x.outside y.outside x.explains y.explains) y.lane

  -- what is reached by it
  pub core_works : (going : Turn → State → Bool) (v w : S) (s t : State) → WorkedOn d fits carries going v w s t → s.flights.next ≡ s.core.requests + 1 → t.core.config ≡ s.core.config
  core_works going v w s t x numbers = ap (λ (z : delivery.State). z.config) (sym (work_called going s t x.worked numbers).reached) ∙ calls_config (called_in x.worked.turns s) s.core

  abbrev pub works_to : (going : Turn → State → Bool) (v w : S) (s t : State) (taken : List Op) → WorkedOn d fits carries going v w s t → IsReached s taken → IsReached t taken
  works_to going v w s t taken x r = reached_on s t taken taken (called_in x.worked.turns s) r (core_works going v w s t x r.next) (work_called going s t x.worked r.next).may (work_called going s t x.worked r.next).reached
      (ap (λ os. taken ++ os) (work_called going s t x.worked r.next).none ∙ append-nil taken) (work_called going s t x.worked r.next).numbers

  abbrev pub works : (going : Turn → State → Bool) (start v w : S) (s t : State) (c : RelayConfig) (heard : List Mail) → WorkedOn d fits carries going v w s t → Stays s t → Course d fits carries start v c heard s → Course d fits carries start w c heard t
  works going start v w s t c heard x stays k = record {
    config = stays.config ∙ k.config;
    core = core_works going v w s t x k.reached.next ∙ k.core;
    taken = stays.taken ∙ k.taken;
    senders = ap length stays.closed ∙ k.senders;
    closed = subst (λ l. KnowsClosed l heard) (sym stays.closed) k.closed;
    not_closed = subst (λ l. KnowsOpen l heard) (sym stays.closed) k.not_closed;
    totals = worked_totals going s t x.worked k.totals;
    reached = works_to going v w s t (puts_of heard) x k.reached;
    passes = passes_on carries k.reached.core.calls (called_in x.worked.turns s) 0 s.core.requests t.core.requests start v w k.passes x.delivers.passes;
    delivers = further start v w s t c heard k.reached.core.calls (called_in x.worked.turns s) x.delivers.leads k.delivers;
  }

  -- ---- what is no part of its course: another mark, and other notes

  abbrev pub marks : (start w : S) (s : State) (c : RelayConfig) (heard : List Mail) (mark : ℕ) (notes : List Success) → Course d fits carries start w c heard s → Course d fits carries start w c heard (record s { mark = mark; successes = notes })
  marks start w s c heard mark notes k = record {
    config = k.config;
    core = k.core;
    taken = k.taken;
    senders = k.senders;
    closed = k.closed;
    not_closed = k.not_closed;
    totals = k.totals;
    reached = record { core = k.reached.core; next = k.reached.next };
    passes = k.passes;
    delivers = λ is o f opening below.
        let x = k.delivers is o f opening below in
        goes_on fits w (record s { mark = mark; successes = notes }) (puts_of heard) k.reached.core.calls o x.outside x.fitting x.continues x.explains x.lane;
  }

  -- ---- ticks pass

  abbrev pub ticks : (start w : S) (n : ℕ) (s : State) (c : RelayConfig) (heard : List Mail) → Course d fits carries start w c heard s → Course d fits carries start w c heard (after_ticks n s)
  ticks start w n s c heard k = record {
    config = k.config;
    core = k.core;
    taken = k.taken;
    senders = k.senders;
    closed = k.closed;
    not_closed = k.not_closed;
    totals = k.totals;
    reached = reached_on s (after_ticks n s) (puts_of heard) (puts_of heard) (Ticks (s.core.clock + n) ∷ []) k.reached refl (tt, tt) refl (append-nil (puts_of heard)) k.reached.next;
    passes = passes_on carries k.reached.core.calls (Ticks (s.core.clock + n) ∷ []) 0 s.core.requests s.core.requests start w w k.passes (refl, refl, refl);
    delivers = further start w w s (after_ticks n s) c heard k.reached.core.calls (Ticks (s.core.clock + n) ∷ []) (leads_ticks d fits w s (after_ticks n s) n refl) k.delivers;
  }

  -- ---- it takes

  pub heard_more : (start w : S) (s : State) (c : RelayConfig) (heard : List Mail) (m : Mail) (cs : List Call) → DeliversFrom d fits start w c heard s cs → DeliversFrom d fits start w c (heard ++ m ∷ []) (after_take s m.sender m.body) (cs ++ heard_as s m.body)
  heard_more start w s c heard m cs old is o f opening below =
      let x = old is o f opening below in
      let t = after_take s m.sender m.body in
      let more = heard_as s m.body in
      let lane : Fits t (puts_of (heard ++ m ∷ [])) x.outside = subst (λ l. Fits t l x.outside) (sym (puts_push heard m)) (take_fits s m.sender m.body (puts_of heard) x.outside x.lane) in
      goes_on fits w t (puts_of (heard ++ m ∷ [])) (cs ++ more) o x.outside x.fitting x.continues (explains_on cs more o x.outside x.outside x.explains ((hears s m.sender m.body).explained x.outside)) lane

  -- nothing passes over the wire then
  pub heard_passes : (w : S) (s : State) (sender : ℕ) (b : Body) → Passes carries (heard_as s b) s.core.requests w (after_take s sender b).core.requests w
  heard_passes w s sender (body.Put o) = (refl, refl, refl)
  heard_passes w s sender body.Tick = (refl, refl, refl)
  heard_passes w s sender body.Flush = (refl, refl, refl)
  heard_passes w s sender body.Done = (refl, refl, refl)

  abbrev pub takes : (start w : S) (s : State) (c : RelayConfig) (heard : List Mail) (m : Mail) → m.sender < length s.closed → Course d fits carries start w c heard s → Course d fits carries start w c (heard ++ m ∷ []) (after_take s m.sender m.body)
  takes start w s c heard m lt k =
      record {
        config = take_config s m.sender m.body ∙ k.config;
        core = (hears s m.sender m.body).same ∙ k.core;
        taken = counts_more s heard m k.taken;
        senders = take_senders s m.sender m.body ∙ k.senders;
        closed = knows_take s heard m k.closed;
        not_closed = open_take s heard m lt k.not_closed;
        totals = take_totals s m.sender m.body k.totals;
        reached = reached_on s (after_take s m.sender m.body) (puts_of heard) (puts_of (heard ++ m ∷ [])) (heard_as s m.body) k.reached (hears s m.sender m.body).same (hears s m.sender m.body).may (hears s m.sender m.body).is
            (ap (λ os. puts_of heard ++ os) (hears s m.sender m.body).took ∙ sym (puts_push heard m)) ((hears s m.sender m.body).numbers k.reached.next);
        passes = passes_on carries k.reached.core.calls (heard_as s m.body) 0 s.core.requests (after_take s m.sender m.body).core.requests start w w k.passes (heard_passes w s m.sender m.body);
        delivers = heard_more start w s c heard m k.reached.core.calls k.delivers;
      }

  -- a tick that only woke it
  abbrev pub wakes : (start w : S) (s : State) (c : RelayConfig) (heard : List Mail) (m : Mail) → m.body ≡ body.Tick → Course d fits carries start w c heard s → Course d fits carries start w c (heard ++ m ∷ []) s
  wakes start w s c heard m tick k =
      record {
        config = k.config;
        core = k.core;
        taken = k.taken ∙ ap length (sym (puts_tick heard m tick));
        senders = k.senders;
        closed = knows_more s.closed heard m k.closed;
        not_closed = open_stays s.closed heard m (not_done m body.Tick tick tick_apart) k.not_closed;
        totals = k.totals;
        reached = record { core = record { calls = k.reached.core.calls; may = k.reached.core.may; took = k.reached.core.took ∙ sym (puts_tick heard m tick); reached = k.reached.core.reached }; next = k.reached.next };
        passes = k.passes;
        delivers = λ is o f opening below.
            let x = k.delivers is o f opening below in
            goes_on fits w s (puts_of (heard ++ m ∷ [])) k.reached.core.calls o x.outside x.fitting x.continues x.explains (subst (λ l. Fits s l x.outside) (sym (puts_tick heard m tick)) x.lane);
      }

-- a message that was taken, or refused, leaves what is outstanding
pub out_after : {A E : Type 0} (r : Result A E) (s t : State) (m : Mail) → OnOk r (t ≡ after_take s m.sender m.body) → OnErr r (t ≡ s) → out_of t ≡ out_of s
out_after (Ok x) s t m ok err = ap out_of ok ∙ take_keeps_out s m.sender m.body
out_after (Err x) s t m ok err = ap out_of err
