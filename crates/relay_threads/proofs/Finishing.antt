-- If no lane went wrong, all have finished.
use Rattle.std.proofs.Common.{◌≡◌, ◌≢◌, Option, ◌++◌, append-nil, length-append, ℕ, suc, ◌+◌, ◌<◌, ◌≤◌, Bool, true, false, ◌||◌, List, [], ◌∷◌, length, map, sym, refl, ap, ◌∙◌, subst, arith}
use Rattle.std.specs.Prelude.{nat_le}
use Rattle.std.proofs.lemmas.List.{length-map}
use Rattle.std.proofs.lemmas.Bool.Decides.{nat_tests}
use Rattle.relay_action.specs.declared.mail.Mail.{Mail}
use Rattle.relay_action.specs.declared.operation.Op.{Op}
use Rattle.relay_results.specs.Outside.{Outside, IsOpening}
use Rattle.relay_delivery.specs.Delivery.{HasDistinctNames, IsSound, IsComplete, applied_ops}
use Rattle.relay_delivery.specs.Machine.{Config, Report, first_in}
use Rattle.relay_delivery.specs.Explained.{Begins, Explains}
use Rattle.relay_delivery.specs.Reach.{Call, Reached}
use Rattle.relay_delivery.proofs.Explained.{explained_sound, explained_complete}
use Rattle.relay_delivery.specs.Stating.{BeginsBeside, StatesVersions}
use Rattle.relay_delivery.proofs.Stating.{explained_sound_if_stated, explained_complete_if_stated}
use Rattle.relay_queue.specs.Ends.{Queue}
use Rattle.relay_queue.specs.Messages.{IsWellTaken, mail_of}
use Rattle.relay_core.specs.declared.config.RelayConfig.{RelayConfig}
use Rattle.relay_core.specs.State.{config_of}
use Rattle.relay_core.specs.declared.success.Success.{Success}
use Rattle.relay_core.specs.Walk.{report_of}
use Rattle.relay_core.specs.Limits.{is_valid, is_from_to}
use Rattle.relay_results.specs.Words.{count}
use Rattle.relay_results.proofs.Lists.{and_left, and_right, Mem-left}
use Rattle.relay_delivery.specs.Lane.{held_of, fresh_state}
use Rattle.relay_core.specs.Endings.{is_held_as, is_success_as, is_report_as}
use Rattle.relay_producer.specs.States.{ClosedProducerState, ClosedControlState}
use Rattle.relay_lane.specs.Delivers.{GoesOn}
use Rattle.relay_lane.specs.Exchanges.{Exchange, Passes}
use Rattle.relay_producer.specs.declared.ends.ClosedEnd.{ClosedEnd}
use Rattle.relay_threads.specs.declared.lane_end.LaneEnd.{LaneEnd}
use Rattle.relay_threads.specs.declared.lane_end.LaneEndKind.{LaneEndKind}
use Rattle.relay_threads.specs.declared.lane_end.LaneEndKind.TheVariants.{Finished, Memory, Gone}
use Rattle.relay_threads.specs.declared.summary.LaneSummary.{LaneSummary}
use Rattle.relay_threads.specs.Course.{puts_of, HasHeard, IsBelow}
use Rattle.relay_threads.specs.Promises.{KeepsCourse, KeepsTold}
use Rattle.relay_threads.specs.Told.{Told, Shows, noted_in, IsOfTaken, IsToldTruly, GoesOnTruly}
use Rattle.relay_threads.specs.ToldAll.{LeadsToTruly, ToldLane, AllTold}
use Rattle.relay_threads.specs.Lanes.{LaneHandle, queues_of, wires_of, tells_of, AreLanesOf, EndAsPromised, ToldAsPromised}
use Rattle.relay_threads.specs.Faults.{ends_as, is_memory, is_gone_kind, is_gone_in, is_gone_in_any, is_gone_lane}
use Rattle.relay_threads.specs.Ending.{EndsOn, AllEndOn, LeadsTo, IsDeliveredFor, FinishedLane, AllFinished}
use Rattle.relay_threads.specs.Relay.{RelayState, AreRows, rows_of}
use Rattle.relay_threads.specs.Sums.{AreMetAt, NoneGoneIn, NoneGone, queues_of_ends, AreDone, SumsUp, AllSumUp}
use Rattle.relay_threads.proofs.Popping.{long_map}
use Rattle.relay_threads.proofs.Summing.{row_long}
use Rattle.relay_threads.proofs.Firsts.{NoneBelow}

-- ---- no lane is marked

or_left : (a b : Bool) → (a || b) ≡ false → a ≡ false
or_left true b e = e
or_left false b e = refl

or_right : (a b : Bool) → (a || b) ≡ false → b ≡ false
or_right true b e = absurd (cc)
or_right false b e = e

none_gone_in : (row : List ClosedEnd) → ((lane : ℕ) → lane < length row → is_gone_in row lane ≡ false) → NoneGoneIn row
none_gone_in [] h = tt
none_gone_in (e ∷ es) h = (h 0 (omega arith), none_gone_in es (λ lane lt. h (suc lane) (omega (arith, lt))))

pub none_gone : (qs : List Queue) (p : ℕ) (rows : List (List ClosedEnd)) → AreRows qs p rows → ((lane : ℕ) → lane < length qs → is_gone_in_any rows lane ≡ false) → NoneGone rows
none_gone qs p [] own h = tt
none_gone qs p (r ∷ rs) own h = (
  none_gone_in r (λ lane lt. or_left (is_gone_in r lane) (is_gone_in_any rs lane) (h lane (let l = row_long qs p r own.0 in omega (arith, l, lt)))),
  none_gone qs (p + 1) rs own.1 (λ lane lt. or_right (is_gone_in r lane) (is_gone_in_any rs lane) (h lane lt)),
)

is_finished : (kind : LaneEndKind) → is_memory kind ≡ false → is_gone_kind kind ≡ false → kind ≡ Finished
is_finished Finished m g = refl
is_finished Memory m g = absurd (cc)
is_finished Gone m g = absurd (cc)

module _ {W : Type 0} (describes : W → Bool) (fits : W → Outside → Type 0) (carries : W → Exchange → W → Type 0) (c : RelayConfig) where
  -- ---- what the threads promised

  pub all_end : {T : Type 0} (hs : List (LaneHandle W T)) (es : List (LaneEnd W)) → AreLanesOf c hs → EndAsPromised describes fits carries hs es → AllEndOn describes fits carries c (queues_of hs) (wires_of hs) es
  all_end [] [] own k = tt
  all_end [] (e ∷ es) own k = absurd k
  all_end (h ∷ hs) [] own k = absurd k
  all_end (h ∷ hs) (e ∷ es) own k =
      let one : KeepsCourse describes fits carries c h.promise.take.value h.promise.wire.value e = subst (λ g. KeepsCourse describes fits carries g h.promise.take.value h.promise.wire.value e) own.0.0 k.0 in
      let n = own.0.1 in (
        record {
          of_queue = one.queue;
          well_taken = subst (λ m. IsWellTaken m e.taken.taken) (one.senders ∙ n) one.well_taken;
          ends = one.ends;
          closed = λ f sender lt. one.closed f sender (omega (arith, n, lt));
        },
        all_end hs es own.1 k.1,
      )

  pub queues_same : (qs : List Queue) (ws : List W) (es : List (LaneEnd W)) → AllEndOn describes fits carries c qs ws es → queues_of_ends es ≡ qs
  queues_same [] [] [] a = refl
  queues_same [] [] (e ∷ es) a = absurd a
  queues_same [] (w ∷ ws) es a = absurd a
  queues_same (q ∷ qs) [] es a = absurd a
  queues_same (q ∷ qs) (w ∷ ws) [] a = absurd a
  queues_same (q ∷ qs) (w ∷ ws) (e ∷ es) a = let r = queues_same qs ws es a.1 in let s = a.0.of_queue in λ i. s i ∷ r i

  -- ---- all have finished

  abbrev pub AllKinds : List (LaneEnd W) → Type 0
  AllKinds [] = Unit {0}
  AllKinds (e ∷ es) = (e.kind ≡ Finished) × AllKinds es

  all_kinds : (es : List (LaneEnd W)) → ((lane : ℕ) → lane < length es → ends_as is_memory es lane ≡ false) → ((lane : ℕ) → lane < length es → ends_as is_gone_kind es lane ≡ false) → AllKinds es
  all_kinds [] m g = tt
  all_kinds (e ∷ es) m g = (is_finished e.kind (m 0 (omega arith)) (g 0 (omega arith)), all_kinds es (λ lane lt. m (suc lane) (omega (arith, lt))) (λ lane lt. g (suc lane) (omega (arith, lt))))

  done_of : (n : ℕ) (qs : List Queue) (ws : List W) (es : List (LaneEnd W)) → n ≡ c.producers + 1 → AllEndOn describes fits carries c qs ws es → AllKinds es → AreDone n es
  done_of n [] [] [] at a k = tt
  done_of n [] [] (e ∷ es) at a k = absurd a
  done_of n [] (w ∷ ws) es at a k = absurd a
  done_of n (q ∷ qs) [] es at a k = absurd a
  done_of n (q ∷ qs) (w ∷ ws) [] at a k = absurd a
  done_of n (q ∷ qs) (w ∷ ws) (e ∷ es) at a k = ((λ sender lt. a.0.closed k.0 sender (omega (arith, at, lt))), done_of n qs ws es at a.1 k.1)

  -- what the sum needs
  pub record MaySum (n : ℕ) (rows : List (List ClosedEnd)) (es : List (LaneEnd W)) : Type 0 where
    pub rows_own : AreRows (queues_of_ends es) 0 rows
    pub none_marked : NoneGone rows
    pub each_done : AreDone n es
    pub kinds : AllKinds es

  pub may_sum : (n : ℕ) (qs : List Queue) (ws : List W) (es : List (LaneEnd W)) (rows : List (List ClosedEnd)) (lanes : ℕ) → n ≡ c.producers + 1 → length es ≡ lanes → AllEndOn describes fits carries c qs ws es → AreRows qs 0 rows
      → NoneBelow (ends_as is_memory es) lanes → NoneBelow (is_gone_lane es rows) lanes → MaySum n rows es
  may_sum n qs ws es rows lanes at long a own m g =
      let same = queues_same qs ws es a in
      let long_q = long_map (λ (e : LaneEnd W). e.taken.queue) es in
      let kinds = all_kinds es (λ lane lt. m lane (omega (arith, lt, long))) (λ lane lt. or_left (ends_as is_gone_kind es lane) (is_gone_in_any rows lane) (g lane (omega (arith, lt, long)))) in
      let taken = subst (λ q. AreRows q 0 rows) (sym same) own in
      record {
        rows_own = taken;
        none_marked = none_gone (queues_of_ends es) 0 rows taken (λ lane lt. or_right (ends_as is_gone_kind es lane) (is_gone_in_any rows lane) (g lane (omega (arith, lt, long_q, long))));
        each_done = done_of n qs ws es at a kinds;
        kinds = kinds;
      }

  -- ---- one lane

  heard_whole : (kind : LaneEndKind) (taken heard : List Mail) → kind ≡ Finished → HasHeard kind taken heard → taken ≡ heard
  heard_whole kind taken heard f h = h.all ∙ ap (λ l. heard ++ l) (h.memory (not_memory kind f)) ∙ append-nil heard where
    not_memory : (kind : LaneEndKind) → kind ≡ Finished → kind ≢ Memory
    not_memory kind f e = let k : Finished ≡ Memory = sym f ∙ e in absurd (cc)

  -- delivery, as a lane's end has it, is that of its summary
  leads_to : (ops : List Op) (calls : List Call) (e : LaneEnd W) (s : LaneSummary W) (o : Outside) → e.lane.state.config ≡ c → e.lane.state.core.held ≡ [] → SumsUp e s → HasDistinctNames ops → GoesOn fits e.wire e.lane.state ops calls o → LeadsTo describes fits carries c ops calls s o
  leads_to ops calls e s o is none sum distinct g =
      let conf : e.lane.state.core.config ≡ config_of c = sum.lane.config ∙ ap config_of is in
      let reports = sum.reports in
      record {
        outside = g.outside;
        fitting = subst (λ w. fits w g.outside) (sym sum.wire) g.fitting;
        continues = g.continues;
        explains = g.explains;
        requests = sum.requests ∙ g.lane.is_of.requests ∙ ap (λ (x : Outside). length x.requests) g.lane.outside;
        applied = sum.applied ∙ g.delivered.applied;
        already = sum.already ∙ g.delivered.already;
        sound = subst (λ (z : Config × List Report). IsSound z.0 ops z.1 g.outside (applied_ops z.0 ops g.outside)) (λ i. (conf i, sym reports i)) (g.delivered.sound distinct);
        complete = subst (λ (z : Config × List Report). IsComplete ops z.1 (applied_ops z.0 ops g.outside)) (λ i. (conf i, sym reports i)) (g.delivered.complete none distinct);
      }

  -- delivery for an outside that explains a lane's calls
  explains : (ops : List Op) (e : LaneEnd W) (s : LaneSummary W) (o p : Outside) → e.lane.state.config ≡ c → e.lane.state.core.held ≡ [] → SumsUp e s → HasDistinctNames ops
      → (r : Reached e.lane.state.core ops) → IsOpening o → IsBelow (first_in c.epoch) o → Explains r.calls o p → IsDeliveredFor describes fits carries c ops s p
  explains ops e s o p is none sum distinct r opening below x =
      let conf : e.lane.state.core.config ≡ config_of c = sum.lane.config ∙ ap config_of is in
      let first : e.lane.state.core.config.first ≡ first_in c.epoch = ap (λ (g : Config). g.first) conf in
      let reports = sum.reports in
      let begins : Begins e.lane.state.core.config.first o = record { opening = opening; below = λ k u at. subst (λ f. u < f) (sym first) (below k u at) } in
      record {
        sound = subst (λ (z : Config × List Report). IsSound z.0 ops z.1 p (applied_ops z.0 ops p)) (λ i. (conf i, sym reports i)) (explained_sound e.lane.state.core ops r o p begins x distinct);
        complete = subst (λ (z : Config × List Report). IsComplete ops z.1 (applied_ops z.0 ops p)) (λ i. (conf i, sym reports i)) (explained_complete e.lane.state.core ops r o p begins x distinct none);
      }

  -- the same for an outside that states the stored versions
  explains_if_stated : (ops : List Op) (e : LaneEnd W) (s : LaneSummary W) (o p : Outside) → e.lane.state.config ≡ c → e.lane.state.core.held ≡ [] → SumsUp e s → HasDistinctNames ops
      → (r : Reached e.lane.state.core ops) → BeginsBeside (config_of c) o → Explains r.calls o p → StatesVersions p → IsDeliveredFor describes fits carries c ops s p
  explains_if_stated ops e s o p is none sum distinct r begins x states =
      let conf : e.lane.state.core.config ≡ config_of c = sum.lane.config ∙ ap config_of is in
      let reports = sum.reports in
      let here : BeginsBeside e.lane.state.core.config o = subst (λ g. BeginsBeside g o) (sym conf) begins in
      record {
        sound = subst (λ (z : Config × List Report). IsSound z.0 ops z.1 p (applied_ops z.0 ops p)) (λ i. (conf i, sym reports i)) (explained_sound_if_stated e.lane.state.core ops r o p here x states distinct);
        complete = subst (λ (z : Config × List Report). IsComplete ops z.1 (applied_ops z.0 ops p)) (λ i. (conf i, sym reports i)) (explained_complete_if_stated e.lane.state.core ops r o p here x states distinct none);
      }

  -- what passed over its wire
  passes_to : (calls : List Call) (w : W) (e : LaneEnd W) (s : LaneSummary W) → SumsUp e s → Passes carries calls 0 w e.lane.state.core.requests e.wire → Passes carries calls 0 w s.requests s.wire
  passes_to calls w e s sum x = subst (λ (z : ℕ × W). Passes carries calls 0 w z.0 z.1) (λ i. (sym sum.requests i, sym sum.wire i)) x

  one_finished : (rows : List (List ClosedEnd)) (lane : ℕ) (q : Queue) (w : W) (e : LaneEnd W) (s : LaneSummary W) → length rows ≡ c.producers + 1 → e.kind ≡ Finished → EndsOn describes fits carries c q w e → AreMetAt lane 0 e.taken.taken rows → SumsUp e s → FinishedLane describes fits carries c rows lane w s
  one_finished rows lane q w e s count f on met sum =
      let x = on.ends in
      let none = x.none_held f in
      let all = heard_whole e.kind e.taken.taken x.messages f x.heard in
      let k = x.course in
      let totals = k.totals in
      let held : length e.lane.state.core.held ≡ 0 = ap length none in
      let long = length-map s.reports.items report_of in
      let reports = ap length sum.reports in
      let taken : s.taken ≡ length (puts_of e.taken.taken) = sum.taken ∙ k.taken ∙ ap (λ m. length (puts_of m)) (sym all) in
      let calls = k.reached.core in
      let reached : Reached e.lane.state.core (puts_of e.taken.taken) = record { calls = calls.calls; may = calls.may; took = calls.took ∙ ap puts_of (sym all); reached = calls.reached } in
      record {
        messages = e.taken.taken;
        met = met;
        no_other = λ sender le. on.well_taken.no_other sender (omega (arith, count, le));
        taken = taken;
        totals = omega (arith, totals, held, long, reports, sum.applied, sum.already, sum.taken);
        reached = record {
          state = e.lane.state.core;
          reached = reached;
          passes = passes_to calls.calls w e s sum k.passes;
          config = sum.lane.config ∙ ap config_of k.config;
          none_held = none;
          taken = sum.taken;
          applied = sum.applied;
          already = sum.already;
          requests = sum.requests;
          reports = sum.reports;
        };
        explained = λ distinct o p opening below x. explains (puts_of e.taken.taken) e s o p k.config none sum distinct reached opening below x;
        explained_if_stated = λ distinct o p begins x states. explains_if_stated (puts_of e.taken.taken) e s o p k.config none sum distinct reached begins x states;
        delivers = λ distinct is o fit opening below.
            leads_to (puts_of e.taken.taken) calls.calls e s o k.config none sum distinct
            (subst (λ m. GoesOn fits e.wire e.lane.state (puts_of m) calls.calls o) (sym all) (k.delivers is o fit opening below));
      }

  -- ---- all lanes

  pub all_finished : (rows : List (List ClosedEnd)) (lane : ℕ) (qs : List Queue) (ws : List W) (es : List (LaneEnd W)) (ss : List (LaneSummary W)) → length rows ≡ c.producers + 1 → AllEndOn describes fits carries c qs ws es → AllKinds es → AllSumUp rows lane es ss
      → AllFinished describes fits carries c rows lane ws ss
  all_finished rows lane [] [] [] [] n a k s = tt
  all_finished rows lane [] [] [] (x ∷ ss) n a k s = absurd s
  all_finished rows lane [] [] (e ∷ es) ss n a k s = absurd a
  all_finished rows lane [] (w ∷ ws) es ss n a k s = absurd a
  all_finished rows lane (q ∷ qs) [] es ss n a k s = absurd a
  all_finished rows lane (q ∷ qs) (w ∷ ws) [] ss n a k s = absurd a
  all_finished rows lane (q ∷ qs) (w ∷ ws) (e ∷ es) [] n a k s = absurd s
  all_finished rows lane (q ∷ qs) (w ∷ ws) (e ∷ es) (x ∷ ss) n a k s = (one_finished rows lane q w e x n k.0 a.0 s.0.0 s.0.1, all_finished rows (lane + 1) qs ws es ss n a.1 k.1 s.1)

-- ---- what they told

module _ {W T : Type 0} (describes : W → Bool) (fits : W → Outside → Type 0) (carries : W → Exchange → W → Type 0) (told : T → ℕ → Option Told) (c : RelayConfig) where
  -- this is what the lanes have told that have ended, each with its wire at the start, and with what it told by at the
  -- start and at the end
  abbrev pub AllEndTold : List W → List T → List (LaneEnd W) → List T → Type 0
  AllEndTold [] [] [] [] = Unit {0}
  AllEndTold [] [] [] (t ∷ ts) = ⊥
  AllEndTold [] [] (e ∷ es) ts = ⊥
  AllEndTold [] (f ∷ fs) es ts = ⊥
  AllEndTold (w ∷ ws) [] es ts = ⊥
  AllEndTold (w ∷ ws) (f ∷ fs) [] ts = ⊥
  AllEndTold (w ∷ ws) (f ∷ fs) (e ∷ es) [] = ⊥
  AllEndTold (w ∷ ws) (f ∷ fs) (e ∷ es) (t ∷ ts) = KeepsTold describes fits carries told c w f t e × AllEndTold ws fs es ts

  all_told : (hs : List (LaneHandle W T)) (es : List (LaneEnd W)) (ts : List T) → AreLanesOf c hs → ToldAsPromised describes fits carries told hs es ts → AllEndTold (wires_of hs) (tells_of hs) es ts
  all_told [] [] [] own k = tt
  all_told [] [] (t ∷ ts) own k = absurd k
  all_told [] (e ∷ es) ts own k = absurd k
  all_told (h ∷ hs) [] ts own k = absurd k
  all_told (h ∷ hs) (e ∷ es) [] own k = absurd k
  all_told (h ∷ hs) (e ∷ es) (t ∷ ts) own k = (subst (λ g. KeepsTold describes fits carries told g h.promise.wire.value h.promise.tell.value t e) own.0.0 k.0, all_told hs es ts own.1 k.1)

  -- what is true beside an outside for a lane's end is true for its summary
  truly : (ops : List Op) (applied : List Success) (reported : List Report) (e : LaneEnd W) (s : LaneSummary W) (p : Outside) → e.lane.state.config ≡ c → SumsUp e s → reported ≡ map report_of s.reports.items
      → IsToldTruly e.lane.state.core.config ops applied reported p → IsToldTruly (config_of c) ops applied (map report_of s.reports.items) p
  truly ops applied reported e s p is sum all x =
      let core : e.lane.state.core.config ≡ config_of c = sum.lane.config ∙ ap config_of is in
      subst (λ (z : Config × List Report). IsToldTruly z.0 ops applied z.1 p) (λ i. (core i, all i)) x

  leads_to_truly : (ops : List Op) (calls : List Call) (applied : List Success) (reported : List Report) (e : LaneEnd W) (s : LaneSummary W) (o : Outside) → e.lane.state.config ≡ c → e.lane.state.core.held ≡ [] → SumsUp e s → HasDistinctNames ops → reported ≡ map report_of s.reports.items
      → GoesOnTruly fits e.wire e.lane.state ops calls applied reported o → LeadsToTruly describes fits carries told c ops calls applied s o
  unfolding leads_to
  leads_to_truly ops calls applied reported e s o is none sum distinct all g = record {
    delivery = leads_to describes fits carries c ops calls e s o is none sum distinct g.goes_on;
    truly = truly ops applied reported e s g.goes_on.outside is sum all g.truly;
  }

  one_told : (rows : List (List ClosedEnd)) (lane : ℕ) (q : Queue) (w : W) (e : LaneEnd W) (first last : T) (s : LaneSummary W) → length rows ≡ c.producers + 1 → e.kind ≡ Finished → EndsOn describes fits carries c q w e → KeepsTold describes fits carries told c w first last e → AreMetAt lane 0 e.taken.taken rows → SumsUp e s → ToldLane describes fits carries told c rows lane w first last s
  one_told rows lane q w e first last s long f on k met sum =
      let none = on.ends.none_held f in
      let all = heard_whole describes fits carries c e.kind e.taken.taken k.messages f k.heard in
      let conf : e.lane.state.config ≡ c = k.has_told.course.config in
      let core : e.lane.state.core.config ≡ config_of c = sum.lane.config ∙ ap config_of conf in
      let h = k.has_told.telling in
      let calls = k.has_told.course.reached.core in
      let ops = puts_of k.messages in
      let reports : h.reported ≡ map report_of s.reports.items = k.all_reported f ∙ sym sum.reports in
      let begins : (o : Outside) → BeginsBeside (config_of c) o → BeginsBeside e.lane.state.core.config o = λ o b. subst (λ g. BeginsBeside g o) (sym core) b in
      record {
        messages = k.messages;
        met = subst (λ m. AreMetAt lane 0 m rows) all met;
        no_other = λ sender le. ap (mail_of sender) (sym all) ∙ on.well_taken.no_other sender (omega (arith, long, le));
        applied = h.applied;
        shown = subst (Shows (told first) (told last) h.applied) reports h.shown;
        once = λ n.
            let y = h.once n in
            let held = ap (λ es. count (is_held_as n) (held_of es)) none in
            let noted = ap (count (is_success_as n)) k.none_noted in
            let same = ap (count (is_report_as n)) sum.reports in
            omega (arith, y, held, noted, same);
        versions = λ y m. subst (λ g. IsOfTaken g ops y) core (h.versions y (Mem-left y h.applied e.lane.state.successes m));
        reached = record {
          state = e.lane.state.core;
          reached = calls;
          passes = passes_to describes fits carries c calls.calls w e s sum k.has_told.course.passes;
          config = core;
          none_held = none;
          taken = sum.taken;
          applied = sum.applied;
          already = sum.already;
          requests = sum.requests;
          reports = sum.reports;
        };
        noted = ap (λ g. noted_in calls.calls (fresh_state g)) (sym core) ∙ h.noted ∙ ap (λ xs. h.applied ++ xs) k.none_noted ∙ append-nil h.applied;
        explained = λ distinct o p opening below explains.
            let lowest : e.lane.state.core.config.first ≡ first_in c.epoch = ap (λ (g : Config). g.first) core in
            truly ops h.applied h.reported e s p conf sum reports
            (k.explained distinct o p (record { opening = opening; below = λ d u at. subst (λ a. u < a) (sym lowest) (below d u at) }) explains);
        explained_if_stated = λ distinct o p b explains states. truly ops h.applied h.reported e s p conf sum reports (k.explained_if_stated distinct o p (begins o b) explains states);
        described = λ distinct is o fit opening below. leads_to_truly ops calls.calls h.applied h.reported e s o conf none sum distinct reports (k.described distinct is o fit opening below);
      }

  pub all_told_to : (rows : List (List ClosedEnd)) (lane : ℕ) (qs : List Queue) (ws : List W) (fs : List T) (es : List (LaneEnd W)) (ts : List T) (ss : List (LaneSummary W)) → length rows ≡ c.producers + 1 → AllEndOn describes fits carries c qs ws es → AllKinds describes fits carries c es → AllEndTold ws fs es ts → AllSumUp rows lane es ss
      → AllTold describes fits carries told c rows lane ws fs ts ss
  all_told_to rows lane qs [] [] [] [] [] n a k t s = tt
  all_told_to rows lane qs [] [] [] [] (x ∷ ss) n a k t s = absurd s
  all_told_to rows lane qs [] [] [] (t' ∷ ts) ss n a k t s = absurd t
  all_told_to rows lane qs [] [] (e ∷ es) ts ss n a k t s = absurd t
  all_told_to rows lane qs [] (f ∷ fs) es ts ss n a k t s = absurd t
  all_told_to rows lane qs (w ∷ ws) [] es ts ss n a k t s = absurd t
  all_told_to rows lane qs (w ∷ ws) (f ∷ fs) [] ts ss n a k t s = absurd t
  all_told_to rows lane qs (w ∷ ws) (f ∷ fs) (e ∷ es) [] ss n a k t s = absurd t
  all_told_to rows lane qs (w ∷ ws) (f ∷ fs) (e ∷ es) (t' ∷ ts) [] n a k t s = absurd s
  all_told_to rows lane [] (w ∷ ws) (f ∷ fs) (e ∷ es) (t' ∷ ts) (x ∷ ss) n a k t s = absurd a
  all_told_to rows lane (q ∷ qs) (w ∷ ws) (f ∷ fs) (e ∷ es) (t' ∷ ts) (x ∷ ss) n a k t s =
      (one_told rows lane q w e f t' x n k.0 a.0 t.0 s.0.0 s.0.1, all_told_to rows (lane + 1) qs ws fs es ts ss n a.1 k.1 t.1 s.1)

-- ---- all that is known when the lanes have ended

most_lanes : (c : RelayConfig) → is_valid c ≡ true → c.lanes ≤ 8
most_lanes c e = let a = and_left (is_from_to 1 8 c.lanes) _ e in let b = and_right (nat_le 1 c.lanes) (nat_le c.lanes 8) a in grind (arith, nat_tests)

some_lanes : (c : RelayConfig) → is_valid c ≡ true → 0 < c.lanes
some_lanes c e = let a = and_left (is_from_to 1 8 c.lanes) _ e in let b = and_left (nat_le 1 c.lanes) (nat_le c.lanes 8) a in grind (arith, nat_tests)

most_producers : (c : RelayConfig) → is_valid c ≡ true → c.producers ≤ 256
most_producers c e =
    let r = and_right (is_from_to 1 8 c.lanes) _ e in
    let a = and_left (is_from_to 1 256 c.producers) _ r in
    let b = and_right (nat_le 1 c.producers) (nat_le c.producers 256) a in
    grind (arith, nat_tests)

ends_long : {W T : Type 0} (d : W → Bool) (f : W → Outside → Type 0) (carries : W → Exchange → W → Type 0) (hs : List (LaneHandle W T)) (es : List (LaneEnd W)) → EndAsPromised d f carries hs es → length es ≡ length hs
ends_long d f carries [] [] k = refl
ends_long d f carries [] (e ∷ es) k = absurd k
ends_long d f carries (h ∷ hs) [] k = absurd k
ends_long d f carries (h ∷ hs) (e ∷ es) k = ap suc (ends_long d f carries hs es k.1)

pub record Ready {W T : Type 0} (d : W → Bool) (f : W → Outside → Type 0) (carries : W → Exchange → W → Type 0) (told : T → ℕ → Option Told) (self : RelayState W T) (es : List (LaneEnd W)) (ts : List T) (rows : List (List ClosedEnd)) : Type 0 where
  pub ended : AllEndOn d f carries self.config self.queues self.wires es
  pub has_told : AllEndTold d f carries told self.config self.wires self.tells es ts
  pub few_ends : length es ≤ 8
  pub few_rows : length rows ≤ 257
  pub count : length rows ≡ self.config.producers + 1
  pub lanes : length self.queues ≡ self.config.lanes
  pub wires : length self.wires ≡ self.config.lanes
  pub some : 0 < self.config.lanes

pub ready : {W T : Type 0} (d : W → Bool) (f : W → Outside → Type 0) (carries : W → Exchange → W → Type 0) (told : T → ℕ → Option Told) (self : RelayState W T) (config : RelayConfig) (hs : List (LaneHandle W T)) (es : List (LaneEnd W)) (ts : List T) (rows : List (List ClosedEnd)) (ps : List ClosedProducerState) (k : ClosedControlState)
    → self ≡ record { config = config; queues = queues_of hs; wires = wires_of hs; tells = tells_of hs } → is_valid config ≡ true → length hs ≡ config.lanes → AreLanesOf config hs → EndAsPromised d f carries hs es → ToldAsPromised d f carries told hs es ts → rows ≡ rows_of ps k → length ps ≡ self.config.producers → Ready d f carries told self es ts rows
ready {W = W} {T = T} d f carries told self config hs es ts rows ps k is valid lanes own kept has_told given count =
    let same : self.config ≡ config = ap (λ (r : RelayState W T). r.config) is in
    let same_p = ap (λ (g : RelayConfig). g.producers) same in
    let long = ends_long d f carries hs es kept in
    let rows_long : length rows ≡ length ps + 1 = ap length given ∙ length-append (map (λ (x : ClosedProducerState). x.ends) ps) (k.ends ∷ []) ∙ ap (λ n. n + 1) (long_map (λ (x : ClosedProducerState). x.ends) ps) in
    let eight = most_lanes config valid in
    let sixteen = most_producers config valid in
    record {
      ended = subst (λ (r : RelayState W T). AllEndOn d f carries r.config r.queues r.wires es) (sym is) (all_end d f carries config hs es own kept);
      has_told = subst (λ (r : RelayState W T). AllEndTold d f carries told r.config r.wires r.tells es ts) (sym is) (all_told d f carries told config hs es ts own has_told);
      few_ends = omega (arith, long, lanes, eight);
      few_rows = omega (arith, rows_long, count, same_p, sixteen);
      count = omega (arith, rows_long, count);
      lanes = subst (λ (r : RelayState W T). length r.queues ≡ r.config.lanes) (sym is) (long_map (λ (h : LaneHandle W T). h.promise.take.value.queue) hs ∙ lanes);
      wires = subst (λ (r : RelayState W T). length r.wires ≡ r.config.lanes) (sym is) (long_map (λ (h : LaneHandle W T). h.promise.wire.value) hs ∙ lanes);
      some = subst (λ (r : RelayState W T). 0 < r.config.lanes) (sym is) (some_lanes config valid);
    }
