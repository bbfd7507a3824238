-- What clients are told of how their writes ended is what the lanes told of those very operations.
use Rattle.std.proofs.Common.{◌≡◌, ℕ, zero, suc, ◌+◌, ◌<◌, ◌≤◌, eqb, eq-eqb, Bool, true, false, List, [], ◌∷◌, ◌++◌, length, map, unwrap_or, refl, ap, sym, subst, ◌∙◌, arith, inl, inr, ⊎_elim}
use Rattle.std.specs.Prelude.{◌⊎◌, ◌==◌, if◌then◌else◌, Option, None, Some, slice_get}
use Rattle.std.specs.List.{filter_map}
use Rattle.std.specs.Option.{option_or}
use Rattle.std.proofs.lemmas.Bool.Decides.{eqb_tells}
use Rattle.relay_action.specs.declared.operation.Op.{Op}
use Rattle.relay_action.specs.declared.operation.OpName.{OpName}
use Rattle.relay_action.specs.Lanes.{lane_of_document}
use Rattle.relay_results.specs.declared.cause.Cause.{Cause}
use Rattle.relay_results.specs.Words.{Mem, count, one_if}
use Rattle.relay_results.specs.Documents.{name_of, same_name}
use Rattle.relay_results.specs.Outside.{Outside}
use Rattle.relay_results.proofs.Lists.{some_same, none_some, equal, at-Mem, count_some, Mem-left, Mem-right, Mem-map, Mem-push_cases, Mem-filter, filter-Mem}
use Rattle.relay_results.proofs.Same.{same_name-true, same_name-self}
use Rattle.relay_delivery.specs.Attribution.{is_from}
use Rattle.relay_delivery.specs.Causes.{IsTrueCause}
use Rattle.relay_delivery.specs.Delivery.{taken_of, terms_of}
use Rattle.relay_delivery.specs.Machine as machine
use Rattle.relay_core.specs.declared.config.RelayConfig.{RelayConfig}
use Rattle.relay_core.specs.declared.report.Report.{Report}
use Rattle.relay_core.specs.declared.success.Success.{Success}
use Rattle.relay_core.specs.Endings.{is_report_as}
use Rattle.relay_core.specs.State.{config_of}
use Rattle.relay_core.specs.Walk.{report_of}
use Rattle.relay_lane.specs.Exchanges.{Exchange}
use Rattle.relay_lane.specs.Once.{is_op_as}
use Rattle.relay_producer.specs.declared.ends.ClosedEnd.{ClosedEnd}
use Rattle.relay_producer.specs.Puts.{ops_for}
use Rattle.relay_producer.specs.States.{ProducerState}
use Rattle.relay_queue.specs.Ends.{Queue}
use Rattle.relay_receipts.specs.Ends.{Channel, TakeEnd}
use Rattle.relay_receipts.specs.Notices.{said_by, says}
use Rattle.relay_receipts.specs.Windows.{WindowState}
use Rattle.relay_receipts.specs.declared.notice.Notice.{Notice}
use Rattle.relay_threads.specs.declared.summary.LaneSummary.{LaneSummary}
use Rattle.relay_threads.specs.Course.{puts_of}
use Rattle.relay_threads.specs.Told.{Told, Shows, applied_of, reports_of, IsToldTruly}
use Rattle.relay_threads.specs.ToldAll.{ToldOfPuts, AllToldOfPuts}
use Rattle.relay_telling.specs.declared.ending.Ending.{Ending}
use Rattle.relay_telling.specs.declared.ending.Ending.TheVariants as ending
use Rattle.relay_telling.specs.declared.lane_tells.LaneTells.{LaneTells}
use Rattle.relay_telling.specs.declared.lane_tells.ProducerTell.{ProducerTell}
use Rattle.relay_telling.specs.Destinations.{identity, identities, ends_of, TellOn}
use Rattle.relay_telling.specs.Endings.{name_in, success_in, report_in, told_in}
use Rattle.relay_telling.specs.New.{new_end, AreNewTells}
use Rattle.relay_telling.specs.Shown.{unless_gone, shown_by, shown_at}
use Rattle.relay_common.specs.Putting.{named_ops}
use Rattle.relay_front.specs.declared.ending.End.{End}
use Rattle.relay_front.specs.declared.ending.End.TheVariants as end
use Rattle.relay_front.specs.Operations.{Write}
use Rattle.relay_serve.specs.Acknowledged.{IsSilent, IsTold, IsWritten, IsTrueEnd, HoldsOfEnds, HoldsOfRequests, told_by, AcknowledgedLane, AllAcknowledged}
use Rattle.relay_serve.specs.Heard.{number_and_end, said_of, said_first}
use Rattle.relay_serve.specs.Meeting.{IsMetBy, AllMet, LanesMet}
use Rattle.relay_serve.specs.Serving.{Request, AreSettled, all_put, taken_by, ops_of}
use Rattle.relay_serve.specs.Settling.{Event, WasPut, WasHeard, AreAll, AreUnput, Settles, puts_in, heard_in, ends_in}
use Rattle.relay_serve.proofs.Serving.{WorkerAt, named_append, settle_count}

-- ---- what is said of a write was heard

-- by one of these notices the operation with this number ended so
pub record HasEndedBy (taken : List (Notice Ending)) (number : ℕ) (e : End) : Type 0 where
  pub notice : Notice Ending
  pub was_taken : Mem notice taken
  pub ending : Ending
  pub told : notice.told ≡ Some ending
  pub says : number_and_end ending ≡ (number, e)

-- by one of these notices it ended so, unless its end says nothing of the index
abbrev pub IsHeard : List (Notice Ending) → ℕ → End → Type 0
IsHeard taken number e = IsSilent e ⊎ HasEndedBy taken number e

is_gone : (from lane : ℕ) (e : End) (b : Bool) → (if b then Some end.Gone else None) ≡ Some e → IsSilent e
is_gone from lane e true h = subst IsSilent (some_same end.Gone e h) tt
is_gone from lane e false h = absurd (none_some e h)

said_ending : (number : ℕ) (y : Ending) (e : End) → (if (number_and_end y).0 == number then Some (number_and_end y).1 else None) ≡ Some e → number_and_end y ≡ (number, e)
said_ending number y e h =
    ⊎_elim (λ (t : (eqb (number_and_end y).0 number ≡ true) × ((number_and_end y).0 ≡ number)).
    let is : (number_and_end y).1 ≡ e = some_same (number_and_end y).1 e (subst (λ (b : Bool). (if b then Some (number_and_end y).1 else None) ≡ Some e) t.0 h) in
    let number_is = t.1 in λ i. (number_is i, is i))
    (λ t. absurd (none_some e (subst (λ (b : Bool). (if b then Some (number_and_end y).1 else None) ≡ Some e) t.0 h))) (eqb_tells (number_and_end y).0 number)

said_one : (lane number : ℕ) (n : Notice Ending) (told : Option Ending) (e : End) → n.told ≡ told → said_of lane number n.lane told ≡ Some e → IsHeard (n ∷ []) number e
said_one lane number n None e is h = inl (is_gone n.lane lane e (n.lane == lane) h)
said_one lane number n (Some y) e is h = inr (record { notice = n; was_taken = inl refl; ending = y; told = is; says = said_ending number y e h })

wider : (ns ms : List (Notice Ending)) (number : ℕ) (e : End) → ((n : Notice Ending) → Mem n ns → Mem n ms) → IsHeard ns number e → IsHeard ms number e
wider ns ms number e among (inl silent) = inl silent
wider ns ms number e among (inr h) = inr (record { notice = h.notice; was_taken = among h.notice h.was_taken; ending = h.ending; told = h.told; says = h.says })

heard_first : (lane number : ℕ) (ns : List (Notice Ending)) (e : End) → said_first lane number ns ≡ Some e → IsHeard ns number e
heard_first lane number [] e h = absurd (none_some e h)
heard_first lane number (n ∷ ns) e h = by (said_of lane number n.lane n.told) (λ r. heard_first lane number ns e r) refl h where
  by : (o : Option End) → (said_first lane number ns ≡ Some e → IsHeard ns number e) → said_of lane number n.lane n.told ≡ o → option_or o (said_first lane number ns) ≡ Some e → IsHeard (n ∷ ns) number e
  by None later is r = wider ns (n ∷ ns) number e (λ x m. inr m) (later r)
  by (Some x) later is r = wider (n ∷ []) (n ∷ ns) number e (λ x m. Mem-left x (n ∷ []) ns m) (said_one lane number n n.told e refl (is ∙ r))

heard_end : (lane number : ℕ) (ns : List (Notice Ending)) → IsHeard ns number (unwrap_or (said_first lane number ns) end.Late)
heard_end lane number ns = by (said_first lane number ns) refl where
  by : (o : Option End) → said_first lane number ns ≡ o → IsHeard ns number (unwrap_or o end.Late)
  by None is = inl tt
  by (Some e) is = heard_first lane number ns e is

-- ---- writes that were not put

all_silent : (holds : Op → End → Type 0) (e : End) (es : List End) → IsSilent e → AreAll e es → HoldsOfEnds holds [] es
all_silent holds e [] s all = tt
all_silent holds e (x ∷ es) s all = (subst IsSilent (sym all.0) s, all_silent holds e es s all.1)

unput_silent : (holds : Op → End → Type 0) (old : WindowState Ending) (es : List Event) (others : List Write) (ends : List End) (new : ProducerState) → AreUnput old es others ends new → HoldsOfEnds holds [] ends
unput_silent holds old es [] ends new h = subst (HoldsOfEnds holds []) (sym h.0) tt
unput_silent holds old es (w ∷ ws) ends new (inl h) = all_silent holds end.Unput ends tt h.0
unput_silent holds old es (w ∷ ws) ends new (inr (inl h)) = all_silent holds end.Gone ends tt h.0
unput_silent holds old es (w ∷ ws) ends new (inr (inr h)) = all_silent holds end.Gone ends tt h.0

-- ---- all requests of a worker

module _ (epoch p : ℕ) (ops : List Op) (taken : List (Notice Ending)) (holds : Op → End → Type 0) (each : (o : Op) (e : End) → Mem o ops → IsHeard taken o.number e → holds o e) where
  of_events : (lanes number : ℕ) (es : List Event) (unput : List End) → ((o : Op) → Mem o (named_ops epoch p number (puts_in es)) → Mem o ops) → ((n : Notice Ending) → Mem n (heard_in es) → Mem n taken) → HoldsOfEnds holds [] unput
      → HoldsOfEnds holds (named_ops epoch p number (puts_in es)) (ends_in lanes number es ++ unput)
  of_events lanes number [] unput were_put were_taken silent = silent
  of_events lanes number (WasPut w ∷ es) unput were_put were_taken silent =
      let o : Op = record { epoch = epoch; producer = p; number = number; key = w.0; action = w.1 } in
      let heard = heard_end (lane_of_document w.0 lanes) number (heard_in es) in
      (each o _ (were_put o (inl refl)) (wider (heard_in es) taken number _ were_taken heard), of_events lanes (number + 1) es unput (λ x m. were_put x (inr m)) were_taken silent)
  of_events lanes number (WasHeard n ∷ es) unput were_put were_taken silent = of_events lanes number es unput were_put (λ x m. were_taken x (inr m)) silent

  of_request : (number : ℕ) (r : Request) (old new : WindowState Ending) (s : Settles old r.writes r.ends new) → number ≡ old.producer.put + 1 → puts_in s.events ≡ r.put → heard_in s.events ≡ r.heard
      → ((o : Op) → Mem o (named_ops epoch p number r.put) → Mem o ops) → ((n : Notice Ending) → Mem n r.heard → Mem n taken) → HoldsOfEnds holds (named_ops epoch p number r.put) r.ends
  of_request number r old new s at put heard were_put were_taken =
      let lanes = length old.producer.ends in
      let all : ends_in lanes number s.events ++ s.unput ≡ r.ends = ap (λ n. ends_in lanes n s.events ++ s.unput) at ∙ sym s.all in
      let first = of_events lanes number s.events s.unput (λ o m. were_put o (subst (λ l. Mem o (named_ops epoch p number l)) put m)) (λ n m. were_taken n (subst (Mem n) heard m)) (unput_silent holds old s.events s.others s.unput new.producer s.why) in
      subst (λ (x : List Write × List End). HoldsOfEnds holds (named_ops epoch p number x.0) x.1) (λ i. (put i, all i)) first

  pub of_requests : (number : ℕ) (rs : List Request) (old new : WindowState Ending) → number ≡ old.producer.put + 1 → AreSettled rs old new → ((o : Op) → Mem o (named_ops epoch p number (all_put rs)) → Mem o ops) → ((n : Notice Ending) → Mem n (taken_by rs) → Mem n taken)
      → HoldsOfRequests holds epoch p number rs
  of_requests number [] old new at h were_put were_taken = tt
  of_requests number (r ∷ rs) old new at h were_put were_taken =
      let split = named_append epoch p number r.put (all_put rs) in
      let first = named_ops epoch p number r.put in
      let later = named_ops epoch p (number + length r.put) (all_put rs) in
      let count = settle_count old h.0 r.writes r.ends h.1 ∙ ap (λ l. old.producer.put + length l) h.2 in (
        of_request number r old h.0 h.1 at h.2 h.3 (λ o m. were_put o (subst (Mem o) (sym split) (Mem-left o first later m))) (λ n m. were_taken n (Mem-left n r.heard (taken_by rs) m)),
        of_requests (number + length r.put) rs h.0 new (omega (arith, at, count)) h.4 (λ o m. were_put o (subst (Mem o) (sym split) (Mem-right o first later m))) (λ n m. were_taken n (Mem-right n r.heard (taken_by rs) m)),
      )

-- ---- one operation of each number

named_least : (epoch p n k : ℕ) (ws : List Write) (o : Op) → k ≤ n → Mem o (named_ops epoch p n ws) → k ≤ o.number
named_least epoch p n k [] o le m = absurd m
named_least epoch p n k (w ∷ ws) o le (inl e) = let is = ap (λ (x : Op). x.number) e in omega (arith, is, le)
named_least epoch p n k (w ∷ ws) o le (inr m) = named_least epoch p (n + 1) k ws o (omega (arith, le)) m

pub named_one : (epoch p n : ℕ) (ws : List Write) (a b : Op) → Mem a (named_ops epoch p n ws) → Mem b (named_ops epoch p n ws) → a.number ≡ b.number → a ≡ b
named_one epoch p n [] a b k m same = absurd k
named_one epoch p n (w ∷ ws) a b (inl k) (inl m) same = k ∙ sym m
named_one epoch p n (w ∷ ws) a b (inl k) (inr m) same =
    let is = ap (λ (x : Op). x.number) k in
    let least = named_least epoch p (n + 1) (n + 1) ws b (omega arith) m in
    absurd (omega (arith, is, least, same))
named_one epoch p n (w ∷ ws) a b (inr k) (inl m) same =
    let is = ap (λ (x : Op). x.number) m in
    let least = named_least epoch p (n + 1) (n + 1) ws a (omega arith) k in
    absurd (omega (arith, is, least, same))
named_one epoch p n (w ∷ ws) a b (inr k) (inr m) same = named_one epoch p (n + 1) ws a b k m same

-- ---- what a lane took of a worker

-- it is one of these operations, on a document of the lane
pub record IsOfLane (lanes lane : ℕ) (ops : List Op) (o : Op) : Type 0 where
  pub was_put : Mem o ops
  pub in_lane : lane_of_document o.key lanes ≡ lane

for_mem : (lanes lane : ℕ) (ops : List Op) (o : Op) → Mem o (ops_for lanes lane ops) → IsOfLane lanes lane ops o
for_mem lanes lane [] o m = absurd m
for_mem lanes lane (x ∷ ops) o m =
    ⊎_elim (λ (t : (eqb (lane_of_document x.key lanes) lane ≡ true) × (lane_of_document x.key lanes ≡ lane)).
    ⊎_elim {C = IsOfLane lanes lane (x ∷ ops) o} (λ (e : o ≡ x). record { was_put = inl e; in_lane = ap (λ (y : Op). lane_of_document y.key lanes) e ∙ t.1 })
    (λ (r : Mem o (ops_for lanes lane ops)). let h = for_mem lanes lane ops o r in record { was_put = inr h.was_put; in_lane = h.in_lane })
    (subst (λ (b : Bool). Mem o (if b then x ∷ ops_for lanes lane ops else ops_for lanes lane ops)) t.0 m))
    (λ t. let h = for_mem lanes lane ops o (subst (λ (b : Bool). Mem o (if b then x ∷ ops_for lanes lane ops else ops_for lanes lane ops)) t.0 m) in record { was_put = inr h.was_put; in_lane = h.in_lane })
    (eqb_tells (lane_of_document x.key lanes) lane)

of_own : (lanes lane p : ℕ) (ops taken : List Op) (o : Op) → taken_of taken p ≡ ops_for lanes lane ops → Mem o taken → o.producer ≡ p → IsOfLane lanes lane ops o
of_own lanes lane p ops taken o own m is = for_mem lanes lane ops o (subst (Mem o) own (filter-Mem (is_from p) o taken m (eq-eqb o.producer p is)))

-- ---- what a lane told a worker

-- what was taken of the lane tells of one of these operations, on a document of the lane
pub record IsAbout (lanes lane : ℕ) (ops : List Op) (y : Ending) : Type 0 where
  pub op : Op
  pub of_lane : IsOfLane lanes lane ops op
  pub name : name_in y ≡ name_of op

abbrev pub AreAbout : ℕ → List Op → List (Notice Ending) → ℕ → Type 0
AreAbout lanes ops taken lane = (y : Ending) → Mem (Some y) (said_by lane taken) → IsAbout lanes lane ops y

-- what was taken of a lane is what the lane told
pub record WasTold (lanes lane : ℕ) (ops : List Op) (taken : List (Notice Ending)) (applied : List Success) (reported : List machine.Report) : Type 0 where
  pub about : AreAbout lanes ops taken lane
  pub each_applied : (x : Success) → Mem (Some (ending.Applied x)) (said_by lane taken) → Mem x applied
  pub each_reported : (r : Report) → Mem (Some (ending.Reported r)) (said_by lane taken) → Mem (report_of r) reported

said_mem : (n : Notice Ending) (taken : List (Notice Ending)) → Mem n taken → Mem n.told (said_by n.lane taken)
said_mem n [] m = absurd m
said_mem n (x ∷ taken) m =
    ⊎_elim (λ (e : n ≡ x). subst (λ (b : Bool). Mem n.told (if b then x.told ∷ said_by n.lane taken else said_by n.lane taken)) (sym (eq-eqb x.lane n.lane (ap (λ (y : Notice Ending). y.lane) (sym e)))) (inl (ap (λ (y : Notice Ending). y.told) e)))
    (λ (r : Mem n taken). let rest = said_mem n taken r in
    ⊎_elim (λ (t : (eqb x.lane n.lane ≡ true) × (x.lane ≡ n.lane)). subst (λ (b : Bool). Mem n.told (if b then x.told ∷ said_by n.lane taken else said_by n.lane taken)) (sym t.0) (inr rest))
    (λ t. subst (λ (b : Bool). Mem n.told (if b then x.told ∷ said_by n.lane taken else said_by n.lane taken)) (sym t.0) rest) (eqb_tells x.lane n.lane)) m

number_of : (y : Ending) → (number_and_end y).0 ≡ (name_in y).number
number_of (ending.Applied x) = refl
number_of (ending.Reported r) = refl

silent_told : (applied : List Success) (reported : List machine.Report) (o : Op) (e : End) → IsSilent e → IsTold applied reported o e
silent_told applied reported o (end.Applied version status) s = absurd s
silent_told applied reported o (end.Reported cause) s = absurd s
silent_told applied reported o end.Late s = tt
silent_told applied reported o end.Unput s = tt
silent_told applied reported o end.Gone s = tt

told_as : (lanes lane : ℕ) (ops : List Op) (taken : List (Notice Ending)) (applied : List Success) (reported : List machine.Report) (o : Op) (y : Ending) → WasTold lanes lane ops taken applied reported → Mem (Some y) (said_by lane taken) → name_in y ≡ name_of o → IsTold applied reported o (number_and_end y).1
told_as lanes lane ops taken applied reported o (ending.Applied x) h m name =
    let same : x ≡ record { name = name_of o; version = x.version; status = x.status } = λ i. record { name = name i; version = x.version; status = x.status } in
    subst (λ (z : Success). Mem z applied) same (h.each_applied x m)
told_as lanes lane ops taken applied reported o (ending.Reported r) h m name = (report_of r, h.each_reported r m, name, refl)

-- an end that was heard is what the lane of the operation's document told of it
is_told : (epoch p n lanes lane : ℕ) (ws : List Write) (taken : List (Notice Ending)) (applied : List Success) (reported : List machine.Report) (o : Op) (e : End) → ((from : ℕ) → AreAbout lanes (named_ops epoch p n ws) taken from) → WasTold lanes lane (named_ops epoch p n ws) taken applied reported
    → Mem o (named_ops epoch p n ws) → IsHeard taken o.number e → lane_of_document o.key lanes ≡ lane → IsTold applied reported o e
is_told epoch p n lanes lane ws taken applied reported o e about h m (inl silent) in_lane = silent_told applied reported o e silent
is_told epoch p n lanes lane ws taken applied reported o e about h m (inr x) in_lane =
    let said : Mem (Some x.ending) (said_by x.notice.lane taken) = subst (λ t. Mem t (said_by x.notice.lane taken)) x.told (said_mem x.notice taken x.was_taken) in
    let a = about x.notice.lane x.ending said in
    let number : a.op.number ≡ o.number = sym (ap (λ (k : OpName). k.number) a.name) ∙ sym (number_of x.ending) ∙ ap (λ (k : ℕ × End). k.0) x.says in
    let same = named_one epoch p n ws a.op o a.of_lane.was_put m number in
    let from : x.notice.lane ≡ lane = sym a.of_lane.in_lane ∙ ap (λ (y : Op). lane_of_document y.key lanes) same ∙ in_lane in
    subst (IsTold applied reported o) (ap (λ (k : ℕ × End). k.1) x.says)
    (told_as lanes lane (named_ops epoch p n ws) taken applied reported o x.ending h (subst (λ l. Mem (Some x.ending) (said_by l taken)) from said) (a.name ∙ ap name_of same))

-- what a lane told of an operation is true of it
true_end : (c : RelayConfig) (epoch p n lane : ℕ) (ws : List Write) (taken : List Op) (applied : List Success) (reported : List machine.Report) (out : Outside) (t : IsToldTruly (config_of c) taken applied reported out) (o : Op) (e : End)
    → taken_of taken p ≡ ops_for c.lanes lane (named_ops epoch p n ws) → Mem o (named_ops epoch p n ws) → o.producer ≡ p → IsTold applied reported o e → IsTrueEnd (config_of c) taken t.versions out o e
true_end c epoch p n lane ws taken applied reported out t o (end.Applied version status) own m is told =
    let x = t.each_applied _ told in
    let by : x.op.producer ≡ p = sym (ap (λ (k : OpName). k.producer) x.name) ∙ is in
    let same : x.op ≡ o = named_one epoch p n ws x.op o (of_own c.lanes lane p (named_ops epoch p n ws) taken x.op own x.was_taken by).was_put m (sym (ap (λ (k : OpName). k.number) x.name)) in
    subst (λ (y : Op). IsWritten out y version status) same (record { is_in = x.is_in; outcome = x.outcome; answered = x.answered; status_is = x.status })
true_end c epoch p n lane ws taken applied reported out t o (end.Reported cause) own m is told =
    let x = t.each_reported told.0 told.1 in
    let name : name_of o ≡ name_of x.op = sym told.2 ∙ x.name in
    let by : x.op.producer ≡ p = sym (ap (λ (k : OpName). k.producer) name) ∙ is in
    let same : x.op ≡ o = named_one epoch p n ws x.op o (of_own c.lanes lane p (named_ops epoch p n ws) taken x.op own x.was_taken by).was_put m (sym (ap (λ (k : OpName). k.number) name)) in
    subst (λ (y : Op × Cause). IsTrueCause (terms_of (config_of c) taken) out y.0 (t.versions y.0) y.1) (λ i. (same i, told.3 i)) x.cause
true_end c epoch p n lane ws taken applied reported out t o end.Late own m is told = tt
true_end c epoch p n lane ws taken applied reported out t o end.Unput own m is told = tt
true_end c epoch p n lane ws taken applied reported out t o end.Gone own m is told = tt

named_by : (epoch p n : ℕ) (ws : List Write) (o : Op) → Mem o (named_ops epoch p n ws) → o.producer ≡ p
named_by epoch p n [] o m = absurd m
named_by epoch p n (w ∷ ws) o (inl e) = ap (λ (x : Op). x.producer) e
named_by epoch p n (w ∷ ws) o (inr m) = named_by epoch p (n + 1) ws o m

-- ---- what was taken is what was told

told_mem : (y : Ending) (told : List Ending) (closed : Bool) → Mem (Some y) (says told closed) → Mem y told
told_mem y told false m = let r = Mem-map Some (Some y) told m in subst (λ z. Mem z told) (sym (some_same y r.0 r.2)) r.1
told_mem y told true m =
    ⊎_elim (λ (l : Mem (Some y) (map Some told)). let r = Mem-map Some (Some y) told l in subst (λ z. Mem z told) (sym (some_same y r.0 r.2)) r.1)
    (λ (e : Some y ≡ None). absurd (none_some y (sym e))) (Mem-push_cases (Some y) (map Some told) None m)

applied_mem : (x : Success) (told : List Ending) → Mem (ending.Applied x) told → Mem x (filter_map success_in told)
applied_mem x [] m = absurd m
applied_mem x (ending.Applied y ∷ told) m = ⊎_elim (λ (e : ending.Applied x ≡ ending.Applied y). inl (let i : x ≡ y = cc in i)) (λ (r : Mem (ending.Applied x) told). inr (applied_mem x told r)) m
applied_mem x (ending.Reported q ∷ told) m = ⊎_elim (λ (e : ending.Applied x ≡ ending.Reported q). absurd (cc)) (λ (r : Mem (ending.Applied x) told). applied_mem x told r) m

reported_mem : (x : Report) (told : List Ending) → Mem (ending.Reported x) told → Mem (report_of x) (filter_map report_in told)
reported_mem x [] m = absurd m
reported_mem x (ending.Applied y ∷ told) m = ⊎_elim (λ (e : ending.Reported x ≡ ending.Applied y). absurd (cc)) (λ (r : Mem (ending.Reported x) told). reported_mem x told r) m
reported_mem x (ending.Reported q ∷ told) m = ⊎_elim (λ (e : ending.Reported x ≡ ending.Reported q). inl (ap report_of (let i : x ≡ q = cc in i))) (λ (r : Mem (ending.Reported x) told). inr (reported_mem x told r)) m

new_shown : (lane p : ℕ) (channels : List (Channel Ending)) → p < length channels → shown_at (map (new_end lane) channels) p ≡ Some (told_in [])
new_shown lane p [] lt = absurd (omega (arith, lt))
new_shown lane zero (c ∷ cs) lt = refl
new_shown lane (suc p) (c ∷ cs) lt = new_shown lane p cs (omega (arith, lt))

shown_there : (es : List ProducerTell) (p : ℕ) (e : ProducerTell) → slice_get es p ≡ Some e → shown_at es p ≡ shown_by e
shown_there [] p e at = absurd (none_some e at)
shown_there (x ∷ es) zero e at = ap shown_by (some_same x e at)
shown_there (x ∷ es) (suc p) e at = shown_there es p e at

-- what an end tells that lost nothing is what its lane told that producer
pub record TellsAll (p : ℕ) (told : List Ending) (applied : List Success) (reported : List machine.Report) : Type 0 where
  pub all_applied : filter_map success_in told ≡ applied_of p applied
  pub all_reported : filter_map report_in told ≡ reports_of p reported

tells_all : (lane p : ℕ) (channels : List (Channel Ending)) (f t : LaneTells) (e : ProducerTell) (applied : List Success) (reported : List machine.Report) → f.ends.items ≡ map (new_end lane) channels → p < length channels → slice_get t.ends.items p ≡ Some e → e.gone ≡ false
    → Shows (told_by f) (told_by t) applied reported → TellsAll p e.tell.told applied reported
tells_all lane p channels f t e applied reported new lt at kept shows =
    let shown : told_by t p ≡ Some (told_in e.tell.told) = shown_there t.ends.items p e at ∙ ap (λ b. unless_gone b e.tell.told) kept in
    let s = shows p (told_in e.tell.told) shown in
    let none : s.0 ≡ told_in [] = some_same s.0 (told_in []) (sym s.1 ∙ ap (λ l. shown_at l p) new ∙ new_shown lane p channels lt) in
    record {
      all_applied = ap (λ (x : Told). x.applied) s.2 ∙ ap (λ (x : Told). x.applied ++ applied_of p applied) none;
      all_reported = ap (λ (x : Told). x.reported) s.2 ∙ ap (λ (x : Told). x.reported ++ reports_of p reported) none;
    }

-- one that is counted is there
counted : (n : OpName) (ops : List Op) → 1 ≤ count (is_op_as n) ops → (o : Op) × Mem o ops × (n ≡ name_of o)
counted n [] le = absurd (omega (arith, le))
counted n (o ∷ ops) le = by (same_name n (name_of o)) (λ l. counted n ops l) refl where
  by : (b : Bool) → (1 ≤ count (is_op_as n) ops → (x : Op) × Mem x ops × (n ≡ name_of x)) → same_name n (name_of o) ≡ b → (x : Op) × Mem x (o ∷ ops) × (n ≡ name_of x)
  by true later e = (o, inl refl, same_name-true n (name_of o) e)
  by false later e =
      let rest : 1 ≤ 0 + count (is_op_as n) ops = subst (λ (b : Bool). 1 ≤ one_if b + count (is_op_as n) ops) e le in
      let r = later (omega (arith, rest)) in
      (r.0, inr r.1, r.2)

module _ {W : Type 0} (describes : W → Bool) (fits : W → Outside → Type 0) (carries : W → Exchange → W → Type 0) (c : RelayConfig) (puts : ℕ → List Op) (rows : List (List ClosedEnd)) where
  -- what was taken of a lane, with which it was met, is what the lane told
  was_told : (lane p : ℕ) (channels : List (Channel Ending)) (w : W) (f t : LaneTells) (s : LaneSummary W) (take : TakeEnd Ending) (e : ProducerTell) (x : ToldOfPuts describes fits carries told_by c puts rows lane w f t s)
      → p < c.producers → f.ends.items ≡ map (new_end lane) channels → p < length channels → slice_get t.ends.items p ≡ Some e → e.tell.lane ≡ lane → IsMetBy take e → WasTold c.lanes lane (puts p) take.taken x.lane_told.applied (map report_of s.reports.items)
  was_told lane p channels w f t s take e x below new lt at own_lane met =
      let reported = map report_of s.reports.items in
      let messages = puts_of x.lane_told.messages in
      let a = tells_all lane p channels f t e x.lane_told.applied reported new lt at met.kept x.lane_told.shown in
      let own = x.own p below in
      let front : says e.tell.told e.tell.closed ≡ said_by lane take.taken ++ met.rest = met.front ∙ ap (λ l. said_by l take.taken ++ met.rest) own_lane in
      let told : (y : Ending) → Mem (Some y) (said_by lane take.taken) → Mem y e.tell.told = λ y m. told_mem y e.tell.told e.tell.closed (subst (Mem (Some y)) (sym front) (Mem-left (Some y) (said_by lane take.taken) met.rest m)) in
      let is_applied : (y : Success) → Mem (ending.Applied y) e.tell.told → Mem y x.lane_told.applied × ((y.name.producer == p) ≡ true) = λ y m. Mem-filter (λ (z : Success). z.name.producer == p) y x.lane_told.applied (subst (Mem y) a.all_applied (applied_mem y e.tell.told m)) in
      let is_reported : (r : Report) → Mem (ending.Reported r) e.tell.told → Mem (report_of r) reported × ((r.name.producer == p) ≡ true) = λ r m. Mem-filter (λ (z : machine.Report). z.name.producer == p) (report_of r) reported (subst (Mem (report_of r)) a.all_reported (reported_mem r e.tell.told m)) in
      record {
        about = λ y m. by y (told y m) is_applied is_reported;
        each_applied = λ y m. (is_applied y (told (ending.Applied y) m)).0;
        each_reported = λ r m. (is_reported r (told (ending.Reported r) m)).0;
      } where
        by : (y : Ending) → Mem y e.tell.told → ((z : Success) → Mem (ending.Applied z) e.tell.told → Mem z x.lane_told.applied × ((z.name.producer == p) ≡ true)) → ((r : Report) → Mem (ending.Reported r) e.tell.told → Mem (report_of r) (map report_of s.reports.items) × ((r.name.producer == p) ≡ true)) → IsAbout c.lanes lane (puts p) y
        by (ending.Applied z) m is_applied is_reported =
            let k = is_applied z m in
            let v = x.lane_told.versions z k.0 in
            let of : v.op.producer ≡ p = sym (ap (λ (n : OpName). n.producer) v.name) ∙ equal z.name.producer p k.1 in
            record { op = v.op; of_lane = of_own c.lanes lane p (puts p) (puts_of x.lane_told.messages) v.op (x.own p below) (at-Mem (puts_of x.lane_told.messages) v.place v.op v.was_taken) of; name = v.name }
        by (ending.Reported r) m is_applied is_reported =
            let k = is_reported r m in
            let one = count_some (is_report_as r.name) (report_of r) (map report_of s.reports.items) k.0 (same_name-self r.name) in
            let all = x.lane_told.once r.name in
            let v = counted r.name (puts_of x.lane_told.messages) (omega (arith, one, all)) in
            let of : v.0.producer ≡ p = sym (ap (λ (n : OpName). n.producer) v.2) ∙ equal r.name.producer p k.1 in
            record { op = v.0; of_lane = of_own c.lanes lane p (puts p) (puts_of x.lane_told.messages) v.0 (x.own p below) v.1 of; name = v.2 }

-- ---- the end of a lane for a worker

-- the lane's end at this place
pub record EndAt (take : TakeEnd Ending) (lane p : ℕ) (es : List ProducerTell) : Type 0 where
  pub end : ProducerTell
  pub at : slice_get es p ≡ Some end
  pub of_lane : end.tell.lane ≡ lane
  pub met : IsMetBy take end

end_at : (takes : List (TakeEnd Ending)) (channels : List (Channel Ending)) (lane p : ℕ) (es : List ProducerTell) (take : TakeEnd Ending) → AllMet takes es → identities es ≡ ends_of lane channels → slice_get takes p ≡ Some take → EndAt take lane p es
end_at [] channels lane p es take met on at = absurd (none_some take at)
end_at (x ∷ takes) channels lane p [] take met on at = absurd met
end_at (x ∷ takes) [] lane p (e ∷ es) take met on at = absurd (let n : suc (length (identities es)) ≡ 0 = ap length on in omega (arith, n))
end_at (x ∷ takes) (c ∷ channels) lane zero (e ∷ es) take met on at =
    let same : identity e ≡ (c, lane) = cc in
    record { end = e; at = refl; of_lane = ap (λ (k : Channel Ending × ℕ). k.1) same; met = subst (λ t. IsMetBy t e) (some_same x take at) met.0 }
end_at (x ∷ takes) (c ∷ channels) lane (suc p) (e ∷ es) take met on at =
    let rest : identities es ≡ ends_of lane channels = cc in
    let r = end_at takes channels lane p es take met.1 rest at in
    record { end = r.end; at = r.at; of_lane = r.of_lane; met = r.met }

-- ---- all lanes

-- if each worker put the same
module _ {W : Type 0} (describes : W → Bool) (fits : W → Outside → Type 0) (carries : W → Exchange → W → Type 0) (c : RelayConfig) (puts others : ℕ → List Op) (rows : List (List ClosedEnd)) (same : (p : ℕ) → p < c.producers → puts p ≡ others p) where
  pub told_of_same : (lane : ℕ) (ws : List W) (fs ts : List LaneTells) (ss : List (LaneSummary W)) → AllToldOfPuts describes fits carries told_by c puts rows lane ws fs ts ss → AllToldOfPuts describes fits carries told_by c others rows lane ws fs ts ss
  told_of_same lane [] [] [] [] all = tt
  told_of_same lane [] [] [] (s ∷ ss) all = absurd all
  told_of_same lane [] [] (t ∷ ts) ss all = absurd all
  told_of_same lane [] (f ∷ fs) ts ss all = absurd all
  told_of_same lane (w ∷ ws) [] ts ss all = absurd all
  told_of_same lane (w ∷ ws) (f ∷ fs) [] ss all = absurd all
  told_of_same lane (w ∷ ws) (f ∷ fs) (t ∷ ts) [] all = absurd all
  told_of_same lane (w ∷ ws) (f ∷ fs) (t ∷ ts) (s ∷ ss) all =
      let x = all.0 in
      (record { lane_told = x.lane_told; own = λ p lt. x.own p lt ∙ ap (ops_for c.lanes lane) (same p lt); none_besides = x.none_besides; distinct = x.distinct }, told_of_same (lane + 1) ws fs ts ss all.1)

below_or_past : (a b : ℕ) → (a < b) ⊎ (b ≤ a)
below_or_past a zero = inr (omega arith)
below_or_past zero (suc b) = inl (omega arith)
below_or_past (suc a) (suc b) = ⊎_elim {C = (suc a < suc b) ⊎ (suc b ≤ suc a)} (λ (l : a < b). inl (omega (arith, l))) (λ (r : b ≤ a). inr (omega (arith, r))) (below_or_past a b)

module _ {W : Type 0} (describes : W → Bool) (fits : W → Outside → Type 0) (carries : W → Exchange → W → Type 0) (c : RelayConfig) (queues : List Queue) (requests : ℕ → List Request) (rows : List (List ClosedEnd)) (channels : List (Channel Ending)) (takes : List (TakeEnd Ending)) (enough : c.producers ≤ length channels) where
  -- what was taken of these lanes is about operations of theirs
  are_about : (p from lane : ℕ) (ws : List W) (fs ts : List LaneTells) (ss : List (LaneSummary W)) (take : TakeEnd Ending) → p < c.producers → AllToldOfPuts describes fits carries told_by c (ops_of c.epoch requests) rows lane ws fs ts ss → AreNewTells channels lane fs → TellOn channels lane ts → LanesMet takes ts → slice_get takes p ≡ Some take
      → lane ≤ from → from < lane + length ts → AreAbout c.lanes (ops_of c.epoch requests p) take.taken from
  are_about p from lane ws fs [] ss take below all new on met at low high = absurd (omega (arith, low, high))
  are_about p from lane [] [] (t ∷ ts) ss take below all new on met at low high = absurd all
  are_about p from lane [] (f ∷ fs) (t ∷ ts) ss take below all new on met at low high = absurd all
  are_about p from lane (w ∷ ws) [] (t ∷ ts) ss take below all new on met at low high = absurd all
  are_about p from lane (w ∷ ws) (f ∷ fs) (t ∷ ts) [] take below all new on met at low high = absurd all
  are_about p from lane (w ∷ ws) (f ∷ fs) (t ∷ ts) (s ∷ ss) take below all new on met at low high =
      ⊎_elim (λ (k : (eqb from lane ≡ true) × (from ≡ lane)).
      let e = end_at takes channels lane p t.ends.items take met.0 on.0 at in
      let one = was_told describes fits carries c (ops_of c.epoch requests) rows lane p channels w f t s take e.end all.0 below new.0 (omega (arith, below, enough)) e.at e.of_lane e.met in
      subst (AreAbout c.lanes (ops_of c.epoch requests p) take.taken) (sym k.1) one.about)
      (λ k. let n = k.1 in are_about p from (lane + 1) ws fs ts ss take below all.1 new.1 on.1 met.1 at (omega (arith, low, n)) (omega (arith, high))) (eqb_tells from lane)

  -- what was taken of any lane is
  about_all : (p : ℕ) (ws : List W) (fs ts : List LaneTells) (ss : List (LaneSummary W)) (k : WorkerAt queues c.epoch p p (length ts) (requests p) takes) → p < c.producers → AllToldOfPuts describes fits carries told_by c (ops_of c.epoch requests) rows 0 ws fs ts ss → AreNewTells channels 0 fs → TellOn channels 0 ts → LanesMet takes ts
      → (from : ℕ) → AreAbout c.lanes (ops_of c.epoch requests p) k.take.taken from
  about_all p ws fs ts ss k below all new on met from y m =
      ⊎_elim (λ (lt : from < length ts). are_about p from 0 ws fs ts ss k.take below all new on met k.at (omega arith) (omega (arith, lt)) y m)
      (λ (le : length ts ≤ from). absurd (subst (Mem (Some y)) (k.well.no_other from (subst (λ n. n ≤ from) (sym k.lanes_are) le)) m)) (below_or_past from (length ts))

  acknowledged : (lane : ℕ) (w : W) (f t : LaneTells) (s : LaneSummary W) (lanes : ℕ) → ((p : ℕ) → p < c.producers → WorkerAt queues c.epoch p p lanes (requests p) takes) → ((p : ℕ) → (below : p < c.producers) → (k : WorkerAt queues c.epoch p p lanes (requests p) takes) → (from : ℕ) → AreAbout c.lanes (ops_of c.epoch requests p) k.take.taken from)
      → (x : ToldOfPuts describes fits carries told_by c (ops_of c.epoch requests) rows lane w f t s) → f.ends.items ≡ map (new_end lane) channels → identities t.ends.items ≡ ends_of lane channels → AllMet takes t.ends.items → AcknowledgedLane describes fits carries c requests rows lane w f t s
  acknowledged lane w f t s lanes workers about x new on met = record {
    of_puts = x;
    told = λ p below. let k = workers p below in of_requests c.epoch p (ops_of c.epoch requests p) k.take.taken _ (λ o e m heard in_lane. one p below k o e m heard in_lane) 1 (requests p) k.start k.last (first p k) k.settled (λ o m. m) (λ n m. subst (Mem n) (sym k.took) m);
    truly = λ out y p below.
        let k = workers p below in
        of_requests c.epoch p (ops_of c.epoch requests p) k.take.taken _
        (λ o e m heard in_lane. true_end c c.epoch p 1 lane (all_put (requests p)) (puts_of x.lane_told.messages) x.lane_told.applied (map report_of s.reports.items) out y o e (x.own p below) m (named_by c.epoch p 1 (all_put (requests p)) o m) (one p below k o e m heard in_lane)) 1
        (requests p) k.start k.last (first p k) k.settled (λ o m. m) (λ n m. subst (Mem n) (sym k.took) m);
  } where
    first : (p : ℕ) (k : WorkerAt queues c.epoch p p lanes (requests p) takes) → 1 ≡ k.start.producer.put + 1
    first p k = sym (ap (λ (q : ProducerState). q.put + 1) k.new)

    one : (p : ℕ) (below : p < c.producers) (k : WorkerAt queues c.epoch p p lanes (requests p) takes) (o : Op) (e : End) → Mem o (ops_of c.epoch requests p) → IsHeard k.take.taken o.number e → lane_of_document o.key c.lanes ≡ lane → IsTold x.lane_told.applied (map report_of s.reports.items) o e
    one p below k o e m heard in_lane =
        let end = end_at takes channels lane p t.ends.items k.take met on k.at in
        is_told c.epoch p 1 c.lanes lane (all_put (requests p)) k.take.taken x.lane_told.applied (map report_of s.reports.items) o e (about p below k)
        (was_told describes fits carries c (ops_of c.epoch requests) rows lane p channels w f t s k.take end.end x below new (omega (arith, below, enough)) end.at end.of_lane end.met) m heard in_lane

  acknowledged_on : (lane : ℕ) (ws : List W) (fs ts : List LaneTells) (ss : List (LaneSummary W)) (lanes : ℕ) → ((p : ℕ) → p < c.producers → WorkerAt queues c.epoch p p lanes (requests p) takes) → ((p : ℕ) → (below : p < c.producers) → (k : WorkerAt queues c.epoch p p lanes (requests p) takes) → (from : ℕ) → AreAbout c.lanes (ops_of c.epoch requests p) k.take.taken from)
      → AllToldOfPuts describes fits carries told_by c (ops_of c.epoch requests) rows lane ws fs ts ss → AreNewTells channels lane fs → TellOn channels lane ts → LanesMet takes ts → AllAcknowledged describes fits carries c requests rows lane ws fs ts ss
  acknowledged_on lane [] [] [] [] lanes workers about all new on met = tt
  acknowledged_on lane [] [] [] (s ∷ ss) lanes workers about all new on met = absurd all
  acknowledged_on lane [] [] (t ∷ ts) ss lanes workers about all new on met = absurd all
  acknowledged_on lane [] (f ∷ fs) ts ss lanes workers about all new on met = absurd all
  acknowledged_on lane (w ∷ ws) [] ts ss lanes workers about all new on met = absurd all
  acknowledged_on lane (w ∷ ws) (f ∷ fs) [] ss lanes workers about all new on met = absurd all
  acknowledged_on lane (w ∷ ws) (f ∷ fs) (t ∷ ts) [] lanes workers about all new on met = absurd all
  acknowledged_on lane (w ∷ ws) (f ∷ fs) (t ∷ ts) (s ∷ ss) lanes workers about all new on met =
      (acknowledged lane w f t s lanes workers about all.0 new.0 on.0 met.0, acknowledged_on (lane + 1) ws fs ts ss lanes workers about all.1 new.1 on.1 met.1)

  pub all_acknowledged : (ws : List W) (fs ts : List LaneTells) (ss : List (LaneSummary W)) → ((p : ℕ) → p < c.producers → WorkerAt queues c.epoch p p (length ts) (requests p) takes) → AllToldOfPuts describes fits carries told_by c (ops_of c.epoch requests) rows 0 ws fs ts ss → AreNewTells channels 0 fs → TellOn channels 0 ts → LanesMet takes ts
      → AllAcknowledged describes fits carries c requests rows 0 ws fs ts ss
  all_acknowledged ws fs ts ss workers all new on met = acknowledged_on 0 ws fs ts ss (length ts) workers (λ p below k from. about_all p ws fs ts ss k below all new on met from) all new on met
