-- Each kind of step keeps the rule of a channel of receipts.
use Rattle.std.proofs.Common.{MatchResult, Result, Ok, Err, ◌≡◌, ◌≢◌, ℕ, zero, suc, ◌+◌, ◌<◌, ◌≤◌, Bool, true, false, eqb, List, [], ◌∷◌, ◌++◌, Option, Some, None, length, set, sym, refl, ap, ◌∙◌, subst, ⊎_elim, append_assoc, arith}
use Rattle.std.proofs.lemmas.Bool.Decides.{eqb_tells}
use mathlib.Core.Option.{some, none, some-injective, some-ne-none}
use lib.ListN.{get_elem?}
use Rattle.crossbeam_channel.specs.Fifo.{Pushes, Pops, Forks, Merges, Learns}
use Rattle.relay_receipts.specs.declared.notice.Notice.{Notice}
use Rattle.relay_receipts.specs.declared.rule.ToldList.{ToldList}
use Rattle.relay_receipts.specs.declared.rule.Knowledge.{Knowledge}
use Rattle.relay_receipts.specs.declared.rule.Knowledge.TheVariants.{Lane, Taker, Met}
use Rattle.relay_receipts.specs.Notices.{said_by, says, IsSaid, IsWellTaken}
use Rattle.relay_receipts.specs.Rule.{History, IsUnmade, WasMet, Fits, Tells}
use Rattle.relay_receipts.specs.Ends.{TakeEnd, TellEnd}
use Rattle.relay_receipts.specs.Steps as step
use Rattle.relay_receipts.specs.Steps.{IsLane, IsTaker, lane_of, told_of, closed_of, lanes_of, taken_of, with_said, with_lane, new_lane, with_met}
use Rattle.relay_receipts.proofs.Said.{said_by-append, said_by-own, said_by-other, has_said, both_empty, said-nil, says-push, says-close, said-front}
use Rattle.relay_receipts.proofs.Passes.{at_set, AllFit, fit_set, fit_push, pass_at, pass_at-own, pass_at-other, pass_at-none}

module _ {T : Type 0} where
  -- ---- the beginning

  -- before the first step
  abbrev start : History T
  start = record { taker = 0; pass_of = λ _. none; taken = []; log = [] }

  starts : Fits start 0 (Taker 0 [] [])
  starts = record {
    own = refl;
    front = refl;
    later = λ lane le. record { no_pass = refl; nothing = refl };
    each = λ i m e. absurd (some-ne-none m (sym e));
  }

  pub begins : Tells {T = T} [] (Taker 0 [] [] ∷ [])
  begins = record {
    history = start;
    in_log = refl;
    well_said = λ lane. said-nil;
    known = fit_push (Fits start) [] (Taker 0 [] []) starts (λ pass v e. absurd (some-ne-none v (sym e)));
  }

  -- ---- a lane says something

  -- the history with one more notice in the log
  abbrev after_say : History T → Notice T → History T
  after_say history n = record history { log = history.log ++ n ∷ [] }

  -- what the other passes know stays true
  others_say : (history : History T) (n : Notice T) (pass j : ℕ) (u : Knowledge T) → history.pass_of n.lane ≡ some pass → j ≢ pass → Fits history j u → Fits (after_say history n) j u
  others_say history n pass j (Lane lane told closed) own apart h =
      let other : n.lane ≢ lane = λ e. apart (sym (some-injective pass j (sym own ∙ ap history.pass_of e ∙ h.own))) in
      record { own = h.own; all = said_by-other lane history.log n other ∙ h.all }
  others_say history n pass j (Taker lanes taken met) own apart h =
      let other : (p : ℕ) → history.pass_of p ≡ none → n.lane ≢ p = λ p e i. some-ne-none pass (sym own ∙ ap history.pass_of i ∙ e) in
      record {
        own = h.own;
        front = h.front;
        later = λ p le. let l = h.later p le in record { no_pass = l.no_pass; nothing = said_by-other p history.log n (other p l.no_pass) ∙ l.nothing };
        each = λ i m e. let k = h.each i m e in record { made = k.made; no_pass = k.no_pass; all = said_by-other m.lane history.log n (other m.lane k.no_pass) ∙ k.all };
      }
  others_say history n pass j Met own apart h = tt

  -- what the lane's own pass knows is what it said
  says_more : (lane : ℕ) (told : List T) (closed : Bool) (said : Option T) (before : List (Option T)) → closed ≡ false → before ≡ says told closed → (now : List T) × (shut : Bool) × (with_said (Lane lane told closed) said ≡ Lane lane now shut) × (before ++ said ∷ [] ≡ says now shut)
  says_more lane told closed None before e b = (told, true, refl, ap (λ l. l ++ None ∷ []) (b ∙ ap (says told) e) ∙ says-close told)
  says_more lane told closed (Some x) before e b = (told ++ x ∷ [], closed, refl, ap (λ l. l ++ Some x ∷ []) (b ∙ ap (says told) e) ∙ says-push told x ∙ ap (says (told ++ x ∷ [])) (sym e))

  -- the log has of each lane what a lane may say
  log_says : (log : List (Notice T)) (n : Notice T) → ((p : ℕ) → IsSaid (said_by p log)) → IsSaid (said_by n.lane log ++ n.told ∷ []) → (p : ℕ) → IsSaid (said_by p (log ++ n ∷ []))
  log_says log n well mine p =
      ⊎_elim (λ (e : (eqb n.lane p ≡ true) × (n.lane ≡ p)). subst IsSaid (sym (said_by-own p log n e.1)) (subst (λ q. IsSaid (said_by q log ++ n.told ∷ [])) e.1 mine))
      (λ (e : (eqb n.lane p ≡ false) × (n.lane ≢ p)). subst IsSaid (sym (said_by-other p log n e.1)) (well p)) (eqb_tells n.lane p)

  pub sends : (room pass : ℕ) (v : Knowledge T) (n : Notice T) → IsLane v → lane_of v ≡ n.lane → closed_of v ≡ false → Pushes Tells room pass v n (step.SaysNext v n)
  sends room pass (Lane lane told closed) n is_lane mine still_open queued passes short h at =
      let history = h.history in
      let me : Fits history pass (Lane lane told closed) = h.known pass (Lane lane told closed) at in
      let own : history.pass_of n.lane ≡ some pass = ap history.pass_of (sym mine) ∙ me.own in
      let more = says_more lane told closed n.told (said_by lane history.log) still_open me.all in
      let grown : said_by lane (history.log ++ n ∷ []) ≡ says more.0 more.1 = said_by-own lane history.log n (sym mine) ∙ more.3 in
      let all_said : said_by n.lane history.log ++ n.told ∷ [] ≡ says more.0 more.1 = ap (λ q. said_by q history.log ++ n.told ∷ []) (sym mine) ∙ more.3 in
      let mine_now : Fits (after_say history n) pass (with_said (Lane lane told closed) n.told) = subst (Fits (after_say history n) pass) (sym more.2) (record { own = me.own; all = grown }) in (
        with_said (Lane lane told closed) n.told,
        record {
          history = after_say history n;
          in_log = ap (λ l. l ++ n ∷ []) h.in_log ∙ append_assoc history.taken queued (n ∷ []);
          well_said = log_says history.log n h.well_said (more.0, more.1, all_said);
          known = fit_set (Fits (after_say history n)) passes pass (with_said (Lane lane told closed) n.told) mine_now (λ j u apart e. others_say history n pass j u own apart (h.known j u e));
        },
        refl,
      )
  sends room pass (Taker lanes taken met) n is_lane mine still_open queued passes short h at = absurd is_lane
  sends room pass Met n is_lane mine still_open queued passes short h at = absurd is_lane

  -- what a lane's pass knows after one more ending
  pub after_tell : (v : Knowledge T) (x : T) → IsLane v → IsLane (with_said v (Some x)) × (lane_of (with_said v (Some x)) ≡ lane_of v) × (closed_of (with_said v (Some x)) ≡ closed_of v) × (told_of (with_said v (Some x)) ≡ told_of v ++ x ∷ [])
  after_tell (Lane lane told closed) x h = (tt, refl, refl, refl)
  after_tell (Taker lanes taken met) x h = absurd h
  after_tell Met x h = absurd h

  -- ---- a take

  -- the history with one more notice taken
  abbrev after_take : History T → Notice T → History T
  after_take history n = record history { taken = history.taken ++ n ∷ [] }

  -- what the other passes know stays true, since the producer has only one
  others_take : (history : History T) (n : Notice T) (j : ℕ) (u : Knowledge T) → j ≢ history.taker → Fits history j u → Fits (after_take history n) j u
  others_take history n j (Lane lane told closed) apart h = record { own = h.own; all = h.all }
  others_take history n j (Taker lanes taken met) apart h = absurd (apart h.own)
  others_take history n j Met apart h = tt

  pub takes : (pass : ℕ) (v : Knowledge T) → IsTaker v → Pops Tells pass v (step.Receives v)
  takes pass (Lane lane told closed) is_taker n queued passes h at = absurd is_taker
  takes pass Met is_taker n queued passes h at = absurd is_taker
  takes pass (Taker lanes taken met) is_taker n queued passes h at =
      let history = h.history in
      let me : Fits history pass (Taker lanes taken met) = h.known pass (Taker lanes taken met) at in
      let log_is : history.log ≡ (history.taken ++ n ∷ []) ++ queued = h.in_log ∙ sym (append_assoc history.taken (n ∷ []) queued) in
      let late : lanes ≤ n.lane → ⊥ = λ le. has_said n.lane history.taken queued n refl (ap (said_by n.lane) (sym h.in_log) ∙ (me.later n.lane le).nothing) in
      let parts : (p : ℕ) → said_by p history.log ≡ said_by p (taken ++ n ∷ []) ++ said_by p queued = λ p.
      ap (said_by p) (log_is ∙ ap (λ (l : List (Notice T)). (l ++ n ∷ []) ++ queued) (sym me.front)) ∙ said_by-append p (taken ++ n ∷ []) queued in
      let mine_now : Fits (after_take history n) pass (Taker lanes (taken ++ n ∷ []) met) = record {
        own = me.own;
        front = ap (λ l. l ++ n ∷ []) me.front;
        later = λ p le. let l = me.later p le in record { no_pass = l.no_pass; nothing = l.nothing };
        each = λ i m e. let k = me.each i m e in record { made = k.made; no_pass = k.no_pass; all = k.all };
      } in (
        Taker lanes (taken ++ n ∷ []) met,
        record {
          history = after_take history n;
          in_log = log_is;
          well_said = h.well_said;
          known = fit_set (Fits (after_take history n)) passes pass (Taker lanes (taken ++ n ∷ []) met) mine_now (λ j u apart e. others_take history n j u (λ i. apart (i ∙ sym me.own)) (h.known j u e));
        },
        (
          refl,
          omega arith,
          record {
            each = λ p. let w = h.well_said p in said-front (said_by p (taken ++ n ∷ [])) (said_by p queued) w.0 w.1 (sym (parts p) ∙ w.2);
            no_other = λ p le. (both_empty (said_by p (taken ++ n ∷ [])) (said_by p queued) (sym (parts p) ∙ (me.later p le).nothing)).0;
          },
        ),
      )

  -- what was taken stays well taken, whether a take found a notice or not
  pub well_taken-kept : {E : Type 0} (F : Type 0) (v w : Knowledge T) (r : Result (Notice T) E) → IsWellTaken (lanes_of v) (taken_of v) → MatchResult r (λ n. step.Receives v n w) (λ e. (w ≡ v) × F) → IsWellTaken (lanes_of w) (taken_of w)
  well_taken-kept F v w (Ok n) h t = t.2
  well_taken-kept F v w (Err e) h t = subst (λ u. IsWellTaken (lanes_of u) (taken_of u)) (sym t.0) h

  -- the pass stays the producer's
  pub is_taker-kept : {E : Type 0} (F : Type 0) (v w : Knowledge T) (r : Result (Notice T) E) → IsTaker v → MatchResult r (λ n. step.Receives v n w) (λ e. (w ≡ v) × F) → IsTaker w
  is_taker-kept F (Lane lane told closed) w r h t = absurd h
  is_taker-kept F Met w r h t = absurd h
  is_taker-kept F (Taker lanes taken met) w (Ok n) h t = subst IsTaker (sym t.0) tt
  is_taker-kept F (Taker lanes taken met) w (Err e) h t = subst IsTaker (sym t.0) tt

  -- nothing was taken yet
  pub well_taken-nil : (lanes : ℕ) → IsWellTaken {T = T} lanes []
  well_taken-nil lanes = record { each = λ p. said-nil; no_other = λ p le. refl }

  -- ---- one more lane

  -- the history with the end of one more lane, which has this pass
  abbrev after_split : History T → ℕ → ℕ → History T
  after_split history lane pass = record history { pass_of = pass_at history.pass_of lane (some pass) }

  -- what the other passes know stays true
  others_make : (history : History T) (lane pass j : ℕ) (u : Knowledge T) → history.pass_of lane ≡ none → j ≢ history.taker → Fits history j u → Fits (after_split history lane pass) j u
  others_make history lane pass j (Lane q told closed) free apart h =
      let other : q ≢ lane = λ e. some-ne-none j (sym h.own ∙ ap history.pass_of e ∙ free) in
      record { own = pass_at-other history.pass_of lane q (some pass) other ∙ h.own; all = h.all }
  others_make history lane pass j (Taker lanes taken met) free apart h = absurd (apart h.own)
  others_make history lane pass j Met free apart h = tt

  pub splits : (pass : ℕ) (v : Knowledge T) → IsTaker v → Forks Tells pass v (with_lane v) (new_lane v)
  splits pass (Lane lane told closed) is_taker queued passes h at = absurd is_taker
  splits pass Met is_taker queued passes h at = absurd is_taker
  splits pass (Taker lanes taken met) is_taker queued passes h at =
      let history = h.history in
      let me : Fits history pass (Taker lanes taken met) = h.known pass (Taker lanes taken met) at in
      let free : IsUnmade history lanes = me.later lanes (omega arith) in
      let passes' : List (Knowledge T) = set passes pass (Taker (lanes + 1) taken met) in
      let new : ℕ = length passes' in
      let history' : History T = after_split history lanes new in
      let mine_now : Fits history' pass (Taker (lanes + 1) taken met) = record {
        own = me.own;
        front = me.front;
        later = λ p le. let l = me.later p (omega arith) in record { no_pass = pass_at-other history.pass_of lanes p (some new) (omega arith) ∙ l.no_pass; nothing = l.nothing };
        each = λ i m e. let k = me.each i m e in let lt = k.made in record { made = omega arith; no_pass = pass_at-other history.pass_of lanes m.lane (some new) (omega arith) ∙ k.no_pass; all = k.all };
      } in
      let new_now : Fits history' new (Lane lanes [] false) = record { own = pass_at-own history.pass_of lanes (some new); all = free.nothing } in
      record {
        history = history';
        in_log = h.in_log;
        well_said = h.well_said;
        known = fit_push (Fits history') passes' (Lane lanes [] false) new_now
            (fit_set (Fits history') passes pass (Taker (lanes + 1) taken met) mine_now
            (λ j u apart e. others_make history lanes new j u free.no_pass (λ i. apart (i ∙ sym me.own)) (h.known j u e)));
      }

  -- ---- a meeting

  -- the history with a lane whose end was met
  abbrev after_meet : History T → ℕ → History T
  after_meet history lane = record history { pass_of = pass_at history.pass_of lane none }

  -- what the other passes know stays true
  others_meet : (history : History T) (lane pass j : ℕ) (u : Knowledge T) → history.pass_of lane ≡ some pass → j ≢ pass → j ≢ history.taker → Fits history j u → Fits (after_meet history lane) j u
  others_meet history lane pass j (Lane q told closed) own apart alone h =
      let other : q ≢ lane = λ e. apart (some-injective j pass (sym h.own ∙ ap history.pass_of e ∙ own)) in
      record { own = pass_at-other history.pass_of lane q none other ∙ h.own; all = h.all }
  others_meet history lane pass j (Taker lanes taken met) own apart alone h = absurd (alone h.own)
  others_meet history lane pass j Met own apart alone h = tt

  -- what the producer knows of the lanes whose ends it met, with one more
  knows_met : (history : History T) (lanes lane : ℕ) (one : ToldList T) (met : List (ToldList T)) → WasMet (after_meet history lane) lanes one → ((i : ℕ) (m : ToldList T) → get_elem? met i ≡ some m → WasMet history lanes m)
      → (i : ℕ) (m : ToldList T) → get_elem? (one ∷ met) i ≡ some m → WasMet (after_meet history lane) lanes m
  knows_met history lanes lane one met new old zero m e = subst (WasMet (after_meet history lane) lanes) (some-injective one m e) new
  knows_met history lanes lane one met new old (suc i) m e = let k = old i m e in record { made = k.made; no_pass = pass_at-none history.pass_of lane m.lane k.no_pass; all = k.all }

  pub meets : (pass : ℕ) (v : Knowledge T) (other : ℕ) (w : Knowledge T) → IsTaker v → IsLane w → Merges Tells pass v other w (with_met v w) Met
  meets pass (Lane lane told closed) other w is_taker is_lane queued passes h at two at' = absurd is_taker
  meets pass Met other w is_taker is_lane queued passes h at two at' = absurd is_taker
  meets pass (Taker lanes taken met) other (Taker n t k) is_taker is_lane queued passes h at two at' = absurd is_lane
  meets pass (Taker lanes taken met) other Met is_taker is_lane queued passes h at two at' = absurd is_lane
  meets pass (Taker lanes taken met) other (Lane lane told closed) is_taker is_lane queued passes h at two at' =
      let history = h.history in
      let history' : History T = after_meet history lane in
      let one_more : ToldList T = record { lane = lane; told = told; closed = closed } in
      let both : Knowledge T = Taker lanes taken (one_more ∷ met) in
      let theirs_at : Knowledge T = Lane lane told closed in
      let me : Fits history pass (Taker lanes taken met) = h.known pass (Taker lanes taken met) at in
      let was : get_elem? passes other ≡ some theirs_at = ⊎_elim (λ x. absurd (two x.0)) (λ x. x.1) (at_set passes pass other both theirs_at at') in
      let theirs : Fits history other (Lane lane told closed) = h.known other theirs_at was in
      let late : lanes ≤ lane → ⊥ = λ le. some-ne-none other (sym theirs.own ∙ (me.later lane le).no_pass) in
      let lt : lane < lanes = omega arith in
      let one : WasMet history' lanes one_more = record { made = lt; no_pass = pass_at-own history.pass_of lane none; all = theirs.all } in
      let mine_now : Fits history' pass (Taker lanes taken (one_more ∷ met)) = record {
        own = me.own;
        front = me.front;
        later = λ p le. let l = me.later p le in record { no_pass = pass_at-none history.pass_of lane p l.no_pass; nothing = l.nothing };
        each = knows_met history lanes lane one_more met one me.each;
      } in
      let all_but : AllFit (λ j y. j ≢ other → Fits history' j y) (set passes pass both) =
      fit_set (λ j y. j ≢ other → Fits history' j y) passes pass both (λ _. mine_now) (λ j y elsewhere e apart. others_meet history lane other j y theirs.own apart (λ i. elsewhere (i ∙ sym me.own)) (h.known j y e)) in
      record {
        history = history';
        in_log = h.in_log;
        well_said = h.well_said;
        known = fit_set (Fits history') (set passes pass both) other Met tt (λ j y apart e. all_but j y e apart);
      }

  -- ---- a reading

  pub reads : (pass : ℕ) (v : Knowledge T) → IsTaker v → Learns Tells pass v (step.Learns v)
  reads pass (Lane lane told closed) is_taker queued passes h at = absurd is_taker
  reads pass Met is_taker queued passes h at = absurd is_taker
  reads pass (Taker lanes taken met) is_taker queued passes h at = λ i m e.
      let history = h.history in
      let me : Fits history pass (Taker lanes taken met) = h.known pass (Taker lanes taken met) at in
      let k = me.each i m e in
      (k.made, ap (said_by m.lane) (ap (λ (t : List (Notice T)). t ++ queued) me.front ∙ sym h.in_log) ∙ k.all)

  -- after a meeting the pass is still the producer's
  pub taker-met : (v w : Knowledge T) → IsTaker v → IsTaker (with_met v w)
  taker-met (Lane lane told closed) w h = h
  taker-met (Taker lanes taken met) w h = tt
  taker-met Met w h = h

  -- and what was taken is the same
  pub well_taken-met : (v u w : Knowledge T) → w ≡ with_met v u → IsWellTaken (lanes_of v) (taken_of v) → IsWellTaken (lanes_of w) (taken_of w)
  well_taken-met (Lane lane told closed) u w e h = subst (λ k. IsWellTaken (lanes_of k) (taken_of k)) (sym e) h
  well_taken-met (Taker lanes taken met) u w e h = subst (λ k. IsWellTaken (lanes_of k) (taken_of k)) (sym e) h
  well_taken-met Met u w e h = subst (λ k. IsWellTaken (lanes_of k) (taken_of k)) (sym e) h

  -- what a reading shows of the lane whose end was met last
  pub met_tells : (v u w : Knowledge T) (queued : List (Notice T)) → IsTaker v → w ≡ with_met v u → step.Learns w queued → (lane_of u < lanes_of v) × (said_by (lane_of u) (taken_of v ++ queued) ≡ says (told_of u) (closed_of u))
  met_tells (Lane lane told closed) u w queued is_taker e tells = absurd is_taker
  met_tells Met u w queued is_taker e tells = absurd is_taker
  met_tells (Taker lanes taken met) u w queued is_taker e tells =
      let told = subst (λ (z : Knowledge T). step.Learns z queued) e tells in
      told 0 (record { lane = lane_of u; told = told_of u; closed = closed_of u }) refl

  -- the same of the ends that have these passes
  pub told_by : (v u w : Knowledge T) → IsTaker v → w ≡ with_met v u → (self : TakeEnd T) (lane : TellEnd T) → lanes_of v ≡ self.lanes → taken_of v ≡ self.taken → lane_of u ≡ lane.lane → told_of u ≡ lane.told → closed_of u ≡ lane.closed
      → ((queued : List (Notice T)) × step.Learns w queued) → (queued : List (Notice T)) × (lane.lane < self.lanes) × (said_by lane.lane (self.taken ++ queued) ≡ says lane.told lane.closed)
  told_by v u w is_taker e self lane a b x y z r =
      let t = met_tells v u w r.0 is_taker e r.1 in (
        r.0,
        (let lt = t.0 in omega (arith, a, x, lt)),
        sym (ap (λ (q : ℕ × List (Notice T)). said_by q.0 (q.1 ++ r.0)) (λ i. (x i, b i))) ∙ t.1 ∙ ap (λ (q : List T × Bool). says q.0 q.1) (λ i. (y i, z i)),
      )

  -- what was taken of a lane is the front of what it said
  pub parted : (l : ℕ) (taken queued : List (Notice T)) (told : List T) (closed : Bool) → said_by l (taken ++ queued) ≡ says told closed → says told closed ≡ said_by l taken ++ said_by l queued
  parted l taken queued told closed e = sym e ∙ said_by-append l taken queued
