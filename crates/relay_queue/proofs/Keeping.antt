-- Each kind of step keeps the rule of the queue.
use Rattle.std.proofs.Common.{MatchResult, Result, Ok, Err, ◌≡◌, ◌≢◌, ℕ, zero, suc, ◌+◌, ◌<◌, ◌≤◌, Bool, true, false, eqb, List, [], ◌∷◌, ◌++◌, length, length-append, set, sym, refl, ap, ◌∙◌, subst, ⊎_elim, append_assoc, arith, ◌⊎◌}
use Rattle.std.proofs.lemmas.Bool.Decides.{eqb_tells}
use mathlib.Core.Option.{some, none, some-injective, some-ne-none}
use lib.ListN.{get_elem?}
use Rattle.crossbeam_channel.specs.Fifo.{Pushes, Pops, Forks, Merges, Learns}
use Rattle.relay_action.specs.declared.mail.Mail.{Mail}
use Rattle.relay_queue.specs.declared.rule.SentList.{SentList}
use Rattle.relay_queue.specs.declared.rule.Knowledge.{Knowledge}
use Rattle.relay_queue.specs.declared.rule.Knowledge.TheVariants.{Sender, Taker, Met}
use Rattle.relay_queue.specs.Messages.{mail_of, HasDone, HasDoneIff, IsWellSent, IsWellTaken}
use Rattle.relay_queue.specs.Rule.{History, IsUnmade, WasMet, Fits, Delivers}
use Rattle.relay_queue.specs.Log.{IsAllOf, HasLog}
use Rattle.relay_queue.specs.Steps as step
use Rattle.relay_queue.specs.Steps.{IsSender, IsTaker, capacity_of, sender_of, sent_of, senders_of, taken_of, with_sender, new_sender, with_met}
use Rattle.relay_queue.proofs.Mails.{both_empty, mail_of-append, mail_of-own, mail_of-other, has_mail, no_mail, well_sent-nil, well_sent-push, well_sent-front}
use Rattle.relay_queue.proofs.Passes.{at_set, AllFit, fit_set, fit_push, pass_at, pass_at-own, pass_at-other, pass_at-none}

-- ---- the beginning

-- before the first step
abbrev start : History
start = record { capacity = 0; taker = 0; pass_of = λ _. none; taken = []; log = [] }

starts : Fits start 0 (Taker 0 0 [] [])
starts = record {
  places = refl;
  own = refl;
  front = refl;
  later = λ sender le. record { no_pass = refl; nothing = refl };
  closed = λ i m e. absurd (some-ne-none m (sym e));
}

pub begins : Delivers [] (Taker 0 0 [] [] ∷ [])
begins = record {
  history = start;
  in_log = refl;
  well_sent = λ sender. well_sent-nil;
  within = omega arith;
  known = fit_push (Fits start) [] (Taker 0 0 [] []) starts (λ pass v e. absurd (some-ne-none v (sym e)));
}

-- ---- a send

-- the history with one more message in the log
abbrev after_put : History → Mail → History
after_put history x = record history { log = history.log ++ x ∷ [] }

-- what the other passes know stays true
others_send : (history : History) (x : Mail) (pass j : ℕ) (u : Knowledge) → history.pass_of x.sender ≡ some pass → j ≢ pass → Fits history j u → Fits (after_put history x) j u
others_send history x pass j (Sender capacity sender sent closed) own apart h =
    let other : x.sender ≢ sender = λ e. apart (sym (some-injective pass j (sym own ∙ ap history.pass_of e ∙ h.own))) in
    record { places = h.places; own = h.own; all = h.all ∙ sym (mail_of-other sender history.log x other); done = h.done }
others_send history x pass j (Taker capacity senders taken met) own apart h =
    let other : (p : ℕ) → history.pass_of p ≡ none → x.sender ≢ p = λ p e i. some-ne-none pass (sym own ∙ ap history.pass_of i ∙ e) in
    record {
      places = h.places;
      own = h.own;
      front = h.front;
      later = λ p le. let l = h.later p le in record { no_pass = l.no_pass; nothing = mail_of-other p history.log x (other p l.no_pass) ∙ l.nothing };
      closed = λ i m e. let k = h.closed i m e in record { made = k.made; no_pass = k.no_pass; all = k.all ∙ sym (mail_of-other m.sender history.log x (other m.sender k.no_pass)); done = k.done };
    }
others_send history x pass j Met own apart h = tt

-- of each sender the log stays well sent
log_send : (log : List Mail) (x : Mail) → ((p : ℕ) → IsWellSent (mail_of p log)) → ¬ HasDone (mail_of x.sender log) → x.number ≡ length (mail_of x.sender log) + 1 → (p : ℕ) → IsWellSent (mail_of p (log ++ x ∷ []))
log_send log x well unclosed number p =
    ⊎_elim (λ (e : (eqb x.sender p ≡ true) × (x.sender ≡ p)).
    let mine : (p : ℕ) → x.sender ≡ p → IsWellSent (mail_of p log ++ x ∷ []) = λ p e. subst (λ q. IsWellSent (mail_of q log ++ x ∷ [])) e (well_sent-push (mail_of x.sender log) x (well x.sender) unclosed number) in
    subst IsWellSent (sym (mail_of-own p log x e.1)) (mine p e.1))
    (λ (e : (eqb x.sender p ≡ false) × (x.sender ≢ p)). subst IsWellSent (sym (mail_of-other p log x e.1)) (well p)) (eqb_tells x.sender p)

pub sends : (state : Bool) (n pass : ℕ) (v : Knowledge) (x : Mail) → IsSender false v → capacity_of v ≡ n → sender_of v ≡ x.sender → x.number ≡ length (sent_of v) + 1
    → (¬ HasDone (sent_of v) → HasDoneIff state (sent_of v ++ x ∷ [])) → Pushes Delivers n pass v x (step.SendsNext state v x)
sends state n pass (Sender capacity sender sent closed) x open_one places mine number now queued passes room h at =
    let history = h.history in
    let me : Fits history pass (Sender capacity sender sent closed) = h.known pass (Sender capacity sender sent closed) at in
    let unclosed : ¬ HasDone sent = subst (λ (b : Bool). HasDoneIff b sent) open_one me.done in
    let all : sent ≡ mail_of x.sender history.log = me.all ∙ ap (λ p. mail_of p history.log) mine in
    let own : history.pass_of x.sender ≡ some pass = ap history.pass_of (sym mine) ∙ me.own in
    let grown : sent ++ x ∷ [] ≡ mail_of sender (history.log ++ x ∷ []) = ap (λ l. l ++ x ∷ []) me.all ∙ sym (mail_of-own sender history.log x (sym mine)) in
    let well : (p : ℕ) → IsWellSent (mail_of p (history.log ++ x ∷ [])) = log_send history.log x h.well_sent (subst (λ (l : List Mail). ¬ HasDone l) all unclosed) (number ∙ ap (λ (l : List Mail). length l + 1) all) in
    let mine_now : Fits (after_put history x) pass (Sender capacity sender (sent ++ x ∷ []) state) = record { places = me.places; own = me.own; all = grown; done = now unclosed } in (
      Sender capacity sender (sent ++ x ∷ []) state,
      record {
        history = after_put history x;
        in_log = ap (λ l. l ++ x ∷ []) h.in_log ∙ append_assoc history.taken queued (x ∷ []);
        well_sent = well;
        within = (let cap : capacity ≡ history.capacity = me.places in omega (arith, length-append queued (x ∷ [])));
        known = fit_set (Fits (after_put history x)) passes pass (Sender capacity sender (sent ++ x ∷ []) state) mine_now (λ j u apart e. others_send history x pass j u own apart (h.known j u e));
      },
      (refl, subst IsWellSent (sym grown) (well sender), now unclosed),
    )
sends state n pass (Taker capacity senders taken met) x open_one places mine number now queued passes room h at = absurd open_one
sends state n pass Met x open_one places mine number now queued passes room h at = absurd open_one

-- ---- a take

-- the history with one more message taken
abbrev after_take : History → Mail → History
after_take history x = record history { taken = history.taken ++ x ∷ [] }

-- what the other passes know stays true, since the taker has only one
others_take : (history : History) (x : Mail) (j : ℕ) (u : Knowledge) → j ≢ history.taker → Fits history j u → Fits (after_take history x) j u
others_take history x j (Sender capacity sender sent closed) apart h = record { places = h.places; own = h.own; all = h.all; done = h.done }
others_take history x j (Taker capacity senders taken met) apart h = absurd (apart h.own)
others_take history x j Met apart h = tt

pub takes : (pass : ℕ) (v : Knowledge) → IsTaker v → Pops Delivers pass v (step.Receives v)
takes pass (Sender capacity sender sent closed) is_taker x queued passes h at = absurd is_taker
takes pass Met is_taker x queued passes h at = absurd is_taker
takes pass (Taker capacity senders taken met) is_taker x queued passes h at =
    let history = h.history in
    let me : Fits history pass (Taker capacity senders taken met) = h.known pass (Taker capacity senders taken met) at in
    let log_is : history.log ≡ (history.taken ++ x ∷ []) ++ queued = h.in_log ∙ sym (append_assoc history.taken (x ∷ []) queued) in
    let late : senders ≤ x.sender → ⊥ = λ le. has_mail x.sender history.taken queued x refl (ap (mail_of x.sender) (sym h.in_log) ∙ (me.later x.sender le).nothing) in
    let parts : (p : ℕ) → mail_of p history.log ≡ mail_of p (taken ++ x ∷ []) ++ mail_of p queued = λ p.
    ap (mail_of p) (log_is ∙ ap (λ (l : List Mail). (l ++ x ∷ []) ++ queued) (sym me.front)) ∙ mail_of-append p (taken ++ x ∷ []) queued in
    let mine_now : Fits (after_take history x) pass (Taker capacity senders (taken ++ x ∷ []) met) = record {
      places = me.places;
      own = me.own;
      front = ap (λ l. l ++ x ∷ []) me.front;
      later = λ p le. let l = me.later p le in record { no_pass = l.no_pass; nothing = l.nothing };
      closed = λ i m e. let k = me.closed i m e in record { made = k.made; no_pass = k.no_pass; all = k.all; done = k.done };
    } in (
      Taker capacity senders (taken ++ x ∷ []) met,
      record {
        history = after_take history x;
        in_log = log_is;
        well_sent = h.well_sent;
        within = (let short = h.within in omega arith);
        known = fit_set (Fits (after_take history x)) passes pass (Taker capacity senders (taken ++ x ∷ []) met) mine_now (λ j u apart e. others_take history x j u (λ i. apart (i ∙ sym me.own)) (h.known j u e));
      },
      (
        refl,
        omega arith,
        record {
          in_order = λ p. well_sent-front _ _ (subst IsWellSent (parts p) (h.well_sent p));
          no_other = λ p le. (both_empty (mail_of p (taken ++ x ∷ [])) (mail_of p queued) (sym (parts p) ∙ (me.later p le).nothing)).0;
        },
      ),
    )

-- what was taken stays well taken, whether a take found a message or not
pub well_taken-kept : {E : Type 0} (F : Type 0) (v w : Knowledge) (r : Result Mail E) → IsWellTaken (senders_of v) (taken_of v) → MatchResult r (λ m. step.Receives v m w) (λ e. (w ≡ v) × F) → IsWellTaken (senders_of w) (taken_of w)
well_taken-kept F v w (Ok m) h t = t.2
well_taken-kept F v w (Err e) h t = subst (λ u. IsWellTaken (senders_of u) (taken_of u)) (sym t.0) h

-- the pass stays the taker's
pub is_taker-kept : {E : Type 0} (F : Type 0) (v w : Knowledge) (r : Result Mail E) → IsTaker v → MatchResult r (λ m. step.Receives v m w) (λ e. (w ≡ v) × F) → IsTaker w
is_taker-kept F (Sender capacity sender sent closed) w r h t = absurd h
is_taker-kept F Met w r h t = absurd h
is_taker-kept F (Taker capacity senders taken met) w (Ok m) h t = subst IsTaker (sym t.0) tt
is_taker-kept F (Taker capacity senders taken met) w (Err e) h t = subst IsTaker (sym t.0) tt

-- nothing was taken yet
pub well_taken-nil : (senders : ℕ) → IsWellTaken senders []
well_taken-nil senders = record { in_order = λ p. well_sent-nil; no_other = λ p le. refl }

-- ---- a new sender

-- the history with one more sender, which has this pass, and with this many places
abbrev after_split : History → ℕ → ℕ → ℕ → History
after_split history places sender pass = record history { capacity = places; pass_of = pass_at history.pass_of sender (some pass) }

-- what the other passes know stays true
others_make : (history : History) (places sender pass j : ℕ) (u : Knowledge) → history.pass_of sender ≡ none → ((q k : ℕ) → history.pass_of q ≡ some k → history.capacity ≡ places) → j ≢ history.taker → Fits history j u → Fits (after_split history places sender pass) j u
others_make history places sender pass j (Sender capacity q sent closed) free same apart h =
    let other : q ≢ sender = λ e. some-ne-none j (sym h.own ∙ ap history.pass_of e ∙ free) in
    record { places = h.places ∙ same q j h.own; own = pass_at-other history.pass_of sender q (some pass) other ∙ h.own; all = h.all; done = h.done }
others_make history places sender pass j (Taker capacity senders taken met) free same apart h = absurd (apart h.own)
others_make history places sender pass j Met free same apart h = tt

pub splits : (pass : ℕ) (v : Knowledge) (places : ℕ) → IsTaker v → ((senders_of v ≡ 0) ⊎ (capacity_of v ≡ places)) → Forks Delivers pass v (with_sender places v) (new_sender places v)
splits pass (Sender capacity sender sent closed) places is_taker first queued passes h at = absurd is_taker
splits pass Met places is_taker first queued passes h at = absurd is_taker
splits pass (Taker capacity senders taken met) places is_taker first queued passes h at =
    let history = h.history in
    let me : Fits history pass (Taker capacity senders taken met) = h.known pass (Taker capacity senders taken met) at in
    let free : IsUnmade history senders = me.later senders (omega arith) in
    let passes' : List Knowledge = set passes pass (Taker places (senders + 1) taken met) in
    let new : ℕ = length passes' in
    let history' : History = after_split history places senders new in
    let same : (q k : ℕ) → history.pass_of q ≡ some k → history.capacity ≡ places = λ q k e.
    ⊎_elim (λ (z : senders ≡ 0). absurd (some-ne-none k (sym e ∙ (me.later q (omega arith)).no_pass))) (λ (z : capacity ≡ places). sym me.places ∙ z) first in
    let short : length queued ≤ places =
    ⊎_elim (λ (z : senders ≡ 0). let none_queued = no_mail history.taken queued (λ p. ap (mail_of p) (sym h.in_log) ∙ (me.later p (omega arith)).nothing) in omega (arith, ap length none_queued))
    (λ (z : capacity ≡ places). let c = me.places in let s = h.within in omega arith) first in
    let mine_now : Fits history' pass (Taker places (senders + 1) taken met) = record {
      places = refl;
      own = me.own;
      front = me.front;
      later = λ p le. let l = me.later p (omega arith) in record { no_pass = pass_at-other history.pass_of senders p (some new) (omega arith) ∙ l.no_pass; nothing = l.nothing };
      closed = λ i m e. let k = me.closed i m e in let lt = k.made in record { made = omega arith; no_pass = pass_at-other history.pass_of senders m.sender (some new) (omega arith) ∙ k.no_pass; all = k.all; done = k.done };
    } in
    let new_now : Fits history' new (Sender places senders [] false) = record { places = refl; own = pass_at-own history.pass_of senders (some new); all = sym free.nothing; done = λ d. d } in
    record {
      history = history';
      in_log = h.in_log;
      well_sent = h.well_sent;
      within = short;
      known = fit_push (Fits history') passes' (Sender places senders [] false) new_now
          (fit_set (Fits history') passes pass (Taker places (senders + 1) taken met) mine_now
          (λ j u apart e. others_make history places senders new j u free.no_pass same (λ i. apart (i ∙ sym me.own)) (h.known j u e)));
    }

-- ---- a meeting

-- the history with a sender that was met
abbrev after_meet : History → ℕ → History
after_meet history sender = record history { pass_of = pass_at history.pass_of sender none }

-- what the other passes know stays true
others_meet : (history : History) (sender pass j : ℕ) (u : Knowledge) → history.pass_of sender ≡ some pass → j ≢ pass → j ≢ history.taker → Fits history j u → Fits (after_meet history sender) j u
others_meet history sender pass j (Sender capacity q sent closed) own apart alone h =
    let other : q ≢ sender = λ e. apart (some-injective j pass (sym h.own ∙ ap history.pass_of e ∙ own)) in
    record { places = h.places; own = pass_at-other history.pass_of sender q none other ∙ h.own; all = h.all; done = h.done }
others_meet history sender pass j (Taker capacity senders taken met) own apart alone h = absurd (alone h.own)
others_meet history sender pass j Met own apart alone h = tt

-- what the taker knows of the senders that it met, with one more
knows_met : (history : History) (senders sender : ℕ) (sent : List Mail) (met : List SentList) → WasMet (after_meet history sender) senders (record { sender = sender; sent = sent }) → ((i : ℕ) (m : SentList) → get_elem? met i ≡ some m → WasMet history senders m)
    → (i : ℕ) (m : SentList) → get_elem? (record { sender = sender; sent = sent } ∷ met) i ≡ some m → WasMet (after_meet history sender) senders m
knows_met history senders sender sent met one old zero m e = subst (WasMet (after_meet history sender) senders) (some-injective _ m e) one
knows_met history senders sender sent met one old (suc i) m e = let k = old i m e in record { made = k.made; no_pass = pass_at-none history.pass_of sender m.sender k.no_pass; all = k.all; done = k.done }

pub meets : (pass : ℕ) (v : Knowledge) (other : ℕ) (w : Knowledge) → IsTaker v → IsSender true w → Merges Delivers pass v other w (with_met v w) Met
meets pass (Sender capacity sender sent closed) other w is_taker is_closed queued passes h at two at' = absurd is_taker
meets pass Met other w is_taker is_closed queued passes h at two at' = absurd is_taker
meets pass (Taker capacity senders taken met) other (Taker c n t k) is_taker is_closed queued passes h at two at' = absurd is_closed
meets pass (Taker capacity senders taken met) other Met is_taker is_closed queued passes h at two at' = absurd is_closed
meets pass (Taker capacity senders taken met) other (Sender c sender sent closed) is_taker is_closed queued passes h at two at' =
    let history = h.history in
    let history' : History = after_meet history sender in
    let both : Knowledge = Taker capacity senders taken (record { sender = sender; sent = sent } ∷ met) in
    let theirs_at : Knowledge = Sender c sender sent closed in
    let me : Fits history pass (Taker capacity senders taken met) = h.known pass (Taker capacity senders taken met) at in
    let was : get_elem? passes other ≡ some theirs_at = ⊎_elim (λ x. absurd (two x.0)) (λ x. x.1) (at_set passes pass other both theirs_at at') in
    let theirs : Fits history other (Sender c sender sent closed) = h.known other theirs_at was in
    let late : senders ≤ sender → ⊥ = λ le. some-ne-none other (sym theirs.own ∙ (me.later sender le).no_pass) in
    let lt : sender < senders = omega arith in
    let one : WasMet history' senders (record { sender = sender; sent = sent }) = record { made = lt; no_pass = pass_at-own history.pass_of sender none; all = theirs.all; done = subst (λ (b : Bool). HasDoneIff b sent) is_closed theirs.done } in
    let mine_now : Fits history' pass (Taker capacity senders taken (record { sender = sender; sent = sent } ∷ met)) = record {
      places = me.places;
      own = me.own;
      front = me.front;
      later = λ p le. let l = me.later p le in record { no_pass = pass_at-none history.pass_of sender p l.no_pass; nothing = l.nothing };
      closed = knows_met history senders sender sent met one me.closed;
    } in
    let all_but : AllFit (λ j y. j ≢ other → Fits history' j y) (set passes pass both) =
    fit_set (λ j y. j ≢ other → Fits history' j y) passes pass both (λ _. mine_now) (λ j y elsewhere e apart. others_meet history sender other j y theirs.own apart (λ i. elsewhere (i ∙ sym me.own)) (h.known j y e)) in
    record {
      history = history';
      in_log = h.in_log;
      well_sent = h.well_sent;
      within = h.within;
      known = fit_set (Fits history') (set passes pass both) other Met tt (λ j y apart e. all_but j y e apart);
    }

-- ---- a reading

-- what the log holds of a sender, with the log as what was taken and what is queued
all_of : (log taken queued : List Mail) (sender : ℕ) (sent : List Mail) (closed : Bool) → log ≡ taken ++ queued → ((p : ℕ) → IsWellSent (mail_of p log)) → sent ≡ mail_of sender log → HasDoneIff closed sent → IsAllOf (taken ++ queued) sender sent closed
all_of log taken queued sender sent closed in_log well all done = record { all = all ∙ ap (mail_of sender) in_log; well_sent = subst IsWellSent (sym all) (well sender); done = done }

pub reads : (pass : ℕ) (v : Knowledge) → IsTaker v → Learns Delivers pass v (step.Learns v)
reads pass (Sender capacity sender sent closed) is_taker queued passes h at = absurd is_taker
reads pass Met is_taker queued passes h at = absurd is_taker
reads pass (Taker capacity senders taken met) is_taker queued passes h at =
    let history = h.history in
    let me : Fits history pass (Taker capacity senders taken met) = h.known pass (Taker capacity senders taken met) at in (
      (let c = me.places in let s = h.within in omega arith),
      λ i m e.
          let k = me.closed i m e in
          (k.made, all_of history.log taken queued m.sender m.sent true (h.in_log ∙ ap (λ (t : List Mail). t ++ queued) (sym me.front)) h.well_sent k.all k.done),
    )

-- after a meeting the pass is still the taker's
pub taker-met : (v w : Knowledge) → IsTaker v → IsTaker (with_met v w)
taker-met (Sender capacity sender sent closed) w h = h
taker-met (Taker capacity senders taken met) w h = tt
taker-met Met w h = h

-- what a reading shows of the sender that was met last
pub met_tells : (v u w : Knowledge) (queued : List Mail) → IsTaker v → w ≡ with_met v u → step.Learns w queued → (length queued ≤ capacity_of v) × (sender_of u < senders_of v) × IsAllOf (taken_of v ++ queued) (sender_of u) (sent_of u) true
met_tells (Sender capacity sender sent closed) u w queued is_taker e tells = absurd is_taker
met_tells Met u w queued is_taker e tells = absurd is_taker
met_tells (Taker capacity senders taken met) u w queued is_taker e tells =
    let told = subst (λ (z : Knowledge). step.Learns z queued) e tells in
    let last = told.1 0 (record { sender = sender_of u; sent = sent_of u }) refl in
    (told.0, last.0, last.1)

-- ---- the law of the log

pub has_log : (queued : List Mail) (passes : List Knowledge) → Delivers queued passes → HasLog queued passes
has_log queued passes h =
    let history = h.history in
    record {
      capacity = history.capacity;
      taken = history.taken;
      within = h.within;
      senders = λ pass places sender sent closed at.
          let f : Fits history pass (Sender places sender sent closed) = h.known pass (Sender places sender sent closed) at in
          (f.places, all_of history.log history.taken queued sender sent closed h.in_log h.well_sent f.all f.done);
      takers = λ pass places made front met at.
          let f : Fits history pass (Taker places made front met) = h.known pass (Taker places made front met) at in (
            f.places,
            f.front,
            (λ sender le. ap (mail_of sender) (sym h.in_log) ∙ (f.later sender le).nothing),
            (λ i m e. let k = f.closed i m e in all_of history.log history.taken queued m.sender m.sent true h.in_log h.well_sent k.all k.done),
          );
    }
