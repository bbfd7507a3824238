-- What is outside of a wire over HTTP connections whose far end is described, before and after its calls.
use Rattle.std.proofs.Common.{◌≡◌, ◌≢◌, ℕ, ◌<◌, List, [], ◌∷◌, ◌++◌, length, Option, Some, None, Bool, true, false, Result, Ok, Err, refl, sym, ap, ◌∙◌, subst, arith, inl, inr, IsTrue}
use Rattle.std.proofs.lemmas.Bool.Decides.{eqb_tells}
use Rattle.std.specs.Prelude.{slice_get, if◌then◌else◌, ◌==◌, ◌&&◌}
use Rattle.std.specs.Io.KnownBytes.{append_known, prepend_known}
use Rattle.relay_action.specs.declared.write.Write.{Write}
use Rattle.relay_ndjson.specs.Bulk.{text_of}
use Rattle.relay_results.specs.Words.{Mem}
use Rattle.relay_results.specs.Numbers.{from_zero}
use Rattle.relay_results.specs.Outside.{Request, Unanswered, writes_of, Answer, Items, Whole, Lost, Outside, Event, Sends, Runs, Answers, IsHonest, MayAnswer, after, after_all, AllMayHappen}
use Rattle.relay_results.proofs.Lists.{at-left, at-last, at-within, at-update_other}
use Rattle.relay_results.proofs.Steps.{step_runs_item}
use Rattle.relay_http.specs.Connection.{Connection, HasNone, ahead}
use Rattle.relay_http.specs.Forms.{Took}
use Rattle.relay_http.specs.Reply.{Reply, IsReplyMessage, reply_view}
use Rattle.relay_http.specs.WrittenRequest.{is_host, request}
use Rattle.relay_http.specs.declared.fault.HttpFault.{HttpFault}
use Rattle.relay_http.specs.declared.reply.HttpReply.{HttpReply}
use Rattle.relay_lane.specs.declared.wire.WireReply.{WireReply}
use Rattle.relay_lane.specs.declared.wire.WireReply.TheVariants as reply
use Rattle.relay_results.specs.declared.cause.Loss.{Loss}
use Rattle.relay_results.specs.declared.cause.Loss.TheVariants as loss
use Rattle.relay_lane.specs.Wires.{answer_of, IsWireReply, AreRuns, RunsOn, SendsOn, AnswersOn, ExchangesOn, IsNext}
use Rattle.relay_wires.specs.Numbers.{numbers, entry_of, besides}
use Rattle.relay_wires.specs.Peers.{MayGo, IsWritten, IsOpenAt, IsAsked, IsHonestLeft, RunsThen}
use Rattle.relay_wires.specs.Carriers.{Carrier, Picks, PicksOne, Writes, WritesOn, IsToldWritten, Reads, IsTold, free_after}
use Rattle.relay_wires.specs.Telling.{IsOut, AllBefore, AreOut, AllUnwritten, Fits}

-- ---- runs

runs_keep : (es : List Event) (o : Outside) → AreRuns es → AllMayHappen es o → (after_all es o).requests ≡ o.requests
runs_keep [] o r m = refl
runs_keep (Sends ws ∷ es) o r m = absurd r.0
runs_keep (Runs x ∷ es) o r m =
    let step = step_runs_item o (after (Runs x) o) (record { run = x; may = m.0; reached = refl }) in
    runs_keep es (after (Runs x) o) r.1 m.1 ∙ step.requests
runs_keep (Answers n a ∷ es) o r m = absurd r.0

pub runs_keep_requests : (o p : Outside) → RunsOn o p → p.requests ≡ o.requests
runs_keep_requests o p r = ap (λ (s : Outside). s.requests) r.reached ∙ runs_keep r.events o r.runs r.may

no_runs : (o : Outside) → RunsOn o o
no_runs o = record { events = []; runs = tt; may = tt; reached = refl }

-- ---- what is outstanding stays

out_still : (host : List ℕ) (number : ℕ) (c : Connection) (o p : Outside) → slice_get p.requests (from_zero number) ≡ slice_get o.requests (from_zero number) → IsOut host number c o → IsOut host number c p
out_still host number c o p same x = record { writes = x.writes; sent = same ∙ x.sent; may = x.may; written_is = x.written_is }

-- requests at other places than this are the same
SameBeside : ℕ → Outside → Outside → Type 0
SameBeside place o p = (k : ℕ) → k ≢ place → slice_get p.requests k ≡ slice_get o.requests k

before_one : (place n : ℕ) (ns : List ℕ) → AllBefore place ns → Mem n ns → from_zero n < place
before_one place n [] b m = absurd m
before_one place n (k ∷ ns) b m = elim m [
  | inl e ↦ subst (λ j. from_zero j < place) (sym e) b.0
  | inr later ↦ before_one place n ns b.1 later
]

before_besides : (place n : ℕ) (es : List (ℕ × Connection)) → AllBefore place (numbers es) → AllBefore place (numbers (besides n es))
before_besides place n [] b = tt
before_besides place n (e ∷ es) b = elim (eqb_tells e.0 n) [
  | inl same ↦ let here = same.0 in rw here b.1
  | inr apart ↦ let other = apart.0 in rw other (b.0, before_besides place n es b.1)
]

all_still : (host : List ℕ) (es : List (ℕ × Connection)) (place : ℕ) (o p : Outside) → SameBeside place o p → AllBefore place (numbers es) → AreOut host es o → AreOut host es p
unfolding SameBeside
all_still host [] place o p same b x = tt
all_still host (e ∷ es) place o p same b x =
    let before = b.0 in
    (out_still host e.0 e.1 o p (same (from_zero e.0) (λ q. omega (arith, before, q))) x.0, x.1, all_still host es place o p same b.1 x.2)

besides_still : (host : List ℕ) (es : List (ℕ × Connection)) (n : ℕ) (o p : Outside) → SameBeside (from_zero n) o p → Mem n (numbers es) → AreOut host es o → AreOut host (besides n es) p
unfolding SameBeside
besides_still host [] n o p same m x = absurd m
besides_still host (e ∷ es) n o p same m x = elim (eqb_tells e.0 n) [
  | inl is ↦ let here = is.0 in rw here (all_still host es (from_zero n) o p same (subst (λ k. AllBefore (from_zero k) (numbers es)) is.1 x.1) x.2)
  | inr apart ↦ let other = apart.0 in elim m [
    | inl eq ↦ absurd (apart.1 (sym eq))
    | inr later ↦
        let below = before_one (from_zero e.0) n (numbers es) x.1 later in
        rw other (out_still host e.0 e.1 o p (same (from_zero e.0) (λ q. omega (arith, below, q))) x.0, before_besides (from_zero e.0) n es x.1, besides_still host es n o p same later x.2)
  ]
]

out_of : (host : List ℕ) (es : List (ℕ × Connection)) (n : ℕ) (c : Connection) (o : Outside) → AreOut host es o → entry_of n es ≡ Some c → IsOut host n c o
out_of host [] n c o x e = absurd (cc)
out_of host (e ∷ es) n c o x is = elim (eqb_tells e.0 n) [
  | inl same ↦
      let here = same.0 in
      let at : Some e.1 ≡ Some c = rw here at is in
      let b : e.1 ≡ c = cc in
      subst (λ k. IsOut host k c o) same.1 (subst (λ d. IsOut host e.0 d o) b x.0)
  | inr apart ↦ let other = apart.0 in out_of host es n c o x.2 (rw other at is)
]

-- ---- what was written

-- on the free connections that were not picked, and on the one that was, nothing is left that the far end did not have
unwritten_split : (xs ys : List Connection) (c : Connection) → AllUnwritten (xs ++ (c ∷ ys)) → AllUnwritten xs × HasNone c.written
unwritten_split [] ys c u = (tt, u.0)
unwritten_split (x ∷ xs) ys c u = let rest = unwritten_split xs ys c u.1 in ((u.0, rest.0), rest.1)

pub unwritten_picked : (before later : ℕ) (old new : List Connection) (c : Connection) → Picks old new before later c → AllUnwritten old → AllUnwritten new × HasNone c.written
unwritten_picked before later old new c (inl t) u = unwritten_split new t.0.dropped c (subst AllUnwritten t.0.free u)
unwritten_picked before later old new c (inr p) u =
    (subst AllUnwritten (sym p.0) tt, subst (λ (x : Connection). HasNone x.written) (sym p.1.3) p.1.4)

unwritten_push : (cs : List Connection) (d : Connection) → HasNone d.written → AllUnwritten cs → AllUnwritten (cs ++ d ∷ [])
unwritten_push [] d u all = (u, tt)
unwritten_push (c ∷ cs) d u all = (all.0, unwritten_push cs d u all.1)

unwritten_if : (keep : Bool) (cs : List Connection) (d : Connection) → HasNone d.written → AllUnwritten cs → AllUnwritten (if keep then cs ++ d ∷ [] else cs)
unwritten_if true cs d u all = unwritten_push cs d u all
unwritten_if false cs d u all = all

pub unwritten_freed : (read : Result HttpReply HttpFault) (d : Connection) (cs : List Connection) → HasNone d.written → AllUnwritten cs → AllUnwritten (free_after read d cs)
unwritten_freed (Ok reply) d cs u all = unwritten_if (reply.keep && (length d.held == 0)) cs d u all
unwritten_freed (Err f) d cs u all = all

-- no connection is free if none was picked
pub picked_none : (f : Loss) (free later : List Connection) (failed counted before after : ℕ) → PicksOne free later failed counted before after (Err f) → AllUnwritten later
picked_none loss.Refused free later failed counted before after p = subst AllUnwritten (sym p.0) tt
picked_none loss.Unreachable free later failed counted before after p = subst AllUnwritten (sym p.0) tt
picked_none loss.TimedOut free later failed counted before after p = subst AllUnwritten (sym p.0) tt
picked_none loss.Closed free later failed counted before after p = absurd p
picked_none loss.Unreadable free later failed counted before after p = absurd p
picked_none loss.Memory free later failed counted before after p = subst AllUnwritten (sym p.0) tt

pub written_alone : (host : List ℕ) (ws : List Write) (old new : Option (List ℕ)) → HasNone old → new ≡ append_known old (request host (text_of ws)) → IsWritten host ws new
written_alone host ws None new u e = subst (IsWritten host ws) (sym e) tt
written_alone host ws (Some bytes) new u e =
    subst (IsWritten host ws) (sym e) (ap (λ (b : List ℕ). b ++ request host (text_of ws)) u)

-- the request is what was written on a connection that was picked
pub written_on : (host : List ℕ) (ws : List Write) (c d : Connection) → WritesOn host ws c d (Ok tt) → HasNone c.written → IsWritten host ws d.written
written_on host ws c d w u = by w.write w.writes w.told
  where
    by : (r : Result (Unit {0}) HttpFault) → Writes host ws c d r → IsToldWritten w.late r (Ok tt) → IsWritten host ws d.written
    by (Ok v) x told = written_alone host ws c.written d.written u x.sent
    by (Err f) x told = absurd (cc)

-- ---- a request is sent

sent_still : (host : List ℕ) (es : List (ℕ × Connection)) (o : Outside) (ws : List Write) → AreOut host es o → AreOut host es (after (Sends ws) o)
sent_still host [] o ws x = tt
sent_still host (e ∷ es) o ws x =
    let y = x.0 in
    let there = at-left o.requests (record { writes = ws; answer = Unanswered } ∷ []) (from_zero e.0) (record { writes = y.writes; answer = Unanswered }) y.sent in
    (record { writes = y.writes; sent = there; may = y.may; written_is = y.written_is }, x.1, sent_still host es o ws x.2)

all_before : (host : List ℕ) (es : List (ℕ × Connection)) (o : Outside) → AreOut host es o → AllBefore (length o.requests) (numbers es)
all_before host [] o x = tt
all_before host (e ∷ es) o x =
    let y = x.0 in
    (at-within o.requests (from_zero e.0) (record { writes = y.writes; answer = Unanswered }) y.sent, all_before host es o x.2)

next_place : (o : Outside) (number : ℕ) → IsNext number o → length o.requests ≡ from_zero number
next_place o number next = omega (arith, next)

is_sent : (o : Outside) (number : ℕ) (ws : List Write) → IsNext number o → IsOpenAt number ws (after (Sends ws) o)
is_sent o number ws next = subst (λ k. slice_get (o.requests ++ record { writes = ws; answer = Unanswered } ∷ []) k ≡ Some (record { writes = ws; answer = Unanswered })) (next_place o number next) (at-last o.requests (record { writes = ws; answer = Unanswered }))

module _ {P : Type 0} (fits : P → Outside → Type 0) (keeps_sent : (p : P) (o : Outside) (ws : List Write) → fits p o → fits p (after (Sends ws) o)) (keeps_answered : (p : P) (o : Outside) (place : ℕ) (a : Answer) → fits p o → fits p (after (Answers place a) o)) where
  -- the request is out on a connection on which it is what was written
  pub sent_fits : (w v : Carrier P) (o : Outside) (number : ℕ) (ws : List Write) (d : Connection) → IsNext number o → MayGo ws
      → v.host ≡ w.host → v.peer ≡ w.peer → v.out ≡ (number, d) ∷ w.out → AllUnwritten v.free → IsWritten w.host ws d.written
      → Fits fits w o → (p : Outside) × Fits fits v p × SendsOn ws o p
  sent_fits w v o number ws d next may host peer out free written x =
      let p = after (Sends ws) o in
      let before = subst (λ k. AllBefore k (numbers w.out)) (next_place o number next) (all_before w.host w.out o x.out) in
      let outs : AreOut w.host ((number, d) ∷ w.out) p =
      (record { writes = ws; sent = is_sent o number ws next; may = may; written_is = written }, before, sent_still w.host w.out o ws x.out) in (
        p,
        record {
          peer = subst (λ e. fits e p) (sym peer) (keeps_sent w.peer o ws x.peer);
          out = subst (λ h. AreOut h v.out p) (sym host) (subst (λ es. AreOut w.host es p) (sym out) outs);
          free = free;
        },
        record { runs = no_runs p },
      )

  answered_same : (q : Outside) (place : ℕ) (a : Answer) → SameBeside place q (after (Answers place a) q)
  unfolding SameBeside
  answered_same q place a = λ k ne. at-update_other place (λ (r : Request). record { writes = writes_of r; answer = a }) q.requests k ne

  -- the request could not be sent, which counts as sent and lost
  pub unsent_fits : (why : Loss) (w v : Carrier P) (o : Outside) (number : ℕ) (ws : List Write) → IsNext number o
      → v.host ≡ w.host → v.peer ≡ w.peer → v.out ≡ w.out → AllUnwritten v.free
      → Fits fits w o → (p : Outside) × Fits fits v p × ExchangesOn number ws (Lost why) o p
  unsent_fits why w v o number ws next host peer out free x =
      let q = after (Sends ws) o in
      let p = after (Answers (from_zero number) (Lost why)) q in
      let before = subst (λ k. AllBefore k (numbers w.out)) (next_place o number next) (all_before w.host w.out o x.out) in
      let may : MayAnswer q (from_zero number) (Lost why) = record { request = record { writes = ws; answer = Unanswered }; sent = is_sent o number ws next; open_yet = refl; honest = tt } in
      let outs : AreOut w.host w.out p = all_still w.host w.out (from_zero number) q p (answered_same q (from_zero number) (Lost why)) before (sent_still w.host w.out o ws x.out) in (
        p,
        record {
          peer = subst (λ e. fits e p) (sym peer) (keeps_answered w.peer q (from_zero number) (Lost why) (keeps_sent w.peer o ws x.peer));
          out = subst (λ h. AreOut h v.out p) (sym host) (subst (λ es. AreOut w.host es p) (sym out) outs);
          free = free;
        },
        record { between = q; sends = record { runs = no_runs q }; answers = record { before = q; runs = no_runs q; may = may; reached = refl } },
      )

  -- ---- a request is answered

  -- after the far end had the request, it gets an answer that is honest
  pub answered_fits : (w v : Carrier P) (o : Outside) (number : ℕ) (c : Connection) (a : Answer) (Q : List Write → Outside → Type 0) → Mem number (numbers w.out) → IsTrue (is_host w.host)
      → v.host ≡ w.host → v.out ≡ besides number w.out → AllUnwritten v.free
      → entry_of number w.out ≡ Some c → RunsThen fits w.peer v.peer number c.written Q
      → ((ws : List Write) (p : Outside) → Q ws p → IsHonest p.runs (from_zero number) ws a)
      → Fits fits w o → (p : Outside) × Fits fits v p × AnswersOn number a o p
  unfolding SameBeside
  answered_fits w v o number c a Q m good host out free there heard honest x =
      let y = out_of w.host w.out number c o x.out there in
      let r = heard w.host y.writes o x.peer (record { sent = y.sent; may = y.may; host_is = good; written_is = y.written_is }) in
      let q = r.0 in
      let kept = runs_keep_requests o q r.2 in
      let p = after (Answers (from_zero number) a) q in
      let sent : IsOpenAt number y.writes q = ap (λ rs. slice_get rs (from_zero number)) kept ∙ y.sent in
      let may : MayAnswer q (from_zero number) a = record { request = record { writes = y.writes; answer = Unanswered }; sent = sent; open_yet = refl; honest = honest y.writes q r.3 } in
      let same : SameBeside (from_zero number) o p = λ k ne.
      at-update_other (from_zero number) (λ (z : Request). record { writes = writes_of z; answer = a }) q.requests k ne ∙ ap (λ rs. slice_get rs k) kept in
      let outs : AreOut w.host (besides number w.out) p = besides_still w.host w.out number o p same m x.out in (
        p,
        record {
          peer = keeps_answered v.peer q (from_zero number) a r.1;
          out = subst (λ h. AreOut h v.out p) (sym host) (subst (λ es. AreOut w.host es p) (sym out) outs);
          free = free;
        },
        record { before = q; runs = r.2; may = may; reached = refl },
      )

-- ---- an answer is honest

nothing_ahead : (held : List ℕ) (left : Option (List ℕ)) → held ≡ [] → prepend_known held left ≡ left
nothing_ahead held None e = refl
nothing_ahead held (Some bytes) e = ap (λ (h : List ℕ). Some (h ++ bytes)) e

-- what is returned is honest if what was left to read was
pub told_honest : (number : ℕ) (ws : List Write) (p : Outside) (c d : Connection) (late : Bool) (read : Result HttpReply HttpFault) (result : Result WireReply Loss) → Reads c d read → IsTold late read result → c.held ≡ [] → IsWireReply result → IsHonestLeft number ws p c.left
    → IsHonest p.runs (from_zero number) ws (answer_of result)
told_honest number ws p c d late (Ok r) (Ok (reply.Items os)) reads told clear is honest =
    let took : Took IsReplyMessage c.left (ahead d) (reply_view r) = subst (λ l. Took IsReplyMessage l (ahead d) (reply_view r)) (nothing_ahead c.held c.left clear) reads.answer in
    honest (reply_view r) (ahead d) took told.0 os.items told.1
told_honest number ws p c d late (Ok r) (Ok (reply.Whole status reason)) reads told clear is honest = is
told_honest number ws p c d late (Ok r) (Err f) reads told clear is honest = tt
told_honest number ws p c d late (Err e) (Ok x) reads told clear is honest = absurd (cc)
told_honest number ws p c d late (Err e) (Err f) reads told clear is honest = tt
