-- What workers answer and settle, one call after another, and what their producers have put by then.
use Rattle.std.proofs.Common.{◌≡◌, ℕ, zero, suc, ◌+◌, ◌<◌, List, [], ◌∷◌, ◌++◌, length, map, get_or, Option, refl, ap, sym, subst, ◌∙◌, arith, append_assoc, append-nil, inl, inr, ⊎_elim, add-zero}
use Rattle.std.proofs.lemmas.List.{length-map, map-append}
use Rattle.std.specs.Prelude.{◌⊎◌, Some, slice_get}
use Rattle.relay_action.specs.declared.operation.Op.{Op}
use Rattle.relay_queue.specs.Ends.{Queue, SenderEnd}
use Rattle.relay_results.specs.Words.{Mem}
use Rattle.relay_results.proofs.Lists.{Mem-left, Mem-right}
use Rattle.relay_producer.specs.Ends.{open_puts, closed_puts}
use Rattle.relay_producer.specs.Puts.{HasPut}
use Rattle.relay_producer.specs.States.{ProducerState, ClosedProducerState, lane_for}
use Rattle.relay_producer.proofs.Closing.{put_kept}
use Rattle.relay_producer.proofs.Putting.{same_marked}
use Rattle.relay_receipts.specs.Ends.{Channel, TakeEnd}
use Rattle.relay_receipts.specs.Notices.{IsWellTaken}
use Rattle.relay_receipts.specs.Windows.{WindowState}
use Rattle.relay_threads.specs.DeliveryOfAll.{HavePut}
use Rattle.relay_threads.specs.Relay.{AreNew, new_producer}
use Rattle.relay_common.specs.Identities.{identity_of, identity_of_closed}
use Rattle.relay_common.specs.Putting.{after_puts, named_ops}
use Rattle.relay_common.proofs.Putting.{put_on, new_none, HavePutAs, put_at}
use Rattle.relay_front.specs.declared.ending.End.{End}
use Rattle.relay_front.specs.Operations.{Write}
use Rattle.relay_front.specs.declared.face.Face.{Face}
use Rattle.relay_front.specs.declared.service.Front.{Front}
use Rattle.http.specs.declared.request.Request.{Request as Asks}
use Rattle.http_server.specs.declared.response.Response.{Response}
use Rattle.relay_front.specs.Service.{Answers}
use Rattle.relay_front.proofs.Settling.{Apart, answers_apart}
use Rattle.relay_ndjson.specs.Metadata.{bytes_given}
use Rattle.http_server.specs.declared.connection.Connection.{Connection}
use Rattle.http_server.specs.Connection.{history}
use Rattle.http_server.specs.Exchange.{Call, Calls, Chain}
use Rattle.relay_telling.specs.declared.ending.Ending.{Ending}
use Rattle.relay_telling.specs.New.{channels_of, new_take}
use Rattle.relay_serve.specs.declared.entry.Entry.{Entry}
use Rattle.relay_serve.specs.declared.entry.Spoken.{Spoken}
use Rattle.relay_serve.specs.declared.producing.Producing.{Producing}
use Rattle.relay_serve.specs.declared.remembering.Remembering.{Remembering}
use Rattle.relay_serve.specs.Remembering.{AllGiven, AnswersAgain, AnswersItself, Reached, entry_of, reached, settles_in}
use Rattle.relay_serve.specs.Serving.{Request, AreSettled, WorkersSettled, all_put, taken_by}
use Rattle.relay_serve.specs.Answering.{Answering, AreAnswered, AreRemembered, Given, GoesOn, HasServed, HaveServed, Plain, Repeated, Settling, Visit, WasSettled, WorkersAnswered, begun, call_of, calls_in, given_by, repeats_of, requests_of}
use Rattle.relay_serve.specs.Settling.{Event, Stays, Settles, AreUnput, puts_in, heard_in}
use Rattle.std.specs.declared.thread.PromisedHandle.{PromisedHandle}
use Rattle.relay_serve.specs.declared.workers.WorkerPromise.{WorkerPromise}
use Rattle.relay_serve.specs.Meeting.{AllWellTaken}
use Rattle.relay_serve.specs.Workers.{given_to, channel_in, producer_in, receipts_in}
use Rattle.relay_serve.proofs.Staying.{stays_same, stays_on}
use Rattle.relay_serve.proofs.Putting.{puts_count}

-- ---- request after request

settled_stays : (rs : List Request) (a b : WindowState Ending) → AreSettled rs a b → Stays a b
settled_stays [] a b h = subst (Stays a) (sym h) (stays_same a)
settled_stays (r ∷ rs) a b h = stays_on a h.0 b h.1.stays (settled_stays rs h.0 b h.4)

same_identity : (rs : List Request) (a b : WindowState Ending) → AreSettled rs a b → identity_of b.producer ≡ identity_of a.producer
same_identity rs a b h = let s = settled_stays rs a b h in λ i. (s.producer i, s.ends i)

-- what was taken
settled_taken : (rs : List Request) (a b : WindowState Ending) → AreSettled rs a b → b.receipts.taken ≡ a.receipts.taken ++ taken_by rs
settled_taken [] a b h = ap (λ (s : WindowState Ending). s.receipts.taken) h ∙ sym (append-nil a.receipts.taken)
settled_taken (r ∷ rs) a b h =
    settled_taken rs h.0 b h.4 ∙ ap (λ l. l ++ taken_by rs) (h.1.taken ∙ ap (λ l. a.receipts.taken ++ l) h.3) ∙ append_assoc a.receipts.taken r.heard (taken_by rs)

settled_took : (rs : List Request) (a b : WindowState Ending) → AreSettled rs a b → b.receipts ≡ record a.receipts { taken = a.receipts.taken ++ taken_by rs }
settled_took rs a b h =
    let s = settled_stays rs a b h in
    let taken = settled_taken rs a b h in
    λ i. (let t : TakeEnd Ending = record { channel = s.channel i; lanes = s.lanes i; taken = taken i } in t)

-- ---- call after call

-- what was answered was settled
pub settled_of : (face : Face) (index : Option (List ℕ)) (xs : List Answering) (a b : WindowState Ending) → AreAnswered face index xs a b → AreSettled (requests_of xs) a b
settled_of face index [] a b h = h
settled_of face index (Plain c ∷ xs) a b h = settled_of face index xs a b h.1
settled_of face index (Settling c r ∷ xs) a b h = (h.0, h.1, h.2, h.3, settled_of face index xs h.0 b h.5)
settled_of face index (Repeated c ∷ xs) a b h = settled_of face index xs a b h.1

answered_on : (face : Face) (index : Option (List ℕ)) (xs bs : List Answering) (a b c : WindowState Ending) → AreAnswered face index xs a b → AreAnswered face index bs b c → AreAnswered face index (xs ++ bs) a c
answered_on face index [] bs a b c h k = subst (λ s. AreAnswered face index bs s c) h k
answered_on face index (Plain x ∷ xs) bs a b c h k = (h.0, answered_on face index xs bs a b c h.1 k)
answered_on face index (Settling x r ∷ xs) bs a b c h k = (h.0, h.1, h.2, h.3, h.4, answered_on face index xs bs h.0 b c h.5 k)
answered_on face index (Repeated x ∷ xs) bs a b c h k = (h.0, answered_on face index xs bs a b c h.1 k)

repeats_append : (xs ys : List Answering) → repeats_of (xs ++ ys) ≡ repeats_of xs ++ repeats_of ys
repeats_append [] ys = refl
repeats_append (Plain c ∷ xs) ys = repeats_append xs ys
repeats_append (Settling c r ∷ xs) ys = repeats_append xs ys
repeats_append (Repeated c ∷ xs) ys = ap (λ l. entry_of c.0 c.1 ∷ l) (repeats_append xs ys)

-- what was settled for one of some calls was settled for one of more
settled_later : (x : Answering) (xs : List Answering) (e : Entry) → WasSettled xs e → WasSettled (x ∷ xs) e
settled_later x xs e h = (h.0, h.1, inr h.2, h.3)

settled_left : (xs ys : List Answering) (e : Entry) → WasSettled xs e → WasSettled (xs ++ ys) e
settled_left xs ys e h = (h.0, h.1, Mem-left (Settling h.0 h.1) xs ys h.2, h.3)

settled_right : (xs ys : List Answering) (e : Entry) → WasSettled ys e → WasSettled (xs ++ ys) e
settled_right xs ys e h = (h.0, h.1, Mem-right (Settling h.0 h.1) xs ys h.2, h.3)

abbrev Fronts : Type 0 → Type 0 → Type 0
Fronts R I = Front (Producing R) I

-- these calls were answered
record Answered (face : Face) (index : Option (List ℕ)) (calls : List Call) (old new : Reached) : Type 0 where
  pub answers : List Answering
  pub shown : map call_of answers ≡ calls
  pub answered : AreAnswered face index answers old.producer new.producer
  pub given : (e : Entry) → Mem e new.given → Mem e old.given ⊎ WasSettled answers e
  pub repeated : new.repeated ≡ old.repeated ++ repeats_of answers

-- the front answered one more
itself_answered : {R I : Type 0} (c : Call) (calls : List Call) (old next : Fronts R I) (said says : Spoken) (last : Reached) → AnswersItself old said c.0 c.1 next says
    → Apart (λ (p : Producing R). p.settler.producer) settles_in (λ s a b. Answers s old.face (bytes_given old.index) a c.0 c.1 b) old.relay next.relay
    → Answered old.face (bytes_given old.index) calls (reached next says) last → Answered old.face (bytes_given old.index) (c ∷ calls) (reached old said) last
itself_answered {R} c calls old next said says last h (inl a) k =
    let same = λ (e : Entry) (g : (e ≡ entry_of c.0 c.1) × ((next.relay.marks.number ≡ old.relay.marks.number) → ⊥)). let never : ⊥ = g.1 (ap (λ (p : Producing R). p.marks.number) a.0) in never in
    record {
      answers = Plain c ∷ k.answers;
      shown = ap (λ l. c ∷ l) k.shown;
      answered = (a.1, subst (λ p. AreAnswered old.face (bytes_given old.index) k.answers p.settler.producer last.producer) a.0 k.answered);
      given = λ e m. ⊎_elim (λ l. ⊎_elim (λ o. inl o) (λ g. absurd (same e g)) (h.given e l)) (λ w. inr (settled_later (Plain c) k.answers e w)) (k.given e m);
      repeated = k.repeated ∙ ap (λ l. l ++ repeats_of k.answers) h.repeated;
    }
itself_answered c calls old next said says last h (inr a) k =
    let r : Request = record { writes = a.0; put = puts_in a.2.events; heard = heard_in a.2.events; ends = a.1 } in
    record {
      answers = Settling c r ∷ k.answers;
      shown = ap (λ l. c ∷ l) k.shown;
      answered = (next.relay.settler.producer, a.2, refl, refl, a.3, k.answered);
      given = λ e m. ⊎_elim (λ l. ⊎_elim (λ o. inl o) (λ g. inr (c, r, inl refl, g.0)) (h.given e l)) (λ w. inr (settled_later (Settling c r) k.answers e w)) (k.given e m);
      repeated = k.repeated ∙ ap (λ l. l ++ repeats_of k.answers) h.repeated;
    }

-- one more was answered from the memory
again_answered : {R I : Type 0} (c : Call) (calls : List Call) (old next : Fronts R I) (said says : Spoken) (last : Reached) → AnswersAgain old said c.0 c.1 next says
    → Answered old.face (bytes_given old.index) calls (reached next says) last → Answered old.face (bytes_given old.index) (c ∷ calls) (reached old said) last
again_answered {R} {I} c calls old next said says last h k = record {
  answers = Repeated c ∷ k.answers;
  shown = ap (λ l. c ∷ l) k.shown;
  answered = (h.fields, subst (λ (f : Fronts R I). AreAnswered old.face (bytes_given old.index) k.answers f.relay.settler.producer last.producer) h.kept k.answered);
  given = λ e m. ⊎_elim (λ l. inl (subst (Mem e) h.given l)) (λ w. inr (settled_later (Repeated c) k.answers e w)) (k.given e m);
  repeated = k.repeated ∙ ap (λ l. l ++ repeats_of k.answers) h.repeated ∙ append_assoc said.repeated.items (entry_of c.0 c.1 ∷ []) (repeats_of k.answers);
}

-- what a call of a worker's service does
abbrev ServiceAnswers : {R : Type 0} → Remembering R → Asks (List ℕ) → Response → Remembering R → Type 0
ServiceAnswers old request response new =
    AnswersItself old.front old.spoken request response new.front new.spoken ⊎ AnswersAgain old.front old.spoken request response new.front new.spoken

-- it keeps its face and its index
call_keeps : {R : Type 0} (old new : Remembering R) (request : Asks (List ℕ)) (response : Response) → ServiceAnswers old request response new → (new.front.face ≡ old.front.face) × (new.front.index ≡ old.front.index)
call_keeps old new request response (inl h) = (h.kept.1, h.kept.0)
call_keeps old new request response (inr h) = (ap (λ f. f.face) h.kept, ap (λ f. f.index) h.kept)

call_answered : {R : Type 0} (c : Call) (calls : List Call) (old next : Remembering R) (last : Reached) → ServiceAnswers old c.0 c.1 next
    → Answered old.front.face (bytes_given old.front.index) calls (reached next.front next.spoken) last → Answered old.front.face (bytes_given old.front.index) (c ∷ calls) (reached old.front old.spoken) last
call_answered {R} c calls old next last (inl h) k =
    itself_answered c calls old.front next.front old.spoken next.spoken last h
    (answers_apart (λ (p : Producing R). p.settler.producer) settles_in old.front.face (bytes_given old.front.index) old.front.relay c.0 c.1 next.front.relay h.answers) k
call_answered c calls old next last (inr h) k = again_answered c calls old.front next.front old.spoken next.spoken last h k

-- the calls of a service, which keeps its face and its index
record KeepsFront {R : Type 0} (calls : List Call) (old new : Remembering R) : Type 0 where
  pub front : (new.front.face ≡ old.front.face) × (new.front.index ≡ old.front.index)
  pub answered : Answered old.front.face (bytes_given old.front.index) calls (reached old.front old.spoken) (reached new.front new.spoken)

calls_answered : {R : Type 0} (old new : Remembering R) (calls : List Call) → Chain ServiceAnswers old calls new → KeepsFront calls old new
calls_answered {R} old new [] same = record {
  front = (ap (λ (s : Remembering R). s.front.face) same, ap (λ (s : Remembering R). s.front.index) same);
  answered = record {
    answers = [];
    shown = refl;
    answered = ap (λ (s : Remembering R). s.front.relay.settler.producer) same;
    given = λ e m. inl (subst (λ (s : Remembering R). Mem e s.spoken.given.items) same m);
    repeated = ap (λ (s : Remembering R). s.spoken.repeated.items) same ∙ sym (append-nil old.spoken.repeated.items);
  };
}
calls_answered {R} old new (c ∷ calls) h =
    let next : Remembering R = h.0 in
    let rest = calls_answered next new calls h.2 in
    let kept = call_keeps old next c.0 c.1 h.1 in
    let face = kept.0 in
    let index = kept.1 in
    let moved : Answered old.front.face (bytes_given old.front.index) calls (reached next.front next.spoken) (reached new.front new.spoken) =
    subst (λ (x : Face × Option (List ℕ)). Answered x.0 x.1 calls (reached next.front next.spoken) (reached new.front new.spoken)) (λ i. (face i, bytes_given (index i))) rest.answered in
    record {
      front = (rest.front.0 ∙ face, rest.front.1 ∙ index);
      answered = call_answered c calls old next (reached new.front new.spoken) h.1 moved;
    }

pub front_kept : {R : Type 0} (old new : Remembering R) (calls : List Call) → Chain ServiceAnswers old calls new → (new.front.face ≡ old.front.face) × (new.front.index ≡ old.front.index)
front_kept old new calls h = (calls_answered old new calls h).front

-- the calls of a connection
pub goes_by : {R : Type 0} (old new : Remembering R) (before after : Connection) → Calls ServiceAnswers old new (history before).calls (history after).calls
    → GoesOn old.front.face (bytes_given old.front.index) (reached old.front old.spoken) (reached new.front new.spoken)
goes_by old new before after h =
    let kept = (calls_answered old new h.0 h.2).answered in
    let visit : Visit = record { before = before; after = after; calls = h.0; added = h.1 } in
    record { visits = visit ∷ []; answers = kept.answers; shown = kept.shown ∙ sym (append-nil h.0); answered = kept.answered; given = kept.given; repeated = kept.repeated }

pub goes_nowhere : (face : Face) (index : Option (List ℕ)) (s : Reached) → GoesOn face index s s
goes_nowhere face index s = record { visits = []; answers = []; shown = refl; answered = refl; given = λ e m. inl m; repeated = sym (append-nil s.repeated) }

calls_append : (vs ws : List Visit) → calls_in (vs ++ ws) ≡ calls_in vs ++ calls_in ws
calls_append [] ws = refl
calls_append (v ∷ vs) ws = ap (λ l. v.calls ++ l) (calls_append vs ws) ∙ sym (append_assoc v.calls (calls_in vs) (calls_in ws))

pub goes_on : (face : Face) (index : Option (List ℕ)) (a b c : Reached) → GoesOn face index a b → GoesOn face index b c → GoesOn face index a c
goes_on face index a b c h k =
    let one = h.shown in
    let two = k.shown in
    record {
      visits = h.visits ++ k.visits;
      answers = h.answers ++ k.answers;
      shown = map-append call_of h.answers k.answers ∙ (λ i. one i ++ two i) ∙ sym (calls_append h.visits k.visits);
      answered = answered_on face index h.answers k.answers a.producer b.producer c.producer h.answered k.answered;
      given = λ e m. ⊎_elim (λ l. ⊎_elim (λ o. inl o) (λ w. inr (settled_left h.answers k.answers e w)) (h.given e l)) (λ w. inr (settled_right h.answers k.answers e w)) (k.given e m);
      repeated =
          k.repeated ∙ ap (λ l. l ++ repeats_of k.answers) h.repeated ∙ append_assoc a.repeated (repeats_of h.answers) (repeats_of k.answers)
          ∙ ap (λ l. a.repeated ++ l) (sym (repeats_append h.answers k.answers));
    }

-- from where the front has the same face and the same index
pub goes_on_as : (face other : Face) (index text : Option (List ℕ)) (a b c : Reached) → other ≡ face → text ≡ index → GoesOn face index a b → GoesOn other text b c → GoesOn face index a c
goes_on_as face other index text a b c f t h k = goes_on face index a b c h (subst (λ (x : Face × Option (List ℕ)). GoesOn x.0 x.1 b c) (λ i. (f i, t i)) k)

-- from where nothing was given to the memory and nothing answered from it
pub served_begun : {R I : Type 0} (first front : Fronts R I) (spoken : Spoken) (last : Reached) → first ≡ front → spoken.given.items ≡ [] → spoken.repeated.items ≡ [] → GoesOn first.face (bytes_given first.index) (reached first spoken) last
    → GoesOn front.face (bytes_given front.index) (begun front.relay.settler.producer) last
served_begun first front spoken last is none nothing h =
    subst (λ (x : Face × Option (List ℕ) × Reached). GoesOn x.0 x.1 x.2 last)
    (λ i. ((is i).face, bytes_given (is i).index, (let r : Reached = record { producer = (is i).relay.settler.producer; given = none i; repeated = nothing i } in r))) h

pub served_identity : (face : Face) (index : Option (List ℕ)) (a b : Reached) → GoesOn face index a b → identity_of b.producer.producer ≡ identity_of a.producer.producer
served_identity face index a b h = same_identity (requests_of h.answers) a.producer b.producer (settled_of face index h.answers a.producer b.producer h.answered)

pub served_took : (face : Face) (index : Option (List ℕ)) (a b : Reached) (h : GoesOn face index a b) → b.producer.receipts ≡ record a.producer.receipts { taken = a.producer.receipts.taken ++ taken_by (requests_of h.answers) }
served_took face index a b h = settled_took (requests_of h.answers) a.producer b.producer (settled_of face index h.answers a.producer b.producer h.answered)

-- ---- what was put

pub named_append : (e p n : ℕ) (a b : List Write) → named_ops e p n (a ++ b) ≡ named_ops e p n a ++ named_ops e p (n + length a) b
named_append e p n [] b = ap (λ m. named_ops e p m b) (sym (add-zero n))
named_append e p n (w ∷ a) b =
    let here : Op = record { epoch = e; producer = p; number = n; key = w.0; action = w.1 } in
    let more : (n + 1) + length a ≡ n + suc (length a) = omega arith in
    ap (λ l. here ∷ l) (named_append e p (n + 1) a b ∙ ap (λ m. named_ops e p (n + 1) a ++ named_ops e p m b) more)

-- nothing besides was put
record PutsSame (fed after : ProducerState) : Type 0 where
  pub put : after.put ≡ fed.put
  pub ends : open_puts after.ends ≡ open_puts fed.ends

same_puts : (fed after : ProducerState) → after ≡ fed → PutsSame fed after
same_puts fed after is = record { put = ap (λ (s : ProducerState). s.put) is; ends = ap (λ (s : ProducerState). open_puts s.ends) is }

unput_same : (old : WindowState Ending) (es : List Event) (others : List Write) (ends : List End) (new : ProducerState) → AreUnput old es others ends new → PutsSame (after_puts old.producer (puts_in es)) new
unput_same old es [] ends new h = same_puts _ new h.1
unput_same old es (w ∷ ws) ends new (inl h) = same_puts _ new h.2
unput_same old es (w ∷ ws) ends new (inr (inl h)) =
    let fed = after_puts old.producer (puts_in es) in
    record {
      put = ap (λ (s : ProducerState). s.put) h.1;
      ends = ap (λ (s : ProducerState). open_puts s.ends) h.1 ∙ same_marked (lane_for w.0 fed) fed.ends;
    }
unput_same old es (w ∷ ws) ends new (inr (inr h)) = same_puts _ new h.2

pub settle_count : (old new : WindowState Ending) (ws : List Write) (ends : List End) (h : Settles old ws ends new) → new.producer.put ≡ old.producer.put + length (puts_in h.events)
settle_count old new ws ends h =
    (unput_same old h.events h.others h.unput new.producer h.why).put ∙ puts_count old.producer (puts_in h.events)

-- what was put for one request is added
record PutsMore (e p : ℕ) (old new : WindowState Ending) (done : List Op) (ws : List Write) : Type 0 where
  pub count : new.producer.put ≡ old.producer.put + length ws
  pub puts : HasPut p new.producer.put (open_puts new.producer.ends) (done ++ named_ops e p (old.producer.put + 1) ws)

settle_put : (e p : ℕ) (old new : WindowState Ending) (ws : List Write) (ends : List End) (done : List Op) (h : Settles old ws ends new) → old.producer.epoch ≡ e → old.producer.producer ≡ p
    → HasPut p old.producer.put (open_puts old.producer.ends) done → PutsMore e p old new done (puts_in h.events)
settle_put e p old new ws ends done h epoch producer puts =
    let fed = after_puts old.producer (puts_in h.events) in
    let same = unput_same old h.events h.others h.unput new.producer h.why in
    let all = put_on old.producer done (puts_in h.events) (subst (λ q. HasPut q old.producer.put (open_puts old.producer.ends) done) (sym producer) puts) in
    let P : ℕ × ℕ × ℕ × List SenderEnd → Type 0 = λ x. HasPut x.1 x.2 x.3 (done ++ named_ops x.0 x.1 (old.producer.put + 1) (puts_in h.events)) in
    record {
      count = same.put ∙ puts_count old.producer (puts_in h.events);
      puts = subst P (λ i. (epoch i, producer i, sym same.put i, sym same.ends i)) all;
    }

settled_put : (e p : ℕ) (rs : List Request) (old new : WindowState Ending) (done : List Op) → old.producer.epoch ≡ e → old.producer.producer ≡ p → AreSettled rs old new
    → HasPut p old.producer.put (open_puts old.producer.ends) done → HasPut p new.producer.put (open_puts new.producer.ends) (done ++ named_ops e p (old.producer.put + 1) (all_put rs))
settled_put e p [] old new done epoch producer h puts =
    subst (λ (s : WindowState Ending). HasPut p s.producer.put (open_puts s.producer.ends) (done ++ [])) (sym h)
    (subst (HasPut p old.producer.put (open_puts old.producer.ends)) (sym (append-nil done)) puts)
settled_put e p (r ∷ rs) old new done epoch producer h puts =
    let mid = h.0 in
    let more = settle_put e p old mid r.writes r.ends done h.1 epoch producer puts in
    let ws = puts_in h.1.events in
    let first = named_ops e p (old.producer.put + 1) ws in
    let rest = settled_put e p rs mid new (done ++ first) (h.1.stays.epoch ∙ epoch) (h.1.stays.producer ∙ producer) h.4 more.puts in
    let next : mid.producer.put + 1 ≡ (old.producer.put + 1) + length ws = omega (arith, more.count) in
    let all : (done ++ first) ++ named_ops e p (mid.producer.put + 1) (all_put rs) ≡ done ++ named_ops e p (old.producer.put + 1) (all_put (r ∷ rs)) =
    append_assoc done first (named_ops e p (mid.producer.put + 1) (all_put rs))
    ∙ ap (λ m. done ++ (first ++ named_ops e p m (all_put rs))) next
    ∙ ap (λ l. done ++ l) (sym (named_append e p (old.producer.put + 1) ws (all_put rs)))
    ∙ ap (λ l. done ++ named_ops e p (old.producer.put + 1) (l ++ all_put rs)) h.2 in
    subst (HasPut p new.producer.put (open_puts new.producer.ends)) all rest

-- ---- one worker

closed_put : (queues : List Queue) (epoch p : ℕ) (g : Given) (c : ClosedProducerState) (t : TakeEnd Ending) (z : Spoken) → g.producer.producer ≡ new_producer queues epoch p → (h : HasServed g c t z)
    → HasPut p c.put (closed_puts c.ends) (named_ops epoch p 1 (all_put (requests_of h.served.answers)))
closed_put queues epoch p g c t z is h =
    let start = g.producer in
    let last = h.last.producer in
    let requests = requests_of h.served.answers in
    let none : HasPut p start.producer.put (open_puts start.producer.ends) [] =
    subst (λ (s : ProducerState). HasPut p s.put (open_puts s.ends) []) (sym is) (new_none queues epoch p) in
    let all = settled_put epoch p requests start last [] (ap (λ (s : ProducerState). s.epoch) is) (ap (λ (s : ProducerState). s.producer) is) (settled_of g.face g.index h.served.answers start last h.served.answered) none in
    let first : start.producer.put + 1 ≡ 1 = ap (λ (s : ProducerState). s.put + 1) is in
    let kept = put_kept p last.producer.put last.producer.ends c.ends (named_ops epoch p (start.producer.put + 1) (all_put requests)) h.closes all in
    subst (λ (x : ℕ × ℕ). HasPut p x.0 (closed_puts c.ends) (named_ops epoch p x.1 (all_put requests))) (λ i. (sym h.same.1 i, first i)) kept

-- ---- all of them

-- the same with the connections and the calls of each in lists
abbrev pub AnsweredAs : Face → Option (List ℕ) → List Queue → ℕ → ℕ → List (List Visit) → List (List Answering) → Type 0
AnsweredAs face index queues epoch p [] [] = Unit {0}
AnsweredAs face index queues epoch p [] (xs ∷ more) = ⊥
AnsweredAs face index queues epoch p (vs ∷ all) [] = ⊥
AnsweredAs face index queues epoch p (vs ∷ all) (xs ∷ more) =
    ((start : WindowState Ending) × (last : WindowState Ending) × (start.producer ≡ new_producer queues epoch p) × (map call_of xs ≡ calls_in vs) × AreAnswered face index xs start last)
    × AnsweredAs face index queues epoch (p + 1) all more

-- from each worker's end of its channel the notices were taken that were taken for these requests
abbrev pub HaveTaken : List (List Request) → List (WindowState Ending) → List (TakeEnd Ending) → Type 0
HaveTaken [] [] [] = Unit {0}
HaveTaken [] [] (t ∷ ts) = ⊥
HaveTaken [] (w ∷ ws) ts = ⊥
HaveTaken (rs ∷ all) [] ts = ⊥
HaveTaken (rs ∷ all) (w ∷ ws) [] = ⊥
HaveTaken (rs ∷ all) (w ∷ ws) (t ∷ ts) = (t ≡ record w.receipts { taken = w.receipts.taken ++ taken_by rs }) × HaveTaken all ws ts

-- what was put for the calls of a worker
abbrev pub put_for : List Answering → List Write
put_for xs = all_put (requests_of xs)

-- it told what it gave to the memory, which was settled for these calls, and what it answered from it
pub record Speaks (xs : List Answering) (s : Spoken) : Type 0 where
  pub given : (e : Entry) → Mem e s.given.items → WasSettled xs e
  pub repeated : s.repeated.items ≡ repeats_of xs

abbrev pub HaveSpoken : List (List Answering) → List Spoken → Type 0
HaveSpoken [] [] = Unit {0}
HaveSpoken [] (s ∷ ss) = ⊥
HaveSpoken (xs ∷ all) [] = ⊥
HaveSpoken (xs ∷ all) (s ∷ ss) = Speaks xs s × HaveSpoken all ss

has_spoken : (g : Given) (c : ClosedProducerState) (t : TakeEnd Ending) (s : Spoken) (h : HasServed g c t s) → Speaks h.served.answers s
has_spoken g c t s h = record {
  given = λ e m. ⊎_elim (λ n. absurd n) (λ w. w) (h.served.given e (subst (Mem e) h.says.0 m));
  repeated = h.says.1 ∙ h.served.repeated;
}

pub record AllServed (face : Face) (index : Option (List ℕ)) (queues : List Queue) (epoch p : ℕ) (ws : List (WindowState Ending)) (cs : List ClosedProducerState) (ts : List (TakeEnd Ending)) (ss : List Spoken) : Type 0 where
  pub visits : List (List Visit)
  pub answers : List (List Answering)
  pub count : length answers ≡ length ws
  pub answered : AnsweredAs face index queues epoch p visits answers
  pub put : HavePutAs epoch p (map put_for answers) cs
  pub took : HaveTaken (map requests_of answers) ws ts
  pub spoken : HaveSpoken answers ss
  pub identities : map identity_of_closed cs ≡ map (λ w. identity_of (producer_in w)) ws

pub all_served : (face : Face) (index : Option (List ℕ)) (queues : List Queue) (epoch p : ℕ) (ws : List (WindowState Ending)) (cs : List ClosedProducerState) (ts : List (TakeEnd Ending)) (ss : List Spoken) → AreNew queues epoch p (map producer_in ws) → HaveServed (map (given_by face index) ws) cs ts ss
    → AllServed face index queues epoch p ws cs ts ss
all_served face index queues epoch p [] [] [] [] new h = record { visits = []; answers = []; count = refl; answered = tt; put = tt; took = tt; spoken = tt; identities = refl }
all_served face index queues epoch p [] [] [] (s ∷ ss) new h = absurd h
all_served face index queues epoch p [] [] (t ∷ ts) ss new h = absurd h
all_served face index queues epoch p [] (c ∷ cs) ts ss new h = absurd h
all_served face index queues epoch p (w ∷ ws) [] ts ss new h = absurd h
all_served face index queues epoch p (w ∷ ws) (c ∷ cs) [] ss new h = absurd h
all_served face index queues epoch p (w ∷ ws) (c ∷ cs) (t ∷ ts) [] new h = absurd h
all_served face index queues epoch p (w ∷ ws) (c ∷ cs) (t ∷ ts) (s ∷ ss) new h =
    let r = all_served face index queues epoch (p + 1) ws cs ts ss new.1 h.1 in
    let own = h.0.served in
    let same = h.0.identity in
    let others = r.identities in
    record {
      visits = own.visits ∷ r.visits;
      answers = own.answers ∷ r.answers;
      count = ap suc r.count;
      answered = ((w, h.0.last.producer, new.0, own.shown, own.answered), r.answered);
      put = (closed_put queues epoch p (given_by face index w) c t s new.0 h.0, r.put);
      took = (h.0.took, r.took);
      spoken = (has_spoken (given_by face index w) c t s h.0, r.spoken);
      identities = λ i. same i ∷ others i;
    }

-- ---- what was answered from the memory

repeats_mem : (xs : List Answering) (c : Call) → Mem (Repeated c) xs → Mem (entry_of c.0 c.1) (repeats_of xs)
repeats_mem [] c m = absurd m
repeats_mem (Plain d ∷ xs) c (inl e) = absurd (cc)
repeats_mem (Plain d ∷ xs) c (inr m) = repeats_mem xs c m
repeats_mem (Settling d r ∷ xs) c (inl e) = absurd (cc)
repeats_mem (Settling d r ∷ xs) c (inr m) = repeats_mem xs c m
repeats_mem (Repeated d ∷ xs) c (inl e) = inl (ap (λ x. entry_of (call_of x).0 (call_of x).1) e)
repeats_mem (Repeated d ∷ xs) c (inr m) = inr (repeats_mem xs c m)

-- the worker at this place answered this call from the memory
record RepeatedAt (ss : List Spoken) (e : Entry) : Type 0 where
  pub one : Spoken
  pub is_one : Mem one ss
  pub has : Mem e one.repeated.items

repeated_at : (all : List (List Answering)) (ss : List Spoken) → HaveSpoken all ss → (p : ℕ) → p < length all → (c : Call) → Mem (Repeated c) (get_or all p []) → RepeatedAt ss (entry_of c.0 c.1)
repeated_at [] ss h p lt c m = absurd (omega (arith, lt))
repeated_at (xs ∷ all) [] h p lt c m = absurd h
repeated_at (xs ∷ all) (s ∷ ss) h zero lt c m = record { one = s; is_one = inl refl; has = subst (Mem (entry_of c.0 c.1)) (sym h.0.repeated) (repeats_mem xs c m) }
repeated_at (xs ∷ all) (s ∷ ss) h (suc p) lt c m =
    let r = repeated_at all ss h.1 p (omega (arith, lt)) c m in
    record { one = r.one; is_one = inr r.is_one; has = r.has }

-- one of the workers settled what was given
record SettledAt (all : List (List Answering)) (e : Entry) : Type 0 where
  pub worker : ℕ
  pub within : worker < length all
  pub settled : WasSettled (get_or all worker []) e

settled_at : (all : List (List Answering)) (ss : List Spoken) → HaveSpoken all ss → (one : Spoken) → Mem one ss → (e : Entry) → Mem e one.given.items → SettledAt all e
settled_at [] [] h one is e m = absurd is
settled_at [] (s ∷ ss) h one is e m = absurd h
settled_at (xs ∷ all) [] h one is e m = absurd h
settled_at (xs ∷ all) (s ∷ ss) h one (inl is) e m = record { worker = 0; within = omega arith; settled = h.0.given e (subst (λ (x : Spoken). Mem e x.given.items) is m) }
settled_at (xs ∷ all) (s ∷ ss) h one (inr is) e m =
    let r = settled_at all ss h.1 one is e m in
    record { worker = suc r.worker; within = omega (arith, r.within); settled = r.settled }

are_remembered : (all : List (List Answering)) (ss : List Spoken) → HaveSpoken all ss → AllGiven ss → AreRemembered (length all) (λ k. get_or all k [])
are_remembered all ss h given p lt c m =
    let e = entry_of c.0 c.1 in
    let at = repeated_at all ss h p lt c m in
    let from = given at.one at.is_one e at.has in
    let r = settled_at all ss h from.0 from.1 e from.2 in
    record {
      worker = r.worker;
      within = r.within;
      first = r.settled.0;
      request = r.settled.1;
      settled = r.settled.2;
      asked = ap (λ (x : Entry). x.asked) r.settled.3;
      status = ap (λ (x : Entry). x.status) r.settled.3;
      text = ap (λ (x : Entry). x.text) r.settled.3;
    }

answered_at : (face : Face) (index : Option (List ℕ)) (queues : List Queue) (epoch lanes p : ℕ) (visits : ℕ → List Visit) (answers : ℕ → List Answering) (vs : List (List Visit)) (rs : List (List Answering)) (ws : List (WindowState Ending)) (ts : List (TakeEnd Ending)) (channels : List (Channel Ending))
    → ((k : ℕ) → visits (p + k) ≡ get_or vs k []) → ((k : ℕ) → answers (p + k) ≡ get_or rs k []) → AnsweredAs face index queues epoch p vs rs → HaveTaken (map requests_of rs) ws ts → map receipts_in ws ≡ map (new_take lanes) channels
    → WorkersAnswered face index queues epoch visits answers p ts
answered_at face index queues epoch lanes p visits answers [] [] [] [] channels e f h took new = tt
answered_at face index queues epoch lanes p visits answers [] [] [] (t ∷ ts) channels e f h took new = absurd took
answered_at face index queues epoch lanes p visits answers [] [] (w ∷ ws) ts channels e f h took new = absurd took
answered_at face index queues epoch lanes p visits answers [] (r ∷ rs) ws ts channels e f h took new = absurd h
answered_at face index queues epoch lanes p visits answers (v ∷ vs) [] ws ts channels e f h took new = absurd h
answered_at face index queues epoch lanes p visits answers (v ∷ vs) (r ∷ rs) [] ts channels e f h took new = absurd took
answered_at face index queues epoch lanes p visits answers (v ∷ vs) (r ∷ rs) (w ∷ ws) [] channels e f h took new = absurd took
answered_at face index queues epoch lanes p visits answers (v ∷ vs) (r ∷ rs) (w ∷ ws) (t ∷ ts) [] e f h took new = absurd (let n : suc (length (map receipts_in ws)) ≡ 0 = ap length new in omega (arith, n))
answered_at face index queues epoch lanes p visits answers (v ∷ vs) (r ∷ rs) (w ∷ ws) (t ∷ ts) (c ∷ channels) e f h took new =
    let at : p ≡ p + 0 = omega arith in
    let seen : visits p ≡ v = ap visits at ∙ e 0 in
    let here : answers p ≡ r = ap answers at ∙ f 0 in
    let own : w.receipts ≡ new_take lanes c = cc in
    let others : map receipts_in ws ≡ map (new_take lanes) channels = cc in (
      record {
        start = h.0.0;
        last = h.0.1;
        new = h.0.2;
        shown = ap (map call_of) here ∙ h.0.3 ∙ sym (ap calls_in seen);
        answered = subst (λ x. AreAnswered face index x h.0.0 h.0.1) (sym here) h.0.4;
        took = ap (λ (x : TakeEnd Ending). x.taken) took.0 ∙ ap (λ (x : TakeEnd Ending). x.taken ++ taken_by (requests_of r)) own ∙ ap (λ x. taken_by (requests_of x)) (sym here);
      },
      answered_at face index queues epoch lanes (p + 1) visits answers vs rs ws ts channels (λ k. ap visits (let z : p + 1 + k ≡ p + suc k = omega arith in z) ∙ e (suc k)) (λ k. ap answers (let z : p + 1 + k ≡ p + suc k = omega arith in z) ∙ f (suc k)) h.1 took.1 others,
    )

workers_settled : (face : Face) (index : Option (List ℕ)) (queues : List Queue) (epoch : ℕ) (visits : ℕ → List Visit) (answers : ℕ → List Answering) (p : ℕ) (ts : List (TakeEnd Ending)) → WorkersAnswered face index queues epoch visits answers p ts → WorkersSettled queues epoch (λ q. requests_of (answers q)) p ts
workers_settled face index queues epoch visits answers p [] h = tt
workers_settled face index queues epoch visits answers p (t ∷ ts) h = (
  record { start = h.0.start; last = h.0.last; new = h.0.new; settled = settled_of face index (answers p) h.0.start h.0.last h.0.answered; took = h.0.took },
  workers_settled face index queues epoch visits answers (p + 1) ts h.1,
)

-- each of these ends is of a channel that so many lanes tell on
abbrev pub AllOfLanes : ℕ → List (TakeEnd Ending) → Type 0
AllOfLanes lanes [] = Unit {0}
AllOfLanes lanes (t ∷ ts) = (t.lanes ≡ lanes) × AllOfLanes lanes ts

-- the ends of workers, as many as there are
record TakenOf (lanes : ℕ) (rs : List (List Request)) (ts : List (TakeEnd Ending)) : Type 0 where
  pub count : length ts ≡ length rs
  pub of_lanes : AllOfLanes lanes ts

taken_of_all : (lanes : ℕ) (rs : List (List Request)) (ws : List (WindowState Ending)) (ts : List (TakeEnd Ending)) (channels : List (Channel Ending)) → HaveTaken rs ws ts → map receipts_in ws ≡ map (new_take lanes) channels → TakenOf lanes rs ts
taken_of_all lanes [] [] [] channels took new = record { count = refl; of_lanes = tt }
taken_of_all lanes [] [] (t ∷ ts) channels took new = absurd took
taken_of_all lanes [] (w ∷ ws) ts channels took new = absurd took
taken_of_all lanes (r ∷ rs) [] ts channels took new = absurd took
taken_of_all lanes (r ∷ rs) (w ∷ ws) [] channels took new = absurd took
taken_of_all lanes (r ∷ rs) (w ∷ ws) (t ∷ ts) [] took new = absurd (let n : suc (length (map receipts_in ws)) ≡ 0 = ap length new in omega (arith, n))
taken_of_all lanes (r ∷ rs) (w ∷ ws) (t ∷ ts) (c ∷ channels) took new =
    let own : w.receipts ≡ new_take lanes c = cc in
    let others : map receipts_in ws ≡ map (new_take lanes) channels = cc in
    let rest = taken_of_all lanes rs ws ts channels took.1 others in
    record { count = ap suc rest.count; of_lanes = (ap (λ (x : TakeEnd Ending). x.lanes) took.0 ∙ ap (λ (x : TakeEnd Ending). x.lanes) own, rest.of_lanes) }

put_of : (rs : List (List Answering)) (k : ℕ) → put_for (get_or rs k []) ≡ get_or (map put_for rs) k []
put_of [] zero = refl
put_of [] (suc k) = refl
put_of (r ∷ rs) zero = refl
put_of (r ∷ rs) (suc k) = put_of rs k

-- each returns its end of the channel that it was given
pub served_channels : (face : Face) (index : Option (List ℕ)) (ws : List (WindowState Ending)) (cs : List ClosedProducerState) (ts : List (TakeEnd Ending)) (ss : List Spoken) → HaveServed (map (given_by face index) ws) cs ts ss → channels_of ts ≡ map channel_in ws
served_channels face index [] [] [] ss h = refl
served_channels face index [] [] (t ∷ ts) ss h = absurd h
served_channels face index [] (c ∷ cs) ts ss h = absurd h
served_channels face index (w ∷ ws) [] ts ss h = absurd h
served_channels face index (w ∷ ws) (c ∷ cs) [] ss h = absurd h
served_channels face index (w ∷ ws) (c ∷ cs) (t ∷ ts) [] h = absurd h
served_channels face index (w ∷ ws) (c ∷ cs) (t ∷ ts) (s ∷ ss) h =
    let same : t.channel ≡ channel_in w = ap (λ (x : TakeEnd Ending). x.channel) h.0.took in
    let rest = served_channels face index ws cs ts ss h.1 in
    λ i. same i ∷ rest i

-- the worker with this number, at this place: the requests that it settled, and what it took for them
pub record WorkerAt (queues : List Queue) (epoch p place lanes : ℕ) (rs : List Request) (takes : List (TakeEnd Ending)) : Type 0 where
  pub start : WindowState Ending
  pub last : WindowState Ending
  pub new : start.producer ≡ new_producer queues epoch p
  pub settled : AreSettled rs start last
  pub take : TakeEnd Ending
  pub at : slice_get takes place ≡ Some take
  pub took : take.taken ≡ taken_by rs
  pub lanes_are : take.lanes ≡ lanes
  pub well : IsWellTaken take.lanes take.taken

pub worker_at : (queues : List Queue) (epoch b lanes : ℕ) (all : ℕ → List Request) (ts : List (TakeEnd Ending)) → WorkersSettled queues epoch all b ts → AllOfLanes lanes ts → AllWellTaken ts → (p k : ℕ) → p ≡ b + k → k < length ts
    → WorkerAt queues epoch p k lanes (all p) ts
worker_at queues epoch b lanes all [] settled of_lanes well p k is lt = absurd (omega (arith, lt))
worker_at queues epoch b lanes all (t ∷ ts) settled of_lanes well p zero is lt =
    let s = settled.0 in
    let number : b ≡ p = omega (arith, is) in
    record {
      start = s.start;
      last = s.last;
      new = s.new ∙ ap (new_producer queues epoch) number;
      settled = subst (λ n. AreSettled (all n) s.start s.last) number s.settled;
      take = t;
      at = refl;
      took = s.took ∙ ap (λ n. taken_by (all n)) number;
      lanes_are = of_lanes.0;
      well = well.0;
    }
worker_at queues epoch b lanes all (t ∷ ts) settled of_lanes well p (suc k) is lt =
    let r = worker_at queues epoch (b + 1) lanes all ts settled.1 of_lanes.1 well.1 p k (omega (arith, is)) (omega (arith, lt)) in
    record { start = r.start; last = r.last; new = r.new; settled = r.settled; take = r.take; at = r.at; took = r.took; lanes_are = r.lanes_are; well = r.well }

-- what is said of them
pub record AnsweredAndPut (face : Face) (index : Option (List ℕ)) (queues : List Queue) (epoch count lanes : ℕ) (cs : List ClosedProducerState) (ts : List (TakeEnd Ending)) : Type 0 where
  pub visits : ℕ → List Visit
  pub answers : ℕ → List Answering
  pub answered : WorkersAnswered face index queues epoch visits answers 0 ts
  pub remembered : AreRemembered count answers
  pub settled : WorkersSettled queues epoch (λ p. requests_of (answers p)) 0 ts
  pub put : HavePut (λ p. named_ops epoch p 1 (put_for (answers p))) 0 cs
  pub count_is : length ts ≡ count
  pub of_lanes : AllOfLanes lanes ts
  pub well : AllWellTaken ts

pub answered_and_put : (face : Face) (index : Option (List ℕ)) (queues : List Queue) (epoch count lanes : ℕ) (ws : List (WindowState Ending)) (cs : List ClosedProducerState) (ts : List (TakeEnd Ending)) (ss : List Spoken) (channels : List (Channel Ending))
    → count ≡ length ws → AllServed face index queues epoch 0 ws cs ts ss → map receipts_in ws ≡ map (new_take lanes) channels → AllWellTaken ts → AllGiven ss → AnsweredAndPut face index queues epoch count lanes cs ts
answered_and_put face index queues epoch count lanes ws cs ts ss channels n h new well given =
    let seen : ℕ → List Visit = λ k. get_or h.visits k [] in
    let all : ℕ → List Answering = λ k. get_or h.answers k [] in
    let none : (k : ℕ) → 0 + k ≡ k = λ k. omega arith in
    let took = taken_of_all lanes (map requests_of h.answers) ws ts channels h.took new in
    let answered = answered_at face index queues epoch lanes 0 seen all h.visits h.answers ws ts channels (λ k. ap seen (none k)) (λ k. ap all (none k)) h.answered h.took new in
    record {
      visits = seen;
      answers = all;
      answered = answered;
      remembered = subst (λ k. AreRemembered k all) (h.count ∙ sym n) (are_remembered h.answers ss h.spoken given);
      settled = workers_settled face index queues epoch seen all 0 ts answered;
      put = put_at epoch 0 (λ k. put_for (all k)) (map put_for h.answers) cs (λ k. ap (λ m. put_for (all m)) (none k) ∙ put_of h.answers k) h.put;
      count_is = took.count ∙ length-map h.answers requests_of ∙ h.count ∙ sym n;
      of_lanes = took.of_lanes;
      well = well;
    }

-- ---- one thread after another

-- the threads of workers
abbrev pub Threads : Type 0
Threads = List (PromisedHandle (ClosedProducerState × TakeEnd Ending × Spoken) WorkerPromise)

served_more : (ws : List Given) (cs : List ClosedProducerState) (ts : List (TakeEnd Ending)) (ss : List Spoken) (w : Given) (c : ClosedProducerState) (t : TakeEnd Ending) (s : Spoken) → HaveServed ws cs ts ss → HasServed w c t s
    → HaveServed (ws ++ w ∷ []) (cs ++ c ∷ []) (ts ++ t ∷ []) (ss ++ s ∷ [])
served_more [] [] [] [] w c t s h k = (k, tt)
served_more [] [] [] (z ∷ ss) w c t s h k = absurd h
served_more [] [] (z ∷ ts) ss w c t s h k = absurd h
served_more [] (y ∷ cs) ts ss w c t s h k = absurd h
served_more (x ∷ ws) [] ts ss w c t s h k = absurd h
served_more (x ∷ ws) (y ∷ cs) [] ss w c t s h k = absurd h
served_more (x ∷ ws) (y ∷ cs) (z ∷ ts) [] w c t s h k = absurd h
served_more (x ∷ ws) (y ∷ cs) (z ∷ ts) (v ∷ ss) w c t s h k = (h.0, served_more ws cs ts ss w c t s h.1 k)

-- what workers leave, as lists
abbrev pub AllLeft : Type 0
AllLeft = List ClosedProducerState × List (TakeEnd Ending) × List Spoken

-- the first of these threads have ended, and the others are left
pub record JoinsServed (hs others : Threads) (cs : List ClosedProducerState) (ts : List (TakeEnd Ending)) (ss : List Spoken) : Type 0 where
  pub joined : Threads
  pub all : hs ≡ joined ++ others
  pub served : HaveServed (map given_to joined) cs ts ss

pub joins_none : (hs : Threads) (cs : List ClosedProducerState) (ts : List (TakeEnd Ending)) (ss : List Spoken) → cs ≡ [] → ts ≡ [] → ss ≡ [] → JoinsServed hs hs cs ts ss
joins_none hs cs ts ss no_cs no_ts no_ss = record {
  joined = [];
  all = refl;
  served = subst (λ (x : AllLeft). HaveServed [] x.0 x.1 x.2) (λ i. (sym no_cs i, sym no_ts i, sym no_ss i)) tt;
}

pub joins_on : (hs others later : Threads) (cs new_cs : List ClosedProducerState) (ts new_ts : List (TakeEnd Ending)) (ss new_ss : List Spoken) (h : PromisedHandle (ClosedProducerState × TakeEnd Ending × Spoken) WorkerPromise) (c : ClosedProducerState) (t : TakeEnd Ending) (s : Spoken)
    → JoinsServed hs others cs ts ss → others ≡ h ∷ later → HasServed (given_to h) c t s → new_cs ≡ cs ++ c ∷ [] → new_ts ≡ ts ++ t ∷ [] → new_ss ≡ ss ++ s ∷ [] → JoinsServed hs later new_cs new_ts new_ss
joins_on hs others later cs new_cs ts new_ts ss new_ss h c t s j is k more_cs more_ts more_ss = record {
  joined = j.joined ++ h ∷ [];
  all = j.all ∙ ap (λ l. j.joined ++ l) is ∙ sym (append_assoc j.joined (h ∷ []) later);
  served =
      subst (λ (x : List Given × AllLeft). HaveServed x.0 x.1.0 x.1.1 x.1.2) (λ i. (sym (map-append given_to j.joined (h ∷ [])) i, (sym more_cs i, sym more_ts i, sym more_ss i)))
      (served_more (map given_to j.joined) cs ts ss (given_to h) c t s j.served k);
}

pub joins_all : (hs others : Threads) (cs : List ClosedProducerState) (ts : List (TakeEnd Ending)) (ss : List Spoken) → JoinsServed hs others cs ts ss → others ≡ [] → HaveServed (map given_to hs) cs ts ss
joins_all hs others cs ts ss j none = subst (λ l. HaveServed (map given_to l) cs ts ss) (sym (j.all ∙ ap (λ l. j.joined ++ l) none ∙ append-nil j.joined)) j.served
