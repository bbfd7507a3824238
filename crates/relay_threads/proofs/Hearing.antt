-- What a lane heard, message by message.
use Rattle.std.proofs.Common.{◌≡◌, ◌≢◌, ℕ, ◌<◌, Bool, true, false, eqb, List, [], ◌∷◌, ◌++◌, length, set, get_or, replicate, zero, suc, sym, refl, ap, ◌∙◌, subst, ⊎_elim, inl, inr, arith, append_assoc, get_or-set_other, get_or-set_same, append-nil, length-set}
use Rattle.std.specs.Prelude.{Some, None, unwrap_or, ◌⊎◌, if◌then◌else◌}
use Rattle.std.specs.List.{list_all}
use Rattle.std.proofs.lemmas.Bool.Decides.{eqb_tells}
use Rattle.relay_action.specs.declared.mail.Mail.{Mail}
use Rattle.relay_action.specs.declared.mail.Body.{Body}
use Rattle.relay_action.specs.declared.mail.Body.TheVariants as body
use Rattle.relay_results.proofs.Lists.{and_left, and_right}
use Rattle.relay_queue.specs.Messages.{mail_of, IsDone, HasDone, IsWellSent, IsWellTaken}
use Rattle.relay_queue.proofs.Mails.{mail_of-append, mail_of-own, mail_of-other, done-push, nothing_after}
use Rattle.relay_core.specs.declared.settled.TakeFault.{TakeFault}
use Rattle.relay_core.specs.declared.settled.TakeFault.TheVariants.{AfterClose, HeldFull, Memory}
use Rattle.relay_core.specs.State.{State, after_take, take_fault, is_full}
use Rattle.relay_core.specs.Ties.{ops_of}
use Rattle.relay_threads.specs.declared.lane_end.LaneEndKind.{LaneEndKind}
use Rattle.relay_threads.specs.Course.{puts_of, KnowsClosed, KnowsOpen, OneIsOpen, HasHeard}

-- ---- operations

pub puts_push : (ms : List Mail) (m : Mail) → puts_of (ms ++ m ∷ []) ≡ puts_of ms ++ ops_of m.body
puts_push [] m = append-nil (ops_of m.body)
puts_push (x ∷ xs) m = ap (λ l. ops_of x.body ++ l) (puts_push xs m) ∙ sym (append_assoc (ops_of x.body) (puts_of xs) (ops_of m.body))

-- a tick adds none
pub puts_tick : (ms : List Mail) (m : Mail) → m.body ≡ body.Tick → puts_of (ms ++ m ∷ []) ≡ puts_of ms
puts_tick ms m e = puts_push ms m ∙ ap (λ b. puts_of ms ++ ops_of b) e ∙ append-nil (puts_of ms)

-- ---- who has closed

done-append : (a b : List Mail) → HasDone a → HasDone (a ++ b)
done-append [] b h = absurd h
done-append (m ∷ ms) b h = ⊎_elim (λ (d : IsDone m). inl d) (λ (d : HasDone ms). inr (done-append ms b d)) h

pub done_more : (p : ℕ) (a b : List Mail) → HasDone (mail_of p a) → HasDone (mail_of p (a ++ b))
done_more p a b h = subst HasDone (sym (mail_of-append p a b)) (done-append (mail_of p a) (mail_of p b) h)

pub knows_more : (closed : List Bool) (heard : List Mail) (m : Mail) → KnowsClosed closed heard → KnowsClosed closed (heard ++ m ∷ [])
knows_more closed heard m h p e = done_more p heard (m ∷ []) (h p e)

knows_close : (closed : List Bool) (heard : List Mail) (m : Mail) → IsDone m → KnowsClosed closed heard → KnowsClosed (set closed m.sender true) (heard ++ m ∷ [])
knows_close closed heard m d h p e =
    ⊎_elim (λ (t : (eqb p m.sender ≡ true) × (p ≡ m.sender)). subst HasDone (sym (mail_of-own p heard m (sym t.1))) (done-push (mail_of p heard) m d))
    (λ (t : (eqb p m.sender ≡ false) × (p ≢ m.sender)). let n = t.1 in done_more p heard (m ∷ []) (h p (sym (get_or-set_other closed m.sender p true false n) ∙ e))) (eqb_tells p m.sender)

knows_body : (s : State) (heard : List Mail) (m : Mail) (b : Body) → m.body ≡ b → KnowsClosed s.closed heard → KnowsClosed (after_take s m.sender b).closed (heard ++ m ∷ [])
knows_body s heard m (body.Put o) e h = knows_more s.closed heard m h
knows_body s heard m body.Tick e h = knows_more s.closed heard m h
knows_body s heard m body.Flush e h = knows_more s.closed heard m h
knows_body s heard m body.Done e h = knows_close s.closed heard m e h

pub knows_take : (s : State) (heard : List Mail) (m : Mail) → KnowsClosed s.closed heard → KnowsClosed (after_take s m.sender m.body).closed (heard ++ m ∷ [])
knows_take s heard m h = knows_body s heard m m.body refl h

-- ---- who has not

done-split : (a b : List Mail) → HasDone (a ++ b) → HasDone a ⊎ HasDone b
done-split [] b h = inr h
done-split (m ∷ ms) b h =
    ⊎_elim (λ (d : IsDone m). inl (inl d))
    (λ (d : HasDone (ms ++ b)). ⊎_elim (λ (x : HasDone ms). inl (inr x)) (λ (y : HasDone b). inr y) (done-split ms b d)) h

-- a message that is not this sender's Done leaves it open
open_more : (p : ℕ) (heard : List Mail) (m : Mail) → (m.sender ≡ p → ¬ IsDone m) → ¬ HasDone (mail_of p heard) → ¬ HasDone (mail_of p (heard ++ m ∷ []))
open_more p heard m other none d =
    ⊎_elim (λ (t : (eqb m.sender p ≡ true) × (m.sender ≡ p)).
    ⊎_elim (λ (x : HasDone (mail_of p heard)). none x) (λ (y : HasDone (m ∷ [])). ⊎_elim (λ (z : IsDone m). other t.1 z) (λ (z : HasDone []). z) y)
    (done-split (mail_of p heard) (m ∷ []) (subst HasDone (mail_of-own p heard m t.1) d)))
    (λ (t : (eqb m.sender p ≡ false) × (m.sender ≢ p)). none (subst HasDone (mail_of-other p heard m t.1) d)) (eqb_tells m.sender p)

pub not_done : (m : Mail) (b : Body) → m.body ≡ b → b ≢ body.Done → ¬ IsDone m
not_done m b e n d = n (sym e ∙ d)

pub open_stays : (closed : List Bool) (heard : List Mail) (m : Mail) → ¬ IsDone m → KnowsOpen closed heard → KnowsOpen closed (heard ++ m ∷ [])
open_stays closed heard m n h p lt e = open_more p heard m (λ is. n) (h p lt e)

open_close : (closed : List Bool) (heard : List Mail) (m : Mail) → m.sender < length closed → KnowsOpen closed heard → KnowsOpen (set closed m.sender true) (heard ++ m ∷ [])
open_close closed heard m within h p lt e =
    ⊎_elim (λ (t : (eqb p m.sender ≡ true) × (p ≡ m.sender)).
    let marked : get_or (set closed m.sender true) p false ≡ true = ap (λ k. get_or (set closed m.sender true) k false) t.1 ∙ get_or-set_same closed m.sender true false within in
    absurd (cc))
    (λ (t : (eqb p m.sender ≡ false) × (p ≢ m.sender)).
    let n = t.1 in
    let below : p < length closed = omega (arith, lt, length-set closed m.sender true) in
    open_more p heard m (λ is. absurd (n (sym is))) (h p below (sym (get_or-set_other closed m.sender p true false n) ∙ e))) (eqb_tells p m.sender)

open_body : (s : State) (heard : List Mail) (m : Mail) (b : Body) → m.body ≡ b → m.sender < length s.closed → KnowsOpen s.closed heard → KnowsOpen (after_take s m.sender b).closed (heard ++ m ∷ [])
open_body s heard m (body.Put o) e lt h = open_stays s.closed heard m (not_done m (body.Put o) e (λ x. cc)) h
open_body s heard m body.Tick e lt h = open_stays s.closed heard m (not_done m body.Tick e (λ x. cc)) h
open_body s heard m body.Flush e lt h = open_stays s.closed heard m (not_done m body.Flush e (λ x. cc)) h
open_body s heard m body.Done e lt h = open_close s.closed heard m lt h

pub open_take : (s : State) (heard : List Mail) (m : Mail) → m.sender < length s.closed → KnowsOpen s.closed heard → KnowsOpen (after_take s m.sender m.body).closed (heard ++ m ∷ [])
open_take s heard m lt h = open_body s heard m m.body refl lt h

-- if not all have closed, one has not
one_at : (closed : List Bool) → list_all (λ (b : Bool). b) closed ≡ false → (p : ℕ) × (p < length closed) × (get_or closed p false ≡ false)
one_at [] e = absurd (cc)
one_at (false ∷ bs) e = (0, omega arith, refl)
one_at (true ∷ bs) e = let x = one_at bs e in let lt = x.1 in (suc x.0, omega arith, x.2)

pub one_open : (closed : List Bool) (heard : List Mail) (senders : ℕ) → length closed ≡ senders → KnowsOpen closed heard → list_all (λ (b : Bool). b) closed ≡ false → OneIsOpen senders heard
one_open closed heard senders n h e = let x = one_at closed e in (x.0, omega (arith, x.1, n), h x.0 x.1 x.2)

-- ---- what comes next

not_none : (m : Mail) → m ∷ [] ≡ [] → ⊥
not_none m e = cc

-- no sender that closed sends another message
pub not_after : (closed : List Bool) (senders : ℕ) (heard : List Mail) (m : Mail) → KnowsClosed closed heard → IsWellTaken senders (heard ++ m ∷ []) → get_or closed m.sender false ≡ true → ⊥
not_after closed senders heard m h w e =
    let is = mail_of-own m.sender heard m refl in
    let sent = subst (λ l. IsWellSent l) is (w.in_order m.sender) in
    not_none m (nothing_after (mail_of m.sender heard) (m ∷ []) sent.1 (h m.sender e))

none_false : (n p : ℕ) → get_or (replicate n false) p false ≡ true → ⊥
none_false zero p e = cc
none_false (suc n) zero e = cc
none_false (suc n) (suc p) e = none_false n p e

pub none_known : (n : ℕ) (heard : List Mail) → KnowsClosed (replicate n false) heard
none_known n heard p e = absurd (none_false n p e)

all_at : (closed : List Bool) (p : ℕ) → p < length closed → list_all (λ (b : Bool). b) closed ≡ true → get_or closed p false ≡ true
all_at [] p lt e = absurd (omega arith)
all_at (b ∷ bs) zero lt e = and_left b (list_all (λ (x : Bool). x) bs) e
all_at (b ∷ bs) (suc p) lt e = all_at bs p (omega arith) (and_right b (list_all (λ (x : Bool). x) bs) e)

pub all_done : (closed : List Bool) (heard : List Mail) (p : ℕ) → KnowsClosed closed heard → p < length closed → list_all (λ (b : Bool). b) closed ≡ true → HasDone (mail_of p heard)
all_done closed heard p h lt e = h p (all_at closed p lt e)

-- a message leaves as many senders
pub take_senders : (s : State) (sender : ℕ) (b : Body) → length (after_take s sender b).closed ≡ length s.closed
take_senders s sender (body.Put o) = refl
take_senders s sender body.Tick = refl
take_senders s sender body.Flush = refl
take_senders s sender body.Done = length-set s.closed sender true

pub take_config : (s : State) (sender : ℕ) (b : Body) → (after_take s sender b).config ≡ s.config
take_config s sender (body.Put o) = refl
take_config s sender body.Tick = refl
take_config s sender body.Flush = refl
take_config s sender body.Done = refl

-- a lane that knows who has closed does not refuse what was taken from its queue as sent after its Done
fault_apart : (f : TakeFault) (closed full : Bool) → f ≡ unwrap_or (if closed then Some AfterClose else if full then Some HeldFull else None) Memory → f ≡ AfterClose → closed ≡ true
fault_apart f true full e a = refl
fault_apart f false true e a = cc
fault_apart f false false e a = cc

pub not_closed : (s : State) (senders : ℕ) (heard taken : List Mail) (m : Mail) (f : TakeFault)
    → KnowsClosed s.closed heard → taken ≡ heard ++ m ∷ [] → IsWellTaken senders taken
    → f ≡ unwrap_or (take_fault s m.sender m.body) Memory → f ≡ AfterClose → ⊥
not_closed s senders heard taken m f h is w e a =
    not_after s.closed senders heard m h (subst (IsWellTaken senders) is w) (fault_apart f (get_or s.closed m.sender false) (is_full s m.body) e a)

-- it heard all that was taken
pub heard_all : (kind : LaneEndKind) (taken : List Mail) → HasHeard kind taken taken
heard_all kind taken = record { missed = []; all = sym (append-nil taken); most = omega arith; puts = λ m e. absurd e; memory = λ n. refl }
