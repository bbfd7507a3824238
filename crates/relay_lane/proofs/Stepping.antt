-- One turn of a loop: what it preserves and what decreases.
use Rattle.std.proofs.Common.{◌≡◌, ◌≢◌, ℕ, ◌+◌, ◌*◌, ◌<◌, ◌≤◌, List, [], length, Option, Some, None, Bool, true, false, refl, sym, ap, ◌∙◌, subst, ⊎_elim, inl, inr, arith}
use Rattle.std.specs.Prelude.{◌⊎◌, is_some, not, min}
use Rattle.std.specs.List.{list_all}
use Rattle.std.proofs.Math.Nat.{mul-le-mul_left}
use Rattle.std.proofs.lemmas.Bool.{cases_lt}
use Rattle.relay_batch.specs.declared.item.BatchItem.{BatchItem}
use Rattle.relay_results.specs.Outside.{Answer, Outside, Unanswered, Lost}
use Rattle.relay_results.specs.Words.{Mem}
use Rattle.relay_delivery.specs.Lane.{Entry}
use Rattle.relay_core.specs.State.{State, IsLane, last_tick, all_closed, next_batch, after_request, after_answer_to, due_in}
use Rattle.relay_core.proofs.Valid.{valid_facts}
use Rattle.relay_results.specs.declared.cause.Loss.{Loss}
use Rattle.relay_lane.specs.Turns.{Turn, Sends, Fails, Settles, Pauses, after_send, after_fail, after_answer, after_ticks, after_turn, MayTurn, Paused, Passed, sends_in, ticks_in, pumps, sends_only, sends_first, sends_left}
use Rattle.relay_lane.specs.Calls.{called_by}
use Rattle.relay_lane.specs.Steps.{Asked, Settled, IsPressed, Progressed}
use Rattle.relay_lane.specs.Exchanges.{Exchange}
use Rattle.relay_lane.specs.Delivers.{Delivers}
use Rattle.relay_lane.specs.Laws.{Keeps}
use Rattle.relay_lane.proofs.Limits.{valid_limits}
use Rattle.relay_lane.proofs.Out.{oldest_is, oldest_number, flying_first, one_fewer, one_gone, flying_more, flying_again}
use Rattle.relay_lane.proofs.Sends.{request_takes, fail_takes, left_answered, from_sent, from_answered}
use Rattle.relay_lane.proofs.Counting.{some_batch, stays_as, turn_keeps, left_at_most}
use Rattle.relay_lane.proofs.Passing.{delivers_on}
use Rattle.relay_lane.proofs.Ticking.{min_low, min_high}

-- ---- what follows from each turn of a loop

-- a turn was taken: how many requests were sent, and what is left of what may be sent and of what
-- flies
pub record Turned (x : Turn) (s t : State) : Type 0 where
  pub may : MayTurn x s
  pub reached : t ≡ after_turn x s
  pub keeps : Keeps (sends_in x) (ticks_in x) s t
  pub left : sends_in x + sends_left t ≤ sends_left s
  pub falls : sends_left t * 2 + length t.core.flying + 1 ≤ sends_left s * 2 + length s.core.flying
  pub pressed : IsPressed s → IsPressed t

keeps_as : (m n : ℕ) (s t u : State) → u ≡ t → Keeps m n s t → Keeps m n s u
keeps_as m n s t u e k = subst (Keeps m n s) (sym e) k

-- operations with versions of those that were held, under the same mark, are sent as soon as those were
pressed_as : (s t : State) → t.mark ≡ s.mark → t.closed ≡ s.closed → ((d : Entry) → Mem d t.core.held → (e : Entry) × Mem e s.core.held × (d.held.version ≡ e.held.version)) → IsPressed s → IsPressed t
pressed_as s t mark closed from p d m =
    let f = from d m in
    ⊎_elim {C = (all_closed t ≡ true) ⊎ (d.held.version ≤ t.mark)}
    (λ c. inl (ap (λ bs. list_all (λ (z : Bool). z) bs) closed ∙ c))
    (λ marked. let v = f.2 in inr (omega (arith, marked, v, mark)))
    (p f.0 f.1)

sent_mark : (s : State) (b : Option (List BatchItem)) → ((after_request s b).mark ≡ s.mark) × ((after_request s b).closed ≡ s.closed)
sent_mark s None = (refl, refl)
sent_mark s (Some items) = (refl, refl)

from_failed : (why : Loss) (n : ℕ) (s : State) (items : List BatchItem) → next_batch s ≡ Some items → (d : Entry) → Mem d (after_fail why n s).core.held → (e : Entry) × Mem e s.core.held × (d.held.version ≡ e.held.version)
from_failed why n s items some d m =
    let x = from_answered (after_ticks n (after_send s)) s.flights.next (Lost why) d m in
    let y = from_sent s items some x.0 x.1 in
    (y.0, y.1, x.2 ∙ y.2)

sends_turned : (n : ℕ) (s t : State) → IsLane s → is_some (next_batch s) ≡ true → t ≡ after_ticks n (after_send s) → Turned (Sends n) s t
sends_turned n s t l some e =
    let b = some_batch (next_batch s) some in
    let takes = request_takes s b.0 b.1 in
    let more = flying_more s l b.0 b.1 in
    let left = ap sends_left e in
    let flying = ap (λ (x : State). length x.core.flying) e in
    let mark = sent_mark s (next_batch s) in
    record {
      may = some;
      reached = e;
      keeps = keeps_as 1 n s (after_ticks n (after_send s)) t e (turn_keeps (Sends n) s some);
      left = omega (arith, takes, left);
      falls = omega (arith, takes, left, more, flying);
      pressed = λ p. subst IsPressed (sym e) (pressed_as s (after_ticks n (after_send s)) mark.0 mark.1 (from_sent s b.0 b.1) p);
    }

fails_turned : (why : Loss) (n : ℕ) (s t : State) → IsLane s → is_some (next_batch s) ≡ true → t ≡ after_fail why n s → Turned (Fails why n) s t
fails_turned why n s t l some e =
    let b = some_batch (next_batch s) some in
    let takes = fail_takes why n s b.0 b.1 in
    let again = ap length (flying_again s l b.0 b.1 why n) in
    let left = ap sends_left e in
    let flying = ap (λ (x : State). length x.core.flying) e in
    let mark = sent_mark s (next_batch s) in
    record {
      may = some;
      reached = e;
      keeps = keeps_as 1 n s (after_fail why n s) t e (turn_keeps (Fails why n) s some);
      left = omega (arith, takes, left);
      falls = omega (arith, takes, left, again, flying);
      pressed = λ p. subst IsPressed (sym e) (pressed_as s (after_fail why n s) mark.0 mark.1 (from_failed why n s b.0 b.1) p);
    }

-- a request was sent, or could not be
pub record Sent {S : Type 0} (d : Bool) (fits : S → Outside → Type 0) (carries : S → Exchange → S → Type 0) (old new : S) (s t : State) : Type 0 where
  pub turn : Turn
  pub turned : Turned turn s t
  pub one : sends_in turn ≡ 1
  pub may_pump : pumps turn s ≡ true
  pub may_send : sends_only turn s ≡ true
  pub goes_first : sends_first turn s ≡ true
  pub delivers : Delivers d fits carries old new s t (called_by turn s)

module _ {S : Type 0} (d : Bool) (fits : S → Outside → Type 0) (carries : S → Exchange → S → Type 0) (old new : S) where
  sent_by : (turn : Turn) (s t : State) → IsLane s → is_some (next_batch s) ≡ true → sends_in turn ≡ 1 → t ≡ after_turn turn s → Delivers d fits carries old new s t (called_by turn s) → Sent d fits carries old new s t
  sent_by (Sends n) s t l some one e k = record { turn = Sends n; turned = sends_turned n s t l some e; one = refl; may_pump = refl; may_send = refl; goes_first = refl; delivers = k }
  sent_by (Fails why n) s t l some one e k = record { turn = Fails why n; turned = fails_turned why n s t l some e; one = refl; may_pump = refl; may_send = refl; goes_first = refl; delivers = k }
  sent_by (Settles n a) s t l some one e k = absurd (cc)
  sent_by (Pauses n) s t l some one e k = absurd (cc)

  pub asked_sent : (b : Bool) (s t : State) → IsLane s → b ≡ is_some (next_batch s) → b ≡ true → Asked d fits carries old new b s t → Sent d fits carries old new s t
  asked_sent b s t l some is asked =
      let a = subst (λ c. Asked d fits carries old new c s t) is asked in
      sent_by a.0 s t l (sym some ∙ is) a.1 a.2 a.3

  pub not_asked : (b : Bool) (s t : State) → b ≡ false → Asked d fits carries old new b s t → t ≡ s
  not_asked b s t e x = (subst (λ c. Asked d fits carries old new c s t) e x).0

  pub not_called : (b : Bool) (s t : State) → b ≡ false → Asked d fits carries old new b s t → Delivers d fits carries old new s t []
  not_called b s t e x = (subst (λ c. Asked d fits carries old new c s t) e x).1

-- the oldest was answered
answered_turned : (n : ℕ) (s t : State) (a : Answer) → IsLane (after_ticks n s) → 0 < length s.core.flying → a ≢ Unanswered → t ≡ after_answer a (after_ticks n s) → Turned (Settles n a) s t
answered_turned n s t a l some answers e =
    let u = after_ticks n s in
    let k = flying_first u some in
    let o = oldest_is u k.0 k.1 in
    let at : after_answer a u ≡ after_answer_to u k.0 a = ap (λ m. after_answer_to u m a) (oldest_number u l k.0 o) in
    let fewer_left = left_answered u k.0 a l answers in
    let fewer = one_fewer u l k.0 o a in
    let left = ap sends_left (e ∙ at) in
    let flying = ap (λ (x : State). length x.core.flying) (e ∙ at) in
    record {
      may = (some, answers);
      reached = e;
      keeps = keeps_as 0 n s (after_answer a u) t e (turn_keeps (Settles n a) s (some, answers));
      left = omega (arith, fewer_left, left);
      falls = omega (arith, fewer_left, left, fewer, flying);
      pressed = λ p. subst IsPressed (sym (e ∙ at)) (pressed_as s (after_answer_to u k.0 a) refl refl (from_answered u k.0 a) p);
    }

module _ {S : Type 0} (d : Bool) (fits : S → Outside → Type 0) (carries : S → Exchange → S → Type 0) (old new : S) where
  pub settles_turned : (s t : State) (x : Settled d fits carries old new s t) → 0 < length s.core.flying → Turned (Settles x.ticks x.answer) s t
  settles_turned s t x some = answered_turned x.ticks s t x.answer x.lane some x.answers x.reached

  pub settled_one : (s t : State) (x : Settled d fits carries old new s t) → 0 < length s.core.flying → length s.core.flying ≡ length t.core.flying + 1
  settled_one s t x some = one_gone (after_ticks x.ticks s) t x.answer x.lane some x.reached

-- ---- a pause

pub none_of : {A : Type 0} (b : Option A) → false ≡ is_some b → b ≡ None
none_of None e = refl
none_of (Some x) e = absurd (cc)

pub paused_on : (m n k : ℕ) (a b c : Option ℕ) → Paused m a b → Paused n b c → k ≡ m + n → Paused k a c
paused_on m n k a b c x y e p is le =
    let first = x p is (omega (arith, le, e)) in
    let last = y (p + m) first (omega (arith, le, e)) in
    let same : p + m + n ≡ p + k = omega (arith, e) in
    last ∙ ap (λ z. Some z) same

paused_none : (a : Option ℕ) → Paused 0 a a
paused_none a p is le = let same : p ≡ p + 0 = omega arith in is ∙ ap (λ z. Some z) same

-- ---- the clock

capped_on : (a m n : ℕ) → min (min (a + m) last_tick + n) last_tick ≡ min (a + (m + n)) last_tick
capped_on a m n = ⊎_elim {C = min (min (a + m) last_tick + n) last_tick ≡ min (a + (m + n)) last_tick}
    (λ lt. let x = min_low (a + m) last_tick (omega (arith, lt)) in ap (λ k. min (k + n) last_tick) x ∙ ap (λ k. min k last_tick) (let e : a + m + n ≡ a + (m + n) = omega arith in e))
    (λ ge. let x = min_high (a + m) last_tick ge in
    ap (λ k. min (k + n) last_tick) x ∙ min_high (last_tick + n) last_tick (omega arith) ∙ sym (min_high (a + (m + n)) last_tick (omega (arith, ge))))
    (cases_lt (a + m) last_tick)

pub passed_none : (s : State) (a : Option ℕ) → IsLane s → Passed s.core.clock s.core.clock a a
passed_none s a l = record { ticks = 0; clock = (let c = l.clock in let e : s.core.clock + 0 ≤ last_tick = omega (arith, c) in (let f : s.core.clock ≡ s.core.clock + 0 = omega arith in f) ∙ sym (min_low (s.core.clock + 0) last_tick e)); shown = paused_none a }

pub passed_on : (x y z : ℕ) (a b c : Option ℕ) → Passed x y a b → Passed y z b c → Passed x z a c
passed_on x y z a b c p q = record {
  ticks = p.ticks + q.ticks;
  clock = q.clock ∙ ap (λ k. min (k + q.ticks) last_tick) p.clock ∙ capped_on x p.ticks q.ticks;
  shown = paused_on p.ticks q.ticks (p.ticks + q.ticks) a b c p.shown q.shown refl;
}

pub passed_same : (x y : ℕ) (a b c : Option ℕ) → b ≡ c → Passed x y a b → Passed x y a c
passed_same x y a b c e p = subst (λ o. Passed x y a o) e p

-- a pause that ends before the clock does
pub passed_pause : (n : ℕ) (s t : State) (a b : Option ℕ) → s.core.clock + n ≤ last_tick → t ≡ after_ticks n s → Paused n a b → Passed s.core.clock t.core.clock a b
passed_pause n s t a b within e p = record { ticks = n; clock = ap (λ (x : State). x.core.clock) e ∙ sym (min_low (s.core.clock + n) last_tick within); shown = p }

-- ---- how many

pub sends_small : (s : State) → IsLane s → sends_left s ≤ 137439870976
sends_small s l =
    let v = valid_facts s.config l.valid in
    let most = left_at_most s l in
    let few = v.tries.1 in
    let held = l.held in
    let limit = v.held in
    let m = mul-le-mul_left (length s.core.held) (let k : s.config.attempts + 14 ≤ 2097166 = omega (arith, few) in k) in
    omega (arith, most, held, limit, m)

pub most_sent : (s t : State) → IsLane s → t.core.requests + sends_left t ≤ s.core.requests + sends_left s → t.core.requests ≤ s.core.requests + length s.core.held * (s.config.attempts + 14)
most_sent s t l bound = let most = left_at_most s l in omega (arith, bound, most)

-- ---- what a test says

-- far fewer fly than a number of 32 bits says
pub few_fly : (s : State) → IsLane s → length s.core.flying ≤ 8
few_fly s l =
    let b = l.beside in
    let f = l.flying in
    let p = (valid_limits s.config l.valid).places.1 in
    omega (arith, b, f, p)

pub none_ready : (b : Bool) (s t : State) → t ≡ s → b ≡ false → b ≡ is_some (next_batch s) → not (is_some (next_batch t)) ≡ true
none_ready b s t e no_one is = ap (λ (x : State). not (is_some (next_batch x))) e ∙ ap not (sym is ∙ no_one)

-- ---- one turn of work

module _ {S : Type 0} (d : Bool) (fits : S → Outside → Type 0) (carries : S → Exchange → S → Type 0) (v w : S) where
  -- a request was sent or answered
  pub progressed : (x : Turn) (s t : State) → sends_first x s ≡ true → Turned x s t → IsPressed s → Delivers d fits carries v w s t (called_by x s) → Progressed d fits carries v w s t
  progressed x s t goes k pressed delivers =
      let left = k.left in
      let falls = k.falls in
      let requests = k.keeps.requests in
      record {
        took = record { turn = x; goes = goes; may = k.may; reached = k.reached; delivers = delivers };
        stays = k.keeps.stays;
        bound = omega (arith, left, requests);
        smaller = omega (arith, falls);
        pressed = k.pressed pressed;
      }

  -- it paused
  pub paused : (s t : State) (n : ℕ) → length s.core.flying ≡ 0 → next_batch s ≡ None → due_in s ≡ Some n → 0 < n → s.core.clock + n ≤ last_tick → t ≡ after_ticks n s → IsPressed s → Delivers d fits carries v w s t (called_by (Pauses n) s) → Progressed d fits carries v w s t
  paused s t n still none due some within e pressed delivers =
      let left = ap sends_left e in
      let requests = ap (λ (x : State). x.core.requests) e in
      let flying = ap (λ (x : State). length x.core.flying) e in
      let clock = ap (λ (x : State). x.core.clock) e in
      record {
        took = record { turn = Pauses n; goes = refl; may = (still, none, due); reached = e; delivers = delivers };
        stays = stays_as s (after_ticks n s) t (record { config = refl; closed = refl; taken = refl }) e;
        bound = omega (arith, left, requests);
        smaller = omega (arith, left, flying, clock, some, within);
        pressed = subst IsPressed (sym e) pressed;
      }

  -- after nothing was called, on the same lane
  pub progressed_after : (u : S) (e : Bool) (r s t : State) → e ≡ d → s ≡ r → Delivers d fits carries u v r s [] → Progressed e fits carries v w s t → Progressed d fits carries u w r t
  progressed_after u e r s t same is before k =
      let next : Progressed e fits carries v w r t = subst (λ z. Progressed e fits carries v w z t) is k in
      let stood : Delivers d fits carries u v r r [] = subst (λ z. Delivers d fits carries u v r z []) is before in
      record {
        took = record {
          turn = next.took.turn;
          goes = next.took.goes;
          may = next.took.may;
          reached = next.took.reached;
          delivers = delivers_on d e fits carries u v w r r t [] (called_by next.took.turn r) same stood next.took.delivers;
        };
        stays = next.stays;
        bound = next.bound;
        smaller = next.smaller;
        pressed = next.pressed;
      }
