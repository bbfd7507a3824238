-- How many requests a lane may still send: a request takes one of them, and an answer gives none back.
use Rattle.std.proofs.Common.{◌≡◌, ◌≢◌, ℕ, suc, ◌+◌, ◌-◌, ◌<◌, ◌≤◌, List, [], ◌∷◌, ◌++◌, length, Option, Some, None, Bool, true, false, refl, sym, ap, ◌∙◌, subst, ⊎_elim, inl, inr, arith}
use Rattle.std.specs.Prelude.{◌==◌, nat_lt, map, option_map, if◌then◌else◌}
use Rattle.std.proofs.lemmas.List.{length-map}
use borrow.Author.Tests.{ltb-true, ltb-false}
use Rattle.relay_action.specs.declared.write.Write.{Write}
use Rattle.relay_action.specs.Actions.{kind_of}
use Rattle.relay_batch.specs.declared.item.BatchItem.{BatchItem}
use Rattle.relay_results.specs.Words.{Mem}
use Rattle.relay_results.specs.Numbers.{from_zero}
use Rattle.relay_results.specs.Outside.{Answer, Unanswered, Whole, Lost}
use Rattle.relay_results.specs.Fates.{Fate, Flies, Applied, Already, Retried, Halved, Reported, Tries, fate}
use Rattle.relay_results.proofs.Lists.{true_or_false, and_left, equal, equal_test, Mem-cases, Mem-one, Mem-map}
use Rattle.relay_results.proofs.Fates.{answers_end, retried_tries, says_as}
use Rattle.relay_delivery.specs.Machine.{Config, Held, Place, place_of, launched_at, fate_of}
use Rattle.relay_delivery.specs.Bound.{halvings}
use Rattle.relay_delivery.proofs.Halving.{halvings-half}
use Rattle.relay_delivery.proofs.Fates.{tries-most}
use Rattle.relay_delivery.specs.Lane.{tries_in, old_in, Entry, held_of, candidates, launched_entry, kept_entry, kept_entries, writes_at}
use Rattle.relay_core.specs.Rule.{item_of, gathering_after, closes, goes, batch_if}
use Rattle.relay_core.specs.State.{State, IsLane, all_closed, gathering, next_batch, next_entries, after_request, after_answer_to}
use Rattle.relay_core.proofs.Flights.{earlier_ones_settled}
use Rattle.relay_core.proofs.Forming.{items_of_operations}
use Rattle.relay_lane.proofs.Limits.{among}
use Rattle.relay_results.specs.declared.cause.Loss.{Loss}
use Rattle.relay_lane.specs.Turns.{after_send, after_ticks, after_fail, sends_of, sends_among, sends_left}

-- ---- one operation

pub one_at_least : (most n : ℕ) → 1 ≤ sends_of most n None
one_at_least most n = ⊎_elim {C = 1 ≤ sends_of most n None}
    (λ t. let z = ltb-true _ _ t in let e : sends_of most n None ≡ most - n = ap (λ b. if b then most - n else 1) t in omega (arith, z, e))
    (λ t. let e : sends_of most n None ≡ 1 = ap (λ b. if b then most - n else 1) t in omega (arith, e))
    (true_or_false (nat_lt n most))

-- one that waits is sent
one_less : (most n : ℕ) → most - (n + 1) + 1 ≤ sends_of most n None
one_less most n = ⊎_elim {C = most - (n + 1) + 1 ≤ sends_of most n None}
    (λ t. let z = ltb-true _ _ t in let e : sends_of most n None ≡ most - n = ap (λ b. if b then most - n else 1) t in omega (arith, z, e))
    (λ t. let z = ltb-false _ _ t in let e : sends_of most n None ≡ 1 = ap (λ b. if b then most - n else 1) t in omega (arith, z, e))
    (true_or_false (nat_lt n most))

no_more : (most n : ℕ) (p : Option Place) → most - (n + 1) ≤ sends_of most n p
no_more most n None = let l = one_less most n in omega (arith, l)
no_more most n (Some p) = omega arith

sends_append : (most : ℕ) (xs ys : List Entry) → sends_among most (xs ++ ys) ≡ sends_among most xs + sends_among most ys
sends_append most [] ys = omega arith
sends_append most (x ∷ xs) ys = let r = sends_append most xs ys in omega (arith, r)

-- ---- a request

module _ (most clock n : ℕ) (chosen : List Held) where
  one_sent : Entry → Option ℕ → ℕ
  one_sent e p = sends_of most (launched_at n e.held p).attempts (launched_at n e.held p).flies + halvings (launched_at n e.held p).cap

  at_place : (e : Entry) (p : Option ℕ) → one_sent e p ≤ sends_of most e.held.attempts e.held.flies + halvings e.held.cap
  unfolding one_sent
  at_place e None = omega arith
  at_place e (Some p) = let l = no_more most e.held.attempts e.held.flies in omega (arith, l)

  sent_at_most : (es : List Entry) → sends_among most (map (launched_entry clock n chosen) es) ≤ sends_among most es
  unfolding one_sent
  sent_at_most [] = omega arith
  sent_at_most (e ∷ es) = let l = at_place e (place_of e.held.version chosen) in let r = sent_at_most es in omega (arith, l, r)

  here_less : (e : Entry) (p : ℕ) → e.held.flies ≡ None → place_of e.held.version chosen ≡ Some p → one_sent e (place_of e.held.version chosen) + 1 ≤ sends_of most e.held.attempts e.held.flies + halvings e.held.cap
  unfolding one_sent
  here_less e p waits is =
      let k = ap (λ q. one_sent e q) is in
      let w = ap (sends_of most e.held.attempts) waits in
      let l = one_less most e.held.attempts in
      omega (arith, k, w, l)

  sent_less : (es : List Entry) (h : Entry) (p : ℕ) → Mem h es → h.held.flies ≡ None → place_of h.held.version chosen ≡ Some p → sends_among most (map (launched_entry clock n chosen) es) + 1 ≤ sends_among most es
  unfolding one_sent
  sent_less [] h p m waits is = absurd m
  sent_less (e ∷ es) h p m waits is = ⊎_elim {C = sends_among most (map (launched_entry clock n chosen) (e ∷ es)) + 1 ≤ sends_among most (e ∷ es)}
      (λ same.
      let l = here_less e p (ap (λ (x : Entry). x.held.flies) (sym same) ∙ waits) (ap (λ (x : Entry). place_of x.held.version chosen) (sym same) ∙ is) in
      let r = sent_at_most es in omega (arith, l, r))
      (λ later.
      let l = at_place e (place_of e.held.version chosen) in
      let r = sent_less es h p later waits is in omega (arith, l, r))
      m

-- a batch is not empty
if_some : {A : Type 0} (b : Bool) (x : Option A) (y : A) → (if b then x else None) ≡ Some y → x ≡ Some y
if_some true x y e = e
if_some false x y e = absurd (cc)

if_batch : (b : Bool) (is js : List BatchItem) → batch_if b is ≡ Some js → (b ≡ true) × (is ≡ js)
if_batch true is js e = (refl, cc)
if_batch false is js e = absurd (cc)

batch_some : (s : State) (items : List BatchItem) → next_batch s ≡ Some items → 0 < length items
batch_some s items e =
    let all = map item_of (candidates s.core) in
    let g = gathering s in
    let b = if_batch (goes s.core.clock s.mark (all_closed s) (gathering_after all g) (closes all g)) _ items (if_some (nat_lt (length s.flights.batches) s.config.in_flight) _ items e) in
    subst (λ xs. 0 < length xs) b.1 (ltb-true _ _ (and_left _ _ b.0))

first_of : (es : List Entry) → 0 < length es → (e : Entry) × Mem e es × (place_of e.held.version (held_of es) ≡ Some 0)
first_of [] lt = absurd (omega (arith, lt))
first_of (e ∷ es) lt = (e, inl refl, ap (λ b. if b then Some 0 else option_map suc (place_of e.held.version (held_of es))) (equal_test e.held.version e.held.version refl))

pub request_takes : (s : State) (items : List BatchItem) → next_batch s ≡ Some items → sends_left (after_send s) + 1 ≤ sends_left s
request_takes s items some =
    let n = batch_some s items some in
    let k = ap length (items_of_operations s items some) ∙ length-map (next_entries s) item_of in
    let f = first_of (next_entries s) (omega (arith, n, k)) in
    let waits = (earlier_ones_settled s f.0 f.1).waits in
    let less = sent_less s.core.config.max s.core.clock s.core.requests (held_of (next_entries s)) s.core.held f.0 0 (among s f.0 f.1) waits f.2 in
    let is = ap (λ b. sends_left (after_request s b)) some in
    omega (arith, less, is)

-- ---- an answer

-- if it is halved, its cap decreases
abbrev Falls : Fate → Entry → Type 0
Falls x e = (cap : ℕ) → x ≡ Halved cap → halvings cap + 1 ≤ halvings e.held.cap

sends_below : (most n : ℕ) → n < most → sends_of most n None ≡ most - n
sends_below most n lt = ⊎_elim {C = sends_of most n None ≡ most - n} (λ t. ap (λ b. if b then most - n else 1) t) (λ t. let z = ltb-false _ _ t in absurd (omega (arith, z, lt))) (true_or_false (nat_lt n most))

given_back : (most n : ℕ) → sends_of most (n - 1) None ≤ most - n + 1
given_back most n = ⊎_elim {C = sends_of most (n - 1) None ≤ most - n + 1}
    (λ t. let z = ltb-true _ _ t in let e : sends_of most (n - 1) None ≡ most - (n - 1) = ap (λ b. if b then most - (n - 1) else 1) t in omega (arith, z, e))
    (λ t. let e : sends_of most (n - 1) None ≡ 1 = ap (λ b. if b then most - (n - 1) else 1) t in omega (arith, e))
    (true_or_false (nat_lt (n - 1) most))

-- one that flew is done, or may be sent as often as it has attempts left
after_fate : (most clock : ℕ) (x : Fate) (e : Entry) → x ≢ Flies → (x ≡ Retried → e.held.attempts < most) → Falls x e → sends_among most (kept_entry clock x e) ≤ most - e.held.attempts + halvings e.held.cap
after_fate most clock Flies e ends tries falls = absurd (ends refl)
after_fate most clock Applied e ends tries falls = omega arith
after_fate most clock Already e ends tries falls = omega arith
after_fate most clock Retried e ends tries falls = let k = sends_below most e.held.attempts (tries refl) in omega (arith, k)
after_fate most clock (Halved cap) e ends tries falls = let l = falls cap refl in let k = given_back most e.held.attempts in omega (arith, l, k)
after_fate most clock (Reported cause) e ends tries falls = omega arith

module _ (allowed : ℕ → ℕ) (most : ℕ) (fits : (version : ℕ) → allowed version ≤ most) (clock n : ℕ) (ws : List Write) (a : Answer) (answers : a ≢ Unanswered) where
  tries_at : Held → Tries
  tries_at h = record { version = h.version; sends = h.sends; attempts = h.attempts; max = allowed h.version }

  fate_at : Held → Place → Fate
  fate_at h p = fate (tries_at h) ws p.place (kind_of h.op.action) a

  -- if a request is halved, its writes keep the cap of one that flies in it
  abbrev pub Room : Entry → Type 0
  Room e = (reason : Option (List ℕ)) → a ≡ Whole 413 reason → (p : Place) → e.held.flies ≡ Some p → p.request ≡ n → 1 < length ws → length ws ≤ e.held.cap

  falls_at : (e : Entry) (p : Place) → Room e → e.held.flies ≡ Some p → p.request ≡ n → Falls (fate_at e.held p) e
  unfolding fate_at tries_at
  falls_at e p room is here cap x =
      let s = says_as (tries_at e.held) ws p.place (kind_of e.held.op.action) a (Halved cap) x in
      let some = s.1 in
      let le = room s.0.0 s.0.1 p is here (omega (arith, some)) in
      subst (λ k. halvings k + 1 ≤ halvings e.held.cap) (sym s.2) (halvings-half (length ws) e.held.cap some le)

  by_number : (e : Entry) (p : Place) (b : Bool) → (p.request == n) ≡ b → Room e → e.held.flies ≡ Some p
      → sends_among most (kept_entry clock (if b then fate_at e.held p else Flies) e) ≤ sends_of most e.held.attempts e.held.flies + halvings e.held.cap
  unfolding fate_at tries_at
  by_number e p true t room is =
      let k = ap (sends_of most e.held.attempts) is in
      let l = after_fate most clock (fate_at e.held p) e (answers_end (tries_at e.held) ws p.place (kind_of e.held.op.action) a answers)
      (λ again. let lt = retried_tries (tries_at e.held) ws p.place (kind_of e.held.op.action) a again in let le = fits e.held.version in omega (arith, lt, le)) (falls_at e p room is (equal p.request n t)) in
      omega (arith, k, l)
  by_number e p false t room is = omega arith

  by_flight : (e : Entry) (p : Option Place) → e.held.flies ≡ p → Room e → sends_among most (kept_entry clock (fate_of allowed n ws a e.held p) e) ≤ sends_of most e.held.attempts e.held.flies + halvings e.held.cap
  unfolding fate_at tries_at
  by_flight e None is room = omega arith
  by_flight e (Some p) is room = by_number e p (p.request == n) refl room is

  all_at_most : (es : List Entry) → ((e : Entry) → Mem e es → Room e) → sends_among most (kept_entries allowed clock n ws a es) ≤ sends_among most es
  all_at_most [] room = omega arith
  all_at_most (e ∷ es) room =
      let k = sends_append most (kept_entry clock (fate_of allowed n ws a e.held e.held.flies) e) (kept_entries allowed clock n ws a es) in
      let l = by_flight e e.held.flies refl (room e (inl refl)) in
      let r = all_at_most es (λ x m. room x (inr m)) in
      omega (arith, k, l, r)

pub left_answered : (s : State) (number : ℕ) (a : Answer) → IsLane s → a ≢ Unanswered → sends_left (after_answer_to s number a) ≤ sends_left s
left_answered s number a l answers =
    all_at_most (tries_in s.core) s.core.config.max (tries-most s.core.config (old_in s.core)) s.core.clock (from_zero number) (writes_at (from_zero number) s.core.flying) a answers s.core.held
    (λ e m reason large p is here more.
    let ws = ap (λ k. length (writes_at k s.core.flying)) here in
    let le = ((l.in_order e m).flies p is).room (omega (arith, more, ws)) in
    omega (arith, le, ws))

-- what is lost is not halved
pub left_lost : (s : State) (number : ℕ) (why : Loss) → sends_left (after_answer_to s number (Lost why)) ≤ sends_left s
left_lost s number why =
    all_at_most (tries_in s.core) s.core.config.max (tries-most s.core.config (old_in s.core)) s.core.clock (from_zero number) (writes_at (from_zero number) s.core.flying) (Lost why) (λ e. cc) s.core.held
    (λ e m reason large. absurd (cc))

pub fail_takes : (why : Loss) (n : ℕ) (s : State) (items : List BatchItem) → next_batch s ≡ Some items → sends_left (after_fail why n s) + 1 ≤ sends_left s
fail_takes why n s items some = let a = request_takes s items some in let b = left_lost (after_ticks n (after_send s)) s.flights.next why in omega (arith, a, b)

-- ---- each is one that was held

launched_version : (n : ℕ) (e : Entry) (p : Option ℕ) → (launched_at n e.held p).version ≡ e.held.version
launched_version n e None = refl
launched_version n e (Some p) = refl

pub from_sent : (s : State) (items : List BatchItem) → next_batch s ≡ Some items → (d : Entry) → Mem d (after_send s).core.held → (e : Entry) × Mem e s.core.held × (d.held.version ≡ e.held.version)
from_sent s items some d m =
    let x = Mem-map (launched_entry s.core.clock s.core.requests (held_of (next_entries s))) d s.core.held (subst (λ b. Mem d (after_request s b).core.held) some m) in
    (x.0, x.1, ap (λ (y : Entry). y.held.version) x.2 ∙ launched_version s.core.requests x.0 (place_of x.0.held.version (held_of (next_entries s))))

kept_version : (clock : ℕ) (x : Fate) (e d : Entry) → Mem d (kept_entry clock x e) → d.held.version ≡ e.held.version
kept_version clock Flies e d m = ap (λ (y : Entry). y.held.version) (Mem-one d _ m)
kept_version clock Applied e d m = absurd m
kept_version clock Already e d m = absurd m
kept_version clock Retried e d m = ap (λ (y : Entry). y.held.version) (Mem-one d _ m)
kept_version clock (Halved cap) e d m = ap (λ (y : Entry). y.held.version) (Mem-one d _ m)
kept_version clock (Reported cause) e d m = absurd m

from_kept : (allowed : ℕ → ℕ) (clock n : ℕ) (ws : List Write) (a : Answer) (es : List Entry) (d : Entry) → Mem d (kept_entries allowed clock n ws a es) → (e : Entry) × Mem e es × (d.held.version ≡ e.held.version)
from_kept allowed clock n ws a [] d m = absurd m
from_kept allowed clock n ws a (e ∷ es) d m = ⊎_elim {C = (x : Entry) × Mem x (e ∷ es) × (d.held.version ≡ x.held.version)}
    (λ here. (e, inl refl, kept_version clock (fate_of allowed n ws a e.held e.held.flies) e d here))
    (λ later. let r = from_kept allowed clock n ws a es d later in (r.0, inr r.1, r.2))
    (Mem-cases d (kept_entry clock (fate_of allowed n ws a e.held e.held.flies) e) (kept_entries allowed clock n ws a es) m)

pub from_answered : (s : State) (number : ℕ) (a : Answer) (d : Entry) → Mem d (after_answer_to s number a).core.held → (e : Entry) × Mem e s.core.held × (d.held.version ≡ e.held.version)
from_answered s number a d m = from_kept (tries_in s.core) s.core.clock (from_zero number) (writes_at (from_zero number) s.core.flying) a s.core.held d m

-- if nothing is held, an answer leaves nothing
pub none_left : (s : State) (number : ℕ) (a : Answer) → s.core.held ≡ [] → (after_answer_to s number a).core.held ≡ []
none_left s number a none = ap (kept_entries (tries_in s.core) s.core.clock (from_zero number) (writes_at (from_zero number) s.core.flying) a) none
