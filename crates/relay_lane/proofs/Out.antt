-- Which numbers are outstanding while requests are sent and answered.
use Rattle.std.proofs.Common.{◌≡◌, ℕ, ◌+◌, ◌<◌, ◌≤◌, List, [], ◌∷◌, ◌++◌, length, Some, None, Bool, true, false, ◌==◌, ◌||◌, refl, sym, ap, ◌∙◌, subst, ⊎_elim, inl, inr, arith}
use Rattle.std.specs.Prelude.{not, filter, unwrap_or, if◌then◌else◌}
use Rattle.std.specs.List.{list_any}
use Rattle.relay_action.specs.declared.mail.Body.TheVariants as body
use Rattle.relay_batch.specs.declared.item.BatchItem.{BatchItem}
use Rattle.relay_results.specs.Words.{Mem}
use Rattle.relay_results.specs.Numbers.{from_one, from_zero}
use Rattle.relay_results.specs.Outside.{Answer}
use Rattle.relay_results.proofs.Lists.{true_or_false, equal, equal_test, Mem-cases, Mem-one}
use Rattle.relay_delivery.specs.Lane.{Flying, is_other, writes_at, writes_of_all}
use Rattle.relay_core.specs.State.{State, AreNumbered, IsLane, first_number, oldest, next_batch, next_entries, after_request, after_answer_to, is_flying, writes_of}
use Rattle.relay_results.specs.declared.cause.Loss.{Loss}
use Rattle.relay_lane.specs.Wires.{without}
use Rattle.relay_lane.specs.Out.{numbers_of, out_of}
use Rattle.relay_lane.specs.Turns.{after_send, after_fail, after_answer}
use Rattle.relay_lane.specs.Laws.{NothingIsOut, TakeKeepsOut}

-- ---- requests in a list

unequal : (m n : ℕ) → (m ≡ n → ⊥) → (m == n) ≡ false
unequal m n ne = ⊎_elim {C = (m == n) ≡ false} (λ t. absurd (ne (equal m n t))) (λ t. t) (true_or_false (m == n))

numbered_at : (least next : ℕ) (fs : List Flying) (f : Flying) → AreNumbered least next fs → Mem f fs → (least ≤ f.request) × (f.request < next)
numbered_at least next [] f a m = absurd m
numbered_at least next (x ∷ fs) f a (inl e) = let k = ap (λ (y : Flying). y.request) e in let low = a.0 in let high = a.1 in (omega (arith, k, low), omega (arith, k, high))
numbered_at least next (x ∷ fs) f a (inr m) = let r = numbered_at (x.request + 1) next fs f a.2 m in let low = a.0 in let above = r.0 in (omega (arith, low, above), r.1)

-- none of them has this number
abbrev Others : ℕ → List Flying → Type 0
Others k fs = (f : Flying) → Mem f fs → (f.request == k) ≡ false

others_before : (least next k : ℕ) (fs : List Flying) → AreNumbered least next fs → next ≤ k → Others k fs
others_before least next k fs a le f m = unequal f.request k (λ e. let h = (numbered_at least next fs f a m).1 in absurd (omega (arith, h, e, le)))

others_after : (least next k : ℕ) (fs : List Flying) → AreNumbered least next fs → k < least → Others k fs
others_after least next k fs a lt f m = unequal f.request k (λ e. let l = (numbered_at least next fs f a m).0 in absurd (omega (arith, l, e, lt)))

all_other : (k : ℕ) (fs : List Flying) → Others k fs → filter (is_other k) fs ≡ fs
all_other k [] none = refl
all_other k (f ∷ fs) none = ap (λ b. if not b then f ∷ filter (is_other k) fs else filter (is_other k) fs) (none f (inl refl)) ∙ ap (λ xs. f ∷ xs) (all_other k fs (λ x m. none x (inr m)))

-- the last is gone
last_gone : (k : ℕ) (fs : List Flying) (x : Flying) → x.request ≡ k → Others k fs → filter (is_other k) (fs ++ x ∷ []) ≡ fs
last_gone k [] x is none = ap (λ b. if not b then x ∷ [] else []) (equal_test x.request k is)
last_gone k (f ∷ fs) x is none =
    ap (λ b. if not b then f ∷ filter (is_other k) (fs ++ x ∷ []) else filter (is_other k) (fs ++ x ∷ [])) (none f (inl refl))
    ∙ ap (λ xs. f ∷ xs) (last_gone k fs x is (λ y m. none y (inr m)))

-- the first is gone
first_gone : (least next : ℕ) (f : Flying) (fs : List Flying) → AreNumbered least next (f ∷ fs) → filter (is_other f.request) (f ∷ fs) ≡ fs
first_gone least next f fs a =
    ap (λ b. if not b then f ∷ filter (is_other f.request) fs else filter (is_other f.request) fs) (equal_test f.request f.request refl)
    ∙ all_other f.request fs (others_after (f.request + 1) next f.request fs a.2 (omega arith))

any_last : (number : ℕ) (fs : List Flying) (x : Flying) → from_one x.request ≡ number → list_any (λ (f : Flying). from_one f.request == number) (fs ++ x ∷ []) ≡ true
any_last number [] x is = ap (λ b. b || false) (equal_test (from_one x.request) number is)
any_last number (f ∷ fs) x is = ap (λ b. (from_one f.request == number) || b) (any_last number fs x is) ∙ or_true (from_one f.request == number)
  where
    or_true : (b : Bool) → (b || true) ≡ true
    or_true true = refl
    or_true false = refl

writes_last : (k : ℕ) (fs : List Flying) (x : Flying) → x.request ≡ k → Others k fs → writes_at k (fs ++ x ∷ []) ≡ x.writes
writes_last k [] x is none = ap (λ b. if b then x.writes else []) (equal_test x.request k is)
writes_last k (f ∷ fs) x is none = ap (λ b. if b then f.writes else writes_at k (fs ++ x ∷ [])) (none f (inl refl)) ∙ writes_last k fs x is (λ y m. none y (inr m))

-- ---- their numbers

numbers_push : (fs : List Flying) (x : Flying) → numbers_of (fs ++ x ∷ []) ≡ from_one x.request ∷ numbers_of fs
numbers_push [] x = refl
numbers_push (f ∷ fs) x = ap (λ ns. ns ++ from_one f.request ∷ []) (numbers_push fs x)

is_between : (least next : ℕ) (fs : List Flying) (n : ℕ) → AreNumbered least next fs → Mem n (numbers_of fs) → (least < n) × (n ≤ next)
is_between least next [] n a m = absurd m
is_between least next (f ∷ fs) n a m = ⊎_elim {C = (least < n) × (n ≤ next)}
    (λ later. let r = is_between (f.request + 1) next fs n a.2 later in let low = a.0 in let above = r.0 in (omega (arith, low, above), r.1))
    (λ here. let e = Mem-one n (from_one f.request) here in let low = a.0 in let high = a.1 in (omega (arith, e, low), omega (arith, e, high)))
    (Mem-cases n (numbers_of fs) (from_one f.request ∷ []) m)

without_last : (n : ℕ) (ns : List ℕ) → (Mem n ns → ⊥) → without n (ns ++ n ∷ []) ≡ ns
without_last n [] none = ap (λ b. if b then [] else n ∷ []) (equal_test n n refl)
without_last n (m ∷ ns) none =
    ap (λ b. if b then ns ++ n ∷ [] else m ∷ without n (ns ++ n ∷ [])) (unequal m n (λ e. none (inl (sym e))))
    ∙ ap (λ xs. m ∷ xs) (without_last n ns (λ x. none (inr x)))

without_first : (least next : ℕ) (f : Flying) (fs : List Flying) → AreNumbered least next (f ∷ fs) → without (from_one f.request) (numbers_of (f ∷ fs)) ≡ numbers_of fs
without_first least next f fs a =
    without_last (from_one f.request) (numbers_of fs) (λ m. let r = (is_between (f.request + 1) next fs (from_one f.request) a.2 m).0 in absurd (omega (arith, r)))

at_end : (n : ℕ) (ns : List ℕ) → Mem n (ns ++ n ∷ [])
at_end n [] = inl refl
at_end n (m ∷ ns) = inr (at_end n ns)

-- ---- a request is sent

module _ (s : State) (l : IsLane s) (items : List BatchItem) (some : next_batch s ≡ Some items) where
  -- the request as it flies
  its_flight : Flying
  its_flight = record { request = s.core.requests; writes = writes_of_all (next_entries s) }

  flying_is : (after_send s).core.flying ≡ s.core.flying ++ its_flight ∷ []
  unfolding its_flight
  flying_is = ap (λ b. (after_request s b).core.flying) some

  zero_is : from_zero s.flights.next ≡ s.core.requests
  zero_is = let n = l.next in omega (arith, n)

  none_like_it : Others s.core.requests s.core.flying
  none_like_it = others_before 0 s.core.requests s.core.requests s.core.flying l.numbered (omega arith)

  pub request_flies : is_flying s.flights.next (after_send s) ≡ true
  unfolding its_flight
  request_flies = ap (list_any (λ (f : Flying). from_one f.request == s.flights.next)) flying_is ∙ any_last s.flights.next s.core.flying its_flight (sym l.next)

  pub request_writes : writes_of s.flights.next (after_send s) ≡ writes_of_all (next_entries s)
  unfolding its_flight
  request_writes = ap (writes_at (from_zero s.flights.next)) flying_is ∙ ap (λ n. writes_at n (s.core.flying ++ its_flight ∷ [])) zero_is ∙ writes_last s.core.requests s.core.flying its_flight refl none_like_it

  -- it is outstanding
  pub out_sent : out_of (after_send s) ≡ s.flights.next ∷ out_of s
  unfolding its_flight
  out_sent = ap numbers_of flying_is ∙ numbers_push s.core.flying its_flight ∙ ap (λ n. n ∷ out_of s) (sym l.next)

  pub flying_more : length (after_send s).core.flying ≡ length s.core.flying + 1
  flying_more = ap length flying_is ∙ more s.core.flying its_flight
    where
      more : (fs : List Flying) (x : Flying) → length (fs ++ x ∷ []) ≡ length fs + 1
      more [] x = refl
      more (f ∷ fs) x = let r = more fs x in omega (arith, r)

  -- or could not be sent
  pub flying_again : (why : Loss) (n : ℕ) → (after_fail why n s).core.flying ≡ s.core.flying
  unfolding its_flight
  flying_again why n = ap (filter (is_other (from_zero s.flights.next))) flying_is ∙ ap (λ n. filter (is_other n) (s.core.flying ++ its_flight ∷ [])) zero_is
      ∙ last_gone s.core.requests s.core.flying its_flight refl none_like_it

  pub out_failed : (why : Loss) (n : ℕ) → out_of (after_fail why n s) ≡ out_of s
  out_failed why n = ap numbers_of (flying_again why n)

-- its number was not outstanding
pub next_is_new : (s : State) → IsLane s → Mem s.flights.next (out_of s) → ⊥
next_is_new s l m = let r = (is_between 0 s.core.requests s.core.flying s.flights.next l.numbered m).1 in let n = l.next in absurd (omega (arith, r, n))

-- ---- the oldest is answered

pub record Oldest (s : State) (number : ℕ) : Type 0 where
  pub first : Flying
  pub rest : List Flying
  pub are : s.core.flying ≡ first ∷ rest
  pub is : number ≡ from_one first.request

oldest_in : (fs : List Flying) (n : ℕ) → first_number fs ≡ Some n → (f : Flying) × (rest : List Flying) × (fs ≡ f ∷ rest) × (n ≡ from_one f.request)
oldest_in [] n e = absurd (cc)
oldest_in (f ∷ fs) n e = (f, fs, refl, (let k : from_one f.request ≡ n = cc in sym k))

pub oldest_is : (s : State) (n : ℕ) → oldest s ≡ Some n → Oldest s n
oldest_is s n e = let x = oldest_in s.core.flying n e in record { first = x.0; rest = x.1; are = x.2; is = x.3 }

none_first : (fs : List Flying) → first_number fs ≡ None → length fs ≡ 0
none_first [] e = refl
none_first (f ∷ fs) e = absurd (cc)

pub no_oldest : (s : State) → oldest s ≡ None → length s.core.flying ≡ 0
no_oldest s e = none_first s.core.flying e

module _ (s : State) (l : IsLane s) (n : ℕ) (o : Oldest s n) where
  numbered : AreNumbered 0 s.core.requests (o.first ∷ o.rest)
  numbered = subst (AreNumbered 0 s.core.requests) o.are l.numbered

  pub oldest_number : unwrap_or (oldest s) 0 ≡ n
  oldest_number = ap (λ fs. unwrap_or (first_number fs) 0) o.are ∙ sym o.is

  pub oldest_flies : is_flying n s ≡ true
  oldest_flies = ap (list_any (λ (f : Flying). from_one f.request == n)) o.are
      ∙ ap (λ b. b || list_any (λ (f : Flying). from_one f.request == n) o.rest) (equal_test (from_one o.first.request) n (sym o.is))

  pub oldest_some : 0 < length s.core.flying
  oldest_some = let k = ap length o.are in omega (arith, k)

  pub oldest_out : Mem n (out_of s)
  oldest_out = subst (λ ns. Mem n ns) (sym (ap numbers_of o.are)) (subst (λ m. Mem n (numbers_of o.rest ++ m ∷ [])) o.is (at_end n (numbers_of o.rest)))

  pub rest_flies : (a : Answer) → (after_answer_to s n a).core.flying ≡ o.rest
  rest_flies a =
      let zero : from_zero n ≡ o.first.request = (let k = o.is in omega (arith, k)) in
      ap (filter (is_other (from_zero n))) o.are ∙ ap (λ k. filter (is_other k) (o.first ∷ o.rest)) zero ∙ first_gone 0 s.core.requests o.first o.rest numbered

  pub one_fewer : (a : Answer) → length s.core.flying ≡ length (after_answer_to s n a).core.flying + 1
  one_fewer a = let k = ap length o.are in let r = ap length (rest_flies a) in omega (arith, k, r)

  pub out_answered : (a : Answer) → without n (out_of s) ≡ out_of (after_answer_to s n a)
  out_answered a =
      ap (λ ns. without n ns) (ap numbers_of o.are) ∙ ap (λ m. without m (numbers_of (o.first ∷ o.rest))) o.is
      ∙ without_first 0 s.core.requests o.first o.rest numbered ∙ sym (ap numbers_of (rest_flies a))

pub flying_first : (s : State) → 0 < length s.core.flying → (n : ℕ) × (oldest s ≡ Some n)
flying_first s some = first_in s.core.flying some
  where
    first_in : (fs : List Flying) → 0 < length fs → (n : ℕ) × (first_number fs ≡ Some n)
    first_in [] some = absurd (omega (arith, some))
    first_in (f ∷ fs) some = (_, refl)

-- one fewer flies then
pub one_gone : (s t : State) (a : Answer) → IsLane s → 0 < length s.core.flying → t ≡ after_answer a s → length s.core.flying ≡ length t.core.flying + 1
one_gone s t a l some e =
    let n = flying_first s some in
    let o = oldest_is s n.0 n.1 in
    let at : t ≡ after_answer_to s n.0 a = e ∙ ap (λ k. after_answer_to s k a) (oldest_number s l n.0 o) in
    let fewer = one_fewer s l n.0 o a in
    let flying = ap (λ (x : State). length x.core.flying) at in
    omega (arith, fewer, flying)

-- ---- a fresh lane, and what is taken

pub nothing_is_out : NothingIsOut
nothing_is_out c = refl

pub take_keeps_out : TakeKeepsOut
take_keeps_out s sender (body.Put o) = refl
take_keeps_out s sender body.Tick = refl
take_keeps_out s sender body.Flush = refl
take_keeps_out s sender body.Done = refl
