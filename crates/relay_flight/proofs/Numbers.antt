-- Requests by their numbers: what a look-up finds, and what stays without one number.
use Rattle.std.proofs.Common.{◌≡◌, ℕ, ◌+◌, ◌<◌, ◌≤◌, suc, zero, true, false, not, cond, ◌==◌, eqb, ltb, List, [], ◌∷◌, ◌++◌, length, get_or, None, Some, IsSome, refl, ap, ◌∙◌, sym, arith, inl, inr, eq-eqb}
use Rattle.std.specs.Prelude.{map, option_map}
use Rattle.std.proofs.lemmas.Bool.{ne_eqb, cases_lt, lt-ltb}
use Rattle.std.proofs.lemmas.Bool.Decides.{eqb_tells, Decides-eqb}
use Rattle.std.proofs.lemmas.List.Sums.{fails_before_first}
use Rattle.std.proofs.lemmas.List.Quantifiers.{position-Some}
use Rattle.std.specs.List.{remove, position, position_or_len, filter, find}
use Rattle.std.specs.Map.{lookup}
use Rattle.relay_flight.specs.declared.request.Request.{Request}
use Rattle.relay_flight.specs.Flying.{Items, with_batch, without_batch}
use Rattle.relay_flight.specs.InFlight.{InFlight, AreNumbered, IsOldest, has_number, others, numbered_batch, batches_of, with_request, without_request}

-- ---- none has the number

abbrev pub Lacks : ℕ → List Request → Type 0
Lacks n [] = Unit {0}
Lacks n (r ∷ rs) = (has_number n r ≡ false) × Lacks n rs

pub find-Lacks : (n : ℕ) (rs : List Request) → Lacks n rs → find (has_number n) rs ≡ None
find-Lacks n [] l = refl
find-Lacks n (r ∷ rs) l = let apart = l.0 in rw apart (find-Lacks n rs l.1)

pub others-Lacks : (n : ℕ) (rs : List Request) → Lacks n rs → others n rs ≡ rs
others-Lacks n [] l = refl
others-Lacks n (r ∷ rs) l = let apart = l.0 in rw apart (ap (λ qs. r ∷ qs) (others-Lacks n rs l.1))

lacks_by : (n : ℕ) (rs : List Request) → ((k : ℕ) (d : Request) → k < length rs → has_number n (get_or rs k d) ≡ false) → Lacks n rs
lacks_by n [] h = tt
lacks_by n (r ∷ rs) h = (h 0 r (omega arith), lacks_by n rs (λ k d lt. h (suc k) d (omega arith)))

-- a place that was not found says so
pub Lacks-position : (n : ℕ) (rs : List Request) → position (has_number n) rs ≡ None → Lacks n rs
Lacks-position n rs e =
    elim (cases_lt (position_or_len (has_number n) rs) (length rs)) [
      | inl lt ↦ let found : ltb (position_or_len (has_number n) rs) (length rs) ≡ true = lt-ltb _ _ lt in
          let wrong = rw found at e in cc
      | inr past ↦ lacks_by n rs (λ k d lt. fails_before_first (has_number n) rs k d (omega arith))
    ]

-- increasing numbers are above a number below the lowest
pub lacks_below : (n least next : ℕ) (rs : List Request) → n < least → AreNumbered least next rs → Lacks n rs
lacks_below n least next [] lt a = tt
lacks_below n least next (r ∷ rs) lt a = (
  ne_eqb _ _ (λ e. omega (arith, a.0, e)),
  lacks_below n (r.number + 1) next rs (omega (arith, a.0)) a.2,
)

-- none has the next number
pub lacks_next : (least next : ℕ) (rs : List Request) → AreNumbered least next rs → Lacks next rs
lacks_next least next [] a = tt
lacks_next least next (r ∷ rs) a = (ne_eqb _ _ (λ e. omega (arith, a.1, e)), lacks_next (r.number + 1) next rs a.2)

-- ---- the place of a number

find-get_or : (n : ℕ) (rs : List Request) (i : ℕ) (d : Request) → i < length rs → has_number n (get_or rs i d) ≡ true → ((k : ℕ) → k < i → has_number n (get_or rs k d) ≡ false) → find (has_number n) rs ≡ Some (get_or rs i d)
find-get_or n [] i d lt same h = absurd (omega arith)
find-get_or n (r ∷ rs) zero d lt same h = rw same refl
find-get_or n (r ∷ rs) (suc i) d lt same h =
    let apart : has_number n r ≡ false = h 0 (omega arith) in
    rw apart (find-get_or n rs i d (omega arith) same (λ k below. h (suc k) (omega arith)))

-- at that place is the request that is found
pub find-position : (n : ℕ) (rs : List Request) (i : ℕ) (d : Request) → position (has_number n) rs ≡ Some i → find (has_number n) rs ≡ Some (get_or rs i d)
find-position n rs i d e = let at = position-Some (has_number n) rs i d e in find-get_or n rs i d at.0 at.1 at.2

others-remove : (n least next : ℕ) (rs : List Request) (i : ℕ) (d : Request) → AreNumbered least next rs → i < length rs → has_number n (get_or rs i d) ≡ true → ((k : ℕ) → k < i → has_number n (get_or rs k d) ≡ false) → others n rs ≡ remove rs i
others-remove n least next [] i d a lt same h = absurd (omega arith)
others-remove n least next (r ∷ rs) zero d a lt same h =
    let is : r.number ≡ n = (Decides-eqb _ _).0 same in
    rw same (others-Lacks n rs (lacks_below n (r.number + 1) next rs (omega (arith, is)) a.2))
others-remove n least next (r ∷ rs) (suc i) d a lt same h =
    let apart : has_number n r ≡ false = h 0 (omega arith) in
    rw apart (ap (λ qs. r ∷ qs) (others-remove n (r.number + 1) next rs i d a.2 (omega arith) same (λ k below. h (suc k) (omega arith))))

-- and the others are those without that place
pub others-position : (n least next : ℕ) (rs : List Request) (i : ℕ) (d : Request) → AreNumbered least next rs → position (has_number n) rs ≡ Some i → others n rs ≡ remove rs i
others-position n least next rs i d a e = let at = position-Some (has_number n) rs i d e in others-remove n least next rs i d a at.0 at.1 at.2

-- ---- what is found afterwards

-- without a number
pub find-others : (n k : ℕ) (rs : List Request) → find (has_number k) (others n rs) ≡ cond (k == n) None (find (has_number k) rs)
find-others n k [] = elim (eqb_tells k n) [ inl same ↦ rw same.0 refl | inr apart ↦ rw apart.0 refl ]
find-others n k (r ∷ rs) =
    let rest = find-others n k rs in
    elim (eqb_tells r.number n) [
      | inl left ↦ let gone = left.0 in rw gone (elim (eqb_tells k n) [
        | inl asked ↦ let hit = asked.0 in rw hit (rw hit at rest)
        | inr asked ↦
            let miss = asked.0 in
            let other : eqb r.number k ≡ false = ne_eqb _ _ (λ q. asked.1 (sym q ∙ left.1)) in
            rw (miss, other) (rw miss at rest)
      ])
      | inr stays ↦ let kept = stays.0 in rw kept (elim (eqb_tells r.number k) [
        | inl asked ↦
            let hit = asked.0 in
            let other : eqb k n ≡ false = ne_eqb _ _ (λ q. stays.1 (asked.1 ∙ q)) in
            rw (hit, other) refl
        | inr asked ↦ let miss = asked.0 in rw miss rest
      ])
    ]

-- with one more, whose number no other has
pub find-push : (k : ℕ) (rs : List Request) (x : Request) → Lacks x.number rs → find (has_number k) (rs ++ x ∷ []) ≡ cond (k == x.number) (Some x) (find (has_number k) rs)
find-push k [] x l =
    elim (eqb_tells x.number k) [
      | inl asked ↦ let hit = asked.0 in let same : eqb k x.number ≡ true = eq-eqb _ _ (sym asked.1) in rw (hit, same) refl
      | inr asked ↦ let miss = asked.0 in let other : eqb k x.number ≡ false = ne_eqb _ _ (λ q. asked.1 (sym q)) in rw (miss, other) refl
    ]
find-push k (r ∷ rs) x l =
    elim (eqb_tells r.number k) [
      | inl asked ↦
          let hit = asked.0 in
          let apart : eqb r.number x.number ≡ false = l.0 in
          let other : eqb k x.number ≡ false = ne_eqb _ _ (λ q. let same : eqb r.number x.number ≡ true = eq-eqb _ _ (asked.1 ∙ q) in cc) in
          rw (hit, other) refl
      | inr asked ↦ let miss = asked.0 in rw miss (find-push k rs x l.1)
    ]

-- ---- the numbers still increase

pub numbered_push : (least next : ℕ) (rs : List Request) (x : Request) → least ≤ next → x.number ≡ next → AreNumbered least next rs → AreNumbered least (next + 1) (rs ++ x ∷ [])
numbered_push least next [] x le e a = (omega (arith, le, e), omega (arith, e), tt)
numbered_push least next (r ∷ rs) x le e a =
    let low = a.0 in let high = a.1 in
    (low, omega (arith, high), numbered_push (r.number + 1) next rs x (omega (arith, high)) e a.2)

numbered_from : (least least' next : ℕ) (rs : List Request) → least' ≤ least → AreNumbered least next rs → AreNumbered least' next rs
numbered_from least least' next [] le a = tt
numbered_from least least' next (r ∷ rs) le a = let low = a.0 in (omega (arith, le, low), a.1, a.2)

pub numbered_others : (n least next : ℕ) (rs : List Request) → AreNumbered least next rs → AreNumbered least next (others n rs)
numbered_others n least next [] a = tt
numbered_others n least next (r ∷ rs) a =
    elim (eqb_tells r.number n) [
      | inl left ↦ let gone = left.0 in
          rw gone (numbered_from (r.number + 1) least next (others n rs) (let low = a.0 in omega (arith, low)) (numbered_others n (r.number + 1) next rs a.2))
      | inr stays ↦ let kept = stays.0 in rw kept (a.0, a.1, numbered_others n (r.number + 1) next rs a.2)
    ]

pub fewer_others : (n : ℕ) (rs : List Request) → length (others n rs) ≤ length rs
fewer_others n [] = omega arith
fewer_others n (r ∷ rs) =
    let rest = fewer_others n rs in
    elim (eqb_tells r.number n) [
      | inl left ↦ let gone = left.0 in rw gone (omega (arith, rest))
      | inr stays ↦ let kept = stays.0 in rw kept (omega (arith, rest))
    ]

-- ---- the first of increasing numbers

-- what is found is not below the least
pub least_found : (least next k : ℕ) (rs : List Request) → AreNumbered least next rs → IsSome (find (has_number k) rs) → least ≤ k
least_found least next k [] a found = cc
least_found least next k (r ∷ rs) a found =
    let low = a.0 in
    elim (eqb_tells r.number k) [
      | inl same ↦ omega (arith, low, same.1)
      | inr apart ↦ let rest = least_found (r.number + 1) next k rs a.2 (let off = apart.0 in rw off at found) in omega (arith, low, rest)
    ]

-- the first is the oldest
pub first_oldest : (max next : ℕ) (rs : List Request) (d : Request) → AreNumbered 1 next rs → 0 < length rs → IsOldest (get_or rs 0 d).number (record { max = max; next = next; requests = rs })
first_oldest max next [] d a lt = absurd (omega arith)
first_oldest max next (r ∷ rs) d a lt = record {
  flies = (let same : eqb r.number r.number ≡ true = eq-eqb _ _ refl in rw same refl);
  least = λ k found. least_found r.number next k (r ∷ rs) (omega arith, a.1, a.2) found;
}

-- ---- the batches alone

pub batch_seen : (k : ℕ) (rs : List Request) → option_map (λ (r : Request). r.batch) (find (has_number k) rs) ≡ lookup (λ n. n == k) (map numbered_batch rs)
batch_seen k [] = refl
batch_seen k (r ∷ rs) = elim (eqb_tells r.number k) [
  | inl same ↦ let hit = same.0 in rw hit refl
  | inr apart ↦ let miss = apart.0 in rw miss (batch_seen k rs)
]

batches_more : (rs : List Request) (x : Request) → map numbered_batch (rs ++ x ∷ []) ≡ map numbered_batch rs ++ numbered_batch x ∷ []
batches_more [] x = refl
batches_more (r ∷ rs) x = ap (λ bs. numbered_batch r ∷ bs) (batches_more rs x)

-- a request enters with its batch
pub batches_entered : (x : Request) (f : InFlight) → x.number ≡ f.next → batches_of (with_request x f) ≡ with_batch x.batch (batches_of f)
batches_entered x f e = (λ i. record { max = f.max; next = f.next + 1; batches = batches_more f.requests x i }) ∙ (λ i. record { max = f.max; next = f.next + 1; batches = map numbered_batch f.requests ++ (e i, x.batch) ∷ [] })

batches_others : (n : ℕ) (rs : List Request) → map numbered_batch (others n rs) ≡ filter (λ (e : ℕ × Items). not (e.0 == n)) (map numbered_batch rs)
batches_others n [] = refl
batches_others n (r ∷ rs) = elim (eqb_tells r.number n) [
  | inl left ↦ let gone = left.0 in rw gone (batches_others n rs)
  | inr stays ↦ let kept = stays.0 in rw kept (ap (λ bs. numbered_batch r ∷ bs) (batches_others n rs))
]

-- and is settled with it
pub batches_settled : (n : ℕ) (f : InFlight) → batches_of (without_request n f) ≡ without_batch n (batches_of f)
batches_settled n f = λ i. record { max = f.max; next = f.next; batches = batches_others n f.requests i }
