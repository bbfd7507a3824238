-- What is read of the held list, and who is a candidate.
use Rattle.std.proofs.Common.{◌≡◌, ℕ, zero, suc, ◌+◌, ◌-◌, ◌≤◌, List, [], ◌∷◌, Option, Some, None, true, false, ◌==◌, ◌&&◌, ◌||◌, refl, sym, ap, ◌∙◌, subst, ⊎_elim, inl, inr, arith}
use Rattle.std.specs.Prelude.{◌⊎◌, if◌then◌else◌, not, nat_lt, nat_le, map, filter, option_map, is_some, Result, Ok, Err, IfOk, OnErr, IfSome}
use Rattle.std.specs.List.{list_any, find}
use Rattle.relay_action.specs.declared.write.Write.{Write}
use Rattle.relay_results.specs.Documents.{document_of, same_document}
use Rattle.relay_core.specs.State.{State, is_eligible, first_due, sooner, due_in}
use Rattle.relay_delivery.specs.Lane as delivery
use Rattle.relay_delivery.specs.Lane.{Flying, writes_at, held_of, waits, is_later, is_candidate, candidates}
use Rattle.relay_results.proofs.Lists.{true_or_false, equal}
use Rattle.relay_held.specs.declared.kept.Kept.{Kept}
use Rattle.relay_held.specs.declared.kept.Spot.{Spot}
use Rattle.relay_flight.specs.declared.request.Request.{Request}
use Rattle.relay_flight.specs.InFlight.{AreNumbered, has_number}
use Rattle.relay_core.specs.Rule.{item_of}
use Rattle.relay_core.proofs.Keeping.{one_less}
use Rattle.relay_flight.proofs.Numbers.{least_found}
use Rattle.relay_core.specs.Walk.{waits_here, is_later_kept, is_eligible_kept, first_due_kept, is_candidate_kept, item_of_kept, items_of_kept}
use Rattle.relay_core.specs.Memory.{is_in, writes_in, flying_of, place_at, held_seen, entry_of, entries}

waits_seen : (p : Option Spot) → waits (option_map place_at p) ≡ waits_here p
waits_seen None = refl
waits_seen (Some s) = refl

behind_seen : (f : ℕ → List Write) (hs : List Kept) (h : Kept) → is_later (held_of (entries hs f)) (held_seen f h) ≡ is_later_kept hs (document_of h.key) h.version
behind_seen f [] h = refl
behind_seen f (j ∷ hs) h = ap (λ b. (same_document (document_of j.key) (document_of h.key) && nat_lt j.version h.version) || b) (behind_seen f hs h)

pub candidate_seen : (s : delivery.State) (f : ℕ → List Write) (hs : List Kept) (h : Kept) → s.held ≡ entries hs f → is_candidate s (entry_of f h) ≡ is_candidate_kept hs s.clock h
candidate_seen s f hs h e =
    (λ i. waits_seen h.flies i && (nat_le h.due s.clock && not (is_later (held_of (e i)) (held_seen f h))))
    ∙ ap (λ b. waits_here h.flies && (nat_le h.due s.clock && not b)) (behind_seen f hs h)

filter_seen : (s : delivery.State) (f : ℕ → List Write) (hs rest : List Kept) → s.held ≡ entries hs f → filter (is_candidate s) (entries rest f) ≡ entries (filter (is_candidate_kept hs s.clock) rest) f
filter_seen s f hs [] e = refl
filter_seen s f hs (h ∷ rest) e =
    let c = candidate_seen s f hs h e in
    ap (λ b. if b then entry_of f h ∷ filter (is_candidate s) (entries rest f) else filter (is_candidate s) (entries rest f)) c
    ∙ ⊎_elim {C = (if is_candidate_kept hs s.clock h then entry_of f h ∷ filter (is_candidate s) (entries rest f) else filter (is_candidate s) (entries rest f)) ≡ entries (filter (is_candidate_kept hs s.clock) (h ∷ rest)) f}
    (λ t. rw t (ap (λ xs. entry_of f h ∷ xs) (filter_seen s f hs rest e)))
    (λ t. rw t (filter_seen s f hs rest e))
    (true_or_false (is_candidate_kept hs s.clock h))

pub candidates_seen : (s : delivery.State) (f : ℕ → List Write) (hs : List Kept) → s.held ≡ entries hs f → candidates s ≡ entries (filter (is_candidate_kept hs s.clock) hs) f
candidates_seen s f hs e = ap (filter (is_candidate s)) e ∙ filter_seen s f hs hs e

pub items_seen : (f : ℕ → List Write) (hs : List Kept) → map item_of (entries hs f) ≡ map item_of_kept hs
items_seen f [] = refl
items_seen f (h ∷ hs) = ap (λ is. item_of_kept h ∷ is) (items_seen f hs)

pub offers_seen : (s : delivery.State) (f : ℕ → List Write) (hs : List Kept) → s.held ≡ entries hs f → map item_of (candidates s) ≡ items_of_kept hs s.clock hs
offers_seen s f hs e = ap (map item_of) (candidates_seen s f hs e) ∙ items_seen f (filter (is_candidate_kept hs s.clock) hs)

-- ---- results

pub on_err_map : {A E : Type 0} (r : Result A E) (P Q : Type 0) → (P → Q) → OnErr r P → OnErr r Q
on_err_map (Ok x) P Q f h = tt
on_err_map (Err e) P Q f h = f h

pub if_ok_map : {A E : Type 0} (r : Result A E) (P Q : A → Type 0) → ((x : A) → P x → Q x) → IfOk r P → IfOk r Q
if_ok_map (Ok x) P Q f h = f x h
if_ok_map (Err e) P Q f h = tt

pub if_some_map : {A : Type 0} (o : Option A) (P Q : A → Type 0) → ((x : A) → P x → Q x) → IfSome o P → IfSome o Q
if_some_map None P Q f h = tt
if_some_map (Some x) P Q f h = f x h

-- ---- requests in flight

-- the writes of a request, as the state counts them
pub writes_seen : (least next : ℕ) (xs : List Request) (n : ℕ) → 1 ≤ least → AreNumbered least next xs → 1 ≤ n → writes_at (n - 1) (map flying_of xs) ≡ writes_in xs n
writes_seen least next [] n from a le = refl
writes_seen least next (x ∷ xs) n from a le =
    let low = a.0 in
    (λ i. if one_less x.number n (omega (arith, from, low)) le i then x.writes.items else writes_seen (x.number + 1) next xs n (omega arith) a.2 le i)

pub number_seen : (least next : ℕ) (xs : List Request) (b : ℕ) → 1 ≤ least → AreNumbered least next xs → is_in b xs ≡ list_any (λ (x : Flying). x.request + 1 == b) (map flying_of xs)
number_seen least next [] b from a = refl
number_seen least next (x ∷ xs) b from a =
    let low = a.0 in
    let same : x.number ≡ x.number - 1 + 1 = omega (arith, from, low) in
    λ i. (same i == b) || number_seen (x.number + 1) next xs b (omega arith) a.2 i

-- what is found is in flight, and has the writes
pub found_in : (xs : List Request) (n : ℕ) → is_some (find (has_number n) xs) ≡ is_in n xs
found_in [] n = refl
found_in (x ∷ xs) n = ⊎_elim {C = is_some (find (has_number n) (x ∷ xs)) ≡ is_in n (x ∷ xs)}
    (λ t. ap (λ b. is_some (if b then Some x else find (has_number n) xs)) t ∙ sym (ap (λ b. b || is_in n xs) t))
    (λ t. ap (λ b. is_some (if b then Some x else find (has_number n) xs)) t ∙ found_in xs n ∙ sym (ap (λ b. b || is_in n xs) t))
    (true_or_false (x.number == n))

pub found_writes : (xs : List Request) (n : ℕ) → IfSome (find (has_number n) xs) (λ (r : Request). r.writes.items ≡ writes_in xs n)
found_writes [] n = tt
found_writes (x ∷ xs) n = ⊎_elim {C = IfSome (find (has_number n) (x ∷ xs)) (λ (r : Request). r.writes.items ≡ writes_in (x ∷ xs) n)}
    (λ t. subst (λ b. IfSome (if b then Some x else find (has_number n) xs) (λ (r : Request). r.writes.items ≡ (if b then x.writes.items else writes_in xs n))) (sym t) refl)
    (λ t. subst (λ b. IfSome (if b then Some x else find (has_number n) xs) (λ (r : Request). r.writes.items ≡ (if b then x.writes.items else writes_in xs n))) (sym t) (found_writes xs n))
    (true_or_false (x.number == n))

pub writes_of_found : (xs : List Request) (n : ℕ) (r : Request) → find (has_number n) xs ≡ Some r → r.writes.items ≡ writes_in xs n
writes_of_found xs n r e = subst (λ o. IfSome o (λ (x : Request). x.writes.items ≡ writes_in xs n)) e (found_writes xs n)

-- a number that is found was given
pub found_from : (next : ℕ) (xs : List Request) (n : ℕ) (r : Request) → AreNumbered 1 next xs → find (has_number n) xs ≡ Some r → 1 ≤ n
found_from next xs n r a e = least_found 1 next n xs a (ap is_some e)

some_as : (next : ℕ) (xs : List Request) (n : ℕ) (o : Option Request) → AreNumbered 1 next xs → find (has_number n) xs ≡ o → IfSome o (λ (r : Request). r.writes.items ≡ writes_at (n - 1) (map flying_of xs))
some_as next xs n None a e = tt
some_as next xs n (Some r) a e = writes_of_found xs n r e ∙ sym (writes_seen 1 next xs n (omega arith) a (found_from next xs n r a e))

pub some_read : {A B R : Type 0} (o : Option A) (q : Option R) (f : A → B) (g : R → B) (b : B) → option_map f o ≡ option_map g q → IfSome q (λ r. g r ≡ b) → IfSome o (λ x. f x ≡ b)
some_read None q f g b e h = tt
some_read (Some x) None f g b e h = absurd (cc)
some_read (Some x) (Some r) f g b e h = let same : f x ≡ g r = cc in same ∙ h

pub found_seen : (next : ℕ) (xs : List Request) (n : ℕ) → AreNumbered 1 next xs → IfSome (find (has_number n) xs) (λ (r : Request). r.writes.items ≡ writes_at (n - 1) (map flying_of xs))
found_seen next xs n a = some_as next xs n (find (has_number n) xs) a refl

pub is_some_map : {A B : Type 0} (f : A → B) (o : Option A) → is_some (option_map f o) ≡ is_some o
is_some_map f None = refl
is_some_map f (Some x) = refl

pub number_zero : (xs : List Flying) (b : ℕ) → b ≡ 0 → false ≡ list_any (λ (x : Flying). x.request + 1 == b) xs
number_zero [] b e = refl
number_zero (x ∷ xs) b e = ⊎_elim {C = false ≡ list_any (λ (y : Flying). y.request + 1 == b) (x ∷ xs)}
    (λ t. let k = equal (x.request + 1) b t in absurd (omega (arith, k, e)))
    (λ t. number_zero xs b e ∙ sym (ap (λ v. v || list_any (λ (y : Flying). y.request + 1 == b) xs) t))
    (true_or_false (x.request + 1 == b))

zero_or : (b : ℕ) → (b ≡ 0) ⊎ (1 ≤ b)
zero_or zero = inl refl
zero_or (suc b) = inr (omega arith)

-- numbers are from 1
pub flying_positive : (xs : List Flying) (b : ℕ) → list_any (λ (x : Flying). x.request + 1 == b) xs ≡ true → 1 ≤ b
flying_positive xs b t = ⊎_elim {C = 1 ≤ b} (λ e. let n = number_zero xs b e in absurd (cc)) (λ le. le) (zero_or b)

-- ---- who is due first

eligible_seen : (s : State) (f : ℕ → List Write) (hs : List Kept) (h : Kept) → s.core.held ≡ entries hs f → is_eligible s (entry_of f h) ≡ is_eligible_kept hs h
eligible_seen s f hs h e =
    (λ i. waits_seen h.flies i && not (is_later (held_of (e i)) (held_seen f h)))
    ∙ ap (λ b. waits_here h.flies && not b) (behind_seen f hs h)

eligibles_seen : (s : State) (f : ℕ → List Write) (hs rest : List Kept) → s.core.held ≡ entries hs f → filter (is_eligible s) (entries rest f) ≡ entries (filter (is_eligible_kept hs) rest) f
eligibles_seen s f hs [] e = refl
eligibles_seen s f hs (h ∷ rest) e =
    ap (λ b. if b then entry_of f h ∷ filter (is_eligible s) (entries rest f) else filter (is_eligible s) (entries rest f)) (eligible_seen s f hs h e)
    ∙ ⊎_elim {C = (if is_eligible_kept hs h then entry_of f h ∷ filter (is_eligible s) (entries rest f) else filter (is_eligible s) (entries rest f)) ≡ entries (filter (is_eligible_kept hs) (h ∷ rest)) f}
    (λ t. rw t (ap (λ xs. entry_of f h ∷ xs) (eligibles_seen s f hs rest e)))
    (λ t. rw t (eligibles_seen s f hs rest e))
    (true_or_false (is_eligible_kept hs h))

dues_seen : (f : ℕ → List Write) (hs : List Kept) → first_due (entries hs f) ≡ first_due_kept hs
dues_seen f [] = refl
dues_seen f (h ∷ hs) = ap (sooner h.due) (dues_seen f hs)

pub first_due_seen : (s : State) (f : ℕ → List Write) (hs : List Kept) → s.core.held ≡ entries hs f → first_due (filter (is_eligible s) s.core.held) ≡ first_due_kept (filter (is_eligible_kept hs) hs)
first_due_seen s f hs e = ap (λ es. first_due (filter (is_eligible s) es)) e ∙ ap first_due (eligibles_seen s f hs hs e) ∙ dues_seen f (filter (is_eligible_kept hs) hs)

pub due_in_seen : (s : State) (f : ℕ → List Write) (hs : List Kept) → s.core.held ≡ entries hs f → due_in s ≡ option_map (λ due. due - s.core.clock) (first_due_kept (filter (is_eligible_kept hs) hs))
due_in_seen s f hs e = ap (option_map (λ due. due - s.core.clock)) (first_due_seen s f hs e)
