-- A list of refusals, cut at its commas.
use Rattle.std.proofs.Common.{◌≡◌, ◌≢◌, ℕ, zero, suc, ◌+◌, ◌<◌, ◌≤◌, List, [], ◌∷◌, ◌++◌, length, drop, take, get_or, None, Some, true, false, ◌==◌, if◌then◌else◌, refl, ap, sym, subst, ◌∙◌, arith, append_assoc, length-append}
use Rattle.std.proofs.lemmas.List.{drop_at, get_or_append_left, get_or_at, length_push, take_all, take_at}
use Rattle.std.proofs.lemmas.List.Sums.{position_or_len_is, passes_at_first, split_at_first}
use Rattle.std.proofs.lemmas.Bool.{eqb-true}
use Rattle.std.proofs.lemmas.Bool.Decides.{nat_tests}
use Rattle.std.proofs.lemmas.Grind.{common_steps}
use Rattle.std.specs.Option.{option_or}
use Rattle.std.specs.List.{before_first, after_first, position_or_len}
use Rattle.std.specs.Char.{digit_value}
use Rattle.std.specs.Str.Parse.{AllDigits}
use Rattle.relay_index.specs.Choices.{MayRefuse}
use Rattle.relay_index.specs.Plans.{Plan, refusal_at, no_script}
use Rattle.relay_commands.specs.declared.refuse_list.ListFault.{ListFault}
use Rattle.relay_commands.specs.declared.refuse_list.ListFault.TheVariants as fault
use Rattle.relay_commands.specs.Cuts.{Adds, IsSplitAt, IsPartFault, IsUncut}
use Rattle.relay_words.specs.Numbers.{IsNumber}
use Rattle.relay_commands.specs.Refusals.{IsBadAfter, IsList, IsListFault, IsNoRefusal, IsRefusal, Refuses, last_status}

-- ---- the place at which a list is cut

-- no byte of the list is c, by its index
abbrev Lacks : ℕ → List ℕ → Type 0
Lacks c xs = (i : ℕ) → i < length xs → get_or xs i 0 ≢ c

same_test : (c : ℕ) → (c == c) ≡ true
same_test c = grind (arith, nat_tests)

position_or_len-at : (c : ℕ) (xs ys : List ℕ) → Lacks c xs → position_or_len (λ x. x == c) (xs ++ c ∷ ys) ≡ length xs
position_or_len-at c xs ys h =
    position_or_len_is (λ x. x == c) (xs ++ c ∷ ys) (length xs) 0 (grind (arith, common_steps))
    (λ k lt. let ne = h k lt in rw get_or_append_left (grind (arith, nat_tests))) (λ _. rw (get_or_at xs c ys 0 (length xs) refl) (same_test c))

before_first-at : (c : ℕ) (xs ys : List ℕ) → Lacks c xs → before_first (λ x. x == c) (xs ++ c ∷ ys) ≡ xs
before_first-at c xs ys h = ap (λ n. take n (xs ++ c ∷ ys)) (position_or_len-at c xs ys h) ∙ take_at xs (c ∷ ys) (length xs) refl

after_first-at : (c : ℕ) (xs ys : List ℕ) → Lacks c xs → after_first (λ x. x == c) (xs ++ c ∷ ys) ≡ ys
after_first-at c xs ys h =
    ap (λ n. drop (n + 1) (xs ++ c ∷ ys)) (position_or_len-at c xs ys h)
    ∙ ap (drop (length xs + 1)) (sym (append_assoc xs (c ∷ []) ys)) ∙ drop_at (xs ++ c ∷ []) ys (length xs + 1) (length_push xs c)

-- no byte of the list is this one
abbrev Without : ℕ → List ℕ → Type 0
Without c [] = Unit {0}
Without c (x ∷ xs) = (x ≢ c) × Without c xs

without-lacks : (c : ℕ) (xs : List ℕ) → Without c xs → Lacks c xs
without-lacks c [] w i lt = absurd (omega (arith, lt))
without-lacks c (x ∷ xs) w zero lt = w.0
without-lacks c (x ∷ xs) w (suc i) lt = let rest = without-lacks c xs w.1 i in grind (arith, common_steps, rest, lt)

without-append : (c : ℕ) (xs ys : List ℕ) → Without c xs → Without c ys → Without c (xs ++ ys)
without-append c [] ys h k = k
without-append c (x ∷ xs) ys h k = (h.0, without-append c xs ys h.1 k)

-- digits contain no byte that is not a digit
digits-without : (c : ℕ) (xs : List ℕ) → 10 ≤ digit_value c → AllDigits 10 xs → Without c xs
digits-without c [] past all = tt
digits-without c (x ∷ xs) past all = (λ e. absurd (omega (arith, past, rw e at all.0)), digits-without c xs past all.1)

colon_is_none : 10 ≤ digit_value 58
colon_is_none = omega arith

comma_is_none : 10 ≤ digit_value 44
comma_is_none = omega arith

-- where the byte is, the text is cut
is_there : (c : ℕ) (front back : List ℕ) → Without c front → IsUncut c (front ++ c ∷ back) → ⊥
is_there c front back w e =
    let text = front ++ c ∷ back in
    let whole : before_first (λ b. b == c) text ≡ text = ap (λ n. take n text) e ∙ take_all (length text) text (omega arith) in
    let same : front ≡ text = sym (before_first-at c front back (without-lacks c front w)) ∙ whole in
    let lengths : length front ≡ length (front ++ c ∷ back) = ap length same in
    grind (arith, common_steps, lengths)

-- where it is not, the text is not cut
at_end : (c : ℕ) (xs : List ℕ) → Without c xs → IsUncut c xs
at_end c xs w = position_or_len_is (λ b. b == c) xs (length xs) 0 (omega arith) (λ k lt. let ne = without-lacks c xs w k lt in grind (arith, nat_tests, ne)) (λ lt. absurd (omega (arith, lt)))

-- the parts, and the byte between them, are the text
pub whole_of : (c : ℕ) (text front back : List ℕ) → IsSplitAt c text front back → text ≡ front ++ c ∷ back
whole_of c text front back cut =
    let byte : get_or text (position_or_len (λ b. b == c) text) 0 ≡ c = eqb-true _ c (passes_at_first (λ b. b == c) text 0 cut.there) in
    rw (cut.front_is, cut.back_is) (split_at_first (λ b. b == c) text 0 cut.there ∙ ap (λ b. before_first (λ b. b == c) text ++ b ∷ after_first (λ b. b == c) text) byte)

-- ---- at the colon

front-without : (text : List ℕ) (place status : ℕ) → (h : IsRefusal text place status) → Without 58 h.front
front-without text place status h = digits-without 58 h.front colon_is_none h.place_is.digits.1

pub uncut_is_none : (text : List ℕ) → IsUncut 58 text → IsNoRefusal text
uncut_is_none text e place status h = is_there 58 h.front h.back (front-without text place status h) (rw h.whole at e)

pub place_of : (text front back : List ℕ) → IsSplitAt 58 text front back → (place status : ℕ) → IsRefusal text place status → IsNumber front place
place_of text front back cut place status h =
    let same : front ≡ h.front = cut.front_is ∙ ap (λ t. before_first (λ b. b == 58) t) h.whole ∙ before_first-at 58 h.front h.back (without-lacks 58 h.front (front-without text place status h)) in
    subst (λ t. IsNumber t place) (sym same) h.place_is

pub status_of : (text front back : List ℕ) → IsSplitAt 58 text front back → (place status : ℕ) → IsRefusal text place status → IsNumber back status
status_of text front back cut place status h =
    let same : back ≡ h.back = cut.back_is ∙ ap (λ t. after_first (λ b. b == 58) t) h.whole ∙ after_first-at 58 h.front h.back (without-lacks 58 h.front (front-without text place status h)) in
    subst (λ t. IsNumber t status) (sym same) h.status_is

-- ---- at the commas

refusal-without : (text : List ℕ) (place status : ℕ) → IsRefusal text place status → Without 44 text
refusal-without text place status h =
    let back : Without 44 (58 ∷ h.back) = ((λ e. absurd (omega (arith, e))), digits-without 44 h.back comma_is_none h.status_is.digits.1) in
    subst (λ t. Without 44 t) (sym h.whole) (without-append 44 h.front (58 ∷ h.back) (digits-without 44 h.front comma_is_none h.place_is.digits.1) back)

-- a text without a comma is a list of one refusal
pub alone : (text : List ℕ) → IsUncut 44 text → (xs : List (ℕ × ℕ)) → IsList text xs → (place : ℕ) × (status : ℕ) × IsRefusal text place status
alone text e [] h = absurd h
alone text e (x ∷ []) h = (x.0, x.1, h)
alone text e (x ∷ y ∷ xs) h = absurd (is_there 44 h.0 h.1 (refusal-without h.0 x.0 x.1 h.2) (rw h.4 at e))

-- what precedes the first comma is a refusal, and what follows it is a list
pub record Splits (front back : List ℕ) : Type 0 where
  pub place : ℕ
  pub status : ℕ
  pub first : IsRefusal front place status
  pub later : List (ℕ × ℕ)
  pub rest : IsList back later

-- a text without another comma is not cut any further
no_cut : (c : ℕ) (text front back : List ℕ) → IsSplitAt c text front back → Without c text → ⊥
no_cut c text front back cut w =
    omega (arith, cut.there, at_end c text w)

pub splits : (text front back : List ℕ) → IsSplitAt 44 text front back → (xs : List (ℕ × ℕ)) → IsList text xs → Splits front back
splits text front back cut [] h = absurd h
splits text front back cut (x ∷ []) h = absurd (no_cut 44 text front back cut (refusal-without text x.0 x.1 h))
splits text front back cut (x ∷ y ∷ xs) h =
    let lacks = without-lacks 44 h.0 (refusal-without h.0 x.0 x.1 h.2) in
    let same_front : front ≡ h.0 = cut.front_is ∙ ap (λ t. before_first (λ b. b == 44) t) h.4 ∙ before_first-at 44 h.0 h.1 lacks in
    let same_back : back ≡ h.1 = cut.back_is ∙ ap (λ t. after_first (λ b. b == 44) t) h.4 ∙ after_first-at 44 h.0 h.1 lacks in
    record {
      place = x.0;
      status = x.1;
      first = subst (λ t. IsRefusal t x.0 x.1) (sym same_front) h.2;
      later = y ∷ xs;
      rest = subst (λ t. IsList t (y ∷ xs)) (sym same_back) h.3;
    }

-- ---- all refusals

last_status-push : (xs : List (ℕ × ℕ)) (x : ℕ × ℕ) (place : ℕ) → last_status (xs ++ x ∷ []) place ≡ (if x.0 == place then Some x.1 else last_status xs place)
last_status-push [] x place = elim (x.0 == place) as (λ b. option_or None (if b then Some x.1 else None) ≡ (if b then Some x.1 else None)) [ true ↦ refl | false ↦ refl ]
last_status-push (y ∷ xs) x place = rw (last_status-push xs x place) (elim (x.0 == place) as (λ b. option_or (if b then Some x.1 else last_status xs place) (if y.0 == place then Some y.1 else None) ≡ (if b then Some x.1 else option_or (last_status xs place) (if y.0 == place then Some y.1 else None))) [ true ↦ refl | false ↦ refl ])

-- the refusals so far and how many they are, what they made of the script, and what the rest has to do with the whole
pub record HasParts (whole rest : List ℕ) (plan : Plan) (count : ℕ) : Type 0 where
  pub earlier : List (ℕ × ℕ)
  pub count_is : count ≡ length earlier
  pub within : count + length rest ≤ length whole
  pub refuses : Refuses earlier plan
  pub builds : (later : List (ℕ × ℕ)) → IsList rest later → IsList whole (earlier ++ later)
  pub peels : (xs : List (ℕ × ℕ)) → IsList whole xs → (later : List (ℕ × ℕ)) × IsList rest later
  pub blames : (n : ℕ) → IsBadAfter rest n → IsBadAfter whole (length earlier + n)

pub refuses_more : (found : List (ℕ × ℕ)) (old new : Plan) (place status : ℕ) → Refuses found old → Adds old new place status → Refuses (found ++ (place, status) ∷ []) new
refuses_more found old new place status h a = record {
  statuses = λ p. a.statuses p ∙ ap (λ o. if place == p then Some status else o) (h.statuses p) ∙ sym (last_status-push found (place, status) p);
  none_run = a.ran ∙ h.none_run;
  unlimited = a.limit ∙ h.unlimited;
}

-- a list after a refusal and a comma
follows : (text front back : List ℕ) (place status : ℕ) (later : List (ℕ × ℕ)) → text ≡ front ++ 44 ∷ back → IsRefusal front place status → IsList back later → IsList text ((place, status) ∷ later)
follows text front back place status [] e r h = absurd h
follows text front back place status (y ∷ ys) e r h = (front, back, r, h, e)

one_more_found : (found : List (ℕ × ℕ)) (x : ℕ × ℕ) (n : ℕ) → length found + suc n ≡ length (found ++ x ∷ []) + n
one_more_found found x n = let e = length-append found (x ∷ []) in omega (arith, e)

shorter : (text front back : List ℕ) → text ≡ front ++ 44 ∷ back → length back + 1 ≤ length text
shorter text front back e = let n = length-append front (44 ∷ back) in let m : length text ≡ length (front ++ 44 ∷ back) = ap length e in omega (arith, n, m)

pub part_more : (whole rest front back : List ℕ) (old new : Plan) (count : ℕ) → HasParts whole rest old count → IsSplitAt 44 rest front back → (place status : ℕ) → IsRefusal front place status → Adds old new place status → HasParts whole back new (count + 1)
part_more whole rest front back old new count h cut place status r a =
    let e = whole_of 44 rest front back cut in record {
      earlier = h.earlier ++ (place, status) ∷ [];
      count_is = let n = length-append h.earlier ((place, status) ∷ []) in let c = h.count_is in omega (arith, n, c);
      within = let s = shorter rest front back e in let w = h.within in omega (arith, s, w);
      refuses = refuses_more h.earlier old new place status h.refuses a;
      builds = λ later l. subst (λ xs. IsList whole xs) (sym (append_assoc h.earlier ((place, status) ∷ []) later)) (h.builds ((place, status) ∷ later) (follows rest front back place status later e r l));
      peels = λ xs l. let p = h.peels xs l in let s = splits rest front back cut p.0 p.1 in (s.later, s.rest);
      blames = λ n b. subst (λ (m : ℕ). IsBadAfter whole m) (one_more_found h.earlier (place, status) n) (h.blames (suc n) (front, back, place, status, r, e, b));
    }

pub parts_at_start : (whole : List ℕ) (plan : Plan) → Refuses [] plan → HasParts whole whole plan 0
parts_at_start whole plan h = record {
  earlier = [];
  count_is = refl;
  within = omega arith;
  refuses = h;
  builds = λ later l. l;
  peels = λ xs l. (xs, l);
  blames = λ n b. let e : n ≡ 0 + n = omega arith in subst (λ (m : ℕ). IsBadAfter whole m) e b;
}

-- the last refusal ends the list
pub part_last : (whole rest : List ℕ) (old new : Plan) (count : ℕ) → HasParts whole rest old count → (place status : ℕ) → IsRefusal rest place status → Adds old new place status → (refusals : List (ℕ × ℕ)) × IsList whole refusals × Refuses refusals new
part_last whole rest old new count h place status r a =
    (h.earlier ++ (place, status) ∷ [], h.builds ((place, status) ∷ []) r, refuses_more h.earlier old new place status h.refuses a)

-- the part after those that were found is not a refusal
bad_after : (whole rest front : List ℕ) (plan : Plan) (count n : ℕ) → HasParts whole rest plan count → front ≡ before_first (λ b. b == 44) rest → IsNoRefusal front → n ≡ count → IsBadAfter whole n
bad_after whole rest front plan count n h e bad s =
    let same : length h.earlier + 0 ≡ n = let c = h.count_is in omega (arith, c, s) in
    subst (λ (m : ℕ). IsBadAfter whole m) same (h.blames 0 (subst (λ (t : List ℕ). IsNoRefusal t) e bad))

-- if a part is not a refusal, the whole is not a list
pub part_fault : (whole rest front back : List ℕ) (plan : Plan) (count : ℕ) (e : ListFault) → HasParts whole rest plan count → IsSplitAt 44 rest front back → IsPartFault front count e → IsListFault whole e
part_fault whole rest front back plan count (fault.BadList n) h cut bad =
    ((λ xs l. let p = h.peels xs l in let s = splits rest front back cut p.0 p.1 in bad.0 s.place s.status s.first), bad_after whole rest front plan count n h cut.front_is bad.0 bad.1)
part_fault whole rest front back plan count fault.Memory h cut bad = tt

pub last_fault : (whole rest : List ℕ) (plan : Plan) (count : ℕ) (e : ListFault) → HasParts whole rest plan count → IsUncut 44 rest → IsPartFault rest count e → IsListFault whole e
last_fault whole rest plan count (fault.BadList n) h e bad =
    ((λ xs l. let p = h.peels xs l in let s = alone rest e p.0 p.1 in bad.0 s.0 s.1 s.2), bad_after whole rest rest plan count n h (sym (ap (λ m. take m rest) e ∙ take_all (length rest) rest (omega arith))) bad.0 bad.1)
last_fault whole rest plan count fault.Memory h e bad = tt

pub refuses_none : (plan : Plan) → plan ≡ no_script → Refuses [] plan
refuses_none plan h = record { statuses = λ place. ap (λ p. refusal_at p place) h; none_run = ap (λ p. p.ran) h; unlimited = ap (λ p. p.limit) h }

-- what may be refused is what the test says
pub may_of : (status other : ℕ) → status ≡ other → MayRefuse other → MayRefuse status
may_of status other e h = subst MayRefuse (sym e) h
