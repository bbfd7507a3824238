-- What is noted of writes, step by step.
use Rattle.std.proofs.Common.{◌≡◌, ◌≢◌, ◌⊎◌, ℕ, zero, suc, ◌+◌, ◌<◌, ◌≤◌, eq-eqb, ne_eqb, List, [], ◌∷◌, ◌++◌, Option, None, Some, length, map, get_or, set, refl, ap, sym, subst, ◌∙◌, arith, add-zero, inl, inr, vec_len, unwrap_or}
use Rattle.std.specs.Option.{option_or}
use Rattle.relay_action.specs.Lanes.{lane_of_document}
use Rattle.relay_receipts.specs.declared.notice.Notice.{Notice}
use Rattle.relay_telling.specs.declared.ending.Ending.{Ending}
use Rattle.relay_front.specs.declared.ending.End.{End}
use Rattle.relay_front.specs.declared.ending.End.TheVariants as end
use Rattle.relay_front.specs.Operations.{Write}
use Rattle.relay_serve.specs.declared.batch.Batch.{Batch}
use Rattle.relay_serve.specs.declared.batch.Pending.{Pending}
use Rattle.relay_serve.specs.Batches.{KeepsPlaces, noted, each_noted, only_of, all_in, lost, pending_in, FitsFrom, end_in}
use Rattle.relay_serve.specs.Heard.{said_of, said_first}
use Rattle.relay_serve.specs.Settling.{Event, WasPut, WasHeard, AreAll, puts_in, heard_in, ends_in}

-- ---- what is said of one write

or_none : {T : Type 0} (o : Option T) → option_or o None ≡ o
or_none None = refl
or_none (Some x) = refl

or_assoc : {T : Type 0} (a b c : Option T) → option_or a (option_or b c) ≡ option_or (option_or a b) c
or_assoc None b c = refl
or_assoc (Some x) b c = refl

noted_none : (p : Pending) → noted p None ≡ p
noted_none p = ap (λ (o : Option End). let q : Pending = record p { end = o } in q) (or_none p.end)

-- one more notice
first_more : (lane number : ℕ) (ns : List (Notice Ending)) (n : Notice Ending) → said_first lane number (ns ++ n ∷ []) ≡ option_or (said_first lane number ns) (said_of lane number n.lane n.told)
first_more lane number [] n = or_none (said_of lane number n.lane n.told)
first_more lane number (x ∷ ns) n =
    ap (λ o. option_or (said_of lane number x.lane x.told) o) (first_more lane number ns n)
    ∙ or_assoc (said_of lane number x.lane x.told) (said_first lane number ns) (said_of lane number n.lane n.told)

-- ---- what is said of several

-- nothing is said of writes with numbers that nothing is said of
pub each_none : (said : ℕ → ℕ → Option End) (n : ℕ) (ps : List Pending) → ((lane m : ℕ) → n ≤ m → m < n + length ps → said lane m ≡ None) → each_noted said n ps ≡ ps
each_none said n [] h = refl
each_none said n (p ∷ ps) h =
    let here : said p.lane n ≡ None = h p.lane n (omega arith) (omega arith) in
    let first : noted p (said p.lane n) ≡ p = ap (noted p) here ∙ noted_none p in
    let rest : each_noted said (n + 1) ps ≡ ps = each_none said (n + 1) ps (λ lane m low high. h lane m (omega (arith, low)) (omega (arith, high))) in
    λ i. first i ∷ rest i

only_other : (number : ℕ) (e : End) (lane m : ℕ) → number ≢ m → only_of number e lane m ≡ None
only_other number e lane m ne = rw (ne_eqb number m ne) refl

only_own : (number : ℕ) (e : End) (lane m : ℕ) → number ≡ m → only_of number e lane m ≡ Some e
only_own number e lane m is = rw (eq-eqb number m is) refl

-- it is said of none of these
pub only_none : (number : ℕ) (e : End) (n : ℕ) (ps : List Pending) → (number < n) ⊎ (n + length ps ≤ number) → each_noted (only_of number e) n ps ≡ ps
only_none number e n ps (inl out) = each_none (only_of number e) n ps (λ lane m low high. only_other number e lane m (λ is. omega (arith, out, low, high, is)))
only_none number e n ps (inr out) = each_none (only_of number e) n ps (λ lane m low high. only_other number e lane m (λ is. omega (arith, out, low, high, is)))

-- it is said of the one at this place
pub only_at : (number : ℕ) (e : End) (n place : ℕ) (ps : List Pending) (d : Pending) → number ≡ n + place → place < length ps → each_noted (only_of number e) n ps ≡ set ps place (noted (get_or ps place d) (Some e))
only_at number e n place [] d is lt = absurd (omega (arith, lt))
only_at number e n zero (p ∷ ps) d is lt =
    let same : number ≡ n = is ∙ add-zero n in
    let first : noted p (only_of number e p.lane n) ≡ noted p (Some e) = ap (noted p) (only_own number e p.lane n same) in
    let rest : each_noted (only_of number e) (n + 1) ps ≡ ps = only_none number e (n + 1) ps (inl (omega (arith, same))) in
    λ i. first i ∷ rest i
only_at number e n (suc place) (p ∷ ps) d is lt =
    let more : number ≡ (n + 1) + place = is ∙ omega arith in
    let other : number ≢ n = λ same. omega (arith, same, more) in
    let first : noted p (only_of number e p.lane n) ≡ p = ap (noted p) (only_other number e p.lane n other) ∙ noted_none p in
    let rest : each_noted (only_of number e) (n + 1) ps ≡ set ps place (noted (get_or ps place d) (Some e)) = only_at number e (n + 1) place ps d more (omega (arith, lt)) in
    λ i. first i ∷ rest i

-- ---- a lane that tells no more

-- the first of these writes are gone if they are in this lane
abbrev pub lost_first : ℕ → ℕ → List Pending → List Pending
lost_first lane zero ps = ps
lost_first lane (suc k) [] = []
lost_first lane (suc k) (p ∷ ps) = lost lane p ∷ lost_first lane k ps

lost_next : (lane k : ℕ) (ps : List Pending) (d : Pending) → k < length ps → set (lost_first lane k ps) k (lost lane (get_or (lost_first lane k ps) k d)) ≡ lost_first lane (suc k) ps
lost_next lane zero [] d lt = absurd (omega (arith, lt))
lost_next lane (suc k) [] d lt = absurd (omega (arith, lt))
lost_next lane zero (p ∷ ps) d lt = refl
lost_next lane (suc k) (p ∷ ps) d lt = ap (λ l. lost lane p ∷ l) (lost_next lane k ps d (omega (arith, lt)))

-- one more write
pub lost_more : (lane k : ℕ) (ps : List Pending) (d : Pending) → k < length ps → set (lost_first lane k ps) k (lost lane (get_or (lost_first lane k ps) k d)) ≡ lost_first lane (k + 1) ps
lost_more lane k ps d lt = lost_next lane k ps d lt ∙ ap (λ m. lost_first lane m ps) (let e : suc k ≡ k + 1 = omega arith in e)

pub lost_length : (lane k : ℕ) (ps : List Pending) → length (lost_first lane k ps) ≡ length ps
lost_length lane zero ps = refl
lost_length lane (suc k) [] = refl
lost_length lane (suc k) (p ∷ ps) = ap suc (lost_length lane k ps)

pub lost_all : (lane k n : ℕ) (ps : List Pending) → length ps ≤ k → lost_first lane k ps ≡ each_noted (all_in lane) n ps
lost_all lane zero n [] le = refl
lost_all lane (suc k) n [] le = refl
lost_all lane zero n (p ∷ ps) le = absurd (omega (arith, le))
lost_all lane (suc k) n (p ∷ ps) le = ap (λ l. lost lane p ∷ l) (lost_all lane k (n + 1) ps (omega (arith, le)))

-- ---- what was put

heard_more : (es : List Event) (n : Notice Ending) → heard_in (es ++ WasHeard n ∷ []) ≡ heard_in es ++ n ∷ []
heard_more [] n = refl
heard_more (WasPut w ∷ es) n = heard_more es n
heard_more (WasHeard x ∷ es) n = ap (λ l. x ∷ l) (heard_more es n)

pub heard_put : (es : List Event) (w : Write) → heard_in (es ++ WasPut w ∷ []) ≡ heard_in es
heard_put [] w = refl
heard_put (WasPut x ∷ es) w = heard_put es w
heard_put (WasHeard n ∷ es) w = ap (λ l. n ∷ l) (heard_put es w)

-- one more notice
pending_heard : (lanes number : ℕ) (es : List Event) (n : Notice Ending)
    → pending_in lanes number (es ++ WasHeard n ∷ []) ≡ each_noted (λ lane m. said_of lane m n.lane n.told) number (pending_in lanes number es)
pending_heard lanes number [] n = refl
pending_heard lanes number (WasPut w ∷ es) n =
    let lane = lane_of_document w.0 lanes in
    let is : said_first lane number (heard_in (es ++ WasHeard n ∷ [])) ≡ option_or (said_first lane number (heard_in es)) (said_of lane number n.lane n.told) =
    ap (said_first lane number) (heard_more es n) ∙ first_more lane number (heard_in es) n in
    let rest = pending_heard lanes (number + 1) es n in
    λ i. (let p : Pending = record { lane = lane; end = is i } in p) ∷ rest i
pending_heard lanes number (WasHeard x ∷ es) n = pending_heard lanes number es n

-- one more put
pending_put : (lanes number : ℕ) (es : List Event) (w : Write)
    → pending_in lanes number (es ++ WasPut w ∷ []) ≡ pending_in lanes number es ++ (let p : Pending = record { lane = lane_of_document w.0 lanes; end = None } in p) ∷ []
pending_put lanes number [] w = refl
pending_put lanes number (WasPut x ∷ es) w =
    let lane = lane_of_document x.0 lanes in
    let is : said_first lane number (heard_in (es ++ WasPut w ∷ [])) ≡ said_first lane number (heard_in es) = ap (said_first lane number) (heard_put es w) in
    let rest = pending_put lanes (number + 1) es w in
    λ i. (let p : Pending = record { lane = lane; end = is i } in p) ∷ rest i
pending_put lanes number (WasHeard x ∷ es) w = pending_put lanes number es w

pub pending_count : (lanes number : ℕ) (es : List Event) → length (pending_in lanes number es) ≡ length (puts_in es)
pending_count lanes number [] = refl
pending_count lanes number (WasPut w ∷ es) = ap suc (pending_count lanes (number + 1) es)
pending_count lanes number (WasHeard n ∷ es) = pending_count lanes number es

-- the ends at last
pub ends_at_last : (lanes number : ℕ) (es : List Event) → map end_in (pending_in lanes number es) ≡ ends_in lanes number es
ends_at_last lanes number [] = refl
ends_at_last lanes number (WasPut w ∷ es) = ap (λ l. unwrap_or (said_first (lane_of_document w.0 lanes) number (heard_in es)) end.Late ∷ l) (ends_at_last lanes (number + 1) es)
ends_at_last lanes number (WasHeard n ∷ es) = ends_at_last lanes number es

-- ---- batches

more_or : (n : ℕ) → (n ≡ 0) ⊎ (0 < n)
more_or zero = inl refl
more_or (suc n) = inr (omega arith)

none_noted : (said : ℕ → ℕ → Option End) (n m : ℕ) (ps : List Pending) → length ps ≡ 0 → each_noted said n ps ≡ each_noted said m ps
none_noted said n m [] e = refl
none_noted said n m (p ∷ ps) e = absurd (omega (arith, e))

-- what is said of writes goes by the number of the first
noted_by : (said : ℕ → ℕ → Option End) (n : ℕ) (b : Batch) → (0 < vec_len b.items → b.first ≡ n) → (vec_len b.items ≡ 0) ⊎ (0 < vec_len b.items) → each_noted said b.first b.items.items ≡ each_noted said n b.items.items
noted_by said n b first (inl none) = none_noted said b.first n b.items.items (sym b.items.ok.0 ∙ none)
noted_by said n b first (inr some) = ap (λ m. each_noted said m b.items.items) (first some)

-- one more notice was heard
pub fits_heard : (lanes number : ℕ) (es : List Event) (n : Notice Ending) (told : Option Ending) (old new : Batch) → n.told ≡ told → KeepsPlaces old new
    → new.items.items ≡ each_noted (λ lane m. said_of lane m n.lane told) old.first old.items.items → FitsFrom lanes number es old → FitsFrom lanes number (es ++ WasHeard n ∷ []) new
fits_heard lanes number es n told old new is keeps noted fits = record {
  first = λ some. keeps.first ∙ fits.first (subst (λ k. 0 < k) keeps.len some);
  items =
      noted ∙ noted_by (λ lane m. said_of lane m n.lane told) number old fits.first (more_or (vec_len old.items))
      ∙ ap (λ (t : Option Ending). each_noted (λ lane m. said_of lane m n.lane t) number old.items.items) (sym is)
      ∙ ap (each_noted (λ lane m. said_of lane m n.lane n.told) number) fits.items
      ∙ sym (pending_heard lanes number es n);
}

first_at : (n number : ℕ) (old new : Batch) → (vec_len old.items ≡ 0 → new.first ≡ number) → (0 < vec_len old.items → new.first ≡ old.first) → (0 < vec_len old.items → old.first ≡ n) → number ≡ n + vec_len old.items → (vec_len old.items ≡ 0) ⊎ (0 < vec_len old.items) → new.first ≡ n
first_at n number old new none some first is (inl e) = none e ∙ is ∙ ap (λ m. n + m) e ∙ add-zero n
first_at n number old new none some first is (inr k) = some k ∙ first k

-- one more write was put
pub fits_put : (lanes n : ℕ) (es : List Event) (w : Write) (number lane : ℕ) (old new : Batch) (p : Pending) → p.end ≡ None → p.lane ≡ lane → lane ≡ lane_of_document w.0 lanes → new.items.items ≡ old.items.items ++ p ∷ []
    → (vec_len old.items ≡ 0 → new.first ≡ number) → (0 < vec_len old.items → new.first ≡ old.first) → FitsFrom lanes n es old → number ≡ n + vec_len old.items → FitsFrom lanes n (es ++ WasPut w ∷ []) new
fits_put lanes n es w number lane old new p empty own in_lane items none some fits is = record {
  first = λ _. first_at n number old new none some fits.first is (more_or (vec_len old.items));
  items =
      let same : p ≡ (let q : Pending = record { lane = lane_of_document w.0 lanes; end = None } in q) = λ i. (let q : Pending = record { lane = (own ∙ in_lane) i; end = empty i } in q) in
      items ∙ (λ i. fits.items i ++ same i ∷ []) ∙ sym (pending_put lanes n es w);
}

pub fits_empty : (lanes n : ℕ) (b : Batch) → b.items.items ≡ [] → FitsFrom lanes n [] b
fits_empty lanes n b none = record {
  first = λ some. absurd (omega (arith, some, b.items.ok.0, ap length none));
  items = none;
}

-- one more that ended so
pub all_more : (e : End) (es : List End) (x : End) → AreAll e es → x ≡ e → AreAll e (es ++ x ∷ [])
all_more e [] x h is = (is, tt)
all_more e (y ∷ ys) x h is = (h.0, all_more e ys x h.1 is)
