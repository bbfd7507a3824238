-- How many requests a lane sends if it takes nothing more.
use Rattle.std.proofs.Common.{◌≡◌, ◌≢◌, ℕ, ◌+◌, ◌-◌, ◌*◌, ◌^◌, ◌<◌, ◌≤◌, List, [], ◌∷◌, ◌++◌, length, Option, Some, None, Bool, true, false, refl, sym, ap, ◌∙◌, subst, ⊎_elim, inl, inr, arith, length-append}
use Rattle.std.specs.Prelude.{slice_get, map, nat_lt}
use Rattle.std.proofs.Math.Nat.{suc-mul}
use Rattle.std.proofs.lemmas.List.{length-map}
use Rattle.relay_action.specs.declared.operation.Op.{Op}
use Rattle.relay_results.specs.Words.{Mem, update}
use Rattle.relay_results.specs.Outside.{Answer, Request, Outside, MayAnswer, after}
use Rattle.relay_results.specs.Outside as outside
use Rattle.relay_results.proofs.Steps.{step_runs_item}
use Rattle.relay_results.specs.Fates.{Fate, Flies, Applied, Already, Retried, Halved, Reported}
use Rattle.relay_delivery.specs.Machine.{Config, tries_for, Core, Held, Place, Step, Takes, Sends, Runs, Answers, write_of, held_at, held_if, place_of, launched_at, after_launch, kept_one, still_held, writes_or, step, steps_of, MaySend, MayStep, AllMayStep, CameAbout}
use Rattle.relay_delivery.specs.Bound.{IsDraining, AllDraining, sent_of, tries_left, halvings, WithinTriesLeft, FewRequests}
use Rattle.relay_results.proofs.Lists.{Mem-cases, Mem-one, Mem-map, length-update, at-left, at-last, at-Mem, at-update_same, at-update_other, equal_or_not, some_same}
use Rattle.relay_delivery.proofs.Dealt.{with_answer}
use Rattle.relay_delivery.proofs.Send.{no_place, launched_here}
use Rattle.relay_delivery.proofs.Fates.{tries-most, turn, kept-from, retried_left, away_or_here}
use Rattle.relay_delivery.proofs.Halving.{halvings-half, halvings_few, halvings-below}
use Rattle.relay_delivery.proofs.Facts.{CoreFacts}
use Rattle.relay_delivery.proofs.Keeps.{fresh_none, none_past, fresh_facts, facts_of, step_keeps}
use Rattle.relay_results.proofs.Fates.{says_as}
use Rattle.relay_action.specs.Actions.{kind_of}

-- the request in which it flies keeps its cap
pub record FliesWithin (requests : List Request) (h : Held) (f : Place) : Type 0 where
  pub request : Request
  pub sent : slice_get requests f.request ≡ Some request
  pub within : 1 < length request.writes → length request.writes ≤ h.cap

-- a held operation has tries left if it waits, has no more tries than it may, and its cap only fell
pub record HasTries (g : Config) (requests : List Request) (h : Held) : Type 0 where
  pub waiting : h.flies ≡ None → h.attempts < g.max
  pub most : h.attempts ≤ g.max
  pub fallen : h.cap ≤ g.cap
  pub flying : (f : Place) → h.flies ≡ Some f → FliesWithin requests h f

abbrev pub HaveTries : Config → List Request → List Held → Type 0
HaveTries g requests hs = (h : Held) → Mem h hs → HasTries g requests h

left_most : (g : Config) (j : ℕ) (requests : List Request) (hs : List Held) → g.cap < 2 ^ j → HaveTries g requests hs → tries_left g.max hs ≤ length hs * (g.max + j)
left_most g j requests [] lt f = omega arith
left_most g j requests (h ∷ hs) lt f =
    let r = left_most g j requests hs lt (λ k m. f k (inr m)) in
    let e = suc-mul (length hs) (g.max + j) in
    let c = (f h (inl refl)).fallen in
    let l = halvings_few j h.cap (omega (arith, c, lt)) in
    omega (arith, r, e, l)

-- ---- take

new_tries : (g : Config) (requests : List Request) (b : Bool) (n : ℕ) (o : Op) → 0 < g.max → HaveTries g requests (held_if b g n o)
new_tries g requests true n o some h m = subst (λ (k : Held). HasTries g requests k) (sym (Mem-one h (held_at g n o) m))
    (record { waiting = λ _. some; most = omega arith; fallen = omega arith; flying = λ f e. absurd (cc) })
new_tries g requests false n o some h m = absurd m

-- ---- send

-- one more request changes nothing of what flies
tries-more : (g : Config) (requests : List Request) (q : Request) (h : Held) → HasTries g requests h → HasTries g (requests ++ q ∷ []) h
tries-more g requests q h f = record {
  waiting = f.waiting;
  most = f.most;
  fallen = f.fallen;
  flying = λ p e. let y = f.flying p e in record { request = y.request; sent = at-left requests (q ∷ []) p.request y.request y.sent; within = y.within };
}

module _ (g : Config) (c : Core) (facts : CoreFacts g (none_past g) c) (chosen : List Held) (may : MaySend c chosen) where
  abbrev new : Request
  new = record { writes = map write_of chosen; answer = outside.Unanswered }

  sent_tries_at : (h : Held) → Mem h c.held → (p : Option ℕ) → place_of h.version chosen ≡ p → HasTries g c.outside.requests h → HasTries g (c.outside.requests ++ new ∷ []) (launched_at (length c.outside.requests) h p)
  sent_tries_at h m None e f = tries-more g c.outside.requests (record { writes = map write_of chosen; answer = outside.Unanswered }) h f
  sent_tries_at h m (Some p) e f =
      let l = launched_here g (none_past g) c facts chosen may h m p e in
      let n = length-map chosen write_of in
      record {
        waiting = λ z. absurd (cc);
        most = (let lt = f.waiting l.waits in omega (arith, lt));
        fallen = f.fallen;
        flying = λ at z.
            let same : record { request = length c.outside.requests; place = p } ≡ at = some_same _ at z in
            subst (λ (x : Place). FliesWithin (c.outside.requests ++ new ∷ []) (launched_at (length c.outside.requests) h (Some p)) x) same (record {
              request = record { writes = map write_of chosen; answer = outside.Unanswered };
              sent = at-last c.outside.requests (record { writes = map write_of chosen; answer = outside.Unanswered });
              within = λ more. let le = may.caps (omega (arith, more, n)) h (at-Mem chosen p h l.stands) in omega (arith, le, n);
            });
      }

less_at : (max n : ℕ) (h : Held) (p : Option ℕ) → (max - (launched_at n h p).attempts) + halvings (launched_at n h p).cap ≤ (max - h.attempts) + halvings h.cap
less_at max n h None = omega arith
less_at max n h (Some p) = omega arith

left-sent : (max n : ℕ) (chosen hs : List Held) → tries_left max (map (after_launch n chosen) hs) ≤ tries_left max hs
left-sent max n chosen [] = omega arith
left-sent max n chosen (h ∷ hs) = let r = left-sent max n chosen hs in let l = less_at max n h (place_of h.version chosen) in omega (arith, r, l)

fewer_at : (max n : ℕ) (h : Held) (chosen : List Held) (p : Option ℕ) → place_of h.version chosen ≡ p → Mem h chosen → h.attempts < max → (max - (launched_at n h p).attempts) + halvings (launched_at n h p).cap + 1 ≤ (max - h.attempts) + halvings h.cap
fewer_at max n h chosen None e m lt = absurd (no_place chosen h.version e h m refl)
fewer_at max n h chosen (Some p) e m lt = omega (arith, lt)

left-less : (max n : ℕ) (chosen hs : List Held) (h : Held) → Mem h hs → Mem h chosen → h.attempts < max → tries_left max (map (after_launch n chosen) hs) + 1 ≤ tries_left max hs
left-less max n chosen [] h m k lt = absurd m
left-less max n chosen (j ∷ hs) h m k lt = ⊎_elim {C = tries_left max (map (after_launch n chosen) (j ∷ hs)) + 1 ≤ tries_left max (j ∷ hs)}
    (λ e.
    let k' = subst (λ x. Mem x chosen) e k in
    let lt' = subst (λ (x : Held). x.attempts < max) e lt in
    let l = fewer_at max n j chosen (place_of j.version chosen) refl k' lt' in
    let r = left-sent max n chosen hs in omega (arith, l, r))
    (λ y. let r = left-less max n chosen hs h y k lt in let l = less_at max n j (place_of j.version chosen) in omega (arith, r, l))
    m

-- ---- answer

-- if it is halved, a cap decreases
left_one : (max : ℕ) (t : Fate) (h : Held) (rest : List Held) → ((cap : ℕ) → t ≡ Halved cap → halvings cap + 1 ≤ halvings h.cap)
    → tries_left max (kept_one t h ++ rest) ≤ (max - h.attempts) + halvings h.cap + tries_left max rest
left_one max Flies h rest f = omega arith
left_one max Applied h rest f = omega arith
left_one max Already h rest f = omega arith
left_one max Retried h rest f = omega arith
left_one max (Halved cap) h rest f = let l = f cap refl in omega (arith, l)
left_one max (Reported c) h rest f = omega arith

-- the answered request
module _ (g : Config) (old : ℕ → Bool) (requests : List Request) (number : ℕ) (q : Request) (stands : slice_get requests number ≡ Some q) (a : Answer) where
  abbrev allowed : ℕ → ℕ
  allowed = tries_for g old

  -- what is halved flew in it, which kept its cap
  cap_falls : (h : Held) → HasTries g requests h → (cap : ℕ) → turn allowed number q.writes a h ≡ Halved cap → halvings cap + 1 ≤ halvings h.cap
  cap_falls h f cap t = ⊎_elim {C = halvings cap + 1 ≤ halvings h.cap}
      (λ w. absurd (cc (t, w.stays)))
      (λ w.
      let s = says_as (record { version = h.version; sends = h.sends; attempts = h.attempts; max = allowed h.version }) q.writes w.place (kind_of h.op.action) a (Halved cap) (sym w.fate_is ∙ t) in
      let y = f.flying (record { request = number; place = w.place }) w.flies in
      let same : y.request ≡ q = some_same y.request q (sym y.sent ∙ stands) in
      let n = ap (λ (z : Request). length z.writes) same in
      let some = s.1 in
      let le = y.within (omega (arith, some, n)) in
      let l = halvings-half (length q.writes) h.cap some (omega (arith, le, n)) in
      subst (λ x. halvings x + 1 ≤ halvings h.cap) (sym s.2) l)
      (away_or_here allowed number q.writes a h)

  pub left-kept : (hs : List Held) → HaveTries g requests hs → tries_left g.max (still_held allowed number q.writes a hs) ≤ tries_left g.max hs
  left-kept [] f = omega arith
  left-kept (h ∷ hs) f =
      let r = left-kept hs (λ k m. f k (inr m)) in
      let l = left_one g.max (turn allowed number q.writes a h) h (still_held allowed number q.writes a hs) (cap_falls h (f h (inl refl))) in omega (arith, r, l)

  -- what flies in another request is not touched
  flying_on : (h : Held) (p : Place) → FliesWithin requests h p → FliesWithin (update number (with_answer a) requests) h p
  flying_on h p y = ⊎_elim {C = FliesWithin (update number (with_answer a) requests) h p}
      (λ e. record { request = with_answer a y.request; sent = ap (slice_get (update number (with_answer a) requests)) e ∙ at-update_same number (with_answer a) requests y.request (ap (slice_get requests) (sym e) ∙ y.sent); within = y.within })
      (λ ne. record { request = y.request; sent = at-update_other number (with_answer a) requests p.request ne ∙ y.sent; within = y.within })
      (equal_or_not p.request number)

  kept_tries : 0 < g.max → (hs : List Held) → HaveTries g requests hs → HaveTries g (update number (with_answer a) requests) (still_held allowed number q.writes a hs)
  kept_tries some hs f k m =
      let h = kept-from allowed number q.writes a hs k m in
      let y = f h.0 h.1 in
      ⊎_elim
      (λ z. subst (λ (x : Held). HasTries g (update number (with_answer a) requests) x) (sym z.1) (record { waiting = y.waiting; most = y.most; fallen = y.fallen; flying = λ p e. flying_on h.0 p (y.flying p e) }))
      (λ s. ⊎_elim
      (λ z. subst (λ (x : Held). HasTries g (update number (with_answer a) requests) x) (sym z.1) (record { waiting = λ _. (let lt = retried_left allowed number q.writes a h.0 z.0 in let most = tries-most g old h.0.version in omega (arith, lt, most)); most = y.most; fallen = y.fallen; flying = λ p e. absurd (cc) }))
      (λ z.
      let le = cap_falls h.0 y z.0 z.1 in
      let c = y.fallen in
      let b = y.most in
      let low : z.0 ≤ h.0.cap = halvings-below z.0 h.0.cap le in
      subst (λ (x : Held). HasTries g (update number (with_answer a) requests) x) (sym z.2) (record { waiting = λ _. omega (arith, b, some); most = omega (arith, b); fallen = omega (arith, low, c); flying = λ p e. absurd (cc) }))
      s)
      h.2

-- ---- steps

abbrev pub HasAll : Config → Core → Type 0
HasAll g c = HaveTries g c.outside.requests c.held

-- an answer updates the request that was sent
answered_request : (c : Core) (number : ℕ) (a : Answer) (may : MayAnswer c.outside number a) → writes_or (slice_get c.outside.requests number) ≡ may.request.writes
answered_request c number a may = ap writes_or may.sent

step_tries : (g : Config) (c : Core) (facts : CoreFacts g (none_past g) c) (s : Step) → MayStep s c → 0 < g.max → HasAll g c → HasAll g (step g s c)
step_tries g c facts (Takes o) may some f h m = ⊎_elim {C = HasTries g c.outside.requests h}
    (λ y. f h y)
    (λ y. new_tries g c.outside.requests (nat_lt (length c.taken) g.deals) (length c.taken) o some h y)
    (Mem-cases h c.held (held_if (nat_lt (length c.taken) g.deals) g (length c.taken) o) m)
step_tries g c facts (Sends chosen) may some f h m =
    let k = Mem-map (after_launch (length c.outside.requests) chosen) h c.held m in
    subst (λ (z : Held). HasTries g (c.outside.requests ++ record { writes = map write_of chosen; answer = outside.Unanswered } ∷ []) z) (sym k.2) (sent_tries_at g c facts chosen may k.0 k.1 (place_of k.0.version chosen) refl (f k.0 k.1))
step_tries g c facts (Runs r) may some f h m =
    let e = (step_runs_item c.outside (after (outside.Runs r) c.outside) (record { run = r; may = may; reached = refl })).requests in
    subst (λ qs. HasTries g qs h) (sym e) (f h m)
step_tries g c facts (Answers number a old) may some f h m =
    let e = answered_request c number a may in
    kept_tries g old c.outside.requests number may.request may.sent a some c.held f h (subst (λ ws. Mem h (still_held (tries_for g old) number ws a c.held)) e m)

steps_tries : (g : Config) (ss : List Step) (c : Core) → CoreFacts g (none_past g) c → AllMayStep g ss c → 0 < g.max → HasAll g c → HasAll g (steps_of g ss c)
steps_tries g [] c facts may some f = f
steps_tries g (s ∷ ss) c facts may some f = steps_tries g ss (step g s c) (step_keeps g (none_past g) c facts s may.0) may.1 some (step_tries g c facts s may.0 some f)

one_send : (g : Config) (c : Core) (chosen : List Held) → HasAll g c → MaySend c chosen → chosen ≢ [] → sent_of (step g (Sends chosen) c) + tries_left g.max (step g (Sends chosen) c).held ≤ sent_of c + tries_left g.max c.held
one_send g c [] f may some = absurd (some refl)
one_send g c (h ∷ hs) f may some =
    let el = may.eligible h (inl refl) in
    let l = left-less g.max (length c.outside.requests) (h ∷ hs) c.held h el.is_held (inl refl) ((f h el.is_held).waiting el.waits) in
    let n = length-append c.outside.requests (record { writes = map write_of (h ∷ hs); answer = outside.Unanswered } ∷ []) in
    omega (arith, l, n)

one_step : (g : Config) (c : Core) (s : Step) → HasAll g c → MayStep s c → IsDraining s → sent_of (step g s c) + tries_left g.max (step g s c).held ≤ sent_of c + tries_left g.max c.held
one_step g c (Takes o) f may d = absurd d
one_step g c (Sends chosen) f may d = one_send g c chosen f may d
one_step g c (Runs r) f may d =
    let e = (step_runs_item c.outside (after (outside.Runs r) c.outside) (record { run = r; may = may; reached = refl })).requests in
    let n = ap length e in omega (arith, n)
one_step g c (Answers number a old) f may d =
    let n = length-update number (with_answer a) c.outside.requests in
    let e = ap (λ ws. tries_left g.max (still_held (tries_for g old) number ws a c.held)) (answered_request c number a may) in
    let l = left-kept g old c.outside.requests number may.request may.sent a c.held f in omega (arith, n, e, l)

drained : (g : Config) (ss : List Step) (c : Core) → CoreFacts g (none_past g) c → 0 < g.max → HasAll g c → AllMayStep g ss c → AllDraining ss → sent_of (steps_of g ss c) + tries_left g.max (steps_of g ss c).held ≤ sent_of c + tries_left g.max c.held
drained g [] c facts some f may d = omega arith
drained g (s ∷ ss) c facts some f may d =
    let a = one_step g c s f may.0 d.0 in
    let b = drained g ss (step g s c) (step_keeps g (none_past g) c facts s may.0) some (step_tries g c facts s may.0 some f) may.1 d.1 in omega (arith, a, b)

pub all_tries : (g : Config) (c : Core) → 0 < g.max → CameAbout g c → HasAll g c
all_tries g c some r =
    subst (λ (d : Core). HasAll g d) r.reached
    (steps_tries g r.steps r.start (fresh_none g r.start r.fresh) r.may some (λ h m. absurd (subst (λ hs. Mem h hs) r.fresh.new.held m)))

pub within_tries_left : WithinTriesLeft
within_tries_left g c more some r may d = drained g more c (facts_of g c r) some (all_tries g c some r) may d

pub few_requests : FewRequests
few_requests g c more some low r may d =
    let a = within_tries_left g c more some r may d in
    let b = left_most g 14 c.outside.requests c.held low (all_tries g c some r) in omega (arith, a, b)
