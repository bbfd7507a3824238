-- What always holds of a lane, as its callers see it.
use Rattle.std.proofs.Common.{◌≡◌, ℕ, ◌+◌, ◌-◌, ◌<◌, ◌≤◌, List, [], ◌∷◌, length, Option, Some, None, Bool, true, false, ◌==◌, ◌||◌, refl, sym, ap, ◌∙◌, subst, ⊎_elim, inl, inr, arith}
use Rattle.std.specs.Prelude.{option_map, map, min, MatchOption, IsSome}
use Rattle.std.specs.List.{list_any}
use Rattle.relay_action.specs.declared.write.Write.{Write}
use Rattle.std.proofs.lemmas.List.{length-map}
use Rattle.relay_results.specs.Words.{Mem}
use Rattle.relay_results.proofs.Lists.{true_or_false, equal_test, Mem-map}
use Rattle.relay_delivery.specs.Machine.{Place, Held}
use Rattle.relay_delivery.specs.Lane.{Entry, Flying, held_of, writes_at}
use Rattle.relay_held.specs.declared.kept.Kept.{Kept}
use Rattle.relay_held.specs.declared.kept.Spot.{Spot}
use Rattle.relay_flight.specs.declared.request.Request.{Request}
use Rattle.relay_flight.specs.InFlight as flight
use Rattle.relay_core.specs.Walk.{flies_here}
use Rattle.relay_core.specs.Memory.{place_at, writes_in, is_in, flying_of, entry_of, entries, Given, further, rest_if, IsMet, Carries, HasRoom, IsHome, AllAbove, Rises, AllUnder}
use Rattle.relay_core.specs.State.{VersionsRise, AreNumbered, IsPlaceIn, IsInOrder, first_number}
use Rattle.relay_core.specs.declared.lane.Lane.TheInside.{Inside}
use Rattle.relay_core.specs.View.{state_of, IsSound}
use Rattle.relay_core.proofs.Invariant.{writes_absent}
use Rattle.relay_core.proofs.Keeping.{one_less}
use Rattle.relay_core.proofs.Reading.{writes_seen}
use Rattle.relay_flight.proofs.Numbers.{least_found}
use Rattle.relay_core.proofs.Weighed.{kept_at}

-- ---- what flies has its request in flight

rest_shorter : (b : Bool) (ws : List Write) → length (rest_if b ws) ≤ length ws
rest_shorter true [] = omega arith
rest_shorter true (w ∷ ws) = omega arith
rest_shorter false ws = omega arith

carried : (n p : ℕ) (h : Kept) (hs : List Kept) (ws : List Write) → Carries n p hs ws → Mem h hs → flies_here n h.flies ≡ true → 0 < length ws
carried n p h [] ws c m t = absurd m
carried n p h (x ∷ hs) ws c (inl e) t =
    let met : IsMet n p x ws = subst (λ b. Given b (IsMet n p x ws)) (ap (λ (y : Kept). flies_here n y.flies) (sym e) ∙ t) c.0 in
    let len = ap length met.found in
    omega (arith, len)
carried n p h (x ∷ hs) ws c (inr m) t =
    let r = carried n (further (flies_here n x.flies) p) h hs (rest_if (flies_here n x.flies) ws) c.1 m t in
    let s = rest_shorter (flies_here n x.flies) ws in
    omega (arith, r, s)

has_room : (n len : ℕ) (h : Kept) (hs : List Kept) → HasRoom n len hs → Mem h hs → flies_here n h.flies ≡ true → 1 < len → len ≤ h.cap
has_room n len h [] r m t = absurd m
has_room n len h (x ∷ hs) r (inl e) t =
    let room : 1 < len → len ≤ x.cap = subst (λ b. Given b (1 < len → len ≤ x.cap)) (ap (λ (y : Kept). flies_here n y.flies) (sym e) ∙ t) r.0 in
    subst (λ (y : Kept). 1 < len → len ≤ y.cap) (sym e) room
has_room n len h (x ∷ hs) r (inr m) t = has_room n len h hs r.1 m t

there_is : (xs : List Request) (n : ℕ) → 0 < length (writes_in xs n) → is_in n xs ≡ true
there_is xs n some = ⊎_elim {C = is_in n xs ≡ true} (λ t. t) (λ t. let len = ap length (writes_absent xs n t) in absurd (omega (arith, len, some))) (true_or_false (is_in n xs))

any_seen : (least next : ℕ) (xs : List Request) (n : ℕ) → 1 ≤ least → flight.AreNumbered least next xs → 1 ≤ n → is_in n xs ≡ list_any (λ (f : Flying). f.request == n - 1) (map flying_of xs)
any_seen least next [] n from a le = refl
any_seen least next (x ∷ xs) n from a le =
    let low = a.0 in
    λ i. sym (one_less x.number n (omega (arith, from, low)) le) i || any_seen (x.number + 1) next xs n (omega arith) a.2 le i

-- the spot of a place, whose request was given a number
spot_of : (max next : ℕ) (h : Kept) (w : Option Write) (o : Option Spot) (p : Place) → IsHome max next h w o → option_map place_at o ≡ Some p → (s : Spot) × (o ≡ Some s) × (1 ≤ s.request) × (p.request ≡ s.request - 1)
spot_of max next h w None p home e = absurd (cc)
spot_of max next h (Some w) (Some s) p home e = absurd home
spot_of max next h None (Some s) p home e = let k : place_at s ≡ p = cc in (s, refl, home.0, sym (ap (λ (x : Place). x.request) k))

place_in : (a : Inside) → IsSound a → (h : Kept) → Mem h a.held.list → (p : Place) → option_map place_at h.flies ≡ Some p → IsPlaceIn (map flying_of a.flight.requests) h.cap p
place_in a v h m p e =
    let k = kept_at a.config.attempts a.flight.next h a.held.list v.readable.kept m in
    let s = spot_of a.config.attempts a.flight.next h h.write h.flies p k.home e in
    let n = s.0.request in
    let from : 1 ≤ n = s.2 in
    let here : flies_here n h.flies ≡ true = ap (flies_here n) s.1 ∙ equal_test n n refl in
    let some = carried n 0 h a.held.list (writes_in a.flight.requests n) (v.readable.carries n) m here in
    let same : writes_at p.request (map flying_of a.flight.requests) ≡ writes_in a.flight.requests n = ap (λ q. writes_at q (map flying_of a.flight.requests)) s.3 ∙ writes_seen 1 a.flight.next a.flight.requests n (omega arith) v.flight.numbered from in
    let ws = ap length same in
    let room = has_room n (length (writes_in a.flight.requests n)) h a.held.list (v.readable.caps n) m here in
    record {
      flies = ap (λ q. list_any (λ (f : Flying). f.request == q) (map flying_of a.flight.requests)) s.3 ∙ sym (any_seen 1 a.flight.next a.flight.requests n (omega arith) v.flight.numbered from) ∙ there_is a.flight.requests n some;
      room = λ more. let le = room (omega (arith, more, ws)) in omega (arith, le, ws);
    }

-- ---- what is held is in order

under_at : (v : ℕ) (h : Kept) (hs : List Kept) → AllUnder v hs → Mem h hs → h.version < v
under_at v h [] a m = absurd m
under_at v h (x ∷ hs) a (inl e) = let k = ap (λ (y : Kept). y.version) e in let lt = a.0 in omega (arith, k, lt)
under_at v h (x ∷ hs) a (inr m) = under_at v h hs a.1 m

home_waits : (max next : ℕ) (h : Kept) (w : Option Write) (p : Option Spot) → IsHome max next h w p → option_map place_at p ≡ None → h.attempts < max
home_waits max next h (Some w) None home e = home.1
home_waits max next h (Some w) (Some s) home e = absurd home
home_waits max next h None None home e = absurd home
home_waits max next h None (Some s) home e = absurd (cc)

home_most : (max next : ℕ) (h : Kept) (w : Option Write) (p : Option Spot) → IsHome max next h w p → h.attempts ≤ max
home_most max next h (Some w) None home = let lt = home.1 in omega (arith, lt)
home_most max next h (Some w) (Some s) home = absurd home
home_most max next h None None home = absurd home
home_most max next h None (Some s) home = home.2

kept_in_order : (a : Inside) → IsSound a → (h : Kept) → Mem h a.held.list → IsInOrder (state_of a) (entry_of (writes_in a.flight.requests) h)
kept_in_order a v h m =
    let k = kept_at a.config.attempts a.flight.next h a.held.list v.readable.kept m in
    record {
      assigned = under_at (a.first + min a.taken a.config.deal) h a.held.list v.under m;
      due = k.due;
      waits = home_waits a.config.attempts a.flight.next h h.write h.flies k.home;
      flies = place_in a v h m;
      attempts = home_most a.config.attempts a.flight.next h h.write h.flies k.home;
      halved = k.sends;
    }

pub held_in_order : (a : Inside) → IsSound a → (e : Entry) → Mem e (entries a.held.list (writes_in a.flight.requests)) → IsInOrder (state_of a) e
held_in_order a v e m =
    let there = Mem-map (entry_of (writes_in a.flight.requests)) e a.held.list m in
    subst (IsInOrder (state_of a)) (sym there.2) (kept_in_order a v there.0 there.1)

above_at : (v : ℕ) (f : ℕ → List Write) (hs : List Kept) → AllAbove v hs → (j : Held) → Mem j (held_of (entries hs f)) → v < j.version
above_at v f [] a j m = absurd m
above_at v f (h ∷ hs) a j (inl e) = let k = ap (λ (x : Held). x.version) e in let lt = a.0 in omega (arith, k, lt)
above_at v f (h ∷ hs) a j (inr m) = above_at v f hs a.1 j m

pub rises_seen : (f : ℕ → List Write) (hs : List Kept) → Rises hs → VersionsRise (held_of (entries hs f))
rises_seen f [] r = tt
rises_seen f (h ∷ hs) r = (above_at h.version f hs r.0, rises_seen f hs r.1)

-- ---- the requests in flight

pub same_many : (xs : List Request) → length (map flying_of xs) ≡ length (map flight.numbered_batch xs)
same_many xs = length-map xs flying_of ∙ sym (length-map xs flight.numbered_batch)

numbered : (least next : ℕ) (xs : List Request) → 1 ≤ least → flight.AreNumbered least next xs → AreNumbered (least - 1) (next - 1) (map flying_of xs)
numbered least next [] from a = tt
numbered least next (x ∷ xs) from a =
    let low = a.0 in
    let high = a.1 in
    let same : x.number + 1 - 1 ≡ x.number - 1 + 1 = omega (arith, from, low) in (
      omega (arith, low),
      omega (arith, from, low, high),
      subst (λ k. AreNumbered k (next - 1) (map flying_of xs)) same (numbered (x.number + 1) next xs (omega arith) a.2),
    )

-- those of a lane
pub numbers_seen : (a : Inside) → IsSound a → AreNumbered 0 (a.flight.next - 1) (map flying_of a.flight.requests)
numbers_seen a v = numbered 1 a.flight.next a.flight.requests (omega arith) v.flight.numbered

-- the oldest is the first of them
pub oldest_seen : (max next : ℕ) (xs : List Request) (o : Option ℕ) → flight.AreNumbered 1 next xs → MatchOption o (xs ≡ []) (λ n. flight.IsOldest n (record { max = max; next = next; requests = xs })) → o ≡ first_number (map flying_of xs)
oldest_seen max next [] None a e = refl
oldest_seen max next [] (Some n) a e = absurd (let f = e.flies in cc)
oldest_seen max next (x ∷ xs) None a e = absurd (cc)
oldest_seen max next (x ∷ xs) (Some n) a e =
    let from = a.0 in
    let here : IsSome (flight.request_at x.number (record { max = max; next = next; requests = x ∷ xs })) = (let t = equal_test x.number x.number refl in rw t refl) in
    let low = e.least x.number here in
    let high = least_found x.number next n (x ∷ xs) (omega arith, a.1, a.2) e.flies in
    let same : n ≡ x.number - 1 + 1 = omega (arith, low, high, from) in ap Some same
