-- A batch is sent: the held list as it is read afterwards, and what is kept.
use Rattle.std.proofs.Common.{◌≡◌, ℕ, ◌+◌, ◌<◌, ◌≤◌, List, [], ◌∷◌, ◌++◌, length, length-append, Option, Some, None, true, false, ◌==◌, refl, sym, ap, subst, ⊎_elim, inl, inr, arith, drop}
use Rattle.std.specs.Prelude.{if◌then◌else◌, map, option_to_list}
use Rattle.std.proofs.lemmas.Bool.{lt-ltb}
use Rattle.relay_action.specs.declared.write.Write.{Write}
use Rattle.relay_batch.specs.declared.item.BatchItem.{BatchItem}
use Rattle.relay_results.specs.Words.{IsSubsequence}
use Rattle.relay_results.proofs.Lists.{true_or_false, equal, equal_test, and_right}
use Rattle.relay_held.specs.declared.kept.Kept.{Kept}
use Rattle.relay_held.specs.declared.kept.Spot.{Spot}
use Rattle.relay_core.specs.Walk.{flies_here, item_of_kept, more, is_next, launch_one, launched_kept, freight}
use Rattle.relay_core.specs.Memory.{IsHome, IsKept, AllKept, AllAbove, AllUnder, Rises, Given, further, rest_if, IsMet, Carries, HasRoom, tries_left}
use Rattle.relay_core.proofs.Keeping.{given_any}
use Rattle.relay_core.proofs.Launching.{AllWait, Home, home_of, above_sub, waits_none, is_its, is_later_one}

-- ---- versions

pub above_launched : (clock : ℕ) (n : ℕ) (v : ℕ) (hs : List Kept) (p : ℕ) (is : List BatchItem) → AllAbove v hs → AllAbove v (launched_kept clock hs n p is)
above_launched clock n v [] p is a = tt
above_launched clock n v (h ∷ hs) p is a = ⊎_elim {C = AllAbove v (launched_kept clock (h ∷ hs) n p is)}
    (λ t. subst (λ b. AllAbove v (if b then launch_one clock n p h ∷ launched_kept clock hs n (p + 1) (drop 1 is) else h ∷ launched_kept clock hs n p is)) (sym t) (a.0, above_launched clock n v hs (p + 1) (drop 1 is) a.1))
    (λ t. subst (λ b. AllAbove v (if b then launch_one clock n p h ∷ launched_kept clock hs n (p + 1) (drop 1 is) else h ∷ launched_kept clock hs n p is)) (sym t) (a.0, above_launched clock n v hs p is a.1))
    (true_or_false (is_next is h))

pub under_launched : (clock : ℕ) (n : ℕ) (v : ℕ) (hs : List Kept) (p : ℕ) (is : List BatchItem) → AllUnder v hs → AllUnder v (launched_kept clock hs n p is)
under_launched clock n v [] p is a = tt
under_launched clock n v (h ∷ hs) p is a = ⊎_elim {C = AllUnder v (launched_kept clock (h ∷ hs) n p is)}
    (λ t. subst (λ b. AllUnder v (if b then launch_one clock n p h ∷ launched_kept clock hs n (p + 1) (drop 1 is) else h ∷ launched_kept clock hs n p is)) (sym t) (a.0, under_launched clock n v hs (p + 1) (drop 1 is) a.1))
    (λ t. subst (λ b. AllUnder v (if b then launch_one clock n p h ∷ launched_kept clock hs n (p + 1) (drop 1 is) else h ∷ launched_kept clock hs n p is)) (sym t) (a.0, under_launched clock n v hs p is a.1))
    (true_or_false (is_next is h))

pub rises_launched : (clock : ℕ) (n : ℕ) (hs : List Kept) (p : ℕ) (is : List BatchItem) → Rises hs → Rises (launched_kept clock hs n p is)
rises_launched clock n [] p is r = tt
rises_launched clock n (h ∷ hs) p is r = ⊎_elim {C = Rises (launched_kept clock (h ∷ hs) n p is)}
    (λ t. subst (λ b. Rises (if b then launch_one clock n p h ∷ launched_kept clock hs n (p + 1) (drop 1 is) else h ∷ launched_kept clock hs n p is)) (sym t) (above_launched clock n h.version hs (p + 1) (drop 1 is) r.0, rises_launched clock n hs (p + 1) (drop 1 is) r.1))
    (λ t. subst (λ b. Rises (if b then launch_one clock n p h ∷ launched_kept clock hs n (p + 1) (drop 1 is) else h ∷ launched_kept clock hs n p is)) (sym t) (above_launched clock n h.version hs p is r.0, rises_launched clock n hs p is r.1))
    (true_or_false (is_next is h))

-- ---- each has what it needs

-- the next item is of one that waits
next_waits : (is : List BatchItem) (h : Kept) → is_next is h ≡ true → h.flies ≡ None
next_waits [] h t = absurd (cc)
next_waits (i ∷ is) h t = waits_none h.flies (and_right (h.version == i.version) _ t)

home_later : (max n : ℕ) (h : Kept) (w : Option Write) (s : Option Spot) → IsHome max n h w s → IsHome max (n + 1) h w s
home_later max n h (Some w) None k = k
home_later max n h (Some w) (Some s) k = k
home_later max n h None None k = k
home_later max n h None (Some s) k = (k.0, omega (arith, k.1), k.2)

kept_later : (max n : ℕ) (h : Kept) → IsKept max n h → IsKept max (n + 1) h
kept_later max n h k = record { home = home_later max n h h.write h.flies k.home; sends = k.sends; due = k.due }

pub more_is : (k : ℕ) → k < 4294967295 → more k ≡ k + 1
more_is k lt = ap (λ b. if b then k + 1 else k) (lt-ltb k 4294967295 lt)

kept_launched : (clock : ℕ) (max n p : ℕ) (h : Kept) → 1 ≤ n → max ≤ 2097152 → IsKept max n h → Home max h → IsKept max (n + 1) (launch_one clock n p h)
kept_launched clock max n p h from le k o =
    let a = more_is h.attempts (omega (arith, o.tries, le)) in
    let s = more_is h.sends (omega (arith, o.tries, le, k.sends)) in
    record { home = (from, omega arith, omega (arith, a, o.tries)); sends = (let y = k.sends in omega (arith, a, s, y)); due = k.due }

pub all_launched : (clock : ℕ) (max n : ℕ) (hs : List Kept) (p : ℕ) (is : List BatchItem) → 1 ≤ n → max ≤ 2097152 → AllKept max n hs → AllKept max (n + 1) (launched_kept clock hs n p is)
all_launched clock max n [] p is from le a = tt
all_launched clock max n (h ∷ hs) p is from le a = ⊎_elim {C = AllKept max (n + 1) (launched_kept clock (h ∷ hs) n p is)}
    (λ t. subst (λ b. AllKept max (n + 1) (if b then launch_one clock n p h ∷ launched_kept clock hs n (p + 1) (drop 1 is) else h ∷ launched_kept clock hs n p is)) (sym t)
    (kept_launched clock max n p h from le a.0 (home_of max n h h.write h.flies refl a.0.home (next_waits is h t)), all_launched clock max n hs (p + 1) (drop 1 is) from le a.1))
    (λ t. subst (λ b. AllKept max (n + 1) (if b then launch_one clock n p h ∷ launched_kept clock hs n (p + 1) (drop 1 is) else h ∷ launched_kept clock hs n p is)) (sym t)
    (kept_later max n h a.0, all_launched clock max n hs p is from le a.1))
    (true_or_false (is_next is h))

-- ---- tries

left_launched : (clock : ℕ) (max n : ℕ) (hs : List Kept) (p : ℕ) (is : List BatchItem) → max ≤ 2097152 → AllKept max n hs → tries_left max (launched_kept clock hs n p is) ≤ tries_left max hs
left_launched clock max n [] p is le a = omega arith
left_launched clock max n (h ∷ hs) p is le a = ⊎_elim {C = tries_left max (launched_kept clock (h ∷ hs) n p is) ≤ tries_left max (h ∷ hs)}
    (λ t. let e = ap (λ b. tries_left max (if b then launch_one clock n p h ∷ launched_kept clock hs n (p + 1) (drop 1 is) else h ∷ launched_kept clock hs n p is)) t in
    let o = home_of max n h h.write h.flies refl a.0.home (next_waits is h t) in
    let m = more_is h.attempts (omega (arith, o.tries, le)) in
    let ih = left_launched clock max n hs (p + 1) (drop 1 is) le a.1 in omega (arith, e, m, ih))
    (λ t. let e = ap (λ b. tries_left max (if b then launch_one clock n p h ∷ launched_kept clock hs n (p + 1) (drop 1 is) else h ∷ launched_kept clock hs n p is)) t in
    let ih = left_launched clock max n hs p is le a.1 in omega (arith, e, ih))
    (true_or_false (is_next is h))

-- a request takes one of them at least
pub fewer_left : (clock : ℕ) (max n : ℕ) (hs : List Kept) (p : ℕ) (one : Kept) (ps : List Kept) → max ≤ 2097152 → AllKept max n hs → Rises hs → IsSubsequence (one ∷ ps) hs → AllWait (one ∷ ps)
    → tries_left max (launched_kept clock hs n p (map item_of_kept (one ∷ ps))) + 1 ≤ tries_left max hs
fewer_left clock max n [] p one ps le a r s w = absurd s
fewer_left clock max n (h ∷ hs) p one ps le a r (inl s) w =
    subst (λ (x : Kept). (x.flies ≡ None) → tries_left max (launched_kept clock (h ∷ hs) n p (item_of_kept x ∷ map item_of_kept ps)) + 1 ≤ tries_left max (h ∷ hs)) (sym s.0)
    (λ none.
    let t = is_its h (map item_of_kept ps) none in
    let e = ap (λ b. tries_left max (if b then launch_one clock n p h ∷ launched_kept clock hs n (p + 1) (map item_of_kept ps) else h ∷ launched_kept clock hs n p (item_of_kept h ∷ map item_of_kept ps))) t in
    let o = home_of max n h h.write h.flies refl a.0.home none in
    let m = more_is h.attempts (omega (arith, o.tries, le)) in
    let ih = left_launched clock max n hs (p + 1) (map item_of_kept ps) le a.1 in
    let lt = o.tries in omega (arith, e, m, ih, lt))
    w.0
fewer_left clock max n (h ∷ hs) p one ps le a r (inr s) w =
    let t = is_later_one one h (map item_of_kept ps) (above_sub h.version (one ∷ ps) hs s r.0).0 in
    let e = ap (λ b. tries_left max (if b then launch_one clock n p h ∷ launched_kept clock hs n (p + 1) (map item_of_kept ps) else h ∷ launched_kept clock hs n p (item_of_kept one ∷ map item_of_kept ps))) t in
    let ih = fewer_left clock max n hs p one ps le a.1 r.1 s w in omega (arith, e, ih)

-- ---- caps

-- none flies in a request that is still to come
not_yet : (max n : ℕ) (h : Kept) (w : Option Write) (s : Option Spot) → IsHome max n h w s → flies_here n s ≡ false
not_yet max n h (Some w) None k = refl
not_yet max n h (Some w) (Some s) k = absurd k
not_yet max n h None None k = refl
not_yet max n h None (Some s) k = ⊎_elim {C = (s.request == n) ≡ false} (λ t. let e = equal s.request n t in absurd (omega (arith, e, k.1))) (λ f. f) (true_or_false (s.request == n))

other_number : (n m : ℕ) → (m == n) ≡ false → (n == m) ≡ false
other_number n m ne = ⊎_elim {C = (n == m) ≡ false} (λ t. let k = equal_test m n (sym (equal n m t)) in absurd (cc)) (λ f. f) (true_or_false (n == m))

freight_few : (hs : List Kept) (is : List BatchItem) → length (freight hs is) ≤ length is
freight_few [] is = omega arith
freight_few (h ∷ hs) is = ⊎_elim {C = length (freight (h ∷ hs) is) ≤ length is}
    (λ t. let e = ap (λ b. length (if b then option_to_list h.write ++ freight hs (drop 1 is) else freight hs is)) t in
    let n = length-append (option_to_list h.write) (freight hs (drop 1 is)) in
    let o = one_at_most h.write in
    let some = next_some is h t in
    let ih = freight_few hs (drop 1 is) in omega (arith, e, n, o, some, ih))
    (λ t. let e = ap (λ b. length (if b then option_to_list h.write ++ freight hs (drop 1 is) else freight hs is)) t in
    let ih = freight_few hs is in omega (arith, e, ih))
    (true_or_false (is_next is h))
  where
    one_at_most : (w : Option Write) → length (option_to_list w) ≤ 1
    one_at_most None = omega arith
    one_at_most (Some w) = omega arith

    next_some : (is : List BatchItem) (h : Kept) → is_next is h ≡ true → length (drop 1 is) + 1 ≤ length is
    next_some [] h t = absurd (cc)
    next_some (i ∷ is) h t = omega arith

pub freight_fits : (hs : List Kept) (is : List BatchItem) → length (freight hs is) ≤ length is
freight_fits hs is = freight_few hs is

-- a size that the caps of these keep
abbrev pub AllCap : ℕ → List Kept → Type 0
AllCap len [] = Unit {0}
AllCap len (p ∷ ps) = (1 < len → len ≤ p.cap) × AllCap len ps

pub room_new : (clock : ℕ) (max n len : ℕ) (hs ps : List Kept) (p : ℕ) → AllKept max n hs → Rises hs → IsSubsequence ps hs → AllWait ps → AllCap len ps → HasRoom n len (launched_kept clock hs n p (map item_of_kept ps))
room_new clock max n len [] ps p a r s w c = tt
room_new clock max n len (h ∷ hs) [] p a r s w c = (
  subst (λ b. Given b (1 < len → len ≤ h.cap)) (sym (not_yet max n h h.write h.flies a.0.home)) tt,
  room_new clock max n len hs [] p a.1 r.1 tt tt tt,
)
room_new clock max n len (h ∷ hs) (one ∷ ps) p a r (inl s) w c =
    subst (λ (x : Kept). (x.flies ≡ None) → (1 < len → len ≤ x.cap) → HasRoom n len (launched_kept clock (h ∷ hs) n p (item_of_kept x ∷ map item_of_kept ps))) (sym s.0)
    (λ none cap.
    subst (λ b. HasRoom n len (if b then launch_one clock n p h ∷ launched_kept clock hs n (p + 1) (map item_of_kept ps) else h ∷ launched_kept clock hs n p (item_of_kept h ∷ map item_of_kept ps))) (sym (is_its h (map item_of_kept ps) none))
    (given_any (n == n) cap, room_new clock max n len hs ps (p + 1) a.1 r.1 s.1 w.1 c.1))
    w.0 c.0
room_new clock max n len (h ∷ hs) (one ∷ ps) p a r (inr s) w c =
    subst (λ b. HasRoom n len (if b then launch_one clock n p h ∷ launched_kept clock hs n (p + 1) (map item_of_kept ps) else h ∷ launched_kept clock hs n p (item_of_kept one ∷ map item_of_kept ps))) (sym (is_later_one one h (map item_of_kept ps) (above_sub h.version (one ∷ ps) hs s r.0).0))
    (subst (λ b. Given b (1 < len → len ≤ h.cap)) (sym (not_yet max n h h.write h.flies a.0.home)) tt, room_new clock max n len hs (one ∷ ps) p a.1 r.1 s w c)

-- the others keep their room
pub room_other : (clock : ℕ) (n m len : ℕ) (hs : List Kept) (p : ℕ) (is : List BatchItem) → (m == n) ≡ false → HasRoom m len hs → HasRoom m len (launched_kept clock hs n p is)
room_other clock n m len [] p is ne r = tt
room_other clock n m len (h ∷ hs) p is ne r = ⊎_elim {C = HasRoom m len (launched_kept clock (h ∷ hs) n p is)}
    (λ t. subst (λ b. HasRoom m len (if b then launch_one clock n p h ∷ launched_kept clock hs n (p + 1) (drop 1 is) else h ∷ launched_kept clock hs n p is)) (sym t)
    (subst (λ b. Given b (1 < len → len ≤ h.cap)) (sym (other_number n m ne)) tt, room_other clock n m len hs (p + 1) (drop 1 is) ne r.1))
    (λ t. subst (λ b. HasRoom m len (if b then launch_one clock n p h ∷ launched_kept clock hs n (p + 1) (drop 1 is) else h ∷ launched_kept clock hs n p is)) (sym t)
    (r.0, room_other clock n m len hs p is ne r.1))
    (true_or_false (is_next is h))

-- ---- what is carried

step_carries : (n p : ℕ) (h : Kept) (hs : List Kept) (ws : List Write) → flies_here n h.flies ≡ false → Carries n p hs ws → Carries n p (h ∷ hs) ws
step_carries n p h hs ws t c = subst (λ b. Given b (IsMet n p h ws) × Carries n (further b p) hs (rest_if b ws)) (sym t) (tt, c)

-- the new request carries the writes that went
pub carries_new : (clock : ℕ) (max n : ℕ) (hs : List Kept) (p : ℕ) (is : List BatchItem) → AllKept max n hs → Carries n p (launched_kept clock hs n p is) (freight hs is)
carries_new clock max n [] p is a = refl
carries_new clock max n (h ∷ hs) p is a = ⊎_elim {C = Carries n p (launched_kept clock (h ∷ hs) n p is) (freight (h ∷ hs) is)}
    (λ t.
    let o = home_of max n h h.write h.flies refl a.0.home (next_waits is h t) in
    subst (λ b. Carries n p (if b then launch_one clock n p h ∷ launched_kept clock hs n (p + 1) (drop 1 is) else h ∷ launched_kept clock hs n p is) (if b then option_to_list h.write ++ freight hs (drop 1 is) else freight hs is)) (sym t)
    (subst (λ w. Carries n p (launch_one clock n p h ∷ launched_kept clock hs n (p + 1) (drop 1 is)) (option_to_list w ++ freight hs (drop 1 is))) (sym o.found)
    (subst (λ b. Given b (IsMet n p (launch_one clock n p h) (o.write ∷ freight hs (drop 1 is))) × Carries n (further b p) (launched_kept clock hs n (p + 1) (drop 1 is)) (rest_if b (o.write ∷ freight hs (drop 1 is)))) (sym (equal_test n n refl))
    (record { write = o.write; found = refl; spot = refl; matches = record { key = o.matches.key; version = o.matches.version; kind = o.matches.kind; bytes = o.matches.bytes } }, carries_new clock max n hs (p + 1) (drop 1 is) a.1))))
    (λ t.
    subst (λ b. Carries n p (if b then launch_one clock n p h ∷ launched_kept clock hs n (p + 1) (drop 1 is) else h ∷ launched_kept clock hs n p is) (if b then option_to_list h.write ++ freight hs (drop 1 is) else freight hs is)) (sym t)
    (step_carries n p h (launched_kept clock hs n p is) (freight hs is) (not_yet max n h h.write h.flies a.0.home) (carries_new clock max n hs p is a.1)))
    (true_or_false (is_next is h))

-- the others carry what they carried
pub carries_other : (clock : ℕ) (max n m : ℕ) (hs : List Kept) (p : ℕ) (is : List BatchItem) (q : ℕ) (ws : List Write) → (m == n) ≡ false → Carries m q hs ws → Carries m q (launched_kept clock hs n p is) ws
carries_other clock max n m [] p is q ws ne c = c
carries_other clock max n m (h ∷ hs) p is q ws ne c = ⊎_elim {C = Carries m q (launched_kept clock (h ∷ hs) n p is) ws}
    (λ t.
    let none : flies_here m h.flies ≡ false = ap (flies_here m) (next_waits is h t) in
    let c1 : Carries m q hs ws = subst (λ b. Carries m (further b q) hs (rest_if b ws)) none c.1 in
    subst (λ b. Carries m q (if b then launch_one clock n p h ∷ launched_kept clock hs n (p + 1) (drop 1 is) else h ∷ launched_kept clock hs n p is) ws) (sym t)
    (step_carries m q (launch_one clock n p h) (launched_kept clock hs n (p + 1) (drop 1 is)) ws (other_number n m ne) (carries_other clock max n m hs (p + 1) (drop 1 is) q ws ne c1)))
    (λ t.
    subst (λ b. Carries m q (if b then launch_one clock n p h ∷ launched_kept clock hs n (p + 1) (drop 1 is) else h ∷ launched_kept clock hs n p is) ws) (sym t)
    (c.0, carries_other clock max n m hs p is (further (flies_here m h.flies) q) (rest_if (flies_here m h.flies) ws) ne c.1))
    (true_or_false (is_next is h))

pub left_more : (clock : ℕ) (max n : ℕ) (hs ps : List Kept) → max ≤ 2097152 → AllKept max n hs → Rises hs → IsSubsequence ps hs → AllWait ps → 0 < length (map item_of_kept ps)
    → tries_left max (launched_kept clock hs n 0 (map item_of_kept ps)) + 1 ≤ tries_left max hs
left_more clock max n hs [] le a r s w lt = absurd (omega (arith, lt))
left_more clock max n hs (p ∷ ps) le a r s w lt = fewer_left clock max n hs 0 p ps le a r s w
