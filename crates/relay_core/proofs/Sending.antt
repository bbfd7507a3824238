-- A batch is sent: the held list as it is read afterwards is the one before with those of the batch sent.
use Rattle.std.proofs.Common.{◌≡◌, ◌≢◌, ℕ, suc, ◌+◌, ◌-◌, ◌<◌, ◌≤◌, List, [], ◌∷◌, ◌++◌, length, Option, Some, None, false, ◌==◌, ◌||◌, refl, sym, ap, ◌∙◌, subst, ⊎_elim, inl, inr, arith, append_assoc, length-append}
use Rattle.std.specs.Prelude.{if◌then◌else◌, map, slice_get, option_map, option_to_list}
use Rattle.relay_action.specs.declared.write.Write.{Write}
use Rattle.relay_flight.proofs.Numbers.{Lacks}
use Rattle.relay_results.specs.Words.{IsSubsequence}
use Rattle.relay_results.proofs.Lists.{true_or_false, equal, equal_test}
use Rattle.relay_delivery.specs.Machine.{Held, place_of, launched_at}
use Rattle.relay_delivery.specs.Lane.{held_of, since_sent, launched_entry}
use Rattle.relay_held.specs.declared.kept.Kept.{Kept}
use Rattle.relay_flight.specs.declared.request.Request.{Request}
use Rattle.relay_held.specs.declared.kept.Spot.{Spot}
use Rattle.relay_core.specs.Walk.{item_of_kept, launch_one, launched_kept}
use Rattle.relay_core.specs.Memory.{is_in, writes_in, write_found, action_or, held_seen, entry_of, entries, place_at, IsHome, IsKept, AllKept, AllAbove, Rises}
use Rattle.relay_core.proofs.Launching.{AllWait, loads, Home, home_of, above_sub, is_its, is_later_one}
use Rattle.relay_core.proofs.Launched.{more_is}
use Rattle.relay_core.proofs.Keeping.{or_false}

-- ---- places

-- of those before, all have lower versions
abbrev pub Under : ℕ → List Held → Type 0
Under v [] = Unit {0}
Under v (q ∷ qs) = (q.version < v) × Under v qs

abbrev pub AllOver : ℕ → List Held → Type 0
AllOver v [] = Unit {0}
AllOver v (q ∷ qs) = (v < q.version) × AllOver v qs

under_more : (v v' : ℕ) (qs : List Held) (q : Held) → v ≤ v' → q.version < v' → Under v qs → Under v' (qs ++ q ∷ [])
under_more v v' [] q le lt u = (lt, tt)
under_more v v' (x ∷ qs) q le lt u = (omega (arith, u.0, le), under_more v v' qs q le lt u.1)

pub not_it : (a b : ℕ) → a ≢ b → (a == b) ≡ false
not_it a b ne = ⊎_elim {C = (a == b) ≡ false} (λ t. absurd (ne (equal a b t))) (λ f. f) (true_or_false (a == b))

place_over : (v : ℕ) (rs : List Held) → AllOver v rs → place_of v rs ≡ None
place_over v [] a = refl
place_over v (r ∷ rs) a =
    ap (λ b. if b then Some 0 else option_map suc (place_of v rs)) (not_it r.version v (λ e. let lt = a.0 in omega (arith, e, lt)))
    ∙ ap (option_map suc) (place_over v rs a.1)

place_none : (v : ℕ) (qs rs : List Held) → Under v qs → AllOver v rs → place_of v (qs ++ rs) ≡ None
place_none v [] rs u a = place_over v rs a
place_none v (q ∷ qs) rs u a =
    ap (λ b. if b then Some 0 else option_map suc (place_of v (qs ++ rs))) (not_it q.version v (λ e. let lt = u.0 in omega (arith, e, lt)))
    ∙ ap (option_map suc) (place_none v qs rs u.1 a)

place_here : (v : ℕ) (qs : List Held) (r : Held) (rs : List Held) → Under v qs → r.version ≡ v → place_of v (qs ++ r ∷ rs) ≡ Some (length qs)
place_here v [] r rs u e = ap (λ b. if b then Some 0 else option_map suc (place_of v rs)) (equal_test r.version v e)
place_here v (q ∷ qs) r rs u e =
    ap (λ b. if b then Some 0 else option_map suc (place_of v (qs ++ r ∷ rs))) (not_it q.version v (λ x. let lt = u.0 in omega (arith, x, lt)))
    ∙ ap (option_map suc) (place_here v qs r rs u.1 e)

over_seen : (f : ℕ → List Write) (v : ℕ) (ps : List Kept) → AllAbove v ps → AllOver v (held_of (entries ps f))
over_seen f v [] a = tt
over_seen f v (p ∷ ps) a = (a.0, over_seen f v ps a.1)

-- ---- one that stays, and one that goes

at_front : {A : Type 0} (xs : List A) (y : A) (zs : List A) → slice_get (xs ++ y ∷ zs) (length xs) ≡ Some y
at_front [] y zs = refl
at_front (x ∷ xs) y zs = at_front xs y zs

found_same : (max n : ℕ) (f f' : ℕ → List Write) (h : Kept) (w : Option Write) (s : Option Spot) → ((m : ℕ) → m < n → f' m ≡ f m) → IsHome max n h w s → write_found w s f' ≡ write_found w s f
found_same max n f f' h (Some w) s same k = refl
found_same max n f f' h None None same k = refl
found_same max n f f' h None (Some s) same k = ap (λ ws. slice_get ws s.place) (same s.request k.1)

stays_seen : (clock max n : ℕ) (f f' : ℕ → List Write) (h : Kept) (chosen : List Held) → ((m : ℕ) → m < n → f' m ≡ f m) → IsKept max n h → place_of h.version chosen ≡ None
    → entry_of f' h ≡ launched_entry clock (n - 1) chosen (entry_of f h)
stays_seen clock max n f f' h chosen same k none =
    (λ i. record {
      held = record { op = record { epoch = h.name.epoch; producer = h.name.producer; number = h.name.number; key = h.key; action = action_or (found_same max n f f' h h.write h.flies same k.home i) }; version = h.version; sends = h.sends; attempts = h.attempts; cap = h.cap; flies = option_map place_at h.flies };
      bytes = h.bytes;
      taken_at = h.taken_at;
      since = h.since;
      due = h.due;
    })
    ∙ (λ i. record { held = launched_at (n - 1) (held_seen f h) (sym none i); bytes = h.bytes; taken_at = h.taken_at; since = since_sent clock (entry_of f h) (sym none i); due = h.due })

goes_seen : (clock max n : ℕ) (f f' : ℕ → List Write) (h : Kept) (chosen : List Held) (p : ℕ) → max ≤ 2097152 → IsKept max n h → (o : Home max h) → slice_get (f' n) p ≡ Some o.write → place_of h.version chosen ≡ Some p
    → entry_of f' (launch_one clock n p h) ≡ launched_entry clock (n - 1) chosen (entry_of f h)
goes_seen clock max n f f' h chosen p le k o got at =
    let a = more_is h.attempts (omega (arith, o.tries, le)) in
    let s = more_is h.sends (omega (arith, o.tries, le, k.sends)) in
    (λ i. record {
      held = record { op = record { epoch = h.name.epoch; producer = h.name.producer; number = h.name.number; key = h.key; action = action_or (got i) }; version = h.version; sends = s i; attempts = a i; cap = h.cap; flies = Some (record { request = n - 1; place = p }) };
      bytes = h.bytes;
      taken_at = h.taken_at;
      since = (if h.sends == 0 then clock else h.since);
      due = h.due;
    })
    ∙ (λ i. record {
      held = record { op = record { epoch = h.name.epoch; producer = h.name.producer; number = h.name.number; key = h.key; action = action_or (write_found (sym o.found i) h.flies f) }; version = h.version; sends = h.sends + 1; attempts = h.attempts + 1; cap = h.cap; flies = Some (record { request = n - 1; place = p }) };
      bytes = h.bytes;
      taken_at = h.taken_at;
      since = (if h.sends == 0 then clock else h.since);
      due = h.due;
    })
    ∙ (λ i. record { held = launched_at (n - 1) (held_seen f h) (sym at i); bytes = h.bytes; taken_at = h.taken_at; since = since_sent clock (entry_of f h) (sym at i); due = h.due })

-- ---- the whole list

-- versions are this or above
abbrev pub AllFrom : ℕ → List Kept → Type 0
AllFrom v [] = Unit {0}
AllFrom v (h ∷ hs) = (v ≤ h.version) × AllFrom v hs

from_above : (v : ℕ) (hs : List Kept) → AllAbove v hs → AllFrom (v + 1) hs
from_above v [] a = tt
from_above v (h ∷ hs) a = (omega (arith, a.0), from_above v hs a.1)

pub from_zero_on : (hs : List Kept) → AllFrom 0 hs
from_zero_on [] = tt
from_zero_on (h ∷ hs) = (omega arith, from_zero_on hs)

under_same : (v v' : ℕ) (qs : List Held) → v ≤ v' → Under v qs → Under v' qs
under_same v v' [] le u = tt
under_same v v' (q ∷ qs) le u = (omega (arith, u.0, le), under_same v v' qs le u.1)

module _ (clock max n : ℕ) (le : max ≤ 2097152) (f f' : ℕ → List Write) (same : (m : ℕ) → m < n → f' m ≡ f m) where
  abbrev pub Seen : ℕ → List Kept → List Kept → List Held → List Write → Type 0
  Seen b hs ps qs fw =
      length fw ≡ length qs → f' n ≡ fw ++ loads ps → Under b qs → AllFrom b hs → Rises hs → AllKept max n hs → IsSubsequence ps hs → AllWait ps →
      entries (launched_kept clock hs n (length qs) (map item_of_kept ps)) f' ≡ map (launched_entry clock (n - 1) (qs ++ held_of (entries ps f))) (entries hs f)

  goes_on : (b : ℕ) (h : Kept) (hs ps : List Kept) (qs : List Held) (fw : List Write) → ((b' : ℕ) (qs' : List Held) (fw' : List Write) → Seen b' hs ps qs' fw')
      → length fw ≡ length qs → f' n ≡ fw ++ loads (h ∷ ps) → Under b qs → AllFrom b (h ∷ hs) → Rises (h ∷ hs) → AllKept max n (h ∷ hs) → IsSubsequence ps hs → h.flies ≡ None → AllWait ps
      → entries (launched_kept clock (h ∷ hs) n (length qs) (map item_of_kept (h ∷ ps))) f' ≡ map (launched_entry clock (n - 1) (qs ++ held_of (entries (h ∷ ps) f))) (entries (h ∷ hs) f)
  goes_on b h hs ps qs fw ih len load u from r a s none w =
      let o = home_of max n h h.write h.flies refl a.0.home none in
      let loaded : f' n ≡ fw ++ o.write ∷ loads ps = load ∙ ap (λ x. fw ++ (option_to_list x ++ loads ps)) o.found in
      let got : slice_get (f' n) (length qs) ≡ Some o.write = ap (λ ws. slice_get ws (length qs)) loaded ∙ ap (slice_get (fw ++ o.write ∷ loads ps)) (sym len) ∙ at_front fw o.write (loads ps) in
      let uh = under_same b h.version qs from.0 u in
      let at = place_here h.version qs (held_seen f h) (held_of (entries ps f)) uh refl in
      let q = held_seen f h in
      let rest = ih (h.version + 1) (qs ++ q ∷ []) (fw ++ o.write ∷ [])
      (length-append fw (o.write ∷ []) ∙ ap (λ k. k + 1) len ∙ sym (length-append qs (q ∷ [])))
      (loaded ∙ sym (append_assoc fw (o.write ∷ []) (loads ps)))
      (under_more h.version (h.version + 1) qs q (omega arith) (omega arith) uh)
      (from_above h.version hs r.0) r.1 a.1 s w in
      ap (λ t. entries (if t then launch_one clock n (length qs) h ∷ launched_kept clock hs n (length qs + 1) (map item_of_kept ps) else h ∷ launched_kept clock hs n (length qs) (item_of_kept h ∷ map item_of_kept ps)) f') (is_its h (map item_of_kept ps) none)
      ∙ ap (λ k. entry_of f' (launch_one clock n (length qs) h) ∷ entries (launched_kept clock hs n k (map item_of_kept ps)) f') (sym (length-append qs (q ∷ [])))
      ∙ ap (λ es. entry_of f' (launch_one clock n (length qs) h) ∷ es) (rest ∙ ap (λ cs. map (launched_entry clock (n - 1) cs) (entries hs f)) (append_assoc qs (q ∷ []) (held_of (entries ps f))))
      ∙ ap (λ e. e ∷ map (launched_entry clock (n - 1) (qs ++ q ∷ held_of (entries ps f))) (entries hs f)) (goes_seen clock max n f f' h (qs ++ q ∷ held_of (entries ps f)) (length qs) le a.0 o got at)

  pub launched_seen : (hs ps : List Kept) (b : ℕ) (qs : List Held) (fw : List Write) → Seen b hs ps qs fw
  launched_seen [] ps b qs fw len load u from r a s w = refl
  launched_seen (h ∷ hs) [] b qs fw len load u from r a s w =
      let none = place_none h.version qs [] (under_same b h.version qs from.0 u) tt in
      λ i. stays_seen clock max n f f' h (qs ++ []) same a.0 none i ∷ launched_seen hs [] b qs fw len load u from.1 r.1 a.1 tt tt i
  launched_seen (h ∷ hs) (p ∷ ps) b qs fw len load u from r a (inl s) w =
      subst (λ (x : Kept). f' n ≡ fw ++ loads (x ∷ ps) → x.flies ≡ None → entries (launched_kept clock (h ∷ hs) n (length qs) (map item_of_kept (x ∷ ps))) f' ≡ map (launched_entry clock (n - 1) (qs ++ held_of (entries (x ∷ ps) f))) (entries (h ∷ hs) f)) (sym s.0)
      (λ l none. goes_on b h hs ps qs fw (λ b' qs' fw'. launched_seen hs ps b' qs' fw') len l u from r a s.1 none w.1)
      load w.0
  launched_seen (h ∷ hs) (p ∷ ps) b qs fw len load u from r a (inr s) w =
      let over = above_sub h.version (p ∷ ps) hs s r.0 in
      let none = place_none h.version qs (held_of (entries (p ∷ ps) f)) (under_same b h.version qs from.0 u) (over_seen f h.version (p ∷ ps) over) in
      ap (λ t. entries (if t then launch_one clock n (length qs) h ∷ launched_kept clock hs n (length qs + 1) (map item_of_kept ps) else h ∷ launched_kept clock hs n (length qs) (item_of_kept p ∷ map item_of_kept ps)) f') (is_later_one p h (map item_of_kept ps) over.0)
      ∙ (λ i. stays_seen clock max n f f' h (qs ++ held_of (entries (p ∷ ps) f)) same a.0 none i ∷ launched_seen hs (p ∷ ps) b qs fw len load u from.1 r.1 a.1 s w i)

-- ---- requests in flight

pub none_in : (n : ℕ) (xs : List Request) → Lacks n xs → is_in n xs ≡ false
none_in n [] l = refl
none_in n (x ∷ xs) l = ap (λ b. b || is_in n xs) l.0 ∙ none_in n xs l.1

pub writes_more_other : (xs : List Request) (x : Request) (m : ℕ) → (x.number == m) ≡ false → writes_in (xs ++ x ∷ []) m ≡ writes_in xs m
writes_more_other [] x m ne = ap (λ b. if b then x.writes.items else []) ne
writes_more_other (y ∷ xs) x m ne = ap (λ ws. if y.number == m then y.writes.items else ws) (writes_more_other xs x m ne)

pub writes_more_here : (xs : List Request) (x : Request) → is_in x.number xs ≡ false → writes_in (xs ++ x ∷ []) x.number ≡ x.writes.items
writes_more_here [] x absent = ap (λ b. if b then x.writes.items else []) (equal_test x.number x.number refl)
writes_more_here (y ∷ xs) x absent =
    let p = or_false (y.number == x.number) (is_in x.number xs) absent in
    ap (λ b. if b then y.writes.items else writes_in (xs ++ x ∷ []) x.number) p.0 ∙ writes_more_here xs x p.1
