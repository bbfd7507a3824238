-- An operation is taken.
use Rattle.std.proofs.Common.{◌≡◌, ℕ, suc, ◌+◌, ◌-◌, ◌^◌, ◌<◌, ◌≤◌, List, [], ◌∷◌, ◌++◌, length, true, false, refl, sym, ap, subst, ⊎_elim, arith}
use Rattle.std.specs.Prelude.{nat_lt, Result, Ok, Err, is_ok, OnOk}
use borrow.Author.Tests.{ltb-true}
use Rattle.relay_action.specs.declared.write.Write.{Write}
use Rattle.relay_action.specs.declared.operation.Op.{Op}
use Rattle.relay_ndjson.specs.Bulk.{write_text}
use Rattle.relay_results.specs.Documents.{write_for}
use Rattle.relay_delivery.specs.Lane.{State, entry_at}
use Rattle.relay_results.proofs.Lists.{true_or_false}
use Rattle.relay_held.specs.declared.kept.Kept.{Kept}
use Rattle.relay_flight.specs.declared.request.Request.{Request}
use Rattle.relay_core.specs.Walk.{flies_here}
use Rattle.relay_core.specs.Memory.{kept_new, entry_of, entries, writes_in, Given, further, rest_if, IsMet, Carries, IsKept, AllKept, AllAbove, AllUnder, Rises, HasRoom, IsReadable, tries_left}
use Rattle.relay_delivery.specs.Bound.{halvings}
use Rattle.relay_delivery.proofs.Halving.{halvings_few}

pub entries_new : (s : State) (hs : List Kept) (f : ℕ → List Write) (o : Op) (bytes : ℕ) → entries (hs ++ kept_new o (s.config.first + s.taken) bytes s.clock s.config.cap ∷ []) f ≡ entries hs f ++ entry_at s o bytes ∷ []
entries_new s [] f o bytes = refl
entries_new s (h ∷ hs) f o bytes = ap (λ es. entry_of f h ∷ es) (entries_new s hs f o bytes)

kept_more : (max next : ℕ) (hs : List Kept) (h : Kept) → AllKept max next hs → IsKept max next h → AllKept max next (hs ++ h ∷ [])
kept_more max next [] h a k = (k, tt)
kept_more max next (g ∷ hs) h a k = (a.0, kept_more max next hs h a.1 k)

above_more : (v : ℕ) (hs : List Kept) (h : Kept) → AllAbove v hs → v < h.version → AllAbove v (hs ++ h ∷ [])
above_more v [] h a lt = (lt, tt)
above_more v (g ∷ hs) h a lt = (a.0, above_more v hs h a.1 lt)

rises_more : (hs : List Kept) (h : Kept) → Rises hs → AllUnder h.version hs → Rises (hs ++ h ∷ [])
rises_more [] h r u = (tt, tt)
rises_more (g ∷ hs) h r u = (above_more g.version hs h r.0 u.0, rises_more hs h r.1 u.1)

pub under_more : (v v' : ℕ) (hs : List Kept) (h : Kept) → v ≤ v' → h.version < v' → AllUnder v hs → AllUnder v' (hs ++ h ∷ [])
under_more v v' [] h le lt u = (lt, tt)
under_more v v' (g ∷ hs) h le lt u = (omega (arith, u.0, le), under_more v v' hs h le lt u.1)

pub under_same : (v v' : ℕ) (hs : List Kept) → v ≤ v' → AllUnder v hs → AllUnder v' hs
under_same v v' [] le u = tt
under_same v v' (g ∷ hs) le u = (omega (arith, u.0, le), under_same v v' hs le u.1)

carries_more : (n p : ℕ) (hs : List Kept) (h : Kept) (ws : List Write) → flies_here n h.flies ≡ false → Carries n p hs ws → Carries n p (hs ++ h ∷ []) ws
carries_more n p [] h ws t c = subst (λ b. Given b (IsMet n p h ws) × (rest_if b ws ≡ [])) (sym t) (tt, c)
carries_more n p (g ∷ hs) h ws t c = (c.0, carries_more n (further (flies_here n g.flies) p) hs h (rest_if (flies_here n g.flies) ws) t c.1)

room_more : (n len : ℕ) (hs : List Kept) (h : Kept) → flies_here n h.flies ≡ false → HasRoom n len hs → HasRoom n len (hs ++ h ∷ [])
room_more n len [] h t r = (subst (λ b. Given b (1 < len → len ≤ h.cap)) (sym t) tt, tt)
room_more n len (g ∷ hs) h t r = (r.0, room_more n len hs h t r.1)

pub readable_more : (max next v bytes clock cap : ℕ) (hs hs' : List Kept) (fs : List Request) (o : Op) → 1 ≤ max → cap < 2 ^ 14 → clock ≤ 18446744073709551615 → bytes ≡ length (write_text (write_for o v)) → hs' ≡ hs ++ kept_new o v bytes clock cap ∷ [] → AllUnder v hs → IsReadable max next hs fs → IsReadable max next hs' fs
readable_more max next v bytes clock cap hs hs' fs o le low ends weighed e u r = subst (λ xs. IsReadable max next xs fs) (sym e) (record {
  kept = kept_more max next hs (kept_new o v bytes clock cap) r.kept (record { home = (record { key = refl; version = refl; kind = refl; bytes = weighed }, omega (arith, le)); sends = (let l = halvings_few 14 cap low in omega (arith, l)); due = ends });
  rises = rises_more hs (kept_new o v bytes clock cap) r.rises u;
  carries = λ n. carries_more n 0 hs (kept_new o v bytes clock cap) (writes_in fs n) refl (r.carries n);
  caps = λ n. room_more n (length (writes_in fs n)) hs (kept_new o v bytes clock cap) refl (r.caps n);
  few = r.few;
})

pub entries_length : (hs : List Kept) (f : ℕ → List Write) → length (entries hs f) ≡ length hs
entries_length [] f = refl
entries_length (h ∷ hs) f = ap suc (entries_length hs f)

pub on_ok : {A E : Type 0} (r : Result A E) (P : Type 0) → is_ok r ≡ true → OnOk r P → P
on_ok (Ok x) P t h = h
on_ok (Err e) P t h = absurd (cc)

pub with_none : {A : Type 0} (xs : List A) → xs ≡ xs ++ []
with_none [] = refl
with_none (x ∷ xs) = ap (λ ys. x ∷ ys) (with_none xs)

pub left_more : (max : ℕ) (hs : List Kept) (h : Kept) → tries_left max (hs ++ h ∷ []) ≡ tries_left max hs + ((max - h.attempts) + halvings h.cap)
left_more max [] h = omega arith
left_more max (g ∷ hs) h = omega (arith, left_more max hs h)

pub ltb_no : (a b : ℕ) → b ≤ a → nat_lt a b ≡ false
ltb_no a b le = ⊎_elim {C = nat_lt a b ≡ false} (λ t. let lt = ltb-true a b t in absurd (omega (arith, lt, le))) (λ f. f) (true_or_false (nat_lt a b))
