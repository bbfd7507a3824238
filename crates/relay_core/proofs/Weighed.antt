-- The bytes of what waits are those of its lines.
use Rattle.std.proofs.Common.{◌≡◌, ℕ, List, [], ◌∷◌, length, Option, Some, None, refl, sym, ap, ◌∙◌, subst, inl, inr}
use Rattle.std.specs.Prelude.{option_map}
use Rattle.relay_action.specs.declared.write.Write.{Write}
use Rattle.relay_ndjson.specs.Bulk.{write_text}
use Rattle.relay_results.specs.Words.{Mem}
use Rattle.relay_results.proofs.Lists.{Mem-map}
use Rattle.relay_delivery.specs.Machine.{write_of}
use Rattle.relay_delivery.specs.Lane.{Entry}
use Rattle.relay_held.specs.declared.kept.Kept.{Kept}
use Rattle.relay_held.specs.declared.kept.Spot.{Spot}
use Rattle.relay_core.specs.State.{AreWeighed}
use Rattle.relay_core.specs.Memory.{place_at, write_found, action_or, entry_of, entries, held_seen, IsKept, AllKept}
use Rattle.relay_core.proofs.Launching.{Home, home_of}

none_of : (o : Option Spot) → option_map place_at o ≡ None → o ≡ None
none_of None e = refl
none_of (Some p) e = absurd (cc)

pub kept_at : (max next : ℕ) (h : Kept) (hs : List Kept) → AllKept max next hs → Mem h hs → IsKept max next h
kept_at max next h [] a m = absurd m
kept_at max next h (x ∷ hs) a (inl e) = subst (IsKept max next) (sym e) a.0
kept_at max next h (x ∷ hs) a (inr m) = kept_at max next h hs a.1 m

-- the write in memory is that of the operation that is seen
home_write : (max : ℕ) (f : ℕ → List Write) (h : Kept) → (k : Home max h) → k.write ≡ write_of (held_seen f h)
home_write max f h k = λ i. record { key = k.matches.key i; version = k.matches.version i; action = action_or (write_found (sym k.found i) h.flies f) }

one_weighed : (max next : ℕ) (f : ℕ → List Write) (h : Kept) → IsKept max next h → option_map place_at h.flies ≡ None → h.bytes ≡ length (write_text (write_of (held_seen f h)))
one_weighed max next f h kept waits =
    let k = home_of max next h h.write h.flies refl kept.home (none_of h.flies waits) in
    k.matches.bytes ∙ ap (λ w. length (write_text w)) (home_write max f h k)

pub weighed_seen : (max next : ℕ) (f : ℕ → List Write) (hs : List Kept) → AllKept max next hs → AreWeighed (entries hs f)
weighed_seen max next f hs a e m waits =
    let there = Mem-map (entry_of f) e hs m in
    subst (λ (x : Entry). x.held.flies ≡ None → x.bytes ≡ length (write_text (write_of x.held))) (sym there.2)
    (λ none. one_weighed max next f there.0 (kept_at max next there.0 hs a there.1) none) waits
