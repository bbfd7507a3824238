-- A batch is sent: what it makes of the held list, as it is read.
use Rattle.std.proofs.Common.{◌≡◌, ℕ, ◌<◌, List, [], ◌∷◌, ◌++◌, Option, Some, None, true, false, ◌==◌, ◌&&◌, refl, sym, ap, ◌∙◌, subst, ⊎_elim, inl, inr, arith, append_assoc}
use Rattle.std.specs.Prelude.{if◌then◌else◌, map, filter, option_to_list}
use Rattle.relay_action.specs.declared.write.Write.{Write}
use Rattle.relay_batch.specs.declared.item.BatchItem.{BatchItem}
use Rattle.relay_batch.specs.Gathering.{Gathering, answer_to}
use Rattle.relay_batch.specs.declared.offer.Offer.{Offer}
use Rattle.relay_batch.specs.declared.offer.Offer.TheVariants.{Busy, Closed, Added}
use Rattle.relay_results.specs.Words.{IsSubsequence}
use Rattle.relay_results.proofs.Lists.{true_or_false, equal, equal_test, and_left, filter_sub, sub_joined, Mem-sub, Mem-filter}
use Rattle.relay_delivery.specs.Machine.{write_of}
use Rattle.relay_delivery.specs.Lane.{Entry, writes_of_all}
use Rattle.relay_held.specs.declared.kept.Kept.{Kept}
use Rattle.relay_held.specs.declared.kept.Spot.{Spot}
use Rattle.relay_core.specs.Rule.{by_answer, chosen_entries, item_of, gathering_after, with_item}
use Rattle.relay_core.specs.Walk.{waits_here, is_candidate_kept, item_of_kept, is_next, freight}
use Rattle.relay_core.specs.Memory.{write_found, action_or, held_seen, entry_of, entries, IsWriteOf, IsHome, IsKept, AllKept, AllAbove, Rises}

-- ---- what is gathered, and of which operations

none_after : (xs : List BatchItem) → xs ≡ xs ++ []
none_after [] = refl
none_after (x ∷ xs) = ap (λ ys. x ∷ ys) (none_after xs)

offered_by : (x : Offer) (i : BatchItem) (busy closed added : Gathering) (front : List BatchItem) (b a : List Entry) (e : Entry) → item_of e ≡ i
    → busy.items ≡ front ++ map item_of b → closed.items ≡ front → added.items ≡ (front ++ i ∷ []) ++ map item_of a
    → (by_answer x busy closed added).items ≡ front ++ map item_of (by_answer x b [] (e ∷ a))
offered_by Busy i busy closed added front b a e is p q r = p
offered_by Closed i busy closed added front b a e is p q r = q ∙ none_after front
offered_by Added i busy closed added front b a e is p q r = r ∙ append_assoc front (i ∷ []) (map item_of a) ∙ ap (λ x. front ++ x ∷ map item_of a) (sym is)

pub offered_chosen : (es : List Entry) (g : Gathering) → (gathering_after (map item_of es) g).items ≡ g.items ++ map item_of (chosen_entries es g)
offered_chosen [] g = none_after g.items
offered_chosen (e ∷ es) g = offered_by (answer_to (item_of e) g) (item_of e) _ _ _ g.items (chosen_entries es g) (chosen_entries es (with_item (item_of e) g)) e refl (offered_chosen es g) refl (offered_chosen es (with_item (item_of e) g))

-- the same, of what is in memory
abbrev pub picked : List Kept → Gathering → List Kept
picked [] g = []
picked (h ∷ hs) g = by_answer (answer_to (item_of_kept h) g) (picked hs g) [] (h ∷ picked hs (with_item (item_of_kept h) g))

picked_by : (x : Offer) (f : ℕ → List Write) (h : Kept) (b a : List Kept) (b' a' : List Entry) → b' ≡ entries b f → a' ≡ entries a f → by_answer x b' [] (entry_of f h ∷ a') ≡ entries (by_answer x b [] (h ∷ a)) f
picked_by Busy f h b a b' a' p q = p
picked_by Closed f h b a b' a' p q = refl
picked_by Added f h b a b' a' p q = ap (λ es. entry_of f h ∷ es) q

pub chosen_picked : (f : ℕ → List Write) (hs : List Kept) (g : Gathering) → chosen_entries (entries hs f) g ≡ entries (picked hs g) f
chosen_picked f [] g = refl
chosen_picked f (h ∷ hs) g = picked_by (answer_to (item_of_kept h) g) f h (picked hs g) (picked hs (with_item (item_of_kept h) g)) _ _ (chosen_picked f hs g) (chosen_picked f hs (with_item (item_of_kept h) g))

skip : {A : Type 0} (xs : List A) (y : A) (ys : List A) → IsSubsequence xs ys → IsSubsequence xs (y ∷ ys)
skip [] y ys s = tt
skip (x ∷ xs) y ys s = inr s

picked_sub_by : (x : Offer) (h : Kept) (hs b a : List Kept) → IsSubsequence b hs → IsSubsequence a hs → IsSubsequence (by_answer x b [] (h ∷ a)) (h ∷ hs)
picked_sub_by Busy h hs b a p q = skip b h hs p
picked_sub_by Closed h hs b a p q = tt
picked_sub_by Added h hs b a p q = inl (refl, q)

pub picked_sub : (hs : List Kept) (g : Gathering) → IsSubsequence (picked hs g) hs
picked_sub [] g = tt
picked_sub (h ∷ hs) g = picked_sub_by (answer_to (item_of_kept h) g) h hs (picked hs g) (picked hs (with_item (item_of_kept h) g)) (picked_sub hs g) (picked_sub hs (with_item (item_of_kept h) g))

abbrev pub AllWait : List Kept → Type 0
AllWait [] = Unit {0}
AllWait (p ∷ ps) = (p.flies ≡ None) × AllWait ps

pub waits_none : (s : Option Spot) → waits_here s ≡ true → s ≡ None
waits_none None t = refl
waits_none (Some s) t = absurd (cc)

sub_tail : {A : Type 0} (x : A) (xs ys : List A) → IsSubsequence (x ∷ xs) ys → IsSubsequence xs ys
sub_tail x xs [] s = absurd s
sub_tail x xs (y ∷ ys) (inl s) = skip xs y ys s.1
sub_tail x xs (y ∷ ys) (inr s) = skip xs y ys (sub_tail x xs ys s)

all_wait : (ps hs : List Kept) (all : List Kept) (clock : ℕ) → IsSubsequence ps (filter (is_candidate_kept all clock) hs) → AllWait ps
all_wait [] hs all clock s = tt
all_wait (p ∷ ps) hs all clock s = (
  waits_none p.flies (and_left _ _ (Mem-filter (is_candidate_kept all clock) p hs (Mem-sub p (p ∷ ps) _ s (inl refl))).1),
  all_wait ps hs all clock (sub_tail p ps _ s),
)

pub candidates_wait : (hs : List Kept) (clock : ℕ) (g : Gathering) → AllWait (picked (filter (is_candidate_kept hs clock) hs) g)
candidates_wait hs clock g = all_wait (picked (filter (is_candidate_kept hs clock) hs) g) hs hs clock (picked_sub (filter (is_candidate_kept hs clock) hs) g)

pub candidates_sub : (hs : List Kept) (clock : ℕ) (g : Gathering) → IsSubsequence (picked (filter (is_candidate_kept hs clock) hs) g) hs
candidates_sub hs clock g = sub_joined (picked (filter (is_candidate_kept hs clock) hs) g) (filter (is_candidate_kept hs clock) hs) hs (picked_sub (filter (is_candidate_kept hs clock) hs) g) (filter_sub (is_candidate_kept hs clock) hs)

-- ---- which writes go

abbrev pub loads : List Kept → List Write
loads [] = []
loads (p ∷ ps) = option_to_list p.write ++ loads ps

pub record Home (max : ℕ) (h : Kept) : Type 0 where
  pub write : Write
  pub found : h.write ≡ Some write
  pub matches : IsWriteOf h write
  pub tries : h.attempts < max

pub home_of : (max next : ℕ) (h : Kept) (w : Option Write) (s : Option Spot) → h.write ≡ w → IsHome max next h w s → s ≡ None → Home max h
home_of max next h (Some w) None e k n = record { write = w; found = e; matches = k.0; tries = k.1 }
home_of max next h (Some w) (Some s) e k n = absurd k
home_of max next h None None e k n = absurd k
home_of max next h None (Some s) e k n = absurd (cc)

pub above_sub : (v : ℕ) (ps hs : List Kept) → IsSubsequence ps hs → AllAbove v hs → AllAbove v ps
above_sub v [] hs s a = tt
above_sub v (p ∷ ps) [] s a = absurd s
above_sub v (p ∷ ps) (h ∷ hs) (inl s) a = (subst (λ (x : Kept). v < x.version) (sym s.0) a.0, above_sub v ps hs s.1 a.1)
above_sub v (p ∷ ps) (h ∷ hs) (inr s) a = above_sub v (p ∷ ps) hs s a.1

-- the next item is that of the first that was picked
pub is_its : (h : Kept) (is : List BatchItem) → h.flies ≡ None → is_next (item_of_kept h ∷ is) h ≡ true
is_its h is e = (λ i. (h.version == h.version) && waits_here (e i)) ∙ ap (λ b. b && true) (equal_test h.version h.version refl)

pub is_later_one : (p h : Kept) (is : List BatchItem) → h.version < p.version → is_next (item_of_kept p ∷ is) h ≡ false
is_later_one p h is lt = ap (λ b. b && waits_here h.flies) (⊎_elim {C = (h.version == p.version) ≡ false} (λ t. let e = equal h.version p.version t in absurd (omega (arith, lt, e))) (λ f. f) (true_or_false (h.version == p.version)))

pub freight_is : (hs ps : List Kept) → Rises hs → IsSubsequence ps hs → AllWait ps → freight hs (map item_of_kept ps) ≡ loads ps
freight_is [] [] r s w = refl
freight_is [] (p ∷ ps) r s w = absurd s
freight_is (h ∷ hs) [] r s w = freight_is hs [] r.1 tt tt
freight_is (h ∷ hs) (p ∷ ps) r (inl s) w =
    subst (λ (x : Kept). (x.flies ≡ None) → freight (h ∷ hs) (item_of_kept x ∷ map item_of_kept ps) ≡ option_to_list x.write ++ loads ps) (sym s.0)
    (λ n. ap (λ b. if b then option_to_list h.write ++ freight hs (map item_of_kept ps) else freight hs (item_of_kept h ∷ map item_of_kept ps)) (is_its h (map item_of_kept ps) n)
    ∙ ap (λ ws. option_to_list h.write ++ ws) (freight_is hs ps r.1 s.1 w.1))
    w.0
freight_is (h ∷ hs) (p ∷ ps) r (inr s) w =
    ap (λ b. if b then option_to_list h.write ++ freight hs (map item_of_kept ps) else freight hs (item_of_kept p ∷ map item_of_kept ps)) (is_later_one p h (map item_of_kept ps) (above_sub h.version (p ∷ ps) hs s r.0).0)
    ∙ freight_is hs (p ∷ ps) r.1 s w

pub kept_sub : (max next : ℕ) (ps hs : List Kept) → IsSubsequence ps hs → AllKept max next hs → AllKept max next ps
kept_sub max next [] hs s a = tt
kept_sub max next (p ∷ ps) [] s a = absurd s
kept_sub max next (p ∷ ps) (h ∷ hs) (inl s) a = (subst (IsKept max next) (sym s.0) a.0, kept_sub max next ps hs s.1 a.1)
kept_sub max next (p ∷ ps) (h ∷ hs) (inr s) a = kept_sub max next (p ∷ ps) hs s a.1

one_load : (max : ℕ) (f : ℕ → List Write) (h : Kept) → Home max h → option_to_list h.write ≡ write_of (held_seen f h) ∷ []
one_load max f h k =
    ap option_to_list k.found
    ∙ (λ i. record { key = k.matches.key i; version = k.matches.version i; action = action_or (write_found (sym k.found i) h.flies f) } ∷ [])

pub loads_seen : (max next : ℕ) (f : ℕ → List Write) (ps : List Kept) → AllKept max next ps → AllWait ps → loads ps ≡ writes_of_all (entries ps f)
loads_seen max next f [] a w = refl
loads_seen max next f (p ∷ ps) a w = λ i. one_load max f p (home_of max next p p.write p.flies refl a.0.home w.0) i ++ loads_seen max next f ps a.1 w.1 i
