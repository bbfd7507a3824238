-- Until when no batch can be due.
use Rattle.std.proofs.Common.{◌≡◌, ℕ, ◌+◌, ◌-◌, ◌<◌, ◌≤◌, List, [], ◌∷◌, ◌++◌, length, None, Bool, true, false, ◌&&◌, ◌||◌, refl, sym, ap, ◌∙◌, subst, arith, length-append}
use Rattle.std.specs.Prelude.{if◌then◌else◌, not, nat_lt, nat_le, min, map, filter}
use Rattle.std.proofs.lemmas.Bool.{ltb-true, lt-ltb, lt-leb, leb-false}
use Rattle.std.proofs.lemmas.List.{map-append, append-nil}
use Rattle.std.proofs.lemmas.List.Elements.{filter-append}
use Rattle.std.proofs.lemmas.List.Sums.{sum_by_push}
use Rattle.relay_batch.specs.declared.item.BatchItem.{BatchItem}
use Rattle.relay_batch.specs.declared.item.Limits.{Limits}
use Rattle.relay_batch.specs.declared.item.Room.{Room}
use Rattle.relay_batch.specs.declared.offer.Offer.{Offer}
use Rattle.relay_batch.specs.declared.offer.Offer.TheVariants.{Busy, Closed, Added}
use Rattle.relay_batch.specs.Batches.{bytes_of, count_of}
use Rattle.relay_batch.specs.Gathering.{Gathering, answer_to, holds_document, is_count_reached, passes_count, passes_bytes, is_lingered, is_ready, room_of}
use Rattle.relay_batch.proofs.Added.{or_none, and_none, count-more}
use Rattle.relay_results.specs.Documents.{Document, document_of, same_document}
use Rattle.relay_results.proofs.Lists.{and_left, and_right}
use Rattle.relay_held.specs.declared.kept.Kept.{Kept}
use Rattle.relay_core.specs.Rule.{by_answer, with_item, gathering_after, closes, is_marked, batch_if, batch_of}
use Rattle.relay_core.specs.Walk.{waits_here, is_later_kept, is_candidate_kept, item_of_kept, items_of_kept}
use Rattle.relay_core.specs.Memory.{AllUnder}
use Rattle.relay_core.specs.Quiet.{empty, is_roomy, no_room, less, IsQuiet}
use Rattle.relay_core.proofs.Taken.{ltb_no}

-- ---- one more item is offered

after_offers : (x : Offer) (j : BatchItem) (g busy busy' added added' : Gathering) (b a : Bool) → by_answer x b true a ≡ false
    → (b ≡ false → busy' ≡ gathering_after (j ∷ []) busy) → (a ≡ false → added' ≡ gathering_after (j ∷ []) added)
    → by_answer x busy' g added' ≡ gathering_after (j ∷ []) (by_answer x busy g added)
after_offers Busy j g busy busy' added added' b a e p q = p e
after_offers Closed j g busy busy' added added' b a e p q = absurd (cc)
after_offers Added j g busy busy' added added' b a e p q = q e

offered_more : (is : List BatchItem) (j : BatchItem) (g : Gathering) → closes is g ≡ false → gathering_after (is ++ j ∷ []) g ≡ gathering_after (j ∷ []) (gathering_after is g)
offered_more [] j g e = refl
offered_more (i ∷ is) j g e =
    after_offers (answer_to i g) j g (gathering_after is g) (gathering_after (is ++ j ∷ []) g) (gathering_after is (with_item i g)) (gathering_after (is ++ j ∷ []) (with_item i g)) (closes is g) (closes is (with_item i g)) e
    (offered_more is j g) (offered_more is j (with_item i g))

after_closes : (x : Offer) (j : BatchItem) (g busy added : Gathering) (b a b' a' : Bool) → by_answer x b true a ≡ false
    → (b ≡ false → b' ≡ closes (j ∷ []) busy) → (a ≡ false → a' ≡ closes (j ∷ []) added)
    → by_answer x b' true a' ≡ closes (j ∷ []) (by_answer x busy g added)
after_closes Busy j g busy added b a b' a' e p q = p e
after_closes Closed j g busy added b a b' a' e p q = absurd (cc)
after_closes Added j g busy added b a b' a' e p q = q e

closes_more : (is : List BatchItem) (j : BatchItem) (g : Gathering) → closes is g ≡ false → closes (is ++ j ∷ []) g ≡ closes (j ∷ []) (gathering_after is g)
closes_more [] j g e = refl
closes_more (i ∷ is) j g e =
    after_closes (answer_to i g) j g (gathering_after is g) (gathering_after is (with_item i g)) (closes is g) (closes is (with_item i g)) (closes (is ++ j ∷ []) g) (closes (is ++ j ∷ []) (with_item i g)) e
    (closes_more is j g) (closes_more is j (with_item i g))

by_limits : (x : Offer) (limits : Limits) (busy closed added : Gathering) → busy.limits ≡ limits → closed.limits ≡ limits → added.limits ≡ limits → (by_answer x busy closed added).limits ≡ limits
by_limits Busy limits busy closed added b c a = b
by_limits Closed limits busy closed added b c a = c
by_limits Added limits busy closed added b c a = a

pub offered_limits : (is : List BatchItem) (g : Gathering) → (gathering_after is g).limits ≡ g.limits
offered_limits [] g = refl
offered_limits (i ∷ is) g = by_limits (answer_to i g) g.limits (gathering_after is g) g (gathering_after is (with_item i g)) (offered_limits is g) refl (offered_limits is (with_item i g))

-- ---- a gathering that waits

record Waits (clock mark : ℕ) (limits : Limits) (room : Room) (g : Gathering) : Type 0 where
  pub some : 0 < length g.items
  pub items : length g.items + room.items ≤ count_of limits.count g.items
  pub bytes : bytes_of g.items + room.bytes ≤ limits.bytes
  pub young : is_lingered limits.linger clock g.items ≡ false
  pub unmarked : is_marked mark g.items ≡ false

first_lingers : (linger clock : ℕ) (xs ys : List BatchItem) → 0 < length xs → is_lingered linger clock (xs ++ ys) ≡ is_lingered linger clock xs
first_lingers linger clock [] ys lt = absurd (omega (arith, lt))
first_lingers linger clock (x ∷ xs) ys lt = refl

first_marked : (mark : ℕ) (xs ys : List BatchItem) → 0 < length xs → is_marked mark (xs ++ ys) ≡ is_marked mark xs
first_marked mark [] ys lt = absurd (omega (arith, lt))
first_marked mark (x ∷ xs) ys lt = refl

waits_on : (clock mark bytes : ℕ) (limits : Limits) (room : Room) (g : Gathering) → Waits clock mark limits room g → Waits clock mark limits (record { items = room.items - 1; bytes = room.bytes - bytes }) g
waits_on clock mark bytes limits room g w = record {
  some = w.some;
  items = (let a = w.items in omega arith);
  bytes = (let a = w.bytes in omega arith);
  young = w.young;
  unmarked = w.unmarked;
}

-- the caps take nothing from below the count
pub count_most : (count : ℕ) (is : List BatchItem) → count_of count is ≤ count
count_most count [] = omega arith
count_most count (i ∷ is) = let r = count_most count is in omega (arith, r)

waits_with : (clock mark : ℕ) (limits : Limits) (room : Room) (g : Gathering) (j : BatchItem) → limits.count ≤ j.cap → 0 < room.items → j.bytes < room.bytes → Waits clock mark limits room g
    → Waits clock mark limits (record { items = room.items - 1; bytes = room.bytes - j.bytes }) (with_item j g)
waits_with clock mark limits room g j wide one fits w =
    let n = length-append g.items (j ∷ []) in
    let sum = sum_by_push (λ (x : BatchItem). x.bytes) g.items j in
    record {
      some = (let a = w.some in omega (arith, n));
      items = (let a = w.items in let k = count-more limits.count g.items j in let l = count_most limits.count g.items in omega (arith, n, one, k, l, wide));
      bytes = (let a = w.bytes in omega (arith, sum, fits));
      young = first_lingers limits.linger clock g.items (j ∷ []) w.some ∙ w.young;
      unmarked = first_marked mark g.items (j ∷ []) w.some ∙ w.unmarked;
    }

none_of : (a b : Bool) → a ≡ false → b ≡ false → (a || b) ≡ false
none_of a b p q = (λ i. p i || q i)

right_none : (a b : Bool) → b ≡ false → (a && b) ≡ false
right_none true b e = e
right_none false b e = refl

stays_open : (clock mark : ℕ) (limits : Limits) (room : Room) (g : Gathering) (j : BatchItem) → g.limits ≡ limits → limits.count ≤ j.cap → 0 < room.items → j.bytes < room.bytes → Waits clock mark limits room g
    → (passes_count g j.cap || passes_bytes g j.bytes) ≡ false
stays_open clock mark limits room g j same wide one fits w =
    let counts = ap (λ (l : Limits). count_of l.count g.items) same in
    let weighs = ap (λ (l : Limits). l.bytes) same in
    none_of (passes_count g j.cap) (passes_bytes g j.bytes)
    (right_none (nat_lt 0 (length g.items)) _ (lt-leb (min (count_of g.limits.count g.items) j.cap) (length g.items) (let a = w.items in let l = count_most limits.count g.items in omega (arith, counts, one, l, wide))))
    (right_none (nat_lt 0 (length g.items)) (nat_lt g.limits.bytes (bytes_of g.items + j.bytes)) (ltb_no g.limits.bytes (bytes_of g.items + j.bytes) (let a = w.bytes in omega (arith, weighs, fits))))

-- what one offer makes of it, if it is not Closed
one_offer : (P : Gathering → Type 0) (g : Gathering) (j : BatchItem) (h c : Bool) → c ≡ false → P g → P (with_item j g)
    → P (by_answer (if h then Busy else if c then Closed else Added) g g (with_item j g)) × (by_answer (if h then Busy else if c then Closed else Added) false true false ≡ false)
one_offer P g j true c e b a = (b, refl)
one_offer P g j false true e b a = absurd (cc)
one_offer P g j false false e b a = (a, refl)

waiting : (clock mark : ℕ) (all_closed : Bool) (limits : Limits) (is : List BatchItem) (room : Room) → IsQuiet clock mark all_closed limits is room → Waits clock mark limits room (gathering_after is (empty limits))
waiting clock mark all_closed limits is room q = record { some = q.some; items = q.items; bytes = q.bytes; young = q.young; unmarked = q.unmarked }

pub quiet_on : (clock mark bytes : ℕ) (all_closed : Bool) (limits : Limits) (is : List BatchItem) (room : Room) → IsQuiet clock mark all_closed limits is room
    → IsQuiet clock mark all_closed limits is (record { items = room.items - 1; bytes = room.bytes - bytes })
quiet_on clock mark bytes all_closed limits is room q =
    let w = waits_on clock mark bytes limits room (gathering_after is (empty limits)) (waiting clock mark all_closed limits is room q) in
    record { some = w.some; lasts = q.lasts; items = w.items; bytes = w.bytes; young = w.young; unmarked = w.unmarked; still_open = q.still_open }

pub quiet_with : (clock mark : ℕ) (all_closed : Bool) (limits : Limits) (is : List BatchItem) (j : BatchItem) (room : Room) → limits.count ≤ j.cap → 0 < room.items → j.bytes < room.bytes → IsQuiet clock mark all_closed limits is room
    → IsQuiet clock mark all_closed limits (is ++ j ∷ []) (record { items = room.items - 1; bytes = room.bytes - j.bytes })
quiet_with clock mark all_closed limits is j room wide one fits q =
    let g = gathering_after is (empty limits) in
    let w = waiting clock mark all_closed limits is room q in
    let less_room : Room = record { items = room.items - 1; bytes = room.bytes - j.bytes } in
    let shut = stays_open clock mark limits room g j (offered_limits is (empty limits)) wide one fits w in
    let step = one_offer (Waits clock mark limits less_room) g j (holds_document j.doc g.items) (passes_count g j.cap || passes_bytes g j.bytes) shut (waits_on clock mark j.bytes limits room g w) (waits_with clock mark limits room g j wide one fits w) in
    let now = subst (Waits clock mark limits less_room) (sym (offered_more is j (empty limits) q.lasts)) step.0 in
    record { some = now.some; lasts = closes_more is j (empty limits) q.lasts ∙ step.1; items = now.items; bytes = now.bytes; young = now.young; unmarked = now.unmarked; still_open = q.still_open }

-- ---- nothing is sent

none_goes : (n a b c d e f : Bool) (items : List BatchItem) → a ≡ false → b ≡ false → c ≡ false → d ≡ false → e ≡ false → f ≡ false
    → batch_if (n && ((n && (a || b || c)) || (d || (e || f)))) items ≡ None
none_goes true a b c d e f items p q r s t u = (λ i. batch_if (p i || q i || r i || (s i || (t i || u i))) items)
none_goes false a b c d e f items p q r s t u = refl

pub quiet_none : (clock mark : ℕ) (all_closed : Bool) (limits : Limits) (is : List BatchItem) (room : Room) → is_roomy room ≡ true → IsQuiet clock mark all_closed limits is room
    → batch_of clock mark all_closed limits is ≡ None
quiet_none clock mark all_closed limits is room roomy q =
    let g = gathering_after is (empty limits) in
    let same = offered_limits is (empty limits) in
    let one = ltb-true 0 room.items (and_left (nat_lt 0 room.items) (nat_lt 0 room.bytes) roomy) in
    let some = ltb-true 0 room.bytes (and_right (nat_lt 0 room.items) (nat_lt 0 room.bytes) roomy) in
    none_goes (nat_lt 0 (length g.items)) (is_count_reached g) (nat_le g.limits.bytes (bytes_of g.items)) (is_lingered g.limits.linger clock g.items) (closes is (empty limits)) (is_marked mark g.items) all_closed g.items
    (lt-leb (count_of g.limits.count g.items) (length g.items) (let a = q.items in let counts = ap (λ (l : Limits). count_of l.count g.items) same in omega (arith, counts, one)))
    (lt-leb g.limits.bytes (bytes_of g.items) (let a = q.bytes in let weighs = ap (λ (l : Limits). l.bytes) same in omega (arith, weighs, some)))
    (ap (λ (l : Limits). is_lingered l.linger clock g.items) same ∙ q.young)
    q.lasts q.unmarked q.still_open

-- ---- an operation is taken

or_rest : (a b c : Bool) → b ≡ false → ((a && b) || c) ≡ c
or_rest true b c e = ap (λ x. x || c) e
or_rest false b c e = refl

later_same : (hs : List Kept) (h : Kept) (k : Document) (v : ℕ) → v ≤ h.version → is_later_kept (hs ++ h ∷ []) k v ≡ is_later_kept hs k v
later_same [] h k v le = or_rest (same_document (document_of h.key) k) (nat_lt h.version v) false (ltb_no h.version v le)
later_same (g ∷ hs) h k v le = ap (λ b. (same_document (document_of g.key) k && nat_lt g.version v) || b) (later_same hs h k v le)

candidates_same : (hs : List Kept) (h : Kept) (clock : ℕ) (rest : List Kept) → AllUnder h.version rest → filter (is_candidate_kept (hs ++ h ∷ []) clock) rest ≡ filter (is_candidate_kept hs clock) rest
candidates_same hs h clock [] u = refl
candidates_same hs h clock (r ∷ rest) u =
    let lt = u.0 in
    let same = later_same hs h (document_of r.key) r.version (omega (arith, lt)) in
    (λ i. if waits_here r.flies && (nat_le r.due clock && not (same i)) then r ∷ candidates_same hs h clock rest u.1 i else candidates_same hs h clock rest u.1 i)

abbrev one_if : Bool → Kept → List Kept
one_if true h = h ∷ []
one_if false h = []

filter_one : (p : Kept → Bool) (h : Kept) (b : Bool) → p h ≡ b → filter p (h ∷ []) ≡ one_if b h
filter_one p h true e = ap (λ (b : Bool). if b then h ∷ [] else []) e
filter_one p h false e = ap (λ (b : Bool). if b then h ∷ [] else []) e

items_more : (hs : List Kept) (h : Kept) (clock : ℕ) (b : Bool) → AllUnder h.version hs → is_candidate_kept (hs ++ h ∷ []) clock h ≡ b
    → items_of_kept (hs ++ h ∷ []) clock (hs ++ h ∷ []) ≡ items_of_kept hs clock hs ++ map item_of_kept (one_if b h)
items_more hs h clock b u e =
    ap (map item_of_kept) (filter-append (is_candidate_kept (hs ++ h ∷ []) clock) hs (h ∷ []) ∙ (λ i. candidates_same hs h clock hs u i ++ filter_one (is_candidate_kept (hs ++ h ∷ []) clock) h b e i))
    ∙ map-append item_of_kept (filter (is_candidate_kept hs clock) hs) (one_if b h)

quiet_by : (clock mark : ℕ) (all_closed : Bool) (limits : Limits) (is : List BatchItem) (h : Kept) (room : Room) (b : Bool) → limits.count ≤ h.cap → 0 < room.items → h.bytes < room.bytes → IsQuiet clock mark all_closed limits is room
    → IsQuiet clock mark all_closed limits (is ++ map item_of_kept (one_if b h)) (record { items = room.items - 1; bytes = room.bytes - h.bytes })
quiet_by clock mark all_closed limits is h room true wide one fits q = quiet_with clock mark all_closed limits is (item_of_kept h) room wide one fits q
quiet_by clock mark all_closed limits is h room false wide one fits q =
    subst (λ xs. IsQuiet clock mark all_closed limits xs (record { items = room.items - 1; bytes = room.bytes - h.bytes })) (sym (append-nil is)) (quiet_on clock mark h.bytes all_closed limits is room q)

left_over : (b : Bool) (one two : Room) → is_roomy (if b then one else two) ≡ true → is_roomy two ≡ false → (b ≡ true) × (is_roomy one ≡ true)
left_over true one two e none = (refl, e)
left_over false one two e none = absurd (cc)

pub quiet_taken : (clock mark : ℕ) (all_closed : Bool) (limits : Limits) (hs hs' : List Kept) (h : Kept) (room : Room) → hs' ≡ hs ++ h ∷ [] → limits.count ≤ h.cap → AllUnder h.version hs
    → (is_roomy room ≡ true → IsQuiet clock mark all_closed limits (items_of_kept hs clock hs) room)
    → is_roomy (less h.bytes room) ≡ true → IsQuiet clock mark all_closed limits (items_of_kept hs' clock hs') (less h.bytes room)
quiet_taken clock mark all_closed limits hs hs' h room e wide u quiet roomy =
    let on : Room = record { items = room.items - 1; bytes = room.bytes - h.bytes } in
    let t = left_over (nat_lt h.bytes room.bytes) on no_room roomy refl in
    let fits = ltb-true h.bytes room.bytes t.0 in
    let left = ltb-true 0 (room.items - 1) (and_left (nat_lt 0 (room.items - 1)) (nat_lt 0 (room.bytes - h.bytes)) t.1) in
    let one : 0 < room.items = omega (arith, left) in
    let was : is_roomy room ≡ true = (λ i. lt-ltb 0 room.items one i && lt-ltb 0 room.bytes (omega (arith, fits)) i) in
    subst (λ xs. IsQuiet clock mark all_closed limits (items_of_kept xs clock xs) (less h.bytes room)) (sym e)
    (subst (λ b. IsQuiet clock mark all_closed limits (items_of_kept (hs ++ h ∷ []) clock (hs ++ h ∷ [])) (if b then on else no_room)) (sym t.0)
    (subst (λ xs. IsQuiet clock mark all_closed limits xs on) (sym (items_more hs h clock (is_candidate_kept (hs ++ h ∷ []) clock h) u refl))
    (quiet_by clock mark all_closed limits (items_of_kept hs clock hs) h room (is_candidate_kept (hs ++ h ∷ []) clock h) wide one fits (quiet was))))

-- ---- what was gathered is not asked for

or_all : (a b c : Bool) → (a || b || c) ≡ false → (a ≡ false) × (b ≡ false) × (c ≡ false)
or_all true b c e = absurd (cc)
or_all false true c e = absurd (cc)
or_all false false c e = (refl, refl, e)

pub quiet_of : (clock mark : ℕ) (all_closed : Bool) (limits : Limits) (is : List BatchItem) (room : Room) (ready shut marked : Bool)
    → 0 < length (gathering_after is (empty limits)).items → room ≡ room_of (gathering_after is (empty limits)) → ready ≡ is_ready clock (gathering_after is (empty limits)) → shut ≡ closes is (empty limits)
    → marked ≡ is_marked mark (gathering_after is (empty limits)).items → (ready || (shut || (marked || all_closed))) ≡ false
    → IsQuiet clock mark all_closed limits is room
quiet_of clock mark all_closed limits is room ready shut marked some left is_r is_s is_m none =
    let g = gathering_after is (empty limits) in
    let same = offered_limits is (empty limits) in
    let counts = ap (λ (l : Limits). count_of l.count g.items) same in
    let weighs = ap (λ (l : Limits). l.bytes) same in
    let a = or_none ready (shut || (marked || all_closed)) none in
    let b = or_none shut (marked || all_closed) a.1 in
    let d = or_none marked all_closed b.1 in
    let unready = or_all (is_count_reached g) (nat_le g.limits.bytes (bytes_of g.items)) (is_lingered g.limits.linger clock g.items) (and_none (nat_lt 0 (length g.items)) _ (sym is_r ∙ a.0) (lt-ltb 0 (length g.items) some)) in
    let few = leb-false (count_of g.limits.count g.items) (length g.items) unready.0 in
    let light = leb-false g.limits.bytes (bytes_of g.items) unready.1 in
    let left_items = ap (λ (r : Room). r.items) left in
    let left_bytes = ap (λ (r : Room). r.bytes) left in
    record {
      some = some;
      lasts = sym is_s ∙ b.0;
      items = omega (arith, counts, few, left_items);
      bytes = omega (arith, weighs, light, left_bytes);
      young = ap (λ (l : Limits). is_lingered l.linger clock g.items) (sym same) ∙ unready.2;
      unmarked = sym is_m ∙ d.0;
      still_open = d.1;
    }
