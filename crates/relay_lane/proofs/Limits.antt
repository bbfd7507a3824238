-- What a request carries keeps the limits of a batch, and so those of a wire.
use Rattle.std.proofs.Common.{◌≡◌, ℕ, ◌+◌, ◌*◌, ◌<◌, ◌≤◌, List, [], ◌∷◌, ◌++◌, length, Bool, true, false, ◌&&◌, refl, sym, ap, ◌∙◌, subst, ⊎_elim, inl, inr, arith, length-append, append_assoc}
use Rattle.std.specs.Prelude.{◌⊎◌, ◌||◌, nat_lt, nat_le, min, map, if◌then◌else◌}
use Rattle.std.proofs.lemmas.List.{length-map}
use Rattle.std.proofs.lemmas.List.Sums.{sum_by_push, sum_by-cons}
use Rattle.std.proofs.lemmas.List.Elements.{All-nil, All-cons}
use borrow.Author.Tests.{ltb-false, leb-true, leb-false}
use Rattle.relay_action.specs.declared.write.Write.{Write}
use Rattle.relay_action.specs.declared.action.Action.{Action}
use Rattle.relay_action.specs.declared.action.Action.TheVariants.{Index, Delete}
use Rattle.relay_action.specs.Limits.{last_version}
use Rattle.relay_ndjson.specs.Bulk.{write_text, text_of}
use Rattle.relay_ndjson.specs.Lines.{IsLine, IsRaw, line_limit}
use Rattle.relay_ndjson.specs.Bodies.{AreDealt, IsLinesOf, IsSourceOf}
use Rattle.relay_ndjson.proofs.Written.{bulk_text_is_bulk}
use Rattle.relay_batch.specs.declared.item.BatchItem.{BatchItem}
use Rattle.relay_batch.specs.declared.item.Limits.{Limits}
use Rattle.relay_batch.specs.declared.offer.Offer.{Offer}
use Rattle.relay_batch.specs.declared.offer.Offer.TheVariants.{Busy, Closed, Added}
use Rattle.relay_batch.specs.Batches.{bytes_of, count_of}
use Rattle.relay_batch.specs.Gathering.{Gathering, holds_document, passes_count, passes_bytes, answer_to}
use Rattle.relay_results.specs.Words.{Mem}
use Rattle.relay_results.proofs.Lists.{and_left, and_right, Mem-sub, filter_sub, sub_joined}
use Rattle.relay_delivery.specs.Machine.{Config, write_of}
use Rattle.relay_delivery.specs.Lane.{Entry, held_of, is_candidate, candidates, writes_of_all}
use Rattle.relay_core.specs.declared.config.RelayConfig.{RelayConfig}
use Rattle.relay_core.specs.Limits.{is_from_to, are_valid_limits, are_attempts, is_age, is_valid}
use Rattle.relay_core.specs.Rule.{by_answer, chosen_entries, item_of, with_item}
use Rattle.relay_core.specs.State.{State, gathering, next_entries, IsLane}
use Rattle.relay_core.proofs.Tying.{chosen_sub}
use Rattle.relay_core.proofs.Flights.{earlier_ones_settled}
use Rattle.relay_core.proofs.Quiet.{count_most}
use Rattle.relay_core.proofs.Valid.{valid_facts}

-- ---- of a valid config

pub record ValidLimits (c : RelayConfig) : Type 0 where
  pub count : (1 ≤ c.limits.count) × (c.limits.count ≤ 10000)
  pub bytes : c.limits.bytes ≤ 16777216
  pub places : (1 ≤ c.in_flight) × (c.in_flight ≤ 8)

within : (least most n : ℕ) → is_from_to least most n ≡ true → (least ≤ n) × (n ≤ most)
within least most n t = (leb-true _ _ (and_left _ _ t), leb-true _ _ (and_right (nat_le least n) _ t))

pub valid_limits : (c : RelayConfig) → is_valid c ≡ true → ValidLimits c
valid_limits c t =
    let t2 = and_right (is_from_to 1 8 c.lanes) _ t in
    let t3 = and_right (is_from_to 1 256 c.producers) _ t2 in
    let t4 = and_right (is_from_to 1 65536 c.capacity) _ t3 in
    let t5 = and_right (is_from_to 1 65536 c.max_held) _ t4 in
    let l = and_left (are_valid_limits c.limits) _ t5 in
    let t6 = and_right (are_valid_limits c.limits) _ t5 in
    let t7 = and_right (is_age c.give_up_after) _ (and_right (are_attempts c.attempts) _ t6) in
    record {
      count = within 1 10000 c.limits.count (and_left _ _ l);
      bytes = (within 1024 16777216 c.limits.bytes (and_left _ _ (and_right (is_from_to 1 10000 c.limits.count) _ l))).1;
      places = within 1 8 c.in_flight (and_left _ _ t7);
    }

-- ---- small facts

pub nothing : {A : Type 0} (xs : List A) → length xs ≡ 0 → xs ≡ []
nothing [] e = refl
nothing (x ∷ xs) e = absurd (omega (arith, e))

-- ---- a batch

pub record Keeps (l : Limits) (is : List BatchItem) : Type 0 where
  pub counted : 1 < length is → length is ≤ l.count
  pub weighed : 1 < length is → bytes_of is ≤ l.bytes

no_closed : (a b : Bool) → (if a then Busy else if b then Closed else Added) ≡ Added → b ≡ false
no_closed true b e = absurd (cc)
no_closed false true e = absurd (cc)
no_closed false false e = refl

neither : (a b : Bool) → (a || b) ≡ false → (a ≡ false) × (b ≡ false)
neither true b e = absurd (cc)
neither false b e = (refl, e)

not_passed : (a b : Bool) → (a && b) ≡ false → (a ≡ false) ⊎ (b ≡ false)
not_passed true b e = inr e
not_passed false b e = inl refl

one_more_keeps : (g : Gathering) (i : BatchItem) → Keeps g.limits g.items → answer_to i g ≡ Added → Keeps g.limits (g.items ++ i ∷ [])
one_more_keeps g i k e =
    let n = neither (passes_count g i.cap) (passes_bytes g i.bytes) (no_closed (holds_document i.doc g.items) _ e) in
    let len = length-append g.items (i ∷ []) in
    let one : length (i ∷ []) ≡ 1 = refl in
    let sum : bytes_of (g.items ++ i ∷ []) ≡ bytes_of g.items + i.bytes = sum_by_push (λ (x : BatchItem). x.bytes) g.items i in
    record {
      counted = λ lt. ⊎_elim {C = length (g.items ++ i ∷ []) ≤ g.limits.count}
          (λ t. let z = ltb-false _ _ t in absurd (omega (arith, z, len, one, lt)))
          (λ t. let z = leb-false _ _ t in let m = count_most g.limits.count g.items in omega (arith, z, m, len, one))
          (not_passed (nat_lt 0 (length g.items)) (nat_le (min (count_of g.limits.count g.items) i.cap) (length g.items)) n.0);
      weighed = λ lt. ⊎_elim {C = bytes_of (g.items ++ i ∷ []) ≤ g.limits.bytes}
          (λ t. let z = ltb-false _ _ t in absurd (omega (arith, z, len, one, lt)))
          (λ t. let z = ltb-false _ _ t in omega (arith, z, sum))
          (not_passed (nat_lt 0 (length g.items)) (nat_lt g.limits.bytes (bytes_of g.items + i.bytes)) n.1);
    }

none_more : {A : Type 0} (xs : List A) → xs ++ [] ≡ xs
none_more [] = refl
none_more (x ∷ xs) = ap (λ ys. x ∷ ys) (none_more xs)

chosen_by : (x : Offer) (e : Entry) (busy added : List Entry) (g : Gathering) → Keeps g.limits g.items
    → Keeps g.limits (g.items ++ map item_of busy)
    → (x ≡ Added → Keeps g.limits ((g.items ++ item_of e ∷ []) ++ map item_of added))
    → Keeps g.limits (g.items ++ map item_of (by_answer x busy [] (e ∷ added)))
chosen_by Busy e busy added g k b a = b
chosen_by Closed e busy added g k b a = subst (Keeps g.limits) (sym (none_more g.items)) k
chosen_by Added e busy added g k b a = subst (Keeps g.limits) (append_assoc g.items (item_of e ∷ []) (map item_of added)) (a refl)

pub chosen_keeps : (es : List Entry) (g : Gathering) → Keeps g.limits g.items → Keeps g.limits (g.items ++ map item_of (chosen_entries es g))
chosen_keeps [] g k = subst (Keeps g.limits) (sym (none_more g.items)) k
chosen_keeps (e ∷ es) g k =
    chosen_by (answer_to (item_of e) g) e (chosen_entries es g) (chosen_entries es (with_item (item_of e) g)) g k (chosen_keeps es g k)
    (λ a. chosen_keeps es (with_item (item_of e) g) (one_more_keeps g (item_of e) k a))

-- ---- its text

pub among : (s : State) (e : Entry) → Mem e (next_entries s) → Mem e s.core.held
among s e m = Mem-sub e (next_entries s) s.core.held (sub_joined (next_entries s) (candidates s.core) s.core.held (chosen_sub (candidates s.core) (gathering s)) (filter_sub (is_candidate s.core) s.core.held)) m

-- what is sent waits, so that its bytes are those of its lines
weighed : (s : State) → IsLane s → (e : Entry) → Mem e (next_entries s) → e.bytes ≡ length (write_text (write_of e.held))
weighed s l e m = l.weighed e (among s e m) (earlier_ones_settled s e m).waits

text_bytes : (es : List Entry) → ((e : Entry) → Mem e es → e.bytes ≡ length (write_text (write_of e.held))) → length (text_of (writes_of_all es)) ≡ bytes_of (map item_of es)
text_bytes [] w = refl
text_bytes (e ∷ es) w =
    let here = w e (inl refl) in
    let rest = text_bytes es (λ x m. w x (inr m)) in
    let len = length-append (write_text (write_of e.held)) (text_of (writes_of_all es)) in
    let sum : bytes_of (map item_of (e ∷ es)) ≡ e.bytes + bytes_of (map item_of es) = sum_by-cons (λ (x : BatchItem). x.bytes) (item_of e) (map item_of es) in
    omega (arith, here, rest, len, sum)

version_small : (s : State) → IsLane s → (e : Entry) → Mem e s.core.held → e.held.version ≤ last_version
version_small s l e m =
    let first = ap (λ (c : Config). c.first) l.config in
    let deals = ap (λ (c : Config). c.deals) l.config in
    let v = (l.in_order e m).assigned in
    let e = (valid_facts s.config l.valid).epoch in
    let d = (valid_facts s.config l.valid).deal.1 in
    omega (arith, first, deals, v, e, d)

dealt_all : (es : List Entry) → ((e : Entry) → Mem e es → e.held.version ≤ last_version) → AreDealt (writes_of_all es)
dealt_all [] w = All-nil (λ (x : Write). x.version ≤ last_version)
dealt_all (e ∷ es) w = All-cons (λ (x : Write). x.version ≤ last_version) (write_of e.held) (writes_of_all es) (w e (inl refl)) (dealt_all es (λ x m. w x (inr m)))

-- a line, with its end
raw_short : (text raw : List ℕ) → IsRaw text raw → length text ≤ line_limit → length raw ≤ line_limit + 1
raw_short text raw r n =
    let one : length {A = ℕ} (13 ∷ []) ≡ 1 = refl in
    ⊎_elim {C = length raw ≤ line_limit + 1}
    (λ e. let len = ap length e ∙ length-append text (13 ∷ []) in omega (arith, n, len, one))
    (λ e. let len = ap length e.0 in omega (arith, n, len))
    r

line_short : (text bytes : List ℕ) → IsLine text bytes → length bytes ≤ line_limit + 2
line_short text bytes l =
    let r = raw_short text l.0 l.2 l.3 in
    let len = ap length l.4 ∙ length-append l.0 (10 ∷ []) in
    let one : length {A = ℕ} (10 ∷ []) ≡ 1 = refl in
    omega (arith, r, len, one)

source_short : (a : Action) (rest : List ℕ) → IsSourceOf a rest → length rest ≤ line_limit + 2
source_short (Index source) rest h = line_short source.text rest h
source_short Delete rest h = let n = ap length h in omega (arith, n)

lines_short : (bytes : List ℕ) (w : Write) → IsLinesOf bytes w → length bytes ≤ 2 * (line_limit + 2)
lines_short bytes w h =
    let front = line_short h.0 h.1 h.3 in
    let rest = source_short w.action h.2 h.5 in
    let len = ap length h.6 ∙ length-append h.1 h.2 in
    omega (arith, front, rest, len)

-- the text of one write is far below the limit of a wire
one_short : (w : Write) → w.version ≤ last_version → length (text_of (w ∷ [])) ≤ 16777216
one_short w v =
    let b = bulk_text_is_bulk (w ∷ []) (All-cons (λ (x : Write). x.version ≤ last_version) w [] v (All-nil (λ (x : Write). x.version ≤ last_version))) in
    let front = lines_short b.0 w b.2 in
    let rest = ap length b.3 in
    let len = ap length b.4 ∙ length-append b.0 b.1 in
    omega (arith, front, rest, len)

text_short : (c : RelayConfig) → is_valid c ≡ true → (es : List Entry) → ((e : Entry) → Mem e es → e.bytes ≡ length (write_text (write_of e.held))) → ((e : Entry) → Mem e es → e.held.version ≤ last_version)
    → Keeps c.limits (map item_of es) → length (text_of (writes_of_all es)) ≤ 16777216
text_short c valid [] w v k = omega arith
text_short c valid (e ∷ []) w v k = one_short (write_of e.held) (v e (inl refl))
text_short c valid (e ∷ d ∷ es) w v k =
    let all = e ∷ d ∷ es in
    let n = text_bytes all w in
    let m = k.weighed (let len = length-map es item_of in omega (arith, len)) in
    let b = (valid_limits c valid).bytes in
    omega (arith, n, m, b)

-- ---- what a request carries

pub record IsFit (s : State) : Type 0 where
  pub few : length (writes_of_all (next_entries s)) ≤ 10000
  pub dealt : AreDealt (writes_of_all (next_entries s))
  pub bytes : length (text_of (writes_of_all (next_entries s))) ≤ 16777216

few_items : (l : Limits) (is : List BatchItem) → 1 ≤ l.count → Keeps l is → length is ≤ l.count
few_items l [] some k = omega arith
few_items l (i ∷ []) some k = omega (arith, some)
few_items l (i ∷ j ∷ is) some k = k.counted (omega arith)

pub requests_fit : (s : State) → IsLane s → IsFit s
requests_fit s l =
    let es = next_entries s in
    let small : (e : Entry) → Mem e es → e.held.version ≤ last_version = λ e m. version_small s l e (among s e m) in
    let k : Keeps s.config.limits (map item_of es) = chosen_keeps (candidates s.core) (gathering s) (record { counted = λ lt. omega arith; weighed = λ lt. omega arith }) in
    let c = few_items s.config.limits (map item_of es) (valid_limits s.config l.valid).count.0 k in
    let v = (valid_limits s.config l.valid).count.1 in
    let a = length-map es item_of in
    let b = length-map es (λ (e : Entry). e.held) in
    let d = length-map (held_of es) write_of in
    record {
      few = omega (arith, c, v, a, b, d);
      dealt = dealt_all es small;
      bytes = text_short s.config l.valid es (weighed s l) small k;
    }
