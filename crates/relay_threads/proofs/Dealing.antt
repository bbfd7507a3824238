-- The ends of the senders, distributed from the last sender to the first.
use Rattle.std.proofs.Common.{◌≡◌, ℕ, zero, suc, ◌+◌, ◌<◌, ◌≤◌, List, [], ◌∷◌, ◌++◌, length, map, sym, refl, ap, ◌∙◌, subst, arith, add-one, length-append}
use Rattle.relay_queue.specs.Ends.{Queue, SenderEnd, fresh, fresh_puts}
use Rattle.relay_core.specs.declared.config.RelayConfig.{RelayConfig}
use Rattle.relay_producer.specs.declared.ends.OpenEnd.{OpenEnd}
use Rattle.relay_producer.specs.Ends.{open_end}
use Rattle.relay_producer.specs.States.{ProducerState, ControlState, AreFresh, HasLanes}
use Rattle.relay_threads.specs.Rows.{HaveSome, LoseLast}
use Rattle.relay_threads.specs.Lanes.{LaneHandle, queues_of, wires_of, tells_of, AreLanesOf}
use Rattle.relay_threads.specs.Relay.{AreNew, new_producer, new_control}
use Rattle.relay_threads.proofs.Popping.{long_map}

-- ---- lists

pub snoc_same : {A : Type 0} (a b : List A) (x y : A) → a ++ x ∷ [] ≡ b ++ y ∷ [] → (a ≡ b) × (x ≡ y)
snoc_same [] [] x y e = (refl, cc)
snoc_same [] (u ∷ []) x y e = absurd (cc)
snoc_same [] (u ∷ v ∷ b) x y e = absurd (cc)
snoc_same (u ∷ []) [] x y e = absurd (cc)
snoc_same (u ∷ v ∷ a) [] x y e = absurd (cc)
snoc_same (u ∷ a) (v ∷ b) x y e =
    let heads : u ≡ v = cc in
    let r = snoc_same a b x y (cc) in
    ((λ i. heads i ∷ r.0 i), r.1)

map_map : {A B C : Type 0} (f : B → C) (h : A → B) (xs : List A) → map f (map h xs) ≡ map (λ x. f (h x)) xs
map_map f h [] = refl
map_map f h (x ∷ xs) = ap (λ l. f (h x) ∷ l) (map_map f h xs)

pub map_snoc : {A B : Type 0} (f : A → B) (xs : List A) (x : A) → map f (xs ++ x ∷ []) ≡ map f xs ++ f x ∷ []
map_snoc f [] x = refl
map_snoc f (y ∷ ys) x = ap (λ l. f y ∷ l) (map_snoc f ys x)

-- ---- columns

more_puts : (q : Queue) (n : ℕ) → fresh_puts q (n + 1) ≡ fresh_puts q n ++ fresh q n ∷ []
more_puts q n = ap (fresh_puts q) (add-one n)

snoc_long : {A : Type 0} (xs : List A) (x : A) → 0 < length (xs ++ x ∷ [])
snoc_long xs x = let e = length-append xs (x ∷ []) in omega arith

pub columns_some : (n : ℕ) (qs : List Queue) → HaveSome (map (λ q. fresh_puts q (n + 1)) qs)
columns_some n [] = tt
columns_some n (q ∷ qs) = (subst (λ (l : List SenderEnd). 0 < length l) (sym (more_puts q n)) (snoc_long (fresh_puts q n) (fresh q n)), columns_some n qs)

lose_fresh : (n : ℕ) (qs : List Queue) (news : List (List SenderEnd)) (lasts : List SenderEnd) → LoseLast (map (λ q. fresh_puts q (n + 1)) qs) news lasts → (news ≡ map (λ q. fresh_puts q n) qs) × (lasts ≡ map (λ q. fresh q n) qs)
lose_fresh n [] [] [] h = (refl, refl)
lose_fresh n [] [] (x ∷ xs) h = absurd h
lose_fresh n [] (m ∷ ms) lasts h = absurd h
lose_fresh n (q ∷ qs) [] lasts h = absurd h
lose_fresh n (q ∷ qs) (m ∷ ms) [] h = absurd h
lose_fresh n (q ∷ qs) (m ∷ ms) (x ∷ xs) h =
    let r = lose_fresh n qs ms xs h.1 in
    let s = snoc_same m (fresh_puts q n) x (fresh q n) (sym h.0 ∙ more_puts q n) in
    ((λ i. s.0 i ∷ r.0 i), (λ i. s.1 i ∷ r.1 i))

fresh_each : (n : ℕ) (qs : List Queue) → AreFresh n (map (λ q. fresh q n) qs)
fresh_each n [] k d lt = absurd (omega arith)
fresh_each n (q ∷ qs) zero d lt = refl
fresh_each n (q ∷ qs) (suc k) d lt = fresh_each n qs k d (omega arith)

-- what one sender got, and what is left
pub record DealsOne (n : ℕ) (qs : List Queue) (news : List (List SenderEnd)) (lasts : List SenderEnd) : Type 0 where
  pub left : news ≡ map (λ q. fresh_puts q n) qs
  pub dealt : lasts ≡ map (λ q. fresh q n) qs
  pub fresh_ones : AreFresh n lasts
  pub long : length lasts ≡ length qs
  pub open_ones : map open_end lasts ≡ map (λ q. open_end (fresh q n)) qs

pub deals_one : (n : ℕ) (qs : List Queue) (columns news : List (List SenderEnd)) (lasts : List SenderEnd) → columns ≡ map (λ q. fresh_puts q (n + 1)) qs → LoseLast columns news lasts → DealsOne n qs news lasts
deals_one n qs columns news lasts is h =
    let r = lose_fresh n qs news lasts (subst (λ c. LoseLast c news lasts) is h) in
    record {
      left = r.0;
      dealt = r.1;
      fresh_ones = subst (AreFresh n) (sym r.1) (fresh_each n qs);
      long = ap length r.1 ∙ long_map (λ q. fresh q n) qs;
      open_ones = ap (map open_end) r.1 ∙ map_map open_end (λ q. fresh q n) qs;
    }

pub columns_long : (n : ℕ) (qs : List Queue) (columns : List (List SenderEnd)) → columns ≡ map (λ q. fresh_puts q n) qs → length columns ≡ length qs
columns_long n qs columns is = ap length is ∙ long_map (λ q. fresh_puts q n) qs

pub have_lanes : (qs : List Queue) (lasts : List SenderEnd) (count : ℕ) → length lasts ≡ length qs → count ≡ length qs → (0 < count) × (count ≤ 8) → HasLanes lasts
have_lanes qs lasts count a b h = (omega (arith, a, b, h.0), omega (arith, a, b, h.1))

-- so far the senders from this one on have their ends
pub record DealsOn (qs : List Queue) (epoch : ℕ) (columns : List (List SenderEnd)) (left : ℕ) (producers : List ProducerState) : Type 0 where
  pub columns_left : columns ≡ map (λ q. fresh_puts q left) qs
  pub new_ones : AreNew qs epoch left producers

pub deals_on : (qs : List Queue) (epoch : ℕ) (news : List (List SenderEnd)) (lasts : List SenderEnd) (left n : ℕ) (p : ProducerState) (producers producers' : List ProducerState) → left ≡ n + 1 → DealsOne n qs news lasts → AreNew qs epoch left producers
    → p ≡ record { epoch = epoch; producer = n; put = 0; ends = map open_end lasts } → producers' ≡ p ∷ producers → DealsOn qs epoch news n producers'
deals_on qs epoch news lasts left n p producers producers' at one new is e =
    let new_p : p ≡ new_producer qs epoch n = is ∙ ap (λ (l : List OpenEnd). record { epoch = epoch; producer = n; put = 0; ends = l }) one.open_ones in
    record {
      columns_left = one.left;
      new_ones = subst (AreNew qs epoch n) (sym e) (new_p, subst (λ k. AreNew qs epoch k producers) at new);
    }

pub controls : (qs : List Queue) (news : List (List SenderEnd)) (lasts : List SenderEnd) (n : ℕ) (k : ControlState) → DealsOne n qs news lasts → k ≡ record { sender = n; ends = map open_end lasts } → k ≡ new_control qs n
controls qs news lasts n k one is = is ∙ ap (λ (l : List OpenEnd). record { sender = n; ends = l }) one.open_ones

-- ---- lanes

module _ {W T : Type 0} where
  pub lanes_more : (c : RelayConfig) (hs : List (LaneHandle W T)) (h : LaneHandle W T) → AreLanesOf c hs → h.promise.config.value ≡ c → h.promise.take.value.senders ≡ c.producers + 1 → AreLanesOf c (hs ++ h ∷ [])
  lanes_more c [] h k a b = ((a, b), tt)
  lanes_more c (x ∷ hs) h k a b = (k.0, lanes_more c hs h k.1 a b)

  pub wires_more : (hs hs' : List (LaneHandle W T)) (h : LaneHandle W T) (w : W) (rest rest' all : List W) → hs' ≡ hs ++ h ∷ [] → h.promise.wire.value ≡ w → rest ≡ w ∷ rest' → wires_of hs ++ rest ≡ all → wires_of hs' ++ rest' ≡ all
  wires_more hs hs' h w rest rest' all more is next so =
      ap (λ l. wires_of l ++ rest') more ∙ ap (λ l. l ++ rest') (map_snoc (λ (x : LaneHandle W T). x.promise.wire.value) hs h) ∙ ap (λ v. (wires_of hs ++ v ∷ []) ++ rest') is ∙ snoc_rest (wires_of hs) w rest' ∙ ap (λ l. wires_of hs ++ l) (sym next) ∙ so where
        snoc_rest : (xs : List W) (y : W) (ys : List W) → (xs ++ y ∷ []) ++ ys ≡ xs ++ y ∷ ys
        snoc_rest [] y ys = refl
        snoc_rest (x ∷ xs) y ys = ap (λ l. x ∷ l) (snoc_rest xs y ys)

  pub tells_more : (hs hs' : List (LaneHandle W T)) (h : LaneHandle W T) (t : T) (rest rest' all : List T) → hs' ≡ hs ++ h ∷ [] → h.promise.tell.value ≡ t → rest ≡ t ∷ rest' → tells_of hs ++ rest ≡ all → tells_of hs' ++ rest' ≡ all
  tells_more hs hs' h t rest rest' all more is next so =
      ap (λ l. tells_of l ++ rest') more ∙ ap (λ l. l ++ rest') (map_snoc (λ (x : LaneHandle W T). x.promise.tell.value) hs h) ∙ ap (λ v. (tells_of hs ++ v ∷ []) ++ rest') is ∙ snoc_rest (tells_of hs) t rest' ∙ ap (λ l. tells_of hs ++ l) (sym next) ∙ so where
        snoc_rest : (xs : List T) (y : T) (ys : List T) → (xs ++ y ∷ []) ++ ys ≡ xs ++ y ∷ ys
        snoc_rest [] y ys = refl
        snoc_rest (x ∷ xs) y ys = ap (λ l. x ∷ l) (snoc_rest xs y ys)

  pub puts_more : {V : Type 0} (items : V → List SenderEnd) (n : ℕ) (hs hs' : List (LaneHandle W T)) (h : LaneHandle W T) (columns columns' : List V) (puts : V) → hs' ≡ hs ++ h ∷ [] → columns' ≡ columns ++ puts ∷ []
      → items puts ≡ fresh_puts h.promise.take.value.queue n → map items columns ≡ map (λ q. fresh_puts q n) (queues_of hs) → map items columns' ≡ map (λ q. fresh_puts q n) (queues_of hs')
  puts_more items n hs hs' h columns columns' puts more_h more_c is so =
      ap (map items) more_c ∙ map_snoc items columns puts ∙ (λ i. so i ++ is i ∷ []) ∙ sym (ap (λ l. map (λ q. fresh_puts q n) (queues_of l)) more_h ∙ ap (map (λ q. fresh_puts q n)) (map_snoc (λ (x : LaneHandle W T). x.promise.take.value.queue) hs h) ∙ map_snoc (λ q. fresh_puts q n) (queues_of hs) h.promise.take.value.queue)

-- ---- one sender before another

pub some_left : (n left : ℕ) (qs : List Queue) (columns : List (List SenderEnd)) → left ≡ n + 1 → columns ≡ map (λ q. fresh_puts q left) qs → HaveSome columns
some_left n left qs columns at is = subst HaveSome (sym (is ∙ ap (λ k. map (λ q. fresh_puts q k) qs) at)) (columns_some n qs)

pub deals_left : (n left : ℕ) (qs : List Queue) (columns news : List (List SenderEnd)) (lasts : List SenderEnd) → left ≡ n + 1 → columns ≡ map (λ q. fresh_puts q left) qs → LoseLast columns news lasts → DealsOne n qs news lasts
deals_left n left qs columns news lasts at is h = deals_one n qs columns news lasts (is ∙ ap (λ k. map (λ q. fresh_puts q k) qs) at) h
