-- Over incarnations a lane's list falls into parts, one for each incarnation, in their order.
use Rattle.std.proofs.Common.{◌≡◌, ℕ, ◌+◌, ◌-◌, ◌<◌, ◌≤◌, List, [], ◌∷◌, ◌++◌, Bool, true, false, ◌==◌, refl, sym, ap, ◌∙◌, subst, ⊎_elim, inl, inr, arith, append_assoc, append-nil}
use Rattle.std.specs.Prelude.{◌⊎◌, ◌&&◌, slice_get, option_to_list, map, filter, nat_lt, nat_le, if◌then◌else◌}
use Rattle.std.proofs.lemmas.Bool.{le-leb, lt-ltb, ltb-true}
use Rattle.std.proofs.lemmas.List.{map-append}
use Rattle.std.proofs.lemmas.List.Elements.{filter-append}
use Rattle.relay_action.specs.declared.write.Write.{Write}
use Rattle.relay_action.specs.declared.operation.Op.{Op}
use Rattle.relay_action.specs.declared.operation.OpName.{OpName}
use Rattle.relay_results.specs.Words.{Mem, AllDistinct, IsSubsequence}
use Rattle.relay_results.specs.Documents.{Document, document_of, name_of}
use Rattle.relay_results.proofs.Lists.{true_or_false, and_right, and_both, equal, equal_test, Mem-left, Mem-right, Mem-cases, Mem-map, Mem-sub, AllDistinct-sub, sub-map, sub-filter, sub_joined}
use Rattle.relay_delivery.specs.Attribution.{SameActions, IsInProducerOrder, AreByEpoch, is_from, is_in}
use Rattle.relay_delivery.specs.Machine.{Config}
use Rattle.relay_delivery.specs.Delivery.{ops_of}
use Rattle.relay_delivery.specs.Restarts.{Incarnation, IsAbove}
use Rattle.relay_delivery.specs.Incarnations.{accepted_in, deals_version, op_dealt, ops_over}
use Rattle.relay_delivery.proofs.Facts.{IsOfOne, IsRising}
use Rattle.relay_delivery.proofs.Ordered.{ops-in_order, ops-same, its_op, op-of}
use Rattle.relay_delivery.proofs.Lives.{IsOfThese, IncarnationFacts, AreAbove, version_within}

-- ---- the incarnation that assigned a version

within_test : (a b v : ℕ) → a ≤ v → v < b → (nat_le a v && nat_lt v b) ≡ true
within_test a b v le lt = and_both (nat_le a v) (nat_lt v b) (le-leb a v le) (lt-ltb v b lt)

past_test : (a b v : ℕ) → b ≤ v → (nat_le a v && nat_lt v b) ≡ false
past_test a b v le = ⊎_elim
    (λ t. let lt = ltb-true v b (and_right (nat_le a v) (nat_lt v b) t) in absurd (omega (arith, lt, le)))
    (λ n. n)
    (true_or_false (nat_le a v && nat_lt v b))

deals_own : (p : Incarnation) (l : ℕ) (w : Write) → IsOfOne p.config (p.taken l) w → deals_version p.config w.version ≡ true
deals_own p l w a = let v = version_within p.config (p.taken l) w a in within_test p.config.first (p.config.first + p.config.deals) w.version v.0 v.1

deals_no_later : (p q : Incarnation) (l : ℕ) (w : Write) → IsAbove p.config q.config → IsOfOne q.config (q.taken l) w → deals_version p.config w.version ≡ false
deals_no_later p q l w up a =
    let v = version_within q.config (q.taken l) w a in
    let e = up.versions in
    past_test p.config.first (p.config.first + p.config.deals) w.version (let x = v.0 in omega (arith, x, e))

of_cases : (p : Incarnation) (ps : List Incarnation) (l : ℕ) (w : Write) → IsOfThese (p ∷ ps) l w → IsOfOne p.config (p.taken l) w ⊎ IsOfThese ps l w
of_cases p ps l w a = ⊎_elim
    (λ e. inl (subst (λ (x : Incarnation). IsOfOne x.config (x.taken l) w) e a.of_one))
    (λ r. inr (record { which = a.which; among = r; of_one = a.of_one }))
    a.among

-- its operation is that of its incarnation, or one of a later one
op_of_first : (p : Incarnation) (ps : List Incarnation) (l : ℕ) (w : Write) → IsOfOne p.config (p.taken l) w → op_dealt (p ∷ ps) l w.version ≡ option_to_list (slice_get (p.taken l) (w.version - p.config.first))
op_of_first p ps l w a = ap (λ b. if b then option_to_list (slice_get (p.taken l) (w.version - p.config.first)) else op_dealt ps l w.version) (deals_own p l w a)

op_of_later : (p : Incarnation) (ps : List Incarnation) (l : ℕ) (w : Write) → ((q : Incarnation) → Mem q ps → IsAbove p.config q.config) → IsOfThese ps l w → op_dealt (p ∷ ps) l w.version ≡ op_dealt ps l w.version
op_of_later p ps l w up a = ap (λ b. if b then option_to_list (slice_get (p.taken l) (w.version - p.config.first)) else op_dealt ps l w.version) (deals_no_later p a.which l w (up a.which a.among) a.of_one)

ops_first : (p : Incarnation) (ps : List Incarnation) (l : ℕ) (ws : List Write) → ((w : Write) → Mem w ws → IsOfOne p.config (p.taken l) w) → ops_over (p ∷ ps) l ws ≡ ops_of p.config.first (p.taken l) ws
ops_first p ps l [] each = refl
ops_first p ps l (w ∷ ws) each =
    let e = op_of_first p ps l w (each w (inl refl)) in
    let r = ops_first p ps l ws (λ x m. each x (inr m)) in
    λ i. e i ++ r i

ops_rest : (p : Incarnation) (ps : List Incarnation) (l : ℕ) (ws : List Write) → ((q : Incarnation) → Mem q ps → IsAbove p.config q.config) → ((w : Write) → Mem w ws → IsOfThese ps l w) → ops_over (p ∷ ps) l ws ≡ ops_over ps l ws
ops_rest p ps l [] up each = refl
ops_rest p ps l (w ∷ ws) up each =
    let e = op_of_later p ps l w up (each w (inl refl)) in
    let r = ops_rest p ps l ws up (λ x m. each x (inr m)) in
    λ i. e i ++ r i

pub ops_over-append : (ps : List Incarnation) (l : ℕ) (xs ys : List Write) → ops_over ps l (xs ++ ys) ≡ ops_over ps l xs ++ ops_over ps l ys
ops_over-append ps l [] ys = refl
ops_over-append ps l (x ∷ xs) ys =
    ap (λ os. op_dealt ps l x.version ++ os) (ops_over-append ps l xs ys)
    ∙ sym (append_assoc (op_dealt ps l x.version) (ops_over ps l xs) (ops_over ps l ys))

-- what a write of these incarnations is attributed to
pub op_of_write : (ps : List Incarnation) (top : Config) → AreAbove ps top → (l : ℕ) (w : Write) (a : IsOfThese ps l w) → op_dealt ps l w.version ≡ a.of_one.op ∷ []
op_of_write [] top up l w a = absurd a.among
op_of_write (p ∷ ps) top up l w a = ⊎_elim {C = op_dealt (p ∷ ps) l w.version ≡ a.of_one.op ∷ []}
    (λ e.
    let at : op_dealt (p ∷ ps) l w.version ≡ option_to_list (slice_get (p.taken l) (w.version - p.config.first)) = op_of_first p ps l w (subst (λ (x : Incarnation). IsOfOne x.config (x.taken l) w) e a.of_one) in
    at ∙ ap (λ (x : Incarnation). option_to_list (slice_get (x.taken l) (w.version - x.config.first))) (sym e) ∙ its_op a.which.config (a.which.taken l) w a.of_one)
    (λ r.
    let b : IsOfThese ps l w = record { which = a.which; among = r; of_one = a.of_one } in
    op_of_later p ps l w up.1 b ∙ op_of_write ps top up.2 l w b)
    a.among

-- ---- the cut after the first incarnation

record IsCut (p : Incarnation) (ps : List Incarnation) (l : ℕ) (ws : List Write) : Type 0 where
  front : List Write
  rest : List Write
  joined : ws ≡ front ++ rest
  of_first : (w : Write) → Mem w front → IsOfOne p.config (p.taken l) w
  of_rest : (w : Write) → Mem w rest → IsOfThese ps l w
  rising_front : IsRising front
  rising_rest : IsRising rest

-- after a write of a later incarnation there is none of this one
all_later : (p : Incarnation) (ps : List Incarnation) (l low : ℕ) (ws : List Write) → ((w : Write) → Mem w ws → low < w.version) → p.config.first + p.config.deals ≤ low → ((w : Write) → Mem w ws → IsOfThese (p ∷ ps) l w) → (w : Write) → Mem w ws → IsOfThese ps l w
all_later p ps l low ws above le each w m = ⊎_elim
    (λ one. let v = (version_within p.config (p.taken l) w one).1 in let a = above w m in absurd (omega (arith, v, a, le)))
    (λ r. r)
    (of_cases p ps l w (each w m))

cut : (p : Incarnation) (ps : List Incarnation) (l : ℕ) → ((q : Incarnation) → Mem q ps → IsAbove p.config q.config) → (ws : List Write) → IsRising ws → ((w : Write) → Mem w ws → IsOfThese (p ∷ ps) l w) → IsCut p ps l ws
cut p ps l up [] r each = record { front = []; rest = []; joined = refl; of_first = λ w m. absurd m; of_rest = λ w m. absurd m; rising_front = tt; rising_rest = tt }
cut p ps l up (w ∷ ws) r each = ⊎_elim
    (λ one.
    let c = cut p ps l up ws r.1 (λ x m. each x (inr m)) in
    record {
      front = w ∷ c.front;
      rest = c.rest;
      joined = ap (λ xs. w ∷ xs) c.joined;
      of_first = λ x m. ⊎_elim (λ e. subst (λ z. IsOfOne p.config (p.taken l) z) (sym e) one) (λ y. c.of_first x y) m;
      of_rest = c.of_rest;
      rising_front = ((λ x m. r.0 x (subst (λ xs. Mem x xs) (sym c.joined) (Mem-left x c.front c.rest m))), c.rising_front);
      rising_rest = c.rising_rest;
    })
    (λ later.
    let v = (version_within later.which.config (later.which.taken l) w later.of_one).0 in
    let le = (up later.which later.among).versions in
    record {
      front = [];
      rest = w ∷ ws;
      joined = refl;
      of_first = λ x m. absurd m;
      of_rest = λ x m. ⊎_elim
          (λ e. subst (λ z. IsOfThese ps l z) (sym e) later)
          (λ y. all_later p ps l w.version ws r.0 (omega (arith, v, le)) (λ z n. each z (inr n)) x y)
          m;
      rising_front = tt;
      rising_rest = r;
    })
    (of_cases p ps l w (each w (inl refl)))

-- ---- all that is said of the operations

-- an operation was taken by the lane in one of these incarnations
pub record IsTakenIn (ps : List Incarnation) (l : ℕ) (o : Op) : Type 0 where
  pub which : Incarnation
  pub among : Mem which ps
  pub taken : Mem o (which.taken l)

-- they are those that the incarnations took, of each a part of what it took, and theirs are the actions
pub record AreParts (lane_of : Document → ℕ) (ps : List Incarnation) (l : ℕ) (k : Document) (ws : List Write) (ops : List Op) : Type 0 where
  pub actions : SameActions ops ws
  pub distinct : AllDistinct (map name_of ops)
  pub by_epoch : AreByEpoch ops
  pub each_taken : (o : Op) → Mem o ops → IsTakenIn ps l o
  pub document : (o : Op) → Mem o ops → document_of o.key ≡ k
  pub in_order : (e : ℕ) → IsInProducerOrder (accepted_in ps e) (filter (is_in e) ops)

same-append : (xs ys : List Op) (us vs : List Write) → SameActions xs us → SameActions ys vs → SameActions (xs ++ ys) (us ++ vs)
same-append [] ys [] vs a b = b
same-append [] ys (u ∷ us) vs a b = absurd a
same-append (x ∷ xs) ys [] vs a b = absurd a
same-append (x ∷ xs) ys (u ∷ us) vs a b = (a.0, same-append xs ys us vs a.1 b)

distinct-append : (xs ys : List OpName) → AllDistinct xs → AllDistinct ys → ((n : OpName) → Mem n xs → Mem n ys → ⊥) → AllDistinct (xs ++ ys)
distinct-append [] ys a b never = b
distinct-append (x ∷ xs) ys a b never = (
  (λ m. ⊎_elim {C = ⊥} (λ l. a.0 l) (λ r. never x (inl refl) r) (Mem-cases x xs ys m)),
  distinct-append xs ys a.1 b (λ n l r. never n (inr l) r),
)

epochs-append : (xs ys : List Op) → AreByEpoch xs → AreByEpoch ys → ((x y : Op) → Mem x xs → Mem y ys → x.epoch ≤ y.epoch) → AreByEpoch (xs ++ ys)
epochs-append [] ys a b le = b
epochs-append (x ∷ xs) ys a b le = (
  (λ p m. ⊎_elim {C = x.epoch ≤ p.epoch} (λ l. a.0 p l) (λ r. le x p (inl refl) r) (Mem-cases p xs ys m)),
  epochs-append xs ys a.1 b (λ u v mu mv. le u v (inr mu) mv),
)

one_epoch : (e : ℕ) (xs : List Op) → ((x : Op) → Mem x xs → x.epoch ≡ e) → AreByEpoch xs
one_epoch e [] h = tt
one_epoch e (x ∷ xs) h = (
  (λ p m. let a = h x (inl refl) in let b = h p (inr m) in omega (arith, a, b)),
  one_epoch e xs (λ y m. h y (inr m)),
)

-- all are of the epoch, or none is
filter_all : (e : ℕ) (xs : List Op) → ((x : Op) → Mem x xs → x.epoch ≡ e) → filter (is_in e) xs ≡ xs
filter_all e [] h = refl
filter_all e (x ∷ xs) h =
    ap (λ b. if b then x ∷ filter (is_in e) xs else filter (is_in e) xs) (equal_test x.epoch e (h x (inl refl)))
    ∙ ap (λ ys. x ∷ ys) (filter_all e xs (λ y m. h y (inr m)))

filter_none : (e : ℕ) (xs : List Op) → ((x : Op) → Mem x xs → x.epoch ≡ e → ⊥) → filter (is_in e) xs ≡ []
filter_none e [] h = refl
filter_none e (x ∷ xs) h =
    let no : (x.epoch == e) ≡ false = ⊎_elim (λ t. absurd (h x (inl refl) (equal x.epoch e t))) (λ n. n) (true_or_false (x.epoch == e)) in
    ap (λ b. if b then x ∷ filter (is_in e) xs else filter (is_in e) xs) no ∙ filter_none e xs (λ y m. h y (inr m))

module _ (lane_of : Document → ℕ) (l : ℕ) (k : Document) where
  -- of an operation of a later incarnation the epoch is higher
  later_epoch : (p : Incarnation) (ps : List Incarnation) → ((q : Incarnation) → Mem q (p ∷ ps) → IncarnationFacts lane_of q) → ((q : Incarnation) → Mem q ps → IsAbove p.config q.config) → (o : Op) → IsTakenIn ps l o → p.config.epoch < o.epoch
  later_epoch p ps facts up o t =
      let f = facts t.which (inr t.among) in
      let a = (f.was_accepted l o t.taken).0 in
      let e = f.epoch o.producer o a in
      let u = (up t.which t.among).epoch in omega (arith, e, u)

  -- the part of the first incarnation, before what is of the others
  module _ (p : Incarnation) (ps : List Incarnation) (up : (q : Incarnation) → Mem q ps → IsAbove p.config q.config) (facts : (q : Incarnation) → Mem q (p ∷ ps) → IncarnationFacts lane_of q)
      (front rest : List Write) (rising : IsRising front) (one : (w : Write) → Mem w front → IsOfOne p.config (p.taken l) w) (doc : (w : Write) → Mem w front → document_of w.key ≡ k)
      (more : List Op) (parts_more : AreParts lane_of ps l k rest more) where
    own : List Op
    own = ops_of p.config.first (p.taken l) front

    its : IncarnationFacts lane_of p
    its = facts p (inl refl)

    own_sub : IsSubsequence own (p.taken l)
    unfolding own
    own_sub = ops-in_order p.config (p.taken l) front rising one

    own_taken : (o : Op) → Mem o own → Mem o (p.taken l)
    own_taken o m = Mem-sub o own (p.taken l) own_sub m

    own_epoch : (o : Op) → Mem o own → o.epoch ≡ p.config.epoch
    own_epoch o m = its.epoch o.producer o (its.was_accepted l o (own_taken o m)).0

    more_epoch : (o : Op) → Mem o more → p.config.epoch < o.epoch
    more_epoch o m = later_epoch p ps facts up o (parts_more.each_taken o m)

    apart : (n : OpName) → Mem n (map name_of own) → Mem n (map name_of more) → ⊥
    apart n a b =
        let x = Mem-map name_of n own a in
        let y = Mem-map name_of n more b in
        let e : x.0.epoch ≡ y.0.epoch = ap (λ (z : OpName). z.epoch) (sym x.2 ∙ y.2) in
        let u = own_epoch x.0 x.1 in
        let v = more_epoch y.0 y.1 in omega (arith, e, u, v)

    own_document : (o : Op) → Mem o own → document_of o.key ≡ k
    unfolding own
    own_document o m =
        let w = op-of p.config (p.taken l) front one o m in
        ap (λ (x : Op). document_of x.key) w.2.1 ∙ sym (ap (λ (x : Write). document_of x.key) w.2.0.write) ∙ doc w.0 w.1

    -- by whether it is this one's epoch
    order_by : (e q : ℕ) (b : Bool) → (p.config.epoch == e) ≡ b → IsSubsequence (filter (is_from q) (filter (is_in e) own ++ filter (is_in e) more)) (if b then p.accepted q else accepted_in ps e q)
    order_by e q true t =
        let same = equal p.config.epoch e t in
        let all = filter_all e own (λ x m. own_epoch x m ∙ same) in
        let none = filter_none e more (λ x m n. let lt = more_epoch x m in omega (arith, lt, n, same)) in
        let is : filter (is_in e) own ++ filter (is_in e) more ≡ own = (λ i. all i ++ none i) ∙ append-nil own in
        subst (λ os. IsSubsequence (filter (is_from q) os) (p.accepted q)) (sym is)
        (sub_joined (filter (is_from q) own) (filter (is_from q) (p.taken l)) (p.accepted q) (sub-filter (is_from q) own (p.taken l) own_sub) (its.order l q))
    order_by e q false t =
        let none = filter_none e own (λ x m n. let t' = equal_test p.config.epoch e (sym (own_epoch x m) ∙ n) in cc (t', t)) in
        subst (λ os. IsSubsequence (filter (is_from q) (os ++ filter (is_in e) more)) (accepted_in ps e q)) (sym none) (parts_more.in_order e q)

    joined : AreParts lane_of (p ∷ ps) l k (front ++ rest) (own ++ more)
    unfolding own
    joined = record {
      actions = same-append own more front rest (ops-same p.config (p.taken l) front one) parts_more.actions;
      distinct = subst AllDistinct (sym (map-append name_of own more))
          (distinct-append (map name_of own) (map name_of more) (AllDistinct-sub (map name_of own) (map name_of (p.taken l)) (its.distinct l) (sub-map name_of own (p.taken l) own_sub)) parts_more.distinct apart);
      by_epoch = epochs-append own more (one_epoch p.config.epoch own own_epoch) parts_more.by_epoch (λ x y mx my. let a = own_epoch x mx in let b = more_epoch y my in omega (arith, a, b));
      each_taken = λ o m. ⊎_elim
          (λ a. record { which = p; among = inl refl; taken = own_taken o a })
          (λ b. let t = parts_more.each_taken o b in record { which = t.which; among = inr t.among; taken = t.taken })
          (Mem-cases o own more m);
      document = λ o m. ⊎_elim {C = document_of o.key ≡ k} (λ a. own_document o a) (λ b. parts_more.document o b) (Mem-cases o own more m);
      in_order = λ e q. subst (λ os. IsSubsequence (filter (is_from q) os) (accepted_in (p ∷ ps) e q)) (sym (filter-append (is_in e) own more)) (order_by e q (p.config.epoch == e) refl);
    }

  pub parts : (ps : List Incarnation) (top : Config) → AreAbove ps top → ((p : Incarnation) → Mem p ps → IncarnationFacts lane_of p) → (ws : List Write) → IsRising ws → ((w : Write) → Mem w ws → IsOfThese ps l w) → ((w : Write) → Mem w ws → document_of w.key ≡ k)
      → AreParts lane_of ps l k ws (ops_over ps l ws)
  unfolding own
  parts [] top up facts [] r each doc = record { actions = tt; distinct = tt; by_epoch = tt; each_taken = λ o m. absurd m; document = λ o m. absurd m; in_order = λ e p. tt }
  parts [] top up facts (w ∷ ws) r each doc = absurd ((each w (inl refl)).among)
  parts (p ∷ ps) top up facts ws r each doc =
      let c = cut p ps l up.1 ws r each in
      let here : (w : Write) → Mem w c.front → Mem w ws = λ w m. subst (λ xs. Mem w xs) (sym c.joined) (Mem-left w c.front c.rest m) in
      let there : (w : Write) → Mem w c.rest → Mem w ws = λ w m. subst (λ xs. Mem w xs) (sym c.joined) (Mem-right w c.front c.rest m) in
      let more = parts ps top up.2 (λ q m. facts q (inr m)) c.rest c.rising_rest c.of_rest (λ w m. doc w (there w m)) in
      let e : ops_over (p ∷ ps) l ws ≡ ops_of p.config.first (p.taken l) c.front ++ ops_over ps l c.rest =
      ap (ops_over (p ∷ ps) l) c.joined ∙ ops_over-append (p ∷ ps) l c.front c.rest ∙ (λ i. ops_first p ps l c.front c.of_first i ++ ops_rest p ps l c.rest up.1 c.of_rest i) in
      subst (λ os. AreParts lane_of (p ∷ ps) l k ws os) (sym e) (subst (λ xs. AreParts lane_of (p ∷ ps) l k xs (ops_of p.config.first (p.taken l) c.front ++ ops_over ps l c.rest)) (sym c.joined)
      (joined p ps up.1 facts c.front c.rest c.rising_front c.of_first (λ w m. doc w (here w m)) (ops_over ps l c.rest) more))
