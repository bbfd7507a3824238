-- What sent requests carry: the writes of their items' operations, which stay as lanes take more.
use Rattle.std.proofs.Common.{◌≡◌, ℕ, zero, suc, ◌-◌, List, [], ◌∷◌, ◌++◌, Option, Some, None, Bool, true, false, refl, sym, ap, ◌∙◌, ⊎_elim, inl, inr}
use Rattle.std.specs.Prelude.{slice_get, option_map, option_to_list, unwrap_or, map, ◌⊎◌, if◌then◌else◌}
use Rattle.relay_action.specs.declared.operation.Op.{Op}
use Rattle.relay_action.specs.declared.write.Write.{Write}
use Rattle.relay_results.specs.Words.{Mem, update}
use Rattle.relay_results.specs.Documents.{write_for}
use Rattle.relay_results.specs.Outside.{Answer}
use Rattle.relay_results.proofs.Lists.{at-left, at-Mem, Mem-at, at-update-cases, some_same}
use Rattle.relay_core.specs.declared.config.RelayConfig.{RelayConfig}
use Rattle.relay_delivery.specs.Machine.{first_in}
use Rattle.relay_delivery.specs.Incarnations.{op_dealt}
use Rattle.relay_world.specs.State.{Desk, Item, Sent, Past, World, desk_at, running, incarnations, incarnation, is_version_in, op_among, op_with, writes_from, writes_of, taken_of}
use Rattle.relay_world.specs.Changes.{after_restart}
use Rattle.relay_world.specs.Headline.{request_of}
use Rattle.relay_world.specs.Ties.{versions_of}

-- ---- the writes of operations, by the versions that they were assigned

abbrev pub writes_by : (ℕ → Option Op) → List ℕ → List Write
writes_by f [] = []
writes_by f (v ∷ vs) = option_to_list (option_map (λ o. write_for o v) (f v)) ++ writes_by f vs

-- each version has an operation
abbrev pub AllFound : (ℕ → Option Op) → List ℕ → Type 0
AllFound f vs = (v : ℕ) → Mem v vs → (o : Op) × (f v ≡ Some o)

found_head : (f : ℕ → Option Op) (v : ℕ) (vs : List ℕ) (o : Op) → f v ≡ Some o → writes_by f (v ∷ vs) ≡ write_for o v ∷ writes_by f vs
found_head f v vs o e = ap (λ x. option_to_list (option_map (λ p. write_for p v) x) ++ writes_by f vs) e

pub writes_by_same : (f g : ℕ → Option Op) (vs : List ℕ) → ((v : ℕ) → Mem v vs → g v ≡ f v) → writes_by g vs ≡ writes_by f vs
writes_by_same f g [] same = refl
writes_by_same f g (v ∷ vs) same =
    let rest = writes_by_same f g vs (λ u m. same u (inr m)) in
    λ i. option_to_list (option_map (λ o. write_for o v) (same v (inl refl) i)) ++ rest i

pub writes_by_at : (f : ℕ → Option Op) (vs : List ℕ) → AllFound f vs → (n v : ℕ) (o : Op) → slice_get vs n ≡ Some v → f v ≡ Some o → slice_get (writes_by f vs) n ≡ Some (write_for o v)
writes_by_at f [] found n v o at e = absurd (cc)
writes_by_at f (u ∷ vs) found zero v o at e =
    let same : u ≡ v = some_same u v at in
    ap (λ ws. slice_get ws 0) (found_head f u vs o (ap f same ∙ e)) ∙ ap (λ x. Some (write_for o x)) same
writes_by_at f (u ∷ vs) found (suc n) v o at e =
    let p = found u (inl refl) in
    ap (λ ws. slice_get ws (suc n)) (found_head f u vs p.0 p.1) ∙ writes_by_at f vs (λ x m. found x (inr m)) n v o at e

writes_by_from : (f : ℕ → Option Op) (is : List Item) → writes_from (λ i. option_map (λ o. write_for o i.version) (f i.version)) is ≡ writes_by f (map (λ (i : Item). i.version) is)
writes_by_from f [] = refl
writes_by_from f (i ∷ is) = ap (λ ws. option_to_list (option_map (λ o. write_for o i.version) (f i.version)) ++ ws) (writes_by_from f is)

pub writes_are : (w : World) (s : Sent) → writes_of w s ≡ writes_by (op_with w s.lane) (versions_of s)
writes_are w s = writes_by_from (op_with w s.lane) s.items

-- ---- as lanes take more

-- what a lane took in an incarnation
abbrev pub took : Past → ℕ → List Op
took p l = unwrap_or (slice_get p.taken l) []

pub taken_at : (ds : List Desk) (l : ℕ) → unwrap_or (slice_get (map (λ (d : Desk). d.taken) ds) l) [] ≡ taken_of (slice_get ds l)
taken_at [] l = refl
taken_at (d ∷ ds) zero = refl
taken_at (d ∷ ds) (suc l) = taken_at ds l

-- if an incarnation is replaced by one of the same epoch that took more, that one has the
-- operations of its versions
op_more : (deal : ℕ) (is : List Past) (p q : Past) (l v : ℕ) (o : Op) (more : List Op) → q.epoch ≡ p.epoch → took q l ≡ took p l ++ more → op_among deal (is ++ p ∷ []) l v ≡ Some o → op_among deal (is ++ q ∷ []) l v ≡ Some o
op_more deal [] p q l v o more same taken e =
    ap (λ n. if is_version_in deal n v then slice_get (took q l) (v - first_in n) else None) same ∙ by (is_version_in deal p.epoch v) e
  where
    by : (b : Bool) → (if b then slice_get (took p l) (v - first_in p.epoch) else None) ≡ Some o → (if b then slice_get (took q l) (v - first_in p.epoch) else None) ≡ Some o
    by true x = ap (λ os. slice_get os (v - first_in p.epoch)) taken ∙ at-left (took p l) more (v - first_in p.epoch) o x
    by false x = absurd (cc)
op_more deal (i ∷ is) p q l v o more same taken e = by (op_more deal is p q l v o more same taken) (is_version_in deal i.epoch v) e
  where
    by : (op_among deal (is ++ p ∷ []) l v ≡ Some o → op_among deal (is ++ q ∷ []) l v ≡ Some o) → (b : Bool) → (if b then slice_get (took i l) (v - first_in i.epoch) else op_among deal (is ++ p ∷ []) l v) ≡ Some o
        → (if b then slice_get (took i l) (v - first_in i.epoch) else op_among deal (is ++ q ∷ []) l v) ≡ Some o
    by again true x = x
    by again false x = again x

-- and so does a list to which an incarnation is added
pub op_push : (deal : ℕ) (is : List Past) (j : Past) (l v : ℕ) (o : Op) → op_among deal is l v ≡ Some o → op_among deal (is ++ j ∷ []) l v ≡ Some o
op_push deal [] j l v o e = absurd (cc)
op_push deal (i ∷ is) j l v o e = by (op_push deal is j l v o) (is_version_in deal i.epoch v) e
  where
    by : (op_among deal is l v ≡ Some o → op_among deal (is ++ j ∷ []) l v ≡ Some o) → (b : Bool) → (if b then slice_get (took i l) (v - first_in i.epoch) else op_among deal is l v) ≡ Some o
        → (if b then slice_get (took i l) (v - first_in i.epoch) else op_among deal (is ++ j ∷ []) l v) ≡ Some o
    by again true x = x
    by again false x = again x

-- ---- delivery has the same of a version

pub dealt_among : (c : RelayConfig) (ps : List Past) (l v : ℕ) → op_dealt (map (incarnation c) ps) l v ≡ option_to_list (op_among c.deal ps l v)
dealt_among c [] l v = refl
dealt_among c (p ∷ ps) l v = by (dealt_among c ps l v) (is_version_in c.deal p.epoch v)
  where
    by : op_dealt (map (incarnation c) ps) l v ≡ option_to_list (op_among c.deal ps l v) → (b : Bool)
        → (if b then option_to_list (slice_get (took p l) (v - first_in p.epoch)) else op_dealt (map (incarnation c) ps) l v) ≡ option_to_list (if b then slice_get (took p l) (v - first_in p.epoch) else op_among c.deal ps l v)
    by again true = refl
    by again false = again

pub one_listed : (x : Option Op) (o : Op) → option_to_list x ≡ o ∷ [] → x ≡ Some o
one_listed None o e = absurd (cc)
one_listed (Some p) o e = cc

-- what a version had it has
abbrev pub Keeps : World → World → Type 0
Keeps w new = (l v : ℕ) (o : Op) → op_with w l v ≡ Some o → op_with new l v ≡ Some o

-- each lane has taken what it had taken, and possibly more
abbrev pub TakesMore : World → World → Type 0
TakesMore w new = (l : ℕ) → (os : List Op) × (taken_of (desk_at new l) ≡ taken_of (desk_at w l) ++ os)

pub keeps : (w new : World) → new.config ≡ w.config → new.ended ≡ w.ended → TakesMore w new → Keeps w new
keeps w new config ended more l v o e =
    (λ i. op_among (config i).deal (ended i ++ running new ∷ []) l v)
    ∙ op_more w.config.deal w.ended (running w) (running new) l v o (more l).0 (ap (λ (c : RelayConfig). c.epoch) config)
    (taken_at new.desks l ∙ (more l).1 ∙ ap (λ os. os ++ (more l).0) (sym (taken_at w.desks l))) e

-- what was assigned before a restart
pub keeps_restart : (w : World) (epoch : ℕ) → Keeps w (after_restart w epoch)
keeps_restart w epoch l v o e = op_push w.config.deal (incarnations w) (running (after_restart w epoch)) l v o e

pub found_kept : (w new : World) → Keeps w new → (l : ℕ) (vs : List ℕ) → AllFound (op_with w l) vs → AllFound (op_with new l) vs
found_kept w new k l vs found v m = let p = found v m in (p.0, k l v p.0 p.1)

-- a request with the same versions, answered like this, carries the same writes
pub request_kept : (w new : World) (s z : Sent) (a : Answer) → Keeps w new → AllFound (op_with w s.lane) (versions_of s) → z.lane ≡ s.lane → versions_of z ≡ versions_of s → z.answer ≡ a
    → request_of new z ≡ record { writes = writes_of w s; answer = a }
request_kept w new s z a k found lane versions answer =
    let kept = writes_by_same (op_with w s.lane) (op_with new s.lane) (versions_of s) (λ v m. let p = found v m in k s.lane v p.0 p.1 ∙ sym p.1) in
    let is = writes_are new z ∙ (λ i. writes_by (op_with new (lane i)) (versions i)) ∙ kept ∙ sym (writes_are w s) in
    λ i. record { writes = is i; answer = answer i }

-- ---- lists of requests

pub map-kept : {A B : Type 0} (f g : A → B) (xs : List A) → ((x : A) → Mem x xs → f x ≡ g x) → map f xs ≡ map g xs
map-kept f g [] same = refl
map-kept f g (x ∷ xs) same = let rest = map-kept f g xs (λ y m. same y (inr m)) in λ i. same x (inl refl) i ∷ rest i

-- one of them changed, and what the other function returns changed likewise
pub map-update : {A B : Type 0} (f g : A → B) (h : A → A) (q : B → B) (n : ℕ) (xs : List A) → ((x : A) → Mem x xs → f x ≡ g x) → ((x : A) → Mem x xs → f (h x) ≡ q (g x)) → map f (update n h xs) ≡ update n q (map g xs)
map-update f g h q n [] same here = refl
map-update f g h q zero (x ∷ xs) same here = let rest = map-kept f g xs (λ y m. same y (inr m)) in λ i. here x (inl refl) i ∷ rest i
map-update f g h q (suc n) (x ∷ xs) same here = let rest = map-update f g h q n xs (λ y m. same y (inr m)) (λ y m. here y (inr m)) in λ i. same x (inl refl) i ∷ rest i

-- one of them changed, and what the function returns did not
pub map-unmoved : {A B : Type 0} (f g : A → B) (h : A → A) (n : ℕ) (xs : List A) → ((x : A) → Mem x xs → f x ≡ g x) → ((x : A) → Mem x xs → f (h x) ≡ g x) → map f (update n h xs) ≡ map g xs
map-unmoved f g h n [] same here = refl
map-unmoved f g h zero (x ∷ xs) same here = let rest = map-kept f g xs (λ y m. same y (inr m)) in λ i. here x (inl refl) i ∷ rest i
map-unmoved f g h (suc n) (x ∷ xs) same here = let rest = map-unmoved f g h n xs (λ y m. same y (inr m)) (λ y m. here y (inr m)) in λ i. same x (inl refl) i ∷ rest i

-- an element of a list in which one was changed is an old one, or the changed one
pub Mem-update : {A : Type 0} (n : ℕ) (h : A → A) (xs : List A) (y : A) → Mem y (update n h xs) → Mem y xs ⊎ ((x : A) × Mem x xs × (y ≡ h x))
Mem-update n h xs y m =
    let p = Mem-at y (update n h xs) m in
    ⊎_elim
    (λ l. inl (at-Mem xs p.0 y l.1))
    (λ r. inr (r.1.0, at-Mem xs n r.1.0 r.1.1, r.1.2))
    (at-update-cases n h xs p.0 y p.1)
