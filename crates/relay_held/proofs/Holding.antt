-- What each change makes of what is held.
use Rattle.std.proofs.Common.{◌≡◌, ℕ, ◌+◌, ◌-◌, ◌≤◌, List, [], ◌∷◌, ◌++◌, length, length-append, Some, None, Bool, true, false, refl, sym, ap, ◌∙◌, subst, ⊎_elim, arith, drop}
use Rattle.std.specs.Prelude.{if◌then◌else◌, filter, slice_get}
use Rattle.std.specs.List.{IsDistinct}
use Rattle.std.specs.Map.{keys_of}
use Rattle.relay_action.specs.declared.key.DocKey.{DocKey}
use Rattle.relay_action.specs.declared.write.Write.{Write}
use Rattle.relay_results.proofs.Lists.{true_or_false, none_some}
use Rattle.relay_held.specs.declared.kept.Kept.{Kept}
use Rattle.relay_held.specs.Operations.{launch_one, back_at, halved_at}
use Rattle.relay_held.specs.Queues.{AllUnder, same_key, is_of, first_of, with_first, without_first, on_first, merge_of, queue_of, AllWait, OnlyFirstsFly, IsHolding, Changes}
use Rattle.relay_held.proofs.Changing.{Keeps, push_merges, with_merges, without_merges, holds_of, first_is, filter_push, filter_with_same, filter_with_apart, filter_without_same, filter_without_apart}

pub launch_keeps : (clock number place : ℕ) → Keeps (launch_one clock number place)
launch_keeps clock number place = record { version = λ h. refl; key = λ h. refl }

pub back_keeps : (due : ℕ) (w : Write) → Keeps (back_at due w)
back_keeps due w = record { version = λ h. refl; key = λ h. refl }

pub halved_keeps : (due c : ℕ) (w : Write) → Keeps (halved_at due c w)
halved_keeps due c w = record { version = λ h. refl; key = λ h. refl }

length_with : (k : DocKey) (f : Kept → Kept) (hs : List Kept) → length (with_first k f hs) ≡ length hs
length_with k f [] = refl
length_with k f (h ∷ hs) = ⊎_elim {C = length (with_first k f (h ∷ hs)) ≡ length (h ∷ hs)}
    (λ t. rw t refl)
    (λ g. rw g (let ih = length_with k f hs in omega (arith, ih)))
    (true_or_false (is_of k h))

pub length_without : (k : DocKey) (hs : List Kept) (x : Kept) → first_of k hs ≡ Some x → length (without_first k hs) + 1 ≡ length hs
length_without k [] x e = absurd (cc)
length_without k (h ∷ hs) x e = ⊎_elim {C = length (without_first k (h ∷ hs)) + 1 ≡ length (h ∷ hs)}
    (λ t. rw t (omega arith))
    (λ g. rw g (let ih = length_without k hs x (sym (ap (λ b. if b then Some h else first_of k hs) g) ∙ e) in omega (arith, ih)))
    (true_or_false (is_of k h))

pub without_none : (k : DocKey) (hs : List Kept) → first_of k hs ≡ None → without_first k hs ≡ hs
without_none k [] e = refl
without_none k (h ∷ hs) e = ⊎_elim {C = without_first k (h ∷ hs) ≡ h ∷ hs}
    (λ t. absurd (none_some h (sym e ∙ ap (λ b. if b then Some h else first_of k hs) t)))
    (λ g. rw g (ap (λ ys. h ∷ ys) (without_none k hs (sym (ap (λ b. if b then Some h else first_of k hs) g) ∙ e))))
    (true_or_false (is_of k h))

-- ---- everything after the first waits

drop_on_first : (f : Kept → Kept) (q : List Kept) → drop 1 (on_first f q) ≡ drop 1 q
drop_on_first f [] = refl
drop_on_first f (h ∷ hs) = refl

with_behind : (k0 : DocKey) (f : Kept → Kept) (hs : List Kept) → Keeps f → OnlyFirstsFly hs → OnlyFirstsFly (with_first k0 f hs)
with_behind k0 f hs p o = λ k. ⊎_elim {C = AllWait (drop 1 (filter (is_of k) (with_first k0 f hs)))}
    (λ t. subst AllWait (sym (ap (drop 1) (filter_with_same k0 k f hs p t) ∙ drop_on_first f (filter (is_of k) hs))) (o k))
    (λ g. subst AllWait (sym (ap (drop 1) (filter_with_apart k0 k f hs p g))) (o k))
    (true_or_false (same_key k0 k))

wait_push : (q : List Kept) (b : Bool) (x : Kept) → x.flies ≡ None → AllWait (drop 1 q) → AllWait (drop 1 (q ++ (if b then x ∷ [] else [])))
wait_push [] true x w a = tt
wait_push [] false x w a = tt
wait_push (h ∷ hs) b x w a = more hs b a
  where
    more : (ys : List Kept) (c : Bool) → AllWait ys → AllWait (ys ++ (if c then x ∷ [] else []))
    more [] true a = (w, tt)
    more [] false a = tt
    more (y ∷ ys) c a = (a.0, more ys c a.1)

push_behind : (hs : List Kept) (x : Kept) → x.flies ≡ None → OnlyFirstsFly hs → OnlyFirstsFly (hs ++ x ∷ [])
push_behind hs x w o = λ k. subst (λ q. AllWait (drop 1 q)) (sym (filter_push (is_of k) hs x)) (wait_push (filter (is_of k) hs) (is_of k x) x w (o k))

wait_drop : (q : List Kept) → AllWait q → AllWait (drop 1 q)
wait_drop [] a = tt
wait_drop (h ∷ hs) a = a.1

without_behind : (k0 : DocKey) (hs : List Kept) → OnlyFirstsFly hs → OnlyFirstsFly (without_first k0 hs)
without_behind k0 hs o = λ k. ⊎_elim {C = AllWait (drop 1 (filter (is_of k) (without_first k0 hs)))}
    (λ t. subst (λ q. AllWait (drop 1 q)) (sym (filter_without_same k0 k hs t)) (wait_drop (drop 1 (filter (is_of k) hs)) (o k)))
    (λ g. subst (λ q. AllWait (drop 1 q)) (sym (filter_without_apart k0 k hs g)) (o k))
    (true_or_false (same_key k0 k))

-- what is held afterwards, and how many
pub record Becomes (fs : List (DocKey × List Kept)) (n : ℕ) (hs : List Kept) : Type 0 where
  pub holding : IsHolding fs n
  pub list : merge_of fs ≡ hs

pub with_becomes : (es fs : List (DocKey × List Kept)) (n : ℕ) (k : DocKey) (f : Kept → Kept) → Keeps f → IsHolding es n → IsDistinct same_key (keys_of fs)
    → Changes es fs k (on_first f (queue_of es k)) → Becomes fs n (with_first k f (merge_of es))
with_becomes es fs n k f p a d c =
    let h = holds_of fs (with_first k f (merge_of es)) d (with_merges es fs (merge_of es) k f p a.merge c) in
    record { holding = record { merge = h.merge; counted = a.counted ∙ sym (ap length h.list ∙ length_with k f (merge_of es)); behind = subst OnlyFirstsFly (sym h.list) (with_behind k f (merge_of es) p a.behind) }; list = h.list }

pub push_becomes : (es fs : List (DocKey × List Kept)) (n : ℕ) (x : Kept) → IsHolding es n → IsDistinct same_key (keys_of fs) → AllUnder x.version (merge_of es) → x.flies ≡ None
    → Changes es fs x.key (queue_of es x.key ++ x ∷ []) → Becomes fs (n + 1) (merge_of es ++ x ∷ [])
push_becomes es fs n x a d u w c =
    let h = holds_of fs (merge_of es ++ x ∷ []) d (push_merges es fs (merge_of es) x a.merge u c) in
    record { holding = record { merge = h.merge; counted = ap (λ m. m + 1) a.counted ∙ sym (ap length h.list ∙ length-append (merge_of es) (x ∷ [])); behind = subst OnlyFirstsFly (sym h.list) (push_behind (merge_of es) x w a.behind) }; list = h.list }

pub first_here : (es : List (DocKey × List Kept)) (n : ℕ) (k : DocKey) → IsHolding es n → slice_get (queue_of es k) 0 ≡ first_of k (merge_of es)
first_here es n k a = ap (λ q. slice_get q 0) (a.merge.queues k) ∙ sym (first_is k (merge_of es))

pub take_becomes : (es fs : List (DocKey × List Kept)) (n : ℕ) (k : DocKey) (x : Kept) → IsHolding es n → IsDistinct same_key (keys_of fs)
    → Changes es fs k (drop 1 (queue_of es k)) → slice_get (queue_of es k) 0 ≡ Some x → Becomes fs (n - 1) (without_first k (merge_of es))
take_becomes es fs n k x a d c e =
    let h = holds_of fs (without_first k (merge_of es)) d (without_merges es fs (merge_of es) k a.merge c) in
    let l = length_without k (merge_of es) x (sym (first_here es n k a) ∙ e) in
    let m = ap length h.list in
    record { holding = record { merge = h.merge; counted = let g = a.counted in omega (arith, l, m, g); behind = subst OnlyFirstsFly (sym h.list) (without_behind k (merge_of es) a.behind) }; list = h.list }

pub none_becomes : (es fs : List (DocKey × List Kept)) (n : ℕ) (k : DocKey) → IsHolding es n → IsDistinct same_key (keys_of fs)
    → Changes es fs k (drop 1 (queue_of es k)) → slice_get (queue_of es k) 0 ≡ None → Becomes fs n (without_first k (merge_of es))
none_becomes es fs n k a d c e =
    let h = holds_of fs (without_first k (merge_of es)) d (without_merges es fs (merge_of es) k a.merge c) in
    record { holding = record { merge = h.merge; counted = a.counted ∙ sym (ap length (h.list ∙ without_none k (merge_of es) (sym (first_here es n k a) ∙ e))); behind = subst OnlyFirstsFly (sym h.list) (without_behind k (merge_of es) a.behind) }; list = h.list }

pub some_held : (es : List (DocKey × List Kept)) (n : ℕ) (k : DocKey) (x : Kept) → IsHolding es n → slice_get (queue_of es k) 0 ≡ Some x → 1 ≤ n
some_held es n k x a e = let l = length_without k (merge_of es) x (sym (first_here es n k a) ∙ e) in let g = a.counted in omega (arith, l, g)
