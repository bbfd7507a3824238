-- A stream's front has one operation, and none if a read failed.
use Rattle.std.proofs.Common.{◌≡◌, ◌≢◌, ℕ, zero, suc, ◌+◌, ◌-◌, ◌<◌, ◌≤◌, List, [], ◌∷◌, ◌++◌, length, Option, Some, refl, ap, sym, ◌∙◌, subst, arith, inl, inr, append_assoc, length-append, append-nil}
use Rattle.std.specs.Io.KnownBytes.{prepend_known}
use Rattle.relay_action.specs.declared.key.DocKey.{DocKey}
use Rattle.relay_action.specs.declared.action.Action.{Action}
use Rattle.relay_action.specs.declared.action.Action.TheVariants.{Index, Delete}
use Rattle.relay_action.specs.declared.action.ActionKind.{ActionKind}
use Rattle.relay_action.specs.declared.action.ActionKind.TheVariants as action
use Rattle.relay_action.proofs.Actions.{one_kind}
use Rattle.serde_json.specs.Data.{object, Members}
use Rattle.relay_ndjson.specs.Metadata.{IsDocument, Says}
use Rattle.relay_ndjson.specs.Lines.{IsUnbroken, IsLineBefore, TakesText, TakesBlank, is_read}
use Rattle.relay_ndjson.specs.Operations.{Operation, blank_limit, TakesAction, TakesOperation, TakesBeginning}
use Rattle.relay_action.specs.Actions.{kind_name}
use Rattle.relay_ndjson.specs.Laws.{OneOperation, HoldsOperation, NoOperationAtRead}
use Rattle.relay_ndjson.proofs.Deciding.{one_name}
use Rattle.relay_ndjson.proofs.Fronts.{Shows, shown_rest, shows_on, one_text, some_same, nil_of, prefix, rejoined, no_text_at_end}
use Rattle.relay_ndjson.proofs.Exclusion.{Stops, Compared, shows_behind, compare_blank, stopped, front_of, says_stops}
use Rattle.relay_action.proofs.SameWrites.{same_key, same_source}
use Rattle.relay_ndjson.proofs.Totality.{decide_le}
use Rattle.relay_ndjson.proofs.Versioning.{same_object}

-- ---- a text asks for one thing

equal_some : {A : Type 0} (x y : A) → Some x ≡ Some y → x ≡ y
equal_some x y e = cc

says_one : (default : Option (List ℕ)) (text : List ℕ) (a b : ActionKind) (index id other name : List ℕ) → Says default text a index id → Says default text b other name → (a ≡ b) × (index ≡ other) × (id ≡ name)
says_one default text a b index id other name s t =
    let d : s.1 ≡ t.1 = equal_some s.1 t.1 (sym s.2 ∙ t.2) in
    let o = same_object (kind_name a) (kind_name b) s.3.0 t.3.0 (sym s.3.1 ∙ (d ∙ t.3.1)) in
    let v = subst (λ (ms : Members). IsDocument default (object ms) index id) o.1 s.3.2 in
    let w = t.3.2 in
    (one_kind a b o.0, equal_some index other (sym v.1 ∙ w.1), equal_some id name (sym v.2 ∙ w.2))

-- ---- the action at the front is one

text_from : (old mid new : Option (List ℕ)) (text : List ℕ) → old ≡ mid → TakesText old new text → TakesText mid new text
text_from old mid new text e t = subst (λ (o : Option (List ℕ)). TakesText o new text) e t

one_action : (default mid new other : Option (List ℕ)) (k l : DocKey) (a b : Action) → Shows mid → TakesAction default mid new k a → TakesAction default mid other l b → (new ≡ other) × (k ≡ l) × (a ≡ b)
one_action default mid new other k l Delete Delete s t u =
    let e = one_text mid new other t.0 u.0 s t.1 u.1 in
    let says = says_one default u.0 action.Delete action.Delete k.index k.id l.index l.id (subst (λ (x : List ℕ). Says default x action.Delete k.index k.id) e.1 t.2) u.2 in
    (e.0, same_key k l says.1 says.2, refl)
one_action default mid new other k l (Index x) Delete s t u =
    let e = one_text mid t.1 other t.0 u.0 s t.2 u.1 in
    absurd (one_name default u.0 k.index k.id l.index l.id (subst (λ (x : List ℕ). Says default x action.Index k.index k.id) e.1 t.3) u.2)
one_action default mid new other k l Delete (Index y) s t u =
    let e = one_text mid new u.1 t.0 u.0 s t.1 u.2 in
    absurd (one_name default t.0 l.index l.id k.index k.id (subst (λ (x : List ℕ). Says default x action.Index l.index l.id) (sym e.1) u.3) t.2)
one_action default mid new other k l (Index x) (Index y) s t u =
    let e = one_text mid t.1 u.1 t.0 u.0 s t.2 u.2 in
    let says = says_one default u.0 action.Index action.Index k.index k.id l.index l.id (subst (λ (x : List ℕ). Says default x action.Index k.index k.id) e.1 t.3) u.3 in
    let r = one_text u.1 new other x.text y.text (shows_on mid u.1 u.0 s u.2) (text_from t.1 u.1 new x.text e.0 t.4) u.4 in
    (r.0, same_key k l says.1 says.2, ap Index (same_source x y r.1))

pub one_operation : OneOperation
one_operation default new other bytes n m op next t u =
    let s = shows_behind n (Some bytes) t.0 (bytes, refl) t.2 in
    let r = shows_behind m (Some bytes) u.0 (bytes, refl) u.2 in
    let same = stopped n m t.0 u.0 t.1 u.1 (says_stops default t.0 n s (front_of default t.0 new op.0 op.1 t.3)) (says_stops default u.0 m r (front_of default u.0 other next.0 next.1 u.3)) (compare_blank n m (Some bytes) t.0 u.0 (bytes, refl) t.2 u.2) in
    let one = one_action default u.0 new other op.0 next.0 op.1 next.1 r (subst (λ (o : Option (List ℕ)). TakesAction default o new op.0 op.1) same.1 t.3) u.3 in
    (one.0, same.0, ap (λ k. (k, op.1)) one.1 ∙ ap (λ a. (next.0, a)) one.2)

-- ---- what is left decreases

-- at least as much is left as later
record Shrinks (old new : Option (List ℕ)) : Type 0 where
  before : List ℕ
  after : List ℕ
  old_is : old ≡ Some before
  new_is : new ≡ Some after
  fewer : length after ≤ length before

same_shrinks : (old : Option (List ℕ)) → Shows old → Shrinks old old
same_shrinks old s = record { before = s.0; after = s.0; old_is = s.1; new_is = s.1; fewer = omega arith }

text_shrinks : (old new : Option (List ℕ)) (text : List ℕ) → Shows old → TakesText old new text → Shrinks old new
text_shrinks old new text s t =
    let r = shown_rest old new t.bytes s t.taken in
    let n : length r.0 ≡ length t.bytes + length r.1 = ap length r.4 ∙ length-append t.bytes r.1 in
    record { before = r.0; after = r.1; old_is = r.2; new_is = r.3; fewer = omega (arith, n) }

shrinks_on : (old mid new : Option (List ℕ)) → Shrinks old mid → Shrinks mid new → Shrinks old new
shrinks_on old mid new s t =
    let n : length s.after ≡ length t.before = ap length (some_same s.after t.before (sym s.new_is ∙ t.old_is)) in
    let a = s.fewer in
    let b = t.fewer in
    record { before = s.before; after = t.after; old_is = s.old_is; new_is = t.new_is; fewer = omega (arith, n, a, b) }

shrinks_from : (old mid new : Option (List ℕ)) → old ≡ mid → Shrinks old new → Shrinks mid new
shrinks_from old mid new e s = subst (λ (o : Option (List ℕ)). Shrinks o new) e s

blank_shrinks : (n : ℕ) (old new : Option (List ℕ)) → Shows old → TakesBlank n old new → Shrinks old new
blank_shrinks zero old new s t = subst (λ (o : Option (List ℕ)). Shrinks old o) (sym t) (same_shrinks old s)
blank_shrinks (suc n) old new s t =
    shrinks_on old t.0 new (text_shrinks old t.0 [] s t.1) (blank_shrinks n t.0 new (shows_on old t.0 [] s t.1) t.2)

action_shrinks : (default mid new : Option (List ℕ)) (k : DocKey) (a : Action) → Shows mid → TakesAction default mid new k a → Shrinks mid new
action_shrinks default mid new k Delete s t = text_shrinks mid new t.0 s t.1
action_shrinks default mid new k (Index x) s t =
    shrinks_on mid t.1 new (text_shrinks mid t.1 t.0 s t.2) (text_shrinks t.1 new x.text (shows_on mid t.1 t.0 s t.2) t.4)

-- ---- an operation continues where its beginning ended

-- there is a line, and after it at least as much is left as later
abbrev GoesOn : Option (List ℕ) → Option (List ℕ) → Type 0
GoesOn front new = (mid : Option (List ℕ)) × (text : List ℕ) × TakesText front mid text × Shrinks mid new

action_goes_on : (default mid new : Option (List ℕ)) (k : DocKey) (a : Action) → Shows mid → TakesAction default mid new k a → GoesOn mid new
action_goes_on default mid new k Delete s t = (new, t.0, t.1, same_shrinks new (shows_on mid new t.0 s t.1))
action_goes_on default mid new k (Index x) s t = (t.1, t.0, t.2, text_shrinks t.1 new x.text (shows_on mid t.1 t.0 s t.2) t.4)

blank_goes_on : (j : ℕ) (default front mid new : Option (List ℕ)) (k : DocKey) (a : Action) → Shows front → TakesBlank j front mid → TakesAction default mid new k a → GoesOn front new
blank_goes_on zero default front mid new k a s b t = action_goes_on default front new k a s (subst (λ (o : Option (List ℕ)). TakesAction default o new k a) b t)
blank_goes_on (suc j) default front mid new k a s b t =
    let next = shows_on front b.0 [] s b.1 in
    (b.0, [], b.1, shrinks_on b.0 mid new (blank_shrinks j b.0 mid next b.2) (action_shrinks default mid new k a (shows_behind j b.0 mid next b.2) t))

blank_rest : (m j n : ℕ) (old front mid : Option (List ℕ)) → n ≡ m + j → Shows old → TakesBlank n old mid → TakesBlank m old front → TakesBlank j front mid
blank_rest zero j n old front mid e s t u =
    let same : n ≡ j = omega (arith, e) in
    subst (λ (o : Option (List ℕ)). TakesBlank j o mid) (sym u) (subst (λ (k : ℕ). TakesBlank k old mid) same t)
blank_rest (suc m) j zero old front mid e s t u = absurd (omega (arith, e))
blank_rest (suc m) j (suc n) old front mid e s t u =
    let same = one_text old t.0 u.0 [] [] s t.1 u.1 in
    blank_rest m j n u.0 front mid (omega (arith, e)) (shows_on old u.0 [] s u.1) (subst (λ (o : Option (List ℕ)). TakesBlank n o mid) same.0 t.2) u.2

not_before : (n m : ℕ) (default old mid front new : Option (List ℕ)) (k : DocKey) (a : Action) → Shows old → m ≤ blank_limit → TakesBlank n old mid → TakesBlank m old front → TakesAction default mid new k a → n < m → ⊥
not_before n m default old mid front new k a s h t u act below =
    let here = shows_behind n old mid s t in
    stopped_short (compare_blank n m old mid front s t u) (says_stops default mid n here (front_of default mid new k a act))
  where
    stopped_short : Compared n m mid front → Stops n mid → ⊥
    stopped_short (inl c) f = let e = c.0 in omega (arith, e, below)
    stopped_short (inr (inl c)) f = let e = f c.1 c.2 in omega (arith, e, below, h)
    stopped_short (inr (inr c)) f = let e = c.0 in omega (arith, e, below)

-- what continues is the source of an index action
source_goes_on : (default mid front new : Option (List ℕ)) (k : DocKey) (a : Action) (text index id : List ℕ) → Shows mid → TakesText mid front text → Says default text action.Index index id → TakesAction default mid new k a → GoesOn front new
source_goes_on default mid front new k Delete text index id s t says act =
    let e = one_text mid front new text act.0 s t act.1 in
    absurd (one_name default act.0 index id k.index k.id (subst (λ (x : List ℕ). Says default x action.Index index id) e.1 says) act.2)
source_goes_on default mid front new k (Index x) text index id s t says act =
    let e = one_text mid front act.1 text act.0 s t act.2 in
    let here = shows_on mid front text s t in
    let line = text_from act.1 front new x.text (sym e.0) act.4 in
    (new, x.text, line, same_shrinks new (shows_on front new x.text here line))

goes_on : (default front new : Option (List ℕ)) (bytes : List ℕ) (taken n : ℕ) (op : Operation) → TakesBeginning default (Some bytes) front taken → TakesOperation default (Some bytes) new n op → GoesOn front new
goes_on default front new bytes taken n op (inl b) t =
    elim (decide_le taken n) [
      | inl h ↦ blank_goes_on (n - taken) default front t.0 new op.0 op.1 (shows_behind taken (Some bytes) front (bytes, refl) b.1) (blank_rest taken (n - taken) n (Some bytes) front t.0 (omega (arith, h)) (bytes, refl) t.2 b.1) t.3
      | inr h ↦ absurd (not_before n taken default (Some bytes) t.0 front new op.0 op.1 (bytes, refl) b.0 t.2 b.1 t.3 h)
    ]
goes_on default front new bytes taken n op (inr b) t =
    let s = shows_behind n (Some bytes) t.0 (bytes, refl) t.2 in
    let r = shows_behind b.0 (Some bytes) b.1 (bytes, refl) b.6 in
    let same = stopped n b.0 t.0 b.1 t.1 b.5 (says_stops default t.0 n s (front_of default t.0 new op.0 op.1 t.3)) (says_stops default b.1 b.0 r (action.Index, b.2, front, b.3, b.4, b.7, b.8, b.9)) (compare_blank n b.0 (Some bytes) t.0 b.1 (bytes, refl) t.2 b.6) in
    source_goes_on default b.1 front new op.0 op.1 b.2 b.3 b.4 r b.7 b.8 (subst (λ (o : Option (List ℕ)). TakesAction default o new op.0 op.1) same.1 t.3)

-- ---- no line ends within what had been read

cut_line : (used later xs text : List ℕ) → IsUnbroken used → TakesText (Some (used ++ later)) (Some xs) text → 0 < length later → length later ≤ length xs → ⊥
cut_line used later xs text u t some fewer = line_cut t.line
  where
    line_cut : IsLineBefore (Some xs) text t.bytes → ⊥
    line_cut (inl l) =
        let whole = rejoined l.0 t.bytes xs (used ++ later) l.4 (some_same (used ++ later) (t.bytes ++ xs) t.taken) in
        let more = prefix l.0 used xs later u (sym whole) in
        let a : length l.0 ≡ length used + length more.0 = ap length more.1 ∙ length-append used more.0 in
        let b : length used + length later ≡ length l.0 + length (10 ∷ xs) = sym (length-append used later) ∙ (ap length whole ∙ length-append l.0 (10 ∷ xs)) in
        let c : length (10 ∷ xs) ≡ length xs + 1 = omega arith in
        omega (arith, a, b, c, fewer)
    line_cut (inr l) = let e : length xs ≡ 0 = ap length l.4 in omega (arith, e, some, fewer)

cut_goes_on : (front new : Option (List ℕ)) (used later rest : List ℕ) → IsUnbroken used → front ≡ Some (used ++ later) → new ≡ Some (rest ++ later) → 0 < length later → GoesOn front new → ⊥
cut_goes_on front new used later rest u e f some g =
    let h = g.3 in
    let line = subst (λ (o : Option (List ℕ)). TakesText o (Some h.before) g.1) e (subst (λ (o : Option (List ℕ)). TakesText front o g.1) h.old_is g.2) in
    let n : length h.after ≡ length rest + length later = ap length (some_same h.after (rest ++ later) (sym h.new_is ∙ f)) ∙ length-append rest later in
    let less = h.fewer in
    cut_line used later h.before g.1 u line some (omega (arith, n, less))

-- ---- the same with a byte more at the end

lift_text : (xs ys more text : List ℕ) → ys ≢ [] → TakesText (Some xs) (Some ys) text → TakesText (Some (xs ++ more)) (Some (ys ++ more)) text
lift_text xs ys more text ne t = record {
  bytes = t.bytes;
  line = elim t.line [ inl l ↦ inl l | inr l ↦ absurd (ne l.4) ];
  taken = ap Some (ap (λ zs. zs ++ more) (some_same xs (t.bytes ++ ys) t.taken) ∙ append_assoc t.bytes ys more);
}

some_left : (xs ys : List ℕ) → ys ≢ [] → Shrinks (Some xs) (Some ys) → xs ≢ []
some_left xs ys ne s e =
    let a : length s.before ≡ 0 = ap length (some_same s.before xs (sym s.old_is) ∙ e) in
    let b : length s.after ≡ length ys = ap length (some_same s.after ys (sym s.new_is)) in
    let less = s.fewer in
    ne (nil_of ys (omega (arith, a, b, less)))

lift_blank : (n : ℕ) (xs ys more : List ℕ) → ys ≢ [] → TakesBlank n (Some xs) (Some ys) → TakesBlank n (Some (xs ++ more)) (Some (ys ++ more))
lift_blank zero xs ys more ne t = ap (λ zs. Some (zs ++ more)) (some_same ys xs t)
lift_blank (suc n) xs ys more ne t =
    let s = shows_on (Some xs) t.0 [] (xs, refl) t.1 in
    let first = subst (λ (o : Option (List ℕ)). TakesText (Some xs) o []) s.1 t.1 in
    let others = subst (λ (o : Option (List ℕ)). TakesBlank n o (Some ys)) s.1 t.2 in
    let left = some_left s.0 ys ne (blank_shrinks n (Some s.0) (Some ys) (s.0, refl) others) in
    (Some (s.0 ++ more), lift_text xs s.0 more [] left first, lift_blank n s.0 ys more ne others)

lift_beginning : (default : Option (List ℕ)) (xs ys more : List ℕ) (taken : ℕ) → ys ≢ [] → TakesBeginning default (Some xs) (Some ys) taken → TakesBeginning default (Some (xs ++ more)) (Some (ys ++ more)) taken
lift_beginning default xs ys more taken ne (inl b) = inl (b.0, lift_blank taken xs ys more ne b.1)
lift_beginning default xs ys more taken ne (inr b) =
    let s = shows_behind b.0 (Some xs) b.1 (xs, refl) b.6 in
    let blank = subst (λ (o : Option (List ℕ)). TakesBlank b.0 (Some xs) o) s.1 b.6 in
    let line = text_from b.1 (Some s.0) (Some ys) b.2 s.1 b.7 in
    let left = some_left s.0 ys ne (text_shrinks (Some s.0) (Some ys) b.2 (s.0, refl) line) in
    inr (b.0, Some (s.0 ++ more), b.2, b.3, b.4, b.5, lift_blank b.0 xs s.0 more left blank, lift_text s.0 ys more b.2 ne line, b.8, b.9, b.10)

-- ---- if a read failed

none_held : (default front : Option (List ℕ)) (bytes used later : List ℕ) (taken : ℕ) → TakesBeginning default (Some (bytes ++ later)) front taken → IsUnbroken used → front ≡ Some (used ++ later) → HoldsOperation default bytes → ⊥
none_held default front bytes used (y ∷ ys) taken b u e h =
    cut_goes_on front (Some (h.2 ++ y ∷ ys)) used (y ∷ ys) h.2 u e refl (omega arith) (goes_on default front (Some (h.2 ++ y ∷ ys)) (bytes ++ y ∷ ys) taken h.0 h.1 b (h.3 (y ∷ ys)))
none_held default front bytes [] [] taken b u e h =
    let g = goes_on default front (Some (h.2 ++ [])) (bytes ++ []) taken h.0 h.1 b (h.3 []) in
    no_text_at_end (Some []) g.0 g.1 ([], refl) (text_from front (Some []) g.0 g.1 e g.2) refl
none_held default front bytes (x ∷ xs) [] taken b u e h =
    let used = x ∷ xs in
    let begun = subst (λ (o : Option (List ℕ)). TakesBeginning default o (Some used) taken) (ap Some (append-nil bytes)) (subst (λ (o : Option (List ℕ)). TakesBeginning default (Some (bytes ++ [])) o taken) (e ∙ ap Some (append-nil used)) b) in
    let lifted = lift_beginning default bytes used (10 ∷ []) taken (λ z. cc) begun in
    cut_goes_on (Some (used ++ 10 ∷ [])) (Some (h.2 ++ 10 ∷ [])) used (10 ∷ []) h.2 u refl refl (omega arith) (goes_on default (Some (used ++ 10 ∷ [])) (Some (h.2 ++ 10 ∷ [])) (bytes ++ 10 ∷ []) taken h.0 h.1 lifted (h.3 (10 ∷ [])))

pub no_operation_at_read : NoOperationAtRead
no_operation_at_read default bytes later old new e o n s k h =
    let cut = s.stop.cut (ap is_read k) in
    let begins = subst (λ (ahead : Option (List ℕ)). TakesBeginning default ahead s.front s.taken) o s.begins in
    let rest = s.stop.rest ∙ ap (prepend_known s.stop.used) n in
    none_held default s.front bytes s.stop.used later s.taken begins cut.0 rest h
