-- If there is a fault, no operation begins there; and there is one first fault.
use Rattle.std.proofs.Common.{◌≡◌, ◌⊎◌, ℕ, zero, suc, ◌<◌, ◌≤◌, List, [], Option, None, Some, refl, ap, sym, ◌∙◌, subst, arith, inl, inr, option_map}
use Rattle.std.specs.Io.KnownBytes.{IsAtEnd}
use Rattle.std.proofs.lemmas.Str.{IsUtf8-had}
use Rattle.relay_action.specs.Faults.{key_fault, source_fault}
use Rattle.relay_action.specs.declared.key.DocKey.{DocKey}
use Rattle.relay_action.specs.declared.action.Source.{Source}
use Rattle.relay_action.specs.declared.action.Action.{Action}
use Rattle.relay_action.specs.declared.action.Action.TheVariants.{Index, Delete}
use Rattle.relay_action.specs.declared.action.ActionKind.{ActionKind}
use Rattle.relay_action.specs.declared.action.ActionKind.TheVariants as action
use Rattle.relay_ndjson.specs.declared.kind.LineKind.{LineKind}
use Rattle.relay_ndjson.specs.declared.kind.LineKind.TheVariants as kind
use Rattle.relay_ndjson.specs.Metadata.{Says, line_fault, source_line_fault}
use Rattle.relay_ndjson.specs.Operations.{blank_limit, TakesAction, BreaksAction, BreaksSource, LacksSource, IsPastBlank, BreaksAt}
use Rattle.relay_ndjson.specs.Lines.{TakesText, TakesBlank}
use Rattle.relay_ndjson.specs.Laws.{NoOperationAtFault, NoEndAtFault, NoOperationAtEnd, OneFault}
use Rattle.relay_ndjson.proofs.Asking.{source_line_fault-text}
use Rattle.relay_ndjson.proofs.Deciding.{says_none, key_none, not_empty, one_name}
use Rattle.relay_ndjson.proofs.Fronts.{Shows, shows_on, one_text, no_text_at_end, no_text_at_long, no_long_at_end}

-- ---- after the maximum number of blank lines

-- a blank line follows only if the maximum is reached
abbrev pub Stops : ℕ → Option (List ℕ) → Type 0
Stops n mid = (new : Option (List ℕ)) → TakesText mid new [] → n ≡ blank_limit

shows_at : (old mid : Option (List ℕ)) → Shows old → mid ≡ old → Shows mid
shows_at old mid s e = (s.0, e ∙ s.1)

pub shows_behind : (n : ℕ) (old mid : Option (List ℕ)) → Shows old → TakesBlank n old mid → Shows mid
shows_behind zero old mid s t = shows_at old mid s t
shows_behind (suc n) old mid s t = shows_behind n t.0 mid (shows_on old t.0 [] s t.1) t.2

text_at : (old mid new : Option (List ℕ)) (text : List ℕ) → mid ≡ old → TakesText old new text → TakesText mid new text
text_at old mid new text e t = subst (λ (o : Option (List ℕ)). TakesText o new text) (sym e) t

blank_at : (n : ℕ) (old mid new : Option (List ℕ)) → old ≡ mid → TakesBlank n old new → TakesBlank n mid new
blank_at n old mid new e t = subst (λ (o : Option (List ℕ)). TakesBlank n o new) e t

abbrev pub Compared : ℕ → ℕ → Option (List ℕ) → Option (List ℕ) → Type 0
Compared n m mid end = ((n ≡ m) × (mid ≡ end)) ⊎ ((n < m) × (new : Option (List ℕ)) × TakesText mid new []) ⊎ ((m < n) × (new : Option (List ℕ)) × TakesText end new [])

compared_more : (n m : ℕ) (mid end : Option (List ℕ)) → Compared n m mid end → Compared (suc n) (suc m) mid end
compared_more n m mid end (inl s) = inl (ap suc s.0, s.1)
compared_more n m mid end (inr (inl s)) = inr (inl (omega (arith, s.0), s.1, s.2))
compared_more n m mid end (inr (inr s)) = inr (inr (omega (arith, s.0), s.1, s.2))

pub compare_blank : (n m : ℕ) (old mid end : Option (List ℕ)) → Shows old → TakesBlank n old mid → TakesBlank m old end → Compared n m mid end
compare_blank zero zero old mid end s t u = inl (refl, t ∙ sym u)
compare_blank zero (suc m) old mid end s t u = inr (inl (omega arith, u.0, text_at old mid u.0 [] t u.1))
compare_blank (suc n) zero old mid end s t u = inr (inr (omega arith, t.0, text_at old end t.0 [] u t.1))
compare_blank (suc n) (suc m) old mid end s t u =
    let k = one_text old t.0 u.0 [] [] s t.1 u.1 in
    compared_more n m mid end (compare_blank n m u.0 mid end (shows_on old u.0 [] s u.1) (blank_at n t.0 u.0 mid k.0 t.2) u.2)

pub stopped : (n m : ℕ) (mid end : Option (List ℕ)) → n ≤ blank_limit → m ≤ blank_limit → Stops n mid → Stops m end → Compared n m mid end → (n ≡ m) × (mid ≡ end)
stopped n m mid end h k p q (inl s) = s
stopped n m mid end h k p q (inr (inl s)) = let e = p s.1 s.2 in absurd (omega (arith, e, s.0, k))
stopped n m mid end h k p q (inr (inr s)) = let e = q s.1 s.2 in absurd (omega (arith, e, s.0, h))

-- ---- what stops

pub source_none : (s : Source) → source_line_fault s.text ≡ None
source_none s =
    let a = s.length_ok in let b = s.line_ok in
    let f : source_fault s.text ≡ None = grind (arith, a.0, a.1, b) in
    source_line_fault-text s.text (IsUtf8-had s.text s.utf8) ∙ ap (option_map kind.Action) f

not_blank : (default : Option (List ℕ)) (text : List ℕ) (a : ActionKind) (index id : List ℕ) → Says default text a index id → text ≡ [] → ⊥
not_blank default text a index id s e = not_empty default a index id (subst (λ (t : List ℕ). Says default t a index id) e s)

-- the action line of an operation
abbrev pub FrontSays : Option (List ℕ) → Option (List ℕ) → Type 0
FrontSays default mid = (a : ActionKind) × (text : List ℕ) × (rest : Option (List ℕ)) × (index : List ℕ) × (id : List ℕ) × TakesText mid rest text × Says default text a index id × (key_fault index id ≡ None)

pub front_of : (default mid new : Option (List ℕ)) (key : DocKey) (a : Action) → TakesAction default mid new key a → FrontSays default mid
front_of default mid new key (Index s) t = (action.Index, t.0, t.1, key.index, key.id, t.2, t.3, key_none key.index key.id key.index_ok key.id_ok)
front_of default mid new key Delete t = (action.Delete, t.0, new, key.index, key.id, t.1, t.2, key_none key.index key.id key.index_ok key.id_ok)

pub says_stops : (default mid : Option (List ℕ)) (n : ℕ) → Shows mid → FrontSays default mid → Stops n mid
says_stops default mid n s f = λ new b. let k = one_text mid f.2 new f.1 [] s f.5 b in absurd (not_blank default f.1 f.0 f.3 f.4 f.6 k.1)

end_stops : (mid : Option (List ℕ)) (n : ℕ) → Shows mid → IsAtEnd mid → Stops n mid
end_stops mid n s h = λ new b. absurd (no_text_at_end mid new [] s b h)

breaks_stops : (default mid : Option (List ℕ)) (n place : ℕ) (k : LineKind) → Shows mid → BreaksAt default n mid place k → Stops n mid
breaks_stops default mid n place k s (inl (inl l, p)) = λ new b. absurd (no_text_at_long mid new [] s b l.0)
breaks_stops default mid n place k s (inl (inr t, p)) = λ new b. absurd (t.3 (let e = one_text mid t.1 new t.0 [] s t.2 b in e.1))
breaks_stops default mid n place k s (inr (inl p)) = λ new b. p.0.0
breaks_stops default mid n place k s (inr (inr l)) = says_stops default mid n s (action.Index, l.0, l.1, l.2, l.3, l.4, l.5, l.6)

-- ---- operations against faults

says_not_breaking : (default mid : Option (List ℕ)) (k : LineKind) → Shows mid → FrontSays default mid → BreaksAction default mid k → ⊥
says_not_breaking default mid k s f (inl l) = no_text_at_long mid f.2 f.1 s f.5 l.0
says_not_breaking default mid k s f (inr t) =
    let e = one_text mid t.1 f.2 t.0 f.1 s t.2 f.5 in
    let n : Some k ≡ None = sym t.4 ∙ (ap (line_fault default) e.1 ∙ says_none default f.1 f.0 f.3 f.4 f.6 f.7) in cc

source_not_breaking : (rest new : Option (List ℕ)) (source : Source) (k : LineKind) → Shows rest → TakesText rest new source.text → BreaksSource rest k → ⊥
source_not_breaking rest new source k s t (inl l) = no_text_at_long rest new source.text s t l.0
source_not_breaking rest new source k s t (inr b) =
    let e = one_text rest b.1 new b.0 source.text s b.2 t in
    let n : Some k ≡ None = sym b.3 ∙ (ap source_line_fault e.1 ∙ source_none source) in cc

action_not_lacking : (default mid new : Option (List ℕ)) (key : DocKey) (a : Action) (place : ℕ) (k : LineKind) → Shows mid → TakesAction default mid new key a → LacksSource default mid place k → ⊥
action_not_lacking default mid new key Delete place k s t l =
    let e = one_text mid new l.1 t.0 l.0 s t.1 l.4 in
    one_name default l.0 l.2 l.3 key.index key.id l.5 (subst (λ (x : List ℕ). Says default x action.Delete key.index key.id) e.1 t.2)
action_not_lacking default mid new key (Index source) place k s t l =
    let e = one_text mid l.1 t.1 l.0 t.0 s l.4 t.2 in
    let r = shows_on mid t.1 t.0 s t.2 in
    elim l.7 [ inl m ↦ no_text_at_end t.1 new source.text r t.4 (subst IsAtEnd e.0 m.0) | inr m ↦ source_not_breaking t.1 new source k r t.4 (subst (λ (o : Option (List ℕ)). BreaksSource o k) e.0 m.0) ]

action_not_breaking : (default mid new : Option (List ℕ)) (n place : ℕ) (key : DocKey) (a : Action) (k : LineKind) → Shows mid → TakesAction default mid new key a → BreaksAt default n mid place k → ⊥
action_not_breaking default mid new n place key a k s t (inl b) = says_not_breaking default mid k s (front_of default mid new key a t) b.0
action_not_breaking default mid new n place key a k s t (inr (inl b)) =
    let f = front_of default mid new key a t in
    let e = one_text mid f.2 b.0.1 f.1 [] s f.5 b.0.2 in not_blank default f.1 f.0 f.3 f.4 f.6 e.1
action_not_breaking default mid new n place key a k s t (inr (inr l)) = action_not_lacking default mid new key a place k s t l

pub no_operation_at_fault : NoOperationAtFault
no_operation_at_fault default new bytes n at op k t b =
    let s = shows_behind n (Some bytes) t.0 (bytes, refl) t.2 in
    let r = shows_behind b.0 (Some bytes) b.1 (bytes, refl) b.4 in
    let same = stopped n b.0 t.0 b.1 t.1 b.3 (says_stops default t.0 n s (front_of default t.0 new op.0 op.1 t.3)) (breaks_stops default b.1 b.0 b.2 k r b.5) (compare_blank n b.0 (Some bytes) t.0 b.1 (bytes, refl) t.2 b.4) in
    action_not_breaking default b.1 new b.0 b.2 op.0 op.1 k r (subst (λ (o : Option (List ℕ)). TakesAction default o new op.0 op.1) same.1 t.3) b.5

-- ---- the end

front_not_end : (default mid : Option (List ℕ)) → Shows mid → FrontSays default mid → IsAtEnd mid → ⊥
front_not_end default mid s f h = no_text_at_end mid f.2 f.1 s f.5 h

end_not_breaking : (default mid : Option (List ℕ)) (n place : ℕ) (k : LineKind) → Shows mid → IsAtEnd mid → BreaksAt default n mid place k → ⊥
end_not_breaking default mid n place k s h (inl (inl l, p)) = no_long_at_end mid s l.0 h
end_not_breaking default mid n place k s h (inl (inr t, p)) = no_text_at_end mid t.1 t.0 s t.2 h
end_not_breaking default mid n place k s h (inr (inl b)) = no_text_at_end mid b.0.1 [] s b.0.2 h
end_not_breaking default mid n place k s h (inr (inr l)) = no_text_at_end mid l.1 l.0 s l.4 h

pub no_end_at_fault : NoEndAtFault
no_end_at_fault default bytes at k t b =
    let s = shows_behind t.0 (Some bytes) t.1 (bytes, refl) t.3 in
    let r = shows_behind b.0 (Some bytes) b.1 (bytes, refl) b.4 in
    let same = stopped t.0 b.0 t.1 b.1 t.2 b.3 (end_stops t.1 t.0 s t.4) (breaks_stops default b.1 b.0 b.2 k r b.5) (compare_blank t.0 b.0 (Some bytes) t.1 b.1 (bytes, refl) t.3 b.4) in
    end_not_breaking default b.1 b.0 b.2 k r (subst IsAtEnd same.1 t.4) b.5

pub no_operation_at_end : NoOperationAtEnd
no_operation_at_end default new bytes n op t b =
    let s = shows_behind n (Some bytes) t.0 (bytes, refl) t.2 in
    let r = shows_behind b.0 (Some bytes) b.1 (bytes, refl) b.3 in
    let front = front_of default t.0 new op.0 op.1 t.3 in
    let same = stopped n b.0 t.0 b.1 t.1 b.2 (says_stops default t.0 n s front) (end_stops b.1 b.0 r b.4) (compare_blank n b.0 (Some bytes) t.0 b.1 (bytes, refl) t.2 b.3) in
    front_not_end default b.1 r (subst (λ (o : Option (List ℕ)). FrontSays default o) same.1 front) b.4

-- ---- one fault

pub some_kind : (k l : LineKind) → Some k ≡ Some l → k ≡ l
some_kind k l e = cc

one_action_fault : (default mid : Option (List ℕ)) (k l : LineKind) → Shows mid → BreaksAction default mid k → BreaksAction default mid l → k ≡ l
one_action_fault default mid k l s (inl a) (inl b) = a.1 ∙ sym b.1
one_action_fault default mid k l s (inl a) (inr b) = absurd (no_text_at_long mid b.1 b.0 s b.2 a.0)
one_action_fault default mid k l s (inr a) (inl b) = absurd (no_text_at_long mid a.1 a.0 s a.2 b.0)
one_action_fault default mid k l s (inr a) (inr b) =
    let e = one_text mid a.1 b.1 a.0 b.0 s a.2 b.2 in some_kind k l (sym a.4 ∙ (ap (line_fault default) e.1 ∙ b.4))

one_source_fault : (mid : Option (List ℕ)) (k l : LineKind) → Shows mid → BreaksSource mid k → BreaksSource mid l → k ≡ l
one_source_fault mid k l s (inl a) (inl b) = a.1 ∙ sym b.1
one_source_fault mid k l s (inl a) (inr b) = absurd (no_text_at_long mid b.1 b.0 s b.2 a.0)
one_source_fault mid k l s (inr a) (inl b) = absurd (no_text_at_long mid a.1 a.0 s a.2 b.0)
one_source_fault mid k l s (inr a) (inr b) =
    let e = one_text mid a.1 b.1 a.0 b.0 s a.2 b.2 in some_kind k l (sym a.3 ∙ (ap source_line_fault e.1 ∙ b.3))

source_not_end : (rest : Option (List ℕ)) (k : LineKind) → Shows rest → IsAtEnd rest → BreaksSource rest k → ⊥
source_not_end rest k s h (inl a) = no_long_at_end rest s a.0 h
source_not_end rest k s h (inr a) = no_text_at_end rest a.1 a.0 s a.2 h

abbrev AfterIndex : Option (List ℕ) → ℕ → LineKind → Type 0
AfterIndex rest place k = (IsAtEnd rest × (k ≡ kind.SourceMissing) × (place ≡ 1)) ⊎ (BreaksSource rest k × (place ≡ 2))

one_after : (rest : Option (List ℕ)) (p q : ℕ) (k l : LineKind) → Shows rest → AfterIndex rest p k → AfterIndex rest q l → (p ≡ q) × (k ≡ l)
one_after rest p q k l s (inl a) (inl b) = (a.2 ∙ sym b.2, a.1 ∙ sym b.1)
one_after rest p q k l s (inl a) (inr b) = absurd (source_not_end rest l s a.0 b.0)
one_after rest p q k l s (inr a) (inl b) = absurd (source_not_end rest k s b.0 a.0)
one_after rest p q k l s (inr a) (inr b) = (a.1 ∙ sym b.1, one_source_fault rest k l s a.0 b.0)

one_lacking : (default mid : Option (List ℕ)) (p q : ℕ) (k l : LineKind) → Shows mid → LacksSource default mid p k → LacksSource default mid q l → (p ≡ q) × (k ≡ l)
one_lacking default mid p q k l s a b =
    let e = one_text mid a.1 b.1 a.0 b.0 s a.4 b.4 in
    one_after b.1 p q k l (shows_on mid b.1 b.0 s b.4) (subst (λ (o : Option (List ℕ)). AfterIndex o p k) e.0 a.7) b.7

lacking_says : (default mid : Option (List ℕ)) (p : ℕ) (k : LineKind) → LacksSource default mid p k → FrontSays default mid
lacking_says default mid p k l = (action.Index, l.0, l.1, l.2, l.3, l.4, l.5, l.6)

-- one blank line too many is neither
past_not_breaking : (default mid : Option (List ℕ)) (n : ℕ) (k l : LineKind) → Shows mid → IsPastBlank n mid k → BreaksAction default mid l → ⊥
past_not_breaking default mid n k l s p (inl a) = no_text_at_long mid p.1 [] s p.2 a.0
past_not_breaking default mid n k l s p (inr a) = a.3 (let e = one_text mid a.1 p.1 a.0 [] s a.2 p.2 in e.1)

past_not_saying : (default mid : Option (List ℕ)) (n : ℕ) (k : LineKind) → Shows mid → IsPastBlank n mid k → FrontSays default mid → ⊥
past_not_saying default mid n k s p f = let e = one_text mid f.2 p.1 f.1 [] s f.5 p.2 in not_blank default f.1 f.0 f.3 f.4 f.6 e.1

one_break : (default mid : Option (List ℕ)) (n m p q : ℕ) (k l : LineKind) → Shows mid → BreaksAt default n mid p k → BreaksAt default m mid q l → (p ≡ q) × (k ≡ l)
one_break default mid n m p q k l s (inl a) (inl b) = (a.1 ∙ sym b.1, one_action_fault default mid k l s a.0 b.0)
one_break default mid n m p q k l s (inl a) (inr (inl b)) = absurd (past_not_breaking default mid m l k s b.0 a.0)
one_break default mid n m p q k l s (inl a) (inr (inr b)) = absurd (says_not_breaking default mid k s (lacking_says default mid q l b) a.0)
one_break default mid n m p q k l s (inr (inl a)) (inl b) = absurd (past_not_breaking default mid n k l s a.0 b.0)
one_break default mid n m p q k l s (inr (inl a)) (inr (inl b)) = (a.1 ∙ sym b.1, a.0.3 ∙ sym b.0.3)
one_break default mid n m p q k l s (inr (inl a)) (inr (inr b)) = absurd (past_not_saying default mid n k s a.0 (lacking_says default mid q l b))
one_break default mid n m p q k l s (inr (inr a)) (inl b) = absurd (says_not_breaking default mid l s (lacking_says default mid p k a) b.0)
one_break default mid n m p q k l s (inr (inr a)) (inr (inl b)) = absurd (past_not_saying default mid m l s b.0 (lacking_says default mid p k a))
one_break default mid n m p q k l s (inr (inr a)) (inr (inr b)) = one_lacking default mid p q k l s a b

pub one_fault : OneFault
one_fault default bytes at place k l a b =
    let s = shows_behind a.0 (Some bytes) a.1 (bytes, refl) a.4 in
    let r = shows_behind b.0 (Some bytes) b.1 (bytes, refl) b.4 in
    let same = stopped a.0 b.0 a.1 b.1 a.3 b.3 (breaks_stops default a.1 a.0 a.2 k s a.5) (breaks_stops default b.1 b.0 b.2 l r b.5) (compare_blank a.0 b.0 (Some bytes) a.1 b.1 (bytes, refl) a.4 b.4) in
    let k = one_break default b.1 a.0 b.0 a.2 b.2 k l r (subst (λ (o : Option (List ℕ)). BreaksAt default a.0 o a.2 k) same.1 a.5) b.5 in
    (omega (arith, a.6, b.6, same.0, k.0), k.1)
