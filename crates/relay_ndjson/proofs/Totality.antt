-- Over known bytes there is always an operation, the end or a fault.
use Rattle.std.proofs.Common.{◌≡◌, ◌≢◌, ◌⊎◌, ℕ, zero, suc, ◌+◌, ◌-◌, ◌<◌, ◌≤◌, List, [], ◌∷◌, ◌++◌, length, get_or, Option, None, Some, refl, ap, sym, ◌∙◌, arith, inl, inr, append-nil, append_assoc, length-append}
use Rattle.std.specs.Io.KnownBytes.{IsAtEnd}
use Rattle.relay_ndjson.specs.Lines.{IsUnbroken, IsRaw, IsPastLimit, line_limit, TakesText, IsLong, TakesBlank}
use Rattle.relay_action.specs.declared.action.ActionKind.{ActionKind}
use Rattle.relay_action.specs.declared.action.ActionKind.TheVariants as action
use Rattle.relay_ndjson.specs.declared.kind.LineKind.{LineKind}
use Rattle.relay_ndjson.specs.declared.kind.LineKind.TheVariants as kind
use Rattle.relay_action.specs.Faults.{key_fault}
use Rattle.relay_ndjson.specs.Metadata.{Says, line_fault, source_line_fault}
use Rattle.relay_ndjson.specs.Operations.{blank_limit, HoldsNoMore, BreaksAt, Breaks}
use Rattle.relay_ndjson.specs.Laws.{AlwaysDecided, BeginsOperation, HasLines}
use Rattle.relay_ndjson.proofs.Deciding.{none_says}
use Rattle.relay_ndjson.proofs.Pieces.{unbroken_cons}
use Rattle.relay_ndjson.proofs.Taking.{blank_more}

decide_nat : (a b : ℕ) → (a ≡ b) ⊎ (a ≢ b)
decide_nat zero zero = inl refl
decide_nat zero (suc b) = inr (λ e. omega (arith, e))
decide_nat (suc a) zero = inr (λ e. omega (arith, e))
decide_nat (suc a) (suc b) = elim (decide_nat a b) [ inl e ↦ inl (ap suc e) | inr n ↦ inr (λ e. n (omega (arith, e))) ]

pub decide_le : (a b : ℕ) → (a ≤ b) ⊎ (b < a)
decide_le zero b = inl (omega arith)
decide_le (suc a) zero = inr (omega arith)
decide_le (suc a) (suc b) = elim (decide_le a b) [ inl e ↦ inl (omega (arith, e)) | inr n ↦ inr (omega (arith, n)) ]

abbrev Split : List ℕ → Type 0
Split bytes = IsUnbroken bytes ⊎ ((raw : List ℕ) × (rest : List ℕ) × IsUnbroken raw × (bytes ≡ raw ++ 10 ∷ rest))

split : (bytes : List ℕ) → Split bytes
split [] = inl refl
split (x ∷ xs) =
    elim (decide_nat x 10) [
      | inl e ↦ inr ([], xs, refl, ap (λ y. y ∷ xs) e)
      | inr n ↦
          elim (split xs) [ inl u ↦ inl (unbroken_cons x xs n u) | inr s ↦ inr (x ∷ s.0, s.1, unbroken_cons x s.0 n s.2, ap (λ ys. x ∷ ys) s.3) ]
    ]

last_more : (x y : ℕ) (ys : List ℕ) → get_or (y ∷ ys) (length (y ∷ ys) - 1) 0 ≢ 13 → get_or (x ∷ y ∷ ys) (length (x ∷ y ∷ ys) - 1) 0 ≢ 13
last_more x y ys h e =
    let a : length (y ∷ ys) - 1 ≡ length ys = omega arith in
    let b : length (x ∷ y ∷ ys) - 1 ≡ suc (length ys) = omega arith in
    h (ap (λ n. get_or (y ∷ ys) n 0) a ∙ (sym (ap (λ n. get_or (x ∷ y ∷ ys) n 0) b) ∙ e))

trim_more : (x y : ℕ) (ys : List ℕ) → ((text : List ℕ) × IsRaw text (y ∷ ys)) → (text : List ℕ) × IsRaw text (x ∷ y ∷ ys)
trim_more x y ys (text, inl e) = (x ∷ text, inl (ap (λ zs. x ∷ zs) e))
trim_more x y ys (text, inr e) = (x ∷ y ∷ ys, inr (refl, last_more x y ys e.1))

-- what is on a line
trim : (raw : List ℕ) → (text : List ℕ) × IsRaw text raw
trim [] = ([], inr (refl, λ e. omega (arith, e)))
trim (x ∷ []) = elim (decide_nat x 13) [ inl e ↦ ([], inl (ap (λ y. y ∷ []) e)) | inr n ↦ (x ∷ [], inr (refl, n)) ]
trim (x ∷ y ∷ ys) = trim_more x y ys (trim (y ∷ ys))

pub past_limit : (text raw : List ℕ) → IsRaw text raw → line_limit < length text → IsPastLimit raw
past_limit text raw (inl e) h =
    let n : length raw ≡ length text + 1 = ap length e ∙ length-append text (13 ∷ []) in
    (omega (arith, n, h), λ m. absurd (omega (arith, n, h, m)))
past_limit text raw (inr e) h =
    let n : length raw ≡ length text = ap length e.0 in
    (omega (arith, n, h), λ m k. e.1 (let at : length raw - 1 ≡ line_limit = omega (arith, m) in ap (λ i. get_or raw i 0) at ∙ k))

-- what is at the front
abbrev Front : List ℕ → Type 0
Front bytes = (bytes ≡ []) ⊎ (IsLong (Some bytes)) ⊎ ((text : List ℕ) × (rest : List ℕ) × TakesText (Some bytes) (Some rest) text)

front_of_open : (bytes : List ℕ) → IsUnbroken bytes → Front bytes
front_of_open [] u = inl refl
front_of_open (x ∷ xs) u =
    elim (decide_le (length (x ∷ xs)) line_limit) [
      | inl h ↦ inr (inr (x ∷ xs, [], record { bytes = x ∷ xs; line = inr (u, (λ e. cc), h, refl, refl); taken = ap Some (sym (append-nil (x ∷ xs))) }))
      | inr h ↦ inr (inl (record { raw = x ∷ xs; rest = Some []; unbroken = u; taken = ap Some (sym (append-nil (x ∷ xs))); past = inr (h, refl) }))
    ]

front_of_ended : (bytes raw rest : List ℕ) → IsUnbroken raw → bytes ≡ raw ++ 10 ∷ rest → Front bytes
front_of_ended bytes raw rest u e =
    let t = trim raw in
    elim (decide_le (length t.0) line_limit) [
      | inl h ↦ inr (inr (t.0, rest, record { bytes = raw ++ 10 ∷ []; line = inl (raw, u, t.1, h, refl); taken = ap Some (e ∙ sym (append_assoc raw (10 ∷ []) rest)) }))
      | inr h ↦ inr (inl (record { raw = raw; rest = Some (10 ∷ rest); unbroken = u; taken = ap Some e; past = inl (past_limit t.0 raw t.1 h) }))
    ]

front : (bytes : List ℕ) → Front bytes
front bytes = elim (split bytes) [ inl u ↦ front_of_open bytes u | inr s ↦ front_of_ended bytes s.0 s.1 s.2 s.3 ]

option_cases : (o : Option LineKind) → (o ≡ None) ⊎ ((k : LineKind) × (o ≡ Some k))
option_cases None = inl refl
option_cases (Some k) = inr (k, refl)

-- one of the cases applies after n blank lines
abbrev Settled : Option (List ℕ) → ℕ → Option (List ℕ) → Type 0
Settled default n mid = HasLines default mid ⊎ IsAtEnd mid ⊎ ((place : ℕ) × (k : LineKind) × BreaksAt default n mid place k)

settle_source : (default mid : Option (List ℕ)) (n : ℕ) (text rest index id : List ℕ) → TakesText mid (Some rest) text → Says default text action.Index index id → key_fault index id ≡ None → Settled default n mid
settle_source default mid n text rest index id t s k =
    elim (front rest) [
      | inl e ↦ inr (inr (1, kind.SourceMissing, inr (inr (text, Some rest, index, id, t, s, k, inl (e, refl, refl)))))
      | inr o ↦ elim o [
        | inl l ↦ inr (inr (2, kind.LineLong, inr (inr (text, Some rest, index, id, t, s, k, inr (inl (l, refl), refl)))))
        | inr f ↦ elim (option_cases (source_line_fault f.0)) [
          | inl ok ↦ inl (action.Index, index, id, text, Some rest, t, s, k, (f.0, Some f.1, f.2, ok))
          | inr e ↦ inr (inr (2, e.0, inr (inr (text, Some rest, index, id, t, s, k, inr (inr (f.0, Some f.1, f.2, e.1), refl)))))
        ]
      ]
    ]

settle_asked : (default mid : Option (List ℕ)) (n : ℕ) (a : ActionKind) (text rest index id : List ℕ) → TakesText mid (Some rest) text → Says default text a index id → key_fault index id ≡ None → Settled default n mid
settle_asked default mid n action.Index text rest index id t s k = settle_source default mid n text rest index id t s k
settle_asked default mid n action.Delete text rest index id t s k = inl (action.Delete, index, id, text, Some rest, t, s, k, tt)

settle_text : (default mid : Option (List ℕ)) (n : ℕ) (text rest : List ℕ) → text ≢ [] → TakesText mid (Some rest) text → Settled default n mid
settle_text default mid n text rest h t =
    elim (option_cases (line_fault default text)) [
      | inl ok ↦ (let s = none_says default text ok in settle_asked default mid n s.0 text rest s.1 s.2 t s.3 s.4)
      | inr e ↦ inr (inr (1, e.0, inl (inr (text, Some rest, t, h, e.1), refl)))
    ]

abbrev SettledBehind : Option (List ℕ) → Option (List ℕ) → Type 0
SettledBehind default old = (m : ℕ) × (mid : Option (List ℕ)) × (m ≤ blank_limit) × TakesBlank m old mid × Settled default m mid

at_text : (default old : Option (List ℕ)) (n : ℕ) (bytes text rest : List ℕ) → n ≤ blank_limit → TakesBlank n old (Some bytes) → TakesText (Some bytes) (Some rest) text → (TakesText (Some bytes) (Some rest) [] → SettledBehind default old) → SettledBehind default old
at_text default old n bytes [] rest h b t next = next t
at_text default old n bytes (x ∷ xs) rest h b t next = (n, Some bytes, h, b, settle_text default (Some bytes) n (x ∷ xs) rest (λ e. cc) t)

walk : (left : ℕ) (default old : Option (List ℕ)) (n : ℕ) (bytes : List ℕ) → n + left ≡ blank_limit → TakesBlank n old (Some bytes) → SettledBehind default old
walk zero default old n bytes e b =
    let h : n ≤ blank_limit = omega (arith, e) in
    elim (front bytes) [
      | inl z ↦ (n, Some bytes, h, b, inr (inl z))
      | inr o ↦ elim o [
        | inl l ↦ (n, Some bytes, h, b, inr (inr (1, kind.LineLong, inl (inl (l, refl), refl))))
        | inr f ↦ at_text default old n bytes f.0 f.1 h b f.2 (λ t. (n, Some bytes, h, b, inr (inr (1, kind.LineLong, inr (inl ((omega (arith, e), Some f.1, t, refl), refl))))))
      ]
    ]
walk (suc left) default old n bytes e b =
    let h : n ≤ blank_limit = omega (arith, e) in
    elim (front bytes) [
      | inl z ↦ (n, Some bytes, h, b, inr (inl z))
      | inr o ↦ elim o [
        | inl l ↦ (n, Some bytes, h, b, inr (inr (1, kind.LineLong, inl (inl (l, refl), refl))))
        | inr f ↦ at_text default old n bytes f.0 f.1 h b f.2 (λ t. walk left default old (suc n) f.1 (omega (arith, e)) (blank_more n old (Some bytes) (Some f.1) b t))
      ]
    ]

settled : (default old : Option (List ℕ)) (n : ℕ) (mid : Option (List ℕ)) → n ≤ blank_limit → TakesBlank n old mid → Settled default n mid → BeginsOperation default old ⊎ HoldsNoMore old ⊎ ((at : ℕ) × (k : LineKind) × Breaks default old at k)
settled default old n mid h b (inl l) = inl (n, mid, h, b, l)
settled default old n mid h b (inr (inl z)) = inr (inl (n, mid, h, b, z))
settled default old n mid h b (inr (inr f)) = inr (inr (n + f.0, f.1, (n, mid, f.0, h, b, f.2, refl)))

decided : (default old : Option (List ℕ)) → SettledBehind default old → BeginsOperation default old ⊎ HoldsNoMore old ⊎ ((at : ℕ) × (k : LineKind) × Breaks default old at k)
decided default old s = settled default old s.0 s.1 s.2 s.3 s.4

pub always_decided : AlwaysDecided
always_decided default bytes = decided default (Some bytes) (walk blank_limit default (Some bytes) 0 bytes refl refl)
