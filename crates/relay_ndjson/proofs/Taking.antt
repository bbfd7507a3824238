-- Steps of the reader, and what they say of the grammar.
use Rattle.std.proofs.Common.{◌≡◌, ◌⊎◌, ℕ, zero, suc, ◌+◌, ◌≤◌, List, [], ◌∷◌, ◌++◌, length, Bool, true, false, Option, Some, Ok, Err, refl, sym, subst, arith, add-one, inl, inr}
use Rattle.relay_action.specs.Streams.{one_more}
use Rattle.relay_action.specs.declared.key.DocKey.{DocKey}
use Rattle.relay_action.specs.declared.action.Action.{Action}
use Rattle.relay_action.specs.declared.action.Action.TheVariants.{Index, Delete}
use Rattle.relay_action.specs.declared.action.ActionKind.TheVariants as action
use Rattle.relay_ndjson.specs.declared.kind.LineKind.{LineKind}
use Rattle.relay_ndjson.specs.declared.kind.LineKind.TheVariants as kind
use Rattle.relay_ndjson.specs.declared.kind.InputFault.{InputFault}
use Rattle.relay_ndjson.specs.Metadata.{Says, line_fault}
use Rattle.relay_ndjson.specs.Lines.{TakesText, IsLong, TakesBlank}
use Rattle.relay_ndjson.proofs.Deciding.{key_none}
use Rattle.relay_ndjson.specs.Operations.{blank_limit, saturating_count, TakesOperation, BreaksAt, IsFault, Position, line_count}
use Rattle.relay_ndjson.specs.declared.lines.LineEnd.{LineEnd}
use Rattle.relay_ndjson.specs.LineReading.{TakesBytes, TakesNext, end_bytes}
use Rattle.relay_ndjson.specs.OperationLines.{SkipsTo, TakesSourceLine}

pub text_of : (old new : Option (List ℕ)) (text : List ℕ) (end : LineEnd) → TakesBytes old new text end → TakesText old new text
text_of old new text end t = record { bytes = text ++ end_bytes end; line = t.line; taken = t.taken }

pub blank_more : (n : ℕ) (old mid new : Option (List ℕ)) → TakesBlank n old mid → TakesText mid new [] → TakesBlank (suc n) old new
blank_more zero old mid new t s = (new, subst (λ (o : Option (List ℕ)). TakesText o new []) t s, refl)
blank_more (suc n) old mid new t s = (t.0, t.1, blank_more n t.0 mid new t.2 s)

pub blank_last : (n : ℕ) (old new : Option (List ℕ)) → TakesBlank (suc n) old new → (mid : Option (List ℕ)) × TakesBlank n old mid × TakesText mid new []
blank_last zero old new t = (old, refl, subst (λ (o : Option (List ℕ)). TakesText old o []) (sym t.2) t.1)
blank_last (suc n) old new t = let r = blank_last n t.0 new t.2 in (r.0, (t.0, t.1, r.1), r.2)

pub fault_at : (default old mid : Option (List ℕ)) (n place count : ℕ) (e : InputFault) → n ≤ blank_limit → TakesBlank n old mid → BreaksAt default n mid place e.kind → e.line ≡ saturating_count (count + (n + place)) → IsFault default old count e
fault_at default old mid n place count e h t b l = inr (inr (n + place, (n, mid, place, h, t, b, refl), l))

-- no line was read after blank lines
pub skip_fault : (default old mid : Option (List ℕ)) (n count here : ℕ) (e : InputFault) → n ≤ blank_limit → TakesBlank n old mid → here ≡ saturating_count (count + n) → (e.line ≡ one_more here) × ((e.kind ≡ kind.Read) ⊎ (e.kind ≡ kind.Memory) ⊎ ((e.kind ≡ kind.LineLong) × IsLong mid)) → IsFault default old count e
skip_fault default old mid n count here e h t c s =
    let l : e.line ≡ saturating_count (count + (n + 1)) = omega (arith, c, s.0) in
    elim s.1 [ inl r ↦ inl r | inr o ↦ elim o [ inl m ↦ inr (inl m) | inr f ↦ fault_at default old mid n 1 count e h t (inl (inl (f.1, f.0), refl)) l ] ]

-- a blank line too many
pub blank_fault : (default old new : Option (List ℕ)) (n count here : ℕ) → n ≡ blank_limit + 1 → TakesBlank n old new → here ≡ saturating_count (count + n) → IsFault default old count (record { line = here; kind = kind.LineLong })
blank_fault default old new n count here e t c =
    let last = blank_last blank_limit old new (rw e at t) in
    let l : here ≡ saturating_count (count + (blank_limit + 1)) = omega (arith, c, e) in
    fault_at default old last.0 blank_limit 1 count (record { line = here; kind = kind.LineLong }) (omega arith) last.1 (inr (inl ((refl, new, last.2, refl), refl))) l

-- the action line breaks the grammar
pub action_fault : (default : Option (List ℕ)) (old new : Position) (text : List ℕ) (end : LineEnd) (k : LineKind) → SkipsTo old new text end → (k ≡ kind.Memory) ⊎ (line_fault default text ≡ Some k) → IsFault default old.ahead old.count (record { line = new.count; kind = k })
action_fault default old new text end k s f =
    let l : new.count ≡ saturating_count (old.count + (s.0 + 1)) = omega (arith, s.6) in
    elim f [
      | inl m ↦ inr (inl m)
      | inr b ↦ fault_at default old.ahead s.1 s.0 1 old.count (record { line = new.count; kind = k }) s.2 s.3 (inl (inr (text, new.ahead, text_of s.1 new.ahead text end s.4, s.5, b), refl)) l
    ]

-- the source line does
pub source_fault : (default : Option (List ℕ)) (old mid new : Position) (text next : List ℕ) (end last : LineEnd) (key : DocKey) (e : InputFault) → SkipsTo old mid text end → Says default text action.Index key.index key.id → TakesSourceLine mid new next last (Err e) → IsFault default old.ahead old.count e
source_fault default old mid new text next end last key e s says f =
    let first = text_of s.1 mid.ahead text end s.4 in
    elim f [
      | inl r ↦ inl r
      | inr o ↦ elim o [
        | inl m ↦ inr (inl m)
        | inr p ↦ elim p [
          | inl q ↦ fault_at default old.ahead s.1 s.0 1 old.count e s.2 s.3 (inr (inr (text, mid.ahead, key.index, key.id, first, says, key_none key.index key.id key.index_ok key.id_ok, inl (q.0, q.1, refl)))) (omega (arith, s.6, q.2))
          | inr q ↦ fault_at default old.ahead s.1 s.0 2 old.count e s.2 s.3 (inr (inr (text, mid.ahead, key.index, key.id, first, says, key_none key.index key.id key.index_ok key.id_ok, inr (q.0, refl)))) (omega (arith, s.6, q.1))
        ]
      ]
    ]

-- an index action and its source
pub source_taken : (default : Option (List ℕ)) (old mid new : Position) (text next : List ℕ) (end last : LineEnd) (key : DocKey) (a : Action) → SkipsTo old mid text end → Says default text action.Index key.index key.id → TakesSourceLine mid new next last (Ok a) → (n : ℕ) × TakesOperation default old.ahead new.ahead n (key, a) × (mid.count ≡ saturating_count (old.count + n + 1)) × (new.count ≡ saturating_count (old.count + n + line_count a))
source_taken default old mid new text next end last key (Index source) s says t =
    let second = subst (λ (x : List ℕ). TakesText mid.ahead new.ahead x) (sym t.1) (text_of mid.ahead new.ahead next last t.0) in
    (s.0, (s.1, s.2, s.3, (text, mid.ahead, text_of s.1 mid.ahead text end s.4, says, second)), s.6, omega (arith, s.6, t.2))
source_taken default old mid new text next end last key Delete s says t = absurd t.1

-- a delete action
pub delete_taken : (default : Option (List ℕ)) (old new : Position) (text : List ℕ) (end : LineEnd) (key : DocKey) → SkipsTo old new text end → Says default text action.Delete key.index key.id → (n : ℕ) × TakesOperation default old.ahead new.ahead n (key, Delete) × (new.count ≡ saturating_count (old.count + n + 1)) × (new.count ≡ saturating_count (old.count + n + line_count Delete))
delete_taken default old new text end key s says =
    (s.0, (s.1, s.2, s.3, (text, text_of s.1 new.ahead text end s.4, says)), s.6, s.6)

-- one more blank line
pub blank_next : (n : ℕ) (old mid new : Option (List ℕ)) (here after : ℕ) (text : List ℕ) (found : Bool) → found ≡ true → TakesNext mid new here after text (Ok found) → length text ≡ 0 → TakesBlank n old mid → TakesBlank (n + 1) old new × (after ≡ one_more here)
blank_next n old mid new here after text false f t e b = cc
blank_next n old mid new here after [] true f t e b = (rw add-one (blank_more n old mid new b t.0), t.1)
blank_next n old mid new here after (x ∷ xs) true f t e b = absurd (omega arith)
