-- What the result for a document with these parts says of the text.
use Rattle.std.proofs.Common.{◌≡◌, ◌≢◌, ℕ, List, ap, sym, ◌∙◌, subst, Option, Some, None, Result, Ok, Err}
use Rattle.std.specs.Prelude.{IfOk, MatchOption}
use Rattle.std.specs.declared.alloc.AllocError.{AllocError}
use Rattle.percent_encoding.specs.Percent.{percent_decode}
use Rattle.relay_action.specs.Faults.{key_fault}
use Rattle.relay_action.specs.declared.key.DocKey.{DocKey}
use Rattle.relay_target.specs.Targets.{IsName, IsNoName, HasParts, Names, NamesNone}
use Rattle.relay_target.proofs.Splitting.{name_unique, parts_unique}

-- the result for this index name and this id
abbrev pub IsKeyOf : List ℕ → List ℕ → Result (Option DocKey) AllocError → Type 0
IsKeyOf index id r = IfOk r (λ o. MatchOption o (key_fault index id ≢ None) (λ k. (k.index ≡ index) × (k.id ≡ id)))

pub name_by : (name index id : List ℕ) → IsName name index id → (r : Result (Option DocKey) AllocError) → IsKeyOf index id r
    → IfOk r (λ o. MatchOption o (IsNoName name) (λ k. IsName name k.index k.id))
name_by name index id is (Ok None) h = λ i d other none.
    let same = name_unique name index i id d is other in
    h (ap (λ w. key_fault w id) same.0 ∙ ap (key_fault i) same.1 ∙ none)
name_by name index id is (Ok (Some k)) h = subst (λ w. IsName name w k.id) (sym h.0) (subst (λ w. IsName name index w) (sym h.1) is)
name_by name index id is (Err e) h = tt

pub target_by : (target a x index id : List ℕ) → HasParts target a x → index ≡ percent_decode a → id ≡ percent_decode x
    → (r : Result (Option DocKey) AllocError) → IsKeyOf index id r
    → IfOk r (λ o. MatchOption o (NamesNone target) (λ k. Names target k.index k.id))
target_by target a x index id parts e f (Ok None) h = λ i d names utf8 also none.
    let same = parts_unique target a names.index_part x names.id_part parts names.parts in
    let first : index ≡ i = e ∙ ap percent_decode same.0 ∙ sym names.index_is in
    let second : id ≡ d = f ∙ ap percent_decode same.1 ∙ sym names.id_is in
    h (ap (λ w. key_fault w id) first ∙ ap (key_fault i) second ∙ none)
target_by target a x index id parts e f (Ok (Some k)) h = record { index_part = a; id_part = x; parts = parts; index_is = h.0 ∙ e; id_is = h.1 ∙ f }
target_by target a x index id parts e f (Err g) h = tt
