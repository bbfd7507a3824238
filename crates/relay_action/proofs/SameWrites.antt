-- Writes whose parts are equal.
use Rattle.std.proofs.Common.{◌≡◌, ℕ, List, ap, ◌∙◌, subst, IsUtf8}
use Rattle.std.proofs.Props.{props}
use Rattle.relay_action.specs.Limits.{HasLength, IsOneLine, index_limit, id_limit, source_limit}
use Rattle.relay_action.specs.declared.key.DocKey.{DocKey}
use Rattle.relay_action.specs.declared.action.Source.{Source}
use Rattle.relay_action.specs.declared.write.Write.{Write}

length_one : (limit : ℕ) (text : List ℕ) → IsProp (HasLength limit text)
length_one limit text = hlevel props

line_one : (text : List ℕ) → IsProp (IsOneLine text)
line_one text = hlevel props

utf8_one : (text : List ℕ) → IsProp (∥ IsUtf8 text ∥₁)
utf8_one text = hlevel

abbrev key_of : (index id : List ℕ) → HasLength index_limit index → HasLength id_limit id → ∥ IsUtf8 index ∥₁ → ∥ IsUtf8 id ∥₁ → DocKey
key_of index id a b u v = record { index = index; id = id; index_ok = a; id_ok = b; index_utf8 = u; id_utf8 = v }

key_one : (index id : List ℕ) (a c : HasLength index_limit index) (b d : HasLength id_limit id) (u x : ∥ IsUtf8 index ∥₁) (v y : ∥ IsUtf8 id ∥₁) → key_of index id a b u v ≡ key_of index id c d x y
key_one index id a c b d u x v y =
    ap (λ p. key_of index id p b u v) (length_one index_limit index a c)
    ∙ (ap (λ p. key_of index id c p u v) (length_one id_limit id b d)
    ∙ (ap (λ p. key_of index id c d p v) (utf8_one index u x) ∙ ap (λ p. key_of index id c d x p) (utf8_one id v y)))

abbrev KeysAt : (index id other name : List ℕ) → Type 0
KeysAt index id other name =
    (a : HasLength index_limit index) (c : HasLength index_limit other) (b : HasLength id_limit id) (d : HasLength id_limit name) (u : ∥ IsUtf8 index ∥₁) (x : ∥ IsUtf8 other ∥₁) (v : ∥ IsUtf8 id ∥₁) (y : ∥ IsUtf8 name ∥₁) →
    key_of index id a b u v ≡ key_of other name c d x y

keys_at : (index id other name : List ℕ) → index ≡ other → id ≡ name → KeysAt index id other name
keys_at index id other name e f =
    subst (λ (o : List ℕ). KeysAt index id o name) e (subst (λ (n : List ℕ). KeysAt index id index n) f (λ a c b d u x v y. key_one index id a c b d u x v y))

-- documents of one index name and one id
pub same_key : (k l : DocKey) → k.index ≡ l.index → k.id ≡ l.id → k ≡ l
same_key k l e f = keys_at k.index k.id l.index l.id e f k.index_ok l.index_ok k.id_ok l.id_ok k.index_utf8 l.index_utf8 k.id_utf8 l.id_utf8

abbrev source_of : (text : List ℕ) → HasLength source_limit text → IsOneLine text → ∥ IsUtf8 text ∥₁ → Source
source_of text a b u = record { text = text; length_ok = a; line_ok = b; utf8 = u }

abbrev SourcesAt : List ℕ → List ℕ → Type 0
SourcesAt text other =
    (a : HasLength source_limit text) (c : HasLength source_limit other) (b : IsOneLine text) (d : IsOneLine other) (u : ∥ IsUtf8 text ∥₁) (x : ∥ IsUtf8 other ∥₁) →
    source_of text a b u ≡ source_of other c d x

source_one : (text : List ℕ) → SourcesAt text text
source_one text a c b d u x =
    ap (λ p. source_of text p b u) (length_one source_limit text a c) ∙ (ap (λ p. source_of text c p u) (line_one text b d) ∙ ap (λ p. source_of text c d p) (utf8_one text u x))

-- sources of one text
pub same_source : (s t : Source) → s.text ≡ t.text → s ≡ t
same_source s t e = subst (λ (o : List ℕ). SourcesAt s.text o) e (source_one s.text) s.length_ok t.length_ok s.line_ok t.line_ok s.utf8 t.utf8

-- writes of one document, one version and one action
pub same_write : (w v : Write) → w.key ≡ v.key → w.version ≡ v.version → w.action ≡ v.action → w ≡ v
same_write w v e f g =
    ap (λ k. record w { key = k }) e ∙ (ap (λ n. record v { version = n; action = w.action }) f ∙ ap (λ a. record v { action = a }) g)
