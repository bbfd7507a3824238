-- Eight bytes as a number, and texts that start with them.
use Rattle.std.proofs.Common.{◌≡◌, ◌≢◌, ℕ, zero, suc, ◌<◌, ◌≤◌, Option, None, Some, MatchOption, List, [], ◌∷◌, ◌++◌, length, take, drop, refl, ap, sym, ◌∙◌, arith, append_assoc, Fits, w8, w64}
use Rattle.std.proofs.Math.Facts.{Fits-lt-pow}
use Rattle.std.proofs.Math.ListN.{get_or}
use Rattle.std.proofs.lemmas.List.{append_cancel_left, length-take-le, take-append-drop}
use Rattle.std.proofs.lemmas.Nat.{le_bytes_8}
use Rattle.std.specs.Int.{from_le_bytes}

-- eight bytes that are the same number are the same
pub same_word : (one other : List ℕ) → length one ≡ 8 → length other ≡ 8 → ((i : ℕ) → get_or one i 0 < 256) → ((i : ℕ) → get_or other i 0 < 256)
    → from_le_bytes w64 one ≡ from_le_bytes w64 other → one ≡ other
same_word one other l m a b e = sym (le_bytes_8 one (from_le_bytes w64 other) l a (sym e)) ∙ le_bytes_8 other (from_le_bytes w64 other) m b refl

front_bytes : (n : ℕ) (bytes : List ℕ) (i : ℕ) → ((k : ℕ) → get_or bytes k 0 < 256) → get_or (take n bytes) i 0 < 256
front_bytes zero bytes i b = omega arith
front_bytes (suc n) [] i b = b i
front_bytes (suc n) (x ∷ xs) zero b = b 0
front_bytes (suc n) (x ∷ xs) (suc i) b = front_bytes n xs i (λ k. b (suc k))

-- a text starts with these eight bytes
pub word_first : (bytes first word rest : List ℕ) → first ≡ take 8 bytes → rest ≡ drop 8 bytes → 8 ≤ length bytes → length word ≡ 8
    → ((i : ℕ) → get_or word i 0 < 256) → ((i : ℕ) → Fits w8 (get_or bytes i 0)) → from_le_bytes w64 first ≡ from_le_bytes w64 word → bytes ≡ word ++ rest
word_first bytes first word rest f r n l w b e =
    let front = length-take-le 8 bytes n in
    let is : take 8 bytes ≡ word = same_word (take 8 bytes) word front l (λ i. front_bytes 8 bytes i (λ k. Fits-lt-pow (b k))) w (ap (from_le_bytes w64) (sym f) ∙ e) in
    sym (take-append-drop 8 bytes) ∙ (λ i. is i ++ sym r i)

-- ---- what is left after words that both start with

rest_is : (done rest left r : List ℕ) → done ++ rest ≡ (done ++ left) ++ r → rest ≡ left ++ r
rest_is done rest left r e = append_cancel_left done rest (left ++ r) (e ∙ append_assoc done left r)

pub joined : {A : Type 0} (o : Option A) (f : A → List ℕ) (bytes front done rest left : List ℕ) → bytes ≡ done ++ rest → front ≡ done ++ left
    → MatchOption o ((r : List ℕ) → rest ≢ left ++ r) (λ x. rest ≡ left ++ f x) → MatchOption o ((r : List ℕ) → bytes ≢ front ++ r) (λ x. bytes ≡ front ++ f x)
joined None f bytes front done rest left b e m = λ r same. m r (rest_is done rest left r (sym b ∙ same ∙ ap (λ t. t ++ r) e))
joined (Some x) f bytes front done rest left b e m = b ∙ ap (λ t. done ++ t) m ∙ sym (append_assoc done left (f x)) ∙ sym (ap (λ t. t ++ f x) e)

-- the next words differ
pub none_first : (rest left word more : List ℕ) → word ≡ take 8 left → more ≡ drop 8 left → ((r : List ℕ) → rest ≢ word ++ r) → (r : List ℕ) → rest ≢ left ++ r
none_first rest left word more w m differ r e =
    differ (more ++ r) (e ∙ ap (λ t. t ++ r) (sym (take-append-drop 8 left) ∙ (λ i. sym w i ++ sym m i)) ∙ append_assoc word more r)

-- the next words are the same
pub both_first : (bytes front done rest left word more next : List ℕ) → word ≡ take 8 left → more ≡ drop 8 left → bytes ≡ done ++ rest → front ≡ done ++ left → rest ≡ word ++ next
    → (both : List ℕ) × (bytes ≡ both ++ next) × (front ≡ both ++ more)
both_first bytes front done rest left word more next w m b e same = (
  done ++ word,
  b ∙ ap (λ t. done ++ t) same ∙ sym (append_assoc done word next),
  e ∙ ap (λ t. done ++ t) (sym (take-append-drop 8 left) ∙ (λ i. sym w i ++ sym m i)) ∙ sym (append_assoc done word more),
)
