-- Where a text occurs in another.
use Rattle.std.proofs.Common.{◌≡◌, ◌≤◌, ◌<◌, ℕ, ◌+◌, List, [], ◌∷◌, ◌++◌, length, take, drop, Bool, true, false, Option, Some, None, refl, sym, ap, ◌∙◌, arith, append_assoc, length-append}
use Rattle.std.specs.Prelude.{IsTrue, MatchBool, MatchOption}
use Rattle.std.proofs.Math.Seq.{drop-append_seam}
use Rattle.std.proofs.lemmas.List.{take-append-drop}
use Rattle.std.specs.Str.Pattern.{FindsText, HasMatch, HasTextAt, LacksTextAt, RFindsText, SplitsAroundMatch}
use Rattle.relay_target.specs.Addresses.{Has, SplitsPort}

around : (n s : List ℕ) (i j : ℕ) → HasTextAt n s i j → s ≡ take i s ++ (n ++ drop j s)
around n s i j h = sym (take-append-drop i s) ∙ ap (λ t. take i s ++ t) h.split

has_none : (n s : List ℕ) → ((i : ℕ) → i ≤ length s → LacksTextAt n s i) → Has s n → ⊥
has_none n s lacks h =
    let e : length s ≡ length h.0 + length (n ++ h.1) = ap length h.2 ∙ length-append h.0 (n ++ h.1) in
    let front : length h.0 ≤ length s = omega (arith, e) in
    lacks (length h.0) front h.1 (ap (drop (length h.0)) h.2 ∙ drop-append_seam h.0 (n ++ h.1))

-- a text occurs in another, or it does not
pub has_by : (n s : List ℕ) (found : Bool) → MatchBool found (HasMatch (FindsText n) s) (FindsText n s None) → (IsTrue found → Has s n) × (Has s n → IsTrue found)
has_by n s true m = (λ _. (take m.0 s, drop m.1 s, around n s m.0 m.1 m.2.1), λ _. refl)
has_by n s false m = (λ f. absurd (cc), λ h. absurd (has_none n s m h))

-- the parts around the last colon
last_colon : (address host port : List ℕ) → SplitsAroundMatch (RFindsText (58 ∷ [])) address host port → SplitsPort address host port
last_colon address host port s =
    let parts : address ≡ host ++ 58 ∷ port = around (58 ∷ []) address s.0 s.1 s.2.1 ∙ ap (λ t. t ++ 58 ∷ drop s.1 address) (sym s.3) ∙ ap (λ t. host ++ 58 ∷ t) (sym s.4) in (
      parts,
      λ h.
          let front = host ++ 58 ∷ h.0 in
          let later : address ≡ front ++ (58 ∷ [] ++ h.1) = parts ∙ ap (λ t. host ++ 58 ∷ t) h.2 ∙ sym (append_assoc host (58 ∷ h.0) (58 ∷ [] ++ h.1)) in
          let many : length front ≡ length host + length (58 ∷ h.0) = length-append host (58 ∷ h.0) in
          let all : length address ≡ length front + length (58 ∷ [] ++ h.1) = ap length later ∙ length-append front (58 ∷ [] ++ h.1) in
          let at = s.6 in
          let after : s.0 < length front = omega (arith, many, at) in
          let within : length front ≤ length address = omega (arith, all) in
          s.2.0 (length front) after within h.1 (ap (drop (length front)) later ∙ drop-append_seam front (58 ∷ [] ++ h.1)),
    )

pub splits_by : {P : Type 0} (now : P → List ℕ × List ℕ) (address : List ℕ) (found : Option P) → MatchOption found (RFindsText (58 ∷ []) address None) (λ p. SplitsAroundMatch (RFindsText (58 ∷ [])) address (now p).0 (now p).1)
    → MatchOption found (Has address (58 ∷ []) → ⊥) (λ p. SplitsPort address (now p).0 (now p).1)
splits_by now address None m = has_none (58 ∷ []) address m
splits_by now address (Some p) m = last_colon address (now p).0 (now p).1 m
