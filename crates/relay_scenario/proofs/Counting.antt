-- Numbers with a space between each two.
use Rattle.std.proofs.Common.{◌≡◌, ℕ, ◌<◌, ◌≤◌, List, [], ◌∷◌, ◌++◌, ◌==◌, length, true, false, refl, ap, sym, subst, ◌∙◌, arith, append_assoc, length-append}
use Rattle.std.proofs.lemmas.Grind.{common_steps}
use Rattle.std.proofs.lemmas.Bool.{eqb-true}
use Rattle.std.specs.Char.{digit_value}
use Rattle.std.specs.Str.Parse.{AllDigits}
use Rattle.relay_scenario.specs.Words.{Begins, IsWord}
use Rattle.relay_words.specs.Numbers.{IsNumber}
use Rattle.relay_words.proofs.Numbers.{one_number}
use Rattle.relay_scenario.specs.Numbers.{AreNumbers, IsNumbersFault, IsWordFault}
use Rattle.relay_scenario.specs.declared.event_line.LineFault.{LineFault}
use Rattle.relay_scenario.specs.declared.event_line.LineFault.TheVariants as fault
use Rattle.relay_scenario.proofs.Cutting.{same_cut, no_cut}

space_is_none : 10 ≤ digit_value 32
space_is_none = omega arith

not_space : (x : ℕ) → (x == 32) ≡ true → digit_value x < 10 → ⊥
not_space x e d =
    let same : x ≡ 32 = eqb-true x 32 e in
    let s = space_is_none in
    omega (arith, s, rw same at d)

-- digits contain no space
digits_word : (xs : List ℕ) → AllDigits 10 xs → IsWord xs
digits_word [] all = refl
digits_word (x ∷ xs) all =
    let here : (x == 32) ≡ false = elim (x == 32) as (λ b. (x == 32) ≡ b → b ≡ false) [ true ↦ λ e. absurd (not_space x e all.0) | false ↦ λ e. refl ] refl in
    let rest = digits_word xs all.1 in grind (arith, common_steps, here, rest)

pub number_word : (text : List ℕ) (n : ℕ) → IsNumber text n → IsWord text
number_word text n h = digits_word text h.digits.1

-- ---- a text of numbers

-- after a number and a space, numbers
pub more_numbers : (text word rest : List ℕ) (n : ℕ) (ns : List ℕ) → Begins text word rest → IsNumber word n → AreNumbers rest ns → AreNumbers text (n ∷ ns)
more_numbers text word rest n [] b h r = absurd r
more_numbers text word rest n (m ∷ ns) b h r = (word, rest, b, h, r)

-- if a text is cut, its numbers are a number and the numbers of the rest
pub record Splits (word rest : List ℕ) (ns : List ℕ) : Type 0 where
  pub n : ℕ
  pub later : List ℕ
  pub all : ns ≡ n ∷ later
  pub first : IsNumber word n
  pub others : AreNumbers rest later

pub splits : (text word rest : List ℕ) (ns : List ℕ) → Begins text word rest → AreNumbers text ns → Splits word rest ns
splits text word rest [] b h = absurd h
splits text word rest (n ∷ []) b h = absurd (no_cut text word rest (number_word text n h) b)
splits text word rest (n ∷ m ∷ ns) b h =
    let same = same_cut text word h.0 rest h.1 b h.2 in record {
      n = n;
      later = m ∷ ns;
      all = refl;
      first = subst (λ (t : List ℕ). IsNumber t n) (sym same.0) h.3;
      others = subst (λ (t : List ℕ). AreNumbers t (m ∷ ns)) (sym same.1) h.4;
    }

-- a word is at most one number
pub alone : (text : List ℕ) (ns : List ℕ) → IsWord text → AreNumbers text ns → (n : ℕ) × (ns ≡ n ∷ []) × IsNumber text n
alone text [] w h = absurd h
alone text (n ∷ []) w h = (n, refl, h)
alone text (n ∷ m ∷ ns) w h = absurd (no_cut text h.0 h.1 w h.2)

-- a text has one list of numbers
pub same_numbers : (text : List ℕ) (ns ms : List ℕ) → AreNumbers text ns → AreNumbers text ms → ns ≡ ms
same_numbers text [] ms h k = absurd h
same_numbers text (n ∷ []) ms h k =
    let a = alone text ms (number_word text n h) k in
    ap (λ x. x ∷ []) (one_number text n a.0 h a.2) ∙ sym a.1
same_numbers text (n ∷ m ∷ ns) ms h k =
    let s = splits text h.0 h.1 ms h.2 k in
    let first = one_number h.0 n s.n h.3 s.first in
    let rest = same_numbers h.1 (m ∷ ns) s.later h.4 s.others in
    ap (λ x. x ∷ m ∷ ns) first ∙ ap (λ xs. s.n ∷ xs) rest ∙ sym s.all

-- ---- the numbers so far, and those of the rest

pub record HasParts (whole rest : List ℕ) (earlier : List ℕ) : Type 0 where
  pub builds : (later : List ℕ) → AreNumbers rest later → AreNumbers whole (earlier ++ later)
  pub peels : (ns : List ℕ) → AreNumbers whole ns → (later : List ℕ) × AreNumbers rest later

pub parts_none : (whole : List ℕ) → HasParts whole whole []
parts_none whole = record { builds = λ later h. h; peels = λ ns h. (ns, h) }

pub parts_more : (whole text word rest : List ℕ) (earlier : List ℕ) (n : ℕ) → HasParts whole text earlier → Begins text word rest → IsNumber word n → HasParts whole rest (earlier ++ n ∷ [])
parts_more whole text word rest earlier n h b k = record {
  builds = λ later l. subst (λ (xs : List ℕ). AreNumbers whole xs) (sym (append_assoc earlier (n ∷ []) later)) (h.builds (n ∷ later) (more_numbers text word rest n later b k l));
  peels = λ ns l. let p = h.peels ns l in let s = splits text word rest p.0 b p.1 in (s.later, s.others);
}

pub parts_fault : (whole text word rest : List ℕ) (earlier : List ℕ) (e : LineFault) → HasParts whole text earlier → Begins text word rest → IsWordFault word e → IsNumbersFault whole e
parts_fault whole text word rest earlier fault.Bad h b bad = λ ns l.
    let p = h.peels ns l in let s = splits text word rest p.0 b p.1 in bad s.n s.first
parts_fault whole text word rest earlier fault.Memory h b bad = tt

pub parts_last : (whole text : List ℕ) (earlier : List ℕ) (n : ℕ) → HasParts whole text earlier → IsNumber text n → AreNumbers whole (earlier ++ n ∷ [])
parts_last whole text earlier n h k = h.builds (n ∷ []) k

pub parts_none_last : (whole text : List ℕ) (earlier : List ℕ) (e : LineFault) → HasParts whole text earlier → IsWord text → IsWordFault text e → IsNumbersFault whole e
parts_none_last whole text earlier fault.Bad h w bad = λ ns l.
    let p = h.peels ns l in let a = alone text p.0 w p.1 in bad a.0 a.2
parts_none_last whole text earlier fault.Memory h w bad = tt

pub shorter : (text word rest : List ℕ) → Begins text word rest → length rest < length text
shorter text word rest b = let n = length-append word (32 ∷ rest) in let m : length text ≡ length (word ++ 32 ∷ rest) = ap length b.whole in omega (arith, n, m)
