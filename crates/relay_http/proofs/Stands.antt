-- Messages at the front of what is to come.
use Rattle.std.proofs.Common.{◌≡◌, ℕ, ◌<◌, ◌≤◌, min, Bool, false, List, [], ◌∷◌, ◌++◌, length, take, drop, refl, ap, ◌∙◌, sym, subst, arith, Option, Some, None, Result, Ok, Err, append_assoc, inl, inr, ◌⊎◌}
use Rattle.std.proofs.lemmas.Grind.{common_steps}
use Rattle.std.proofs.lemmas.List.{take_at, take-append-drop, take-append-le, length-take-le, drop_all}
use Rattle.std.proofs.lemmas.Bool.{false≢true}
use Rattle.std.specs.Prelude.{IfOk}
use Rattle.std.specs.Io.KnownBytes.{IsAtEnd}
use Rattle.std.specs.Io.KnownBytes.{prepend_known}
use Rattle.relay_http.specs.Steps.{Grown, Moved}
use Rattle.relay_http.specs.Forms.{Form, Begins, Took, Stopped, Fails}
use Rattle.relay_http.specs.declared.fault.HttpFault.{HttpFault}
use Rattle.relay_http.specs.declared.fault.HttpFault.TheVariants as fault

pub prepend_known-append : (xs ys : List ℕ) (shown : Option (List ℕ)) → prepend_known (xs ++ ys) shown ≡ prepend_known xs (prepend_known ys shown)
prepend_known-append xs ys None = refl
prepend_known-append xs ys (Some bytes) = ap Some (append_assoc xs ys bytes)

-- what is to come is unchanged when the window grows
pub grown_stands : (before after : List ℕ) (old new : Option (List ℕ)) (n : ℕ) → Grown before after old new n → prepend_known before old ≡ prepend_known after new
grown_stands before after old new n g = ap (prepend_known before) g.stream ∙ sym (prepend_known-append before g.bytes new) ∙ ap (λ w. prepend_known w new) (sym g.window)

-- a front of the window is taken
pub skipped_stands : (window : List ℕ) (left : Option (List ℕ)) (n : ℕ) → prepend_known window left ≡ prepend_known (take n window) (prepend_known (drop n window) left)
skipped_stands window left n = ap (λ w. prepend_known w left) (sym (take-append-drop n window)) ∙ prepend_known-append (take n window) (drop n window) left

-- a message is not longer than the limit, and does not depend on whether the stream ends
pub record IsShort {A : Type 0} (limit : ℕ) (M : Form A) : Type 0 where
  pub size : (x : List ℕ) (e : Bool) (a : A) → M x e a → length x ≤ limit
  pub either : (x : List ℕ) (e : Bool) (a : A) → M x e a → M x false a

-- a front that is not longer than the first part is a front of that
pub front_within : (xs more front rest : List ℕ) → xs ++ more ≡ front ++ rest → length front ≤ length xs → xs ≡ front ++ drop (length front) xs
front_within xs more front rest e l =
    let t : take (length front) xs ≡ front = sym (take-append-le (length front) xs more l) ∙ ap (take (length front)) e ∙ take_at front rest (length front) refl in
    sym (take-append-drop (length front) xs) ∙ ap (λ w. w ++ drop (length front) xs) t

-- what has no message at its front and is as long as one may be never has
pub full_never : {A : Type 0} (M : Form A) (limit : ℕ) → IsShort limit M → (xs : List ℕ) → limit ≤ length xs → ¬ (Begins M xs) → (more : List ℕ) → ¬ (Begins M (xs ++ more))
full_never M limit short xs full none more b =
    let size = short.size b.front b.ends b.value b.message in
    none (record {
      front = b.front;
      ends = false;
      value = b.value;
      rest = drop (length b.front) xs;
      message = short.either b.front b.ends b.value b.message;
      split = front_within xs more b.front b.rest b.split (omega (arith, size, full));
      last = λ e. absurd (false≢true e);
    })

pub took_front : {A : Type 0} (M : Form A) (old left : Option (List ℕ)) (window : List ℕ) (n : ℕ) (a : A) → old ≡ prepend_known window left → M (take n window) false a → Took M old (prepend_known (drop n window) left) a
took_front M old left window n a e m = record {
  front = take n window;
  ends = false;
  message = m;
  split = e ∙ skipped_stands window left n;
  last = λ x. absurd (false≢true x);
}

pub refused_window : {A : Type 0} (M : Form A) (old left : Option (List ℕ)) (window : List ℕ) (f : HttpFault) → old ≡ prepend_known window left → ((f ≡ fault.Malformed) ⊎ (f ≡ fault.HeadLong)) → ((more : List ℕ) → ¬ (Begins M (window ++ more))) → Fails M old left f
refused_window M old left window f e (inl m) never = subst (Fails M old left) (sym m) (record { read = window; stood = e; never = never })
refused_window M old left window f e (inr m) never = subst (Fails M old left) (sym m) (record { read = window; stood = e; never = never })

pub prepend_known-nil : (shown : Option (List ℕ)) → prepend_known [] shown ≡ shown
prepend_known-nil None = refl
prepend_known-nil (Some bytes) = refl

pub no_bytes : (bytes : List ℕ) → length bytes ≡ 0 → bytes ≡ []
no_bytes [] l = refl
no_bytes (b ∷ bytes) l = absurd (omega (arith, l))

-- if none came, nothing was left, and nothing is
pub none_came : (before after : List ℕ) (old new : Option (List ℕ)) (n : ℕ) → Grown before after old new n → n ≡ 0 → old ≡ new
none_came before after old new n g z = g.stream ∙ ap (λ b. prepend_known b new) (no_bytes g.bytes (g.length_is ∙ z)) ∙ prepend_known-nil new

pub stopped_window : {A : Type 0} (M : Form A) (total : Option (List ℕ)) (before after : List ℕ) (old new : Option (List ℕ)) (n : ℕ)
    → Grown before after old new n → n ≡ 0 → total ≡ prepend_known before old → ¬ (Begins M before) → Stopped M total new
stopped_window M total before after old new n g z stands none =
    let same = none_came before after old new n g z in
    record {
      read = before;
      stood = stands ∙ ap (prepend_known before) same;
      end = subst IsAtEnd same (g.end z);
      none = none;
    }

-- if a window is still empty after it was filled, the stream is at its end
pub empty_ended : (before after : List ℕ) (old new : Option (List ℕ)) (n : ℕ) → Grown before after old new n → length after ≡ 0 → IsAtEnd new
empty_ended before after old new n g l =
    let z : n ≡ 0 = grind (arith, common_steps, g.length_is, g.window, l) in
    subst IsAtEnd (none_came before after old new n g z) (g.end z)

-- bytes went straight from the stream to the end of a list, if the window is empty
pub moved_straight : (window : List ℕ) (old new : Option (List ℕ)) (before after : List ℕ) (most n : ℕ) → length window ≡ 0 → n ≤ most → Grown before after old new n → Moved (prepend_known window old) (prepend_known window new) new before after most n
moved_straight window old new before after most n empty bound g = record {
  bytes = g.bytes;
  length_is = g.length_is;
  bound = bound;
  split = bare old ∙ g.stream ∙ ap (prepend_known g.bytes) (sym (bare new));
  appended = g.window;
  end = λ z. (bare new, subst IsAtEnd (none_came before after old new n g z) (g.end z));
}
  where
    bare : (shown : Option (List ℕ)) → prepend_known window shown ≡ shown
    bare shown = ap (λ w. prepend_known w shown) (no_bytes window empty) ∙ prepend_known-nil shown

-- the same of the result of a read
pub moves_straight : {E : Type 0} (r : Result ℕ E) (window : List ℕ) (old new : Option (List ℕ)) (before after : List ℕ) (most : ℕ) → length window ≡ 0
    → IfOk r (λ n. n ≤ most) → IfOk r (Grown before after old new) → IfOk r (Moved (prepend_known window old) (prepend_known window new) new before after most)
moves_straight (Ok n) window old new before after most empty bound g = moved_straight window old new before after most n empty bound g
moves_straight (Err e) window old new before after most empty bound g = tt

-- bytes of the window were moved to the end of a list
pub moved_front : (old left : Option (List ℕ)) (window list after : List ℕ) (most n : ℕ) → old ≡ prepend_known window left → n ≡ min (length window) most → 0 < most → (length window ≡ 0 → IsAtEnd left) → after ≡ list ++ take n window
    → Moved old (prepend_known (drop n window) left) left list after most n
moved_front old left window list after most n stands count some end appended =
    let z : n ≡ 0 → length window ≡ 0 = λ e. omega (arith, count, some, e) in
    record {
      bytes = take n window;
      length_is = length-take-le n window (omega (arith, count));
      bound = omega (arith, count);
      split = stands ∙ skipped_stands window left n;
      appended = appended;
      end = λ e. (nothing window left n (z e), end (z e));
    }
  where
    nothing : (w : List ℕ) (left : Option (List ℕ)) (n : ℕ) → length w ≡ 0 → prepend_known (drop n w) left ≡ left
    nothing w left n l = ap (λ v. prepend_known (drop n v) left) (no_bytes w l) ∙ ap (λ v. prepend_known v left) (drop_all n [] (omega arith)) ∙ prepend_known-nil left
