-- What lanes say.
use Rattle.std.proofs.Common.{◌≡◌, ◌≢◌, ℕ, Bool, true, false, eqb, eq-eqb, ne_eqb, List, [], ◌∷◌, ◌++◌, Option, Some, None, sym, refl, ap, ◌∙◌, subst, ⊎_elim, append-nil}
use Rattle.std.proofs.lemmas.Bool.Decides.{eqb_tells}
use Rattle.std.proofs.lemmas.List.{map-append}
use Rattle.relay_receipts.specs.declared.notice.Notice.{Notice}
use Rattle.relay_receipts.specs.Notices.{said_by, says, IsSaid, HasLast}

module _ {T : Type 0} where
  pub said_by-append : (l : ℕ) (a b : List (Notice T)) → said_by l (a ++ b) ≡ said_by l a ++ said_by l b
  said_by-append l [] b = refl
  said_by-append l (n ∷ ns) b =
      ⊎_elim (λ (e : (eqb n.lane l ≡ true) × (n.lane ≡ l)). rw e.0 (ap (λ k. n.told ∷ k) (said_by-append l ns b)))
      (λ (e : (eqb n.lane l ≡ false) × (n.lane ≢ l)). rw e.0 (said_by-append l ns b)) (eqb_tells n.lane l)

  -- a notice of the lane joins what it said, and one of another lane does not
  pub said_by-own : (l : ℕ) (a : List (Notice T)) (n : Notice T) → n.lane ≡ l → said_by l (a ++ n ∷ []) ≡ said_by l a ++ n.told ∷ []
  said_by-own l a n e = said_by-append l a (n ∷ []) ∙ ap (λ k. said_by l a ++ k) (rw (eq-eqb n.lane l e) refl)

  pub said_by-other : (l : ℕ) (a : List (Notice T)) (n : Notice T) → n.lane ≢ l → said_by l (a ++ n ∷ []) ≡ said_by l a
  said_by-other l a n e = said_by-append l a (n ∷ []) ∙ rw (ne_eqb n.lane l e) (append-nil (said_by l a))

  not_empty : (a b : List (Option T)) (x : Option T) → a ++ x ∷ b ≢ []
  not_empty [] b x e = cc
  not_empty (y ∷ ys) b x e = cc

  -- a lane with a notice in the list has said something
  pub has_said : (l : ℕ) (a b : List (Notice T)) (n : Notice T) → n.lane ≡ l → said_by l (a ++ n ∷ b) ≢ []
  has_said l a b n e none =
      let there : said_by l (a ++ n ∷ b) ≡ said_by l a ++ n.told ∷ said_by l b = said_by-append l a (n ∷ b) ∙ ap (λ k. said_by l a ++ k) (rw (eq-eqb n.lane l e) refl) in
      not_empty (said_by l a) (said_by l b) n.told (sym there ∙ none)

  pub both_empty : (a b : List (Option T)) → a ++ b ≡ [] → (a ≡ []) × (b ≡ [])
  both_empty [] b e = (refl, e)
  both_empty (x ∷ xs) b e = absurd (not_empty [] (xs ++ b) x e)

  -- ---- what a lane may say

  pub said-nil : IsSaid {T = T} []
  said-nil = ([], false, refl)

  says-cons : (x : T) (told : List T) (closed : Bool) → says (x ∷ told) closed ≡ Some x ∷ says told closed
  says-cons x told false = refl
  says-cons x told true = refl

  -- one more ending, or that the lane tells no more
  pub says-push : (told : List T) (x : T) → says told false ++ Some x ∷ [] ≡ says (told ++ x ∷ []) false
  says-push told x = sym (map-append Some told (x ∷ []))

  pub says-close : (told : List T) → says told false ++ None ∷ [] ≡ says told true
  says-close told = refl

  said-cons : (x : T) (said : List (Option T)) → IsSaid said → IsSaid (Some x ∷ said)
  said-cons x said h = (x ∷ h.0, h.1, ap (λ l. Some x ∷ l) h.2 ∙ sym (says-cons x h.0 h.1))

  head_same : (x y : Option T) (a b : List (Option T)) → x ∷ a ≡ y ∷ b → x ≡ y
  head_same x y a b e = cc

  tail_same : (x y : Option T) (a b : List (Option T)) → x ∷ a ≡ y ∷ b → a ≡ b
  tail_same x y a b e = cc

  -- the front of what a lane may say is what a lane may say
  pub said-front : (a b : List (Option T)) (told : List T) (closed : Bool) → a ++ b ≡ says told closed → IsSaid a
  said-front [] b told closed e = said-nil
  said-front (x ∷ xs) b [] false e = absurd (not_empty [] (xs ++ b) x e)
  said-front (x ∷ xs) b [] true e = ([], true, ap (λ y. y ∷ xs) (head_same x None (xs ++ b) [] e) ∙ ap (λ l. None ∷ l) (both_empty xs b (tail_same x None (xs ++ b) [] e)).0)
  said-front (x ∷ xs) b (t ∷ ts) closed e =
      let f = e ∙ says-cons t ts closed in
      let rest = said-front xs b ts closed (tail_same x (Some t) (xs ++ b) (says ts closed) f) in
      subst (λ y. IsSaid (y ∷ xs)) (sym (head_same x (Some t) (xs ++ b) (says ts closed) f)) (said-cons t xs rest)

  some_none : (x : T) → Some x ≡ None → ⊥
  some_none x e = cc

  -- nothing follows a lane's last notice
  pub nothing_after : (a b : List (Option T)) (told : List T) (closed : Bool) → a ++ b ≡ says told closed → HasLast a → b ≡ []
  nothing_after [] b told closed e h = absurd h
  nothing_after (None ∷ xs) b [] false e h = absurd (not_empty [] (xs ++ b) None e)
  nothing_after (None ∷ xs) b [] true e h = (both_empty xs b (tail_same None None (xs ++ b) [] e)).1
  nothing_after (None ∷ xs) b (t ∷ ts) closed e h = absurd (some_none t (sym (head_same None (Some t) (xs ++ b) (says ts closed) (e ∙ says-cons t ts closed))))
  nothing_after (Some x ∷ xs) b [] false e h = absurd (not_empty [] (xs ++ b) (Some x) e)
  nothing_after (Some x ∷ xs) b [] true e h = absurd (some_none x (head_same (Some x) None (xs ++ b) [] e))
  nothing_after (Some x ∷ xs) b (t ∷ ts) closed e h = nothing_after xs b ts closed (tail_same (Some x) (Some t) (xs ++ b) (says ts closed) (e ∙ says-cons t ts closed)) h
