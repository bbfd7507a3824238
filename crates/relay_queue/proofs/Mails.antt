-- Lists of messages.
use Rattle.std.proofs.Common.{◌≡◌, ◌≢◌, ℕ, ◌+◌, ◌≤◌, true, false, eqb, eq-eqb, ne_eqb, List, [], ◌∷◌, ◌++◌, length, sym, refl, ap, ◌∙◌, ⊎_elim, inl, inr, append-nil, arith}
use Rattle.std.proofs.lemmas.Bool.Decides.{eqb_tells}
use Rattle.relay_action.specs.declared.mail.Mail.{Mail}
use Rattle.relay_queue.specs.Messages.{mail_of, AreNumberedFrom, IsDone, HasDone, NothingAfterDone, IsWellSent}

pub mail_of-append : (p : ℕ) (a b : List Mail) → mail_of p (a ++ b) ≡ mail_of p a ++ mail_of p b
mail_of-append p [] b = refl
mail_of-append p (m ∷ ms) b =
    ⊎_elim (λ (e : (eqb m.sender p ≡ true) × (m.sender ≡ p)). rw e.0 (ap (λ l. m ∷ l) (mail_of-append p ms b)))
    (λ (e : (eqb m.sender p ≡ false) × (m.sender ≢ p)). rw e.0 (mail_of-append p ms b)) (eqb_tells m.sender p)

-- a message of the sender joins its list, and one of another sender does not
pub mail_of-own : (p : ℕ) (a : List Mail) (x : Mail) → x.sender ≡ p → mail_of p (a ++ x ∷ []) ≡ mail_of p a ++ x ∷ []
mail_of-own p a x e = mail_of-append p a (x ∷ []) ∙ ap (λ l. mail_of p a ++ l) (rw (eq-eqb x.sender p e))

pub mail_of-other : (p : ℕ) (a : List Mail) (x : Mail) → x.sender ≢ p → mail_of p (a ++ x ∷ []) ≡ mail_of p a
mail_of-other p a x n = mail_of-append p a (x ∷ []) ∙ rw (ne_eqb x.sender p n) (append-nil (mail_of p a))

pub length-mail_of : (p : ℕ) (ms : List Mail) → length (mail_of p ms) ≤ length ms
length-mail_of p [] = omega arith
length-mail_of p (m ∷ ms) =
    ⊎_elim (λ (e : (eqb m.sender p ≡ true) × (m.sender ≡ p)). rw e.0 (omega (arith, length-mail_of p ms)))
    (λ (e : (eqb m.sender p ≡ false) × (m.sender ≢ p)). rw e.0 (omega (arith, length-mail_of p ms))) (eqb_tells m.sender p)

not_empty : (a b : List Mail) (x : Mail) → a ++ x ∷ b ≢ []
not_empty [] b x e = cc
not_empty (m ∷ ms) b x e = cc

-- a sender with a message in the list has some
pub has_mail : (p : ℕ) (a b : List Mail) (x : Mail) → x.sender ≡ p → mail_of p (a ++ x ∷ b) ≢ []
has_mail p a b x e n =
    let there : mail_of p (a ++ x ∷ b) ≡ mail_of p a ++ x ∷ mail_of p b = mail_of-append p a (x ∷ b) ∙ ap (λ l. mail_of p a ++ l) (rw (eq-eqb x.sender p e)) in
    not_empty (mail_of p a) (mail_of p b) x (sym there ∙ n)

-- if no sender has a message, there is none
pub no_mail : (a b : List Mail) → ((p : ℕ) → mail_of p (a ++ b) ≡ []) → b ≡ []
no_mail a [] h = refl
no_mail a (x ∷ xs) h = absurd (has_mail x.sender a xs x refl (h x.sender))

numbered-push : (n : ℕ) (a : List Mail) (x : Mail) → AreNumberedFrom n a → x.number ≡ n + length a → AreNumberedFrom n (a ++ x ∷ [])
numbered-push n [] x h e = (omega arith, tt)
numbered-push n (m ∷ ms) x h e = (h.0, numbered-push (n + 1) ms x h.1 (omega arith))

numbered-front : (n : ℕ) (a b : List Mail) → AreNumberedFrom n (a ++ b) → AreNumberedFrom n a
numbered-front n [] b h = tt
numbered-front n (m ∷ ms) b h = (h.0, numbered-front (n + 1) ms b h.1)

last-push : (a : List Mail) (x : Mail) → ¬ HasDone a → NothingAfterDone (a ++ x ∷ [])
last-push [] x h = ((λ _. refl), tt)
last-push (m ∷ ms) x h = ((λ d. absurd (h (inl d))), last-push ms x (λ d. h (inr d)))

pub both_empty : (a b : List Mail) → a ++ b ≡ [] → (a ≡ []) × (b ≡ [])
both_empty [] b e = (refl, e)
both_empty (m ∷ ms) b e = cc

last-front : (a b : List Mail) → NothingAfterDone (a ++ b) → NothingAfterDone a
last-front [] b h = tt
last-front (m ∷ ms) b h = ((λ d. (both_empty ms b (h.0 d)).0), last-front ms b h.1)

-- nothing follows a list with a Done
pub nothing_after : (a b : List Mail) → NothingAfterDone (a ++ b) → HasDone a → b ≡ []
nothing_after [] b h d = absurd d
nothing_after (m ∷ ms) b h d = ⊎_elim (λ (e : IsDone m). (both_empty ms b (h.0 e)).1) (λ (e : HasDone ms). nothing_after ms b h.1 e) d

pub done-push : (a : List Mail) (x : Mail) → IsDone x → HasDone (a ++ x ∷ [])
done-push [] x d = inl d
done-push (m ∷ ms) x d = inr (done-push ms x d)

pub undone-push : (a : List Mail) (x : Mail) → ¬ HasDone a → ¬ IsDone x → ¬ HasDone (a ++ x ∷ [])
undone-push [] x h n = ⊎_elim n (λ e. e)
undone-push (m ∷ ms) x h n = ⊎_elim (λ (e : IsDone m). h (inl e)) (undone-push ms x (λ e. h (inr e)) n)

pub well_sent-nil : IsWellSent []
well_sent-nil = (tt, tt)

pub well_sent-push : (a : List Mail) (x : Mail) → IsWellSent a → ¬ HasDone a → x.number ≡ length a + 1 → IsWellSent (a ++ x ∷ [])
well_sent-push a x h n e = (numbered-push 1 a x h.0 (omega arith), last-push a x n)

pub well_sent-front : (a b : List Mail) → IsWellSent (a ++ b) → IsWellSent a
well_sent-front a b h = (numbered-front 1 a b h.0, last-front a b h.1)
