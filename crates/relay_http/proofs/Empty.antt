-- No reply is empty.
use Rattle.std.proofs.Common.{◌≡◌, ℕ, List, [], ◌∷◌, ◌++◌, Option, Some, Bool, refl, sym, ◌∙◌}
use Rattle.httparse.specs.Grammar.{ResponseHead, print_response, print_blank, print_version, print_reason, print_end, print_section}
use Rattle.httparse.specs.Ascii.{space}
use Rattle.relay_http.specs.Forms.{Took}
use Rattle.relay_http.specs.Reply.{Reply, IsReplyMessage}
use Rattle.relay_http.proofs.Unique.{shown}

left_empty : (xs ys : List ℕ) → xs ++ ys ≡ [] → xs ≡ []
left_empty [] ys e = refl
left_empty (x ∷ xs) ys e = absurd (cc)

right_empty : (xs ys : List ℕ) → xs ++ ys ≡ [] → ys ≡ []
right_empty [] ys e = e
right_empty (x ∷ xs) ys e = absurd (cc)

some_within : (xs : List ℕ) (y : ℕ) (ys zs us vs : List ℕ) → xs ++ (y ∷ ys) ++ zs ++ us ++ vs ≡ [] → ⊥
some_within xs y ys zs us vs e =
    let front = left_empty (xs ++ (y ∷ ys)) zs (left_empty (xs ++ (y ∷ ys) ++ zs) us (left_empty (xs ++ (y ∷ ys) ++ zs ++ us) vs e)) in
    let digits = right_empty xs (y ∷ ys) front in
    cc

head_some : (h : ResponseHead) → print_response h ≡ [] → ⊥
unfolding print_response
head_some h e =
    some_within (print_blank h.blank ++ print_version h.minor) space h.digits (print_reason h.reason) (print_end h.line_end) (print_section h.fields h.last) e

-- nothing is read where nothing is left
pub nothing_took : (rest : Option (List ℕ)) (r : Reply) → Took IsReplyMessage (Some []) rest r → ⊥
nothing_took rest r t =
    let x = shown t.front rest [] (sym t.split) in
    let front = left_empty t.front x.0 (sym x.2) in
    let m = t.message in
    let heads = left_empty m.head m.text (sym m.bytes_are ∙ front) in
    head_some m.head_is.head (right_empty _ (print_response m.head_is.head) (sym m.head_is.bytes_are ∙ heads))
