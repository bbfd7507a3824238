-- What is left of a text's tokens, step by step.
use Rattle.std.proofs.Common.{◌≡◌, ℕ, List, [], ◌∷◌, ◌++◌, Option, Some, refl, ap, sym, ◌∙◌, append_assoc, append-nil}
use Rattle.json.specs.Token.{Token}
use Rattle.json.specs.Json.{after_end_array, read_key}
use Rattle.json.proofs.Grammar.{closed_array, key_token, read_key_is}
use Rattle.relay_json.specs.Walks.{IsRestOf}

pub all_left : (ts : List Token) → IsRestOf ts ts
all_left ts = ([], refl)

pub left_after : (t : Token) (rest ts : List Token) → ts ≡ t ∷ rest → IsRestOf rest ts
left_after t rest ts first = (t ∷ [], first)

-- of what is left, something is left
pub left_of_rest : (a b c : List Token) → IsRestOf b a → IsRestOf c b → IsRestOf c a
left_of_rest a b c first then = (first.0 ++ then.0, first.1 ∙ ap (λ ts. first.0 ++ ts) then.1 ∙ sym (append_assoc first.0 then.0 c))

pub left_behind : (t : Token) (ts next rest : List Token) → ts ≡ t ∷ next → IsRestOf rest next → IsRestOf rest ts
left_behind t ts next rest first then = left_of_rest ts next rest (left_after t next ts first) then

pub left_after_end : (ts rest : List Token) → after_end_array ts ≡ Some rest → IsRestOf rest ts
left_after_end ts rest e = left_after _ rest ts (closed_array ts rest e)

pub left_after_key : (ts : List Token) (k : Option (List ℕ)) (rest : List Token) → read_key ts ≡ Some (k, rest) → IsRestOf rest ts
left_after_key ts k rest e = left_after (key_token k) rest ts (read_key_is ts k rest e)

-- a reader that was stopped has no token left
pub left_at_stop : (ts rest : List Token) → rest ≡ [] → IsRestOf rest ts
left_at_stop ts rest none = (ts, sym (append-nil ts) ∙ ap (λ r. ts ++ r) (sym none))
