-- Calls of a service, one after another.
use Rattle.std.proofs.Common.{◌≡◌, ℕ, List, [], ◌∷◌, ◌++◌, ap, subst, ◌∙◌, append_assoc}
use Rattle.http.specs.declared.request.Request.{Request}
use Rattle.http_server.specs.declared.response.Response.{Response}
use Rattle.http_server.specs.Exchange.{Call, Calls, Chain}

-- what a service's calls do
abbrev Answering : Type 0 → Type 1
Answering S = S → Request (List ℕ) → Response → S → Type 0

pub calls_same : {S : Type 0} (answers : Answering S) (old new : S) (before mid after last : List Call) → mid ≡ before → last ≡ after → Calls answers old new mid after → Calls answers old new before last
calls_same answers old new before mid after last same end h = (h.0, end ∙ h.1 ∙ ap (λ l. l ++ h.0) same, h.2)

chain_on : {S : Type 0} (answers : Answering S) (a b c : S) (xs ys : List Call) → Chain answers a xs b → Chain answers b ys c → Chain answers a (xs ++ ys) c
chain_on answers a b c [] ys h k = subst (λ s. Chain answers s ys c) h k
chain_on answers a b c (x ∷ xs) ys h k = (h.0, h.1, chain_on answers h.0 b c xs ys h.2 k)

pub calls_on : {S : Type 0} (answers : Answering S) (a b c : S) (before mid after : List Call) → Calls answers a b before mid → Calls answers b c mid after → Calls answers a c before after
calls_on answers a b c before mid after h k =
    (h.0 ++ k.0, k.1 ∙ ap (λ l. l ++ k.0) h.1 ∙ append_assoc before h.0 k.0, chain_on answers a b c h.0 k.0 h.2 k.2)
