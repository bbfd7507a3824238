-- The answer that is written is a reply.
use Rattle.std.proofs.Common.{◌≡◌, ℕ, Bool, true, false, List, [], ◌∷◌, ◌++◌, refl, ap, ◌∙◌, append_assoc, codes, Some, Result, Ok, Err, OnOk, is_ok, if◌then◌else◌}
use Rattle.std.specs.List.{flat_map}
use Rattle.httparse.specs.Ascii.{crlf_bytes}
use Rattle.httparse.specs.Grammar.{print_response, Field, print_field, crlf}
use Rattle.httparse.proofs.OnLiterals.{httparse_on_literals}
use Rattle.relay_http.specs.WrittenAnswer.{answer_text, answer_tree, json_field, size_field, close_fields, ending}

joined : (status reason digits e t1 t2 t3 t4 t5 t6 t7 : List ℕ) (keep : Bool)
    → t1 ≡ codes "HTTP/1.1 "
    → t2 ≡ t1 ++ status
    → t3 ≡ t2 ++ (32 ∷ [])
    → t4 ≡ t3 ++ reason
    → t5 ≡ t4 ++ (crlf_bytes ++ (codes "Content-Type: application/json" ++ (crlf_bytes ++ codes "Content-Length: ")))
    → t6 ≡ t5 ++ digits
    → t7 ≡ t6 ++ e
    → e ≡ ending keep
    → t7 ≡ answer_text status reason digits keep
unfolding answer_text
joined status reason digits e t1 t2 t3 t4 t5 t6 t7 keep e1 e2 e3 e4 e5 e6 e7 e8 =
    let a = codes "HTTP/1.1 " in
    let b = crlf_bytes ++ (codes "Content-Type: application/json" ++ (crlf_bytes ++ codes "Content-Length: ")) in
    let f7 : t7 ≡ (((((a ++ status) ++ (32 ∷ [])) ++ reason) ++ b) ++ digits) ++ ending keep = rw (e7, e8, e6, e5, e4, e3, e2, e1) refl in
    f7 ∙ regroup a status (32 ∷ []) reason b digits (ending keep)
  where
    regroup : (a s x r b d z : List ℕ) → (((((a ++ s) ++ x) ++ r) ++ b) ++ d) ++ z ≡ a ++ (s ++ (x ++ (r ++ (b ++ (d ++ z)))))
    regroup a s x r b d z = simp (append_assoc)

-- the head of an answer, appended part by part, if the last part was
pub answer_joined : {A E : Type 0} (last : Result A E) (status reason digits e t1 t2 t3 t4 t5 t6 t7 : List ℕ) (keep : Bool)
    → t1 ≡ codes "HTTP/1.1 "
    → t2 ≡ t1 ++ status
    → t3 ≡ t2 ++ (32 ∷ [])
    → t4 ≡ t3 ++ reason
    → t5 ≡ t4 ++ (crlf_bytes ++ (codes "Content-Type: application/json" ++ (crlf_bytes ++ codes "Content-Length: ")))
    → t6 ≡ t5 ++ digits
    → t7 ≡ (if is_ok last then t6 ++ e else t6)
    → e ≡ ending keep
    → OnOk last (t7 ≡ answer_text status reason digits keep)
answer_joined (Ok u) status reason digits e t1 t2 t3 t4 t5 t6 t7 keep e1 e2 e3 e4 e5 e6 e7 e8 = joined status reason digits e t1 t2 t3 t4 t5 t6 t7 keep e1 e2 e3 e4 e5 e6 e7 e8
answer_joined (Err f) status reason digits e t1 t2 t3 t4 t5 t6 t7 keep e1 e2 e3 e4 e5 e6 e7 e8 = tt

-- a head and a body after it, if the body was appended
pub answer_ended : {A E : Type 0} (last : Result A E) (head before body given new : List ℕ)
    → before ≡ head
    → given ≡ body
    → new ≡ (if is_ok last then before ++ given else before)
    → OnOk last (new ≡ head ++ body)
answer_ended (Ok u) head before body given new e1 e2 e3 = rw (e3, e1, e2) refl
answer_ended (Err f) head before body given new e1 e2 e3 = tt

front : (status reason : List ℕ) (fields : List Field) → print_response (record { blank = []; minor = 1; digits = status; reason = Some reason; line_end = crlf; fields = fields; last = crlf }) ≡ codes "HTTP/1.1 " ++ (status ++ (32 ∷ (reason ++ (crlf_bytes ++ (flat_map print_field fields ++ crlf_bytes)))))
unfolding httparse_on_literals
front status reason fields = simp (append_assoc)

tail : (digits : List ℕ) (keep : Bool) → flat_map print_field (json_field ∷ size_field digits ∷ close_fields keep) ++ crlf_bytes ≡ codes "Content-Type: application/json" ++ (crlf_bytes ++ (codes "Content-Length: " ++ (digits ++ ending keep)))
tail digits true = ap (λ w. codes "Content-Type: application/json" ++ (crlf_bytes ++ (codes "Content-Length: " ++ w))) (append_assoc (digits ++ crlf_bytes) [] crlf_bytes ∙ append_assoc digits crlf_bytes crlf_bytes)
tail digits false =
    let g = codes "Connection: close" ++ crlf_bytes in
    ap (λ w. codes "Content-Type: application/json" ++ (crlf_bytes ++ (codes "Content-Length: " ++ w))) (append_assoc (digits ++ crlf_bytes) g crlf_bytes ∙ append_assoc digits crlf_bytes (g ++ crlf_bytes))

pub answered : (status reason digits : List ℕ) (keep : Bool) → print_response (answer_tree status reason digits keep) ≡ answer_text status reason digits keep
unfolding answer_text
answered status reason digits keep =
    front status reason (json_field ∷ size_field digits ∷ close_fields keep)
    ∙ ap (λ w. codes "HTTP/1.1 " ++ (status ++ (32 ∷ (reason ++ (crlf_bytes ++ w))))) (tail digits keep)
