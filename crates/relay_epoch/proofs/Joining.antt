-- The head of the request is what was appended.
use Rattle.std.proofs.Common.{◌≡◌, ℕ, List, ◌++◌, ap, ◌∙◌, refl, codes, append_assoc, Result, Ok, Err}
use Rattle.std.specs.Prelude.{OnOk, is_ok, if◌then◌else◌}
use Rattle.relay_epoch.specs.Messages.{put_head}

regroup : (a t b h c d z : List ℕ) → (((((a ++ t) ++ b) ++ h) ++ c) ++ d) ++ z ≡ a ++ (t ++ (b ++ (h ++ (c ++ (d ++ z)))))
regroup a t b h c d z = simp append_assoc

pub head_joined : {A E : Type 0} (last : Result A E) (host target digits t1 t2 t3 t4 t5 t6 t7 : List ℕ)
    → t1 ≡ codes "PUT "
    → t2 ≡ t1 ++ target
    → t3 ≡ t2 ++ codes " HTTP/1.1\r\nHost: "
    → t4 ≡ t3 ++ host
    → t5 ≡ t4 ++ codes "\r\nContent-Type: application/json\r\nContent-Length: "
    → t6 ≡ t5 ++ digits
    → t7 ≡ (if is_ok last then t6 ++ codes "\r\n\r\n" else t6)
    → OnOk last (t7 ≡ put_head host target digits)
unfolding put_head
head_joined (Ok u) host target digits t1 t2 t3 t4 t5 t6 t7 e1 e2 e3 e4 e5 e6 e7 =
    let z = codes "\r\n\r\n" in
    let whole : t6 ≡ ((((codes "PUT " ++ target) ++ codes " HTTP/1.1\r\nHost: ") ++ host) ++ codes "\r\nContent-Type: application/json\r\nContent-Length: ") ++ digits = rw (e6, e5, e4, e3, e2, e1) refl in
    e7 ∙ ap (λ w. w ++ z) whole ∙ regroup (codes "PUT ") target (codes " HTTP/1.1\r\nHost: ") host (codes "\r\nContent-Type: application/json\r\nContent-Length: ") digits z
head_joined (Err f) host target digits t1 t2 t3 t4 t5 t6 t7 e1 e2 e3 e4 e5 e6 e7 = tt
