-- Steps past the heads of a reply.
use Rattle.std.proofs.Common.{◌≡◌, ℕ, ◌+◌, ◌-◌, ◌<◌, List, ◌++◌, ap, ◌∙◌, sym, subst, arith, append_assoc, Option}
use Rattle.std.specs.Io.KnownBytes.{prepend_known}
use Rattle.relay_http.specs.Forms.{Form, Begins, Refused}
use Rattle.relay_http.proofs.Leading.{Leads}
use Rattle.relay_http.specs.Reply.{IsHeads, IsHeadsWith}
use Rattle.relay_http.proofs.Stands.{prepend_known-append}

pub stood_behind : (x y : List ℕ) (old mid new : Option (List ℕ)) → old ≡ prepend_known x mid → mid ≡ prepend_known y new → old ≡ prepend_known (x ++ y) new
stood_behind x y old mid new e f = e ∙ ap (prepend_known x) f ∙ sym (prepend_known-append x y new)

-- what never begins after a front is refused, with the window read too
pub refused_here : {A : Type 0} (M : Form A) (x : List ℕ) (old : Option (List ℕ)) (window : List ℕ) (left : Option (List ℕ)) → old ≡ prepend_known x (prepend_known window left) → ((s : List ℕ) → ¬ (Begins M (x ++ s))) → Refused M old left
refused_here M x old window left e never = record {
  read = x ++ window;
  stood = e ∙ sym (prepend_known-append x window left);
  never = λ more b. never (window ++ more) (subst (Begins M) (append_assoc x window more) b);
}

pub eight : (passed : ℕ) (x : List ℕ) → passed < 8 → Leads IsHeads (IsHeadsWith (8 - passed - 1)) x → Leads IsHeads (IsHeadsWith (8 - (passed + 1))) x
eight passed x below f =
    let e : 8 - passed - 1 ≡ 8 - (passed + 1) = omega (arith, below) in
    subst (λ k. Leads IsHeads (IsHeadsWith k) x) e f
