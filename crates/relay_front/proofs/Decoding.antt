-- What a part of a path stands for.
use Rattle.std.proofs.Common.{◌≡◌, ℕ, List, true, Option, Some, None, refl, ap, sym, ◌∙◌, inl, inr, IsUtf8}
use Rattle.std.specs.Str.{is_utf8}
use Rattle.std.proofs.lemmas.Str.{IsUtf8-from_is_utf8, is_utf8-from_IsUtf8}
use Rattle.percent_encoding.specs.Percent.{percent_decode}
use Rattle.relay_front.specs.Service.{decoded}
use Rattle.relay_front.proofs.Given.{decide}

pub decoded_text : (part bytes text : List ℕ) → bytes ≡ percent_decode part → text ≡ bytes → IsUtf8 bytes → Some text ≡ decoded part
decoded_text part bytes text is same u =
    let e : is_utf8 (percent_decode part) ≡ true = ap is_utf8 (sym is) ∙ is_utf8-from_IsUtf8 bytes u in
    rw e (ap Some (same ∙ is))

pub decoded_none : (part bytes : List ℕ) → bytes ≡ percent_decode part → (IsUtf8 bytes → ⊥) → ◌≡◌ {A = Option (List ℕ)} None (decoded part)
decoded_none part bytes is not =
    elim (decide (is_utf8 (percent_decode part))) [ inl e ↦ absurd (not (IsUtf8-from_is_utf8 bytes (ap is_utf8 is ∙ e))) | inr e ↦ rw e refl ]
