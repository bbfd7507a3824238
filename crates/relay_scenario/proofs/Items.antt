-- The items of a request, one after another.
use Rattle.std.proofs.Common.{◌≡◌, ℕ, ◌+◌, ◌≤◌, List, [], ◌∷◌, ◌++◌, length, Option, None, Some, is_some, false, refl, ap, sym, subst, ◌∙◌, arith, append_assoc, length-append, append-nil}
use Rattle.std.specs.List.{flat_map}
use Rattle.std.proofs.lemmas.Grind.{flat_map-append}
use Rattle.relay_action.specs.declared.key.DocKey.{DocKey}
use Rattle.relay_world.specs.State.{World, write_at}
use Rattle.relay_world.specs.Memory.{IsWriteAt}
use Rattle.relay_scenario.specs.Answers.{AddsItems, AreItems, item_text}

-- the items before a number were added to a text
pub record AddsItemsBefore (w : World) (request item : ℕ) (before now : List ℕ) : Type 0 where
  pub items : List (DocKey × ℕ)
  pub builds : (later : List (DocKey × ℕ)) → AreItems w request item later → AreItems w request 1 (items ++ later)
  pub text : now ≡ before ++ flat_map item_text items
  pub short : item ≤ length now + 1

pub adds_none : (w : World) (request : ℕ) (before : List ℕ) → AddsItemsBefore w request 1 before before
adds_none w request before = record { items = []; builds = λ later h. h; text = sym (append-nil before); short = omega arith }

pub adds_more : (w : World) (request item : ℕ) (before now after : List ℕ) (key : DocKey) (version : ℕ) → AddsItemsBefore w request item before now → IsWriteAt w request item key version → after ≡ now ++ item_text (key, version) → AddsItemsBefore w request (item + 1) before after
adds_more w request item before now after key version a h e = record {
  items = a.items ++ (key, version) ∷ [];
  builds = λ later l. subst (λ (is : List (DocKey × ℕ)). AreItems w request 1 is) (sym (append_assoc a.items ((key, version) ∷ []) later)) (a.builds ((key, version) ∷ later) (h, l));
  text =
      let parts = flat_map-append item_text a.items ((key, version) ∷ []) in
      let one : flat_map item_text ((key, version) ∷ []) ≡ item_text (key, version) = append-nil (item_text (key, version)) in
      e ∙ ap (λ t. t ++ item_text (key, version)) a.text ∙ append_assoc before (flat_map item_text a.items) (item_text (key, version)) ∙ ap (λ t. before ++ t) (sym (parts ∙ ap (λ t. flat_map item_text a.items ++ t) one));
  short = let n = length-append now (item_text (key, version)) in let m = ap length e in let s = a.short in omega (arith, n, m, s);
}

pub adds_all : (w : World) (request item : ℕ) (before now : List ℕ) → AddsItemsBefore w request item before now → write_at w request item ≡ None → AddsItems w request before now
adds_all w request item before now a h = (a.items ++ [], a.builds [] h, rw (append-nil a.items) a.text)

pub is_none : {X : Type 0} (o : Option X) → false ≡ is_some o → o ≡ None
is_none None e = refl
is_none (Some x) e = cc
