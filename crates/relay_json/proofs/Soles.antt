-- The one member of an object, found as its members are passed.
use Rattle.std.proofs.Common.{◌≡◌, ℕ, Bool, true, false, List, Option, Some, None, Ordering, Less, Equal, Greater, nat_cmp, is_eq, is_some, if◌then◌else◌, option_and_then, refl, ap, sym, ◌∙◌, subst, true≢false, Bor}
use Rattle.std.specs.Prelude.{bytes_eq}
use Rattle.std.specs.Cmp.Lexicographic.{slice_cmp}
use Rattle.std.specs.Ordering.{match_ordering}
use Rattle.std.proofs.lemmas.Map.Text.{is_eq-slice_cmp}
use Rattle.std.proofs.lemmas.Bool.{false_from_ne_true}
use Rattle.std.proofs.lemmas.Slice.Eq.{bytes_eq-Decides}
use Rattle.serde_json.specs.Data.{Data, null, boolean, number, string, array, object, Members, member, no_members, put}
use Rattle.serde_json.specs.Find.{as_object}
use Rattle.relay_json.specs.Sole.{sole, sole_object, AreSeveral, HoldsSole, and_member, found_object, IsSoleObject}
use Rattle.relay_json.specs.Walks.{IsGathered}
use Rattle.relay_json.specs.declared.sole.Found.{Found}
use Rattle.relay_json.specs.declared.sole.Found.TheVariants as found

-- ---- members put at a name

same_name : (k l : List ℕ) (o : Ordering) → slice_cmp nat_cmp k l ≡ o → is_eq o ≡ bytes_eq k l
same_name k l o e = sym (ap is_eq e) ∙ is_eq-slice_cmp k l

is_member : (k l : List ℕ) (d e : Data) (ms : Members) (o : Ordering) → (n : List ℕ) × (x : Data) × (rest : Members) × (match_ordering o (member k d (member l e ms)) (member l d ms) (member l e (put k d ms)) ≡ member n x rest)
is_member k l d e ms Less = (k, d, member l e ms, refl)
is_member k l d e ms Equal = (l, d, ms, refl)
is_member k l d e ms Greater = (l, e, put k d ms, refl)

AreSeveral-member : (k n : List ℕ) (d x : Data) (rest ms : Members) → ms ≡ member n x rest → AreSeveral (member k d ms)
AreSeveral-member k n d x rest ms e = subst (λ m. AreSeveral (member k d m)) (sym e) tt

put_again : (k l m : List ℕ) (d e x : Data) (ms : Members) (o : Ordering) → AreSeveral (match_ordering o (member k d (member l e (member m x ms))) (member l d (member m x ms)) (member l e (put k d (member m x ms))))
put_again k l m d e x ms Less = tt
put_again k l m d e x ms Equal = tt
put_again k l m d e x ms Greater = let inner = is_member k m d x ms (slice_cmp nat_cmp k m) in AreSeveral-member l inner.0 e inner.1 inner.2 _ inner.3

AreSeveral-put : (k : List ℕ) (d : Data) (ms : Members) → AreSeveral ms → AreSeveral (put k d ms)
AreSeveral-put k d no_members h = absurd h
AreSeveral-put k d (member l e no_members) h = absurd h
AreSeveral-put k d (member l e (member m x ms)) h = put_again k l m d e x ms (slice_cmp nat_cmp k l)

put_beside : (k l : List ℕ) (d e : Data) (o : Ordering) → is_eq o ≡ false → AreSeveral (match_ordering o (member k d (member l e no_members)) (member l d no_members) (member l e (put k d no_members)))
put_beside k l d e Less h = tt
put_beside k l d e Equal h = absurd (true≢false h)
put_beside k l d e Greater h = tt

put_over : (k l : List ℕ) (d e : Data) (o : Ordering) → is_eq o ≡ true → match_ordering o (member k d (member l e no_members)) (member l d no_members) (member l e (put k d no_members)) ≡ member l d no_members
put_over k l d e Less h = absurd (true≢false (sym h))
put_over k l d e Equal h = refl
put_over k l d e Greater h = absurd (true≢false (sym h))

-- ---- what is found

module _ {F : Type 0} (Holds : F → Members → Type 0) where
  one_more : (first name : Bor (List ℕ)) (g f : Option F) (d e : Data) (b : Bool) → bytes_eq first.now name.now ≡ b → IsGathered Holds d f
      → HoldsSole Holds (if b then found.One name f else found.Several) (put name.now d (member first.now e no_members))
  one_more first name g f d e true same h =
      let is : first.now ≡ name.now = (bytes_eq-Decides first.now name.now).0 same in
      let equal : is_eq (slice_cmp nat_cmp name.now first.now) ≡ true = is_eq-slice_cmp name.now first.now ∙ (bytes_eq-Decides name.now first.now).1 (sym is) in
      (d, put_over name.now first.now d e _ equal ∙ ap (λ n. member n d no_members) is, h)
  one_more first name g f d e false other h =
      let turned = false_from_ne_true (bytes_eq name.now first.now) (λ is. true≢false (sym ((bytes_eq-Decides first.now name.now).1 (sym ((bytes_eq-Decides name.now first.now).0 is))) ∙ other)) in
      put_beside name.now first.now d e _ (is_eq-slice_cmp name.now first.now ∙ turned)

  pub HoldsSole-and_member : (was : Found F) (name : Bor (List ℕ)) (f : Option F) (d : Data) (ms : Members) → HoldsSole Holds was ms → IsGathered Holds d f → HoldsSole Holds (and_member was name f) (put name.now d ms)
  HoldsSole-and_member found.Nothing name f d ms h g = (d, ap (put name.now d) h, g)
  HoldsSole-and_member (found.One first was) name f d ms h g =
      subst (λ m. HoldsSole Holds (and_member (found.One first was) name f) (put name.now d m)) (sym h.1) (one_more first name was f d h.0 _ refl g)
  HoldsSole-and_member found.Several name f d ms h g = AreSeveral-put name.now d ms h

object_of : (d : Data) (ms : Members) → as_object d ≡ Some ms → d ≡ object ms
object_of null ms e = absurd (cc)
object_of (boolean b) ms e = absurd (cc)
object_of (number n) ms e = absurd (cc)
object_of (string s) ms e = absurd (cc)
object_of (array ds) ms e = absurd (cc)
object_of (object ns) ms e = let same : ns ≡ ms = cc in ap object same

several : (ms : Members) → AreSeveral ms → sole ms ≡ None
several no_members h = absurd h
several (member k d no_members) h = absurd h
several (member k d (member l e ms)) h = refl

-- of the one member, if its value is this object
one_object : (name : List ℕ) (d : Data) (ms inner : Members) → ms ≡ member name d no_members → as_object d ≡ Some inner → sole_object (object ms) ≡ Some (name, object inner)
one_object name d ms inner is e =
    let P : Members → Type 0 = λ x. sole_object (object x) ≡ Some (name, object inner) in
    subst P (sym is ∙ refl) (rw (object_of d inner e) refl)

no_one : (name : List ℕ) (d : Data) (ms : Members) → ms ≡ member name d no_members → as_object d ≡ None → sole_object (object ms) ≡ None
no_one name d ms is e = ap (λ x. sole_object (object x)) is ∙ rw e refl

pub IsSoleObject-found_object : {F : Type 0} (Holds : F → Members → Type 0) (was : Found F) (ms : Members) → HoldsSole Holds was ms → IsSoleObject Holds (object ms) (found_object was)
IsSoleObject-found_object Holds found.Nothing ms h = ap (λ x. sole_object (object x)) h
IsSoleObject-found_object Holds (found.One name None) ms h = no_one name.now h.0 ms h.1 h.2
IsSoleObject-found_object Holds (found.One name (Some f)) ms h = (h.2.0, one_object name.now h.0 ms h.2.0 h.1 h.2.1, h.2.2)
IsSoleObject-found_object Holds found.Several ms h = ap (option_and_then (λ m. if is_some (as_object m.1) then Some m else None)) (several ms h)
