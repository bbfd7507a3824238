-- What was found of a reply so far, and one more member or entry.
use Rattle.std.proofs.Common.{◌≡◌, ℕ, zero, suc, Bool, true, false, List, [], ◌∷◌, ◌++◌, length, bytes_eq, Option, Some, option_and_then, true≢false, sym, ap, subst, ◌∙◌}
use Rattle.std.proofs.lemmas.Slice.Eq.{bytes_eq-Decides}
use Rattle.std.proofs.lemmas.Option.{same_Some}
use Rattle.serde_json.specs.Data.{Data, null, boolean, number, string, array, object, Items, no_items, item, Members, no_members, member, put}
use Rattle.serde_json.specs.Find.{get_member}
use Rattle.serde_json.proofs.Views.{get_member-put, get_member-put_other}
use Rattle.relay_json.specs.Items.{and_item}
use Rattle.relay_json.specs.Sole.{sole_object}
use Rattle.relay_results.specs.declared.outcome.Outcome.{Outcome}
use Rattle.relay_results.specs.Replies.{IsEntry, IsNoEntry, AreEntries, IsBadAt}
use Rattle.relay_results.specs.Parts.{SayUpTo}

-- ---- one more member

-- what the value of a name contributes, after a member of this name
pub told_here : {A : Type 0} (f : Data → Option A) (k name : List ℕ) (d : Data) (ms : Members) (found : Option A) → name ≡ k → found ≡ f d
    → found ≡ option_and_then f (get_member k (put name d ms))
told_here f k name d ms found same is =
    is ∙ sym (ap (option_and_then f) (subst (λ n. get_member k (put n d ms) ≡ Some d) (sym same) (get_member-put k d ms)))

-- after a member of another name it is as before
pub told_before : {A : Type 0} (f : Data → Option A) (k name : List ℕ) (d : Data) (ms : Members) (found : Option A) → (name ≡ k → ⊥)
    → found ≡ option_and_then f (get_member k ms) → found ≡ option_and_then f (get_member k (put name d ms))
told_before f k name d ms found apart is = is ∙ sym (ap (option_and_then f) (get_member-put_other k name d ms (λ e. apart (sym e))))

pub differ : (a b : List ℕ) → bytes_eq a b ≡ false → a ≡ b → ⊥
differ a b apart e = true≢false (sym ((bytes_eq-Decides a b).1 e) ∙ apart)

pub other_name : (name j k : List ℕ) → name ≡ j → bytes_eq j k ≡ false → name ≡ k → ⊥
other_name name j k same apart e = differ j k apart (sym same ∙ e)

-- ---- one more entry

pub one_more : (ds : Items) (os : List Outcome) (d : Data) (o : Outcome) → AreEntries ds os → IsEntry d o → AreEntries (and_item ds d) (os ++ o ∷ [])
one_more no_items [] d o h e = (e, tt)
one_more no_items (p ∷ os) d o h e = absurd h
one_more (item x ds) [] d o h e = absurd h
one_more (item x ds) (p ∷ os) d o h e = (h.0, one_more ds os d o h.1 e)

pub first_bad : (ds : Items) (os : List Outcome) (d : Data) → AreEntries ds os → IsNoEntry d → IsBadAt (and_item ds d) (length os)
first_bad no_items [] d h bad = bad
first_bad no_items (p ∷ os) d h bad = absurd h
first_bad (item x ds) [] d h bad = absurd h
first_bad (item x ds) (p ∷ os) d h bad = ((p, h.0), first_bad ds os d h.1 bad)

pub still_bad : (ds : Items) (place : ℕ) (d : Data) → IsBadAt ds place → IsBadAt (and_item ds d) place
still_bad no_items place d h = absurd h
still_bad (item x ds) zero d h = h
still_bad (item x ds) (suc place) d h = (h.0, still_bad ds place d h.1)

-- entries are passed after the first that states no outcome
pub passes : (ds : Items) (os : List Outcome) (d : Data) (bad : Bool) → bad ≡ true → SayUpTo ds os bad → SayUpTo (and_item ds d) os bad
passes ds os d true is h = still_bad ds (length os) d h
passes ds os d false is h = absurd (true≢false (sym is))

pub adds : (ds : Items) (os new : List Outcome) (d : Data) (o : Outcome) (bad : Bool) → bad ≡ false → new ≡ os ++ o ∷ [] → IsEntry d o → SayUpTo ds os bad → SayUpTo (and_item ds d) new bad
adds ds os new d o false is added e h = subst (AreEntries (and_item ds d)) (sym added) (one_more ds os d o h e)
adds ds os new d o true is added e h = absurd (true≢false is)

pub stops : (ds : Items) (os : List Outcome) (d : Data) (bad : Bool) → bad ≡ false → IsNoEntry d → SayUpTo ds os bad → IsBadAt (and_item ds d) (length os)
stops ds os d false is none h = first_bad ds os d h none
stops ds os d true is none h = absurd (true≢false is)

-- ---- an object of one member

pub entry_is : (d : Data) (name : List ℕ) (ms : Members) → sole_object d ≡ Some (name, object ms) → d ≡ object (member name (object ms) no_members)
entry_is null name ms e = cc
entry_is (boolean b) name ms e = cc
entry_is (number n) name ms e = cc
entry_is (string s) name ms e = cc
entry_is (array ds) name ms e = cc
entry_is (object no_members) name ms e = cc
entry_is (object (member k null no_members)) name ms e = cc
entry_is (object (member k (boolean b) no_members)) name ms e = cc
entry_is (object (member k (number n) no_members)) name ms e = cc
entry_is (object (member k (string s) no_members)) name ms e = cc
entry_is (object (member k (array ds) no_members)) name ms e = cc
entry_is (object (member k (object fs) no_members)) name ms e = let p = same_Some (k, object fs) (name, object ms) e in λ i. object (member (p i).0 (p i).1 no_members)
entry_is (object (member k d (member l f fs))) name ms e = cc
