-- A text says one thing at most.
use Rattle.std.proofs.Common.{◌≡◌, ◌≢◌, ◌<◌, ◌⊎◌, ℕ, zero, suc, List, [], ◌∷◌, take, Option, Some, None, refl, ap, sym, ◌∙◌, subst, arith, inl, inr}
use Rattle.std.specs.Prelude.{codes}
use Rattle.serde_json.specs.Data.{Data, string, number, array, object, unsigned, Items, no_items, item, Members, member, no_members}
use Rattle.serde_json.specs.Find.{get}
use Rattle.relay_action.specs.Actions.{kind_name}
use Rattle.relay_action.proofs.Actions.{one_kind}
use Rattle.relay_results.specs.declared.outcome.ErrorDetail.{ErrorDetail}
use Rattle.relay_results.specs.declared.outcome.Outcome.{Outcome}
use Rattle.relay_results.specs.declared.reading.ReplyFault.{ReplyFault}
use Rattle.relay_results.specs.declared.reading.ReplyFault.TheVariants as fault
use Rattle.relay_results.specs.Stored.{SaysStored}
use Rattle.relay_results.specs.Replies.{ReadsAs, IsTruncated, error_limit, reason_limit, error_member, ErrorTexts, error_texts, KeepsReason, IsDetail, SaysError, IsEntry, AreEntries, HasItems, IsBadAt, IsBulkReply, IsFaultOf}
use Rattle.relay_results.proofs.Stated.{one_version}

-- ---- an entry says one outcome

three_ways : (m n : ℕ) → (m < n) ⊎ ((m ≡ n) ⊎ (n < m))
three_ways m n = grind arith

one_count : (limit : ℕ) (text a b : List ℕ) (p : IsTruncated limit text a) (q : IsTruncated limit text b) → p.count ≡ q.count
one_count limit text a b p q =
    elim (three_ways p.count q.count) [
      | inl less ↦ absurd (p.longest q.count less q.within q.ends)
      | inr rest ↦ elim rest [ inl same ↦ same | inr more ↦ absurd (q.longest p.count more p.within p.ends) ]
    ]

pub one_cut : (limit : ℕ) (text a b : List ℕ) → IsTruncated limit text a → IsTruncated limit text b → a ≡ b
one_cut limit text a b p q = p.front_is ∙ ap (λ n. take n text) (one_count limit text a b p q) ∙ sym q.front_is

one_reason : (t : Option (List ℕ)) (a b : Option (List ℕ)) → KeepsReason t a → KeepsReason t b → a ≡ b
one_reason None a b p q = p ∙ sym q
one_reason (Some text) a b p q = p.2 ∙ ap Some (one_cut reason_limit text p.0 q.0 p.1 q.1) ∙ sym q.2

one_stored : (t : Option (List ℕ)) (a b : Option ℕ) → SaysStored t a → SaysStored t b → a ≡ b
one_stored None a b p q = p ∙ sym q
one_stored (Some text) None None p q = refl
one_stored (Some text) None (Some v) p q = absurd (p v q)
one_stored (Some text) (Some v) None p q = absurd (q v p)
one_stored (Some text) (Some v) (Some w) p q = ap Some (one_version text v w p q)

one_detail : (t : ErrorTexts) (a b : ErrorDetail) → IsDetail t a → IsDetail t b → a ≡ b
one_detail t a b p q =
    let kinds : a.kind ≡ b.kind = one_cut error_limit _ a.kind b.kind p.kind q.kind in
    let reasons : a.reason ≡ b.reason = one_reason t.reason a.reason b.reason p.reason q.reason in
    let versions : a.stored ≡ b.stored = one_stored t.reason a.stored b.stored p.stored q.stored in
    λ i. record { kind = kinds i; reason = reasons i; stored = versions i }

one_error : (m : Option Data) (a b : Option ErrorDetail) → SaysError m a → SaysError m b → a ≡ b
one_error None a b p q = p ∙ sym q
one_error (Some d) a b p q = p.2 ∙ ap Some (one_detail (error_texts d) p.0 q.0 p.1 q.1) ∙ sym q.2

same_string : (a b : List ℕ) → Some (string a) ≡ Some (string b) → a ≡ b
same_string a b e = cc

same_number : (a b : ℕ) → Some (number (unsigned a)) ≡ Some (number (unsigned b)) → a ≡ b
same_number a b e = cc

same_name : (n m : List ℕ) (f g : Members) → object (member n (object f) no_members) ≡ object (member m (object g) no_members) → n ≡ m
same_name n m f g e = cc

same_fields : (n m : List ℕ) (f g : Members) → object (member n (object f) no_members) ≡ object (member m (object g) no_members) → f ≡ g
same_fields n m f g e = cc

one_outcome : (d : Data) (o p : Outcome) → IsEntry d o → IsEntry d p → o ≡ p
one_outcome d o p x y =
    let same = sym x.action ∙ y.action in
    let fields : x.fields ≡ y.fields = same_fields (kind_name o.kind) (kind_name p.kind) x.fields y.fields same in
    let kinds : o.kind ≡ p.kind = one_kind o.kind p.kind (same_name (kind_name o.kind) (kind_name p.kind) x.fields y.fields same) in
    let ids : o.id ≡ p.id = same_string o.id p.id (sym x.id ∙ ap (λ f. get (codes "_id") (object f)) fields ∙ y.id) in
    let statuses : o.status ≡ p.status = same_number o.status p.status (sym x.status ∙ ap (λ f. get (codes "status") (object f)) fields ∙ y.status) in
    let errors : o.error ≡ p.error = one_error (error_member (object y.fields)) o.error p.error (subst (λ f. SaysError (error_member (object f)) o.error) fields x.error) y.error in
    λ i. record { kind = kinds i; id = ids i; status = statuses i; error = errors i }

one_list : (ds : Items) (os ps : List Outcome) → AreEntries ds os → AreEntries ds ps → os ≡ ps
one_list no_items [] [] x y = refl
one_list no_items [] (p ∷ ps) x y = absurd y
one_list no_items (o ∷ os) ps x y = absurd x
one_list (item d ds) [] ps x y = absurd x
one_list (item d ds) (o ∷ os) [] x y = absurd y
one_list (item d ds) (o ∷ os) (p ∷ ps) x y =
    let a : o ≡ p = one_outcome d o p x.0 y.0 in
    let b : os ≡ ps = one_list ds os ps x.1 y.1 in
    λ i. a i ∷ b i

-- ---- a text reads as one value, with one array of items

one_value : (text : List ℕ) (d e : Data) → ReadsAs text d → ReadsAs text e → d ≡ e
one_value text d e x y = let same : Some d ≡ Some e = sym x.value ∙ y.value in cc

one_items : (d : Data) (xs ys : Items) → HasItems d xs → HasItems d ys → xs ≡ ys
one_items d xs ys x y = let same : Some (array xs) ≡ Some (array ys) = sym x ∙ y in cc

pub one_reply : (text : List ℕ) (os ps : List Outcome) → IsBulkReply text os → IsBulkReply text ps → os ≡ ps
one_reply text os ps x y =
    let values = one_value text x.value y.value x.reads y.reads in
    let entries : x.entries ≡ y.entries = one_items y.value x.entries y.entries (subst (λ d. HasItems d x.entries) values x.items) y.items in
    one_list y.entries os ps (subst (λ ds. AreEntries ds os) entries x.each) y.each

-- ---- faults

none_bad : (ds : Items) (os : List Outcome) (place : ℕ) → AreEntries ds os → IsBadAt ds place → ⊥
none_bad no_items os place x y = y
none_bad (item d ds) [] place x y = x
none_bad (item d ds) (o ∷ os) zero x y = y o x.0
none_bad (item d ds) (o ∷ os) (suc place) x y = none_bad ds os place x.1 y.1

pub no_fault : (text : List ℕ) (os : List Outcome) (e : ReplyFault) → IsBulkReply text os → IsFaultOf text e → e ≡ fault.Memory
no_fault text os fault.NotJson x y = absurd (y x.value x.reads)
no_fault text os fault.NoItems x y =
    absurd (y.2 x.entries (subst (λ d. HasItems d x.entries) (one_value text x.value y.0 x.reads y.1) x.items))
no_fault text os (fault.BadItem place) x y =
    let entries : x.entries ≡ y.1 = one_items y.0 x.entries y.1 (subst (λ d. HasItems d x.entries) (one_value text x.value y.0 x.reads y.2) x.items) y.3 in
    absurd (none_bad y.1 os place (subst (λ ds. AreEntries ds os) entries x.each) y.4)
no_fault text os fault.Memory x y = refl

one_place : (ds : Items) (m n : ℕ) → IsBadAt ds m → IsBadAt ds n → m ≡ n
one_place no_items m n x y = absurd x
one_place (item d ds) zero zero x y = refl
one_place (item d ds) zero (suc n) x y = absurd (x y.0.0 y.0.1)
one_place (item d ds) (suc m) zero x y = absurd (y x.0.0 x.0.1)
one_place (item d ds) (suc m) (suc n) x y = ap suc (one_place ds m n x.1 y.1)

pub one_fault :
    (text : List ℕ) (e f : ReplyFault) → e ≢ fault.Memory → f ≢ fault.Memory →
    IsFaultOf text e → IsFaultOf text f → e ≡ f
one_fault text fault.NotJson fault.NotJson a b x y = refl
one_fault text fault.NotJson fault.NoItems a b x y = absurd (x y.0 y.1)
one_fault text fault.NotJson (fault.BadItem n) a b x y = absurd (x y.0 y.2)
one_fault text fault.NotJson fault.Memory a b x y = absurd (b refl)
one_fault text fault.NoItems fault.NotJson a b x y = absurd (y x.0 x.1)
one_fault text fault.NoItems fault.NoItems a b x y = refl
one_fault text fault.NoItems (fault.BadItem n) a b x y = absurd (x.2 y.1 (subst (λ d. HasItems d y.1) (one_value text y.0 x.0 y.2 x.1) y.3))
one_fault text fault.NoItems fault.Memory a b x y = absurd (b refl)
one_fault text (fault.BadItem m) fault.NotJson a b x y = absurd (y x.0 x.2)
one_fault text (fault.BadItem m) fault.NoItems a b x y = absurd (y.2 x.1 (subst (λ d. HasItems d x.1) (one_value text x.0 y.0 x.2 y.1) x.3))
one_fault text (fault.BadItem m) (fault.BadItem n) a b x y =
    let entries : x.1 ≡ y.1 = one_items y.0 x.1 y.1 (subst (λ d. HasItems d x.1) (one_value text x.0 y.0 x.2 y.2) x.3) y.3 in
    ap fault.BadItem (one_place y.1 m n (subst (λ ds. IsBadAt ds m) entries x.4) y.4)
one_fault text (fault.BadItem m) fault.Memory a b x y = absurd (b refl)
one_fault text fault.Memory f a b x y = absurd (a refl)
