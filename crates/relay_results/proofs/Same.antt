-- The tests of documents, actions, writes and operations say when two are equal.
use Rattle.std.proofs.Common.{◌≡◌, ℕ, List, Option, Some, None, Bool, true, false, refl, ap, sym, ◌∙◌}
use Rattle.std.specs.Prelude.{◌&&◌, ◌==◌, bytes_eq}
use Rattle.std.specs.Bool.{Decides}
use Rattle.std.proofs.lemmas.Bool.{eqb-true}
use Rattle.std.proofs.lemmas.Bool.Decides.{Decides-eqb}
use Rattle.std.proofs.lemmas.Slice.Eq.{bytes_eq-Decides}
use Rattle.relay_action.specs.declared.action.ActionKind.{ActionKind}
use Rattle.relay_action.specs.declared.action.ActionKind.TheVariants as kind
use Rattle.relay_action.specs.declared.write.Write.{Write}
use Rattle.relay_action.specs.declared.operation.Op.{Op}
use Rattle.relay_action.specs.declared.operation.OpName.{OpName}
use Rattle.relay_results.specs.Documents.{Document, document_of, same_document, source_of, same_source, same_kind, same_write, same_name, same_op, name_of}
use Rattle.relay_results.proofs.Both.{both, and-true}

pub bytes_eq-self : (xs : List ℕ) → bytes_eq xs xs ≡ true
bytes_eq-self xs = (bytes_eq-Decides xs xs).1 refl

pub same_kind-Decides : (a b : ActionKind) → Decides (same_kind a b) (a ≡ b)
same_kind-Decides kind.Index kind.Index = (λ _. refl, λ _. refl)
same_kind-Decides kind.Index kind.Delete = (λ h. cc, λ h. cc)
same_kind-Decides kind.Delete kind.Index = (λ h. cc, λ h. cc)
same_kind-Decides kind.Delete kind.Delete = (λ _. refl, λ _. refl)

pub same_document-true : (a b : Document) → same_document a b ≡ true → a ≡ b
same_document-true a b h =
    let two = both (bytes_eq a.index b.index) (bytes_eq a.id b.id) h in
    let e : a.index ≡ b.index = (bytes_eq-Decides a.index b.index).0 two.0 in
    let f : a.id ≡ b.id = (bytes_eq-Decides a.id b.id).0 two.1 in
    λ i. record { index = e i; id = f i }

pub same_document-self : (a : Document) → same_document a a ≡ true
same_document-self a = and-true _ _ (bytes_eq-self a.index) (bytes_eq-self a.id)

pub same_source-true : (a b : Option (List ℕ)) → same_source a b ≡ true → a ≡ b
same_source-true None None h = refl
same_source-true None (Some t) h = cc
same_source-true (Some s) None h = cc
same_source-true (Some s) (Some t) h = ap Some ((bytes_eq-Decides s t).0 h)

pub same_source-self : (a : Option (List ℕ)) → same_source a a ≡ true
same_source-self None = refl
same_source-self (Some s) = bytes_eq-self s

-- two writes that the test calls the same have one version, one document and one action
pub record SameWrites (x y : Write) : Type 0 where
  pub version : x.version ≡ y.version
  pub document : document_of x.key ≡ document_of y.key
  pub source : source_of x.action ≡ source_of y.action

pub same_write-true : (x y : Write) → same_write x y ≡ true → SameWrites x y
same_write-true x y h =
    let a = both (x.version == y.version) (same_document (document_of x.key) (document_of y.key) && same_source (source_of x.action) (source_of y.action)) h in
    let b = both (same_document (document_of x.key) (document_of y.key)) (same_source (source_of x.action) (source_of y.action)) a.1 in
    record {
      version = eqb-true x.version y.version a.0;
      document = same_document-true (document_of x.key) (document_of y.key) b.0;
      source = same_source-true (source_of x.action) (source_of y.action) b.1;
    }

pub same_write-self : (x : Write) → same_write x x ≡ true
same_write-self x = and-true _ _ ((Decides-eqb x.version x.version).1 refl) (and-true _ _ (same_document-self (document_of x.key)) (same_source-self (source_of x.action)))

pub same_name-true : (a b : OpName) → same_name a b ≡ true → a ≡ b
same_name-true a b h =
    let p = both (a.epoch == b.epoch) ((a.producer == b.producer) && (a.number == b.number)) h in
    let q = both (a.producer == b.producer) (a.number == b.number) p.1 in
    let d : a.epoch ≡ b.epoch = eqb-true a.epoch b.epoch p.0 in
    let e : a.producer ≡ b.producer = eqb-true a.producer b.producer q.0 in
    let f : a.number ≡ b.number = eqb-true a.number b.number q.1 in
    λ i. record { epoch = d i; producer = e i; number = f i }

pub same_name-self : (a : OpName) → same_name a a ≡ true
same_name-self a =
    and-true _ _ ((Decides-eqb a.epoch a.epoch).1 refl)
    (and-true _ _ ((Decides-eqb a.producer a.producer).1 refl) ((Decides-eqb a.number a.number).1 refl))

pub names_equal : (a b : OpName) → (same_name a b ≡ true → a ≡ b) × (a ≡ b → same_name a b ≡ true)
names_equal a b = (same_name-true a b, λ e. ap (same_name a) (sym e) ∙ same_name-self a)

-- and two operations one name, one document and one action
pub record SameOps (a b : Op) : Type 0 where
  pub name : name_of a ≡ name_of b
  pub document : document_of a.key ≡ document_of b.key
  pub source : source_of a.action ≡ source_of b.action

pub same_op-true : (a b : Op) → same_op a b ≡ true → SameOps a b
same_op-true a b h =
    let p = both (same_name (name_of a) (name_of b)) (same_document (document_of a.key) (document_of b.key) && same_source (source_of a.action) (source_of b.action)) h in
    let r = both (same_document (document_of a.key) (document_of b.key)) (same_source (source_of a.action) (source_of b.action)) p.1 in
    record {
      name = same_name-true (name_of a) (name_of b) p.0;
      document = same_document-true (document_of a.key) (document_of b.key) r.0;
      source = same_source-true (source_of a.action) (source_of b.action) r.1;
    }

pub same_op-self : (a : Op) → same_op a a ≡ true
same_op-self a =
    and-true _ _ (same_name-self (name_of a))
    (and-true _ _ (same_document-self (document_of a.key)) (same_source-self (source_of a.action)))

pub same_op-from : (a b : Op) → SameOps a b → same_op a b ≡ true
same_op-from a b s =
    and-true _ _ (ap (same_name (name_of a)) (sym s.name) ∙ same_name-self (name_of a))
    (and-true _ _ (ap (λ k. same_document (document_of a.key) k) (sym s.document) ∙ same_document-self (document_of a.key))
    (ap (λ t. same_source (source_of a.action) t) (sym s.source) ∙ same_source-self (source_of a.action)))

-- two operations that are the same as a third are the same
pub same_op-joined : (a b c : Op) → same_op a c ≡ true → same_op b c ≡ true → same_op a b ≡ true
same_op-joined a b c h k =
    let s = same_op-true a c h in
    let t = same_op-true b c k in
    same_op-from a b (record { name = s.name ∙ sym t.name; document = s.document ∙ sym t.document; source = s.source ∙ sym t.source })
