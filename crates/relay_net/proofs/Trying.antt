-- The addresses of a name, tried one after another.
use Rattle.std.proofs.Common.{◌≡◌, ℕ, List, [], ◌∷◌, ◌++◌, refl, ap, sym, ◌∙◌}
use Rattle.std.specs.Prelude.{map, Option, Some, None, Ok, Err}
use Rattle.std.proofs.lemmas.List.{map_push, append_assoc, append-nil}
use Rattle.std.specs.declared.net.socket_addr.SocketAddr.{SocketAddr}
use Rattle.std.specs.declared.io.ErrorKind.{ErrorKind}
use Rattle.std.specs.declared.io.ErrorKind.TheVariants.{InvalidInput}
use Rattle.relay_net.specs.Reaching.{Deed, LooksUp, Connects, and_then_did, Failure, failed_within, last_why, IsUnknown, AllFailed, Reached}

-- so far these addresses of all that the name has were tried and failed, the last for this reason, and those are left
pub record Trying (name : List ℕ) (limit : ℕ) (all left : List SocketAddr) (why : ErrorKind) (old new : Option (List Deed)) : Type 0 where
  pub failures : List Failure
  pub found : all ≡ map (λ f. f.address) failures ++ left
  pub did : new ≡ and_then_did old (LooksUp name (Ok all) ∷ map (failed_within limit) failures)
  pub last : why ≡ last_why InvalidInput failures

last_why-push : (first : ErrorKind) (fs : List Failure) (f : Failure) → last_why first (fs ++ f ∷ []) ≡ f.why
last_why-push first [] f = refl
last_why-push first (x ∷ fs) f = last_why-push x.why fs f

did_more : (known : Option (List Deed)) (ds : List Deed) (d : Deed) → and_then_did (and_then_did known ds) (d ∷ []) ≡ and_then_did known (ds ++ d ∷ [])
did_more None ds d = refl
did_more (Some known) ds d = ap (λ l. Some l) (append_assoc known ds (d ∷ []))

push_left : {A : Type 0} (xs : List A) (x : A) (ys : List A) → xs ++ (x ∷ ys) ≡ (xs ++ x ∷ []) ++ ys
push_left xs x ys = sym (append_assoc xs (x ∷ []) ys)

pub begins : (name : List ℕ) (limit : ℕ) (all : List SocketAddr) (old new : Option (List Deed))
    → new ≡ and_then_did old (LooksUp name (Ok all) ∷ []) → Trying name limit all all InvalidInput old new
begins name limit all old new did = record { failures = []; found = refl; did = did; last = refl }

pub is_unknown : (name : List ℕ) (limit : ℕ) (why : ErrorKind) (old new : Option (List Deed))
    → new ≡ and_then_did old (LooksUp name (Err why) ∷ []) → Reached name limit old new (Some why)
is_unknown name limit why old new did = record { deeds = LooksUp name (Err why) ∷ []; did = did; reaches = IsUnknown refl }

pub fails : (name : List ℕ) (limit : ℕ) (all before left : List SocketAddr) (why : ErrorKind) (old new next : Option (List Deed)) (a : SocketAddr) (k : ErrorKind)
    → Trying name limit all before why old new → before ≡ a ∷ left → next ≡ and_then_did new (Connects a limit (Some k) ∷ []) → Trying name limit all left k old next
fails name limit all before left why old new next a k trying at did =
    let f : Failure = record { address = a; why = k } in
    let fs = trying.failures in
    let found = trying.found ∙ ap (λ l. map (λ (f : Failure). f.address) fs ++ l) at in
    record {
      failures = fs ++ f ∷ [];
      found = found ∙ push_left (map (λ f. f.address) fs) a left ∙ ap (λ l. l ++ left) (sym (map_push (λ (f : Failure). f.address) fs f));
      did = did ∙ ap (λ o. and_then_did o (Connects a limit (Some k) ∷ [])) trying.did
          ∙ did_more old (LooksUp name (Ok all) ∷ map (failed_within limit) fs) (Connects a limit (Some k))
          ∙ ap (λ l. and_then_did old (LooksUp name (Ok all) ∷ l)) (sym (map_push (failed_within limit) fs f));
      last = sym (last_why-push InvalidInput fs f);
    }

pub connects : (name : List ℕ) (limit : ℕ) (all before left : List SocketAddr) (why : ErrorKind) (old new next : Option (List Deed)) (a : SocketAddr)
    → Trying name limit all before why old new → before ≡ a ∷ left → next ≡ and_then_did new (Connects a limit None ∷ []) → Reached name limit old next None
connects name limit all before left why old new next a trying at did =
    let fs = trying.failures in
    let last = Connects a limit None in
    let all_are = trying.found ∙ ap (λ l. map (λ (f : Failure). f.address) fs ++ l) at in
    let deeds = LooksUp name (Ok all) ∷ (map (failed_within limit) fs ++ (last ∷ [])) in
    record {
      deeds = deeds;
      did = did ∙ ap (λ o. and_then_did o (last ∷ [])) trying.did
          ∙ did_more old (LooksUp name (Ok all) ∷ map (failed_within limit) fs) last;
      reaches = record {
        failures = fs;
        address = a;
        untried = left;
        are = ap (λ found. LooksUp name (Ok found) ∷ (map (failed_within limit) fs ++ (last ∷ []))) all_are;
      };
    }

pub all_failed : (name : List ℕ) (limit : ℕ) (all before : List SocketAddr) (why : ErrorKind) (old new : Option (List Deed))
    → Trying name limit all before why old new → before ≡ [] → Reached name limit old new (Some why)
all_failed name limit all before why old new trying at =
    let fs = trying.failures in
    let found : all ≡ map (λ f. f.address) fs = trying.found ∙ ap (λ l. map (λ (f : Failure). f.address) fs ++ l) at ∙ append-nil (map (λ f. f.address) fs) in
    record {
      deeds = LooksUp name (Ok all) ∷ map (failed_within limit) fs;
      did = trying.did;
      reaches = AllFailed fs (ap (λ found. LooksUp name (Ok found) ∷ map (failed_within limit) fs) found) trying.last;
    }
