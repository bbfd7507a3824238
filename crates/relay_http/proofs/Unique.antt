-- A stream begins with one body at most, and what is there is what is returned.
use Rattle.std.proofs.Common.{◌≡◌, ℕ, List, [], ◌++◌, refl, ap, ◌∙◌, sym, subst, append-nil, Option, Some, None, inl, inr, Result, Ok, Err}
use Rattle.std.specs.Io.KnownBytes.{IsAtEnd}
use Rattle.std.specs.Io.KnownBytes.{prepend_known}
use Rattle.relay_http.specs.Forms.{Form, Begins, IsUnique, Took, Fails, Stopped, Refused, IsOutside, IsThatOrOutside}
use Rattle.relay_http.specs.Body.{IsSized, IsRest, IsBody}
use Rattle.relay_http.specs.declared.fault.HttpFault.{HttpFault}
use Rattle.relay_http.specs.declared.fault.HttpFault.TheVariants as fault
use Rattle.relay_http.specs.declared.framing.Framing.{Framing}
use Rattle.relay_http.specs.declared.framing.Framing.TheVariants as framing
use Rattle.relay_http.proofs.Leading.{moved}
use Rattle.relay_http.proofs.Chunks.{same_front, chunked_unique}

-- ---- bodies

sized_unique : (n : ℕ) → IsUnique (IsSized n)
sized_unique n = record {
  same = λ s b c.
      let fronts = same_front s b.front c.front b.rest c.rest b.split c.split (b.message.length_is ∙ sym c.message.length_is) in
      record { value_is = b.message.same ∙ fronts.0 ∙ sym c.message.same; rest_is = fronts.1 };
}

rest_unique : (limit : ℕ) → IsUnique (IsRest limit)
rest_unique limit = record {
  same = λ s b c.
      let x : s ≡ b.front = b.split ∙ ap (λ w. b.front ++ w) (b.last b.message.whole) ∙ append-nil b.front in
      let y : s ≡ c.front = c.split ∙ ap (λ w. c.front ++ w) (c.last c.message.whole) ∙ append-nil c.front in
      record { value_is = b.message.same ∙ sym x ∙ y ∙ sym c.message.same; rest_is = b.last b.message.whole ∙ sym (c.last c.message.whole) };
}

pub body_unique : (limit : ℕ) (f : Framing) → IsUnique (IsBody limit f)
body_unique limit framing.Absent = sized_unique 0
body_unique limit (framing.Sized n) = sized_unique n
body_unique limit framing.Chunked = chunked_unique limit []
body_unique limit framing.ToEnd = rest_unique limit

pub ok_is : (f g : Framing) → ◌≡◌ {A = Result Framing HttpFault} (Ok f) (Ok g) → f ≡ g
ok_is f g h = cc

-- ---- what is there is what is returned

pub shown : (x : List ℕ) (new : Option (List ℕ)) (s : List ℕ) → prepend_known x new ≡ Some s → (r : List ℕ) × (new ≡ Some r) × (s ≡ x ++ r)
shown x None s e = absurd (cc)
shown x (Some r) s e = (r, refl, cc)

pub took_found : {A : Type 0} (M : Form A) → IsUnique M → (old new : Option (List ℕ)) (a : A) → Took M old new a → (s : List ℕ) (b : Begins M s) → old ≡ Some s → (a ≡ b.value) × (new ≡ Some b.rest)
took_found M unique old new a t s b e =
    let r = shown t.front new s (sym t.split ∙ e) in
    let c : Begins M s = record { front = t.front; ends = t.ends; value = a; rest = r.0; message = t.message; split = r.2; last = λ x. subst IsAtEnd r.1 (t.last x) } in
    let same = unique.same s c b in
    (same.value_is, r.1 ∙ ap Some same.rest_is)

refused_lost : {A : Type 0} (M : Form A) (old left : Option (List ℕ)) → Refused M old left → (s : List ℕ) → Begins M s → old ≡ Some s → ⊥
refused_lost M old left r s b e =
    let x = shown r.read left s (sym r.stood ∙ e) in
    r.never x.0 (moved x.2 b)

stopped_lost : {A : Type 0} (M : Form A) (old left : Option (List ℕ)) → Stopped M old left → (s : List ℕ) → Begins M s → old ≡ Some s → ⊥
stopped_lost M old left r s b e =
    let x = shown r.read left s (sym r.stood ∙ e) in
    let none : x.0 ≡ [] = subst IsAtEnd x.1 r.end in
    r.none (moved (x.2 ∙ ap (λ w. r.read ++ w) none ∙ append-nil r.read) b)

pub fails_found : {A : Type 0} (M : Form A) (old left : Option (List ℕ)) (f : HttpFault) → Fails M old left f → (s : List ℕ) → Begins M s → old ≡ Some s → IsOutside f
fails_found M old left fault.Malformed r s b e = absurd (refused_lost M old left r s b e)
fails_found M old left fault.HeadLong r s b e = absurd (refused_lost M old left r s b e)
fails_found M old left fault.BodyLong r s b e = absurd (refused_lost M old left r s b e)
fails_found M old left fault.CodedBody r s b e = absurd (refused_lost M old left r s b e)
fails_found M old left fault.BothLengths r s b e = absurd (refused_lost M old left r s b e)
fails_found M old left fault.Ended r s b e = absurd (stopped_lost M old left r s b e)
fails_found M old left fault.Read r s b e = inl refl
fails_found M old left fault.Write r s b e = absurd r
fails_found M old left fault.TooManyInterim r s b e = absurd (refused_lost M old left r s b e)
fails_found M old left fault.Memory r s b e = inr refl
fails_found M old left fault.Broken r s b e = absurd r

-- ---- what the head there states is what is returned

-- a head is there, so none is missing
pub stated_outside : {I : Type 0} (H : Form I) (old left : Option (List ℕ)) (answer f : HttpFault) → Fails H old left answer → (s : List ℕ) → Begins H s → old ≡ Some s → IsThatOrOutside f answer
stated_outside H old left answer f r s b e = inr (fails_found H old left answer r s b e)

same_framing : {I : Type 0} (H : Form I) → IsUnique H → (framing : I → Result Framing HttpFault) → (old new : Option (List ℕ)) (info : I) → Took H old new info → (s : List ℕ) (b : Begins H s) → old ≡ Some s → (f : HttpFault) → framing b.value ≡ Err f → framing info ≡ Err f
same_framing H unique framing old new info t s b e f stated = ap framing (took_found H unique old new info t s b e).0 ∙ stated

pub stated_fault : {I : Type 0} (H : Form I) → IsUnique H → (framing : I → Result Framing HttpFault) → (old new : Option (List ℕ)) (info : I) → Took H old new info → (s : List ℕ) (b : Begins H s) → old ≡ Some s
    → (f answer : HttpFault) → framing b.value ≡ Err f → framing info ≡ Err answer → IsThatOrOutside f answer
stated_fault H unique framing old new info t s b e f answer stated is = inl (err_is answer f (sym is ∙ same_framing H unique framing old new info t s b e f stated))
  where
    err_is : (e f : HttpFault) → ◌≡◌ {A = Result Framing HttpFault} (Err e) (Err f) → e ≡ f
    err_is e f h = cc

pub stated_framed : {I : Type 0} (H : Form I) → IsUnique H → (framing : I → Result Framing HttpFault) → (old new : Option (List ℕ)) (info : I) → Took H old new info → (s : List ℕ) (b : Begins H s) → old ≡ Some s
    → (f : HttpFault) (g : Framing) → framing b.value ≡ Err f → framing info ≡ Ok g → ⊥
stated_framed H unique framing old new info t s b e f g stated is = wrong f g (sym (same_framing H unique framing old new info t s b e f stated) ∙ is)
  where
    wrong : (f : HttpFault) (g : Framing) → ◌≡◌ {A = Result Framing HttpFault} (Err f) (Ok g) → ⊥
    wrong f g h = cc

-- heads that state a framing state no fault
pub framed_fault : {I : Type 0} (H : Form I) → IsUnique H → (framing : I → Result Framing HttpFault) → (old new : Option (List ℕ)) (info : I) → Took H old new info → (s : List ℕ) (b : Begins H s) → old ≡ Some s
    → (f : HttpFault) (g : Framing) → framing b.value ≡ Ok g → framing info ≡ Err f → ⊥
framed_fault H unique framing old new info t s b e f g stated is = wrong f g (sym is ∙ ap framing (took_found H unique old new info t s b e).0 ∙ stated)
  where
    wrong : (f : HttpFault) (g : Framing) → ◌≡◌ {A = Result Framing HttpFault} (Err f) (Ok g) → ⊥
    wrong f g h = cc

pub framed_same : {I : Type 0} (H : Form I) → IsUnique H → (framing : I → Result Framing HttpFault) → (old new : Option (List ℕ)) (info : I) → Took H old new info → (s : List ℕ) (b : Begins H s) → old ≡ Some s
    → (f g : Framing) → framing b.value ≡ Ok g → framing info ≡ Ok f → (g ≡ f) × (new ≡ Some b.rest)
framed_same H unique framing old new info t s b e f g stated is =
    let same = took_found H unique old new info t s b e in
    (ok_is g f (sym stated ∙ sym (ap framing same.0) ∙ is), same.1)
