-- Messages after a front that was read.
use Rattle.std.proofs.Common.{◌≡◌, ℕ, Bool, List, [], ◌++◌, refl, ap, ◌∙◌, sym, subst, append_assoc, Option, inl, inr, ◌⊎◌}
use Rattle.std.specs.Io.KnownBytes.{prepend_known}
use Rattle.relay_http.specs.Forms.{Form, Begins, Gives, Took, Stopped, Refused, Fails}
use Rattle.relay_http.specs.declared.fault.HttpFault.{HttpFault}
use Rattle.relay_http.specs.declared.fault.HttpFault.TheVariants as fault
use Rattle.relay_http.proofs.Stands.{prepend_known-append}

-- after the front, what makes an M is an N, and nothing else
pub record Leads {A : Type 0} (M N : Form A) (front : List ℕ) : Type 0 where
  pub peel : (stream : List ℕ) (b : Begins M (front ++ stream)) → (c : Begins N stream) × Gives b.value b.rest c
  pub build : (bytes : List ℕ) (ends : Bool) (value : A) → N bytes ends value → M (front ++ bytes) ends value

-- a fault that a head states
abbrev pub IsStated : HttpFault → Type 0
IsStated f = (f ≡ fault.Malformed) ⊎ ((f ≡ fault.BodyLong) ⊎ ((f ≡ fault.CodedBody) ⊎ ((f ≡ fault.BothLengths) ⊎ (f ≡ fault.TooManyInterim))))

-- a message at the front of the same bytes
abbrev pub moved : {A : Type 0} {M : Form A} {s t : List ℕ} → s ≡ t → Begins M s → Begins M t
moved e b = record { front = b.front; ends = b.ends; value = b.value; rest = b.rest; message = b.message; split = sym e ∙ b.split; last = b.last }

pub leads_none : {A : Type 0} (M : Form A) → Leads M M []
leads_none M = record { peel = λ s b. (b, record { value_is = refl; rest_is = refl }); build = λ x e a m. m }

pub leads_on : {A : Type 0} (M N K : Form A) (x y : List ℕ) → Leads M N x → Leads N K y → Leads M K (x ++ y)
leads_on M N K x y f g = record {
  peel = λ s b.
      let first = f.peel (y ++ s) (moved (append_assoc x y s) b) in
      let second = g.peel s first.0 in
      (second.0, record { value_is = first.1.value_is ∙ second.1.value_is; rest_is = first.1.rest_is ∙ second.1.rest_is });
  build = λ t e a m. subst (λ w. M w e a) (sym (append_assoc x y t)) (f.build (y ++ t) e a (g.build t e a m));
}

pub took_behind : {A : Type 0} (M N : Form A) (x : List ℕ) (old mid new : Option (List ℕ)) (a : A) → Leads M N x → old ≡ prepend_known x mid → Took N mid new a → Took M old new a
took_behind M N x old mid new a f e t = record {
  front = x ++ t.front;
  ends = t.ends;
  message = f.build t.front t.ends a t.message;
  split = e ∙ ap (prepend_known x) t.split ∙ sym (prepend_known-append x t.front new);
  last = t.last;
}

refused_behind : {A B : Type 0} (M : Form A) (N : Form B) (x : List ℕ) (old mid left : Option (List ℕ)) → ((s : List ℕ) → Begins M (x ++ s) → Begins N s) → old ≡ prepend_known x mid → Refused N mid left → Refused M old left
refused_behind M N x old mid left f e r = record {
  read = x ++ r.read;
  stood = e ∙ ap (prepend_known x) r.stood ∙ sym (prepend_known-append x r.read left);
  never = λ more b. r.never more (f (r.read ++ more) (subst (Begins M) (append_assoc x r.read more) b));
}

stopped_behind : {A B : Type 0} (M : Form A) (N : Form B) (x : List ℕ) (old mid left : Option (List ℕ)) → ((s : List ℕ) → Begins M (x ++ s) → Begins N s) → old ≡ prepend_known x mid → Stopped N mid left → Stopped M old left
stopped_behind M N x old mid left f e r = record {
  read = x ++ r.read;
  stood = e ∙ ap (prepend_known x) r.stood ∙ sym (prepend_known-append x r.read left);
  end = r.end;
  none = λ b. r.none (f r.read b);
}

-- what fails after a front fails
pub fails_behind : {A B : Type 0} (M : Form A) (N : Form B) (x : List ℕ) (old mid left : Option (List ℕ)) (f : HttpFault) → ((s : List ℕ) → Begins M (x ++ s) → Begins N s) → old ≡ prepend_known x mid → Fails N mid left f → Fails M old left f
fails_behind M N x old mid left fault.Malformed step e r = refused_behind M N x old mid left step e r
fails_behind M N x old mid left fault.HeadLong step e r = refused_behind M N x old mid left step e r
fails_behind M N x old mid left fault.BodyLong step e r = refused_behind M N x old mid left step e r
fails_behind M N x old mid left fault.CodedBody step e r = refused_behind M N x old mid left step e r
fails_behind M N x old mid left fault.BothLengths step e r = refused_behind M N x old mid left step e r
fails_behind M N x old mid left fault.Ended step e r = stopped_behind M N x old mid left step e r
fails_behind M N x old mid left fault.Read step e r = r
fails_behind M N x old mid left fault.Write step e r = r
fails_behind M N x old mid left fault.TooManyInterim step e r = refused_behind M N x old mid left step e r
fails_behind M N x old mid left fault.Memory step e r = r
fails_behind M N x old mid left fault.Broken step e r = r

pub fails_stated : {A : Type 0} (M : Form A) (old left : Option (List ℕ)) (f : HttpFault) → IsStated f → Refused M old left → Fails M old left f
fails_stated M old left f (inl e) r = subst (Fails M old left) (sym e) r
fails_stated M old left f (inr (inl e)) r = subst (Fails M old left) (sym e) r
fails_stated M old left f (inr (inr (inl e))) r = subst (Fails M old left) (sym e) r
fails_stated M old left f (inr (inr (inr (inl e)))) r = subst (Fails M old left) (sym e) r
fails_stated M old left f (inr (inr (inr (inr e)))) r = subst (Fails M old left) (sym e) r

-- what two messages lead to is one, so they are
pub joined : {A : Type 0} {M N : Form A} {s t : List ℕ} (b c : Begins M s) (x y : Begins N t) → Gives b.value b.rest x → Gives c.value c.rest y → Gives x.value x.rest y → Gives b.value b.rest c
joined b c x y e f g = record { value_is = e.value_is ∙ g.value_is ∙ sym f.value_is; rest_is = e.rest_is ∙ g.rest_is ∙ sym f.rest_is }
