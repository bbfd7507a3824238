-- What forming a request leaves.
use Rattle.std.proofs.Common.{◌≡◌, ◌≢◌, ℕ, Option, Some, None, true, false, refl, sym, ap, ◌∙◌, subst, List}
use Rattle.std.specs.Prelude.{IfSome, OnErr, is_some, Result, Ok, Err}
use Rattle.relay_batch.specs.declared.item.BatchItem.{BatchItem}
use Rattle.relay_results.specs.Outside.{Unanswered}
use Rattle.relay_core.specs.State.{State, next_batch, after_request}
use Rattle.relay_lane.specs.declared.wire.WireReply.{WireReply}
use Rattle.relay_lane.specs.declared.wire.WireReply.TheVariants as reply
use Rattle.relay_results.specs.declared.cause.Loss.{Loss}
use Rattle.relay_lane.specs.Wires.{answer_of}

none_was : {A : Type 0} (b : Option A) (o : Option ℕ) → o ≡ None → is_some o ≡ is_some b → b ≡ None
none_was None o e same = refl
none_was (Some x) o e same = absurd (let k : false ≡ true = sym (ap is_some e) ∙ same in cc)

pub same_none : (s t : State) (o : Option ℕ) → o ≡ None → is_some o ≡ is_some (next_batch s) → t ≡ after_request s (next_batch s) → t ≡ s
same_none s t o e same after = after ∙ ap (after_request s) (none_was (next_batch s) o e same)

some_was : {A : Type 0} (b : Option A) (o : Option ℕ) (n : ℕ) → o ≡ Some n → is_some o ≡ is_some b → (x : A) × (b ≡ Some x)
some_was None o n e same = absurd (let k : true ≡ false = sym (ap is_some e) ∙ same in cc)
some_was (Some x) o n e same = (x, refl)

pub some_items : (s : State) (o : Option ℕ) (n : ℕ) → o ≡ Some n → is_some o ≡ is_some (next_batch s) → (items : List BatchItem) × (next_batch s ≡ Some items)
some_items s o n e same = some_was (next_batch s) o n e same

pub at_some : (o : Option ℕ) (n : ℕ) (P : ℕ → Type 0) → o ≡ Some n → IfSome o P → P n
at_some o n P e h = subst (λ x. IfSome x P) e h

pub answers : (x : Result WireReply Loss) → answer_of x ≢ Unanswered
answers (Ok (reply.Items outcomes)) e = cc
answers (Ok (reply.Whole status reason)) e = cc
answers (Err fault) e = cc

-- what holds anyhow holds after an error
pub on_err : {A E : Type 0} (r : Result A E) (P : Type 0) → P → OnErr r P
on_err (Ok x) P p = tt
on_err (Err e) P p = p
