-- A body that is read piece by piece.
use Rattle.std.proofs.Common.{◌≡◌, ℕ, ◌<◌, ◌≤◌, List, [], ◌++◌, length, Option, Some, None, Result, Ok, Err, IfOk, refl, ap, sym, ◌∙◌, arith, append_assoc, length-append}
use Rattle.std.specs.Io.KnownBytes.{prepend_known}
use Rattle.relay_commands.specs.declared.apply.ApplyFault.{ApplyFault}
use Rattle.relay_commands.specs.declared.apply.ApplyFault.TheVariants as fault
use Rattle.relay_commands.specs.Applies.{GivesBody, PassesLimit, TakesSome, body_limit}
use Rattle.relay_commands.specs.Pieces.{TakesPiece, IsPieceFault, IsBodyFault}
use Rattle.relay_commands.specs.declared.body.Part.TheVariants.{More}

pub prepend_nothing : (known : Option (List ℕ)) → known ≡ prepend_known [] known
prepend_nothing None = refl
prepend_nothing (Some xs) = refl

prepend_twice : (front bytes : List ℕ) (known : Option (List ℕ)) → prepend_known front (prepend_known bytes known) ≡ prepend_known (front ++ bytes) known
prepend_twice front bytes None = refl
prepend_twice front bytes (Some xs) = ap (λ l. Some l) (sym (append_assoc front bytes xs))

-- one more piece is in front of what is left
pub piece_more : (start old new : Option (List ℕ)) (before after : List ℕ) → start ≡ prepend_known before old → TakesPiece old new before after More → start ≡ prepend_known after new
piece_more start old new before after h t = h ∙ ap (λ known. prepend_known before known) t.4 ∙ prepend_twice before t.0 new ∙ ap (λ l. prepend_known l new) (sym t.2)

-- more than a body may have was given
pub passes_limit : (start old new : Option (List ℕ)) (before after : List ℕ) → start ≡ prepend_known before old → TakesPiece old new before after More → body_limit < length after → PassesLimit start new
passes_limit start old new before after h t past = record {
  bytes = after;
  past = omega (arith, t.3, past);
  whole = piece_more start old new before after h t;
}

-- a piece was not added to the body so far
pub fault_of_piece : (start old new : Option (List ℕ)) (before : List ℕ) (e : ApplyFault) → start ≡ prepend_known before old → length before ≤ body_limit → IsPieceFault old new before e → IsBodyFault start new e
fault_of_piece start old new before fault.BodyLong s n h = absurd h
fault_of_piece start old new before fault.Read s n h = record { bytes = before; within = omega (arith, n); whole = s ∙ ap (prepend_known before) (sym h) }
fault_of_piece start old new before (fault.Write sent) s n h = absurd h
fault_of_piece start old new before fault.Memory s n h = record {
  bytes = before ++ h.0;
  within = let e = length-append before h.0 in omega (arith, h.1, e);
  whole = s ∙ ap (prepend_known before) h.2 ∙ prepend_twice before h.0 new;
}

-- all of a body was taken
pub takes_body : (old new : Option (List ℕ)) (body : List ℕ) → GivesBody old new body → TakesSome old new
takes_body old new body b = record { bytes = body; within = let n = b.within in omega (arith, n); whole = b.whole }

-- nothing was
pub takes_none : (known : Option (List ℕ)) → TakesSome known known
takes_none known = record { bytes = []; within = omega arith; whole = prepend_nothing known }

-- what holds of an answer that there is
pub ok_map : {T E : Type 0} (P Q : T → Type 0) (r : Result T E) → ((x : T) → P x → Q x) → IfOk r P → IfOk r Q
ok_map P Q (Ok x) f h = f x h
ok_map P Q (Err e) f h = tt
