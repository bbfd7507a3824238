-- What is said of a result, carried over.
use Rattle.std.proofs.Common.{Result, Ok, Err, IfOk, OnErr}

pub if_ok-map : {A E : Type 0} {P Q : A → Type 0} → (r : Result A E) → ((a : A) → P a → Q a) → IfOk r P → IfOk r Q
if_ok-map (Ok a) f h = f a h
if_ok-map (Err e) f h = tt

pub on_err-map : {A E P Q : Type 0} → (r : Result A E) → (P → Q) → OnErr r P → OnErr r Q
on_err-map (Ok a) f h = tt
on_err-map (Err e) f h = f h
