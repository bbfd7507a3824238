use Rattle.std.proofs.Common.{rules, ◌≡◌, ◌≤◌, subst, take, length, false, true}
use Rattle.relay_http.specs.Forms.{Begins}
use Rattle.std.proofs.Common.{ℕ, List, ◌++◌}
use Rattle.relay_http.specs.Refusals.{PieceFault}
use Rattle.relay_http.proofs.Refusing.{window_fault}
use Rattle.relay_http.proofs.buffered.Buffered.await_piece.Goals as goal

pub returns-in-Ok-Some-clause-there : goal.returns-in-Ok-Some-clause-there
returns-in-Ok-Some-clause-there g c =
    let form = g.P.Piece.form in
    let found = rw c.in-Ok-Some.field-0-is at c.in-Ok-Some.ensures.found in
    subst (λ w. (c.in-Ok-Some.found.1 ≤ length w) × form (take c.in-Ok-Some.found.1 w) false c.in-Ok-Some.found.0) c.as_slice.ensures.value found

pub returns-then-ended-clause-fails : goal.returns-then-ended-clause-fails
returns-then-ended-clause-fails g c =
    let none : ¬ (Begins g.P.Piece.form c.reading.self.window) = search rules in
    let over : c.reading.ended ≡ true = search rules in
    record { read = c.reading.self.window; stood = c.reading.invariant.stands; end = c.reading.invariant.ended over; none = none }

pub returns-in-Err-clause-why : goal.returns-in-Err-clause-why
returns-in-Err-clause-why g c = λ stream stands.
    window_fault g.P.Piece.breaks g.P.Piece.overruns c.reading.self.window _ _ c.in-Err.fault c.reading.invariant.stands
    (subst (λ (w : List ℕ). (more : List ℕ) → PieceFault g.P.Piece.breaks g.P.Piece.overruns (w ++ more) c.in-Err.fault) c.as_slice.ensures.value c.in-Err.ensures.why) stream stands
