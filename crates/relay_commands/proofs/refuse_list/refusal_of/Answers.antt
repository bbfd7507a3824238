use Rattle.std.proofs.Common.{refl, arith}
use Rattle.relay_words.proofs.Numbers.{one_number}
use Rattle.relay_commands.proofs.Parts.{uncut_is_none, whole_of, place_of, status_of, may_of}
use Rattle.relay_commands.proofs.refuse_list.refusal_of.Goals.{then-place-eq0-via-then-place-eq0, then-place-eq0-via-else-place-eq0+then-not-is_refusal}
use Rattle.relay_commands.proofs.refuse_list.refusal_of.Goals as goal

pub returns-in_err-place-clause-none : goal.returns-in_err-place-clause-none
returns-in_err-place-clause-none c = rw c.from_residual.ensures (uncut_is_none _ c.in_err-place.ensures)

pub returns-in_err-place-2-clause-none : goal.returns-in_err-place-2-clause-none
returns-in_err-place-2-clause-none c =
    rw c.from_residual-in_err-place-2.ensures (λ place status h. c.in_err-place-2.ensures.none place (place_of _ _ _ c.in_ok-place.ensures place status h))

pub returns-in_err-status-clause-none : goal.returns-in_err-status-clause-none
returns-in_err-status-clause-none c =
    rw c.from_residual-in_err-status.ensures (λ place status h. c.in_err-status.ensures.none status (status_of _ _ _ c.in_ok-place.ensures place status h))

pub returns-then-place-eq0-clause-none : goal.returns-then-place-eq0-clause-none
returns-then-place-eq0-clause-none c = λ place status h.
    let same_place = one_number _ _ _ c.in_ok-place-2.ensures.some (place_of _ _ _ c.in_ok-place.ensures place status h) in
    let same_status = one_number _ _ _ c.in_ok-status.ensures.some (status_of _ _ _ c.in_ok-place.ensures place status h) in
    elim c.then-place-eq0.branch [
      | then-place-eq0-via-then-place-eq0 w ↦ absurd (omega (arith, w.if-place-eq0.true, same_place, h.from_one))
      | then-place-eq0-via-else-place-eq0+then-not-is_refusal w ↦ let e = w.if-not-is_refusal.ensures.1 (may_of _ _ same_status h.may) in cc
    ]

pub returns-clause-some : goal.returns-clause-some
returns-clause-some c = record {
  front = c.in_ok-place.place.now;
  back = c.in_ok-place.status.now;
  whole = whole_of 58 _ _ _ c.in_ok-place.ensures;
  place_is = c.in_ok-place-2.ensures.some;
  status_is = c.in_ok-status.ensures.some;
  from_one = omega (arith, c.if-place-eq0.false);
  may = c.if-not-is_refusal.ensures.0 refl;
}
