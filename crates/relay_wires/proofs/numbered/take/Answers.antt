use Rattle.std.proofs.Common.{sym, ◌∙◌}
use Rattle.relay_wires.proofs.Numbers.{entry_of-position, entry_of-no_position}
use Rattle.relay_wires.proofs.numbered.take.Goals as goal

pub returns-in_err-place-clause-found : goal.returns-in_err-place-clause-found
returns-in_err-place-clause-found g c =
    let found = entry_of-no_position c.args.number c.args.out.now.items (sym c.place_of.ensures ∙ c.in_err-place.was) in
    let none = c.from_residual.ensures in cc

pub returns-in_err-place-clause-besides : goal.returns-in_err-place-clause-besides
returns-in_err-place-clause-besides g c =
    sym (entry_of-no_position c.args.number c.args.out.now.items (sym c.place_of.ensures ∙ c.in_err-place.was)).1

pub returns-clause-found : goal.returns-clause-found
returns-clause-found g c =
    let at = entry_of-position c.args.number c.args.out.now.items c.in_ok-place.place (c.in_ok-value.field-0-0, c.in_ok-value.value) (sym c.place_of.ensures ∙ c.in_ok-place.was) in
    sym (rw (← c.in_ok-value.ensures.value) at at.0)

pub returns-clause-besides : goal.returns-clause-besides
returns-clause-besides g c =
    let at = entry_of-position c.args.number c.args.out.now.items c.in_ok-place.place (c.in_ok-value.field-0-0, c.in_ok-value.value) (sym c.place_of.ensures ∙ c.in_ok-place.was) in
    c.in_ok-value.ensures.items ∙ sym at.1
