use Rattle.std.proofs.Common.{◌≡◌, length, refl, sym, rules}
use Rattle.relay_report.proofs.Noted.{notes_unnamed, notes_absent}
use Rattle.relay_report.proofs.keeping.Keeping.supersede.Goals as goal

pub returns-in-Some : goal.returns-in-Some
returns-in-Some c = λ before n.
    let count : c.len-count.result ≡ length c.args.self.now.found.items = search rules in
    let set = (c.get_mut.follows.holds c.len-count.result).3 (rw (sym c.in-Some.ensures.value) refl) in
    notes_unnamed _ _ _ before c.args.key.now c.len-count.result count set n

pub returns-in_default : goal.returns-in_default
returns-in_default c = λ before n. rw c.get_mut.follows.holds-at-none (notes_absent _ _ before c.args.key.now (sym c.in_default.ensures.value) n)
