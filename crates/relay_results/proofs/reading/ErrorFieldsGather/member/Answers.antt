use Rattle.std.proofs.Common.{codes, refl}
use Rattle.serde_json.specs.Find.{as_str}
use Rattle.relay_results.proofs.OneMore.{told_here, told_before, other_name}
use Rattle.relay_results.proofs.reading.ErrorFieldsGather.member.Goals as goal

pub returns-in_ok-leaf-in-type-clause-ok : goal.returns-in_ok-leaf-in-type-clause-ok
returns-in_ok-leaf-in-type-clause-ok c =
    let read = c.in_ok-leaf-in-type.ensures.ok in
    let name = c.args.name.now in (
      read.0,
      read.1,
      λ ms h. record {
        kind = told_here as_str (codes "type") name read.0 ms _ c.in-type.is (c.as_str-self.ensures.value read.0 read.2);
        reason = told_before as_str (codes "reason") name read.0 ms _ (other_name name (codes "type") (codes "reason") c.in-type.is refl) h.reason;
      },
    )

pub returns-in_ok-leaf-in-reason-clause-ok : goal.returns-in_ok-leaf-in-reason-clause-ok
returns-in_ok-leaf-in-reason-clause-ok c =
    let read = c.in_ok-leaf-in-reason.ensures.ok in
    let name = c.args.name.now in (
      read.0,
      read.1,
      λ ms h. record {
        kind = told_before as_str (codes "type") name read.0 ms _ (other_name name (codes "reason") (codes "type") c.in-reason.is refl) h.kind;
        reason = told_here as_str (codes "reason") name read.0 ms _ c.in-reason.is (c.as_str-self-in-reason.ensures.value read.0 read.2);
      },
    )

pub returns-in_ok-leaf-in_default-clause-ok : goal.returns-in_ok-leaf-in_default-clause-ok
returns-in_ok-leaf-in_default-clause-ok c =
    let read = c.in_ok-leaf-in_default.ensures.ok in
    let name = c.args.name.now in (
      read.0,
      read.1,
      λ ms h. record {
        kind = told_before as_str (codes "type") name read.0 ms _ c.in_default.not-type h.kind;
        reason = told_before as_str (codes "reason") name read.0 ms _ c.in_default.not-reason h.reason;
      },
    )
