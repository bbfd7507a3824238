use Rattle.std.proofs.Common.{codes, refl}
use Rattle.serde_json.specs.Find.{as_str}
use Rattle.relay_results.specs.Parts.{status_of, told_error}
use Rattle.relay_results.proofs.OneMore.{told_here, told_before, other_name}
use Rattle.relay_results.proofs.reading.EntryFieldsGather.member.Goals as goal

pub returns-in_ok-leaf-in-text-clause-ok : goal.returns-in_ok-leaf-in-text-clause-ok
returns-in_ok-leaf-in-text-clause-ok c =
    let read = c.in_ok-leaf-in-text.ensures.ok in
    let name = c.args.name.now in (
      read.0,
      read.1,
      λ ms h. record {
        id = told_here as_str (codes "_id") name read.0 ms _ c.in-text.is (c.as_str-self.ensures.value read.0 read.2);
        status = told_before status_of (codes "status") name read.0 ms _ (other_name name (codes "_id") (codes "status") c.in-text.is refl) h.status;
        error = told_before told_error (codes "error") name read.0 ms _ (other_name name (codes "_id") (codes "error") c.in-text.is refl) h.error;
      },
    )

pub returns-in_ok-leaf-in-status-clause-ok : goal.returns-in_ok-leaf-in-status-clause-ok
returns-in_ok-leaf-in-status-clause-ok c =
    let read = c.in_ok-leaf-in-status.ensures.ok in
    let name = c.args.name.now in (
      read.0,
      read.1,
      λ ms h. record {
        id = told_before as_str (codes "_id") name read.0 ms _ (other_name name (codes "status") (codes "_id") c.in-status.is refl) h.id;
        status = told_here status_of (codes "status") name read.0 ms _ c.in-status.is (c.status_of-self.ensures read.0 read.2);
        error = told_before told_error (codes "error") name read.0 ms _ (other_name name (codes "status") (codes "error") c.in-status.is refl) h.error;
      },
    )

pub returns-in_ok-self-in-error-clause-ok : goal.returns-in_ok-self-in-error-clause-ok
returns-in_ok-self-in-error-clause-ok c =
    let read = c.in_ok-self-in-error.ensures.ok in
    let name = c.args.name.now in (
      read.0,
      read.1,
      λ ms h. record {
        id = told_before as_str (codes "_id") name read.0 ms _ (other_name name (codes "error") (codes "_id") c.in-error.is refl) h.id;
        status = told_before status_of (codes "status") name read.0 ms _ (other_name name (codes "error") (codes "status") c.in-error.is refl) h.status;
        error = told_here told_error (codes "error") name read.0 ms _ c.in-error.is read.2;
      },
    )

pub returns-in_ok-leaf-in_default-clause-ok : goal.returns-in_ok-leaf-in_default-clause-ok
returns-in_ok-leaf-in_default-clause-ok c =
    let read = c.in_ok-leaf-in_default.ensures.ok in
    let name = c.args.name.now in (
      read.0,
      read.1,
      λ ms h. record {
        id = told_before as_str (codes "_id") name read.0 ms _ c.in_default.not-text h.id;
        status = told_before status_of (codes "status") name read.0 ms _ c.in_default.not-status h.status;
        error = told_before told_error (codes "error") name read.0 ms _ c.in_default.not-error h.error;
      },
    )
