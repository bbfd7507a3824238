use Rattle.std.proofs.Common.{rules, inr, refl}
use Rattle.relay_action.specs.declared.write.Write.{Write}
use Rattle.relay_results.specs.Documents.{document_of}
use Rattle.relay_stub.specs.Documents.{IsPut}
use Rattle.relay_stub.proofs.document.put_document.Goals as goal

pub returns-in-Ok-run_and_answer : goal.returns-in-Ok-run_and_answer
returns-in-Ok-run_and_answer c =
    let write : Write = record { key = c.args.key; version = c.next_version-version.result; action = c.in-Some.action } in
    record {
      write = write;
      is = record { document_is = refl; stores = search rules; version_is = c.next_version-version.ensures };
      runs = c.in-Ok-run_and_answer.ensures;
    }

pub returns : goal.returns
returns c =
    let write : Write = record { key = c.args.key; version = c.next_version-version.result; action = c.in-Some.action } in
    let is : IsPut (document_of c.args.key) c.args.body.now c.args.index.now write = record { document_is = refl; stores = search rules; version_is = c.next_version-version.ensures } in
    inr (write, is, c.in-Err.ensures)
