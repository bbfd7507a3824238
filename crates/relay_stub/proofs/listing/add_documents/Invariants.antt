use Rattle.std.proofs.Common.{◌≡◌, ◌++◌, take}
use Rattle.relay_stub.specs.Listing.{listing}
use Rattle.relay_stub.proofs.listing.add_documents.Given as goal

abbrev pub invariant-documents : goal.invariant-documents
invariant-documents l = l.text.items ≡ l.fn.text.items ++ listing l.fn.index (take l.key-index l.fn.keys)
