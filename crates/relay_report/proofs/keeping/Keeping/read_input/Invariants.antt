use Rattle.std.specs.BTreeMap.{get}
use Rattle.std.specs.Ordering.{nat_cmp}
use Rattle.relay_report.proofs.Inputs.{ReadSoFar}
use Rattle.relay_report.proofs.keeping.Keeping.read_input.Given as goal

abbrev pub invariant-operations : goal.invariant-operations
invariant-operations g l = ReadSoFar l.fn.input l.input l.fn.self.marks l.self.marks l.fn.self.found.items l.self.found.items (get nat_cmp l.fn.numbers) l.taken
