-- What a producer puts, one operation after another, and the names that they get.
use Rattle.std.specs.Prelude.{ℕ, ◌+◌, List, [], ◌∷◌}
use Rattle.relay_action.specs.declared.operation.Op.{Op}
use Rattle.relay_ndjson.specs.Operations.{Operation}
use Rattle.relay_producer.specs.States.{ProducerState, after_put}

-- a producer that put these operations, one after another
abbrev pub after_puts : ProducerState → List Operation → ProducerState
after_puts s [] = s
after_puts s (op ∷ ops) = after_puts (after_put op.0 op.1 s) ops

-- operations under the names of this producer in an epoch, with the numbers n, n + 1 and so on
abbrev pub named_ops : ℕ → ℕ → ℕ → List Operation → List Op
named_ops epoch producer n [] = []
named_ops epoch producer n (op ∷ ops) = record { epoch = epoch; producer = producer; number = n; key = op.0; action = op.1 } ∷ named_ops epoch producer (n + 1) ops
