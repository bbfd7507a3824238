-- Why an operation is refused, as its item says it.
use Rattle.std.specs.Prelude.{ℕ, List, ◌++◌, codes}
use Rattle.relay_action.specs.declared.fault.ActionFault.{ActionFault}
use Rattle.relay_action.specs.declared.fault.ActionFault.TheVariants as action
use Rattle.relay_front.specs.declared.operation.ItemFault.{ItemFault}
use Rattle.relay_front.specs.declared.operation.ItemFault.TheVariants as fault

abbrev pub limit_reason : ActionFault → List ℕ
limit_reason action.IndexEmpty = codes "[_index] must not be empty"
limit_reason action.IndexLong = codes "[_index] must not have more than 255 bytes"
limit_reason action.IdEmpty = codes "[_id] must not be empty"
limit_reason action.IdLong = codes "[_id] must not have more than 512 bytes"
limit_reason action.SourceEmpty = codes "the source must not be empty"
limit_reason action.SourceLong = codes "the relay takes sources of at most 1048576 bytes"
limit_reason action.SourceNewline = codes "the source must be on one line"
limit_reason action.Memory = codes "the relay ran out of memory"

-- the reason names the member, if there is one
abbrev pub reason_of : ItemFault → List ℕ
reason_of fault.Update = codes "the relay does not support [update]; send the whole document with [index]"
reason_of fault.CreateWithId = codes "the relay does not support [create] with an [_id]; use [index]"
reason_of (fault.Member name) = codes "the relay does not support [" ++ name ++ codes "] in an action line"
reason_of fault.NoIndex = codes "[_index] is missing"
reason_of fault.IndexForm = codes "[_index] must be a string"
reason_of fault.NoId = codes "[_id] is missing"
reason_of fault.IdForm = codes "[_id] must be a string or a 64-bit integer"
reason_of fault.SourceForm = codes "the source is not UTF-8"
reason_of (fault.Action limit) = limit_reason limit
