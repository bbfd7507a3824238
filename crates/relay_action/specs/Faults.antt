-- The first fault of a document or a source, and the names of faults.
use Rattle.std.specs.Prelude.{ℕ, ◌==◌, nat_lt, if◌then◌else◌, List, length, codes, Option, None, Some}
use Rattle.std.specs.List.{list_any}
use Rattle.relay_action.specs.Limits.{index_limit, id_limit, source_limit, is_line_end}
use Rattle.relay_action.specs.declared.fault.ActionFault.{ActionFault}
use Rattle.relay_action.specs.declared.fault.ActionFault.TheVariants as fault

-- the first fault of an index name and an id
abbrev pub key_fault : List ℕ → List ℕ → Option ActionFault
key_fault index id =
    if length index == 0 then Some fault.IndexEmpty
    else if nat_lt index_limit (length index) then Some fault.IndexLong
    else if length id == 0 then Some fault.IdEmpty
    else if nat_lt id_limit (length id) then Some fault.IdLong
    else None

-- the first fault of a source
abbrev pub source_fault : List ℕ → Option ActionFault
source_fault source =
    if length source == 0 then Some fault.SourceEmpty
    else if nat_lt source_limit (length source) then Some fault.SourceLong
    else if list_any is_line_end source then Some fault.SourceNewline
    else None

-- the name of a fault, as the programs print it
abbrev pub fault_name : ActionFault → List ℕ
fault_name fault.IndexEmpty = codes "IndexEmpty"
fault_name fault.IndexLong = codes "IndexLong"
fault_name fault.IdEmpty = codes "IdEmpty"
fault_name fault.IdLong = codes "IdLong"
fault_name fault.SourceEmpty = codes "SourceEmpty"
fault_name fault.SourceLong = codes "SourceLong"
fault_name fault.SourceNewline = codes "SourceNewline"
fault_name fault.Memory = codes "Memory"
