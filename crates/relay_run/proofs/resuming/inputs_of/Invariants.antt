use Rattle.std.proofs.Common.{◌≡◌, [], map, vec_len}
use Rattle.std.specs.Prelude.{string_bytes}
use Rattle.relay_run.specs.Written.{AreRead}
use Rattle.relay_run.proofs.resuming.inputs_of.Given as goal

abbrev pub invariant-loop-place : goal.invariant-loop-place
invariant-loop-place l = record {
  count : vec_len l.inputs.starts ≡ l.place;
  read : AreRead (record { producers = l.inputs.producers.items; files = map string_bytes l.paths }) l.inputs.starts.items [] l.inputs.inputs.items;
}
