use Rattle.std.proofs.Common.{arith}
use Rattle.std.proofs.lemmas.List.{length-map}
use Rattle.std.specs.Prelude.{map, string_bytes}
use Rattle.relay_run.proofs.Writing.{starts_if}
use Rattle.relay_run.proofs.files.run_kept.Goals as goal

pub going_of-requires-clause-starts : goal.going_of-requires-clause-starts
going_of-requires-clause-starts g c κs within =
    let files = c.args.options.now.files in
    let all = length-map files.items string_bytes in
    let ok = files.ok.0 in
    let sources = c.requires.sources in
    let len = c.len.ensures in
    starts_if (map string_bytes files.items) c.args.devices.resumed c.len.result c.in_ok-starts.starts.items c.requires.begun (omega (arith, all, ok, sources, len)) c.in_ok-starts.ensures.starts
