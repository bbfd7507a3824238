use Rattle.std.proofs.Common.{[], codes}
use Rattle.std.proofs.lemmas.Str.Pattern.{starts_text}
use Rattle.relay_front.proofs.Names.{differ}
use Rattle.relay_front.proofs.query.is_ignored.Goals as goal

pub returns-in_default : goal.returns-in_default
returns-in_default c =
    let n = c.args.name.now in
    let d = c.in_default in
    let empty = differ n [] d.not-empty in
    let timeout = differ n (codes "timeout") d.not-timeout in
    let refresh = differ n (codes "refresh") d.not-refresh in
    let pretty = differ n (codes "pretty") d.not-pretty in
    let human = differ n (codes "human") d.not-human in
    let trace = differ n (codes "error_trace") d.not-error_trace in
    let path = differ n (codes "filter_path") d.not-filter_path in
    let shards = differ n (codes "wait_for_active_shards") d.not-wait_for_active_shards in
    let master = differ n (codes "master_timeout") d.not-master_timeout in
    rw (empty, timeout, refresh, pretty, human, trace, path, shards, master) (starts_text c.starts_with.result (codes "_source") n c.starts_with.ensures.cases)
