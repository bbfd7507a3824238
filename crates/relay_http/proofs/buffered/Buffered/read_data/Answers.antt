use Rattle.std.proofs.Common.{rules}
use Rattle.relay_http.proofs.buffered.Buffered.read_data.Goals as goal

pub reading-init : goal.reading-init
reading-init g c = search rules
