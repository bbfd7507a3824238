use Rattle.std.proofs.Common.{ap, sym, ◌∙◌, length}
use Rattle.relay_delay.specs.Heaps.{Heap}
use Rattle.relay_delay.proofs.Heaping.{later_length}
use Rattle.relay_delay.proofs.later.Later.len.Goals as goal

pub returns : goal.returns
returns c = c.len.ensures ∙ c.self.inside.heap.data.ok.0 ∙ sym (later_length c.self.inside.heap.data.items) ∙ ap (λ (h : Heap). length h.entries) c.self.view_is
