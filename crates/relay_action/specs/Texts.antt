-- For the view of a text: the bytes that it holds.
use Rattle.std.specs.Prelude.{ℕ, List}
use Rattle.relay_action.specs.declared.text.Held.{Held}
use Rattle.relay_action.specs.declared.text.Held.TheVariants as held

abbrev pub held_bytes : Held → List ℕ
held_bytes (held.Short short) = short
held_bytes (held.Long long) = long
