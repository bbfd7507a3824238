-- The message of a signal of the control.
use Rattle.relay_action.specs.declared.mail.Body.{Body}
use Rattle.relay_action.specs.declared.mail.Body.TheVariants as body
use Rattle.relay_producer.specs.declared.lanes.Signal.{Signal}
use Rattle.relay_producer.specs.declared.lanes.Signal.TheVariants.{Tick, Flush}

abbrev pub body_of : Signal → Body
body_of Tick = body.Tick
body_of Flush = body.Flush
