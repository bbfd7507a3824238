-- What may go to another thread, of a client, which holds a snapshot, and of what holds clients. Rattle finds this by itself of a type
-- below which there is no snapshot; of the others a `search` runs out of steps, so their parts are named here.
use denote.Builtin.{u8}
use denote.Param.Send.{IsSend, view_send, recorded_send, struct_send, plain_send}
use denote.Struct.Declared.{shape}
use Rattle.std.proofs.Crossing.{crosses, frees, Arc-send, Deque-send, Vec-send}
use Rattle.std.proofs.alloc.Global.TheSendSync as heap
use Rattle.std.proofs.net.tcp.TcpStream.TheSendSync as stream
use Rattle.std.proofs.option.Option.TheSendSync as option
use Rattle.std.proofs.time.Instant.TheSendSync as instant
use Rattle.std.specs.contracts.alloc.Global as Global
use Rattle.std.specs.contracts.impls.GlobalAllocator.TheImpl.{ghosts}
use Rattle.std.specs.contracts.time.Instant as Instant
use Rattle.crossbeam_channel.specs.contracts.channel.Receiver as Receiver
use Rattle.crossbeam_channel.specs.contracts.channel.Sender as Sender
use Rattle.crossbeam_channel.proofs.channel.Receiver.TheSendSync as receiver
use Rattle.crossbeam_channel.proofs.channel.Sender.TheSendSync as sender
use Rattle.http_server.proofs.connection.Connection.TheSendSync as connection
use Rattle.mio.proofs.event.events.Events.TheSendSync as events
use Rattle.mio.proofs.poll.Poll.TheSendSync as poll
use Rattle.mio.proofs.waker.Waker.TheSendSync as waker
use Rattle.mio.specs.contracts.waker.Waker as Waker
use Rattle.slab.proofs.Slab.TheSendSync as slab
use Rattle.relay_clients.specs.contracts.client.Client as Client
use Rattle.relay_clients.specs.contracts.client.Client.TheInside as Inside
use Rattle.relay_clients.specs.contracts.parking.Parking as Parking
use Rattle.relay_clients.specs.contracts.poller.Poller as Poller
use Rattle.relay_clients.proofs.client.Phase.TheSendSync as phase
use Rattle.relay_clients.proofs.entrance.Origin.TheSendSync as origin
use Rattle.relay_clients.proofs.farewell.Farewell.TheSendSync as farewell
use Rattle.relay_clients.proofs.places.Place.TheSendSync as place
use Rattle.relay_clients.proofs.poller.PollerParts.TheSendSync as parts
use Rattle.relay_clients.proofs.room.Intake.TheSendSync as intake

pub Client-send : IsSend Client.the_row
Client-send =
    view_send Inside.the_row _ _ _ _ (
    recorded_send (Inside.the_field).row _ _ (Inside.the_type).to_one (
    struct_send (shape Inside.the_type) (
      heap.the_field_send,
      (
        stream.the_field_send,
        (
          connection.the_field_send,
          (
            phase.the_field_send,
            (
              farewell.the_field_send,
              (
                option.the_field_send Instant.the_row instant.the_send,
                (
                  plain_send _ _ _ _ _,
                  (
                    plain_send _ _ _ _ _,
                    (
                      origin.the_field_send,
                      (
                        intake.the_field_send,
                        (
                          search crosses,
                          (plain_send _ _ _ _ _, (option.the_field_send Instant.the_row instant.the_send, (place.the_field_send, tt))),
                        ),
                      ),
                    ),
                  ),
                ),
              ),
            ),
          ),
        ),
      ),
    )
    )
    )

pub Sender-send : IsSend (Sender.the_row Client.the_row Global.the_row ghosts)
Sender-send = sender.the_send Client.the_row Global.the_row ghosts Client-send heap.the_send heap.the_sync frees

pub Receiver-send : IsSend (Receiver.the_row Client.the_row Global.the_row ghosts)
Receiver-send = receiver.the_send Client.the_row Global.the_row ghosts Client-send heap.the_send heap.the_sync frees

pub Parking-send : IsSend Parking.the_row
Parking-send =
    recorded_send (Parking.the_field).row _ _ (Parking.the_type).to_one (
    struct_send (shape Parking.the_type) (Sender-send, (Sender-send, (Arc-send Waker.the_row waker.the_send waker.the_sync, tt)))
    )

pub Poller-send : IsSend Poller.the_row
Poller-send =
    recorded_send (Poller.the_field).row _ _ (Poller.the_type).to_one (
    struct_send (shape Poller.the_type) (
      heap.the_field_send,
      (
        poll.the_field_send,
        (
          events.the_field_send Global.the_row ghosts heap.the_send frees,
          (
            parts.the_field_send,
            (
              Sender-send,
              (
                Receiver-send,
                (
                  slab.the_send Client.the_row Global.the_row ghosts Client-send heap.the_send frees,
                  (
                    Deque-send Client.the_row Client-send,
                    (Vec-send u8 (plain_send _ _ _ _ _), tt),
                  ),
                ),
              ),
            ),
          ),
        ),
      ),
    )
    )
