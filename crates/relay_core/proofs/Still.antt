-- Looking at what is held changes nothing but the looks.
use Rattle.std.proofs.Common.{◌≡◌, ◌≤◌, Vec, Global, sym, subst, true, arith}
use Rattle.std.specs.Prelude.{Bool, vec_len, vec_capacity}
use Rattle.std.specs.List.{list_all}
use Rattle.relay_batch.specs.declared.item.Room.{Room}
use Rattle.relay_held.specs.Queues.{Holding}
use Rattle.relay_core.specs.declared.lane.Lane.TheInside.{Inside}
use Rattle.relay_core.specs.declared.report.Report.{Report}
use Rattle.relay_core.specs.declared.success.Success.{Success}
use Rattle.relay_core.specs.Quiet.{is_roomy, IsQuiet}
use Rattle.relay_core.specs.View.{IsSound}
use Rattle.relay_core.specs.Walk.{items_of_kept}

-- what is held is the same, and only the looks and the room differ
pub sound_still : (i : Inside) (h : Holding) (room : Room) → h ≡ record i.held { looks = h.looks } → IsSound i
    → (is_roomy room ≡ true → IsQuiet i.held.clock i.mark (list_all (λ (b : Bool). b) i.closed.items) i.config.limits (items_of_kept i.held.list i.held.clock i.held.list) room)
    → IsSound (record i { held = h; room = room })
sound_still i h room same v quiet = subst (λ (x : Holding). IsSound (record i { held = x; room = room })) (sym same) (record {
  readable = v.readable;
  under = v.under;
  flight = v.flight;
  most = v.most;
  room = v.room;
  places = v.places;
  few = v.few;
  limit = v.limit;
  tries = v.tries;
  senders = v.senders;
  first = v.first;
  versions = v.versions;
  dealt = v.dealt;
  counted = v.counted;
  done = v.done;
  left = v.left;
  config = v.config;
  begins = v.begins;
  quiet = quiet;
})

-- the reports and the successes are as many, and have as much room or more
pub sound_roomier : (i : Inside) (rs : Vec Report Global) (ss : Vec Success Global) → vec_len rs ≡ vec_len i.reports → vec_capacity i.reports ≤ vec_capacity rs → vec_len ss ≡ vec_len i.successes
    → vec_capacity i.successes ≤ vec_capacity ss → IsSound i → IsSound (record i { reports = rs; successes = ss })
sound_roomier i rs ss same more same' more' v = record {
  readable = v.readable;
  under = v.under;
  flight = v.flight;
  most = v.most;
  room = let p = v.room in omega (arith, p, same, more);
  places = let p = v.places in omega (arith, p, same', more');
  few = v.few;
  limit = v.limit;
  tries = v.tries;
  senders = v.senders;
  first = v.first;
  versions = v.versions;
  dealt = v.dealt;
  counted = let p = v.counted in omega (arith, p, same);
  done = v.done;
  left = v.left;
  config = v.config;
  begins = v.begins;
  quiet = v.quiet;
}
