use Rattle.std.proofs.Common.{inl, refl, sym}
use Rattle.relay_front.proofs.Keys.{made_is}
use Rattle.relay_front.proofs.Putting.{put_by}
use Rattle.relay_front.proofs.replying.reply_to_put.Goals as goal

pub returns-in-Ok : goal.returns-in-Ok
returns-in-Ok g c =
    let key = c.in-Ok.key in
    let named = rw c.in-Ok.is at c.in_ok-key.ensures in
    put_by g.S.Settle.settles c.args.made c.args.index.now c.args.id.now c.args.body.now key _ _ _
    (made_is c.args.index.now c.args.id.now key.index key.id c.args.made c.in-Ok.field-0-1 named) c.reply_to_source.ensures

pub returns-in-Err : goal.returns-in-Err
returns-in-Err g c = inl (refl, c.in-Err.fault, sym (rw c.in-Err.is at c.in_ok-key.ensures), c.refuse_item.ensures)
