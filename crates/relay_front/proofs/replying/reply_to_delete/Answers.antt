use Rattle.std.proofs.Common.{false, inl, inr}
use Rattle.relay_front.proofs.Keys.{made_is}
use Rattle.relay_front.proofs.replying.reply_to_delete.Goals as goal

pub returns-in-Ok : goal.returns-in-Ok
returns-in-Ok g c =
    let key = c.in-Ok.key in
    let named = rw c.in-Ok.is at c.in_ok-key.ensures in
    let write = rw c.delete.ensures at c.reply_to_write.ensures in
    inr (inl (key, made_is c.args.index.now c.args.id.now key.index key.id false c.in-Ok.field-0-1 named, write))
