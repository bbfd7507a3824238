-- A request that stores a document is replied to once its key and its source are known.
use Rattle.std.proofs.Common.{ℕ, List, Bool, inl, inr}
use Rattle.relay_action.specs.declared.key.DocKey.{DocKey}
use Rattle.relay_front.specs.Service.{Settles, Reply, IsKey, RepliesToSource, RepliesToPut}

pub put_by : {S : Type 0} (settles : Settles S) (made : Bool) (index id content : List ℕ) (key : DocKey) (old : S) (reply : Reply) (new : S) → IsKey index id made key
    → RepliesToSource settles made key content old reply new → RepliesToPut settles made index id content old reply new
put_by settles made index id content key old reply new named (inl r) = inr (inl r)
put_by settles made index id content key old reply new named (inr (inl r)) = inr (inr (inl (key, r.0, named, r.1, r.2, r.3)))
put_by settles made index id content key old reply new named (inr (inr r)) = inr (inr (inr r))
