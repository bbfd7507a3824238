-- How many connections a listener has provided.
use Rattle.std.proofs.Common.{◌≡◌, ℕ, suc, zero, ◌+◌, ◌≤◌, ap, ◌∙◌, arith}
use Rattle.relay_action.specs.Streams.{most, one_more}
use Rattle.relay_index.specs.Serving.{Server}
use Rattle.relay_http.specs.Listening.{Listening}
use Rattle.relay_stub.specs.Visits.{VisitsAll}

one_further : (a n b : ℕ) → a + suc n ≤ most → b ≡ a + n → one_more b ≡ a + suc n
one_further a n b room is = omega (arith, room, is)

pub count_after : (n : ℕ) (from to : Listening) (old new : Server) → VisitsAll n from old to new → from.accepted + n ≤ most
    → to.accepted ≡ from.accepted + n
count_after zero from to old new visits room =
    let same = ap (λ (l : Listening). l.accepted) visits.0 in
    omega (arith, same)
count_after (suc n) from to old new visits room =
    let at = visits.0 in
    let last = visits.3 in
    let fewer : from.accepted + n ≤ most = omega (arith, room) in
    let before = count_after n from at old visits.1 visits.2 fewer in
    ap (λ (l : Listening). l.accepted) last.back ∙ last.hands_out.accepted ∙ one_further from.accepted n at.accepted room before
