use Rattle.relay_http.proofs.Replies.{reply_unique}
use Rattle.relay_http.proofs.Arrivals.{request_unique_there}
use Rattle.relay_http.proofs.laws.messages_are_unique.Goals as goal

pub returns-clause-replies : goal.returns-clause-replies
returns-clause-replies c = reply_unique

pub returns-clause-requests : goal.returns-clause-requests
returns-clause-requests c = request_unique_there
