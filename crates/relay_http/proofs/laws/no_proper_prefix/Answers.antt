use Rattle.relay_http.specs.Reply.{IsReplyMessage}
use Rattle.relay_http.specs.Request.{IsRequest}
use Rattle.relay_http.proofs.Replies.{reply_unique}
use Rattle.relay_http.proofs.Arrivals.{request_unique_there}
use Rattle.relay_http.proofs.AnswerLaws.{no_proper_prefix}
use Rattle.relay_http.proofs.laws.no_proper_prefix.Goals as goal

pub returns-clause-replies : goal.returns-clause-replies
returns-clause-replies c = λ x y more a b m n e. no_proper_prefix IsReplyMessage reply_unique x y more a b m n e

pub returns-clause-requests : goal.returns-clause-requests
returns-clause-requests c = λ x y more a b m n e. no_proper_prefix IsRequest request_unique_there x y more a b m n e
