use Rattle.std.proofs.Common.{ap}
use Rattle.http_header.specs.FieldValue.{FieldValue}
use Rattle.relay_front.proofs.service.add_product.Goals as goal

pub returns-in-Compatible : goal.returns-in-Compatible
returns-in-Compatible c = rw (c.in-Compatible.is, ← c.from_static.ensures, ← (ap (λ (v : FieldValue). v.bytes) c.from_static-in-Compatible.ensures)) c.add_header.ensures.headers
