-- The fields of a response (RFC 9110).
use Rattle.std.specs.Prelude.{◌≡◌, ℕ, Bool, true, false, List, [], ◌∷◌, ◌++◌, codes}
use Rattle.http1.specs.Fields.{Header}
use Rattle.http_server.specs.declared.response.Response.{Response}
use Rattle.http_server.specs.Response.{fields_of}
use Rattle.relay_front.specs.declared.face.Face.{Face}
use Rattle.relay_front.specs.declared.face.Face.TheVariants as face
use Rattle.relay_front.specs.Routes.{Target, CatHealth, Metrics, Method}

-- the media type (section 8.3): JSON, but for the compact health and the metrics
abbrev pub media_of : Target → List ℕ
media_of CatHealth = codes "text/plain; charset=UTF-8"
media_of Metrics = codes "text/plain; version=0.0.4; charset=utf-8"
media_of other = codes "application/json"

-- the product, for which clients of Elasticsearch's look
abbrev pub product_of : Face → List Header
product_of face.Compatible = (codes "x-elastic-product", codes "Elasticsearch") ∷ []
product_of face.OpenSearch = []

-- the methods that a target has (section 10.2.1), where it does not have that of the request
abbrev pub allow_of : Target → List Header
allow_of (Method allow) = (codes "allow", allow) ∷ []
allow_of other = []

-- whether the relay takes no further request (RFC 9112, section 9.6)
abbrev pub close_of : Bool → List Header
close_of true = (codes "connection", codes "close") ∷ []
close_of false = []

-- all of them, in order
abbrev pub fields_to : Face → Target → Bool → List Header
fields_to face target is_ending = (((codes "content-type", media_of target) ∷ product_of face) ++ allow_of target) ++ close_of is_ending

-- the response has them, with the last one or without
abbrev pub HasFields : Face → Target → Response → Type 0
HasFields face target r = (is_ending : Bool) × (fields_of r ≡ fields_to face target is_ending)
