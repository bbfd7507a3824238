-- Requests that ask for the same.
use Rattle.std.specs.Prelude.{ℕ, Bool, List, Option}
use Rattle.http.specs.declared.request.Request.{Request}
use Rattle.http.specs.Request.{head_of, body_of}
use Rattle.http_uri.specs.Uri.{uri_path, uri_query}
use Rattle.relay_front.specs.Faces.{is_coded}

-- What a request asks for: all that decides what is replied to one that writes, but for how its writes end, and the ids that are
-- made for it.
pub record Asking : Type 0 where
  pub method : List ℕ
  pub path : List ℕ
  pub query : Option (List ℕ)
  pub coded : Bool
  pub body : List ℕ

abbrev pub asking : Request (List ℕ) → Asking
asking request = record {
  method = (head_of request).method;
  path = uri_path (head_of request).uri;
  query = uri_query (head_of request).uri;
  coded = is_coded (head_of request).headers;
  body = body_of request;
}
