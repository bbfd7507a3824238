-- What the relay says of itself to clients that ask before they write: fixed texts in OpenSearch's form (info, cluster health,
-- compact health, nodes info), and the license of Elasticsearch's.
use Rattle.std.specs.Prelude.{◌≡◌, ◌⊎◌, ℕ, Bool, not, bytes_eq, List, [], ◌++◌, codes, Option, None, Some}
use Rattle.std.specs.List.{list_any}
use Rattle.json.specs.Print.{quoted}
use Rattle.http_header.specs.FieldValue.{FieldValue, IsVisibleAscii}
use Rattle.http_header.specs.HeaderMap.{Entries, get_all}
use Rattle.relay_front.specs.declared.face.Face.{Face}
use Rattle.relay_front.specs.declared.face.Face.TheVariants as face

-- `GET /`
abbrev pub info_of : Face → List ℕ
info_of face.Compatible = codes "{\"name\":\"relay\",\"cluster_name\":\"relay\",\"cluster_uuid\":\"relay\",\"version\":{\"number\":\"7.10.2\",\"distribution\":\"opensearch\",\"build_flavor\":\"default\",\"build_type\":\"relay\",\"build_hash\":\"relay\",\"build_date\":\"2026-01-01T00:00:00Z\",\"build_snapshot\":false,\"lucene_version\":\"9.7.0\",\"minimum_wire_compatibility_version\":\"7.10.0\",\"minimum_index_compatibility_version\":\"7.0.0\"},\"tagline\":\"You Know, for Search\"}"
info_of face.OpenSearch = codes "{\"name\":\"relay\",\"cluster_name\":\"relay\",\"cluster_uuid\":\"relay\",\"version\":{\"distribution\":\"opensearch\",\"number\":\"2.11.0\",\"build_type\":\"relay\",\"build_hash\":\"relay\",\"build_date\":\"2026-01-01T00:00:00Z\",\"build_snapshot\":false,\"lucene_version\":\"9.7.0\",\"minimum_wire_compatibility_version\":\"7.10.0\",\"minimum_index_compatibility_version\":\"7.0.0\"},\"tagline\":\"The OpenSearch Project: https://opensearch.org/\"}"

abbrev pub cluster_health : List ℕ
cluster_health = codes "{\"cluster_name\":\"relay\",\"status\":\"green\",\"timed_out\":false,\"number_of_nodes\":1,\"number_of_data_nodes\":1,\"active_primary_shards\":0,\"active_shards\":0,\"relocating_shards\":0,\"initializing_shards\":0,\"unassigned_shards\":0,\"delayed_unassigned_shards\":0,\"number_of_pending_tasks\":0,\"number_of_in_flight_fetch\":0,\"task_max_waiting_in_queue_millis\":0,\"active_shards_percent_as_number\":100.0}"

-- a line of text
abbrev pub compact_health : List ℕ
compact_health = codes "0 00:00:00 relay green 1 1 0 0 0 0 0 0 - 100.0%\n"

abbrev pub license : List ℕ
license = codes "{\"license\":{\"status\":\"active\",\"uid\":\"relay\",\"type\":\"basic\",\"issue_date\":\"2026-01-01T00:00:00.000Z\",\"issue_date_in_millis\":1767225600000,\"max_nodes\":1000,\"issued_to\":\"relay\",\"issuer\":\"relay\",\"start_date_in_millis\":-1}}"

-- one node, at this address
abbrev pub nodes_body : List ℕ → List ℕ
nodes_body address =
    codes "{\"_nodes\":{\"total\":1,\"successful\":1,\"failed\":0},\"cluster_name\":\"relay\",\"nodes\":{\"relay\":{\"name\":\"relay\",\"version\":\"7.10.2\",\"roles\":[\"data\",\"ingest\",\"master\"],\"http\":{\"bound_address\":["
    ++ quoted address ++ codes "],\"publish_address\":" ++ quoted address ++ codes ",\"max_content_length_in_bytes\":104857600}}}}"

-- `GET /_relay/health`
abbrev pub up : List ℕ
up = codes "{\"status\":\"up\"}"

-- for this reason no writes can be settled
abbrev pub down : List ℕ → List ℕ
down reason = codes "{\"status\":\"down\",\"reason\":" ++ quoted reason ++ codes "}"

-- `POST /_relay/stop`
abbrev pub stopping : List ℕ
stopping = codes "{\"status\":\"stopping\"}"

-- the address that the client used: that of the target, or else what its field `host` shows (RFC 9112, section 3.2)
abbrev pub IsAddress : Option (List ℕ) → Option FieldValue → List ℕ → Type 0
IsAddress (Some authority) host address = address ≡ authority
IsAddress None None address = address ≡ []
IsAddress None (Some host) address =
    (IsVisibleAscii host.bytes × (address ≡ host.bytes)) ⊎ (¬ (IsVisibleAscii host.bytes) × (address ≡ []))

-- a value of `content-encoding` (RFC 9110, section 8.4) names a coding other than that which says that there is none
abbrev pub is_coding : FieldValue → Bool
is_coding coding = not (bytes_eq coding.bytes (codes "identity"))

-- a body has a coding, whichever of the fields names it
abbrev pub is_coded : Entries FieldValue → Bool
is_coded fields = list_any is_coding (get_all fields (codes "content-encoding"))
