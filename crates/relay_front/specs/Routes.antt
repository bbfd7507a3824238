-- What a request asks for, by its method and the parts of its path (OpenSearch, REST API reference). Parts are as they
-- are there, not percent-decoded.
use Rattle.std.specs.Prelude.{ℕ, Bool, true, not, ◌&&◌, ◌||◌, bytes_eq, List, [], ◌∷◌, codes, if◌then◌else◌, ◌==◌, Option, None, Some, option_map}
use Rattle.relay_front.specs.Parts.{parts_at}
use Rattle.relay_front.specs.declared.route.Route.{Route}
use Rattle.relay_front.specs.declared.route.Route.TheVariants as route

pub data Target : Type 0 where
  Info : Target
  ClusterHealth : Target
  CatHealth : Target
  Nodes : Target
  License : Target
  Health : Target
  Metrics : Target
  Stop : Target
  IndexExists : Target
  Bulk : (index : Option (List ℕ)) → Target
  Put : (index id : List ℕ) → Target
  Add : (index : List ℕ) → Target
  Delete : (index id : List ℕ) → Target
  -- there is such a target, with these methods only
  Method : (allow : List ℕ) → Target
  Unknown : Target

-- what a route says, with the texts that it refers to
abbrev pub target_of : Route → Target
target_of route.Info = Info
target_of route.ClusterHealth = ClusterHealth
target_of route.CatHealth = CatHealth
target_of route.Nodes = Nodes
target_of route.License = License
target_of route.Health = Health
target_of route.Metrics = Metrics
target_of route.Stop = Stop
target_of route.IndexExists = IndexExists
target_of (route.Bulk index) = Bulk (option_map (λ t. t.now) index)
target_of (route.Put index id) = Put index.now id.now
target_of (route.Add index) = Add index.now
target_of (route.Delete index id) = Delete index.now id.now
target_of (route.Method allow) = Method allow.now
target_of route.Unknown = Unknown

-- ---- methods

-- a target that is only read
abbrev pub read_by : List ℕ → Target → Target
read_by m t = if bytes_eq m (codes "GET") || bytes_eq m (codes "HEAD") then t else Method (codes "GET, HEAD")

-- a target with one method
abbrev pub only_by : List ℕ → List ℕ → Target → Target
only_by m method t = if bytes_eq m method then t else Method method

abbrev pub bulk_by : List ℕ → Option (List ℕ) → Target
bulk_by m index = if bytes_eq m (codes "POST") || bytes_eq m (codes "PUT") then Bulk index else Method (codes "POST, PUT")

abbrev pub document_by : List ℕ → List ℕ → List ℕ → Target
document_by m index id =
    if bytes_eq m (codes "PUT") || bytes_eq m (codes "POST") then Put index id
    else if bytes_eq m (codes "DELETE") then Delete index id
    else Method (codes "PUT, POST, DELETE")

-- ---- paths

-- no index has this name: it is empty, or begins with `_`
abbrev pub is_reserved : List ℕ → Bool
is_reserved [] = true
is_reserved (b ∷ bs) = b == 95

-- `/A`
abbrev pub one_part : List ℕ → List ℕ → Target
one_part m a =
    if bytes_eq a [] then read_by m Info
    else if bytes_eq a (codes "_bulk") then bulk_by m None
    else if bytes_eq a (codes "_license") then read_by m License
    else if is_reserved a then Unknown
    else only_by m (codes "HEAD") IndexExists

-- `/_relay/B`
abbrev pub relay_part : List ℕ → List ℕ → Target
relay_part m b =
    if bytes_eq b (codes "health") then read_by m Health
    else if bytes_eq b (codes "metrics") then read_by m Metrics
    else if bytes_eq b (codes "stop") then only_by m (codes "POST") Stop
    else Unknown

-- `/A/B` below an index
abbrev pub below_index : List ℕ → List ℕ → List ℕ → Target
below_index m a b =
    if bytes_eq b (codes "_bulk") then bulk_by m (Some a)
    else if bytes_eq b (codes "_doc") then only_by m (codes "POST") (Add a)
    else Unknown

-- `/A/B`
abbrev pub two_parts : List ℕ → List ℕ → List ℕ → Target
two_parts m a b =
    if bytes_eq a (codes "_cluster") && bytes_eq b (codes "health") then read_by m ClusterHealth
    else if bytes_eq a (codes "_cat") && bytes_eq b (codes "health") then read_by m CatHealth
    else if bytes_eq a (codes "_nodes") && bytes_eq b (codes "http") then read_by m Nodes
    else if bytes_eq a (codes "_relay") then relay_part m b
    else if is_reserved a then Unknown
    else below_index m a b

-- `/A/B/C`
abbrev pub three_parts : List ℕ → List ℕ → List ℕ → List ℕ → Target
three_parts m a b c =
    if bytes_eq a (codes "_nodes") && (bytes_eq b (codes "_all") && bytes_eq c (codes "http")) then read_by m Nodes
    else if is_reserved a || not (bytes_eq b (codes "_doc")) then Unknown
    else if bytes_eq c (codes "_bulk") then bulk_by m (Some a)
    else document_by m a c

abbrev pub by_parts : List ℕ → List (List ℕ) → Target
by_parts m [] = Unknown
by_parts m (a ∷ []) = one_part m a
by_parts m (a ∷ b ∷ []) = two_parts m a b
by_parts m (a ∷ b ∷ c ∷ []) = three_parts m a b c
by_parts m (a ∷ b ∷ c ∷ d ∷ ps) = Unknown

-- a slash at the end of a path is dropped
abbrev pub without_slash : List ℕ → List ℕ
without_slash [] = []
without_slash (b ∷ []) = if b == 47 then [] else b ∷ []
without_slash (b ∷ c ∷ bs) = b ∷ without_slash (c ∷ bs)

-- what a request with this method and this path asks for
abbrev pub asked_by : List ℕ → List ℕ → Target
asked_by m [] = Unknown
asked_by m (b ∷ rest) = if b == 47 then by_parts m (parts_at 47 (without_slash rest)) else Unknown
