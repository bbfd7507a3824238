-- Answering a request settles at most once, and the answer is the one for just that.
use Rattle.std.proofs.Common.{◌≡◌, ◌⊎◌, ℕ, Bool, true, false, List, [], ◌∷◌, Option, None, Some, refl, inl, inr}
use Rattle.http.specs.declared.request.Request.{Request}
use Rattle.http.specs.Request.{head_of, body_of}
use Rattle.http_uri.specs.Uri.{uri_query}
use Rattle.http_server.specs.declared.response.Response.{Response}
use Rattle.relay_ndjson.specs.Metadata.{bytes_given}
use Rattle.relay_action.specs.declared.action.Action.{Action}
use Rattle.relay_action.specs.declared.action.Action.TheVariants as action
use Rattle.relay_action.specs.declared.key.DocKey.{DocKey}
use Rattle.relay_front.specs.declared.ending.End.{End}
use Rattle.relay_front.specs.declared.face.Face.{Face}
use Rattle.relay_front.specs.declared.operation.AskedKind.{AskedKind}
use Rattle.relay_front.specs.declared.operation.AskedKind.TheVariants as kind
use Rattle.relay_front.specs.declared.service.Front.{Front}
use Rattle.relay_front.specs.Faces.{is_coded}
use Rattle.relay_front.specs.Operations.{Write}
use Rattle.relay_front.specs.Routes.{Target, Bulk, Put, Add, Delete}
use Rattle.relay_front.specs.Service.{Settles, Reply, Answers, RepliesToRequest, just, nothing, RepliesBy, RepliesByCoding, RepliesTo, RepliesToAdd, RepliesToBulk, RepliesToBulkAt, RepliesToDelete, RepliesToDocument, RepliesToPut, RepliesToWrite, RepliesToWriter, does_write, target_asked}

-- What was settled where this holds of what settles: nothing, and it holds where nothing is; or just these writes, and it holds
-- where just these are. States are looked at by `f`.
abbrev pub Apart : {S T : Type 0} → (S → T) → Settles S → (Settles T → T → T → Type 0) → S → S → Type 0
Apart f settles P old new =
    ((new ≡ old) × P nothing (f old) (f old))
    ⊎ ((ws : List Write) × (ends : List End) × settles old ws ends new × P (just (f old) ws ends (f new)) (f old) (f new))

apart_as : {S T : Type 0} (f : S → T) (settles : Settles S) (P Q : Settles T → T → T → Type 0) (old new : S) → ((s : Settles T) (a b : T) → P s a b → Q s a b) → Apart f settles P old new → Apart f settles Q old new
apart_as f settles P Q old new to (inl h) = inl (h.0, to nothing (f old) (f old) h.1)
apart_as f settles P Q old new to (inr h) = inr (h.0, h.1, h.2, to (just (f old) h.0 h.1 (f new)) (f old) (f new) h.3)

-- ---- by the target

apart_by_bulk : {S T : Type 0} (f : S → T) (settles : Settles S) (default : Option (List ℕ)) (content : List ℕ) (old : S) (reply : Reply) (new : S) → RepliesToBulk settles default content old reply new → Apart f settles (λ s a b. RepliesToBulk s default content a reply b) old new
apart_by_bulk f settles default content old reply new (inl s) =
    inr (s.writes, s.ends, s.settled, inl (record { items = s.items; writes = s.writes; asked = s.asked; some = s.some; ends = s.ends; took = s.took; settled = (refl, refl, refl, refl); each = s.each; said = s.said }))
apart_by_bulk f settles default content old reply new (inr (inl r)) = inl (r.0, inr (inl (refl, r.1, r.2, r.3)))
apart_by_bulk f settles default content old reply new (inr (inr r)) = inl (r.0, inr (inr (refl, r.1)))

apart_by_bulk_at : {S T : Type 0} (f : S → T) (settles : Settles S) (part content : List ℕ) (old : S) (reply : Reply) (new : S) → RepliesToBulkAt settles part content old reply new → Apart f settles (λ s a b. RepliesToBulkAt s part content a reply b) old new
apart_by_bulk_at f settles part content old reply new (inl r) =
    apart_as f settles (λ s a b. RepliesToBulk s (Some r.0) content a reply b) (λ s a b. RepliesToBulkAt s part content a reply b) old new (λ s a b h. inl (r.0, r.1, h))
    (apart_by_bulk f settles (Some r.0) content old reply new r.2)
apart_by_bulk_at f settles part content old reply new (inr (inl r)) = inl (r.1.0, inr (inl (r.0, (refl, r.1.1))))
apart_by_bulk_at f settles part content old reply new (inr (inr r)) = inl (r.0, inr (inr (refl, r.1)))

apart_by_write : {S T : Type 0} (f : S → T) (settles : Settles S) (k : AskedKind) (made : Bool) (key : DocKey) (stored : Action) (old : S) (reply : Reply) (new : S) → RepliesToWrite settles k made key stored old reply new → Apart f settles (λ s a b. RepliesToWrite s k made key stored a reply b) old new
apart_by_write f settles k made key stored old reply new (inl r) = inr ((key, stored) ∷ [], r.0, r.1, inl (r.0, (refl, refl, refl, refl), r.2, r.3))
apart_by_write f settles k made key stored old reply new (inr r) = inl (r.0, inr (refl, r.1))

apart_by_put : {S T : Type 0} (f : S → T) (settles : Settles S) (made : Bool) (index id content : List ℕ) (old : S) (reply : Reply) (new : S) → RepliesToPut settles made index id content old reply new → Apart f settles (λ s a b. RepliesToPut s made index id content a reply b) old new
apart_by_put f settles made index id content old reply new (inl r) = inl (r.0, inl (refl, r.1, r.2, r.3))
apart_by_put f settles made index id content old reply new (inr (inl r)) = inl (r.0, inr (inl (refl, r.1, r.2, r.3)))
apart_by_put f settles made index id content old reply new (inr (inr (inl r))) =
    apart_as f settles (λ s a b. RepliesToWrite s kind.Index made r.0 r.1 a reply b) (λ s a b. RepliesToPut s made index id content a reply b) old new (λ s a b h. inr (inr (inl (r.0, r.1, r.2, r.3, r.4, h))))
    (apart_by_write f settles kind.Index made r.0 r.1 old reply new r.5)
apart_by_put f settles made index id content old reply new (inr (inr (inr r))) = inl (r.0, inr (inr (inr (refl, r.1))))

apart_by_delete : {S T : Type 0} (f : S → T) (settles : Settles S) (index id : List ℕ) (old : S) (reply : Reply) (new : S) → RepliesToDelete settles index id old reply new → Apart f settles (λ s a b. RepliesToDelete s index id a reply b) old new
apart_by_delete f settles index id old reply new (inl r) = inl (r.0, inl (refl, r.1, r.2, r.3))
apart_by_delete f settles index id old reply new (inr (inl r)) =
    apart_as f settles (λ s a b. RepliesToWrite s kind.Delete false r.0 action.Delete a reply b) (λ s a b. RepliesToDelete s index id a reply b) old new (λ s a b h. inr (inl (r.0, r.1, h)))
    (apart_by_write f settles kind.Delete false r.0 action.Delete old reply new r.2)
apart_by_delete f settles index id old reply new (inr (inr r)) = inl (r.0, inr (inr (refl, r.1)))

apart_by_add : {S T : Type 0} (f : S → T) (settles : Settles S) (first content : List ℕ) (old : S) (reply : Reply) (new : S) → RepliesToAdd settles first content old reply new → Apart f settles (λ s a b. RepliesToAdd s first content a reply b) old new
apart_by_add f settles first content old reply new (inl r) =
    apart_as f settles (λ s a b. RepliesToPut s true r.0 r.1 content a reply b) (λ s a b. RepliesToAdd s first content a reply b) old new (λ s a b h. inl (r.0, r.1, r.2, h))
    (apart_by_put f settles true r.0 r.1 content old reply new r.3)
apart_by_add f settles first content old reply new (inr (inl r)) = inl (r.1.0, inr (inl (r.0, (refl, r.1.1))))
apart_by_add f settles first content old reply new (inr (inr r)) = inl (r.0, inr (inr (refl, r.1)))

-- what is replied to a request for a document, over any states
abbrev ToDocument : Type 1
ToDocument = (S : Type 0) → Settles S → List ℕ → List ℕ → S → Reply → S → Type 0

apart_by_document : {S T : Type 0} (f : S → T) (settles : Settles S) (replies : ToDocument) → ((index id : List ℕ) (old : S) (reply : Reply) (new : S) → replies S settles index id old reply new → Apart f settles (λ s a b. replies T s index id a reply b) old new)
    → (first second : List ℕ) (old : S) (reply : Reply) (new : S) → RepliesToDocument (replies S settles) first second old reply new → Apart f settles (λ s a b. RepliesToDocument (replies T s) first second a reply b) old new
apart_by_document {S} {T} f settles replies each first second old reply new (inl r) =
    apart_as f settles (λ s a b. replies T s r.0 r.1 a reply b) (λ s a b. RepliesToDocument (replies T s) first second a reply b) old new (λ s a b h. inl (r.0, r.1, r.2, r.3, h))
    (each r.0 r.1 old reply new r.4)
apart_by_document f settles replies each first second old reply new (inr (inl r)) = inl (r.1.0, inr (inl (r.0, (refl, r.1.1))))
apart_by_document f settles replies each first second old reply new (inr (inr r)) = inl (r.0, inr (inr (refl, r.1)))

apart_by_target : {S T : Type 0} (f : S → T) (settles : Settles S) (default : Option (List ℕ)) (target : Target) (content : List ℕ) (old : S) (reply : Reply) (new : S) → RepliesTo settles default target content old reply new → Apart f settles (λ s a b. RepliesTo s default target content a reply b) old new
apart_by_target f settles default (Bulk None) content old reply new r = apart_by_bulk f settles default content old reply new r
apart_by_target f settles default (Bulk (Some part)) content old reply new r = apart_by_bulk_at f settles part content old reply new r
apart_by_target f settles default (Put index id) content old reply new r =
    apart_by_document f settles (λ (S : Type 0) s i n. RepliesToPut s false i n content) (λ i n. apart_by_put f settles false i n content) index id old reply new r
apart_by_target f settles default (Add index) content old reply new r = apart_by_add f settles index content old reply new r
apart_by_target f settles default (Delete index id) content old reply new r =
    apart_by_document f settles (λ (S : Type 0) s. RepliesToDelete s) (apart_by_delete f settles) index id old reply new r
apart_by_target f settles default other content old reply new r = inl (r, refl)

-- ---- by the request

apart_by_coding : {S T : Type 0} (f : S → T) (coded : Bool) (settles : Settles S) (default : Option (List ℕ)) (target : Target) (content : List ℕ) (old : S) (reply : Reply) (new : S) → RepliesByCoding coded settles default target content old reply new → Apart f settles (λ s a b. RepliesByCoding coded s default target content a reply b) old new
apart_by_coding f true settles default target content old reply new r = inl (r.0, (refl, r.1))
apart_by_coding f false settles default target content old reply new r = apart_by_target f settles default target content old reply new r

apart_by_writer : {S T : Type 0} (f : S → T) (settles : Settles S) (default : Option (List ℕ)) (target : Target) (query : Option (List ℕ)) (coded : Bool) (content : List ℕ) (old : S) (reply : Reply) (new : S) → RepliesToWriter settles default target query coded content old reply new → Apart f settles (λ s a b. RepliesToWriter s default target query coded content a reply b) old new
apart_by_writer f settles default target query coded content old reply new (inl r) = inl (r.2, inl (r.0, r.1, refl, r.3))
apart_by_writer f settles default target query coded content old reply new (inr r) =
    apart_as f settles (λ s a b. RepliesByCoding coded s default target content a reply b) (λ s a b. RepliesToWriter s default target query coded content a reply b) old new (λ s a b h. inr (r.0, h))
    (apart_by_coding f coded settles default target content old reply new r.1)

apart_by : {S T : Type 0} (f : S → T) (writes : Bool) (settles : Settles S) (face : Face) (default : Option (List ℕ)) (target : Target) (request : Request (List ℕ)) (old : S) (reply : Reply) (new : S) → RepliesBy writes settles face default target request old reply new → Apart f settles (λ s a b. RepliesBy writes s face default target request a reply b) old new
apart_by f true settles face default target request old reply new r =
    apart_by_writer f settles default target (uri_query (head_of request).uri) (is_coded (head_of request).headers) (body_of request) old reply new r
apart_by f false settles face default target request old reply new r = inl (r.0, (refl, r.1))

-- for an answer nothing was settled, or just one list of writes
pub answers_apart : {S T : Type 0} (f : S → T) (settles : Settles S) (face : Face) (default : Option (List ℕ)) (old : S) (request : Request (List ℕ)) (response : Response) (new : S) → Answers settles face default old request response new
    → Apart f settles (λ s a b. Answers s face default a request response b) old new
answers_apart f settles face default old request response new a =
    apart_as f settles (λ s x y. RepliesToRequest s face default request x a.0 y) (λ s x y. Answers s face default x request response y) old new (λ s x y h. (a.0, h, a.2))
    (apart_by f (does_write (target_asked request)) settles face default (target_asked request) request old a.0 new a.1)

-- ---- by the call of a service

-- what a front's call does
abbrev pub FrontAnswers : {S I : Type 0} → Settles S → Front S I → Request (List ℕ) → Response → Front S I → Type 0
FrontAnswers settles old request response new =
    (new.index ≡ old.index) × (new.face ≡ old.face) × Answers settles old.face (bytes_given old.index) old.relay request response new.relay
