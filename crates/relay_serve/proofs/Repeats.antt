-- What a worker gives to the memory, and answers from it.
use Rattle.std.proofs.Common.{◌≡◌, ◌≢◌, ℕ, Bool, true, false, List, [], ◌∷◌, ◌++◌, inl, subst, sym}
use Rattle.std.specs.Prelude.{◌⊎◌, if◌then◌else◌}
use Rattle.http.specs.declared.request.Request.{Request}
use Rattle.http_server.specs.declared.response.Response.{Response}
use Rattle.relay_results.specs.Words.{Mem}
use Rattle.relay_results.proofs.Lists.{Mem-push_cases}
use Rattle.relay_ndjson.specs.Metadata.{bytes_given}
use Rattle.relay_front.specs.declared.service.Front.{Front}
use Rattle.relay_front.specs.Service.{Answers}
use Rattle.relay_serve.specs.declared.entry.Entry.{Entry}
use Rattle.relay_serve.specs.declared.entry.Spoken.{Spoken}
use Rattle.relay_serve.specs.declared.producing.Producing.{Producing}
use Rattle.relay_serve.specs.Remembering.{AnswersItself, entry_of, settles_in}

-- after a push that may have failed
pub pushed_cases : {A : Type 0} (b : Bool) (x : A) (xs ys : List A) (y : A) → ys ≡ (if b then xs ++ y ∷ [] else xs) → Mem x ys → Mem x xs ⊎ (x ≡ y)
pushed_cases true x xs ys y is m = Mem-push_cases x xs y (subst (Mem x) is m)
pushed_cases false x xs ys y is m = inl (subst (Mem x) is m)

-- the front has answered, and then what was given was noted
pub itself : {R I : Type 0} (old mid new : Front (Producing R) I) (said says : Spoken) (request : Request (List ℕ)) (response : Response)
    → (mid.index ≡ old.index) × (mid.face ≡ old.face) × Answers settles_in old.face (bytes_given old.index) old.relay request response mid.relay → new ≡ mid → says.repeated.items ≡ said.repeated.items
    → ((e : Entry) → Mem e says.given.items → Mem e said.given.items ⊎ ((e ≡ entry_of request response) × (mid.relay.marks.number ≢ old.relay.marks.number))) → AnswersItself old said request response new says
itself old mid new said says request response h same repeated given =
    subst (λ f. AnswersItself old said request response f says) (sym same) (record { kept = (h.0, h.1); answers = h.2; repeated = repeated; given = given })
