-- Numbered requests: what is kept for the number that a request shows.
use Rattle.std.specs.Prelude.{◌≡◌, ◌≢◌, ℕ, List, ◌∷◌, ◌++◌, Option, Some, None, slice_get}
use Rattle.sha2.specs.Sha256.{sha256}
use Rattle.kept_replies.specs.declared.reply.KeptReply.{KeptReply}
use Rattle.kept_replies.specs.Kept.{place_for}
use Rattle.call_forms.specs.declared.asked.Asked.{Asked}
use Rattle.message_forms.specs.declared.requests.Method.{Method}
use Rattle.message_forms.specs.Methods.{name_of, service_of}
use Rattle.request_demands.specs.declared.numbers.NumberCheck.{NumberCheck}
use Rattle.request_demands.specs.declared.numbers.NumberCheck.TheVariants.{New, Repeat, Reused}
use Rattle.request_demands.specs.Demands.{Demand}

-- The digest by which a repeat is known: of service, method and body, with a line feed between.
abbrev pub digest_of : Asked → List ℕ
digest_of asked = sha256 (asked.service ++ (10 ∷ (asked.method ++ (10 ∷ asked.body))))

-- the place of what is kept for a number of the caller of this name
abbrev pub place_kept : List KeptReply → List ℕ → Option (List ℕ) → Option ℕ
place_kept kept name None = None
place_kept kept name (Some number) = place_for name number kept

abbrev pub kept_at : List KeptReply → Option ℕ → Option KeptReply
kept_at kept None = None
kept_at kept (Some place) = slice_get kept place

-- what is kept for the number of a request, if it has one and anything is
abbrev pub kept_for : List KeptReply → List ℕ → Demand → Option KeptReply
kept_for kept name d = kept_at kept (place_kept kept name d.number)

-- A request was accepted before under its number, and this is kept of it.
pub record IsRepeatOf (kept : List KeptReply) (name : List ℕ) (asked : Asked) (d : Demand)
    (reply : KeptReply) : Type 0 where
  pub found : kept_for kept name d ≡ Some reply
  pub same : reply.digest ≡ digest_of asked

-- Another request was.
pub record IsReused (kept : List KeptReply) (name : List ℕ) (asked : Asked) (d : Demand)
    (reply : KeptReply) : Type 0 where
  pub found : kept_for kept name d ≡ Some reply
  pub other : reply.digest ≢ digest_of asked

-- Nothing is kept for the number of a request, or it has none; or it is a repeat of what is kept at
-- a place; or another request had its number.
abbrev pub IsNumbered : List KeptReply → List ℕ → Asked → Demand → NumberCheck → Type 0
IsNumbered kept name asked d New = kept_for kept name d ≡ None
IsNumbered kept name asked d (Repeat place) =
    (reply : KeptReply) × IsRepeatOf kept name asked d reply × (slice_get kept place ≡ Some reply)
IsNumbered kept name asked d Reused = (reply : KeptReply) × IsReused kept name asked d reply

-- what was asked of a request that was recorded, as far as it was: the method and the body
abbrev pub asked_again : Method → List ℕ → Asked
asked_again method body = record {
  bearer = None;
  update_token = None;
  service = service_of method;
  method = name_of method;
  body = body;
}
