-- Laws of hashes and of the ids of requests: a text has no fault exactly where it is one.
use Rattle.std.specs.Prelude.{◌≡◌, ◌↔◌, ℕ, List, None}
use Rattle.text_kinds.specs.Hashes.{IsHash, hash_why}
use Rattle.text_kinds.specs.Texts.{IsRequestId, request_id_why}

abbrev pub OnlyHashesAreRead : Type 0
OnlyHashesAreRead = (text : List ℕ) → (hash_why text ≡ None) ↔ IsHash text

abbrev pub OnlyRequestIdsAreRead : Type 0
OnlyRequestIdsAreRead = (text : List ℕ) → (request_id_why text ≡ None) ↔ IsRequestId text
