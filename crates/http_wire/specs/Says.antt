-- What a message says: the call that its target names, two of its headers, its body, and whether it
-- closes.
use Rattle.std.specs.Prelude.{◌≡◌, ℕ, ◌⊎◌, Bool, true, false, List, [], ◌∷◌, ◌++◌, codes, IsTrue}
use Rattle.std.specs.Prelude.{Option, Some, None}
use Rattle.std.specs.Str.{str_eq_ignore_ascii_case}
use Rattle.httparse.specs.Grammar.{RequestHead}
use Rattle.http_routes.specs.Calls.{IsCall}
use Rattle.http_wire.specs.Form.{values_in, is_post, closes_after}
use Rattle.http_wire.specs.declared.message.Message.{Message}

-- the text of which this holds, or None where it holds of no text
abbrev pub IsTheText : (List ℕ → Type 0) → Option (List ℕ) → Type 0
IsTheText Holds (Some text) = Holds text
IsTheText Holds None = (text : List ℕ) → ¬ (Holds text)

-- the values are this one alone
abbrev pub IsAlone : List (List ℕ) → List ℕ → Type 0
IsAlone values value = values ≡ value ∷ []

-- The value is the scheme `Bearer`, in any case of its letters, one space, and the token (RFC 6750,
-- section 2.1).
pub record IsBearerValue (value token : List ℕ) : Type 0 where
  pub scheme : List ℕ
  pub parts : value ≡ scheme ++ 32 ∷ token
  pub is_bearer : IsTrue (str_eq_ignore_ascii_case scheme (codes "Bearer"))

-- the values are one alone, which has this token
pub record IsBearer (values : List (List ℕ)) (token : List ℕ) : Type 0 where
  pub value : List ℕ
  pub alone : IsAlone values value
  pub has_token : IsBearerValue value token

-- The service and the method of a target: those that it names. A target that names no call is
-- itself the method, of no service, and so is each target of a method that isn't POST.
abbrev pub IsNamed : Bool → List ℕ → List ℕ → List ℕ → Type 0
IsNamed true target service method =
    IsCall target service method
    ⊎ (((s m : List ℕ) → ¬ (IsCall target s m)) × (service ≡ []) × (method ≡ target))
IsNamed false target service method = (service ≡ []) × (method ≡ target)

-- what a message with this head and this body says
pub record IsMessageOf (h : RequestHead) (body : List ℕ) (m : Message) : Type 0 where
  pub bearer : IsTheText (IsBearer (values_in (codes "authorization") h)) m.asked.bearer
  pub update_token : IsTheText (IsAlone (values_in (codes "update-token") h)) m.asked.update_token
  pub named : IsNamed (is_post h) h.target m.asked.service m.asked.method
  pub body_is : m.asked.body ≡ body
  pub target_is : m.target ≡ h.target
  pub close_is : m.close ≡ closes_after h
