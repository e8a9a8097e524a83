-- Which rules a request breaks by itself, whatever the world. Each rule is said by itself.
use Rattle.std.specs.Prelude.{◌≡◌, ℕ, ◌==◌, if◌then◌else◌, List, [], ◌∷◌, ◌++◌, length, codes, Some, None}
use Rattle.call_forms.specs.declared.asked.Asked.{Asked}
use Rattle.call_forms.specs.declared.forms.Refusal.{Refusal}
use Rattle.message_forms.specs.declared.requests.Method.{Method}
use Rattle.message_forms.specs.declared.requests.Request.{Request}
use Rattle.message_forms.specs.declared.reading.FormFault.{FormFault}
use Rattle.message_forms.specs.Methods.{method_of}
use Rattle.message_forms.specs.Reading.{Asks, HasFault}
use Rattle.message_forms.specs.Refusals.{refusal_of}
use Rattle.request_demands.specs.Settings.{Settings, caller_of}
use Rattle.request_demands.specs.Order.{Judges}

abbrev pub refusal : ℕ → List ℕ → Refusal
refusal number subject = record { rule = number; subject = subject }

-- What a request aims at: a request outside the route has no service, and its whole target as the
-- method.
abbrev pub target_of : Asked → List ℕ
target_of asked =
    if length asked.service == 0 then asked.method
    else codes "/prpc/" ++ (asked.service ++ (codes "/" ++ asked.method))

-- Rule 1: the method is one that is served.
abbrev pub HasNoMethod : Asked → Refusal → Type 0
HasNoMethod asked r =
    (method_of asked.service asked.method ≡ None) × (r ≡ refusal 1 (target_of asked))

-- Rule 2: the bearer token is a user's.
abbrev pub HasNoCaller : Settings → Asked → Refusal → Type 0
HasNoCaller s asked r = (caller_of s asked.bearer ≡ None) × (r ≡ refusal 2 [])

-- Rules 3 to 6: the body is JSON, and each of its fields is of its kind, set where it must be, and
-- in its form.
pub record HasBadBody (asked : Asked) (r : Refusal) : Type 0 where
  pub method : Method
  pub named : method_of asked.service asked.method ≡ Some method
  pub fault : FormFault
  pub has : HasFault asked.service asked.method asked.body fault
  pub refusal_is : refusal_of (target_of asked) fault ≡ Some r

-- The rules that are asked of a request by itself, whatever the world, and their order.
pub data Alone : Type 0 where
  method_known : Alone
  caller_known : Alone
  body_right : Alone

abbrev pub IsBrokenAlone : Settings → Asked → Alone → Refusal → Type 0
IsBrokenAlone s asked method_known r = HasNoMethod asked r
IsBrokenAlone s asked caller_known r = HasNoCaller s asked r
IsBrokenAlone s asked body_right r = HasBadBody asked r

abbrev pub order_alone : List Alone
order_alone = method_known ∷ caller_known ∷ body_right ∷ []

-- The request breaks one of them, and this is the first.
abbrev pub IsRefusedAlone : Settings → Asked → Refusal → Type 0
IsRefusedAlone s asked r = Judges (IsBrokenAlone s asked) order_alone (Some r)

-- A caller asks for this, and breaks none of these rules.
pub record Wants (s : Settings) (asked : Asked) (caller : ℕ) (request : Request) : Type 0 where
  pub caller_is : caller_of s asked.bearer ≡ Some caller
  pub asks : Asks asked.service asked.method asked.body request
