-- What a request says by itself, whatever the world and the moment.
use Rattle.std.specs.Prelude.{◌≡◌, ◌≢◌, ℕ, List, Option, Some, None}
use Rattle.update_tokens.specs.Hash.{token_text}
use Rattle.recorded_calls.specs.Commands.{record_length}
use Rattle.call_forms.specs.declared.asked.Asked.{Asked}
use Rattle.call_forms.specs.declared.forms.Refusal.{Refusal}
use Rattle.call_forms.specs.Rules.{refusal_answer}
use Rattle.request_demands.specs.declared.reading.Call.{Call}
use Rattle.request_demands.specs.declared.reading.TokenCheck.{TokenCheck}
use Rattle.request_demands.specs.declared.reading.TokenCheck.TheVariants.{Missing, Wrong, Right, Unasked}
use Rattle.request_demands.specs.declared.reading.Understood.{Understood}
use Rattle.request_demands.specs.declared.reading.Understood.TheVariants.{Refused, Wanted}
use Rattle.request_demands.specs.Settings.{Settings, caller_name, secret_of}
use Rattle.request_demands.specs.Demands.{Demand, demand_of}
use Rattle.request_demands.specs.Numbered.{digest_of}
use Rattle.request_demands.specs.Alone.{Wants, IsRefusedAlone}

-- The update token of the invocation with this id.
abbrev pub token_for : Settings → List ℕ → List ℕ
token_for s id = token_text (secret_of s) id

-- A request that changes an invocation shows no token, another one, or the right one. Of other
-- requests none is asked.
abbrev pub IsChecked : Settings → Asked → Demand → TokenCheck → Type 0
IsChecked s asked d Missing =
    (id : List ℕ) × (d.changed ≡ Some id) × (asked.update_token ≡ None)
IsChecked s asked d Wrong =
    (id : List ℕ) × (token : List ℕ) × (d.changed ≡ Some id)
    × (asked.update_token ≡ Some token) × (token ≢ token_for s id)
IsChecked s asked d Right =
    (id : List ℕ) × (d.changed ≡ Some id) × (asked.update_token ≡ Some (token_for s id))
IsChecked s asked d Unasked = d.changed ≡ None

-- The digest of a request that has a number.
abbrev pub IsDigested : Asked → Demand → Option (List ℕ) → Type 0
IsDigested asked d None = d.number ≡ None
IsDigested asked d (Some digest) = (digest ≡ digest_of asked) × (d.number ≢ None)

-- how many bytes the record takes of what a caller asked
abbrev pub length_for : Settings → Asked → ℕ → ℕ
length_for s asked caller = record_length (caller_name s caller) asked.body

-- A call is what a caller asks for, with what its update token comes to, with its digest where it
-- has a number, and with the length of its record.
pub record IsCallOf (s : Settings) (asked : Asked) (call : Call) : Type 0 where
  pub wants : Wants s asked call.caller call.request
  pub token_is : IsChecked s asked (demand_of call.request) call.token
  pub digest_is : IsDigested asked (demand_of call.request) call.digest
  pub length_is : call.length ≡ length_for s asked call.caller

-- The request breaks a rule by itself, and this answers the first one; or a caller wants this, and
-- so it breaks none.
abbrev pub IsUnderstood : Settings → Asked → Understood → Type 0
IsUnderstood s asked (Refused answer) =
    (r : Refusal) × IsRefusedAlone s asked r × (answer ≡ refusal_answer r)
IsUnderstood s asked (Wanted call) = IsCallOf s asked call
