-- Which rules a request breaks by what it demands. Each rule is said by itself.
use Rattle.std.specs.Prelude.{◌≡◌, ◌≢◌, ℕ, ◌<◌, ℤ, pos, ◌+ℤ◌, ◌≤ℤ◌, List, [], ◌∷◌, ◌++◌, length, map, Contains, codes, decimal, Some, None}
use Rattle.std.specs.Option.{option_to_list}
use Rattle.moments_spans.specs.Moments.{moment_text}
use Rattle.names_realms.specs.Names.{invocation_name}
use Rattle.names_realms.specs.ResultNames.{result_name}
use Rattle.names_realms.specs.declared.result_names.ResultName.{ResultName}
use Rattle.names_realms.specs.ArtifactNames.{artifact_name}
use Rattle.names_realms.specs.declared.artifact_names.ArtifactName.{ArtifactName}
use Rattle.names_realms.specs.declared.states.State.TheVariants.{Active}
use Rattle.policy_tables.specs.declared.tables.PolicyTables.{PolicyTables}
use Rattle.policy_checks.specs.declared.permission.Permission.{Permission}
use Rattle.policy_checks.specs.Permissions.{permission_text}
use Rattle.update_tokens.specs.Hash.{token_text}
use Rattle.kept_replies.specs.declared.reply.KeptReply.{KeptReply}
use Rattle.invocations.specs.declared.invocation.Invocation.{Invocation}
use Rattle.call_forms.specs.declared.asked.Asked.{Asked}
use Rattle.call_forms.specs.declared.forms.Refusal.{Refusal}
use Rattle.request_demands.specs.InvocationForms.Replies.{state_text}
use Rattle.request_rules.specs.declared.rules.Rule.{Rule}
use Rattle.request_rules.specs.declared.rules.Rule.TheVariants as rule
use Rattle.request_demands.specs.Settings.{Settings, caller_name, secret_of}
use Rattle.request_demands.specs.Grants.{Has, named_by}
use Rattle.request_rules.specs.Held.{Held}
use Rattle.request_rules.specs.Named.{named, place_named, place_of_artifact, place_of_result}
use Rattle.request_demands.specs.Demands.{Demand}
use Rattle.request_rules.specs.Rights.{Right, rights_taken}
use Rattle.request_demands.specs.Numbered.{IsReused, IsRepeatOf}
use Rattle.request_demands.specs.Order.{FirstOf}
use Rattle.request_demands.specs.Alone.{refusal}

-- the refusal that names an invocation
abbrev pub of_invocation : ℕ → List ℕ → Refusal
of_invocation number id = refusal number (invocation_name id)

-- Rule 7: no other request of the caller was accepted under the number of the request.
pub record RequestIdReused (kept : List KeptReply) (name : List ℕ) (asked : Asked) (d : Demand)
    (r : Refusal) : Type 0 where
  pub number : List ℕ
  pub shows : d.number ≡ Some number
  pub reply : KeptReply
  pub reused : IsReused kept name asked d reply
  pub refusal_is : r ≡ refusal 7 number

-- No invocation has this id.
abbrev pub IsMissing : List Invocation → List ℕ → Type 0
IsMissing rows id = place_named rows id ≡ None

-- What is looked for: the invocation with an id, or the result or the artifact of a name.
pub data Sought : Type 0 where
  invocation_with : List ℕ → Sought
  result_named : ResultName → Sought
  artifact_named : ArtifactName → Sought

abbrev pub name_of : Sought → List ℕ
name_of (invocation_with id) = invocation_name id
name_of (result_named name) = result_name name
name_of (artifact_named name) = artifact_name name

abbrev pub IsAbsent : List Invocation → Held → Sought → Type 0
IsAbsent rows held (invocation_with id) = IsMissing rows id
IsAbsent rows held (result_named name) = place_of_result rows held.results name ≡ None
IsAbsent rows held (artifact_named name) = place_of_artifact rows held.artifacts name ≡ None

-- what has to be there, in the order in which it is looked for
abbrev pub sought : Demand → List Sought
sought d =
    map invocation_with (d.named ++ d.included)
    ++ (map result_named (option_to_list d.row) ++ map artifact_named (option_to_list d.artifact))

-- Rule 8: each invocation that is named is there, and then the result, and the artifact. The first
-- that isn't is named.
pub record NotFound (rows : List Invocation) (held : Held) (d : Demand) (r : Refusal)
    : Type 0 where
  pub what : Sought
  pub first : FirstOf (IsAbsent rows held) (sought d) (Some what)
  pub refusal_is : r ≡ refusal 8 (name_of what)

-- Rule 9: a request that changes an invocation shows an update token.
pub record NoUpdateToken (asked : Asked) (d : Demand) (r : Refusal) : Type 0 where
  pub id : List ℕ
  pub changes : d.changed ≡ Some id
  pub none : asked.update_token ≡ None
  pub refusal_is : r ≡ of_invocation 9 id

-- Rule 10: the token that it shows is the one of this invocation.
pub record BadUpdateToken (s : Settings) (asked : Asked) (d : Demand) (r : Refusal)
    : Type 0 where
  pub id : List ℕ
  pub changes : d.changed ≡ Some id
  pub token : List ℕ
  pub shown : asked.update_token ≡ Some token
  pub other : token ≢ token_text (secret_of s) id
  pub refusal_is : r ≡ of_invocation 10 id

-- The caller lacks the right by the policy.
abbrev pub Lacks : PolicyTables → ℕ → Right → Type 0
Lacks policy caller x = ¬ Has policy caller x.grant x.realm

abbrev pub denied : Permission → List ℕ → Refusal
denied permission realm = refusal 11 (permission_text permission ++ (codes " " ++ realm))

-- Rule 11: the caller has each right that the request takes. The first that is lacking is named.
abbrev pub Denied : PolicyTables → List Invocation → ℕ → Demand → Refusal → Type 0
Denied policy rows caller d r =
    (lacking : Right) × FirstOf (Lacks policy caller) (rights_taken rows d) (Some lacking)
    × (r ≡ denied (named_by lacking.grant) lacking.realm)

-- Rule 12: the invocation that the request changes is active.
pub record NotActive (rows : List Invocation) (d : Demand) (r : Refusal) : Type 0 where
  pub id : List ℕ
  pub changes : d.active ≡ Some id
  pub row : Invocation
  pub stands : named rows id ≡ Some row
  pub inactive : row.state ≢ Active
  pub refusal_is : r ≡ refusal 12 (invocation_name id ++ (codes " " ++ state_text row.state))

-- ten seconds and 120 hours, in microseconds
abbrev pub least_lifetime : ℤ
least_lifetime = pos 10_000_000

abbrev pub greatest_lifetime : ℤ
greatest_lifetime = pos 432_000_000_000

-- The deadline is neither too near nor too far. Both ends are in reach.
abbrev pub IsInReach : ℤ → ℤ → Type 0
IsInReach moment deadline =
    ((moment +ℤ least_lifetime) ≤ℤ deadline) × (deadline ≤ℤ (moment +ℤ greatest_lifetime))

abbrev pub out_of_reach : ℤ → ℤ → Refusal
out_of_reach deadline moment =
    refusal 13 (moment_text deadline ++ (codes " " ++ moment_text moment))

-- Rule 13: a deadline that is given is in reach of the moment of the call.
pub record DeadlineRange (moment : ℤ) (d : Demand) (r : Refusal) : Type 0 where
  pub deadline : ℤ
  pub given : d.deadline ≡ Some deadline
  pub far : ¬ IsInReach moment deadline
  pub refusal_is : r ≡ out_of_reach deadline moment

-- Rule 14: no invocation includes itself.
pub record Itself (d : Demand) (r : Refusal) : Type 0 where
  pub id : List ℕ
  pub changes : d.changed ≡ Some id
  pub itself : Contains d.included id
  pub refusal_is : r ≡ of_invocation 14 id

-- Rule 15: a request names at most 500 invocations to include.
pub record TooMany (d : Demand) (r : Refusal) : Type 0 where
  pub many : 500 < length d.included
  pub refusal_is : r ≡ refusal 15 (decimal (length d.included))

-- Rule 19: no invocation has the id of the new one.
pub record Taken (rows : List Invocation) (d : Demand) (r : Refusal) : Type 0 where
  pub id : List ℕ
  pub makes : d.makes ≡ Some id
  pub taken : place_named rows id ≢ None
  pub refusal_is : r ≡ of_invocation 19 id

-- What rules look at: what the service is set up with, the invocations that are there, what they
-- hold, and what is kept of numbered requests, the moment of the call, and what was asked and by
-- whom.
pub record Case : Type 0 where
  pub settings : Settings
  pub rows : List Invocation
  pub held : Held
  pub kept : List KeptReply
  pub moment : ℤ
  pub asked : Asked
  pub caller : ℕ

-- The request was accepted before under its number, and this is kept of it.
abbrev pub IsRepeat : Case → Demand → KeptReply → Type 0
IsRepeat x d reply =
    IsRepeatOf x.kept (caller_name x.settings x.caller) x.asked d reply

-- The rule is broken, and this is its refusal.
abbrev pub IsBroken : Case → Demand → Rule → Refusal → Type 0
IsBroken x d rule.RequestIdReused r =
    RequestIdReused x.kept (caller_name x.settings x.caller) x.asked d r
IsBroken x d rule.NotFound r = NotFound x.rows x.held d r
IsBroken x d rule.NoUpdateToken r = NoUpdateToken x.asked d r
IsBroken x d rule.BadUpdateToken r = BadUpdateToken x.settings x.asked d r
IsBroken x d rule.Denied r = Denied x.settings.policy x.rows x.caller d r
IsBroken x d rule.NotActive r = NotActive x.rows d r
IsBroken x d rule.DeadlineRange r = DeadlineRange x.moment d r
IsBroken x d rule.Itself r = Itself d r
IsBroken x d rule.TooMany r = TooMany d r
IsBroken x d rule.Taken r = Taken x.rows d r

-- The order in which rules are asked of what a caller demands.
abbrev pub order : List Rule
order =
    rule.RequestIdReused
    ∷ rule.NotFound
    ∷ rule.NoUpdateToken
    ∷ rule.BadUpdateToken
    ∷ rule.Denied
    ∷ rule.NotActive
    ∷ rule.DeadlineRange
    ∷ rule.Itself
    ∷ rule.TooMany
    ∷ rule.Taken
    ∷ []

-- the number by which a refusal names a rule
abbrev pub number_of : Rule → ℕ
number_of rule.RequestIdReused = 7
number_of rule.NotFound = 8
number_of rule.NoUpdateToken = 9
number_of rule.BadUpdateToken = 10
number_of rule.Denied = 11
number_of rule.NotActive = 12
number_of rule.DeadlineRange = 13
number_of rule.Itself = 14
number_of rule.TooMany = 15
number_of rule.Taken = 19
