-- What replies show of an invocation.
use Rattle.std.specs.Prelude.{ℕ, ℤ, List, ◌++◌, codes}
use Rattle.serde_json.specs.Data.{Data, string, object, Members, no_members}
use Rattle.moments_spans.specs.Moments.{moment_text}
use Rattle.names_realms.specs.Names.{invocation_name}
use Rattle.names_realms.specs.declared.states.State.{State}
use Rattle.names_realms.specs.declared.states.State.TheVariants.{Active, Finalizing, Finalized}
use Rattle.json_fields.specs.Writing.{put_required, put_optional, put_list}
use Rattle.invocation_forms.specs.Names as name
use Rattle.invocation_forms.specs.Named.{name_data}
use Rattle.invocation_forms.specs.Shown.{InvocationShown, as_text, pair_data}

abbrev pub state_text : State → List ℕ
state_text Active = codes "ACTIVE"
state_text Finalizing = codes "FINALIZING"
state_text Finalized = codes "FINALIZED"

abbrev pub text_data : List ℕ → Data
text_data text = string text

abbrev pub moment_data : ℤ → Data
moment_data moment = string (moment_text moment)

-- a user, as who made an invocation
abbrev pub user_text : List ℕ → List ℕ
user_text name = codes "user:" ++ as_text name

-- what an invocation is
abbrev pub what_members : InvocationShown → Members
what_members s =
    put_list name.included_invocations name_data s.included
    (put_required name.name text_data (invocation_name s.id)
    (put_required name.realm text_data s.realm
    (put_required name.state text_data (state_text s.state)
    (put_list name.tags pair_data s.tags no_members))))

-- and when it ends
abbrev pub ends_members : InvocationShown → Members
ends_members s =
    put_required name.deadline moment_data s.deadline
    (put_optional name.finalize_start_time moment_data s.started
    (put_optional name.finalize_time moment_data s.finished
    (what_members s)))

-- All that is shown of an invocation. Moments that are unset and lists that are empty are left out.
abbrev pub invocation_members : InvocationShown → Members
invocation_members s =
    put_required name.create_time moment_data s.created
    (put_required name.created_by text_data (user_text s.creator)
    (ends_members s))

abbrev pub invocation_data : InvocationShown → Data
invocation_data s = object (invocation_members s)
