-- The code's own words: a broken rule whose text isn't written yet.
use Rattle.std.specs.Prelude.{◌++◌, ℕ, List, Option, None, Some, codes, decimal}
use Rattle.names_realms.specs.Names.{invocation_name}
use Rattle.names_realms.specs.ResultNames.{result_name}
use Rattle.names_realms.specs.ArtifactNames.{artifact_name}
use Rattle.kept_replies.specs.declared.reply.KeptReply.{KeptReply}
use Rattle.call_forms.specs.declared.asked.Asked.{Asked}
use Rattle.call_forms.specs.declared.forms.Refusal.{Refusal}
use Rattle.request_demands.specs.InvocationForms.Replies.{state_text}
use Rattle.request_rules.specs.declared.breaches.Breach.{Breach}
use Rattle.request_rules.specs.declared.breaches.Breach.TheVariants.{RequestIdReused, NotFound, NoResult, NoArtifact, NoUpdateToken, BadUpdateToken, Denied, NotActive, DeadlineRange, Itself, TooMany, Taken}
use Rattle.request_rules.specs.declared.judging.Situation.{Situation}
use Rattle.request_demands.specs.Order.{IsUnbroken}
use Rattle.request_rules.specs.Held.{Held}
use Rattle.request_rules.specs.Broken.{Case, of_invocation, denied, out_of_reach}
use Rattle.request_demands.specs.Alone.{refusal}

abbrev pub refusal_of : Breach → Refusal
refusal_of (RequestIdReused number) = refusal 7 number.now
refusal_of (NotFound id) = of_invocation 8 id.now
refusal_of (NoResult name) = refusal 8 (result_name name.now)
refusal_of (NoArtifact name) = refusal 8 (artifact_name name.now)
refusal_of (NoUpdateToken id) = of_invocation 9 id.now
refusal_of (BadUpdateToken id) = of_invocation 10 id.now
refusal_of (Denied permission realm) = denied permission realm.now
refusal_of (NotActive id state) =
    refusal 12 (invocation_name id.now ++ (codes " " ++ state_text state))
refusal_of (DeadlineRange deadline moment) = out_of_reach deadline moment
refusal_of (Itself id) = of_invocation 14 id.now
refusal_of (TooMany count) = refusal 15 (decimal count)
refusal_of (Taken id) = of_invocation 19 id.now

-- The rule isn't broken, or it is by this.
abbrev pub Finds : (Refusal → Type 0) → Option Breach → Type 0
Finds Breaks None = IsUnbroken Breaks
Finds Breaks (Some breach) = Breaks (refusal_of breach)

-- what invocations hold there
abbrev pub held_by : Situation → Held
held_by x = record { results = x.results.now.rows; artifacts = x.artifacts.now.rows }

-- what a call is judged by, for what this caller asks, where this is kept
abbrev pub case_of : Situation → List KeptReply → Asked → ℕ → Case
case_of x kept asked caller = record {
  settings = record { policy = x.policy.now };
  rows = x.table.now.rows;
  held = held_by x;
  kept = kept;
  moment = x.moment;
  asked = asked;
  caller = caller;
}
