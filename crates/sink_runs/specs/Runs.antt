-- A run of the sink.
use Rattle.std.specs.Prelude.{◌≡◌, ℕ, ◌-◌, ◌^◌, List, length, min, IfOk, Result, Ok, Err}
use Rattle.dialers.specs.Dials.{Dials}
use Rattle.names_realms.specs.declared.states.Case.{Case}
use Rattle.outside.specs.Ends.{Ends, Incoming}
use Rattle.program_words.specs.declared.sink_words.SinkWords.{SinkWords}
use Rattle.sink_plans.specs.Plans.{plan_for}
use Rattle.sink_plans.specs.declared.plans.Destination.{Destination}
use Rattle.sink_plans.specs.declared.plans.SinkPlan.{SinkPlan}
use Rattle.sink_settings.specs.declared.settings.SinkSettings.{SinkSettings}
use Rattle.sink_uploads.specs.Dialled.{Dial}
use Rattle.sink_uploads.specs.Requests.{cases_in, requests_of}
use Rattle.sink_uploads.specs.Runs.{Runs, begun}
use Rattle.sink_uploads.specs.declared.course.Sent.{Sent}
use Rattle.sink_uploads.specs.declared.course.SinkFault.{SinkFault}
use Rattle.sink_runs.specs.Configs.{HasSettings, IsNoSettings, most_of_config}
use Rattle.sink_runs.specs.Reports.{GivesCases, IsNoReport, most_of_report}
use Rattle.sink_runs.specs.Texts.{IsReadWhole, IsLeft}
use Rattle.sink_runs.specs.declared.ending.SinkEnd.{SinkEnd}
use Rattle.sink_runs.specs.declared.ending.SinkEnd.TheVariants.{ConfigFault, ConfigRefused, InputFault, ReportRefused, Memory, Unsent}

-- What it goes over at one moment, as far as it tells: the configuration, the report and the
-- dialer.
pub record Sending (L : Type 0) : Type 0 where
  pub config : Incoming
  pub input : Incoming
  pub dials : Dials L

abbrev pub sending_at : {L : Type 0} → Incoming → Incoming → Dials L → Sending L
sending_at config input dials = record { config = config; input = input; dials = dials }

-- the invocation of the words, and the two tokens of the configuration
abbrev pub destination : SinkWords → SinkSettings → Destination
destination words settings = record {
  invocation = words.invocation;
  bearer = settings.token;
  update_token = settings.update_token;
}

-- the plan that is uploaded: that of the report and its cases, under the prefix of the words
abbrev pub sink_plan : SinkWords → SinkSettings → List ℕ → List Case → SinkPlan
sink_plan words settings report cases =
    plan_for report cases words.prefix (destination words settings)

-- The numbers are how many batches the plan has, and how many cases they have together, up to the
-- greatest u64.
abbrev pub CountsPlan : SinkPlan → Sent → Type 0
CountsPlan plan sent =
    (sent.batches ≡ length plan.batches) × (sent.cases ≡ min (cases_in plan.batches) (2 ^ 64 - 1))

-- Configuration and report were read to their ends, and give two tokens and cases, of which this
-- plan was made; the upload of it ran so.
pub record Uploads {L : Type 0} (ends : L → Ends) (words : SinkWords) (before : Sending L)
    (result : Result Sent SinkFault) (after : Sending L) : Type 0 where
  pub settings : SinkSettings
  pub config : HasSettings before.config settings after.config
  pub report : List ℕ
  pub input : IsReadWhole before.input report after.input
  pub cases : List Case
  pub gives : GivesCases words.format report cases
  pub dials : List (Dial L)
  pub runs : Runs ends (requests_of (sink_plan words settings report cases)) begun before.dials
      dials result after.dials
  pub counts : IfOk result (CountsPlan (sink_plan words settings report cases))

-- The run ended by its configuration: nothing was read of the report, and nothing was dialled.
pub record StopsAtConfig {L : Type 0} (before : Sending L) (end : SinkEnd) (after : Sending L)
    : Type 0 where
  pub config : IsNoSettings before.config end after.config
  pub input : after.input ≡ before.input
  pub dials : after.dials ≡ before.dials

-- The run ended by its report, behind a configuration that was accepted: nothing was dialled.
pub record StopsAtReport {L : Type 0} (words : SinkWords) (before : Sending L) (end : SinkEnd)
    (after : Sending L) : Type 0 where
  pub settings : SinkSettings
  pub config : HasSettings before.config settings after.config
  pub input : IsNoReport words.format before.input end after.input
  pub dials : after.dials ≡ before.dials

-- Memory was wanting before anything was dialled.
pub record LeavesEarly {L : Type 0} (before after : Sending L) : Type 0 where
  pub config : IsLeft most_of_config before.config after.config
  pub input : IsLeft most_of_report before.input after.input
  pub dials : after.dials ≡ before.dials

-- What a run did, by what it came to.
abbrev pub IsSending : {L : Type 0} → (L → Ends) → SinkWords → Sending L → Result Sent SinkEnd
    → Sending L → Type 0
IsSending ends words before (Ok sent) after = Uploads ends words before (Ok sent) after
IsSending ends words before (Err (Unsent fault)) after =
    Uploads ends words before (Err fault) after
IsSending ends words before (Err ConfigFault) after = StopsAtConfig before ConfigFault after
IsSending ends words before (Err (ConfigRefused fault)) after =
    StopsAtConfig before (ConfigRefused fault) after
IsSending ends words before (Err InputFault) after = StopsAtReport words before InputFault after
IsSending ends words before (Err (ReportRefused fault)) after =
    StopsAtReport words before (ReportRefused fault) after
IsSending ends words before (Err Memory) after = LeavesEarly before after
