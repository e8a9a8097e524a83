-- What an exit status says of a run of the sink.
use Rattle.std.specs.Prelude.{◌≡◌, ◌≢◌, ℕ, ◌⊎◌, List, Some, Result, Ok, Err}
use Rattle.fault_counts.specs.Causes.{Rose}
use Rattle.outside.specs.Bytes.{Took}
use Rattle.outside.specs.Ends.{Ends, Incoming, Outgoing}
use Rattle.program_words.specs.declared.sink_words.SinkWords.{SinkWords}
use Rattle.sink_settings.specs.Settings.{IsFirstFault}
use Rattle.sink_settings.specs.declared.fault.SettingsFault.{SettingsFault}
use Rattle.sink_uploads.specs.declared.course.Sent.{Sent}
use Rattle.sink_uploads.specs.declared.course.SinkFault.TheVariants as fault
use Rattle.sink_runs.specs.Endings.{Tells, sent_text, sink_status}
use Rattle.sink_runs.specs.Reports.{IsReportFault}
use Rattle.sink_runs.specs.Runs.{Sending, Uploads}
use Rattle.sink_runs.specs.declared.ending.SinkEnd.{SinkEnd}
use Rattle.sink_runs.specs.declared.ending.SinkEnding.{SinkEnding}
use Rattle.sink_runs.specs.declared.report.ReportFault.{ReportFault}

-- The whole text of a configuration, where it is told, has a fault.
abbrev pub IsFaultyConfig : Incoming → Type 0
IsFaultyConfig before =
    (text : List ℕ) → before.left ≡ Some text → (f : SettingsFault) × IsFirstFault text f

-- The whole report, where it is told, has a fault in the form that the words name.
abbrev pub IsFaultyReport : SinkWords → Incoming → Type 0
IsFaultyReport words before =
    (text : List ℕ) → before.left ≡ Some text
    → (f : ReportFault) × IsReportFault words.format text f

-- Five faults and ends befell one batch.
abbrev pub HasGivenUp : {L : Type 0} → (L → Ends) → SinkWords → Sending L → Sending L → Type 0
HasGivenUp ends words before after =
    (batch : ℕ) × (faults : ℕ) × (ended : ℕ)
    × Uploads ends words before (Err (fault.GaveUp batch faults ended)) after

-- A whole reply of another status than 200 came, or bytes that begin none.
abbrev pub WasRefused : {L : Type 0} → (L → Ends) → SinkWords → Sending L → Sending L → Type 0
WasRefused ends words before after =
    ((batch : ℕ) × (status : ℕ)
    × Uploads ends words before (Err (fault.Refused batch status)) after)
    ⊎ ((batch : ℕ) × (end : ℕ) × Uploads ends words before (Err (fault.BadReply batch end)) after)

-- A read of the configuration failed, and then nothing was read of the report, dialled or written.
pub record ConfigFailed {L : Type 0} (before after : Sending L) (out now : Outgoing)
    : Type 0 where
  pub rose : Rose before.config.faults after.config.faults
  pub input : after.input ≡ before.input
  pub dials : after.dials ≡ before.dials
  pub output : now ≡ out

-- A read of the report failed, and then nothing was dialled or written.
pub record ReportFailed {L : Type 0} (before after : Sending L) (out now : Outgoing)
    : Type 0 where
  pub rose : Rose before.input.faults after.input.faults
  pub dials : after.dials ≡ before.dials
  pub output : now ≡ out

-- A read of the configuration or the report failed, or a write to the output did.
abbrev pub HasFailed : {L : Type 0} → Sending L → Sending L → Outgoing → Outgoing → Type 0
HasFailed before after out now =
    ConfigFailed before after out now
    ⊎ (ReportFailed before after out now ⊎ Rose out.faults now.faults)

-- The report was uploaded, and the output got what was sent.
abbrev pub IsSent : {L : Type 0} → (L → Ends) → SinkWords → Sending L → Sending L → Outgoing
    → Outgoing → Type 0
IsSent ends words before after out now =
    (sent : Sent) × Uploads ends words before (Ok sent) after
    × Took out.written (sent_text sent) now.written

-- the statuses of such a run
abbrev pub IsSinkStatus : ℕ → Type 0
IsSinkStatus status =
    (status ≡ 0) ⊎ ((status ≡ 2) ⊎ ((status ≡ 4) ⊎ ((status ≡ 5) ⊎ ((status ≡ 6)
    ⊎ ((status ≡ 7) ⊎ (status ≡ 9))))))

-- What a status says.
pub record SinkSays {L : Type 0} (ends : L → Ends) (words : SinkWords) (status : ℕ)
    (before after : Sending L) (out now : Outgoing) : Type 0 where
  -- It is one of these.
  pub known : IsSinkStatus status
  -- 0: all was sent, and told. 4: a call failed, or the upload gave up. 6: a batch was refused. 9:
  -- the output took nothing.
  pub done : status ≡ 0 → IsSent ends words before after out now
  pub failed : status ≡ 4
      → HasFailed before after out now ⊎ HasGivenUp ends words before after
  pub refused : status ≡ 6 → WasRefused ends words before after
  pub stalled : status ≡ 9 → Rose out.stalls now.stalls
  -- 2: the configuration is refused. One with a fault is, or memory is wanting, or a read of it
  -- failed.
  pub config_refused : status ≡ 2 → IsFaultyConfig before.config
  pub config_faulty : (text : List ℕ) → before.config.left ≡ Some text → (f : SettingsFault)
      → IsFirstFault text f → ¬ Rose before.config.faults after.config.faults
      → (status ≡ 2) ⊎ (status ≡ 7)
  -- 5: the report is refused. One with a fault is, where the configuration wasn't refused and no
  -- read failed, or memory is wanting.
  pub report_refused : status ≡ 5 → IsFaultyReport words before.input
  pub report_faulty : (text : List ℕ) → before.input.left ≡ Some text → (f : ReportFault)
      → IsReportFault words.format text f → status ≢ 2
      → ¬ Rose before.config.faults after.config.faults
      → ¬ Rose before.input.faults after.input.faults → (status ≡ 5) ⊎ (status ≡ 7)
  -- Then nothing was dialled, and with a configuration that is refused nothing was read of the
  -- report.
  pub undialled : (status ≡ 2) ⊎ (status ≡ 5) → after.dials ≡ before.dials
  pub unread : status ≡ 2 → after.input ≡ before.input
  -- The output gets something only where the report was uploaded. 7: memory was wanting.
  pub untold : status ≢ 0 → status ≢ 4 → status ≢ 9 → now ≡ out
  -- A count rises at the statuses that it stands for.
  pub no_config_fault : status ≢ 4 → after.config.faults ≡ before.config.faults
  pub no_read_fault : status ≢ 4 → after.input.faults ≡ before.input.faults
  pub no_write_fault : status ≢ 4 → now.faults ≡ out.faults
  pub no_stall : status ≢ 9 → now.stalls ≡ out.stalls

-- However what a run came to is told, the exit status says it.
abbrev pub EachStatusSays : {L : Type 0} → (L → Ends) → SinkWords → Sending L
    → Result Sent SinkEnd → Sending L → Type 0
EachStatusSays ends words before sent after =
    (ending : SinkEnding) (out now : Outgoing) → Tells sent out ending now
    → SinkSays ends words (sink_status ending) before after out now
