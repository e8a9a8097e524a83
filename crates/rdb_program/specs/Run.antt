-- A run of the program.
use Rattle.std.specs.Prelude.{◌≡◌, ℕ, ℤ, ◌⊎◌, List, [], ◌++◌, length, Option, Result, Ok, Err, codes, decimal}
use Rattle.std.specs.Borrow.{GName}
use Rattle.dialers.specs.Dials.{Dials}
use Rattle.disks.specs.Moments.{AtEachMoment, Told}
use Rattle.outside.specs.Ends.{Incoming, Outgoing, Ends}
use Rattle.outside.specs.Whole.{WritesWhole}
use Rattle.outside.specs.declared.whole.WriteEnd.{WriteEnd}
use Rattle.policy_tables.specs.declared.tables.PolicyTables.{PolicyTables}
use Rattle.permissions.specs.Faults.{fault_number, fault_name}
use Rattle.permissions.specs.declared.faults.PolicyFault.{PolicyFault}
use Rattle.result_journal.specs.Grammar.{records}
use Rattle.result_journal.specs.Journals.{Leaves, ReadsAs}
use Rattle.result_journal.specs.Openings.{AlikeOnceSynced, FaultCause, LeftBeforeOrAlike, LongPartStays, OpensAs}
use Rattle.result_journal.specs.Steps.{OtherStays}
use Rattle.result_journal.specs.declared.opening.OpenFault.{OpenFault}
use Rattle.journal_book.specs.Books.{HasWorldOf, IsOpenFault}
use Rattle.serve_runs.specs.ServiceMachine.ServiceEffects.Service.{ServiceWorld, empty_service}
use Rattle.serve_runs.specs.ServiceMachine.Machines.{Plays}
use Rattle.serve_runs.specs.ServiceCore.Service.{Service, service_of}
use Rattle.tellers.specs.Exchange.{Exchange}
use Rattle.serve_runs.specs.RecordDesk.Clocked.{IsClocked}
use Rattle.serve_runs.specs.RecordDesk.Standing.{AtEachCall, HasLast, Moves, point_at}
use Rattle.rdb_program.specs.Words.{SayNothing, IsAnswerWords, IsCheckWords, IsServeWords, IsWorkloadWords, AskForText}
use Rattle.program_words.specs.Grammar.{Says}
use Rattle.program_words.specs.declared.command.Command.TheVariants.{Sink, Workload}
use Rattle.program_words.specs.declared.sink_words.SinkWords.{SinkWords}
use Rattle.program_words.specs.declared.workload_words.WorkloadWords.{WorkloadWords}
use Rattle.outside.specs.Moments.{AreSteps, Steps}
use Rattle.workload_runs.specs.Endings.{load_fault, load_status}
use Rattle.workload_runs.specs.Lines.{load_text}
use Rattle.workload_runs.specs.WorkloadTurns.Runs.{LoadRun}
use Rattle.workload_runs.specs.WorkloadTurns.declared.stops.Stop.{Stop}
use Rattle.workload_runs.specs.WorkloadTurns.declared.tally.Tally.{Tally}
use Rattle.workload_runs.specs.declared.ending.LoadEnding.{LoadEnding}
use Rattle.workload_runs.specs.declared.ending.LoadEnding.TheVariants as loads
use Rattle.workload_runs.specs.declared.line.Load.{Load}
use Rattle.rdb_program.specs.Loads.{ComesBy, IsLoadPolicy, first_step}
use Rattle.serve_runs.specs.Endings.{serve_line, serve_status}
use Rattle.serve_runs.specs.Runs.{IsServing, Premises}
use Rattle.serve_runs.specs.declared.ending.ServeEnding.{ServeEnding}
use Rattle.sink_runs.specs.Endings.{Tells, sink_line, sink_status}
use Rattle.sink_runs.specs.Runs.{IsSending, Sending}
use Rattle.sink_runs.specs.declared.ending.SinkEnd.{SinkEnd}
use Rattle.sink_runs.specs.declared.ending.SinkEnding.{SinkEnding}
use Rattle.sink_runs.specs.SinkUploads.declared.course.Sent.{Sent}
use Rattle.http_workers.specs.Causes.{cause_of}
use Rattle.http_workers.specs.Ended.{ServesLink}
use Rattle.http_workers.specs.declared.ended.Ended.{Ended}
use Rattle.error_lines.specs.Lines.{error_line}
use Rattle.rdb_program.specs.Causes.{opening_row, row_of}
use Rattle.rdb_program.specs.Configured.{Accepts, IsUnserved}
use Rattle.rdb_program.specs.Counted.{world_text}
use Rattle.rdb_program.specs.declared.ending.Ending.{Ending}
use Rattle.rdb_program.specs.declared.ending.Ending.TheVariants.{WordsRefused, Shown, ConfigFault}
use Rattle.rdb_program.specs.declared.ending.Ending.TheVariants.{ConfigRefused, Unstarted, Unopened}
use Rattle.rdb_program.specs.declared.ending.Ending.TheVariants.{Counted, Served, DoorsServed, Loaded, Uploaded}

-- The disk at one moment, as far as it tells, with its count of faults.
pub record DiskEnd : Type 0 where
  pub told : Option Told
  pub faults : ℕ

abbrev pub disk_end : {D : Type 0} → (D → Option Told) → (D → ℕ) → D → DiskEnd
disk_end told faults disk = record { told = told disk; faults = faults disk }

-- What the work of a run goes over at one moment, as far as it tells: the configuration, the
-- connection, and the disk.
pub record Work : Type 0 where
  pub config : Incoming
  pub ends : Ends
  pub disk : DiskEnd

-- The outside of a run at one moment: the work, and the errors.
pub record Outside : Type 0 where
  pub work : Work
  pub errors : Outgoing

abbrev pub outside : Incoming → Incoming → Outgoing → Outgoing → DiskEnd → Outside
outside config input output errors disk = record {
  work = record {
    config = config;
    ends = record { incoming = input; outgoing = output };
    disk = disk;
  };
  errors = errors;
}

-- the line that tells why a configuration is refused: a number and a name, and nothing of its text
abbrev pub refusal_line : PolicyFault → List ℕ
refusal_line fault =
    error_line (codes "configuration refused: "
    ++ (decimal (fault_number fault) ++ (codes " " ++ fault_name fault)))

abbrev pub status_of : Ending → ℕ
status_of WordsRefused = 1
status_of (Shown (Ok done)) = 0
status_of (Shown (Err end)) = (row_of (cause_of end)).status
status_of ConfigFault = 4
status_of (ConfigRefused fault) = 2
status_of Unstarted = 7
status_of (Unopened fault) = (opening_row fault).status
status_of (Counted (Ok done)) = 0
status_of (Counted (Err end)) = (row_of (cause_of end)).status
status_of (Served ended) = (row_of ended.cause).status
status_of (DoorsServed ending) = serve_status ending
status_of (Uploaded ending) = sink_status ending
status_of (Loaded ending) = load_status ending

abbrev pub line_of : Ending → List ℕ
line_of WordsRefused = error_line (codes "words refused")
line_of (Shown (Ok done)) = []
line_of (Shown (Err end)) = (row_of (cause_of end)).line
line_of ConfigFault = error_line (codes "fault of config")
line_of (ConfigRefused fault) = refusal_line fault
line_of Unstarted = error_line (codes "want of memory")
line_of (Unopened fault) = (opening_row fault).line
line_of (Counted (Ok done)) = []
line_of (Counted (Err end)) = (row_of (cause_of end)).line
line_of (Served ended) = (row_of ended.cause).line
line_of (DoorsServed ending) = serve_line ending
line_of (Uploaded ending) = sink_line ending
line_of (Loaded ending) = load_fault ending

-- The journal on the disk was opened: its commands lead from the empty world to this one. Other
-- bytes than a journal's were begun anew only where they are nine at most.
pub record Opens (before : DiskEnd) (w : ServiceWorld) (after : DiskEnd) : Type 0 where
  pub world : HasWorldOf Plays empty_service w before.told
  pub begins : OpensAs before.told after.told
  pub other : OtherStays before.told after.told
  pub moments : AtEachMoment before.told after.told (LeftBeforeOrAlike before.told)
  pub synced : AlikeOnceSynced before.told after.told
  pub faults : after.faults ≡ before.faults

-- It was not, and more than nine bytes stay as they are.
pub record RefusesDisk (before : DiskEnd) (fault : OpenFault) (after : DiskEnd) : Type 0 where
  pub shown : IsOpenFault Plays empty_service before.told after.told fault
  pub kept : LongPartStays before.told after.told
  pub other : OtherStays before.told after.told
  pub moments : AtEachMoment before.told after.told (LeftBeforeOrAlike before.told)
  pub synced : AlikeOnceSynced before.told after.told
  pub cause : FaultCause before.faults fault after.faults

-- The journal wasn't opened, by how the run ended: for want of memory before the disk was touched,
-- or by its fault.
abbrev pub IsUnopened : Ending → DiskEnd → DiskEnd → Type 0
IsUnopened Unstarted before after = after ≡ before
IsUnopened (Unopened fault) before after = RefusesDisk before fault after
IsUnopened WordsRefused before after = ⊥
IsUnopened (Shown result) before after = ⊥
IsUnopened ConfigFault before after = ⊥
IsUnopened (ConfigRefused fault) before after = ⊥
IsUnopened (Counted result) before after = ⊥
IsUnopened (Served ended) before after = ⊥
IsUnopened (DoorsServed ending) before after = ⊥
IsUnopened (Uploaded ending) before after = ⊥
IsUnopened (Loaded ending) before after = ⊥

-- These were asked and told in one legal history from the world of the opened journal, under this
-- policy, of one seat, at the moments that the clock's answers make. Each image of the disk has the
-- world that it led to; or, behind an entry that was told Unavailable after which none changed the
-- world, the one that there was to record of it. At each moment inside a call an image has what the
-- entries before left, or a world to which leads what there is to record of that entry.
pub record IsHistory (tables : PolicyTables) (opened : ServiceWorld)
    (tells_before : List ℤ → Type 0) (before : DiskEnd) (exchanges : List Exchange)
    (tells_after : List ℤ → Type 0) (after : DiskEnd) : Type 0 where
  pub last : Service
  pub moves : Moves (service_of (record { policy = tables }) opened) tells_before before.faults
      exchanges last tells_after after.faults
  pub leaves : Leaves after.told
      (HasLast Plays (record { policy = tables }) opened moves.history last.world)
  pub moments : AtEachCall Plays (service_of (record { policy = tables }) opened)
      (point_at [] opened before.told) moves.history
      (point_at moves.history last.world after.told)

-- The output got this text, as far as it took it, and nothing was read.
pub record ShowsText (text : List ℕ) (before : Ends) (result : Result (Unit {0}) WriteEnd)
    (after : Ends) : Type 0 where
  pub unread : after.incoming ≡ before.incoming
  pub writes : WritesWhole before.outgoing text result after.outgoing

-- A run whose words ask for a text.
pub record Shows (result : Result (Unit {0}) WriteEnd) (words : List (List ℕ))
    (before : Work) (tells_before : List ℤ → Type 0)
    (after : Work) (tells_after : List ℤ → Type 0) : Type 0 where
  pub text : List ℕ
  pub asked : AskForText words text
  pub config : after.config ≡ before.config
  pub ends : ShowsText text before.ends result after.ends
  pub disk : after.disk ≡ before.disk
  pub clocked : IsClocked tells_before [] tells_after

-- A run whose words ask for a connection, and that ended by its configuration: nothing was read of
-- the input, nothing was written to the output, the disk wasn't touched, and the clock wasn't
-- asked.
pub record StopsAtConfig (ending : Ending) (words : List (List ℕ))
    (before : Work) (tells_before : List ℤ → Type 0)
    (after : Work) (tells_after : List ℤ → Type 0) : Type 0 where
  pub words_are : IsAnswerWords words
  pub config : IsUnserved ending before.config after.config
  pub ends : after.ends ≡ before.ends
  pub disk : after.disk ≡ before.disk
  pub clocked : IsClocked tells_before [] tells_after

-- What the words ask for that needs the journal: a connection, under a policy that was accepted; or
-- a count, or a workload.
abbrev pub ReachesDisk : List (List ℕ) → Incoming → Incoming → Type 0
ReachesDisk words before after =
    (IsAnswerWords words × ((tables : PolicyTables) × Accepts before tables after))
    ⊎ ((IsCheckWords words ⊎ IsWorkloadWords words) × (after ≡ before))

-- A run that ended by its journal: nothing was read of the input, nothing was written to the
-- output, and the clock wasn't asked.
pub record StopsAtDisk (fault : OpenFault) (words : List (List ℕ))
    (before : Work) (tells_before : List ℤ → Type 0)
    (after : Work) (tells_after : List ℤ → Type 0) : Type 0 where
  pub reaches : ReachesDisk words before.config after.config
  pub ends : after.ends ≡ before.ends
  pub disk : RefusesDisk before.disk fault after.disk
  pub clocked : IsClocked tells_before [] tells_after

-- A run whose words ask for a count, which is that of the journal's world, with the bytes of its
-- records.
pub record CountsJournal (result : Result (Unit {0}) WriteEnd) (words : List (List ℕ))
    (before : Work) (tells_before : List ℤ → Type 0)
    (after : Work) (tells_after : List ℤ → Type 0) : Type 0 where
  pub words_are : IsCheckWords words
  pub config : after.config ≡ before.config
  pub world : ServiceWorld
  pub opens : Opens before.disk world after.disk
  pub commands : List (List ℕ)
  pub leaves : Leaves after.disk.told (ReadsAs commands)
  pub ends : ShowsText (world_text world (length (records commands))) before.ends result after.ends
  pub clocked : IsClocked tells_before [] tells_after

-- A run whose words ask for a connection, whose configuration is that of a policy, whose journal
-- was opened, and that served the connection under that policy, or had no memory to begin with it.
pub record Serves (ended : Ended) (words : List (List ℕ))
    (before : Work) (tells_before : List ℤ → Type 0)
    (after : Work) (tells_after : List ℤ → Type 0) : Type 0 where
  pub words_are : IsAnswerWords words
  pub tables : PolicyTables
  pub config : Accepts before.config tables after.config
  pub opened : ServiceWorld
  pub disk : DiskEnd
  pub opens : Opens before.disk opened disk
  pub served : ServesLink
      (λ exchanges. IsHistory tables opened tells_before disk exchanges tells_after after.disk)
      before.ends ended after.ends

-- The requests of a workload were asked in one legal history from the world of the opened journal,
-- under the workload's policy and at the moments of its own clock, to this end.
pub record RunsLoad (asked : WorkloadWords) (before : DiskEnd) (ran : Result Tally Stop)
    (after : DiskEnd) : Type 0 where
  pub tables : PolicyTables
  pub secret : List ℕ
  pub policy : IsLoadPolicy tables secret
  pub opened : ServiceWorld
  pub disk : DiskEnd
  pub opens : Opens before opened disk
  pub steps : Steps
  pub run : LoadRun (λ exchanges. IsHistory tables opened (AreSteps first_step) disk exchanges
      (AreSteps steps) after) secret asked.number asked.count ran

-- What was told of a workload: its line, as far as the output took it; or nothing, where it
-- stopped.
abbrev pub TellsLoad : Result Load Stop → Ends → LoadEnding → Ends → Type 0
TellsLoad (Ok load) before ending after =
    (written : Result (Unit {0}) WriteEnd) × (ending ≡ loads.Told written)
    × ShowsText (load_text load) before written after
TellsLoad (Err stop) before ending after = (ending ≡ loads.Stopped stop) × (after ≡ before)

-- A run whose words ask for a workload, whose journal was opened. The line tells what was counted,
-- and what the last world has; the clock that was handed in wasn't asked.
pub record LoadsJournal (ending : LoadEnding) (words : List (List ℕ))
    (before : Work) (tells_before : List ℤ → Type 0)
    (after : Work) (tells_after : List ℤ → Type 0) : Type 0 where
  pub asked : WorkloadWords
  pub words_are : Says words (Workload asked)
  pub config : after.config ≡ before.config
  pub ran : Result Tally Stop
  pub runs : RunsLoad asked before.disk ran after.disk
  pub load : Result Load Stop
  pub comes : ComesBy asked runs.run.told.last.world after.disk.told ran load
  pub told : TellsLoad load before.ends ending after.ends
  pub clocked : IsClocked tells_before [] tells_after

-- What a run did that dialled nothing, served no doors and ended so. For want of memory it may have
-- ended at its words, of which nothing is said then.
abbrev pub IsRun : Ending → List (List ℕ)
    → Work → (List ℤ → Type 0) → Work → (List ℤ → Type 0) → Type 0
IsRun WordsRefused words before tells_before after tells_after =
    SayNothing words × (after ≡ before) × IsClocked tells_before [] tells_after
IsRun (Shown result) words before tells_before after tells_after =
    Shows result words before tells_before after tells_after
IsRun ConfigFault words before tells_before after tells_after =
    StopsAtConfig ConfigFault words before tells_before after tells_after
IsRun (ConfigRefused fault) words before tells_before after tells_after =
    StopsAtConfig (ConfigRefused fault) words before tells_before after tells_after
IsRun Unstarted words before tells_before after tells_after =
    ((after ≡ before) × IsClocked tells_before [] tells_after)
    ⊎ StopsAtConfig Unstarted words before tells_before after tells_after
IsRun (Unopened fault) words before tells_before after tells_after =
    StopsAtDisk fault words before tells_before after tells_after
IsRun (Counted result) words before tells_before after tells_after =
    CountsJournal result words before tells_before after tells_after
IsRun (Served ended) words before tells_before after tells_after =
    Serves ended words before tells_before after tells_after
IsRun (Loaded ending) words before tells_before after tells_after =
    LoadsJournal ending words before tells_before after tells_after
IsRun (DoorsServed ending) words before tells_before after tells_after = ⊥
IsRun (Uploaded ending) words before tells_before after tells_after = ⊥

-- what an upload goes over: the configuration, the input as its report, and the dialer
abbrev pub sending : {L : Type 0} → Work → Dials L → Sending L
sending work dials = record { config = work.config; input = work.ends.incoming; dials = dials }

-- A run whose words ask for an upload. The plan of what the input had left was uploaded, or nothing
-- was dialled, and the output got what was sent; the disk wasn't touched, and the clock wasn't
-- asked.
pub record UploadsReport {L : Type 0} (ends : L → Ends) (ending : SinkEnding)
    (words : List (List ℕ))
    (before : Work) (tells_before : List ℤ → Type 0) (dials_before : Dials L)
    (after : Work) (tells_after : List ℤ → Type 0) (dials_after : Dials L) : Type 0 where
  pub sink : SinkWords
  pub words_are : Says words (Sink sink)
  pub sent : Result Sent SinkEnd
  pub sends : IsSending ends sink (sending before dials_before) sent (sending after dials_after)
  pub tells : Tells sent before.ends.outgoing ending after.ends.outgoing
  pub disk : after.disk ≡ before.disk
  pub clocked : IsClocked tells_before [] tells_after

-- What doors tell of their links, and what their links tell.
pub record Telling (A L : Type 0) : Type 0 where
  pub tells : A → Dials L
  pub ends : L → Ends
  pub holds : L → List GName

-- what a service goes over: the disk, the doors, and the output
abbrev pub premises : {A : Type 0} → Work → List A → Premises A
premises work doors = record {
  disk = work.disk.told;
  faults = work.disk.faults;
  doors = doors;
  output = work.ends.outgoing;
}

-- A run whose words ask for a service, whose configuration is that of a policy, whose journal was
-- opened, and that served the doors, or had no memory for it.
pub record ServesService {A L : Type 0} (telling : Telling A L) (ending : ServeEnding)
    (words : List (List ℕ))
    (before : Work) (tells_before : List ℤ → Type 0) (doors_before : List A)
    (after : Work) (tells_after : List ℤ → Type 0) (doors_after : List A) : Type 0 where
  pub words_are : IsServeWords words
  pub tables : PolicyTables
  pub config : Accepts before.config tables after.config
  pub opened : ServiceWorld
  pub disk : DiskEnd
  pub opens : Opens before.disk opened disk
  pub serves : IsServing telling.tells telling.ends telling.holds ending tables opened
      tells_before (premises (record before { disk = disk }) doors_before)
      tells_after (premises after doors_after)
  pub unread : after.ends.incoming ≡ before.ends.incoming

-- Why a service didn't begin: its configuration gave no policy, and the disk wasn't touched; or it
-- did, and the journal wasn't opened.
abbrev pub IsNoService : Ending → Work → Work → Type 0
IsNoService ending before after =
    (IsUnserved ending before.config after.config × (after.disk ≡ before.disk))
    ⊎ (((tables : PolicyTables) × Accepts before.config tables after.config)
    × IsUnopened ending before.disk after.disk)

-- A run whose words ask for a service that didn't begin: nothing was read of the input, nothing was
-- written to the output, and the clock wasn't asked.
pub record StopsService (ending : Ending) (words : List (List ℕ))
    (before : Work) (tells_before : List ℤ → Type 0)
    (after : Work) (tells_after : List ℤ → Type 0) : Type 0 where
  pub words_are : IsServeWords words
  pub why : IsNoService ending before after
  pub ends : after.ends ≡ before.ends
  pub clocked : IsClocked tells_before [] tells_after

-- What a run did that ended so and uploaded nothing: it served the doors, or asked none of them.
abbrev pub DoesHere : {A L : Type 0} → Telling A L → Ending → List (List ℕ)
    → Work → (List ℤ → Type 0) → List A → Work → (List ℤ → Type 0) → List A → Type 0
DoesHere telling (DoorsServed ending) words before tells_before doors_before
    after tells_after doors_after =
    ServesService telling ending words before tells_before doors_before
    after tells_after doors_after
DoesHere telling other words before tells_before doors_before after tells_after doors_after =
    (IsRun other words before tells_before after tells_after
    ⊎ StopsService other words before tells_before after tells_after)
    × (doors_after ≡ doors_before)

-- The doors and the dialer at one moment.
pub record Links (A X : Type 0) : Type 0 where
  pub doors : List A
  pub dials : Dials X

-- What a run did that ended so: it uploaded a report, and asked no door; or it dialled nothing.
abbrev pub Does : {A L X : Type 0} → Telling A L → (X → Ends) → Ending → List (List ℕ)
    → Work → (List ℤ → Type 0) → Links A X → Work → (List ℤ → Type 0) → Links A X → Type 0
Does telling ends (Uploaded ending) words before tells_before links_before
    after tells_after links_after =
    UploadsReport ends ending words before tells_before links_before.dials
    after tells_after links_after.dials × (links_after.doors ≡ links_before.doors)
Does telling ends other words before tells_before links_before after tells_after links_after =
    DoesHere telling other words before tells_before links_before.doors
    after tells_after links_after.doors × (links_after.dials ≡ links_before.dials)

-- The line was written, or a front of it where a write of it failed or took nothing.
abbrev pub IsReported : List ℕ → Outgoing → Outgoing → Type 0
IsReported line before after =
    (result : Result (Unit {0}) WriteEnd) × WritesWhole before line result after

-- The status is that of how the run ended, and so is the line on the errors.
pub record ProgramRun {A L X : Type 0} (telling : Telling A L) (ends : X → Ends) (status : ℕ)
    (words : List (List ℕ))
    (before : Outside) (tells_before : List ℤ → Type 0) (links_before : Links A X)
    (after : Outside) (tells_after : List ℤ → Type 0) (links_after : Links A X) : Type 0 where
  pub ending : Ending
  pub status_is : status ≡ status_of ending
  pub run : Does telling ends ending words before.work tells_before links_before
      after.work tells_after links_after
  pub line : IsReported (line_of ending) before.errors after.errors
