-- What each exit status says of the words, the configuration, the input and the output.
use Rattle.std.specs.Prelude.{◌≡◌, ◌≢◌, ℕ, ◌⊎◌, List, Some, Ok, length}
use Rattle.fault_counts.specs.Causes.{Rose}
use Rattle.outside.specs.Bytes.{Took, IsEnd}
use Rattle.outside.specs.Ends.{Ends}
use Rattle.policy_tables.specs.declared.tables.PolicyTables.{PolicyTables}
use Rattle.workload_runs.specs.PolicyReading.Reading.{IsPolicyOf, IsFirstFault}
use Rattle.permissions.specs.declared.faults.PolicyFault.{PolicyFault}
use Rattle.http_wire.specs.Stream.{Framed}
use Rattle.http_wire.specs.declared.message.End.{End}
use Rattle.http_wire.specs.declared.message.End.TheVariants.{Finished, Closed, Fault}
use Rattle.http_wire.specs.declared.message.Message.{Message}
use Rattle.http_wire.specs.declared.message.WireFault.{WireFault}
use Rattle.journal_book.specs.Books.{IsOpenFault}
use Rattle.program_words.specs.Grammar.{Says}
use Rattle.program_words.specs.declared.command.Command.{Command}
use Rattle.program_words.specs.declared.command.Command.TheVariants.{Sink, Workload}
use Rattle.program_words.specs.declared.sink_words.SinkWords.{SinkWords}
use Rattle.program_words.specs.declared.workload_words.WorkloadWords.{WorkloadWords}
use Rattle.result_journal.specs.Grammar.{records}
use Rattle.result_journal.specs.Journals.{Leaves, ReadsAs}
use Rattle.result_journal.specs.declared.opening.OpenFault.{OpenFault}
use Rattle.serve_runs.specs.ServiceMachine.ServiceEffects.Service.{ServiceWorld, empty_service}
use Rattle.serve_runs.specs.ServiceMachine.Machines.{Plays}
use Rattle.serve_runs.specs.Statuses.{DoorFailed, IsServed, NoneFailed}
use Rattle.sink_runs.specs.Statuses.{SinkSays}
use Rattle.workload_runs.specs.Lines.{load_text}
use Rattle.workload_runs.specs.WorkloadTurns.declared.tally.Tally.{Tally}
use Rattle.workload_runs.specs.declared.line.Load.{Load}
use Rattle.rdb_program.specs.Causes.{opening_row}
use Rattle.rdb_program.specs.Configured.{Accepts}
use Rattle.rdb_program.specs.Counted.{world_text}
use Rattle.rdb_program.specs.Loads.{ComesTo}
use Rattle.rdb_program.specs.Words.{SayNothing, IsAnswerWords, IsCheckWords, IsServeWords, IsSinkWords, IsWorkloadWords, AskForText}
use Rattle.rdb_program.specs.Run.{DiskEnd, Links, Opens, Outside, RunsLoad, Telling, Work, IsReported, premises, refusal_line, sending}

-- The stream that was to be read, where it is told, is messages to its end.
abbrev pub IsWhole : Ends → Type 0
IsWhole before =
    (stream : List ℕ) → before.incoming.left ≡ Some stream
    → (messages : List Message) × Framed stream messages Finished

-- The stream that was to be read, where it is told, is messages of which the last one closes the
-- connection.
abbrev pub IsClosed : Ends → Type 0
IsClosed before =
    (stream : List ℕ) → before.incoming.left ≡ Some stream
    → (messages : List Message) × Framed stream messages Closed

-- All was read, and it was messages to its end; or the connection was closed by a reply.
abbrev pub IsDone : Ends → Ends → Type 0
IsDone before after = (IsEnd after.incoming.left × IsWhole before) ⊎ IsClosed before

-- The stream that was to be read, where it is told, ends by a fault.
abbrev pub IsBroken : Ends → Type 0
IsBroken before =
    (stream : List ℕ) → before.incoming.left ≡ Some stream
    → (messages : List Message) × (fault : WireFault) × Framed stream messages (Fault fault)

-- The output got this text, all of it, and no more than the output was touched.
pub record IsShown (text : List ℕ) (before after : Work) : Type 0 where
  pub config : after.config ≡ before.config
  pub unread : after.ends.incoming ≡ before.ends.incoming
  pub written : Took before.ends.outgoing.written text after.ends.outgoing.written

-- The output got what the journal holds, and the bytes of its records.
pub record IsCounted (before after : Work) : Type 0 where
  pub world : ServiceWorld
  pub opens : Opens before.disk world after.disk
  pub commands : List (List ℕ)
  pub leaves : Leaves after.disk.told (ReadsAs commands)
  pub shown : IsShown (world_text world (length (records commands))) before after

-- The requests of a workload were asked to their end, and the output got the line of it.
pub record IsLoaded (asked : WorkloadWords) (before after : Work) : Type 0 where
  pub tally : Tally
  pub runs : RunsLoad asked before.disk (Ok tally) after.disk
  pub load : Load
  pub comes : ComesTo asked tally runs.run.told.last.world after.disk.told load
  pub shown : IsShown (load_text load) before after

-- The text that the words ask for was shown, or the count; or the connection that they ask for was
-- served to its end, or the workload run to its end.
abbrev pub IsWorkDone : List (List ℕ) → Work → Work → Type 0
IsWorkDone words before after =
    ((text : List ℕ) × AskForText words text × IsShown text before after)
    ⊎ ((IsCheckWords words × IsCounted before after)
    ⊎ ((IsAnswerWords words × IsDone before.ends after.ends)
    ⊎ ((asked : WorkloadWords) × Says words (Workload asked) × IsLoaded asked before after)))

-- A read of the configuration failed, and then the connection wasn't touched.
pub record ConfigFailed (before after : Work) : Type 0 where
  pub rose : Rose before.config.faults after.config.faults
  pub ends : after.ends ≡ before.ends

-- A call on the disk failed while the journal was opened, or in a workload, and then the connection
-- wasn't touched.
pub record DiskFailed (before after : Work) : Type 0 where
  pub rose : Rose before.disk.faults after.disk.faults
  pub ends : after.ends ≡ before.ends

-- A read of the input failed, or a write to the output did.
abbrev pub EndsFailed : Ends → Ends → Type 0
EndsFailed before after =
    Rose before.incoming.faults after.incoming.faults
    ⊎ Rose before.outgoing.faults after.outgoing.faults

-- A read of the configuration or of the input failed, or a write to the output did, or a call on
-- the disk while the journal was opened or in a workload. A configuration of which a read failed
-- isn't served.
abbrev pub HasFailed : Work → Work → Type 0
HasFailed before after =
    ConfigFailed before after ⊎ (DiskFailed before after ⊎ EndsFailed before.ends after.ends)

-- The output took nothing of what it was given.
abbrev pub HasStalled : Work → Work → Type 0
HasStalled before after = Rose before.ends.outgoing.stalls after.ends.outgoing.stalls

-- Over ends on which nothing fails and that take what they are given, a stream that has this end
-- ends in this status, or memory is wanting.
abbrev pub EndsIn : End → ℕ → ℕ → Work → Work → Type 0
EndsIn end status found before after =
    (stream : List ℕ) (messages : List Message)
    → before.ends.incoming.left ≡ Some stream → Framed stream messages end
    → ¬ HasFailed before after → ¬ HasStalled before after
    → (found ≡ status) ⊎ (found ≡ 7)

-- No read of the configuration failed.
abbrev pub IsConfigRead : ℕ → Work → Work → Type 0
IsConfigRead status before after = status ≡ 4 → ¬ Rose before.config.faults after.config.faults

-- What a status says of a configuration whose whole text is told, where this says that it was asked
-- for.
pub record ConfigSays (status : ℕ) (asked : Type 0) (text : List ℕ)
    (before after : Outside) : Type 0 where
  -- 2: this is its first fault, whose number and name the errors got.
  pub refused : status ≡ 2
      → (fault : PolicyFault) × IsFirstFault text fault
      × IsReported (refusal_line fault) before.errors after.errors
  -- Where what it is for was served, this is its policy.
  pub served : asked → status ≢ 2 → status ≢ 7
      → IsConfigRead status before.work after.work
      → (tables : PolicyTables) × IsPolicyOf text tables
  -- A text with a fault is refused by it, unless a read of it failed or memory is wanting.
  pub has_fault : asked → IsConfigRead status before.work after.work
      → (fault : PolicyFault) → IsFirstFault text fault → (status ≡ 2) ⊎ (status ≡ 7)
  -- A policy's text is never refused.
  pub has_none : (tables : PolicyTables) → IsPolicyOf text tables → status ≢ 2

-- The journal is refused by this fault: the bytes of part 0 show it, as the disk was or as it is
-- left, or a command is out of place. The errors got its number and name, and its place.
pub record IsJournalRefused (before after : Outside) : Type 0 where
  pub fault : OpenFault
  pub shown : IsOpenFault Plays empty_service before.work.disk.told after.work.disk.told fault
  pub refused : (opening_row fault).status ≡ 3
  pub line : IsReported (opening_row fault).line before.errors after.errors

-- What a status says.
pub record StatusSays (status : ℕ) (words : List (List ℕ)) (before after : Outside) : Type 0 where
  -- 1 stands for words outside the grammar, and for nothing else, unless memory is wanting to read
  -- them. Then nothing was read or written.
  pub words_refused : status ≡ 1 → SayNothing words
  pub words_accepted : status ≢ 1 → status ≢ 7 → (command : Command) × Says words command
  pub untouched : status ≡ 1 → after.work ≡ before.work
  -- 2: the configuration is refused. Then the input and the output are untouched.
  pub asked_to_serve : (status ≡ 2) ⊎ (status ≡ 8) → IsAnswerWords words
  pub unserved : status ≡ 2 → after.work.ends ≡ before.work.ends
  pub disk_untouched : status ≡ 2 → after.work.disk ≡ before.work.disk
  pub config : (text : List ℕ) → before.work.config.left ≡ Some text
      → ConfigSays status (IsAnswerWords words) text before after
  -- 3: the journal is refused. Then the input and the output are untouched.
  pub journal : status ≡ 3 → IsJournalRefused before after
  pub unopened : status ≡ 3 → after.work.ends ≡ before.work.ends
  -- 0: the work is done. 4: a call failed. 8: the input isn't messages to its end. 9: the output
  -- took nothing.
  pub done : status ≡ 0 → IsWorkDone words before.work after.work
  pub failed : status ≡ 4 → HasFailed before.work after.work
  pub broken : status ≡ 8 → IsBroken before.work.ends
  pub stalled : status ≡ 9 → HasStalled before.work after.work
  -- A count rises at the statuses that it stands for, or where closing bytes couldn't be written.
  pub no_config_fault : status ≢ 4 → after.work.config.faults ≡ before.work.config.faults
  pub no_read_fault : status ≢ 4
      → after.work.ends.incoming.faults ≡ before.work.ends.incoming.faults
  pub no_write_fault : status ≢ 4 → status ≢ 7 → status ≢ 8
      → after.work.ends.outgoing.faults ≡ before.work.ends.outgoing.faults
  pub no_stall : status ≢ 8 → status ≢ 9
      → after.work.ends.outgoing.stalls ≡ before.work.ends.outgoing.stalls
  -- Only words that ask for a connection have the configuration read, and only those and words that
  -- ask for a count or a workload have the disk touched.
  pub config_unread : ¬ IsAnswerWords words → after.work.config ≡ before.work.config
  pub disk_unasked : ¬ IsAnswerWords words → ¬ IsCheckWords words → ¬ IsWorkloadWords words
      → after.work.disk ≡ before.work.disk
  -- Over ends that don't fail a text is shown, and a stream is answered as it deserves where its
  -- configuration isn't refused, unless memory is wanting.
  pub text_shown : (text : List ℕ) → AskForText words text
      → ¬ HasFailed before.work after.work → ¬ HasStalled before.work after.work
      → (status ≡ 0) ⊎ (status ≡ 7)
  pub count_shown : IsCheckWords words → status ≢ 3
      → ¬ HasFailed before.work after.work → ¬ HasStalled before.work after.work
      → (status ≡ 0) ⊎ (status ≡ 7)
  pub load_shown : IsWorkloadWords words → status ≢ 3
      → ¬ HasFailed before.work after.work → ¬ HasStalled before.work after.work
      → (status ≡ 0) ⊎ (status ≡ 7)
  pub whole_stream : IsAnswerWords words → status ≢ 2 → status ≢ 3
      → EndsIn Finished 0 status before.work after.work
  pub closed_stream : IsAnswerWords words → status ≢ 2 → status ≢ 3
      → EndsIn Closed 0 status before.work after.work
  pub broken_stream : IsAnswerWords words → status ≢ 2 → status ≢ 3 → (fault : WireFault)
      → EndsIn (Fault fault) 8 status before.work after.work

-- A service was begun, under a policy and over a journal that were accepted, and all doors were
-- served to their ends; the output got the sums of what was counted.
pub record IsServiceDone {A L : Type 0} (telling : Telling A L)
    (before : Work) (doors_before : List A) (after : Work) (doors_after : List A)
    : Type 0 where
  pub tables : PolicyTables
  pub config : Accepts before.config tables after.config
  pub opened : ServiceWorld
  pub disk : DiskEnd
  pub opens : Opens before.disk opened disk
  pub served : IsServed telling.tells telling.ends telling.holds
      (premises before doors_before) (premises after doors_after)

-- The disk, the input, the output and the doors are as they were.
pub record IsUntouched {A : Type 0} (before : Work) (doors_before : List A)
    (after : Work) (doors_after : List A) : Type 0 where
  pub ends : after.ends ≡ before.ends
  pub disk : after.disk ≡ before.disk
  pub doors : doors_after ≡ doors_before

-- the statuses of a run whose words ask for a service
abbrev pub IsServiceStatus : ℕ → Type 0
IsServiceStatus status =
    (status ≡ 0) ⊎ ((status ≡ 2) ⊎ ((status ≡ 3) ⊎ ((status ≡ 4) ⊎ ((status ≡ 7)
    ⊎ (status ≡ 9)))))

-- What a status says of a run whose words ask for a service.
pub record ServiceSays {A L : Type 0} (telling : Telling A L) (status : ℕ)
    (before : Outside) (doors_before : List A) (after : Outside) (doors_after : List A)
    : Type 0 where
  -- It is one of these. Nothing is read of the input.
  pub known : IsServiceStatus status
  pub unread : after.work.ends.incoming ≡ before.work.ends.incoming
  -- 0: all doors were served to their ends, and that was told.
  pub done : status ≡ 0
      → IsServiceDone telling before.work doors_before after.work doors_after
  -- 2: the configuration is refused. Then nothing else was touched.
  pub config : (text : List ℕ) → before.work.config.left ≡ Some text
      → ConfigSays status (Unit {0}) text before after
  pub unbegun : status ≡ 2 → IsUntouched before.work doors_before after.work doors_after
  -- 3: the journal is refused. Then the output and the doors are untouched.
  pub journal : status ≡ 3 → IsJournalRefused before after
  pub unopened : status ≡ 3
      → (after.work.ends ≡ before.work.ends) × (doors_after ≡ doors_before)
  -- 4: a read of the configuration failed, or the disk did while the journal was opened, or a write
  -- to the output, or a call for a link at a door. 9: the output took nothing.
  pub failed : status ≡ 4
      → HasFailed before.work after.work ⊎ DoorFailed telling.tells doors_before doors_after
  pub stalled : status ≡ 9 → HasStalled before.work after.work
  -- A count rises at the statuses that it stands for, or, of stalls, where a door failed.
  pub no_config_fault : status ≢ 4 → after.work.config.faults ≡ before.work.config.faults
  pub no_write_fault : status ≢ 4
      → after.work.ends.outgoing.faults ≡ before.work.ends.outgoing.faults
  pub no_door_fault : status ≢ 4 → NoneFailed telling.tells doors_before doors_after
  pub no_stall : status ≢ 4 → status ≢ 9
      → after.work.ends.outgoing.stalls ≡ before.work.ends.outgoing.stalls

-- What an exit status says, by what the words ask for. Of an upload that is what it says of a run
-- of the sink.
pub record ExitSays {A L X : Type 0} (telling : Telling A L) (ends : X → Ends) (status : ℕ)
    (words : List (List ℕ)) (before : Outside) (links_before : Links A X)
    (after : Outside) (links_after : Links A X) : Type 0 where
  pub words_refused : status ≡ 1 → SayNothing words
  pub others : ¬ IsServeWords words → ¬ IsSinkWords words → StatusSays status words before after
  pub upload : (sink : SinkWords) → Says words (Sink sink)
      → SinkSays ends sink status (sending before.work links_before.dials)
      (sending after.work links_after.dials)
      before.work.ends.outgoing after.work.ends.outgoing
  pub service : IsServeWords words
      → ServiceSays telling status before links_before.doors after links_after.doors
