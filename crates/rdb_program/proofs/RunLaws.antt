-- What a run's exit status says.
use Rattle.std.proofs.Common.{◌≡◌, ◌≢◌, ℕ, ℤ, true, ◌+◌, ◌-◌, ◌≤◌, ◌⊎◌, inl, inr, List, [], ◌∷◌, length, length-append, Option, Some, Result, Ok, Err, refl, sym, ap, ◌∙◌, subst, arith}
use Rattle.outside.specs.Bytes.{Took}
use Rattle.outside.specs.Ends.{Incoming, Outgoing, Ends}
use Rattle.outside.specs.Whole.{IsWritten}
use Rattle.outside.specs.declared.whole.WriteEnd.{WriteEnd}
use Rattle.outside.specs.declared.whole.WriteEnd.TheVariants as write_ends
use Rattle.fault_counts.specs.Causes.{Rose}
use Rattle.policy_tables.specs.declared.tables.PolicyTables.{PolicyTables}
use Rattle.workload_runs.specs.PolicyReading.Reading.{IsPolicyOf, IsFirstFault}
use Rattle.permissions.specs.declared.faults.PolicyFault.{PolicyFault}
use Rattle.disks.specs.Moments.{AtEachMoment, Told}
use Rattle.result_journal.specs.Grammar.{head, records}
use Rattle.result_journal.specs.Journals.{disk_of, end_of, is_settled}
use Rattle.result_journal.specs.Openings.{AlikeOnceSynced, FaultCause, LeftBeforeOrAlike, OpensAs}
use Rattle.result_journal.specs.Steps.{OtherStays}
use Rattle.result_journal.specs.declared.journal.Journal.{Journal}
use Rattle.result_journal.specs.declared.opening.OpenFault.{OpenFault}
use Rattle.result_journal.specs.declared.opening.OpenFault.TheVariants as openings
use Rattle.journal_book.specs.Books.{HasWorldOf, Stands}
use Rattle.serve_runs.specs.ServiceMachine.ServiceEffects.Service.{ServiceWorld, empty_service}
use Rattle.serve_runs.specs.ServiceMachine.Machines.{Plays}
use Rattle.serve_runs.specs.ServiceCore.Service.{Service, service_of}
use Rattle.tellers.specs.Exchange.{Exchange}
use Rattle.serve_runs.specs.RecordDesk.Clocked.{IsClocked}
use Rattle.serve_runs.specs.RecordDesk.Standing.{HasServed}
use Rattle.serve_runs.proofs.RecordDesk.StandingLaws.{served_leaves, served_nothing}
use Rattle.http_wire.specs.declared.message.End.TheVariants as stream_ends
use Rattle.program_words.specs.Grammar.{Says}
use Rattle.program_words.specs.declared.command.Command.{Command}
use Rattle.program_words.specs.declared.command.Command.TheVariants as commands
use Rattle.program_words.proofs.Answering.{one_command}
use Rattle.sink_runs.specs.declared.ending.SinkEnding.{SinkEnding}
use Rattle.http_workers.specs.Framing as served
use Rattle.http_workers.specs.Ended.{ServesLink}
use Rattle.http_workers.specs.declared.ended.Ended.{Ended}
use Rattle.rdb_program.specs.Causes.{opening_row}
use Rattle.serve_runs.specs.ServiceCore.Counting.{counts_of}
use Rattle.serve_runs.specs.ServiceCore.declared.counting.Counts.{Counts}
use Rattle.journal_book.proofs.StepLaws.{settled_reads}
use Rattle.rdb_program.specs.Counted.{counts_text, world_text}
use Rattle.rdb_program.specs.Lines.{fixed_line}
use Rattle.rdb_program.specs.Opening.{OpensBook}
use Rattle.rdb_program.specs.Words.{SayNothing, IsAnswerWords, IsCheckWords, IsWorkloadWords, AskForText}
use Rattle.rdb_program.specs.Configured.{Accepts, Leaves}
use Rattle.program_words.specs.declared.workload_words.WorkloadWords.{WorkloadWords}
use Rattle.workload_runs.specs.Endings.{load_status}
use Rattle.workload_runs.specs.Lines.{load_text}
use Rattle.workload_runs.specs.WorkloadTurns.declared.stops.Stop.{Stop}
use Rattle.workload_runs.specs.WorkloadTurns.declared.stops.Stop.TheVariants as stops
use Rattle.workload_runs.specs.WorkloadTurns.declared.tally.Tally.{Tally}
use Rattle.workload_runs.specs.declared.ending.LoadEnding.{LoadEnding}
use Rattle.workload_runs.specs.declared.ending.LoadEnding.TheVariants as loads
use Rattle.workload_runs.specs.declared.line.Load.{Load}
use Rattle.rdb_program.specs.Loads.{ComesBy, ComesTo}
use Rattle.rdb_program.specs.Run.{CountsJournal, DiskEnd, LoadsJournal, RunsLoad, TellsLoad, Work, Outside, disk_end, IsReported, status_of, line_of, refusal_line, IsHistory, IsUnopened, ReachesDisk, Shows, ShowsText, StopsAtDisk, IsRun}
use Rattle.rdb_program.specs.Statuses.{IsJournalRefused, IsShown, IsWorkDone, HasFailed, HasStalled, ConfigSays, StatusSays}
use Rattle.http_workers.specs.declared.ended.Cause.{Cause}
use Rattle.rdb_program.specs.declared.ending.Ending.{Ending}
use Rattle.rdb_program.specs.declared.ending.Ending.TheVariants.{WordsRefused, Shown, ConfigFault, ConfigRefused, Unstarted, Unopened, Counted, Served, DoorsServed, Loaded, Uploaded}
use Rattle.rdb_program.proofs.CauseLaws.{status_at, not_one, not_two, not_three, faults_of, stalls_of, no_fault, no_stall, done_at, broken_at, failed_at, stalled_at, no_read_fault_at, not_fault_at, not_stall_at, ends_at, fault_there, stall_there}
use Rattle.rdb_program.proofs.BookLaws.{record_bytes, unasked}
use Rattle.rdb_program.proofs.ConfigLaws.{policy_apart, accepted_told, refused_told}
use Rattle.rdb_program.proofs.LoadLaws.{load_rose}

-- ---- the words

pub answer_apart : (words : List (List ℕ)) (text : List ℕ) → AskForText words text → IsAnswerWords words → ⊥
answer_apart words text (inl help) answer = let e = one_command words (commands.Answer answer.0 answer.1) commands.Help answer.2 help.0 in cc
answer_apart words text (inr version) answer =
    let e = one_command words (commands.Answer answer.0 answer.1) commands.Version answer.2 version.0 in cc

pub check_apart : (words : List (List ℕ)) → IsCheckWords words → IsAnswerWords words → ⊥
check_apart words check answer = let e = one_command words (commands.Answer answer.0 answer.1) (commands.Check check.0) answer.2 check.1 in cc

pub text_apart : (words : List (List ℕ)) (text : List ℕ) → AskForText words text → IsCheckWords words → ⊥
text_apart words text (inl help) check = let e = one_command words (commands.Check check.0) commands.Help check.1 help.0 in cc
text_apart words text (inr version) check = let e = one_command words (commands.Check check.0) commands.Version check.1 version.0 in cc

pub load_answer_apart : (words : List (List ℕ)) → IsWorkloadWords words → IsAnswerWords words → ⊥
load_answer_apart words load answer =
    let e = one_command words (commands.Answer answer.0 answer.1) (commands.Workload load.0) answer.2 load.1 in cc

load_check_apart : (words : List (List ℕ)) → IsWorkloadWords words → IsCheckWords words → ⊥
load_check_apart words load check = let e = one_command words (commands.Check check.0) (commands.Workload load.0) check.1 load.1 in cc

load_text_apart : (words : List (List ℕ)) (text : List ℕ) → AskForText words text → IsWorkloadWords words → ⊥
load_text_apart words text (inl help) load = let e = one_command words (commands.Workload load.0) commands.Help load.1 help.0 in cc
load_text_apart words text (inr version) load = let e = one_command words (commands.Workload load.0) commands.Version load.1 version.0 in cc

asks : (words : List (List ℕ)) (text : List ℕ) → AskForText words text → (command : Command) × Says words command
asks words text (inl help) = (commands.Help, help.0)
asks words text (inr version) = (commands.Version, version.0)

answers : (words : List (List ℕ)) → IsAnswerWords words → (command : Command) × Says words command
answers words answer = (commands.Answer answer.0 answer.1, answer.2)

nothing_apart : (words : List (List ℕ)) → SayNothing words → IsAnswerWords words → ⊥
nothing_apart words nothing answer = nothing (commands.Answer answer.0 answer.1) answer.2

-- ---- a run that leaves the connection alone

-- What is so of it.
record IsStill (status : ℕ) (words : List (List ℕ)) (before after : Outside) : Type 0 where
  same : after.work.ends ≡ before.work.ends
  not_done : status ≢ 0
  not_broken : status ≢ 8
  not_stalled : status ≢ 9
  refused : status ≡ 1 → SayNothing words
  accepted : status ≢ 1 → status ≢ 7 → (command : Command) × Says words command
  unread : status ≡ 1 → after.work ≡ before.work
  asked : status ≡ 2 → IsAnswerWords words
  disk : status ≡ 2 → after.work.disk ≡ before.work.disk
  config : (text : List ℕ) → before.work.config.left ≡ Some text → ConfigSays status (IsAnswerWords words) text before after
  journal : status ≡ 3 → IsJournalRefused before after
  failed : status ≡ 4 → HasFailed before.work after.work
  kept : status ≢ 4 → after.work.config.faults ≡ before.work.config.faults
  unasked : ¬ IsAnswerWords words → after.work.config ≡ before.work.config
  disk_unasked : ¬ IsAnswerWords words → ¬ IsCheckWords words → ¬ IsWorkloadWords words → after.work.disk ≡ before.work.disk
  texts : (text : List ℕ) → AskForText words text → status ≡ 7
  counts : IsCheckWords words → status ≢ 3 → ¬ HasFailed before.work after.work → status ≡ 7
  loads : IsWorkloadWords words → status ≢ 3 → ¬ HasFailed before.work after.work → status ≡ 7
  seven : IsAnswerWords words → status ≢ 2 → status ≢ 3 → ¬ HasFailed before.work after.work → status ≡ 7

says_still : (status : ℕ) (words : List (List ℕ)) (before after : Outside) → IsStill status words before after → StatusSays status words before after
says_still status words before after s = record {
  words_refused = s.refused;
  words_accepted = s.accepted;
  untouched = s.unread;
  asked_to_serve = to_serve;
  unserved = λ is. s.same;
  disk_untouched = s.disk;
  config = s.config;
  journal = s.journal;
  unopened = λ is. s.same;
  done = λ is. absurd (s.not_done is);
  failed = s.failed;
  broken = λ is. absurd (s.not_broken is);
  stalled = λ is. absurd (s.not_stalled is);
  no_config_fault = s.kept;
  no_read_fault = λ n4. ap (λ (e : Ends). e.incoming.faults) s.same;
  no_write_fault = λ n4 n7 n8. ap (λ (e : Ends). e.outgoing.faults) s.same;
  no_stall = λ n8 n9. ap (λ (e : Ends). e.outgoing.stalls) s.same;
  config_unread = s.unasked;
  disk_unasked = s.disk_unasked;
  text_shown = λ text asks fine takes. inr (s.texts text asks);
  count_shown = λ are n3 fine takes. inr (s.counts are n3 fine);
  load_shown = λ are n3 fine takes. inr (s.loads are n3 fine);
  whole_stream = λ are n2 n3 stream ms told framed fine takes. inr (s.seven are n2 n3 fine);
  closed_stream = λ are n2 n3 stream ms told framed fine takes. inr (s.seven are n2 n3 fine);
  broken_stream = λ are n2 n3 fault stream ms told framed fine takes. inr (s.seven are n2 n3 fine);
}
  where
    to_serve : (status ≡ 2) ⊎ (status ≡ 8) → IsAnswerWords words
    to_serve (inl two) = s.asked two
    to_serve (inr eight) = absurd (s.not_broken eight)

-- ---- the configuration, by how the run ended

config_other : (status : ℕ) (asked : Type 0) (text : List ℕ) (before after : Outside) → ¬ asked → status ≢ 2
    → ConfigSays status asked text before after
config_other status asked text before after other n2 = record {
  refused = λ is. absurd (n2 is);
  served = λ are m2 m7 read. absurd (other are);
  has_fault = λ are read fault first. absurd (other are);
  has_none = λ tables policy. n2;
}

pub config_failed : (asked : Type 0) (text : List ℕ) (before after : Outside) → Rose before.work.config.faults after.work.config.faults
    → ConfigSays 4 asked text before after
config_failed asked text before after rose = record {
  refused = λ is. absurd (omega (arith, is));
  served = λ are m2 m7 read. absurd (read refl rose);
  has_fault = λ are read fault first. absurd (read refl rose);
  has_none = λ tables policy is. omega (arith, is);
}

pub config_left : (asked : Type 0) (text : List ℕ) (before after : Outside) → ConfigSays 7 asked text before after
config_left asked text before after = record {
  refused = λ is. absurd (omega (arith, is));
  served = λ are m2 m7 read. absurd (m7 refl);
  has_fault = λ are read fault first. inr refl;
  has_none = λ tables policy is. omega (arith, is);
}

pub config_refused : (asked : Type 0) (text : List ℕ) (before after : Outside) (fault : PolicyFault) → IsFirstFault text fault
    → IsReported (refusal_line fault) before.errors after.errors → ConfigSays 2 asked text before after
config_refused asked text before after fault first line = record {
  refused = λ is. (fault, first, line);
  served = λ are m2 m7 read. absurd (m2 refl);
  has_fault = λ are read other one. inl refl;
  has_none = λ tables policy is. policy_apart text tables fault policy first;
}

pub config_served : (status : ℕ) (asked : Type 0) (text : List ℕ) (before after : Outside) (tables : PolicyTables) → status ≢ 2
    → IsPolicyOf text tables → ConfigSays status asked text before after
config_served status asked text before after tables n2 policy = record {
  refused = λ is. absurd (n2 is);
  served = λ are m2 m7 read. (tables, policy);
  has_fault = λ are read fault first. absurd (policy_apart text tables fault policy first);
  has_none = λ other same. n2;
}

-- ---- the runs

says_words_refused : (words : List (List ℕ)) (before after : Outside) → SayNothing words → after.work ≡ before.work → StatusSays 1 words before after
says_words_refused words before after nothing same = says_still 1 words before after (record {
  same = ap (λ (w : Work). w.ends) same;
  not_done = λ e. omega (arith, e);
  not_broken = λ e. omega (arith, e);
  not_stalled = λ e. omega (arith, e);
  refused = λ is. nothing;
  accepted = λ n1 n7. absurd (n1 refl);
  unread = λ is. same;
  asked = λ is. absurd (omega (arith, is));
  disk = λ is. absurd (omega (arith, is));
  config = λ text told. config_other 1 (IsAnswerWords words) text before after (nothing_apart words nothing) (λ e. omega (arith, e));
  journal = λ is. absurd (omega (arith, is));
  failed = λ is. absurd (omega (arith, is));
  kept = λ n4. ap (λ (w : Work). w.config.faults) same;
  unasked = λ other. ap (λ (w : Work). w.config) same;
  disk_unasked = λ other also third. ap (λ (w : Work). w.disk) same;
  texts = λ text asked. absurd (nothing (asks words text asked).0 (asks words text asked).1);
  counts = λ are n3 fine. absurd (nothing (commands.Check are.0) are.1);
  loads = λ are n3 fine. absurd (nothing (commands.Workload are.0) are.1);
  seven = λ are n2 n3 fine. absurd (nothing_apart words nothing are);
})

-- Memory was wanting.
says_unstarted : (words : List (List ℕ)) (before after : Outside) → after.work.ends ≡ before.work.ends
    → after.work.config.faults ≡ before.work.config.faults → (¬ IsAnswerWords words → after.work.config ≡ before.work.config)
    → (¬ IsAnswerWords words → ¬ IsCheckWords words → ¬ IsWorkloadWords words → after.work.disk ≡ before.work.disk) → StatusSays 7 words before after
says_unstarted words before after same faults unasked disk = says_still 7 words before after (record {
  same = same;
  not_done = λ e. omega (arith, e);
  not_broken = λ e. omega (arith, e);
  not_stalled = λ e. omega (arith, e);
  refused = λ is. absurd (omega (arith, is));
  accepted = λ n1 n7. absurd (n7 refl);
  unread = λ is. absurd (omega (arith, is));
  asked = λ is. absurd (omega (arith, is));
  disk = λ is. absurd (omega (arith, is));
  config = λ text told. config_left (IsAnswerWords words) text before after;
  journal = λ is. absurd (omega (arith, is));
  failed = λ is. absurd (omega (arith, is));
  kept = λ n4. faults;
  unasked = unasked;
  disk_unasked = disk;
  texts = λ text asked. refl;
  counts = λ are n3 fine. refl;
  loads = λ are n3 fine. refl;
  seven = λ are n2 n3 fine. refl;
})

says_config_fault : (words : List (List ℕ)) (before after : Outside) → IsAnswerWords words → after.work.ends ≡ before.work.ends
    → Rose before.work.config.faults after.work.config.faults → StatusSays 4 words before after
says_config_fault words before after are same rose =
    let failed : HasFailed before.work after.work = inl (record { rose = rose; ends = same }) in
    says_still 4 words before after (record {
      same = same;
      not_done = λ e. omega (arith, e);
      not_broken = λ e. omega (arith, e);
      not_stalled = λ e. omega (arith, e);
      refused = λ is. absurd (omega (arith, is));
      accepted = λ n1 n7. answers words are;
      unread = λ is. absurd (omega (arith, is));
      asked = λ is. are;
      disk = λ is. absurd (omega (arith, is));
      config = λ text told. config_failed (IsAnswerWords words) text before after rose;
      journal = λ is. absurd (omega (arith, is));
      failed = λ is. failed;
      kept = λ n4. absurd (n4 refl);
      unasked = λ other. absurd (other are);
      disk_unasked = λ other also third. absurd (other are);
      texts = λ text asked. absurd (answer_apart words text asked are);
      counts = λ also n3 fine. absurd (fine failed);
      loads = λ also n3 fine. absurd (fine failed);
      seven = λ also n2 n3 fine. absurd (fine failed);
    })

says_config_refused : (words : List (List ℕ)) (before after : Outside) → IsAnswerWords words → after.work.ends ≡ before.work.ends
    → after.work.disk ≡ before.work.disk → after.work.config.faults ≡ before.work.config.faults
    → ((text : List ℕ) → before.work.config.left ≡ Some text → ConfigSays 2 (IsAnswerWords words) text before after) → StatusSays 2 words before after
says_config_refused words before after are same disk faults config = says_still 2 words before after (record {
  same = same;
  not_done = λ e. omega (arith, e);
  not_broken = λ e. omega (arith, e);
  not_stalled = λ e. omega (arith, e);
  refused = λ is. absurd (omega (arith, is));
  accepted = λ n1 n7. answers words are;
  unread = λ is. absurd (omega (arith, is));
  asked = λ is. are;
  disk = λ is. disk;
  config = config;
  journal = λ is. absurd (omega (arith, is));
  failed = λ is. absurd (omega (arith, is));
  kept = λ n4. faults;
  unasked = λ other. absurd (other are);
  disk_unasked = λ other also third. disk;
  texts = λ text asked. absurd (answer_apart words text asked are);
  counts = λ also n3 fine. absurd (check_apart words also are);
  loads = λ also n3 fine. absurd (load_answer_apart words also are);
  seven = λ also n2 n3 fine. absurd (n2 refl);
})

-- ---- the journal wasn't opened

pub opening_range : (fault : OpenFault) → (3 ≤ (opening_row fault).status) × ((opening_row fault).status ≤ 7)
opening_range (openings.NotAJournal at) = (omega arith, omega arith)
opening_range (openings.Damaged at byte) = (omega arith, omega arith)
opening_range (openings.NewerVersion found) = (omega arith, omega arith)
opening_range openings.DiskFailed = (omega arith, omega arith)
opening_range openings.Memory = (omega arith, omega arith)

pub opening_rose : (fault : OpenFault) (before now : ℕ) → FaultCause before fault now → (opening_row fault).status ≡ 4 → Rose before now
opening_rose openings.DiskFailed before now cause is = cause.1
opening_rose (openings.NotAJournal at) before now cause is = absurd (omega (arith, is))
opening_rose (openings.Damaged at byte) before now cause is = absurd (omega (arith, is))
opening_rose (openings.NewerVersion found) before now cause is = absurd (omega (arith, is))
opening_rose openings.Memory before now cause is = absurd (omega (arith, is))

pub opening_else : (fault : OpenFault) → (opening_row fault).status ≢ 3 → (opening_row fault).status ≢ 4 → (opening_row fault).status ≡ 7
opening_else (openings.NotAJournal at) n3 n4 = absurd (n3 refl)
opening_else (openings.Damaged at byte) n3 n4 = absurd (n3 refl)
opening_else (openings.NewerVersion found) n3 n4 = absurd (n3 refl)
opening_else openings.DiskFailed n3 n4 = absurd (n4 refl)
opening_else openings.Memory n3 n4 = refl

-- what such a run says of the words and the configuration, by what asked for the journal
reached_command : (words : List (List ℕ)) (before after : Incoming) → ReachesDisk words before after → (command : Command) × Says words command
reached_command words before after (inl answer) = answers words answer.0
reached_command words before after (inr here) =
    elim here.0 [ inl check ↦ (commands.Check check.0, check.1) | inr load ↦ (commands.Workload load.0, load.1) ]

reached_faults : (words : List (List ℕ)) (before after : Incoming) → ReachesDisk words before after → after.faults ≡ before.faults
reached_faults words before after (inl answer) = answer.1.1.faults
reached_faults words before after (inr here) = ap (λ (i : Incoming). i.faults) here.1

reached_unasked : (words : List (List ℕ)) (before after : Incoming) → ReachesDisk words before after → ¬ IsAnswerWords words → after ≡ before
reached_unasked words before after (inl answer) other = absurd (other answer.0)
reached_unasked words before after (inr here) other = here.1

reached_asked : (words : List (List ℕ)) (before after : Incoming) → ReachesDisk words before after → ¬ IsAnswerWords words → ¬ IsCheckWords words
    → ¬ IsWorkloadWords words → ⊥
reached_asked words before after (inl answer) other also third = other answer.0
reached_asked words before after (inr here) other also third = elim here.0 [ inl check ↦ also check | inr load ↦ third load ]

reached_text : (words : List (List ℕ)) (before after : Incoming) → ReachesDisk words before after → (text : List ℕ) → AskForText words text → ⊥
reached_text words before after (inl answer) text asked = answer_apart words text asked answer.0
reached_text words before after (inr here) text asked =
    elim here.0 [ inl check ↦ text_apart words text asked check | inr load ↦ load_text_apart words text asked load ]

reached_config : (status : ℕ) (words : List (List ℕ)) (before after : Outside) → ReachesDisk words before.work.config after.work.config → status ≢ 2
    → (text : List ℕ) → before.work.config.left ≡ Some text → ConfigSays status (IsAnswerWords words) text before after
reached_config status words before after (inl answer) n2 text told =
    config_served status (IsAnswerWords words) text before after answer.1.0 n2
    (accepted_told before.work.config answer.1.0 after.work.config text answer.1.1 told)
reached_config status words before after (inr here) n2 text told = config_other status (IsAnswerWords words) text before after (apart here.0) n2
  where
    apart : IsCheckWords words ⊎ IsWorkloadWords words → IsAnswerWords words → ⊥
    apart (inl check) are = check_apart words check are
    apart (inr load) are = load_answer_apart words load are

says_unopened : (words : List (List ℕ)) (before after : Outside) (tb ta : List ℤ → Type 0) (fault : OpenFault)
    → StopsAtDisk fault words before.work tb after.work ta → IsReported (opening_row fault).line before.errors after.errors
    → StatusSays (opening_row fault).status words before after
says_unopened words before after tb ta fault s line =
    let status = (opening_row fault).status in
    let range = opening_range fault in
    let n2 : status ≢ 2 = λ e. omega (arith, e, range.0) in
    let rose = λ (is : status ≡ 4). opening_rose fault before.work.disk.faults after.work.disk.faults s.disk.cause is in
    let failed : status ≡ 4 → HasFailed before.work after.work = λ is. inr (inl (record { rose = rose is; ends = s.ends })) in
    says_still status words before after (record {
      same = s.ends;
      not_done = λ e. omega (arith, e, range.0);
      not_broken = λ e. omega (arith, e, range.1);
      not_stalled = λ e. omega (arith, e, range.1);
      refused = λ is. absurd (omega (arith, is, range.0));
      accepted = λ n1 n7. reached_command words before.work.config after.work.config s.reaches;
      unread = λ is. absurd (omega (arith, is, range.0));
      asked = λ is. absurd (n2 is);
      disk = λ is. absurd (n2 is);
      config = reached_config status words before after s.reaches n2;
      journal = λ is. record { fault = fault; shown = s.disk.shown; refused = is; line = line };
      failed = failed;
      kept = λ n4. reached_faults words before.work.config after.work.config s.reaches;
      unasked = reached_unasked words before.work.config after.work.config s.reaches;
      disk_unasked = λ other also third. absurd (reached_asked words before.work.config after.work.config s.reaches other also third);
      texts = λ text asked. absurd (reached_text words before.work.config after.work.config s.reaches text asked);
      counts = λ are n3 fine. opening_else fault n3 (λ is. fine (failed is));
      loads = λ are n3 fine. opening_else fault n3 (λ is. fine (failed is));
      seven = λ are m2 n3 fine. opening_else fault n3 (λ is. fine (failed is));
    })

-- ---- a text was written

-- What is so of a run that wrote a text, by how the write of it ended.
record IsWriting (words : List (List ℕ)) (text : List ℕ) (before after : Outside) (result : Result (Unit {0}) WriteEnd) : Type 0 where
  said : (command : Command) × Says words command
  no_answer : IsAnswerWords words → ⊥
  config : after.work.config ≡ before.work.config
  ends : ShowsText text before.work.ends result after.work.ends
  disk_unasked : ¬ IsCheckWords words → ¬ IsWorkloadWords words → after.work.disk ≡ before.work.disk
  done : IsShown text before.work after.work → IsWorkDone words before.work after.work

says_written : (status : ℕ) (words : List (List ℕ)) (text : List ℕ) (before after : Outside) (result : Result (Unit {0}) WriteEnd)
    → IsWriting words text before after result
    → status ≢ 1 → status ≢ 2 → status ≢ 3 → status ≢ 7 → status ≢ 8
    → (status ≡ 0 → result ≡ Ok tt) → (status ≡ 4 → result ≡ Err write_ends.WriteFault) → (status ≡ 9 → result ≡ Err write_ends.SinkTakesNothing)
    → (status ≢ 4 → result ≢ Err write_ends.WriteFault) → (status ≢ 9 → result ≢ Err write_ends.SinkTakesNothing)
    → (¬ HasFailed before.work after.work → ¬ HasStalled before.work after.work → status ≡ 0) → StatusSays status words before after
says_written status words text before after result s n1 n2 n3 n7 n8 well failed stalled unfailed unstalled shown = record {
  words_refused = λ is. absurd (n1 is);
  words_accepted = λ m1 m7. s.said;
  untouched = λ is. absurd (n1 is);
  asked_to_serve = no_serve;
  unserved = λ is. absurd (n2 is);
  disk_untouched = λ is. absurd (n2 is);
  config = λ told is. config_other status (IsAnswerWords words) told before after s.no_answer n2;
  journal = λ is. absurd (n3 is);
  unopened = λ is. absurd (n3 is);
  done = λ is. s.done (record { config = s.config; unread = s.ends.unread; written = written_whole (well is) });
  failed = λ is. inr (inr (inr (fault_there before.work.ends.outgoing.faults after.work.ends.outgoing.faults result s.ends.writes.faults (failed is))));
  broken = λ is. absurd (n8 is);
  stalled = λ is. stall_there before.work.ends.outgoing.stalls after.work.ends.outgoing.stalls result s.ends.writes.stalls (stalled is);
  no_config_fault = λ n4. ap (λ (i : Incoming). i.faults) s.config;
  no_read_fault = λ n4. ap (λ (i : Incoming). i.faults) s.ends.unread;
  no_write_fault = λ n4 m7 m8. no_fault before.work.ends.outgoing.faults after.work.ends.outgoing.faults result s.ends.writes.faults (unfailed n4);
  no_stall = λ m8 n9. no_stall before.work.ends.outgoing.stalls after.work.ends.outgoing.stalls result s.ends.writes.stalls (unstalled n9);
  config_unread = λ other. s.config;
  disk_unasked = λ other also third. s.disk_unasked also third;
  text_shown = λ told asked fine takes. inl (shown fine takes);
  count_shown = λ are m3 fine takes. inl (shown fine takes);
  load_shown = λ are m3 fine takes. inl (shown fine takes);
  whole_stream = λ are m2 m3 stream ms told framed fine takes. absurd (s.no_answer are);
  closed_stream = λ are m2 m3 stream ms told framed fine takes. absurd (s.no_answer are);
  broken_stream = λ are m2 m3 fault stream ms told framed fine takes. absurd (s.no_answer are);
}
  where
    no_serve : (status ≡ 2) ⊎ (status ≡ 8) → IsAnswerWords words
    no_serve (inl two) = absurd (n2 two)
    no_serve (inr eight) = absurd (n8 eight)

    written_whole : result ≡ Ok tt → Took before.work.ends.outgoing.written text after.work.ends.outgoing.written
    written_whole is =
        subst (λ (r : Result (Unit {0}) WriteEnd). IsWritten before.work.ends.outgoing.written text r after.work.ends.outgoing.written) is
        s.ends.writes.written

written_well : (words : List (List ℕ)) (text : List ℕ) (before after : Outside) (done : Unit {0}) → IsWriting words text before after (Ok done)
    → StatusSays 0 words before after
written_well words text before after done s =
    says_written 0 words text before after (Ok done) s (λ e. omega (arith, e)) (λ e. omega (arith, e)) (λ e. omega (arith, e)) (λ e. omega (arith, e))
    (λ e. omega (arith, e)) (λ is. refl) (λ is. absurd (omega (arith, is))) (λ is. absurd (omega (arith, is))) (λ n4 e. cc) (λ n9 e. cc)
    (λ fine takes. refl)

written_failed : (words : List (List ℕ)) (text : List ℕ) (before after : Outside) → IsWriting words text before after (Err write_ends.WriteFault)
    → StatusSays 4 words before after
written_failed words text before after s =
    says_written 4 words text before after (Err write_ends.WriteFault) s (λ e. omega (arith, e)) (λ e. omega (arith, e)) (λ e. omega (arith, e))
    (λ e. omega (arith, e)) (λ e. omega (arith, e)) (λ is. absurd (omega (arith, is))) (λ is. refl) (λ is. absurd (omega (arith, is)))
    (λ n4 e. n4 refl) (λ n9 e. cc) (λ fine takes. absurd (fine (inr (inr (inr s.ends.writes.faults.1)))))

written_stalled : (words : List (List ℕ)) (text : List ℕ) (before after : Outside) → IsWriting words text before after (Err write_ends.SinkTakesNothing)
    → StatusSays 9 words before after
written_stalled words text before after s =
    says_written 9 words text before after (Err write_ends.SinkTakesNothing) s (λ e. omega (arith, e)) (λ e. omega (arith, e)) (λ e. omega (arith, e))
    (λ e. omega (arith, e)) (λ e. omega (arith, e)) (λ is. absurd (omega (arith, is))) (λ is. absurd (omega (arith, is))) (λ is. refl)
    (λ n4 e. cc) (λ n9 e. n9 refl) (λ fine takes. absurd (takes s.ends.writes.stalls.1))

text_writing : (words : List (List ℕ)) (before after : Outside) (result : Result (Unit {0}) WriteEnd) (tb ta : List ℤ → Type 0)
    (s : Shows result words before.work tb after.work ta) → IsWriting words s.text before after result
text_writing words before after result tb ta s = record {
  said = asks words s.text s.asked;
  no_answer = λ are. answer_apart words s.text s.asked are;
  config = s.config;
  ends = s.ends;
  disk_unasked = λ other also. s.disk;
  done = λ shown. inl (s.text, s.asked, shown);
}

says_text : (words : List (List ℕ)) (before after : Outside) (result : Result (Unit {0}) WriteEnd) (tb ta : List ℤ → Type 0)
    → Shows result words before.work tb after.work ta → StatusSays (status_of (Shown result)) words before after
says_text words before after (Ok done) tb ta s = written_well words s.text before after done (text_writing words before after (Ok done) tb ta s)
says_text words before after (Err write_ends.WriteFault) tb ta s =
    written_failed words s.text before after (text_writing words before after (Err write_ends.WriteFault) tb ta s)
says_text words before after (Err write_ends.SinkTakesNothing) tb ta s =
    written_stalled words s.text before after (text_writing words before after (Err write_ends.SinkTakesNothing) tb ta s)

count_writing : (words : List (List ℕ)) (before after : Outside) (result : Result (Unit {0}) WriteEnd) (tb ta : List ℤ → Type 0)
    (s : CountsJournal result words before.work tb after.work ta)
    → IsWriting words (world_text s.world (length (records s.commands))) before after result
count_writing words before after result tb ta s = record {
  said = (commands.Check s.words_are.0, s.words_are.1);
  no_answer = λ are. check_apart words s.words_are are;
  config = s.config;
  ends = s.ends;
  disk_unasked = λ other also. absurd (other s.words_are);
  done = λ shown. inr (inl (s.words_are, record { world = s.world; opens = s.opens; commands = s.commands; leaves = s.leaves; shown = shown }));
}

says_count : (words : List (List ℕ)) (before after : Outside) (result : Result (Unit {0}) WriteEnd) (tb ta : List ℤ → Type 0)
    → CountsJournal result words before.work tb after.work ta → StatusSays (status_of (Counted result)) words before after
says_count words before after (Ok done) tb ta s = written_well words _ before after done (count_writing words before after (Ok done) tb ta s)
says_count words before after (Err write_ends.WriteFault) tb ta s =
    written_failed words _ before after (count_writing words before after (Err write_ends.WriteFault) tb ta s)
says_count words before after (Err write_ends.SinkTakesNothing) tb ta s =
    written_stalled words _ before after (count_writing words before after (Err write_ends.SinkTakesNothing) tb ta s)

-- The line of a workload was written.
load_writing : (words : List (List ℕ)) (before after : Outside) (asked : WorkloadWords) (tally : Tally) (load : Load) (written : Result (Unit {0}) WriteEnd)
    → Says words (commands.Workload asked) → after.work.config ≡ before.work.config
    → (runs : RunsLoad asked before.work.disk (Ok tally) after.work.disk)
    → ComesTo asked tally runs.run.told.last.world after.work.disk.told load
    → ShowsText (load_text load) before.work.ends written after.work.ends → IsWriting words (load_text load) before after written
load_writing words before after asked tally load written are config runs comes shows = record {
  said = (commands.Workload asked, are);
  no_answer = λ answer. load_answer_apart words (asked, are) answer;
  config = config;
  ends = shows;
  disk_unasked = λ other also. absurd (also (asked, are));
  done = λ shown. inr (inr (inr (asked, are, record { tally = tally; runs = runs; load = load; comes = comes; shown = shown })));
}

-- A workload stopped, since the disk failed.
says_load_failed : (words : List (List ℕ)) (before after : Outside) (asked : WorkloadWords) → Says words (commands.Workload asked)
    → after.work.config ≡ before.work.config → after.work.ends ≡ before.work.ends → Rose before.work.disk.faults after.work.disk.faults
    → StatusSays 4 words before after
says_load_failed words before after asked are config same rose =
    let failed : HasFailed before.work after.work = inr (inl (record { rose = rose; ends = same })) in
    says_still 4 words before after (record {
      same = same;
      not_done = λ e. omega (arith, e);
      not_broken = λ e. omega (arith, e);
      not_stalled = λ e. omega (arith, e);
      refused = λ is. absurd (omega (arith, is));
      accepted = λ n1 n7. (commands.Workload asked, are);
      unread = λ is. absurd (omega (arith, is));
      asked = λ is. absurd (omega (arith, is));
      disk = λ is. absurd (omega (arith, is));
      config = λ text told. config_other 4 (IsAnswerWords words) text before after (load_answer_apart words (asked, are)) (λ e. omega (arith, e));
      journal = λ is. absurd (omega (arith, is));
      failed = λ is. failed;
      kept = λ n4. absurd (n4 refl);
      unasked = λ other. config;
      disk_unasked = λ other also third. absurd (third (asked, are));
      texts = λ text asks. absurd (load_text_apart words text asks (asked, are));
      counts = λ also n3 fine. absurd (fine failed);
      loads = λ also n3 fine. absurd (fine failed);
      seven = λ also n2 n3 fine. absurd (fine failed);
    })

says_load_at : (words : List (List ℕ)) (before after : Outside) (asked : WorkloadWords) (ran : Result Tally Stop) (load : Result Load Stop) (ending : LoadEnding)
    → Says words (commands.Workload asked) → after.work.config ≡ before.work.config → (runs : RunsLoad asked before.work.disk ran after.work.disk)
    → ComesBy asked runs.run.told.last.world after.work.disk.told ran load → TellsLoad load before.work.ends ending after.work.ends
    → StatusSays (load_status ending) words before after
says_load_at words before after asked (Ok tally) (Ok load) ending are config runs comes told =
    subst (λ (e : LoadEnding). StatusSays (load_status e) words before after) (sym told.1) (by_write told.0 told.2)
  where
    by_write : (written : Result (Unit {0}) WriteEnd) → ShowsText (load_text load) before.work.ends written after.work.ends
        → StatusSays (load_status (loads.Told written)) words before after
    by_write (Ok done) shows =
        written_well words (load_text load) before after done (load_writing words before after asked tally load (Ok done) are config runs comes shows)
    by_write (Err write_ends.WriteFault) shows =
        written_failed words (load_text load) before after (load_writing words before after asked tally load (Err write_ends.WriteFault) are config runs comes shows)
    by_write (Err write_ends.SinkTakesNothing) shows =
        written_stalled words (load_text load) before after
        (load_writing words before after asked tally load (Err write_ends.SinkTakesNothing) are config runs comes shows)
says_load_at words before after asked (Ok tally) (Err stop) ending are config runs comes told = absurd comes
says_load_at words before after asked (Err stop) (Ok load) ending are config runs comes told = absurd comes
says_load_at words before after asked (Err stop) (Err other) ending are config runs comes told =
    subst (λ (e : LoadEnding). StatusSays (load_status e) words before after) (sym (told.0 ∙ ap loads.Stopped comes)) (by_stop stop runs)
  where
    by_stop : (s : Stop) → RunsLoad asked before.work.disk (Err s) after.work.disk → StatusSays (load_status (loads.Stopped s)) words before after
    by_stop stops.Unavailable one =
        says_load_failed words before after asked are config told.1 (load_rose asked before.work.disk after.work.disk one)
    by_stop stops.Memory one =
        says_unstarted words before after told.1 (ap (λ (i : Incoming). i.faults) config) (λ other. config)
        (λ answer also third. absurd (third (asked, are)))

says_load : (words : List (List ℕ)) (before after : Outside) (ending : LoadEnding) (tb ta : List ℤ → Type 0)
    → LoadsJournal ending words before.work tb after.work ta → StatusSays (load_status ending) words before after
says_load words before after ending tb ta s =
    says_load_at words before after s.asked s.ran s.load ending s.words_are s.config s.runs s.comes s.told

-- The connection was served.
says_served : (words : List (List ℕ)) (before after : Outside) (asked : List Exchange → Type 0) (calls : ℕ) (cause : Cause) (tables : PolicyTables)
    → IsAnswerWords words → Accepts before.work.config tables after.work.config
    → served.Served asked before.work.ends calls cause after.work.ends → StatusSays (status_at cause) words before after
says_served words before after asked calls cause tables are config s =
    let c = s.connection in
    let was = before.work.ends in
    let is_now = after.work.ends in
    record {
      words_refused = λ is. absurd (not_one cause is);
      words_accepted = λ n1 n7. answers words are;
      untouched = λ is. absurd (not_one cause is);
      asked_to_serve = λ is. are;
      unserved = λ is. absurd (not_two cause is);
      disk_untouched = λ is. absurd (not_two cause is);
      config = λ text told.
          config_served (status_at cause) (IsAnswerWords words) text before after tables (not_two cause)
          (accepted_told before.work.config tables after.work.config text config told);
      journal = λ is. absurd (not_three cause is);
      unopened = λ is. absurd (not_three cause is);
      done = λ is. inr (inr (inl (are, done_at _ was calls cause is_now s is)));
      failed = λ is. inr (inr (failed_at _ was calls cause is_now c is));
      broken = broken_at _ was calls cause is_now s;
      stalled = stalled_at _ was calls cause is_now c;
      no_config_fault = λ n4. config.faults;
      no_read_fault = no_read_fault_at cause was.incoming.faults is_now.incoming.faults c.reads;
      no_write_fault = λ n4 n7 n8. no_fault was.outgoing.faults is_now.outgoing.faults c.result (faults_of _ was calls cause is_now c) (not_fault_at cause c.result c.last_write n4 n7 n8);
      no_stall = λ n8 n9. no_stall was.outgoing.stalls is_now.outgoing.stalls c.result (stalls_of _ was calls cause is_now c) (not_stall_at cause c.result c.last_write n8 n9);
      config_unread = λ other. absurd (other are);
      disk_unasked = λ other also third. absurd (other are);
      text_shown = λ text asks fine takes. absurd (answer_apart words text asks are);
      count_shown = λ also n3 fine takes. absurd (check_apart words also are);
      load_shown = λ also n3 fine takes. absurd (load_answer_apart words also are);
      whole_stream = λ also n2 n3 stream ms told framed fine takes.
          ends_at _ was calls cause is_now s stream ms stream_ends.Finished 0 told framed (λ f. fine (inr (inr f))) takes (λ e. refl) (λ e. refl) (λ fault e. absurd cc);
      closed_stream = λ also n2 n3 stream ms told framed fine takes.
          ends_at _ was calls cause is_now s stream ms stream_ends.Closed 0 told framed (λ f. fine (inr (inr f))) takes (λ e. refl) (λ e. refl) (λ fault e. absurd cc);
      broken_stream = λ also n2 n3 fault stream ms told framed fine takes.
          ends_at _ was calls cause is_now s stream ms (stream_ends.Fault fault) 8 told framed (λ f. fine (inr (inr f))) takes (λ e. absurd cc) (λ e. absurd cc) (λ f e. refl);
    }

-- The connection was served, or there was no memory to begin with it.
says_ended : (words : List (List ℕ)) (before after : Outside) (asked : List Exchange → Type 0) (ended : Ended) (tables : PolicyTables)
    → IsAnswerWords words → Accepts before.work.config tables after.work.config → ServesLink asked before.work.ends ended after.work.ends
    → StatusSays (status_at ended.cause) words before after
says_ended words before after asked ended tables are config (inl unbegun) =
    subst (λ (k : Cause). StatusSays (status_at k) words before after) (sym unbegun.cause_is)
    (says_unstarted words before after unbegun.untouched config.faults (λ other. absurd (other are)) (λ other also third. absurd (other are)))
says_ended words before after asked ended tables are config (inr s) = says_served words before after asked ended.calls ended.cause tables are config s

-- What the status of a run says, with the line that the errors got.
pub says : (words : List (List ℕ)) (before after : Outside) (tb ta : List ℤ → Type 0) (ending : Ending)
    → IsRun ending words before.work tb after.work ta → IsReported (line_of ending) before.errors after.errors
    → StatusSays (status_of ending) words before after
says words before after tb ta WordsRefused run line = says_words_refused words before after run.0 run.1
says words before after tb ta (Shown result) run line = says_text words before after result tb ta run
says words before after tb ta ConfigFault run line = says_config_fault words before after run.words_are run.ends run.config.faults
says words before after tb ta (ConfigRefused fault) run line =
    says_config_refused words before after run.words_are run.ends run.disk run.config.faults
    (λ text told.
    let whole = refused_told before.work.config fault after.work.config text run.config told in
    config_refused (IsAnswerWords words) text before after whole.0 whole.1
    (subst (λ (l : List ℕ). IsReported l before.errors after.errors) whole.2 line))
says words before after tb ta Unstarted (inl run) line =
    says_unstarted words before after (ap (λ (w : Work). w.ends) run.0) (ap (λ (w : Work). w.config.faults) run.0)
    (λ other. ap (λ (w : Work). w.config) run.0) (λ other also third. ap (λ (w : Work). w.disk) run.0)
says words before after tb ta Unstarted (inr run) line =
    says_unstarted words before after run.ends run.config.faults (λ other. absurd (other run.words_are)) (λ other also third. run.disk)
says words before after tb ta (Unopened fault) run line = says_unopened words before after tb ta fault run line
says words before after tb ta (Counted result) run line = says_count words before after result tb ta run
says words before after tb ta (Loaded ending) run line = says_load words before after ending tb ta run
says words before after tb ta (DoorsServed ending) run line = absurd run
says words before after tb ta (Uploaded ending) run line = absurd run
says words before after tb ta (Served ended) run line = says_ended words before after _ ended run.tables run.words_are run.config run.served

abbrev pub work_at : Incoming → Incoming → Outgoing → DiskEnd → Work
work_at config input output disk = record { config = config; ends = record { incoming = input; outgoing = output }; disk = disk }

-- A run goes over the ends that a link reads and writes through.
pub run_through : (words : List (List ℕ)) (cb ca ib i ia j : Incoming) (ob o oa p : Outgoing) (db da : DiskEnd) (tb ta : List ℤ → Type 0)
    (ending : Ending) → ib ≡ i → ia ≡ j → ob ≡ o → oa ≡ p → IsRun ending words (work_at cb ib ob db) tb (work_at ca ia oa da) ta
    → IsRun ending words (work_at cb i o db) tb (work_at ca j p da) ta
run_through words cb ca ib i ia j ob o oa p db da tb ta ending one two three four run =
    subst (λ (x : Incoming). IsRun ending words (work_at cb x o db) tb (work_at ca j p da) ta) one
    (subst (λ (x : Incoming). IsRun ending words (work_at cb ib o db) tb (work_at ca x p da) ta) two
    (subst (λ (x : Outgoing). IsRun ending words (work_at cb ib x db) tb (work_at ca ia p da) ta) three
    (subst (λ (x : Outgoing). IsRun ending words (work_at cb ib ob db) tb (work_at ca ia x da) ta) four run)))

-- ---- the journal that was opened

-- a configuration that was accepted was left where memory was wanting behind it
accepts_leaves : (before : Incoming) (tables : PolicyTables) (after : Incoming) → Accepts before tables after → Leaves before after
accepts_leaves before tables after a = record { text = a.text; gave = a.gave; bounded = omega (arith, a.policy.size); faults = a.faults }

-- a connection whose journal wasn't opened
pub unopened_run : (ending : Ending) (words : List (List ℕ)) (before after : Incoming) (tables : PolicyTables) (ends : Ends) (db da : DiskEnd)
    (tells : List ℤ → Type 0) → IsAnswerWords words → Accepts before tables after → IsUnopened ending db da
    → IsRun ending words (record { config = before; ends = ends; disk = db }) tells (record { config = after; ends = ends; disk = da }) tells
unopened_run Unstarted words before after tables ends db da tells are accepts same =
    inr (record {
      words_are = are;
      config = accepts_leaves before tables after accepts;
      ends = refl;
      disk = same;
      clocked = unasked tells;
    })
unopened_run (Unopened fault) words before after tables ends db da tells are accepts refused = record {
  reaches = inl (are, (tables, accepts));
  ends = refl;
  disk = refused;
  clocked = unasked tells;
}
unopened_run WordsRefused words before after tables ends db da tells are accepts never = absurd never
unopened_run (Shown result) words before after tables ends db da tells are accepts never = absurd never
unopened_run ConfigFault words before after tables ends db da tells are accepts never = absurd never
unopened_run (ConfigRefused fault) words before after tables ends db da tells are accepts never = absurd never
unopened_run (Counted result) words before after tables ends db da tells are accepts never = absurd never
unopened_run (Served ended) words before after tables ends db da tells are accepts never = absurd never
unopened_run (Loaded ending) words before after tables ends db da tells are accepts never = absurd never
unopened_run (DoorsServed ending) words before after tables ends db da tells are accepts never = absurd never
unopened_run (Uploaded ending) words before after tables ends db da tells are accepts never = absurd never

-- a count or a workload whose journal wasn't opened
pub unopened_here : (ending : Ending) (words : List (List ℕ)) (config : Incoming) (ends : Ends) (db da : DiskEnd) (tells : List ℤ → Type 0)
    → IsCheckWords words ⊎ IsWorkloadWords words → IsUnopened ending db da
    → IsRun ending words (record { config = config; ends = ends; disk = db }) tells (record { config = config; ends = ends; disk = da }) tells
unopened_here Unstarted words config ends db da tells are same =
    inl (ap (λ (d : DiskEnd). record { config = config; ends = ends; disk = d }) same, unasked tells)
unopened_here (Unopened fault) words config ends db da tells are refused = record {
  reaches = inr (are, refl);
  ends = refl;
  disk = refused;
  clocked = unasked tells;
}
unopened_here WordsRefused words config ends db da tells are never = absurd never
unopened_here (Shown result) words config ends db da tells are never = absurd never
unopened_here ConfigFault words config ends db da tells are never = absurd never
unopened_here (ConfigRefused fault) words config ends db da tells are never = absurd never
unopened_here (Counted result) words config ends db da tells are never = absurd never
unopened_here (Served ended) words config ends db da tells are never = absurd never
unopened_here (Loaded ending) words config ends db da tells are never = absurd never
unopened_here (DoorsServed ending) words config ends db da tells are never = absurd never
unopened_here (Uploaded ending) words config ends db da tells are never = absurd never

-- a journal that was counted
pub counted_run : {D : Type 0} (told : D → Option Told) (faults : D → ℕ) (words : List (List ℕ)) (config : Incoming) (before after : Ends)
    (disk : DiskEnd) (w : ServiceWorld) (journal : Journal D) (left : D) (tells : List ℤ → Type 0) (line : List ℕ) (counts : Counts) (end : ℕ)
    (result : Result (Unit {0}) WriteEnd) → IsCheckWords words → (book : OpensBook told Plays disk w journal (disk_end told faults (disk_of journal)))
    → left ≡ disk_of journal → counts ≡ counts_of w → end ≡ end_of journal → line ≡ counts_text counts (end - 8)
    → ShowsText line before result after
    → CountsJournal result words (record { config = config; ends = before; disk = disk }) tells
    (record { config = config; ends = after; disk = disk_end told faults left }) tells
counted_run {D} told faults words config before after disk w journal left tells line counts end result are book same counts_are end_is line_is shows =
    let bytes : end - 8 ≡ length (records book.commands) = omega (arith, end_is, record_bytes told w journal book.commands book.stands) in
    let text : line ≡ world_text w (length (records book.commands)) =
    line_is ∙ (ap (λ (c : Counts). counts_text c (end - 8)) counts_are ∙ ap (counts_text (counts_of w)) bytes) in
    subst (λ (d : D). CountsJournal result words (record { config = config; ends = before; disk = disk }) tells
    (record { config = config; ends = after; disk = disk_end told faults d }) tells) (sym same)
    (record {
      words_are = are;
      config = refl;
      world = w;
      opens = book.opens;
      commands = book.commands;
      leaves = settled_reads told Plays empty_service w journal book.commands book.stands book.settled;
      ends = subst (λ (t : List ℕ). ShowsText t before result after) text shows;
      clocked = unasked tells;
    })

-- a line that isn't put together is the line of its ending
pub fixed_is : (ending : Ending) → ((fault : OpenFault) → ending ≢ Unopened fault) → ((upload : SinkEnding) → ending ≢ Uploaded upload)
    → fixed_line ending ≡ line_of ending
fixed_is WordsRefused other also = refl
fixed_is (Shown result) other also = refl
fixed_is ConfigFault other also = refl
fixed_is (ConfigRefused fault) other also = refl
fixed_is Unstarted other also = refl
fixed_is (Unopened fault) other also = absurd (other fault refl)
fixed_is (Counted result) other also = refl
fixed_is (Served ended) other also = refl
fixed_is (DoorsServed ending) other also = refl
fixed_is (Loaded ending) other also = refl
fixed_is (Uploaded upload) other also = absurd (also upload refl)
