-- What the exit status says of a run whose words ask for an upload or for a service.
use Rattle.std.proofs.Common.{◌≡◌, ◌≢◌, ℕ, ℤ, ◌≤◌, ◌⊎◌, inl, inr, List, [], Some, Err, refl, sym, ap, ◌∙◌, subst, arith}
use Rattle.fault_counts.specs.Causes.{Rose}
use Rattle.outside.specs.Ends.{Ends, Incoming, Outgoing}
use Rattle.outside.proofs.Taken.{gave_nothing}
use Rattle.dialers.specs.Dials.{Dials}
use Rattle.result_journal.specs.declared.opening.OpenFault.{OpenFault}
use Rattle.result_journal.specs.declared.opening.OpenFault.TheVariants as openings
use Rattle.program_words.specs.Grammar.{Says}
use Rattle.program_words.specs.declared.command.Command.{Command}
use Rattle.program_words.specs.declared.command.Command.TheVariants as commands
use Rattle.program_words.specs.declared.sink_words.SinkWords.{SinkWords}
use Rattle.program_words.specs.declared.serve_words.ServeWords.{ServeWords}
use Rattle.program_words.proofs.Answering.{one_command}
use Rattle.serve_runs.specs.Endings.{serve_status}
use Rattle.serve_runs.specs.Statuses.{DoorFailed, NoneFailed, ServeSays}
use Rattle.serve_runs.specs.declared.ending.ServeEnding.{ServeEnding}
use Rattle.serve_runs.proofs.StatusLaws.{same_doors, serve_says}
use Rattle.sink_runs.specs.Runs.{Sending}
use Rattle.sink_runs.specs.Statuses.{SinkSays}
use Rattle.sink_runs.specs.declared.ending.SinkEnd.TheVariants as sink_ends
use Rattle.sink_runs.specs.declared.ending.SinkEnding.{SinkEnding}
use Rattle.sink_runs.specs.declared.ending.SinkEnding.TheVariants as sink_endings
use Rattle.sink_runs.proofs.StatusLaws.{sink_says}
use Rattle.policy_tables.specs.declared.tables.PolicyTables.{PolicyTables}
use Rattle.rdb_program.specs.Causes.{opening_row}
use Rattle.rdb_program.specs.Configured.{Accepts}
use Rattle.rdb_program.specs.Run.{DoesHere, IsNoService, IsReported, IsRun, Outside, ReachesDisk, RefusesDisk, ServesService, StopsService, Telling, Work, line_of, premises, refusal_line, sending, status_of}
use Rattle.rdb_program.specs.Statuses.{ConfigSays, HasFailed, IsJournalRefused, IsServiceStatus, ServiceSays}
use Rattle.rdb_program.specs.Words.{AskForText, IsAnswerWords, IsCheckWords, IsServeWords, IsWorkloadWords, SayNothing}
use Rattle.rdb_program.specs.declared.ending.Ending.{Ending}
use Rattle.rdb_program.specs.declared.ending.Ending.TheVariants.{WordsRefused, Shown, ConfigFault, ConfigRefused, Unstarted, Unopened, Counted, Served, DoorsServed, Loaded, Uploaded}
use Rattle.rdb_program.proofs.ConfigLaws.{accepted_told, refused_told}
use Rattle.rdb_program.proofs.RunLaws.{config_failed, config_left, config_refused, config_served, opening_else, opening_range, opening_rose}

-- ---- the words of another run

-- They say nothing, or weren't read, or say another command.
pub data Other (words : List (List ℕ)) (status : ℕ) (before after : Work) : Type 0 where
  nothing : SayNothing words → Other words status before after
  idle : status ≡ 7 → after ≡ before → Other words status before after
  commanded : (c : Command) → Says words c → ((s : SinkWords) → c ≢ commands.Sink s) → ((s : ServeWords) → c ≢ commands.Serve s)
      → Other words status before after

by_answer : (words : List (List ℕ)) (status : ℕ) (before after : Work) → IsAnswerWords words → Other words status before after
by_answer words status before after are = commanded (commands.Answer are.0 are.1) are.2 (λ s e. cc) (λ s e. cc)

by_check : (words : List (List ℕ)) (status : ℕ) (before after : Work) → IsCheckWords words → Other words status before after
by_check words status before after are = commanded (commands.Check are.0) are.1 (λ s e. cc) (λ s e. cc)

by_load : (words : List (List ℕ)) (status : ℕ) (before after : Work) → IsWorkloadWords words → Other words status before after
by_load words status before after are = commanded (commands.Workload are.0) are.1 (λ s e. cc) (λ s e. cc)

by_text : (words : List (List ℕ)) (status : ℕ) (before after : Work) (text : List ℕ) → AskForText words text → Other words status before after
by_text words status before after text (inl help) = commanded commands.Help help.0 (λ s e. cc) (λ s e. cc)
by_text words status before after text (inr version) = commanded commands.Version version.0 (λ s e. cc) (λ s e. cc)

pub other_run : (ending : Ending) (words : List (List ℕ)) (before after : Work) (tb ta : List ℤ → Type 0) → IsRun ending words before tb after ta
    → Other words (status_of ending) before after
other_run WordsRefused words before after tb ta run = nothing run.0
other_run (Shown result) words before after tb ta run = by_text words (status_of (Shown result)) before after run.text run.asked
other_run ConfigFault words before after tb ta run = by_answer words 4 before after run.words_are
other_run (ConfigRefused fault) words before after tb ta run = by_answer words 2 before after run.words_are
other_run Unstarted words before after tb ta (inl run) = idle refl run.0
other_run Unstarted words before after tb ta (inr run) = by_answer words 7 before after run.words_are
other_run (Unopened fault) words before after tb ta run = by_reach run.reaches
  where
    by_reach : ReachesDisk words before.config after.config → Other words (opening_row fault).status before after
    by_reach (inl answer) = by_answer words (opening_row fault).status before after answer.0
    by_reach (inr here) = elim here.0 [
      | inl check ↦ by_check words (opening_row fault).status before after check
      | inr load ↦ by_load words (opening_row fault).status before after load
    ]
other_run (Counted result) words before after tb ta run = by_check words (status_of (Counted result)) before after run.words_are
other_run (Served ended) words before after tb ta run = by_answer words (status_of (Served ended)) before after run.words_are
other_run (Loaded ending) words before after tb ta run = by_load words (status_of (Loaded ending)) before after (run.asked, run.words_are)
other_run (DoorsServed ending) words before after tb ta run = absurd run
other_run (Uploaded ending) words before after tb ta run = absurd run

-- ---- an upload

-- a run that ended before its words were read
upload_idle : {X : Type 0} (ends : X → Ends) (sink : SinkWords) (before after : Work) (dials now : Dials X) → after ≡ before → now ≡ dials
    → SinkSays ends sink 7 (sending before dials) (sending after now) before.ends.outgoing after.ends.outgoing
upload_idle {X} ends sink before after dials now same same_dials =
    subst (λ (w : Work). SinkSays ends sink 7 (sending before dials) (sending w now) before.ends.outgoing w.ends.outgoing) (sym same)
    (subst (λ (d : Dials X). SinkSays ends sink 7 (sending before dials) (sending before d) before.ends.outgoing before.ends.outgoing) (sym same_dials)
    (sink_says ends sink (Err sink_ends.Memory) (sink_endings.Stopped sink_ends.Memory) (sending before dials) (sending before dials)
    before.ends.outgoing before.ends.outgoing
    (record {
      config = record { text = []; gave = gave_nothing before.config.left; bounded = omega arith; faults = refl };
      input = record { text = []; gave = gave_nothing before.ends.incoming.left; bounded = omega arith; faults = refl };
      dials = refl;
    })
    (refl, refl)))

pub upload_other : {X : Type 0} (ends : X → Ends) (words : List (List ℕ)) (status : ℕ) (sink : SinkWords) (before after : Work) (dials now : Dials X)
    → Other words status before after → now ≡ dials → Says words (commands.Sink sink)
    → SinkSays ends sink status (sending before dials) (sending after now) before.ends.outgoing after.ends.outgoing
upload_other ends words status sink before after dials now (nothing none) same are = absurd (none (commands.Sink sink) are)
upload_other ends words status sink before after dials now (idle seven unchanged) same are =
    subst (λ (s : ℕ). SinkSays ends sink s (sending before dials) (sending after now) before.ends.outgoing after.ends.outgoing) (sym seven)
    (upload_idle ends sink before after dials now unchanged same)
upload_other ends words status sink before after dials now (commanded c says no_sink no_serve) same are =
    absurd (no_sink sink (one_command words c (commands.Sink sink) says are))

-- the words say one upload
pub upload_same : {X : Type 0} (ends : X → Ends) (words : List (List ℕ)) (status : ℕ) (sink other : SinkWords) (before after : Sending X)
    (out now : Outgoing) → Says words (commands.Sink sink) → Says words (commands.Sink other) → SinkSays ends sink status before after out now
    → SinkSays ends other status before after out now
upload_same ends words status sink other before after out now are also says =
    let e = one_command words (commands.Sink sink) (commands.Sink other) are also in
    let same : sink ≡ other = cc in
    subst (λ (s : SinkWords). SinkSays ends s status before after out now) same says

pub sink_serve_apart : (words : List (List ℕ)) (sink : SinkWords) → Says words (commands.Sink sink) → IsServeWords words → ⊥
sink_serve_apart words sink are serve = let e = one_command words (commands.Sink sink) (commands.Serve serve.0) are serve.1 in cc

-- ---- a service that asked no door

-- What is so of it.
record IsIdleService {A L : Type 0} (telling : Telling A L) (status : ℕ) (before : Outside) (doors : List A) (after : Outside) (now : List A) : Type 0 where
  known : IsServiceStatus status
  ends : after.work.ends ≡ before.work.ends
  doors_are : now ≡ doors
  not_done : status ≢ 0
  not_stalled : status ≢ 9
  config : (text : List ℕ) → before.work.config.left ≡ Some text → ConfigSays status (Unit {0}) text before after
  disk : status ≡ 2 → after.work.disk ≡ before.work.disk
  journal : status ≡ 3 → IsJournalRefused before after
  failed : status ≡ 4 → HasFailed before.work after.work
  kept : status ≢ 4 → after.work.config.faults ≡ before.work.config.faults

idle_service : {A L : Type 0} (telling : Telling A L) (status : ℕ) (before : Outside) (doors : List A) (after : Outside) (now : List A)
    → IsIdleService telling status before doors after now → ServiceSays telling status before doors after now
idle_service {A} telling status before doors after now s = record {
  known = s.known;
  unread = ap (λ (e : Ends). e.incoming) s.ends;
  done = λ is. absurd (s.not_done is);
  config = s.config;
  unbegun = λ is. record { ends = s.ends; disk = s.disk is; doors = s.doors_are };
  journal = s.journal;
  unopened = λ is. (s.ends, s.doors_are);
  failed = λ is. inl (s.failed is);
  stalled = λ is. absurd (s.not_stalled is);
  no_config_fault = s.kept;
  no_write_fault = λ n4. ap (λ (e : Ends). e.outgoing.faults) s.ends;
  no_door_fault = λ n4. subst (λ (list : List A). NoneFailed telling.tells doors list) (sym s.doors_are) (same_doors telling.tells doors);
  no_stall = λ n4 n9. ap (λ (e : Ends). e.outgoing.stalls) s.ends;
}

-- memory was wanting
service_left : {A L : Type 0} (telling : Telling A L) (before : Outside) (doors : List A) (after : Outside) (now : List A)
    → after.work.ends ≡ before.work.ends → now ≡ doors → after.work.config.faults ≡ before.work.config.faults
    → ServiceSays telling 7 before doors after now
service_left telling before doors after now ends doors_are kept = idle_service telling 7 before doors after now (record {
  known = inr (inr (inr (inr (inl refl))));
  ends = ends;
  doors_are = doors_are;
  not_done = λ e. omega (arith, e);
  not_stalled = λ e. omega (arith, e);
  config = λ text told. config_left (Unit {0}) text before after;
  disk = λ is. absurd (omega (arith, is));
  journal = λ is. absurd (omega (arith, is));
  failed = λ is. absurd (omega (arith, is));
  kept = λ n4. kept;
})

opening_known : (fault : OpenFault) → IsServiceStatus (opening_row fault).status
opening_known (openings.NotAJournal at) = inr (inr (inl refl))
opening_known (openings.Damaged at byte) = inr (inr (inl refl))
opening_known (openings.NewerVersion found) = inr (inr (inl refl))
opening_known openings.DiskFailed = inr (inr (inr (inl refl)))
opening_known openings.Memory = inr (inr (inr (inr (inl refl))))

-- the journal wasn't opened
service_unopened : {A L : Type 0} (telling : Telling A L) (before : Outside) (doors : List A) (after : Outside) (now : List A) (fault : OpenFault)
    (tables : PolicyTables) → Accepts before.work.config tables after.work.config → RefusesDisk before.work.disk fault after.work.disk
    → after.work.ends ≡ before.work.ends → now ≡ doors → IsReported (opening_row fault).line before.errors after.errors
    → ServiceSays telling (opening_row fault).status before doors after now
service_unopened telling before doors after now fault tables accepts refuses ends doors_are line =
    let status = (opening_row fault).status in
    let range = opening_range fault in
    let n2 : status ≢ 2 = λ e. omega (arith, e, range.0) in
    let rose = λ (is : status ≡ 4). opening_rose fault before.work.disk.faults after.work.disk.faults refuses.cause is in
    idle_service telling status before doors after now (record {
      known = opening_known fault;
      ends = ends;
      doors_are = doors_are;
      not_done = λ e. omega (arith, e, range.0);
      not_stalled = λ e. omega (arith, e, range.1);
      config = λ text told.
          config_served status (Unit {0}) text before after tables n2 (accepted_told before.work.config tables after.work.config text accepts told);
      disk = λ is. absurd (n2 is);
      journal = λ is. record { fault = fault; shown = refuses.shown; refused = is; line = line };
      failed = λ is. inr (inl (record { rose = rose is; ends = ends }));
      kept = λ n4. accepts.faults;
    })

neither : {B C : Type 0} → (⊥ × B) ⊎ (C × ⊥) → ⊥
neither (inl one) = one.0
neither (inr other) = other.1

service_stopped : {A L : Type 0} (telling : Telling A L) (ending : Ending) (words : List (List ℕ)) (before after : Outside) (tb ta : List ℤ → Type 0)
    (doors now : List A) → StopsService ending words before.work tb after.work ta → now ≡ doors
    → IsReported (line_of ending) before.errors after.errors → ServiceSays telling (status_of ending) before doors after now
service_stopped telling ConfigFault words before after tb ta doors now stop same line = by_why stop.why
  where
    by_why : IsNoService ConfigFault before.work after.work → ServiceSays telling 4 before doors after now
    by_why (inr other) = absurd other.1
    by_why (inl why) = idle_service telling 4 before doors after now (record {
      known = inr (inr (inr (inl refl)));
      ends = stop.ends;
      doors_are = same;
      not_done = λ e. omega (arith, e);
      not_stalled = λ e. omega (arith, e);
      config = λ text told. config_failed (Unit {0}) text before after why.0.faults;
      disk = λ is. absurd (omega (arith, is));
      journal = λ is. absurd (omega (arith, is));
      failed = λ is. inl (record { rose = why.0.faults; ends = stop.ends });
      kept = λ n4. absurd (n4 refl);
    })
service_stopped telling (ConfigRefused fault) words before after tb ta doors now stop same line = by_why stop.why
  where
    by_why : IsNoService (ConfigRefused fault) before.work after.work → ServiceSays telling 2 before doors after now
    by_why (inr other) = absurd other.1
    by_why (inl why) = idle_service telling 2 before doors after now (record {
      known = inr (inl refl);
      ends = stop.ends;
      doors_are = same;
      not_done = λ e. omega (arith, e);
      not_stalled = λ e. omega (arith, e);
      config = λ text told.
          let whole = refused_told before.work.config fault after.work.config text why.0 told in
          config_refused (Unit {0}) text before after whole.0 whole.1
          (subst (λ (l : List ℕ). IsReported l before.errors after.errors) whole.2 line);
      disk = λ is. why.1;
      journal = λ is. absurd (omega (arith, is));
      failed = λ is. absurd (omega (arith, is));
      kept = λ n4. why.0.faults;
    })
service_stopped telling Unstarted words before after tb ta doors now stop same line = by_why stop.why
  where
    by_why : IsNoService Unstarted before.work after.work → ServiceSays telling 7 before doors after now
    by_why (inl why) = service_left telling before doors after now stop.ends same why.0.faults
    by_why (inr why) = service_left telling before doors after now stop.ends same why.0.1.faults
service_stopped telling (Unopened fault) words before after tb ta doors now stop same line = by_why stop.why
  where
    by_why : IsNoService (Unopened fault) before.work after.work → ServiceSays telling (opening_row fault).status before doors after now
    by_why (inl other) = absurd other.0
    by_why (inr why) = service_unopened telling before doors after now fault why.0.0 why.0.1 why.1 stop.ends same line
service_stopped telling WordsRefused words before after tb ta doors now stop same line = absurd (neither stop.why)
service_stopped telling (Shown result) words before after tb ta doors now stop same line = absurd (neither stop.why)
service_stopped telling (Counted result) words before after tb ta doors now stop same line = absurd (neither stop.why)
service_stopped telling (Served ended) words before after tb ta doors now stop same line = absurd (neither stop.why)
service_stopped telling (Loaded ending) words before after tb ta doors now stop same line = absurd (neither stop.why)
service_stopped telling (DoorsServed ending) words before after tb ta doors now stop same line = absurd (neither stop.why)
service_stopped telling (Uploaded ending) words before after tb ta doors now stop same line = absurd (neither stop.why)

pub service_other : {A L : Type 0} (telling : Telling A L) (words : List (List ℕ)) (status : ℕ) (before after : Outside) (doors now : List A)
    → Other words status before.work after.work → now ≡ doors → IsServeWords words → ServiceSays telling status before doors after now
service_other telling words status before after doors now (nothing none) same are = absurd (none (commands.Serve are.0) are.1)
service_other telling words status before after doors now (idle seven unchanged) same are =
    subst (λ (s : ℕ). ServiceSays telling s before doors after now) (sym seven)
    (service_left telling before doors after now (ap (λ (w : Work). w.ends) unchanged) same (ap (λ (w : Work). w.config.faults) unchanged))
service_other telling words status before after doors now (commanded c says no_sink no_serve) same are =
    absurd (no_serve are.0 (one_command words c (commands.Serve are.0) says are.1))

-- ---- a service whose doors were served

service_served : {A L : Type 0} (telling : Telling A L) (ending : ServeEnding) (words : List (List ℕ)) (before after : Outside) (tb ta : List ℤ → Type 0)
    (doors now : List A) → ServesService telling ending words before.work tb doors after.work ta now
    → ServiceSays telling (serve_status ending) before doors after now
service_served {A} {L} telling ending words before after tb ta doors now s =
    by_says (serve_says telling.tells telling.ends telling.holds ending s.tables s.opened tb (premises (record before.work { disk = s.disk }) doors)
    ta (premises after.work now) s.serves)
  where
    by_known : (status : ℕ) → (status ≡ 0) ⊎ ((status ≡ 4) ⊎ ((status ≡ 7) ⊎ (status ≡ 9))) → IsServiceStatus status
    by_known status (inl zero_is) = inl zero_is
    by_known status (inr (inl four)) = inr (inr (inr (inl four)))
    by_known status (inr (inr (inl seven))) = inr (inr (inr (inr (inl seven))))
    by_known status (inr (inr (inr nine))) = inr (inr (inr (inr (inr nine))))

    no_two : (status : ℕ) → (status ≡ 0) ⊎ ((status ≡ 4) ⊎ ((status ≡ 7) ⊎ (status ≡ 9))) → status ≢ 2
    no_two status (inl zero_is) e = omega (arith, zero_is, e)
    no_two status (inr (inl four)) e = omega (arith, four, e)
    no_two status (inr (inr (inl seven))) e = omega (arith, seven, e)
    no_two status (inr (inr (inr nine))) e = omega (arith, nine, e)

    no_three : (status : ℕ) → (status ≡ 0) ⊎ ((status ≡ 4) ⊎ ((status ≡ 7) ⊎ (status ≡ 9))) → status ≢ 3
    no_three status (inl zero_is) e = omega (arith, zero_is, e)
    no_three status (inr (inl four)) e = omega (arith, four, e)
    no_three status (inr (inr (inl seven))) e = omega (arith, seven, e)
    no_three status (inr (inr (inr nine))) e = omega (arith, nine, e)

    wider : DoorFailed telling.tells doors now ⊎ Rose before.work.ends.outgoing.faults after.work.ends.outgoing.faults
        → HasFailed before.work after.work ⊎ DoorFailed telling.tells doors now
    wider (inl door) = inr door
    wider (inr rose) = inl (inr (inr (inr rose)))

    by_says : ServeSays telling.tells telling.ends telling.holds (serve_status ending) (premises (record before.work { disk = s.disk }) doors) (premises after.work now)
        → ServiceSays telling (serve_status ending) before doors after now
    by_says v = record {
      known = by_known (serve_status ending) v.known;
      unread = s.unread;
      done = λ is.
          let x = v.done is in
          record {
            tables = s.tables;
            config = s.config;
            opened = s.opened;
            disk = s.disk;
            opens = s.opens;
            served = record { log = x.log; sum = x.sum; serves = x.serves; at_end = x.at_end; told = x.told };
          };
      config = λ text told.
          config_served (serve_status ending) (Unit {0}) text before after s.tables (no_two (serve_status ending) v.known)
          (accepted_told before.work.config s.tables after.work.config text s.config told);
      unbegun = λ is. absurd (no_two (serve_status ending) v.known is);
      journal = λ is. absurd (no_three (serve_status ending) v.known is);
      unopened = λ is. absurd (no_three (serve_status ending) v.known is);
      failed = λ is. wider (v.failed is);
      stalled = v.stalled;
      no_config_fault = λ n4. s.config.faults;
      no_write_fault = v.no_write_fault;
      no_door_fault = v.no_door_fault;
      no_stall = v.no_stall;
    }

-- ---- a run whose words ask for a service

begun_service : {A L : Type 0} (telling : Telling A L) (ending : Ending) (words : List (List ℕ)) (before after : Outside) (tb ta : List ℤ → Type 0)
    (doors now : List A) → IsRun ending words before.work tb after.work ta ⊎ StopsService ending words before.work tb after.work ta → now ≡ doors
    → IsServeWords words → IsReported (line_of ending) before.errors after.errors → ServiceSays telling (status_of ending) before doors after now
begun_service telling ending words before after tb ta doors now (inl run) same are line =
    service_other telling words (status_of ending) before after doors now (other_run ending words before.work after.work tb ta run) same are
begun_service telling ending words before after tb ta doors now (inr stop) same are line =
    service_stopped telling ending words before after tb ta doors now stop same line

pub service_here : {A L : Type 0} (telling : Telling A L) (ending : Ending) (words : List (List ℕ)) (before after : Outside) (tb ta : List ℤ → Type 0)
    (doors now : List A) → DoesHere telling ending words before.work tb doors after.work ta now → IsServeWords words
    → IsReported (line_of ending) before.errors after.errors → ServiceSays telling (status_of ending) before doors after now
service_here telling (DoorsServed ending) words before after tb ta doors now here are line = service_served telling ending words before after tb ta doors now here
service_here telling WordsRefused words before after tb ta doors now here are line = begun_service telling WordsRefused words before after tb ta doors now here.0 here.1 are line
service_here telling (Shown result) words before after tb ta doors now here are line = begun_service telling (Shown result) words before after tb ta doors now here.0 here.1 are line
service_here telling ConfigFault words before after tb ta doors now here are line = begun_service telling ConfigFault words before after tb ta doors now here.0 here.1 are line
service_here telling (ConfigRefused fault) words before after tb ta doors now here are line = begun_service telling (ConfigRefused fault) words before after tb ta doors now here.0 here.1 are line
service_here telling Unstarted words before after tb ta doors now here are line = begun_service telling Unstarted words before after tb ta doors now here.0 here.1 are line
service_here telling (Unopened fault) words before after tb ta doors now here are line = begun_service telling (Unopened fault) words before after tb ta doors now here.0 here.1 are line
service_here telling (Counted result) words before after tb ta doors now here are line = begun_service telling (Counted result) words before after tb ta doors now here.0 here.1 are line
service_here telling (Served ended) words before after tb ta doors now here are line = begun_service telling (Served ended) words before after tb ta doors now here.0 here.1 are line
service_here telling (Loaded ending) words before after tb ta doors now here are line = begun_service telling (Loaded ending) words before after tb ta doors now here.0 here.1 are line
service_here telling (Uploaded ending) words before after tb ta doors now here are line = begun_service telling (Uploaded ending) words before after tb ta doors now here.0 here.1 are line
