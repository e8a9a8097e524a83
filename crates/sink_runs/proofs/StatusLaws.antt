-- What the exit status of a run says.
use Rattle.std.proofs.Common.{◌≡◌, ◌≢◌, ℕ, ◌⊎◌, inl, inr, List, Some, Result, Ok, Err, refl, sym, ap, subst, arith}
use Rattle.fault_counts.specs.Causes.{Rose}
use Rattle.outside.specs.Ends.{Ends, Incoming, Outgoing}
use Rattle.outside.specs.Whole.{WritesWhole}
use Rattle.outside.specs.declared.whole.WriteEnd.{WriteEnd}
use Rattle.outside.specs.declared.whole.WriteEnd.TheVariants as write_ends
use Rattle.program_words.specs.declared.sink_words.SinkWords.{SinkWords}
use Rattle.sink_settings.specs.Settings.{IsFirstFault}
use Rattle.sink_settings.specs.declared.fault.SettingsFault.{SettingsFault}
use Rattle.sink_uploads.specs.declared.course.Sent.{Sent}
use Rattle.sink_uploads.specs.declared.course.SinkFault.{SinkFault}
use Rattle.sink_uploads.specs.declared.course.SinkFault.TheVariants as sink_faults
use Rattle.sink_runs.specs.Endings.{Tells, end_status, fault_status, sent_text, sink_status, write_status}
use Rattle.sink_runs.specs.Runs.{Sending, IsSending, Uploads, StopsAtConfig, StopsAtReport, LeavesEarly}
use Rattle.sink_runs.specs.Statuses.{EachStatusSays, IsSinkStatus, HasFailed, HasGivenUp, IsFaultyConfig, IsFaultyReport, IsSent, SinkSays, WasRefused}
use Rattle.sink_runs.specs.declared.ending.SinkEnd.{SinkEnd}
use Rattle.sink_runs.specs.declared.ending.SinkEnd.TheVariants as sink_ends
use Rattle.sink_runs.specs.declared.ending.SinkEnding.{SinkEnding}
use Rattle.sink_runs.specs.declared.report.ReportFault.{ReportFault}
use Rattle.sink_runs.proofs.TextLaws.{config_has, config_lacks, report_has, report_lacks}

no_two_or_five : (status : ℕ) → (status ≡ 2) ⊎ (status ≡ 5) → status ≢ 2 → status ≢ 5 → ⊥
no_two_or_five status (inl two) n2 n5 = n2 two
no_two_or_five status (inr five) n2 n5 = n5 five

-- ---- a report that was planned

planned : {L : Type 0} (ends : L → Ends) (words : SinkWords) (status : ℕ) (result : Result Sent SinkFault) (before after : Sending L) (out now : Outgoing)
    → Uploads ends words before result after → IsSinkStatus status → (status ≢ 0 → status ≢ 4 → status ≢ 9 → now ≡ out) → status ≢ 2 → status ≢ 5 → (status ≡ 0 → IsSent ends words before after out now)
    → (status ≡ 4 → HasFailed before after out now ⊎ HasGivenUp ends words before after) → (status ≡ 6 → WasRefused ends words before after)
    → (status ≡ 9 → Rose out.stalls now.stalls) → (status ≢ 4 → now.faults ≡ out.faults) → (status ≢ 9 → now.stalls ≡ out.stalls)
    → SinkSays ends words status before after out now
planned ends words status result before after out now u known untold n2 n5 done failed refused stalled kept flowed = record {
  known = known;
  done = done;
  failed = failed;
  refused = refused;
  stalled = stalled;
  config_refused = λ is. absurd (n2 is);
  config_faulty = λ text told f first fine. absurd (config_has before.config after.config u.settings text f u.config told first);
  report_refused = λ is. absurd (n5 is);
  report_faulty = λ text told f first m2 fine also.
      absurd (report_has words.format before.input after.input u.report text u.cases f u.input u.gives told first);
  undialled = λ is. absurd (no_two_or_five status is n2 n5);
  unread = λ is. absurd (n2 is);
  untold = untold;
  no_config_fault = λ n4. u.config.1.faults;
  no_read_fault = λ n4. u.input.faults;
  no_write_fault = kept;
  no_stall = flowed;
}

says_told : {L : Type 0} (ends : L → Ends) (words : SinkWords) (sent : Sent) (written : Result (Unit {0}) WriteEnd) (before after : Sending L)
    (out now : Outgoing) → Uploads ends words before (Ok sent) after → WritesWhole out (sent_text sent) written now
    → SinkSays ends words (write_status written) before after out now
says_told ends words sent (Ok done) before after out now u w =
    planned ends words 0 (Ok sent) before after out now u (inl refl) (λ n0 n4 n9. absurd (n0 refl)) (λ e. omega (arith, e)) (λ e. omega (arith, e)) (λ is. (sent, u, w.written))
    (λ is. absurd (omega (arith, is))) (λ is. absurd (omega (arith, is))) (λ is. absurd (omega (arith, is))) (λ n4. w.faults) (λ n9. w.stalls)
says_told ends words sent (Err write_ends.WriteFault) before after out now u w =
    planned ends words 4 (Ok sent) before after out now u (inr (inr (inl refl))) (λ n0 n4 n9. absurd (n4 refl)) (λ e. omega (arith, e)) (λ e. omega (arith, e)) (λ is. absurd (omega (arith, is)))
    (λ is. inl (inr (inr w.faults.1))) (λ is. absurd (omega (arith, is))) (λ is. absurd (omega (arith, is))) (λ n4. absurd (n4 refl)) (λ n9. w.stalls)
says_told ends words sent (Err write_ends.SinkTakesNothing) before after out now u w =
    planned ends words 9 (Ok sent) before after out now u (inr (inr (inr (inr (inr (inr refl)))))) (λ n0 n4 n9. absurd (n9 refl)) (λ e. omega (arith, e)) (λ e. omega (arith, e)) (λ is. absurd (omega (arith, is)))
    (λ is. absurd (omega (arith, is))) (λ is. absurd (omega (arith, is))) (λ is. w.stalls.1) (λ n4. w.faults) (λ n9. absurd (n9 refl))

says_unsent : {L : Type 0} (ends : L → Ends) (words : SinkWords) (why : SinkFault) (before after : Sending L) (out now : Outgoing)
    → Uploads ends words before (Err why) after → now ≡ out → SinkSays ends words (fault_status why) before after out now
says_unsent ends words (sink_faults.GaveUp batch faults ended) before after out now u same =
    planned ends words 4 (Err (sink_faults.GaveUp batch faults ended)) before after out now u (inr (inr (inl refl))) (λ n0 n4 n9. absurd (n4 refl)) (λ e. omega (arith, e)) (λ e. omega (arith, e))
    (λ is. absurd (omega (arith, is))) (λ is. inr (batch, faults, ended, u)) (λ is. absurd (omega (arith, is))) (λ is. absurd (omega (arith, is)))
    (λ n4. ap (λ (o : Outgoing). o.faults) same) (λ n9. ap (λ (o : Outgoing). o.stalls) same)
says_unsent ends words (sink_faults.Refused batch status) before after out now u same =
    planned ends words 6 (Err (sink_faults.Refused batch status)) before after out now u (inr (inr (inr (inr (inl refl))))) (λ n0 n4 n9. same) (λ e. omega (arith, e)) (λ e. omega (arith, e))
    (λ is. absurd (omega (arith, is))) (λ is. absurd (omega (arith, is))) (λ is. inl (batch, status, u)) (λ is. absurd (omega (arith, is)))
    (λ n4. ap (λ (o : Outgoing). o.faults) same) (λ n9. ap (λ (o : Outgoing). o.stalls) same)
says_unsent ends words (sink_faults.BadReply batch end) before after out now u same =
    planned ends words 6 (Err (sink_faults.BadReply batch end)) before after out now u (inr (inr (inr (inr (inl refl))))) (λ n0 n4 n9. same) (λ e. omega (arith, e)) (λ e. omega (arith, e))
    (λ is. absurd (omega (arith, is))) (λ is. absurd (omega (arith, is))) (λ is. inr (batch, end, u)) (λ is. absurd (omega (arith, is)))
    (λ n4. ap (λ (o : Outgoing). o.faults) same) (λ n9. ap (λ (o : Outgoing). o.stalls) same)
says_unsent ends words sink_faults.Memory before after out now u same =
    planned ends words 7 (Err sink_faults.Memory) before after out now u (inr (inr (inr (inr (inr (inl refl)))))) (λ n0 n4 n9. same) (λ e. omega (arith, e)) (λ e. omega (arith, e))
    (λ is. absurd (omega (arith, is))) (λ is. absurd (omega (arith, is))) (λ is. absurd (omega (arith, is))) (λ is. absurd (omega (arith, is)))
    (λ n4. ap (λ (o : Outgoing). o.faults) same) (λ n9. ap (λ (o : Outgoing). o.stalls) same)

-- ---- a run that ended before its plan

-- What is so of it.
record IsStopped {L : Type 0} (words : SinkWords) (status : ℕ) (before after : Sending L) : Type 0 where
  not_done : status ≢ 0
  not_refused : status ≢ 6
  not_stalled : status ≢ 9
  known : IsSinkStatus status
  failed : status ≡ 4 → (Rose before.config.faults after.config.faults × (after.input ≡ before.input)) ⊎ Rose before.input.faults after.input.faults
  unread : status ≡ 2 → after.input ≡ before.input
  config_refused : status ≡ 2 → IsFaultyConfig before.config
  config_faulty : (text : List ℕ) → before.config.left ≡ Some text → (f : SettingsFault) → IsFirstFault text f
      → ¬ Rose before.config.faults after.config.faults → (status ≡ 2) ⊎ (status ≡ 7)
  report_refused : status ≡ 5 → IsFaultyReport words before.input
  report_faulty : status ≢ 2 → ¬ Rose before.config.faults after.config.faults → ¬ Rose before.input.faults after.input.faults
      → (status ≡ 5) ⊎ (status ≡ 7)
  dials : after.dials ≡ before.dials
  config : status ≢ 4 → after.config.faults ≡ before.config.faults
  input : status ≢ 4 → after.input.faults ≡ before.input.faults

stopped : {L : Type 0} (ends : L → Ends) (words : SinkWords) (status : ℕ) (before after : Sending L) (out now : Outgoing)
    → IsStopped words status before after → now ≡ out → SinkSays ends words status before after out now
stopped ends words status before after out now s same = record {
  known = s.known;
  done = λ is. absurd (s.not_done is);
  failed = λ is. inl (wider (s.failed is));
  refused = λ is. absurd (s.not_refused is);
  stalled = λ is. absurd (s.not_stalled is);
  config_refused = s.config_refused;
  config_faulty = s.config_faulty;
  report_refused = s.report_refused;
  report_faulty = λ text told f first n2 fine also. s.report_faulty n2 fine also;
  undialled = λ is. s.dials;
  unread = s.unread;
  untold = λ n0 n4 n9. same;
  no_config_fault = s.config;
  no_read_fault = s.input;
  no_write_fault = λ n4. ap (λ (o : Outgoing). o.faults) same;
  no_stall = λ n9. ap (λ (o : Outgoing). o.stalls) same;
}
  where
    wider : (Rose before.config.faults after.config.faults × (after.input ≡ before.input)) ⊎ Rose before.input.faults after.input.faults
        → HasFailed before after out now
    wider (inl x) = inl (record { rose = x.0; input = x.1; dials = s.dials; output = same })
    wider (inr rose) = inr (inl (record { rose = rose; dials = s.dials; output = same }))

config_failed : {L : Type 0} (words : SinkWords) (before after : Sending L) → StopsAtConfig before sink_ends.ConfigFault after
    → IsStopped words 4 before after
config_failed words before after s = record {
  known = inr (inr (inl refl));
  unread = λ is. absurd (omega (arith, is));
  not_done = λ e. omega (arith, e);
  not_refused = λ e. omega (arith, e);
  not_stalled = λ e. omega (arith, e);
  failed = λ is. inl (s.config.faults, s.input);
  config_refused = λ is. absurd (omega (arith, is));
  config_faulty = λ text told f first fine. absurd (fine s.config.faults);
  report_refused = λ is. absurd (omega (arith, is));
  report_faulty = λ n2 fine also. absurd (fine s.config.faults);
  dials = s.dials;
  config = λ n4. absurd (n4 refl);
  input = λ n4. absurd (n4 refl);
}

config_wrong : {L : Type 0} (words : SinkWords) (fault : SettingsFault) (before after : Sending L) → StopsAtConfig before (sink_ends.ConfigRefused fault) after
    → IsStopped words 2 before after
config_wrong words fault before after s = record {
  known = inr (inl refl);
  unread = λ is. s.input;
  not_done = λ e. omega (arith, e);
  not_refused = λ e. omega (arith, e);
  not_stalled = λ e. omega (arith, e);
  failed = λ is. absurd (omega (arith, is));
  config_refused = λ is text told. config_lacks before.config after.config s.config.0 text fault s.config.1 s.config.2 told;
  config_faulty = λ text told f first fine. inl refl;
  report_refused = λ is. absurd (omega (arith, is));
  report_faulty = λ n2 fine also. absurd (n2 refl);
  dials = s.dials;
  config = λ n4. s.config.1.faults;
  input = λ n4. ap (λ (i : Incoming). i.faults) s.input;
}

report_failed : {L : Type 0} (words : SinkWords) (before after : Sending L) → StopsAtReport words before sink_ends.InputFault after
    → IsStopped words 4 before after
report_failed words before after s = record {
  known = inr (inr (inl refl));
  unread = λ is. absurd (omega (arith, is));
  not_done = λ e. omega (arith, e);
  not_refused = λ e. omega (arith, e);
  not_stalled = λ e. omega (arith, e);
  failed = λ is. inr s.input.faults;
  config_refused = λ is. absurd (omega (arith, is));
  config_faulty = λ text told f first fine. absurd (config_has before.config after.config s.settings text f s.config told first);
  report_refused = λ is. absurd (omega (arith, is));
  report_faulty = λ n2 fine also. absurd (also s.input.faults);
  dials = s.dials;
  config = λ n4. absurd (n4 refl);
  input = λ n4. absurd (n4 refl);
}

report_wrong : {L : Type 0} (words : SinkWords) (fault : ReportFault) (before after : Sending L)
    → StopsAtReport words before (sink_ends.ReportRefused fault) after → IsStopped words 5 before after
report_wrong words fault before after s = record {
  known = inr (inr (inr (inl refl)));
  unread = λ is. absurd (omega (arith, is));
  not_done = λ e. omega (arith, e);
  not_refused = λ e. omega (arith, e);
  not_stalled = λ e. omega (arith, e);
  failed = λ is. absurd (omega (arith, is));
  config_refused = λ is. absurd (omega (arith, is));
  config_faulty = λ text told f first fine. absurd (config_has before.config after.config s.settings text f s.config told first);
  report_refused = λ is text told. report_lacks words.format before.input after.input s.input.0 text fault s.input.1 s.input.2 told;
  report_faulty = λ n2 fine also. inl refl;
  dials = s.dials;
  config = λ n4. s.config.1.faults;
  input = λ n4. s.input.1.faults;
}

left_early : {L : Type 0} (words : SinkWords) (before after : Sending L) → LeavesEarly before after → IsStopped words 7 before after
left_early words before after s = record {
  known = inr (inr (inr (inr (inr (inl refl)))));
  unread = λ is. absurd (omega (arith, is));
  not_done = λ e. omega (arith, e);
  not_refused = λ e. omega (arith, e);
  not_stalled = λ e. omega (arith, e);
  failed = λ is. absurd (omega (arith, is));
  config_refused = λ is. absurd (omega (arith, is));
  config_faulty = λ text told f first fine. inr refl;
  report_refused = λ is. absurd (omega (arith, is));
  report_faulty = λ n2 fine also. inr refl;
  dials = s.dials;
  config = λ n4. s.config.faults;
  input = λ n4. s.input.faults;
}

-- ---- every run

ended : {L : Type 0} (ends : L → Ends) (words : SinkWords) (end : SinkEnd) (before after : Sending L) (out now : Outgoing)
    → IsSending ends words before (Err end) after → now ≡ out → SinkSays ends words (end_status end) before after out now
ended ends words sink_ends.ConfigFault before after out now s same = stopped ends words 4 before after out now (config_failed words before after s) same
ended ends words (sink_ends.ConfigRefused fault) before after out now s same =
    stopped ends words 2 before after out now (config_wrong words fault before after s) same
ended ends words sink_ends.InputFault before after out now s same = stopped ends words 4 before after out now (report_failed words before after s) same
ended ends words (sink_ends.ReportRefused fault) before after out now s same =
    stopped ends words 5 before after out now (report_wrong words fault before after s) same
ended ends words sink_ends.Memory before after out now s same = stopped ends words 7 before after out now (left_early words before after s) same
ended ends words (sink_ends.Unsent fault) before after out now s same = says_unsent ends words fault before after out now s same

pub sink_says : {L : Type 0} (ends : L → Ends) (words : SinkWords) (sent : Result Sent SinkEnd) (ending : SinkEnding) (before after : Sending L)
    (out now : Outgoing) → IsSending ends words before sent after → Tells sent out ending now
    → SinkSays ends words (sink_status ending) before after out now
sink_says ends words (Ok sent) ending before after out now s told =
    subst (λ (e : SinkEnding). SinkSays ends words (sink_status e) before after out now) (sym told.1)
    (says_told ends words sent told.0 before after out now s told.2)
sink_says ends words (Err end) ending before after out now s told =
    subst (λ (e : SinkEnding). SinkSays ends words (sink_status e) before after out now) (sym told.0)
    (ended ends words end before after out now s told.1)

pub each_status_says : {L : Type 0} (ends : L → Ends) (words : SinkWords) (sent : Result Sent SinkEnd) (before after : Sending L)
    → IsSending ends words before sent after → EachStatusSays ends words before sent after
each_status_says ends words sent before after s ending out now told = sink_says ends words sent ending before after out now s told
