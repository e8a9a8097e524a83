-- The whole run of the program: one that uploads a report, or another, which dials nothing.
use Rattle.std.proofs.Common.{◌≡◌, ◌≢◌, ℕ, ℤ, inl, List, [], Option, Result, Ok, Err, refl, sym, ap, subst, arith}
use Rattle.std.specs.Prelude.{IfOk}
use Rattle.disks.specs.Moments.{Told}
use Rattle.outside.specs.Ends.{Incoming, Outgoing, Ends}
use Rattle.outside.specs.declared.whole.WriteEnd.{WriteEnd}
use Rattle.outside.specs.declared.whole.WriteEnd.TheVariants as write_ends
use Rattle.program_words.specs.Grammar.{Says}
use Rattle.program_words.specs.declared.command.Command.{Command}
use Rattle.program_words.specs.declared.command.Command.TheVariants as commands
use Rattle.program_words.specs.declared.command.WordFault.{WordFault}
use Rattle.program_words.specs.declared.command.WordFault.TheVariants as word_faults
use Rattle.program_words.specs.declared.sink_words.SinkWords.{SinkWords}
use Rattle.serve_runs.specs.RecordDesk.Clocked.{IsClocked}
use Rattle.sink_runs.specs.Endings.{end_status, fault_status, sink_status, write_status, Tells}
use Rattle.sink_runs.specs.Runs.{IsSending}
use Rattle.sink_runs.specs.Statuses.{EachStatusSays}
use Rattle.sink_runs.specs.declared.ending.SinkEnd.{SinkEnd}
use Rattle.sink_runs.specs.declared.ending.SinkEnd.TheVariants as sink_ends
use Rattle.sink_runs.specs.declared.ending.SinkEnding.{SinkEnding}
use Rattle.sink_runs.specs.declared.ending.SinkEnding.TheVariants as endings
use Rattle.sink_runs.specs.SinkUploads.declared.course.Sent.{Sent}
use Rattle.sink_runs.specs.SinkUploads.declared.course.SinkFault.{SinkFault}
use Rattle.sink_runs.specs.SinkUploads.declared.course.SinkFault.TheVariants as sink_faults
use Rattle.rdb_program.specs.Run.{DiskEnd, Work, Outside, outside, disk_end, IsReported, status_of, line_of, IsRun, Does, Links, ProgramRun, Telling, sending}
use Rattle.rdb_program.specs.Statuses.{ExitSays}
use Rattle.rdb_program.specs.Words.{SayNothing, IsSaid}
use Rattle.rdb_program.specs.declared.ending.Ending.{Ending}
use Rattle.rdb_program.specs.declared.ending.Ending.TheVariants.{WordsRefused, Shown, ConfigFault, ConfigRefused, Unstarted, Unopened, Counted, Served, DoorsServed, Loaded, Uploaded}
use Rattle.rdb_program.proofs.ExitLaws.{other_run, service_other, sink_serve_apart, upload_other, upload_same}
use Rattle.rdb_program.proofs.BookLaws.{unasked}
use Rattle.rdb_program.proofs.RunLaws.{says, run_through, work_at}

-- what reading the words answered is what they say
pub is_said : (words : List (List ℕ)) (said : Result Command WordFault) → IfOk said (Says words) → (said ≡ Err word_faults.Refused → SayNothing words)
    → IsSaid words said
is_said words (Ok command) says refused = says
is_said words (Err word_faults.Refused) says refused = refused refl
is_said words (Err word_faults.Memory) says refused = tt

-- ---- a run that dialled nothing

does_other : {A L X : Type 0} (telling : Telling A L) (link_ends : X → Ends) (ending : Ending) (words : List (List ℕ)) (before after : Work)
    (tb ta : List ℤ → Type 0) (links now : Links A X) → IsRun ending words before tb after ta → now.doors ≡ links.doors → now.dials ≡ links.dials
    → Does telling link_ends ending words before tb links after ta now
does_other telling link_ends WordsRefused words before after tb ta links now run doors same = ((inl run, doors), same)
does_other telling link_ends (Shown result) words before after tb ta links now run doors same = ((inl run, doors), same)
does_other telling link_ends ConfigFault words before after tb ta links now run doors same = ((inl run, doors), same)
does_other telling link_ends (ConfigRefused fault) words before after tb ta links now run doors same = ((inl run, doors), same)
does_other telling link_ends Unstarted words before after tb ta links now run doors same = ((inl run, doors), same)
does_other telling link_ends (Unopened fault) words before after tb ta links now run doors same = ((inl run, doors), same)
does_other telling link_ends (Counted result) words before after tb ta links now run doors same = ((inl run, doors), same)
does_other telling link_ends (Served ended) words before after tb ta links now run doors same = ((inl run, doors), same)
does_other telling link_ends (Loaded ending) words before after tb ta links now run doors same = ((inl run, doors), same)
does_other telling link_ends (DoorsServed ending) words before after tb ta links now run doors same = absurd run
does_other telling link_ends (Uploaded ending) words before after tb ta links now run doors same = absurd run

-- what the link left of its ends, and what was given back of disk and clock
moved : {T D : Type 0} (tells : T → List ℤ → Type 0) (told : D → Option Told) (faults : D → ℕ) (words : List (List ℕ)) (cb ca ib i ia j : Incoming)
    (ob o oa p : Outgoing) (db : DiskEnd) (left disk : D) (start end clock : T) (ending : Ending) → disk ≡ left → clock ≡ end
    → ib ≡ i → ia ≡ j → ob ≡ o → oa ≡ p
    → IsRun ending words (work_at cb ib ob db) (tells start) (work_at ca ia oa (disk_end told faults left)) (tells end)
    → IsRun ending words (work_at cb i o db) (tells start) (work_at ca j p (disk_end told faults disk)) (tells clock)
moved {T} {D} tells told faults words cb ca ib i ia j ob o oa p db left disk start end clock ending same_disk same_clock one two three four run =
    subst (λ (d : D). IsRun ending words (work_at cb i o db) (tells start) (work_at ca j p (disk_end told faults d)) (tells clock)) (sym same_disk)
    (subst (λ (k : T). IsRun ending words (work_at cb i o db) (tells start) (work_at ca j p (disk_end told faults left)) (tells k)) (sym same_clock)
    (run_through words cb ca ib i ia j ob o oa p db (disk_end told faults left) (tells start) (tells end) ending one two three four run))

pub program_other : {A L X T D : Type 0} (telling : Telling A L) (link_ends : X → Ends) (tells : T → List ℤ → Type 0) (told : D → Option Told) (faults : D → ℕ) (status : ℕ)
    (words : List (List ℕ)) (cb ca ib i ia j : Incoming) (ob o oa p eb ea : Outgoing) (db : DiskEnd) (left disk : D) (start end clock : T)
    (links now : Links A X) (ending : Ending) → status ≡ status_of ending → disk ≡ left → clock ≡ end → now.doors ≡ links.doors → now.dials ≡ links.dials
    → ib ≡ i → ia ≡ j → ob ≡ o → oa ≡ p
    → IsRun ending words (work_at cb ib ob db) (tells start) (work_at ca ia oa (disk_end told faults left)) (tells end)
    → IsReported (line_of ending) eb ea
    → ProgramRun telling link_ends status words (outside cb i o eb db) (tells start) links (outside ca j p ea (disk_end told faults disk)) (tells clock) now
program_other telling link_ends tells told faults status words cb ca ib i ia j ob o oa p eb ea db left disk start end clock links now ending is same_disk same_clock doors same one two three four run line =
    record {
      ending = ending;
      status_is = is;
      run = does_other telling link_ends ending words (work_at cb i o db) (work_at ca j p (disk_end told faults disk)) (tells start) (tells clock) links now
          (moved tells told faults words cb ca ib i ia j ob o oa p db left disk start end clock ending same_disk same_clock one two three four run) doors same;
      line = line;
    }

pub exit_other : {A L X T D : Type 0} (telling : Telling A L) (link_ends : X → Ends) (tells : T → List ℤ → Type 0) (told : D → Option Told) (faults : D → ℕ) (status : ℕ)
    (words : List (List ℕ)) (cb ca ib i ia j : Incoming) (ob o oa p eb ea : Outgoing) (db : DiskEnd) (left disk : D) (start end clock : T)
    (links now : Links A X) (ending : Ending) → status ≡ status_of ending → disk ≡ left → clock ≡ end → now.doors ≡ links.doors → now.dials ≡ links.dials
    → ib ≡ i → ia ≡ j → ob ≡ o → oa ≡ p
    → IsRun ending words (work_at cb ib ob db) (tells start) (work_at ca ia oa (disk_end told faults left)) (tells end)
    → IsReported (line_of ending) eb ea
    → ExitSays telling link_ends status words (outside cb i o eb db) links (outside ca j p ea (disk_end told faults disk)) now
exit_other telling link_ends tells told faults status words cb ca ib i ia j ob o oa p eb ea db left disk start end clock links now ending is same_disk same_clock doors same one two three four run line =
    let before = outside cb i o eb db in
    let after = outside ca j p ea (disk_end told faults disk) in
    let whole = moved tells told faults words cb ca ib i ia j ob o oa p db left disk start end clock ending same_disk same_clock one two three four run in
    let all = says words before after (tells start) (tells clock) ending whole line in
    let other = other_run ending words before.work after.work (tells start) (tells clock) whole in
    subst (λ (s : ℕ). ExitSays telling link_ends s words before links after now) (sym is)
    (record {
      words_refused = all.words_refused;
      others = λ no_serve no_sink. all;
      upload = λ sink are. upload_other link_ends words (status_of ending) sink before.work after.work links.dials now.dials other same are;
      service = λ are. service_other telling words (status_of ending) before after links.doors now.doors other doors are;
    })

-- ---- a run that uploads a report

pub program_upload : {A L X T D : Type 0} (telling : Telling A L) (link_ends : X → Ends) (tells : T → List ℤ → Type 0) (told : D → Option Told) (faults : D → ℕ) (status : ℕ)
    (words : List (List ℕ)) (cb ca ib ia : Incoming) (ob oa eb ea : Outgoing) (disk left : D) (start clock : T) (links now : Links A X)
    (sink : SinkWords) (sent : Result Sent SinkEnd) (ending : SinkEnding) → Says words (commands.Sink sink) → status ≡ sink_status ending
    → left ≡ disk → clock ≡ start → now.doors ≡ links.doors
    → IsSending link_ends sink (record { config = cb; input = ib; dials = links.dials }) sent (record { config = ca; input = ia; dials = now.dials })
    → Tells sent ob ending oa → IsReported (line_of (Uploaded ending)) eb ea
    → ProgramRun telling link_ends status words (outside cb ib ob eb (disk_end told faults disk)) (tells start) links
    (outside ca ia oa ea (disk_end told faults left)) (tells clock) now
program_upload {A} {L} {X} {T} {D} telling link_ends tells told faults status words cb ca ib ia ob oa eb ea disk left start clock links now sink sent ending are is same_disk same_clock doors sends told_so line =
    record {
      ending = Uploaded ending;
      status_is = is;
      run = (
        record {
          sink = sink;
          words_are = are;
          sent = sent;
          sends = sends;
          tells = told_so;
          disk = ap (disk_end told faults) same_disk;
          clocked = subst (λ (k : T). IsClocked (tells start) [] (tells k)) (sym same_clock) (unasked (tells start));
        },
        doors,
      );
      line = line;
    }

write_not_one : (written : Result (Unit {0}) WriteEnd) → write_status written ≢ 1
write_not_one (Ok done) e = omega (arith, e)
write_not_one (Err write_ends.WriteFault) e = omega (arith, e)
write_not_one (Err write_ends.SinkTakesNothing) e = omega (arith, e)

fault_not_one : (fault : SinkFault) → fault_status fault ≢ 1
fault_not_one (sink_faults.GaveUp batch faults ends) e = omega (arith, e)
fault_not_one (sink_faults.Refused batch status) e = omega (arith, e)
fault_not_one (sink_faults.BadReply batch end) e = omega (arith, e)
fault_not_one sink_faults.Memory e = omega (arith, e)

end_not_one : (end : SinkEnd) → end_status end ≢ 1
end_not_one sink_ends.ConfigFault e = omega (arith, e)
end_not_one (sink_ends.ConfigRefused fault) e = omega (arith, e)
end_not_one sink_ends.InputFault e = omega (arith, e)
end_not_one (sink_ends.ReportRefused fault) e = omega (arith, e)
end_not_one sink_ends.Memory e = omega (arith, e)
end_not_one (sink_ends.Unsent fault) e = fault_not_one fault e

upload_not_one : (ending : SinkEnding) → sink_status ending ≢ 1
upload_not_one (endings.Stopped end) e = end_not_one end e
upload_not_one (endings.Told written) e = write_not_one written e

pub exit_upload : {A L X D : Type 0} (telling : Telling A L) (link_ends : X → Ends) (told : D → Option Told) (faults : D → ℕ) (status : ℕ)
    (words : List (List ℕ)) (cb ca ib ia : Incoming) (ob oa eb ea : Outgoing) (disk left : D) (links now : Links A X)
    (sink : SinkWords) (sent : Result Sent SinkEnd) (ending : SinkEnding) → Says words (commands.Sink sink) → status ≡ sink_status ending
    → EachStatusSays link_ends sink (record { config = cb; input = ib; dials = links.dials }) sent (record { config = ca; input = ia; dials = now.dials })
    → Tells sent ob ending oa
    → ExitSays telling link_ends status words (outside cb ib ob eb (disk_end told faults disk)) links (outside ca ia oa ea (disk_end told faults left)) now
exit_upload telling link_ends told faults status words cb ca ib ia ob oa eb ea disk left links now sink sent ending are is each told_so =
    let before = outside cb ib ob eb (disk_end told faults disk) in
    let after = outside ca ia oa ea (disk_end told faults left) in
    subst (λ (s : ℕ). ExitSays telling link_ends s words before links after now) (sym is)
    (record {
      words_refused = λ one. absurd (upload_not_one ending one);
      others = λ no_serve no_sink. absurd (no_sink (sink, are));
      upload = λ other also.
          upload_same link_ends words (sink_status ending) sink other (sending before.work links.dials) (sending after.work now.dials) ob oa are also
          (each ending ob oa told_so);
      service = λ serve. absurd (sink_serve_apart words sink are serve);
    })
