-- The whole run of the program: one that serves doors.
use Rattle.std.proofs.Common.{◌≡◌, ◌≢◌, ℕ, ℤ, true, false, ◌⊎◌, inl, inr, List, Option, Result, Ok, Err, refl, sym, subst, arith}
use Rattle.disks.specs.Moments.{Told}
use Rattle.outside.specs.Ends.{Ends, Incoming, Outgoing}
use Rattle.outside.specs.declared.whole.WriteEnd.{WriteEnd}
use Rattle.outside.specs.declared.whole.WriteEnd.TheVariants as write_ends
use Rattle.serve_runs.specs.Endings.{serve_status, write_status}
use Rattle.serve_runs.specs.declared.ending.ServeEnding.{ServeEnding}
use Rattle.serve_runs.specs.declared.ending.ServeEnding.TheVariants as endings
use Rattle.sink_runs.specs.declared.ending.SinkEnding.{SinkEnding}
use Rattle.rdb_program.specs.Run.{DiskEnd, Work, Outside, outside, disk_end, IsReported, status_of, line_of, IsRun, IsNoService, StopsService, DoesHere, Does, Links, ProgramRun, Telling}
use Rattle.rdb_program.specs.Statuses.{ExitSays}
use Rattle.rdb_program.specs.Words.{SayNothing, IsServeWords}
use Rattle.rdb_program.specs.declared.ending.Ending.{Ending}
use Rattle.rdb_program.specs.declared.ending.Ending.TheVariants.{WordsRefused, Shown, ConfigFault, ConfigRefused, Unstarted, Unopened, Counted, Served, DoorsServed, Loaded, Uploaded}
use Rattle.rdb_program.proofs.ExitLaws.{service_here, sink_serve_apart}
use Rattle.rdb_program.proofs.RunLaws.{says, work_at, opening_range}

-- ---- an ending that no service has

neither : {B C : Type 0} → (⊥ × B) ⊎ (C × ⊥) → ⊥
neither (inl one) = one.0
neither (inr other) = other.1

no_upload : (ending : SinkEnding) (words : List (List ℕ)) (before after : Work) (tb ta : List ℤ → Type 0)
    → IsRun (Uploaded ending) words before tb after ta ⊎ StopsService (Uploaded ending) words before tb after ta → ⊥
no_upload ending words before after tb ta (inl run) = run
no_upload ending words before after tb ta (inr stop) = neither stop.why

does_service : {A L X : Type 0} (telling : Telling A L) (link_ends : X → Ends) (ending : Ending) (words : List (List ℕ)) (before after : Work)
    (tb ta : List ℤ → Type 0) (links now : Links A X) → DoesHere telling ending words before tb links.doors after ta now.doors
    → now.dials ≡ links.dials → Does telling link_ends ending words before tb links after ta now
does_service telling link_ends WordsRefused words before after tb ta links now here same = (here, same)
does_service telling link_ends (Shown result) words before after tb ta links now here same = (here, same)
does_service telling link_ends ConfigFault words before after tb ta links now here same = (here, same)
does_service telling link_ends (ConfigRefused fault) words before after tb ta links now here same = (here, same)
does_service telling link_ends Unstarted words before after tb ta links now here same = (here, same)
does_service telling link_ends (Unopened fault) words before after tb ta links now here same = (here, same)
does_service telling link_ends (Counted result) words before after tb ta links now here same = (here, same)
does_service telling link_ends (Served ended) words before after tb ta links now here same = (here, same)
does_service telling link_ends (Loaded ending) words before after tb ta links now here same = (here, same)
does_service telling link_ends (DoorsServed ending) words before after tb ta links now here same = (here, same)
does_service telling link_ends (Uploaded ending) words before after tb ta links now here same =
    absurd (no_upload ending words before after tb ta here.0)

-- ---- the status of a run whose words ask for a service

write_not_one : (written : Result (Unit {0}) WriteEnd) → write_status written ≢ 1
write_not_one (Ok done) e = omega (arith, e)
write_not_one (Err write_ends.WriteFault) e = omega (arith, e)
write_not_one (Err write_ends.SinkTakesNothing) e = omega (arith, e)

serve_not_one : (ending : ServeEnding) → serve_status ending ≢ 1
serve_not_one endings.Unserved e = omega (arith, e)
serve_not_one (endings.Served true written) e = omega (arith, e)
serve_not_one (endings.Served false written) e = write_not_one written e

stop_not_one : (ending : Ending) (before after : Work) → IsNoService ending before after → status_of ending ≢ 1
stop_not_one WordsRefused before after why e = neither why
stop_not_one (Shown result) before after why e = neither why
stop_not_one ConfigFault before after why e = omega (arith, e)
stop_not_one (ConfigRefused fault) before after why e = omega (arith, e)
stop_not_one Unstarted before after why e = omega (arith, e)
stop_not_one (Unopened fault) before after why e = omega (arith, e, (opening_range fault).0)
stop_not_one (Counted result) before after why e = neither why
stop_not_one (Served ended) before after why e = neither why
stop_not_one (Loaded ending) before after why e = neither why
stop_not_one (DoorsServed ending) before after why e = neither why
stop_not_one (Uploaded ending) before after why e = neither why

begun_words : (words : List (List ℕ)) (before after : Outside) (tb ta : List ℤ → Type 0) (ending : Ending)
    → IsRun ending words before.work tb after.work ta ⊎ StopsService ending words before.work tb after.work ta
    → IsReported (line_of ending) before.errors after.errors → status_of ending ≡ 1 → SayNothing words
begun_words words before after tb ta ending (inl run) line one = (says words before after tb ta ending run line).words_refused one
begun_words words before after tb ta ending (inr stop) line one = absurd (stop_not_one ending before.work after.work stop.why one)

service_words : {A L : Type 0} (telling : Telling A L) (ending : Ending) (words : List (List ℕ)) (before after : Outside) (tb ta : List ℤ → Type 0)
    (doors now : List A) → DoesHere telling ending words before.work tb doors after.work ta now
    → IsReported (line_of ending) before.errors after.errors → status_of ending ≡ 1 → SayNothing words
service_words telling WordsRefused words before after tb ta doors now here line one = begun_words words before after tb ta WordsRefused here.0 line one
service_words telling (Shown result) words before after tb ta doors now here line one = begun_words words before after tb ta (Shown result) here.0 line one
service_words telling ConfigFault words before after tb ta doors now here line one = begun_words words before after tb ta ConfigFault here.0 line one
service_words telling (ConfigRefused fault) words before after tb ta doors now here line one = begun_words words before after tb ta (ConfigRefused fault) here.0 line one
service_words telling Unstarted words before after tb ta doors now here line one = begun_words words before after tb ta Unstarted here.0 line one
service_words telling (Unopened fault) words before after tb ta doors now here line one = begun_words words before after tb ta (Unopened fault) here.0 line one
service_words telling (Counted result) words before after tb ta doors now here line one = begun_words words before after tb ta (Counted result) here.0 line one
service_words telling (Served ended) words before after tb ta doors now here line one = begun_words words before after tb ta (Served ended) here.0 line one
service_words telling (Loaded ending) words before after tb ta doors now here line one = begun_words words before after tb ta (Loaded ending) here.0 line one
service_words telling (DoorsServed ending) words before after tb ta doors now here line one = absurd (serve_not_one ending one)
service_words telling (Uploaded ending) words before after tb ta doors now here line one = begun_words words before after tb ta (Uploaded ending) here.0 line one

-- ---- the run

-- what was given back of the disk, the clock and the doors
here_at : {A L T D : Type 0} (telling : Telling A L) (tells : T → List ℤ → Type 0) (told : D → Option Told) (faults : D → ℕ) (ending : Ending)
    (words : List (List ℕ)) (before : Work) (ca input : Incoming) (oa : Outgoing) (left disk : D) (start end clock : T) (doors back now : List A)
    → disk ≡ left → clock ≡ end → now ≡ back
    → DoesHere telling ending words before (tells start) doors (work_at ca input oa (disk_end told faults left)) (tells end) back
    → DoesHere telling ending words before (tells start) doors (work_at ca input oa (disk_end told faults disk)) (tells clock) now
here_at {A} {L} {T} {D} telling tells told faults ending words before ca input oa left disk start end clock doors back now same_disk same_clock same_doors here =
    subst (λ (d : D). DoesHere telling ending words before (tells start) doors (work_at ca input oa (disk_end told faults d)) (tells clock) now) (sym same_disk)
    (subst (λ (k : T). DoesHere telling ending words before (tells start) doors (work_at ca input oa (disk_end told faults left)) (tells k) now) (sym same_clock)
    (subst (λ (x : List A). DoesHere telling ending words before (tells start) doors (work_at ca input oa (disk_end told faults left)) (tells end) x) (sym same_doors) here))

pub program_service : {A L X T D : Type 0} (telling : Telling A L) (link_ends : X → Ends) (tells : T → List ℤ → Type 0) (told : D → Option Told)
    (faults : D → ℕ) (status : ℕ) (words : List (List ℕ)) (cb ca input : Incoming) (ob oa eb ea : Outgoing) (db : DiskEnd) (left disk : D)
    (start end clock : T) (links now : Links A X) (back : List A) (ending : Ending) → status ≡ status_of ending → disk ≡ left → clock ≡ end
    → now.doors ≡ back → now.dials ≡ links.dials
    → DoesHere telling ending words (work_at cb input ob db) (tells start) links.doors (work_at ca input oa (disk_end told faults left)) (tells end) back
    → IsReported (line_of ending) eb ea
    → ProgramRun telling link_ends status words (outside cb input ob eb db) (tells start) links (outside ca input oa ea (disk_end told faults disk)) (tells clock) now
program_service telling link_ends tells told faults status words cb ca input ob oa eb ea db left disk start end clock links now back ending is same_disk same_clock same_doors same here line =
    record {
      ending = ending;
      status_is = is;
      run = does_service telling link_ends ending words (work_at cb input ob db) (work_at ca input oa (disk_end told faults disk)) (tells start) (tells clock) links now
          (here_at telling tells told faults ending words (work_at cb input ob db) ca input oa left disk start end clock links.doors back now.doors same_disk same_clock same_doors here) same;
      line = line;
    }

pub exit_service : {A L X T D : Type 0} (telling : Telling A L) (link_ends : X → Ends) (tells : T → List ℤ → Type 0) (told : D → Option Told)
    (faults : D → ℕ) (status : ℕ) (words : List (List ℕ)) (cb ca input : Incoming) (ob oa eb ea : Outgoing) (db : DiskEnd) (left disk : D)
    (start end clock : T) (links now : Links A X) (back : List A) (ending : Ending) → IsServeWords words → status ≡ status_of ending
    → disk ≡ left → clock ≡ end → now.doors ≡ back
    → DoesHere telling ending words (work_at cb input ob db) (tells start) links.doors (work_at ca input oa (disk_end told faults left)) (tells end) back
    → IsReported (line_of ending) eb ea
    → ExitSays telling link_ends status words (outside cb input ob eb db) links (outside ca input oa ea (disk_end told faults disk)) now
exit_service telling link_ends tells told faults status words cb ca input ob oa eb ea db left disk start end clock links now back ending are is same_disk same_clock same_doors here line =
    let before = outside cb input ob eb db in
    let after = outside ca input oa ea (disk_end told faults disk) in
    let whole = here_at telling tells told faults ending words (work_at cb input ob db) ca input oa left disk start end clock links.doors back now.doors same_disk same_clock same_doors here in
    subst (λ (s : ℕ). ExitSays telling link_ends s words before links after now) (sym is)
    (record {
      words_refused = service_words telling ending words before after (tells start) (tells clock) links.doors now.doors whole line;
      others = λ no_serve no_sink. absurd (no_serve are);
      upload = λ sink also. absurd (sink_serve_apart words sink also are);
      service = λ also. service_here telling ending words before after (tells start) (tells clock) links.doors now.doors whole also line;
    })
