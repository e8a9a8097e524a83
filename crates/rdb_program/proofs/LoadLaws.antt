-- A run of the workload over a journal that was opened.
use Rattle.std.proofs.Common.{◌≡◌, ◌≢◌, ◌⊎◌, inl, inr, ℕ, ℤ, ◌+◌, ◌-◌, ◌≤◌, Bool, true, false, List, [], ◌∷◌, ◌++◌, length, map, Option, Result, Ok, Err, refl, sym, ap, ◌∙◌, subst, arith}
use Rattle.fault_counts.specs.Causes.{Rose}
use Rattle.fault_counts.proofs.CountLaws.{rose_then_more, more_then_rose}
use Rattle.call_forms.specs.declared.forms.Standin.TheVariants.{Unavailable}
use Rattle.call_forms.specs.declared.forms.Told.{Told}
use Rattle.call_forms.specs.declared.forms.Told.TheVariants.{Standin as Instead}
use Rattle.disks.specs.Moments.{Told as DiskTold}
use Rattle.hex.specs.Hex.{decode_of}
use Rattle.journal_book.specs.Worlds.{Play}
use Rattle.journal_book.proofs.StepLaws.{settled_reads}
use Rattle.outside.specs.Ends.{Ends, Incoming}
use Rattle.outside.specs.Moments.{AreSteps}
use Rattle.workload_runs.specs.PolicyReading.Reading.{IsPolicyOf}
use Rattle.program_words.specs.Grammar.{Says}
use Rattle.program_words.specs.declared.command.Command.TheVariants.{Workload}
use Rattle.program_words.specs.declared.workload_words.WorkloadWords.{WorkloadWords}
use Rattle.result_journal.specs.Grammar.{records}
use Rattle.result_journal.specs.Journals.{disk_of, end_of, is_settled}
use Rattle.result_journal.specs.declared.journal.Journal.{Journal}
use Rattle.policy_tables.specs.declared.tables.PolicyTables.{PolicyTables}
use Rattle.serve_runs.specs.RecordDesk.RequestDemands.Settings.{Settings}
use Rattle.serve_runs.specs.ServiceMachine.ServiceEffects.Service.{ServiceWorld}
use Rattle.serve_runs.specs.ServiceCore.History.{Entry, IsTimed, Leads, Tells}
use Rattle.serve_runs.specs.RecordDesk.Standing.{HasBook, HasServed, MayStand, Rises, RoseIf, exchange_of}
use Rattle.serve_runs.specs.ServiceCore.Counting.{counts_of}
use Rattle.serve_runs.specs.ServiceCore.Service.{Service, service_of}
use Rattle.serve_runs.specs.ServiceMachine.Machines.{Plays}
use Rattle.serve_runs.proofs.RecordDesk.StandingLaws.{served_leaves}
use Rattle.tellers.specs.Exchange.{Exchange}
use Rattle.workload_runs.specs.Policies.{policy_text}
use Rattle.workload_runs.specs.WorkloadTurns.Runs.{LoadRun}
use Rattle.workload_runs.specs.WorkloadTurns.declared.stops.Stop.{Stop}
use Rattle.workload_runs.specs.WorkloadTurns.declared.stops.Stop.TheVariants as stops
use Rattle.workload_runs.specs.WorkloadTurns.declared.tally.Tally.{Tally}
use Rattle.workload_runs.specs.declared.ending.LoadEnding.{LoadEnding}
use Rattle.workload_runs.specs.declared.ending.LoadEnding.TheVariants as loads
use Rattle.workload_runs.specs.declared.line.Load.{Load}
use Rattle.workload_runs.proofs.WorkloadTurns.StopLaws.{SomeTold, none_told, run_as, unavailable_told}
use Rattle.rdb_program.specs.Loads.{ComesBy, ComesTo, first_step}
use Rattle.rdb_program.specs.Opening.{IsToldOf, OpensBook, RunsOver, load_of}
use Rattle.rdb_program.specs.Run.{DiskEnd, IsHistory, LoadsJournal, RunsLoad, TellsLoad, disk_end}
use Rattle.rdb_program.proofs.BookLaws.{record_bytes, unasked}

-- ---- what was told Unavailable

entry_told : (before later : List Entry) (e : Entry) → e.told ≡ Instead Unavailable → SomeTold Unavailable (map exchange_of (before ++ e ∷ later))
entry_told [] later e told = inl told
entry_told (x ∷ before) later e told = inr (entry_told before later e told)

may_told : (s : Settings) (first : ServiceWorld) (h : List Entry) (w next : ServiceWorld) → MayStand s first h w next → SomeTold Unavailable (map exchange_of h)
may_told s first h w next may =
    subst (λ (l : List Entry). SomeTold Unavailable (map exchange_of l)) (sym may.history_is) (entry_told may.before may.later may.entry may.told)

-- a book in whose history nothing was told Unavailable has nothing to settle
pub book_settled : {D : Type 0} (told : D → Option DiskTold) (plays : Play ServiceWorld) (s : Settings) (first : ServiceWorld) (h : List Entry)
    (w : ServiceWorld) (journal : Journal D) → HasBook told plays s first h w journal → (SomeTold Unavailable (map exchange_of h) → ⊥)
    → is_settled journal ≡ true
book_settled told plays s first h w journal book none = by_settled (is_settled journal) refl
  where
    by_settled : (b : Bool) → is_settled journal ≡ b → is_settled journal ≡ true
    by_settled true is = is
    by_settled false is =
        let next = book.stands.failed is in
        absurd (none (may_told s first h w next.0 (book.failed is next.0 next.1)))

-- ---- the count of faults

rose_least : (b : Bool) (before after : ℕ) → RoseIf b before after → before ≤ after
rose_least true before after rose = rose.0
rose_least false before after same = omega (arith, same)

rises_least : (before : ℕ) (h : List Entry) (after : ℕ) → Rises before h after → before ≤ after
rises_least before [] after same = omega (arith, same)
rises_least before (e ∷ h) after rises =
    let here = rose_least e.rose before rises.0 rises.1 in
    let later = rises_least rises.0 h after rises.2 in
    omega (arith, here, later)

rose_of : (s : Settings) (w : ServiceWorld) (e : Entry) (told : Told) (after : ServiceWorld) → told ≡ Instead Unavailable → Tells s w e told after
    → e.rose ≡ true
rose_of s w e told after is tells =
    let failed = subst (λ (t : Told). Tells s w e t after) is tells in
    failed.failed

rose_told : (s : Settings) (w : ServiceWorld) (h : List Entry) (answers : List ℤ) (end : ServiceWorld) (before after : ℕ)
    → IsTimed s w h answers end → Rises before h after → SomeTold Unavailable (map exchange_of h) → Rose before after
rose_told s w [] answers end before after timed rises told = absurd told
rose_told s w (e ∷ h) [] end before after timed rises told = absurd timed
rose_told s w (e ∷ h) (now ∷ answers) end before after timed rises (inl here) =
    let rose = subst (λ (b : Bool). RoseIf b before rises.0) (rose_of s w e e.told timed.0 here timed.1.tells) rises.1 in
    rose_then_more before rises.0 after rose.1 (rises_least rises.0 h after rises.2)
rose_told s w (e ∷ h) (now ∷ answers) end before after timed rises (inr later) =
    more_then_rose before rises.0 after (rose_least e.rose before rises.0 rises.1)
    (rose_told s timed.0 h answers end rises.0 after timed.3 rises.2 later)

-- the disk failed where something was told Unavailable
pub history_rose : (tables : PolicyTables) (opened : ServiceWorld) (tb : List ℤ → Type 0) (before : DiskEnd) (exchanges : List Exchange)
    (ta : List ℤ → Type 0) (after : DiskEnd) → IsHistory tables opened tb before exchanges ta after → SomeTold Unavailable exchanges
    → Rose before.faults after.faults
history_rose tables opened tb before exchanges ta after history told =
    rose_told _ opened history.moves.history history.moves.goes.answers history.last.world before.faults after.faults history.moves.goes.timed
    history.moves.goes.rises (subst (SomeTold Unavailable) history.moves.exchanges_are told)

-- ---- what a run over a book says of the journal

-- how a service went on, as a history of it
abbrev served_history : {D : Type 0} (told : D → Option DiskTold) (faults : D → ℕ) (tables : PolicyTables) (opened : ServiceWorld) (end : Service)
    (first last : Journal D) (tb : List ℤ → Type 0) (es : List Exchange) (ta : List ℤ → Type 0)
    → HasServed told faults Plays (service_of (record { policy = tables }) opened) tb first es end ta last
    → IsHistory tables opened tb (disk_end told faults (disk_of first)) es ta (disk_end told faults (disk_of last))
served_history told faults tables opened end first last tb es ta served = record {
  last = end;
  moves = served.moves;
  leaves = served_leaves told Plays (record { policy = tables }) opened served.moves.history end.world last served.book;
  moments = served.moments;
}

comes_whole : {D : Type 0} (told : D → Option DiskTold) (faults : D → ℕ) (tables : PolicyTables) (words : WorkloadWords) (opened : ServiceWorld) (end : Service)
    (first last : Journal D) (tb ta : List ℤ → Type 0) (secret : List ℕ) (tally : Tally)
    → (run : LoadRun (λ es. HasServed told faults Plays (service_of (record { policy = tables }) opened) tb first es end ta last) secret words.number words.count (Ok tally))
    → ComesTo words tally end.world (told (disk_of last)) (load_of words tally end.world last)
comes_whole told faults tables words opened end first last tb ta secret tally run =
    let served = run.told in
    let book = served.book in
    let settled = book_settled told Plays (record { policy = tables }) opened served.moves.history end.world last book
    (λ t. none_told _ secret words.number words.count tally run Unavailable (subst (SomeTold Unavailable) (sym served.moves.exchanges_are) t)) in
    let bytes = record_bytes told end.world last book.commands book.stands in
    record {
      number = refl;
      count = refl;
      tally_is = refl;
      finalized = refl;
      commands = book.commands;
      leads = book.stands.leads;
      leaves = settled_reads told Plays _ end.world last book.commands book.stands settled;
      bytes = omega (arith, bytes);
    }

comes_by : {D : Type 0} (told : D → Option DiskTold) (faults : D → ℕ) (tables : PolicyTables) (words : WorkloadWords) (opened : ServiceWorld) (end : Service)
    (first last : Journal D) (tb ta : List ℤ → Type 0) (secret : List ℕ) (ran : Result Tally Stop) (result : Result Load Stop)
    → LoadRun (λ es. HasServed told faults Plays (service_of (record { policy = tables }) opened) tb first es end ta last) secret words.number words.count ran
    → IsToldOf words end.world last ran result → ComesBy words end.world (told (disk_of last)) ran result
comes_by told faults tables words opened end first last tb ta secret (Ok tally) result run is =
    subst (ComesBy words end.world (told (disk_of last)) (Ok tally)) (sym is) (comes_whole told faults tables words opened end first last tb ta secret tally run)
comes_by told faults tables words opened end first last tb ta secret (Err stop) result run is =
    subst (ComesBy words end.world (told (disk_of last)) (Err stop)) (sym is) refl

pub loaded_run : {D : Type 0} (told : D → Option DiskTold) (faults : D → ℕ) (said : List (List ℕ)) (words : WorkloadWords) (config : Incoming) (before after : Ends)
    (disk : DiskEnd) (tables : PolicyTables) (w world : ServiceWorld) (first last : Journal D) (left : D) (tells : List ℤ → Type 0) (result : Result Load Stop)
    (ending : LoadEnding) → Says said (Workload words) → IsPolicyOf policy_text tables
    → OpensBook told Plays disk w first (disk_end told faults (disk_of first)) → RunsOver told faults tables words w first result world last
    → left ≡ disk_of last → TellsLoad result before ending after
    → LoadsJournal ending said (record { config = config; ends = before; disk = disk }) tells
    (record { config = config; ends = after; disk = disk_end told faults left }) tells
loaded_run {D} told faults said words config before after disk tables w world first last left tells result ending are policy book over same tells_load =
    subst (λ (d : D). LoadsJournal ending said (record { config = config; ends = before; disk = disk }) tells
    (record { config = config; ends = after; disk = disk_end told faults d }) tells) (sym same)
    (record {
      asked = words;
      words_are = are;
      config = refl;
      ran = over.ran;
      runs = record {
        tables = tables;
        secret = over.secret;
        policy = record { policy = policy; secret_is = over.secret_is };
        opened = w;
        disk = disk_end told faults (disk_of first);
        opens = book.opens;
        steps = over.steps;
        run = run_as _ (λ es. IsHistory tables w (AreSteps first_step) (disk_end told faults (disk_of first)) es (AreSteps over.steps) (disk_end told faults (disk_of last)))
            over.secret words.number words.count over.ran
            (λ es served. served_history told faults tables w over.last first last (AreSteps first_step) es (AreSteps over.steps) served) over.run;
      };
      load = result;
      comes = comes_by told faults tables words w over.last first last (AreSteps first_step) (AreSteps over.steps) over.secret over.ran result over.run
          (subst (λ (v : ServiceWorld). IsToldOf words v last over.ran result) (sym over.left) over.told_of);
      told = tells_load;
      clocked = unasked tells;
    })

-- what a teller that was made of a book, a policy and a clock went through, is what these did
pub served_as : {T D : Type 0} (tells : T → List ℤ → Type 0) (told : D → Option DiskTold) (faults : D → ℕ) (tables shown : PolicyTables)
    (opened world : ServiceWorld) (start then now end : T) (before first journal after : Journal D) (es : List Exchange) (last : Service)
    → shown ≡ tables → world ≡ opened → start ≡ then → now ≡ end → first ≡ before → journal ≡ after
    → HasServed told faults Plays (service_of (record { policy = shown }) world) (tells start) first es last (tells now) journal
    → HasServed told faults Plays (service_of (record { policy = tables }) opened) (tells then) before es last (tells end) after
served_as {T} {D} tells told faults tables shown opened world start then now end before first journal after es last policy is began ended stood left served =
    let From : PolicyTables → ServiceWorld → T → T → Journal D → Journal D → Type 0 =
    λ p w s e f j. HasServed told faults Plays (service_of (record { policy = p }) w) (tells s) f es last (tells e) j in
    subst (λ (p : PolicyTables). From p opened then end before after) policy
    (subst (λ (w : ServiceWorld). From shown w then end before after) is
    (subst (λ (t : T). From shown world t end before after) began
    (subst (λ (t : T). From shown world start t before after) ended
    (subst (λ (f : Journal D). From shown world start now f after) stood
    (subst (From shown world start now first) left served)))))

-- ---- how a run stopped

-- the disk failed where the line says so
pub load_rose : (asked : WorkloadWords) (before after : DiskEnd) → RunsLoad asked before (Err stops.Unavailable) after → Rose before.faults after.faults
load_rose asked before after runs =
    let told = unavailable_told _ runs.secret asked.number asked.count runs.run in
    let rose = history_rose runs.tables runs.opened _ runs.disk _ _ after runs.run.told told in
    subst (λ (n : ℕ). Rose n after.faults) runs.opens.faults rose

-- what is told of a run to its end, by what the counts and the end of the journal are
abbrev loaded : WorkloadWords → Tally → ℕ → ℕ → Load
loaded words tally finalized end = record {
  number = words.number;
  count = words.count;
  tally = tally;
  finalized = finalized;
  bytes = end - 8;
}

pub told_as : {D : Type 0} (words : WorkloadWords) (tally : Tally) (w : ServiceWorld) (journal : Journal D) (finalized end : ℕ)
    → finalized ≡ (counts_of w).finalized → end ≡ end_of journal → IsToldOf words w journal (Ok tally) (Ok (loaded words tally finalized end))
told_as words tally w journal finalized end one two =
    ap (λ (n : ℕ). Ok (loaded words tally n end)) one ∙ ap (λ (e : ℕ). Ok (loaded words tally (counts_of w).finalized e)) two

-- a run is one of a count that is the same, too
pub run_counted : (asked other : List Exchange → Type 0) (secret : List ℕ) (number count same : ℕ) (ran : Result Tally Stop) → count ≡ same
    → ((es : List Exchange) → asked es → other es) → LoadRun asked secret number count ran → LoadRun other secret number same ran
run_counted asked other secret number count same ran is more run =
    subst (λ (n : ℕ). LoadRun other secret number n ran) is (run_as asked other secret number count ran more run)
