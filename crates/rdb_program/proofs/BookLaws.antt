-- A journal that was opened, and its history.
use Rattle.std.proofs.Common.{◌≡◌, ℕ, ℤ, true, ◌+◌, List, [], ◌∷◌, length, length-append, Option, refl, sym, ap, ◌∙◌, subst, arith}
use Rattle.disks.specs.Moments.{AtEachMoment, Told}
use Rattle.result_journal.specs.Grammar.{head, records}
use Rattle.result_journal.specs.Journals.{disk_of, end_of, is_settled}
use Rattle.result_journal.specs.Openings.{AlikeOnceSynced, LeftBeforeOrAlike, OpensAs}
use Rattle.result_journal.specs.Steps.{OtherStays}
use Rattle.result_journal.specs.declared.journal.Journal.{Journal}
use Rattle.policy_tables.specs.declared.tables.PolicyTables.{PolicyTables}
use Rattle.journal_book.specs.Books.{HasWorldOf, Stands}
use Rattle.serve_runs.specs.ServiceMachine.ServiceEffects.Service.{ServiceWorld, empty_service}
use Rattle.serve_runs.specs.ServiceMachine.Machines.{Plays}
use Rattle.serve_runs.specs.ServiceCore.Service.{Service, service_of}
use Rattle.serve_runs.specs.RecordDesk.Clocked.{IsClocked}
use Rattle.serve_runs.specs.RecordDesk.Standing.{HasServed}
use Rattle.serve_runs.proofs.RecordDesk.StandingLaws.{served_leaves, served_nothing}
use Rattle.tellers.specs.Exchange.{Exchange}
use Rattle.rdb_program.specs.Opening.{OpensBook}
use Rattle.rdb_program.specs.Run.{DiskEnd, IsHistory, disk_end}

-- ---- the history of a connection over an opened journal

-- a teller over a journal in which nothing is to settle was asked nothing
pub begun_over : {D : Type 0} (told : D → Option Told) (faults : D → ℕ) (tables : PolicyTables) (tells : List ℤ → Type 0) (w world : ServiceWorld)
    (journal first : Journal D) (commands : List (List ℕ)) → world ≡ w → first ≡ journal → Stands told Plays empty_service w journal commands
    → is_settled journal ≡ true
    → HasServed told faults Plays (service_of (record { policy = tables }) world) tells first [] (service_of (record { policy = tables }) world) tells first
begun_over told faults tables tells w world journal first commands one two stood settled =
    let stands = subst (λ (v : ServiceWorld). Stands told Plays empty_service v first commands) (sym one)
    (subst (λ (j : Journal _). Stands told Plays empty_service w j commands) (sym two) stood) in
    served_nothing told faults Plays (service_of (record { policy = tables }) world) tells first commands stands
    (λ unsettled. let t : is_settled first ≡ true = ap is_settled two ∙ settled in cc)

-- so was one over a journal that was just opened
pub begun : {D : Type 0} (told : D → Option Told) (faults : D → ℕ) (tables : PolicyTables) (tells : List ℤ → Type 0) (before after : DiskEnd)
    (w world : ServiceWorld) (journal first : Journal D) → world ≡ w → first ≡ journal → OpensBook told Plays before w journal after
    → HasServed told faults Plays (service_of (record { policy = tables }) world) tells first [] (service_of (record { policy = tables }) world) tells first
begun told faults tables tells before after w world journal first one two opened =
    begun_over told faults tables tells w world journal first opened.commands one two opened.stands opened.settled

pub history_from : {T D : Type 0} (tells : T → List ℤ → Type 0) (told : D → Option Told) (faults : D → ℕ) (tables shown : PolicyTables)
    (opened world : ServiceWorld) (start then now end : T) (before first : Journal D) (es : List Exchange) (last : Service) (journal : Journal D)
    (disk : D) → shown ≡ tables → world ≡ opened → start ≡ then → now ≡ end → first ≡ before → disk_of journal ≡ disk
    → HasServed told faults Plays (service_of (record { policy = shown }) world) (tells start) first es last (tells now) journal
    → IsHistory tables opened (tells then) (disk_end told faults (disk_of before)) es (tells end) (disk_end told faults disk)
history_from {T} {D} tells told faults tables shown opened world start then now end before first es last journal disk policy is began ended stood closed served =
    let From : PolicyTables → ServiceWorld → T → T → Journal D → Type 0 =
    λ p w s e f. HasServed told faults Plays (service_of (record { policy = p }) w) (tells s) f es last (tells e) journal in
    let whole : From tables opened then end before =
    subst (λ (p : PolicyTables). From p opened then end before) policy
    (subst (λ (w : ServiceWorld). From shown w then end before) is
    (subst (λ (t : T). From shown world t end before) began
    (subst (λ (t : T). From shown world start t before) ended
    (subst (From shown world start now) stood served)))) in
    subst (λ (d : D). IsHistory tables opened (tells then) (disk_end told faults (disk_of before)) es (tells end) (disk_end told faults d)) closed
    (record {
      last = last;
      moves = whole.moves;
      leaves = served_leaves told Plays (record { policy = tables }) opened whole.moves.history last.world journal whole.book;
      moments = whole.moments;
    })

-- ---- the journal that was opened

-- its commands lead from the empty world, as those of an empty core do
pub opens_from : {D : Type 0} (told : D → Option Told) (first w : ServiceWorld) (journal : Journal D) (before after : DiskEnd) → first ≡ empty_service
    → ((commands : List (List ℕ)) × Stands told Plays first w journal commands) → HasWorldOf Plays first w before.told
    → is_settled journal ≡ true → OpensAs before.told after.told → OtherStays before.told after.told
    → AtEachMoment before.told after.told (LeftBeforeOrAlike before.told) → AlikeOnceSynced before.told after.told → after.faults ≡ before.faults
    → OpensBook told Plays before w journal after
opens_from told first w journal before after empty stands world settled begins other moments synced faults =
    let stood = subst (λ (v : ServiceWorld). (commands : List (List ℕ)) × Stands told Plays v w journal commands) empty stands in
    record {
      opens = record {
        world = subst (λ (v : ServiceWorld). HasWorldOf Plays v w before.told) empty world;
        begins = begins;
        other = other;
        moments = moments;
        synced = synced;
        faults = faults;
      };
      commands = stood.0;
      stands = stood.1;
      settled = settled;
    }

-- the records that stand before the gate
pub record_bytes : {D : Type 0} (told : D → Option Told) (w : ServiceWorld) (journal : Journal D) (commands : List (List ℕ))
    → Stands told Plays empty_service w journal commands → end_of journal ≡ 8 + length (records commands)
record_bytes told w journal commands stands = stands.place ∙ length-append head (records commands)

-- a clock that wasn't asked tells what it told
pub unasked : (tells : List ℤ → Type 0) → IsClocked tells [] tells
unasked tells [] others e told = (refl, told)
unasked tells (x ∷ xs) others e told = absurd (omega (arith, e))
