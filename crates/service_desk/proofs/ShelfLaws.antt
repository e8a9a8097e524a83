-- A shelf goes on by one call.
use Rattle.std.proofs.Common.{◌≡◌, ◌≢◌, ◌⊎◌, inl, inr, ℕ, ◌+◌, ◌<◌, ◌^◌, ℤ, Bool, true, false, List, [], ◌∷◌, ◌++◌, length, Option, refl, sym, ap, subst, ◌∙◌, arith, length-append}
use Rattle.disks.specs.Moments.{Told as DiskTold}
use Rattle.result_journal.specs.Journals.{disk_of}
use Rattle.call_forms.specs.declared.asked.Asked.{Asked}
use Rattle.call_forms.specs.declared.forms.Answer.{Answer}
use Rattle.call_forms.specs.declared.forms.Standin.TheVariants.{Memory, Spent, Unavailable}
use Rattle.call_forms.specs.declared.forms.Told.{Told}
use Rattle.call_forms.specs.declared.forms.Told.TheVariants.{Made, Standin as Instead}
use Rattle.record_desk.specs.RequestDemands.Settings.{Settings}
use Rattle.record_desk.specs.ServiceEffects.Service.{ServiceWorld}
use Rattle.record_desk.specs.ServiceCore.History.{Entry, IsLegal, Leads, Serves, Tells, entry_at}
use Rattle.record_desk.specs.ServiceCore.Step.{Step}
use Rattle.record_desk.proofs.ServiceCore.HistoryLaws.{timed_is_legal}
use Rattle.record_desk.specs.ServiceMachine.Machines.{Plays}
use Rattle.tellers.specs.Exchange.{Exchange}
use Rattle.record_desk.specs.Standing.{IsTried, RoseIf, exchange_of}
use Rattle.record_desk.specs.Recording.{KeepsBook, TriesAtMost}
use Rattle.record_desk.proofs.StandingLaws.{recorded_more}
use Rattle.turnstile.specs.declared.board.Known.{Known}
use Rattle.turnstile.specs.Seats.{Stood, TakesTurn}
use Rattle.service_desk.specs.declared.shelf.Shelf.{Shelf}
use Rattle.service_desk.specs.Shelves.{GoesOn, IsLast, Led, OpensShelf, StandsFor, service_on}
use Rattle.service_desk.specs.Turns.{HasTurn, is_spent}

-- ---- the last entry of a history

legal_last : (s : Settings) (w : ServiceWorld) (log : List Entry) (e : Entry) (end : ServiceWorld) → IsLegal s w (log ++ e ∷ []) end
    → (from : ServiceWorld) × IsLegal s w log from × Leads s from e end
legal_last s w [] e end legal = (w, refl, subst (Leads s w e) (sym legal.2) legal.1)
legal_last s w (x ∷ h) e end legal =
    let rest = legal_last s legal.0 h e end legal.2 in
    (rest.0, (legal.0, legal.1, rest.1), rest.2)

-- where the disk didn't fail, its step's answer was told, or want of memory
tells_all : (s : Settings) (w : ServiceWorld) (e : Entry) (told : Told) (after : ServiceWorld) → Tells s w e told after → e.rose ≡ false
    → (told ≡ Instead Memory) ⊎ ((answer : Answer) × (told ≡ Made answer) × Step s w e.moment e.asked after answer)
tells_all s w e (Made answer) after tells rose = inr (answer, refl, tells)
tells_all s w e (Instead Memory) after tells rose = inl refl
tells_all s w e (Instead Unavailable) after tells rose = let no : true ≡ false = sym tells.failed ∙ rose in absurd cc
tells_all s w e (Instead Spent) after tells rose = absurd tells

tells_unspent : (s : Settings) (w : ServiceWorld) (e : Entry) (told : Told) (after : ServiceWorld) → Tells s w e told after → is_spent told ≡ false
tells_unspent s w e (Made answer) after tells = refl
tells_unspent s w e (Instead Memory) after tells = refl
tells_unspent s w e (Instead Unavailable) after tells = refl
tells_unspent s w e (Instead Spent) after tells = absurd tells

last_of : (s : Settings) (first : ServiceWorld) (log : List Entry) (e : Entry) (end : ServiceWorld) → IsLegal s first (log ++ e ∷ []) end
    → IsLast s first log e
last_of s first log e end legal =
    let last = legal_last s first log e end legal in
    record {
      from = last.0;
      legal = last.1;
      to = end;
      leads = last.2;
      complete = tells_all s last.0 e e.told end last.2.tells;
    }

-- ---- a turn

went_on : {D C S : Type 0} (told : D → Option DiskTold) (faults : D → ℕ) (tells : C → List ℤ → Type 0) (start : Shelf D C S) (log : List Entry)
    (e : Entry) → OpensShelf told start → Stood (StandsFor told faults tells) start log → Stood (StandsFor told faults tells) start (log ++ e ∷ [])
    → GoesOn told faults tells start log e
went_on told faults tells start log e opened before after =
    let led = after.1.led opened in
    let s = service_on start in
    record {
      before = (before.0, before.1.led opened);
      after = (after.0, led);
      last = last_of s.settings s.world log e (service_on after.0).world
          (timed_is_legal s.settings s.world (log ++ e ∷ []) led.goes.answers (service_on after.0).world led.goes.timed);
    }

pub had_turn : {D C S : Type 0} (told : D → Option DiskTold) (faults : D → ℕ) (tells : C → List ℤ → Type 0) (start : Shelf D C S) (asked : Asked)
    (result : Told) (before after : Known Entry) → OpensShelf told start
    → TakesTurn (λ e. e.seat)
    (λ log e. Stood (StandsFor told faults tells) start log × Stood (StandsFor told faults tells) start (log ++ e ∷ [])
    × ((e.asked ≡ asked) × (e.told ≡ result))) before after
    → (after.drawn < 2 ^ 63) × (length after.seen ≡ after.drawn + 1)
    → HasTurn (λ e. e.seat) exchange_of (GoesOn told faults tells start) before (record { asked = asked; told = result }) after
had_turn told faults tells start asked result before after opened turn counted =
    let e : Entry = turn.1 in
    let fits = turn.5 in
    let is : exchange_of e ≡ record { asked = asked; told = result } =
    ap (λ (a : Asked). record { asked = a; told = e.told }) fits.2.0 ∙ ap (λ (t : Told). record { asked = asked; told = t }) fits.2.1 in
    record {
      turn = (turn.0, e, turn.2, turn.3, turn.4, (is, went_on told faults tells start (before.seen ++ turn.0) e opened fits.0 fits.1));
      few = counted.0;
      counted = counted.1;
    }

-- who had a turn wasn't told that there is none
pub turn_unspent : {D C S : Type 0} (told : D → Option DiskTold) (faults : D → ℕ) (tells : C → List ℤ → Type 0) (start : Shelf D C S) (x : Exchange)
    (before after : Known Entry)
    → HasTurn (λ e. e.seat) exchange_of (GoesOn told faults tells start) before x after → is_spent x.told ≡ false
turn_unspent told faults tells start x before after has =
    let e : Entry = has.turn.1 in
    let fits = has.turn.5 in
    let last = fits.1.last in
    let same : e.told ≡ x.told = ap (λ (y : Exchange). y.told) fits.0 in
    subst (λ (t : Told). is_spent t ≡ false) same
    (tells_unspent (service_on start).settings last.from e e.told last.to last.leads.tells)

-- ---- one call

pub stands_more : {D C S : Type 0} (told : D → Option DiskTold) (faults : D → ℕ) (tells : C → List ℤ → Type 0) (start old new : Shelf D C S)
    (log : List Entry) (s : Settings) (seat : ℕ) (answer : ℤ) (asked : Asked) (answered : Told) (rose : Bool)
    → OpensShelf told start → StandsFor told faults tells old start log
    → s ≡ (service_on start).settings → (service_on new).settings ≡ (service_on old).settings → new.entries ≡ old.entries + 1
    → Serves s (service_on old).world seat answer asked answered rose (service_on new).world
    → ((given : ℤ) (others : List ℤ) → tells old.clock (given ∷ others) → (answer ≡ given) × tells new.clock others)
    → RoseIf rose (faults (disk_of old.book.journal)) (faults (disk_of new.book.journal))
    → KeepsBook told Plays (service_on old).world old.book.journal
    (λ next. (answered ≡ Instead Unavailable) × IsTried s (service_on old).world (entry_at (service_on old).world seat answer asked answered rose) next)
    (service_on new).world new.book.journal
    → TriesAtMost told Plays (service_on old).world old.book.journal
    (IsTried s (service_on old).world (entry_at (service_on old).world seat answer asked answered rose)) new.book.journal
    → StandsFor told faults tells new start (log ++ entry_at (service_on old).world seat answer asked answered rose ∷ [])
stands_more {D} {C} {S} told faults tells start old new log s seat answer asked answered rose opened stands is same more serves clocked rises keeps
    tries =
    let led = stands.led opened in
    let w = (service_on old).world in
    let e : Entry = entry_at w seat answer asked answered rose in
    let here : s ≡ (service_on old).settings = is ∙ sym led.goes.settings in
    record {
      counted = more ∙ ap (λ n. n + 1) stands.counted ∙ sym (length-append log (e ∷ []));
      led = λ _. recorded_more told faults Plays (service_on start) (service_on old) (service_on new) (tells start.clock) (tells old.clock)
          (tells new.clock) start.book.journal old.book.journal new.book.journal log seat answer asked answered rose s here led serves same clocked
          rises keeps tries;
    }
