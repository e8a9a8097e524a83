-- A service, its clock and its disk go on by one call.
use Rattle.std.proofs.Common.{◌≡◌, ◌⊎◌, inl, inr, ℕ, ℤ, Bool, true, false, List, [], ◌∷◌, ◌++◌, Option, refl, sym, ap, subst, ◌∙◌, append_assoc}
use Rattle.std.proofs.lemmas.List.{map-append}
use Rattle.std.specs.List.{AllByRecursion}
use Rattle.disks.specs.Parts.{Image}
use Rattle.disks.specs.Moments.{Told as DiskTold}
use Rattle.disks.specs.MomentLaws.{at_each_of}
use Rattle.result_journal.specs.Journals.{Leaves, disk_of, is_settled, prepared}
use Rattle.result_journal.specs.declared.journal.Journal.{Journal}
use Rattle.journal_book.specs.Worlds.{HasSettled, Play}
use Rattle.journal_book.specs.Books.{Stands}
use Rattle.journal_book.proofs.StepLaws.{stands_images}
use Rattle.call_forms.specs.declared.asked.Asked.{Asked}
use Rattle.call_forms.specs.declared.forms.Standin.TheVariants.{Unavailable}
use Rattle.call_forms.specs.declared.forms.Told.{Told}
use Rattle.call_forms.specs.declared.forms.Told.TheVariants.{Standin as Instead}
use Rattle.service_machine.specs.RequestDemands.Settings.{Settings}
use Rattle.service_machine.specs.ServiceEffects.Service.{ServiceWorld, empty_service}
use Rattle.service_machine.specs.ServiceCore.History.{Entry, IsLegal, Leads, Serves, entry_at}
use Rattle.service_machine.specs.ServiceCore.Service.{Service}
use Rattle.service_machine.proofs.ServiceCore.HistoryLaws.{timed_goes_on, timed_is_legal}
use Rattle.tellers.specs.Exchange.{Exchange}
use Rattle.record_desk.specs.Standing.{AtCall, AtEachCall, GoesThrough, HasBook, HasLast, HasRecorded, HasServed, HasTried, IsTried, MayStand, Point}
use Rattle.record_desk.specs.Standing.{Rises, RoseIf, exchange_of, point_at}
use Rattle.record_desk.specs.Recording.{HasWorldOrTried, KeepsBook, TriesAtMost}
use Rattle.record_desk.proofs.ClockedLaws.{clocked_nothing, clocked_more}

-- ---- nothing was asked yet

goes_nowhere : (s : Service) (tells : List ℤ → Type 0) (faults : ℕ) → GoesThrough s tells faults [] s tells faults
goes_nowhere s tells faults = record {
  answers = [];
  timed = refl;
  settings = refl;
  clocked = clocked_nothing tells;
  rises = refl;
}

-- a book that was opened, and in which nothing is to settle
pub recorded_nothing : {D : Type 0} (told : D → Option DiskTold) (faults : D → ℕ) (plays : Play ServiceWorld) (s : Service)
    (tells : List ℤ → Type 0) (journal : Journal D) (commands : List (List ℕ)) → Stands told plays empty_service s.world journal commands
    → (is_settled journal ≡ false → ⊥) → HasRecorded told faults plays s tells journal [] s tells journal
recorded_nothing told faults plays s tells journal commands stands settled = record {
  goes = goes_nowhere s tells (faults (disk_of journal));
  book = record { commands = commands; stands = stands; failed = λ unsettled. absurd (settled unsettled) };
  moments = refl;
}

pub recorded_opened : {D : Type 0} (told : D → Option DiskTold) (faults : D → ℕ) (plays : Play ServiceWorld) (s : Service)
    (tells : List ℤ → Type 0) (journal : Journal D) (commands : List (List ℕ)) → Stands told plays empty_service s.world journal commands
    → is_settled journal ≡ true → HasRecorded told faults plays s tells journal [] s tells journal
recorded_opened told faults plays s tells journal commands stands settled =
    recorded_nothing told faults plays s tells journal commands stands (λ unsettled. let no : true ≡ false = sym settled ∙ unsettled in cc)

pub served_nothing : {D : Type 0} (told : D → Option DiskTold) (faults : D → ℕ) (plays : Play ServiceWorld) (s : Service)
    (tells : List ℤ → Type 0) (journal : Journal D) (commands : List (List ℕ)) → Stands told plays empty_service s.world journal commands
    → (is_settled journal ≡ false → ⊥) → HasServed told faults plays s tells journal [] s tells journal
served_nothing told faults plays s tells journal commands stands settled =
    let recorded = recorded_nothing told faults plays s tells journal commands stands settled in
    record {
      moves = record { history = []; exchanges_are = refl; seats = tt; goes = recorded.goes };
      book = recorded.book;
      moments = recorded.moments;
    }

-- ---- one call more

all_more : (P : Entry → Type 0) (h : List Entry) (e : Entry) → AllByRecursion P h → P e → AllByRecursion P (h ++ e ∷ [])
all_more P [] e all here = (here, tt)
all_more P (x ∷ h) e all here = (all.0, all_more P h e all.1 here)

rises_more : (before : ℕ) (h : List Entry) (between : ℕ) (e : Entry) (after : ℕ) → Rises before h between → RoseIf e.rose between after
    → Rises before (h ++ e ∷ []) after
rises_more before [] between e after rises rose = (after, subst (λ (n : ℕ). RoseIf e.rose n after) rises rose, refl)
rises_more before (x ∷ h) between e after rises rose = (rises.0, rises.1, rises_more rises.0 h between e after rises.2 rose)

-- one call of the clock and one of the core
goes_on : (first now after : Service) (tf tn ta : List ℤ → Type 0) (ff fn fa : ℕ) (history : List Entry) (seat : ℕ) (answer : ℤ)
    (asked : Asked) (told : Told) (rose : Bool)
    → GoesThrough first tf ff history now tn fn
    → Serves first.settings now.world seat answer asked told rose after.world → after.settings ≡ now.settings
    → ((given : ℤ) (others : List ℤ) → tn (given ∷ others) → (answer ≡ given) × ta others) → RoseIf rose fn fa
    → GoesThrough first tf ff (history ++ entry_at now.world seat answer asked told rose ∷ []) after ta fa
goes_on first now after tf tn ta ff fn fa history seat answer asked told rose before leads settings clocked rises =
    let e : Entry = entry_at now.world seat answer asked told rose in
    record {
      answers = before.answers ++ answer ∷ [];
      timed = timed_goes_on first.settings first.world history before.answers now.world e answer after.world before.timed leads refl;
      settings = settings ∙ before.settings;
      clocked = clocked_more tf tn ta before.answers answer before.clocked clocked;
      rises = rises_more ff history fn e fa before.rises rises;
    }

-- what may stand may stand still where an entry left the world
stands_later : (s : Settings) (first : ServiceWorld) (h : List Entry) (w next : ServiceWorld) (e : Entry) → MayStand s first h w next
    → Leads s w e w → MayStand s first (h ++ e ∷ []) w next
stands_later s first h w next e may leads = record {
  before = may.before;
  entry = may.entry;
  later = may.later ++ e ∷ [];
  history_is = ap (λ (l : List Entry). l ++ e ∷ []) may.history_is ∙ append_assoc may.before (may.entry ∷ may.later) (e ∷ []);
  told = may.told;
  from = may.from;
  led = may.led;
  came = may.came;
  still = all_more (λ x. Leads s w x w) may.later e may.still leads;
  tried = may.tried;
}

-- an entry that was told Unavailable may stand
stands_new : (s : Settings) (first : ServiceWorld) (h : List Entry) (w after next : ServiceWorld) (e : Entry) → IsLegal s first h w
    → Leads s w e after → e.told ≡ Instead Unavailable → IsTried s w e next → MayStand s first (h ++ e ∷ []) after next
stands_new s first h w after next e legal leads told tried = record {
  before = h;
  entry = e;
  later = [];
  history_is = refl;
  told = told;
  from = w;
  led = legal;
  came = leads;
  still = tt;
  tried = tried;
}

failed_more : {D : Type 0} (told : D → Option DiskTold) (plays : Play ServiceWorld) (s : Settings) (first : ServiceWorld) (h : List Entry)
    (w : ServiceWorld) (old : Journal D) (e : Entry) (after : ServiceWorld) (new : Journal D) → HasBook told plays s first h w old
    → IsLegal s first h w → Leads s w e after
    → KeepsBook told plays w old (λ next. (e.told ≡ Instead Unavailable) × IsTried s w e next) after new
    → (is_settled new ≡ false → (next : ServiceWorld) → plays after (prepared new) next → MayStand s first (h ++ e ∷ []) after next)
failed_more told plays s first h w old e after new book legal leads keeps unsettled next leads_next =
    elim (keeps.unsettled unsettled next leads_next) [
      | inl was ↦
          subst (λ (v : ServiceWorld). MayStand s first (h ++ e ∷ []) v next) (sym was.1)
          (stands_later s first h w next e (book.failed was.0 next was.2) (subst (Leads s w e) was.1 leads))
      | inr new_one ↦ stands_new s first h w after next e legal leads new_one.0 new_one.1
    ]

-- what an image has of a book, it has of the history
has_last : {D : Type 0} (told : D → Option DiskTold) (plays : Play ServiceWorld) (s : Settings) (first : ServiceWorld)
    (h : List Entry) (w : ServiceWorld) (journal : Journal D) → HasBook told plays s first h w journal → (image : Image)
    → HasSettled plays empty_service w (is_settled journal) (prepared journal) image → HasLast plays s first h w image
has_last told plays s first h w journal book image = by_settled (is_settled journal) refl
  where
    by_settled : (b : Bool) → is_settled journal ≡ b → HasSettled plays empty_service w b (prepared journal) image → HasLast plays s first h w image
    by_settled true is has = inl has
    by_settled false is has = elim has [ inl world ↦ inl world | inr next ↦ inr (next.0, next.2, book.failed is next.0 next.1) ]

-- the moments inside a call that tries what there is to record of its entry
at_call : {D : Type 0} (told : D → Option DiskTold) (plays : Play ServiceWorld) (first : Service) (h : List Entry) (w : ServiceWorld)
    (old : Journal D) (e : Entry) (after : ServiceWorld) (new : Journal D) → HasBook told plays first.settings first.world h w old → Leads first.settings w e after
    → TriesAtMost told plays w old (IsTried first.settings w e) new
    → AtCall plays first (point_at h w (told (disk_of old))) e (point_at (h ++ e ∷ []) after (told (disk_of new)))
at_call told plays first h w old e after new book leads tries = record {
  entries = refl;
  leads = leads;
  moments = at_each_of (told (disk_of old)) (told (disk_of new)) (HasWorldOrTried plays w old (IsTried first.settings w e))
      (λ image. HasLast plays first.settings first.world h w image ⊎ HasTried plays first.settings w e image)
      (λ image has. elim has [ inl was ↦ inl (has_last told plays first.settings first.world h w old book image was) | inr tried ↦ inr tried ]) tries;
}

each_call_more : (plays : Play ServiceWorld) (first : Service) (here : Point) (h : List Entry) (now : Point) (e : Entry) (next : Point)
    → AtEachCall plays first here h now → AtCall plays first now e next → AtEachCall plays first here (h ++ e ∷ []) next
each_call_more plays first here [] now e next each at = (next, subst (λ (p : Point). AtCall plays first p e next) each at, refl)
each_call_more plays first here (x ∷ h) now e next each at =
    (each.0, each.1, each_call_more plays first each.0 h now e next each.2 at)

-- what was known of a book goes on by the entry of one call
pub recorded_more : {D : Type 0} (told : D → Option DiskTold) (faults : D → ℕ) (plays : Play ServiceWorld) (first now after : Service)
    (tf tn ta : List ℤ → Type 0) (start old new : Journal D) (history : List Entry) (seat : ℕ) (answer : ℤ) (asked : Asked) (answered : Told)
    (rose : Bool) (s : Settings) → s ≡ now.settings
    → HasRecorded told faults plays first tf start history now tn old
    → Serves s now.world seat answer asked answered rose after.world → after.settings ≡ now.settings
    → ((given : ℤ) (others : List ℤ) → tn (given ∷ others) → (answer ≡ given) × ta others)
    → RoseIf rose (faults (disk_of old)) (faults (disk_of new))
    → KeepsBook told plays now.world old
    (λ next. (answered ≡ Instead Unavailable) × IsTried s now.world (entry_at now.world seat answer asked answered rose) next)
    after.world new
    → TriesAtMost told plays now.world old (IsTried s now.world (entry_at now.world seat answer asked answered rose)) new
    → HasRecorded told faults plays first tf start (history ++ entry_at now.world seat answer asked answered rose ∷ []) after ta new
recorded_more {D} told faults plays first now after tf tn ta start old new history seat answer asked answered rose s here recorded serves settings clocked
    rises keeps tries =
    let goes = recorded.goes in
    let same : s ≡ first.settings = here ∙ goes.settings in
    let e : Entry = entry_at now.world seat answer asked answered rose in
    let leads : Leads first.settings now.world e after.world =
    subst (λ (t : Settings). Leads t now.world e after.world) same serves in
    let kept : KeepsBook told plays now.world old (λ next. (answered ≡ Instead Unavailable) × IsTried first.settings now.world e next) after.world new =
    subst (λ (t : Settings). KeepsBook told plays now.world old (λ next. (answered ≡ Instead Unavailable) × IsTried t now.world e next) after.world new)
    same keeps in
    let legal = timed_is_legal first.settings first.world history goes.answers now.world goes.timed in
    let stood = kept.stands recorded.book.commands recorded.book.stands in
    record {
      goes = goes_on first now after tf tn ta (faults (disk_of start)) (faults (disk_of old)) (faults (disk_of new)) history seat answer asked answered
          rose goes leads settings clocked rises;
      book = record {
        commands = stood.0;
        stands = stood.1;
        failed = failed_more told plays first.settings first.world history now.world old e after.world new recorded.book legal leads kept;
      };
      moments = each_call_more plays first (point_at [] first.world (told (disk_of start))) history
          (point_at history now.world (told (disk_of old))) e
          (point_at (history ++ e ∷ []) after.world (told (disk_of new))) recorded.moments
          (at_call told plays first history now.world old e after.world new recorded.book leads
          (subst (λ (t : Settings). TriesAtMost told plays now.world old (IsTried t now.world e) new) same tries));
    }

-- one exchange more of one seat
pub served_more : {D : Type 0} (told : D → Option DiskTold) (faults : D → ℕ) (plays : Play ServiceWorld) (first now after : Service)
    (tf tn ta : List ℤ → Type 0) (start old new : Journal D) (exchanges : List Exchange) (answer : ℤ) (asked : Asked) (answered : Told) (rose : Bool)
    (s : Settings) → s ≡ now.settings
    → HasServed told faults plays first tf start exchanges now tn old
    → Serves s now.world 0 answer asked answered rose after.world → after.settings ≡ now.settings
    → ((given : ℤ) (others : List ℤ) → tn (given ∷ others) → (answer ≡ given) × ta others)
    → RoseIf rose (faults (disk_of old)) (faults (disk_of new))
    → KeepsBook told plays now.world old
    (λ next. (answered ≡ Instead Unavailable) × IsTried s now.world (entry_at now.world 0 answer asked answered rose) next)
    after.world new
    → TriesAtMost told plays now.world old (IsTried s now.world (entry_at now.world 0 answer asked answered rose)) new
    → HasServed told faults plays first tf start (exchanges ++ record { asked = asked; told = answered } ∷ []) after ta new
served_more {D} told faults plays first now after tf tn ta start old new exchanges answer asked answered rose s here served serves settings clocked rises
    keeps tries =
    let moves = served.moves in
    let e : Entry = entry_at now.world 0 answer asked answered rose in
    let recorded = recorded_more told faults plays first now after tf tn ta start old new moves.history 0 answer asked answered rose s here
    (record { goes = moves.goes; book = served.book; moments = served.moments }) serves settings clocked rises keeps tries in
    record {
      moves = record {
        history = moves.history ++ e ∷ [];
        exchanges_are = ap (λ (es : List Exchange). es ++ exchange_of e ∷ []) moves.exchanges_are ∙ sym (map-append exchange_of moves.history (e ∷ []));
        seats = all_more (λ x. x.seat ≡ 0) moves.history e moves.seats refl;
        goes = recorded.goes;
      };
      book = recorded.book;
      moments = recorded.moments;
    }

-- ---- what a crash leaves

pub served_leaves : {D : Type 0} (told : D → Option DiskTold) (plays : Play ServiceWorld) (s : Settings) (first : ServiceWorld)
    (h : List Entry) (w : ServiceWorld) (journal : Journal D) → HasBook told plays s first h w journal
    → Leaves (told (disk_of journal)) (HasLast plays s first h w)
served_leaves told plays s first h w journal book = λ t is image may.
    has_last told plays s first h w journal book image
    (stands_images told plays empty_service w journal book.commands book.stands t is image may)
