-- What a part of a call makes of the book.
use Rattle.std.proofs.Common.{◌≡◌, ◌≢◌, ◌⊎◌, inl, inr, ℕ, ℤ, ◌≤ℤ◌, Bool, true, false, List, Option, Some, None, [], Result, Err}
use Rattle.std.proofs.Common.{refl, sym, ap, subst, ◌∙◌}
use Rattle.disks.specs.Parts.{Image}
use Rattle.disks.specs.Moments.{AtEachMoment, Told as DiskTold}
use Rattle.disks.specs.MomentLaws.{at_both, at_each_of}
use Rattle.result_journal.specs.Journals.{disk_of, is_settled, prepared}
use Rattle.result_journal.specs.declared.journal.Journal.{Journal}
use Rattle.journal_book.specs.Worlds.{HasSettled, HasWorld, Play}
use Rattle.journal_book.specs.Books.{HasEither, HasRecordCause, LeavesToSettle, Stands}
use Rattle.journal_book.proofs.StepLaws.{stands_images, unmoved_moments, world_settled}
use Rattle.journal_book.specs.declared.book.RecordFault.{RecordFault}
use Rattle.journal_book.specs.declared.book.RecordFault.TheVariants.{DiskFailed, Full, Memory as NoMemory}
use Rattle.call_forms.specs.declared.asked.Asked.{Asked}
use Rattle.call_forms.specs.declared.forms.Answer.{Answer}
use Rattle.call_forms.specs.declared.forms.Standin.{Standin}
use Rattle.call_forms.specs.declared.forms.Standin.TheVariants.{Memory, Spent, Unavailable}
use Rattle.call_forms.specs.declared.forms.Told.{Told}
use Rattle.call_forms.specs.declared.forms.Told.TheVariants.{Made, Standin as Instead}
use Rattle.invocation_world.specs.Advancing.{IsDueAt, IsQuiet}
use Rattle.invocation_world.specs.World.{IsCallMoment}
use Rattle.service_machine.specs.RequestDemands.Settings.{Settings}
use Rattle.service_machine.specs.ServiceEffects.Service.{ServiceWorld, empty_service}
use Rattle.service_machine.specs.ServiceCore.CoreState.{CoreState, PlanState, world_in}
use Rattle.service_machine.specs.ServiceCore.History.{Entry, Leads, TakesRecord, Tells, entry_at}
use Rattle.service_machine.specs.ServiceCore.Plans.{Carries, IsPlanOf}
use Rattle.service_machine.specs.Machines.{Plays}
use Rattle.service_machine.specs.ServiceCore.Service.{CatchesUp}
use Rattle.service_machine.specs.ServiceCore.Step.{IsTold, moment_of, performed}
use Rattle.service_machine.specs.Machines.{IsFit, RecordedState}
use Rattle.service_machine.proofs.MachineLaws.{replayed_is_carried}
use Rattle.record_desk.specs.Standing.{IsTried, RoseIf}
use Rattle.record_desk.specs.Recording.{HasWorldOrTried, IsToldBy, KeepsBook, StandsFromNothing, TriesAtMost, has_failed, is_unavailable, standin_of}

-- ---- books that are kept

pub kept_same : {D : Type 0} (told : D → Option DiskTold) (plays : Play ServiceWorld) (w : ServiceWorld) (journal : Journal D)
    (tried : ServiceWorld → Type 0) → KeepsBook told plays w journal tried w journal
kept_same told plays w journal tried = record {
  stands = λ commands stands. (commands, stands);
  unsettled = λ unsettled next leads. inl (unsettled, refl, leads);
}

pub kept_weaker : {D : Type 0} (told : D → Option DiskTold) (plays : Play ServiceWorld) (w : ServiceWorld) (old : Journal D)
    (tried also : ServiceWorld → Type 0) (after : ServiceWorld) (new : Journal D) → ((next : ServiceWorld) → tried next → also next)
    → KeepsBook told plays w old tried after new → KeepsBook told plays w old also after new
kept_weaker told plays w old tried also after new weaker kept = record {
  stands = kept.stands;
  unsettled = λ unsettled next leads. elim (kept.unsettled unsettled next leads) [ inl was ↦ inl was | inr new_one ↦ inr (weaker next new_one) ];
}

pub kept_as : {D : Type 0} (told : D → Option DiskTold) (plays : Play ServiceWorld) (v w : ServiceWorld) (old : Journal D)
    (tried : ServiceWorld → Type 0) (after : ServiceWorld) (new : Journal D) → v ≡ w → KeepsBook told plays v old tried after new
    → KeepsBook told plays w old tried after new
kept_as told plays v w old tried after new same kept = subst (λ (x : ServiceWorld). KeepsBook told plays x old tried after new) same kept

-- one part of a call after another
pub kept_both : {D : Type 0} (told : D → Option DiskTold) (plays : Play ServiceWorld) (w : ServiceWorld) (old : Journal D)
    (tried : ServiceWorld → Type 0) (between : ServiceWorld) (mid : Journal D) (after : ServiceWorld) (new : Journal D)
    → KeepsBook told plays w old tried between mid → KeepsBook told plays between mid tried after new → KeepsBook told plays w old tried after new
kept_both told plays w old tried between mid after new first second = record {
  stands = λ commands stands. let one = first.stands commands stands in second.stands one.0 one.1;
  unsettled = λ unsettled next leads. elim (second.unsettled unsettled next leads) [
    | inl was ↦ elim (first.unsettled was.0 next was.2) [
      | inl before ↦ inl (before.0, was.1 ∙ before.1, before.2)
      | inr new_one ↦ inr new_one
    ]
    | inr new_one ↦ inr new_one
  ];
}

-- a change that was recorded leaves nothing to settle
pub kept_settled : {D : Type 0} (told : D → Option DiskTold) (plays : Play ServiceWorld) (w : ServiceWorld) (old : Journal D)
    (tried : ServiceWorld → Type 0) (after : ServiceWorld) (new : Journal D) → is_settled new ≡ true
    → ((commands : List (List ℕ)) → Stands told plays empty_service w old commands → (more : List (List ℕ)) × Stands told plays empty_service after new more)
    → KeepsBook told plays w old tried after new
kept_settled told plays w old tried after new settled stands = record {
  stands = stands;
  unsettled = λ unsettled next leads. let both : true ≡ false = sym settled ∙ unsettled in cc;
}

-- ---- moments inside a part of a call

-- a part that leaves the disk has one moment
pub tries_nothing : {D : Type 0} (told : D → Option DiskTold) (plays : Play ServiceWorld) (w : ServiceWorld) (journal : Journal D)
    (tried : ServiceWorld → Type 0) → StandsFromNothing told plays w journal → TriesAtMost told plays w journal tried journal
tries_nothing told plays w journal tried stands =
    unmoved_moments (told (disk_of journal)) (HasWorldOrTried plays w journal tried)
    (λ t is image may. inl (stands_images told plays empty_service w journal stands.0 stands.1 t is image may))

pub tries_weaker : {D : Type 0} (told : D → Option DiskTold) (plays : Play ServiceWorld) (w : ServiceWorld) (old : Journal D)
    (tried also : ServiceWorld → Type 0) (new : Journal D) → ((next : ServiceWorld) → tried next → also next)
    → TriesAtMost told plays w old tried new → TriesAtMost told plays w old also new
tries_weaker told plays w old tried also new weaker each =
    at_each_of (told (disk_of old)) (told (disk_of new)) (HasWorldOrTried plays w old tried) (HasWorldOrTried plays w old also)
    (λ image has. elim has [ inl was ↦ inl was | inr new_one ↦ inr (new_one.0, new_one.1, weaker new_one.0 new_one.2) ]) each

pub tries_as : {D : Type 0} (told : D → Option DiskTold) (plays : Play ServiceWorld) (v w : ServiceWorld) (old : Journal D)
    (tried : ServiceWorld → Type 0) (new : Journal D) → v ≡ w → TriesAtMost told plays v old tried new → TriesAtMost told plays w old tried new
tries_as told plays v w old tried new same each = subst (λ (x : ServiceWorld). TriesAtMost told plays x old tried new) same each

-- what an image has behind the first part of a call
module _ {D : Type 0} (told : D → Option DiskTold) (plays : Play ServiceWorld) (w : ServiceWorld) (old : Journal D)
    (failed tried : ServiceWorld → Type 0) (between : ServiceWorld) (mid : Journal D) (kept : KeepsBook told plays w old failed between mid)
    (also : (next : ServiceWorld) → failed next → tried next) (from : tried between ⊎ (between ≡ w)) where
  has_world : (image : Image) → HasWorld plays empty_service between image → HasWorldOrTried plays w old tried image
  has_world image has = elim from [
    | inl new_one ↦ inr (between, has, new_one)
    | inr same ↦ inl (world_settled plays empty_service w (is_settled old) (prepared old) image
        (subst (λ (v : ServiceWorld). HasWorld plays empty_service v image) same has))
  ]

  has_next : (image : Image) (next : ServiceWorld) → is_settled mid ≡ false → plays between (prepared mid) next
      → HasWorld plays empty_service next image → HasWorldOrTried plays w old tried image
  has_next image next unsettled leads has = elim (kept.unsettled unsettled next leads) [
    | inl was ↦ inl (subst (λ (b : Bool). HasSettled plays empty_service w b (prepared old) image) (sym was.0) (inr (next, was.2, has)))
    | inr new_one ↦ inr (next, has, also next new_one)
  ]

  has_before : (image : Image) → HasSettled plays empty_service between (is_settled mid) (prepared mid) image
      → HasWorldOrTried plays w old tried image
  has_before image = by_settled (is_settled mid) refl
    where
      by_settled : (b : Bool) → is_settled mid ≡ b → HasSettled plays empty_service between b (prepared mid) image
          → HasWorldOrTried plays w old tried image
      by_settled true is has = has_world image has
      by_settled false is has = elim has [ inl world ↦ has_world image world | inr next ↦ has_next image next.0 is next.1 next.2 ]

  pub tries_both : (new : Journal D) → TriesAtMost told plays w old tried mid → TriesAtMost told plays between mid tried new
      → TriesAtMost told plays w old tried new
  tries_both new first second =
      at_both (told (disk_of old)) (told (disk_of mid)) (told (disk_of new)) (HasWorldOrTried plays w old tried)
      (HasWorldOrTried plays between mid tried) (HasWorldOrTried plays w old tried) (λ image has. has)
      (λ image has. elim has [ inl before ↦ has_before image before | inr new_one ↦ inr new_one ]) first second

-- a record of a plan that fits
pub tries_plan : {D : Type 0} (told : D → Option DiskTold) (core : CoreState) (p : RecordedState) (old new : Journal D) → IsFit core p
    → AtEachMoment (told (disk_of old)) (told (disk_of new)) (HasEither Plays empty_service (world_in core) old p.command)
    → TriesAtMost told Plays (world_in core) old (Carries (world_in core) p.plan) new
tries_plan told core p old new fit each =
    at_each_of (told (disk_of old)) (told (disk_of new)) (HasEither Plays empty_service (world_in core) old p.command)
    (HasWorldOrTried Plays (world_in core) old (Carries (world_in core) p.plan))
    (λ image has. elim has [ inl was ↦ inl was | inr next ↦ inr (next.0, next.2, replayed_is_carried core p next.0 fit next.1) ]) each

-- ---- a change that wasn't recorded

-- the command of a plan that fits leads to the world that the plan makes
abbrev pub LeadsTo : CoreState → RecordedState → ServiceWorld → Type 0
LeadsTo core p next = Carries (world_in core) p.plan next

kept_fault : {D : Type 0} (told : D → Option DiskTold) (core : CoreState) (p : RecordedState) (old new : Journal D)
    (fault : RecordFault) → IsFit core p → LeavesToSettle old p.command fault new
    → is_settled new ≡ false → (next : ServiceWorld) → Plays (world_in core) (prepared new) next
    → ((is_settled old ≡ false) × (world_in core ≡ world_in core) × Plays (world_in core) (prepared old) next)
    ⊎ ((standin_of fault ≡ Unavailable) × LeadsTo core p next)
kept_fault told core p old new DiskFailed fit left unsettled next leads =
    elim (left unsettled) [
      | inl was ↦ inl (was.0, refl, subst (λ (c : List ℕ). Plays (world_in core) c next) was.1 leads)
      | inr same ↦ inr (refl, replayed_is_carried core p next fit (subst (λ (c : List ℕ). Plays (world_in core) c next) same leads))
    ]
kept_fault told core p old new (Full end size) fit settled unsettled next leads = let both : true ≡ false = sym settled ∙ unsettled in absurd cc
kept_fault told core p old new NoMemory fit settled unsettled next leads = let both : true ≡ false = sym settled ∙ unsettled in absurd cc

pub kept_err : {D : Type 0} (told : D → Option DiskTold) (core : CoreState) (p : RecordedState) (old new : Journal D)
    (after : ServiceWorld) (fault : RecordFault) → IsFit core p → after ≡ world_in core → LeavesToSettle old p.command fault new
    → ((commands : List (List ℕ)) → Stands told Plays empty_service (world_in core) old commands → Stands told Plays empty_service after new commands)
    → KeepsBook told Plays (world_in core) old (λ next. (standin_of fault ≡ Unavailable) × LeadsTo core p next) after new
kept_err told core p old new after fault fit same left stands = record {
  stands = λ commands stood. (commands, stands commands stood);
  unsettled = λ unsettled next leads.
      elim (kept_fault told core p old new fault fit left unsettled next (subst (λ (v : ServiceWorld). Plays v (prepared new) next) same leads)) [
        | inl was ↦ inl (was.0, same, was.2)
        | inr new_one ↦ inr new_one
      ];
}

pub rose_err : (T : Type 0) (end size before now : ℕ) (fault : RecordFault) → HasRecordCause end size before fault now
    → RoseIf (has_failed {T = T} (Err (standin_of fault))) before now
rose_err T end size before now DiskFailed cause = cause
rose_err T end size before now (Full at length) cause = cause.0
rose_err T end size before now NoMemory cause = cause

pub never_spent : (T : Type 0) (fault : RecordFault) → ◌≢◌ {A = Result T Standin} (Err (standin_of fault)) (Err Spent)
never_spent T DiskFailed is = cc
never_spent T (Full end size) is = cc
never_spent T NoMemory is = cc

-- what came of a part of a call is a stand-in that is told
pub same_standin : (T : Type 0) (standin : Standin) → ◌≡◌ {A = Result T Standin} (Err standin) (Err Unavailable)
    → Instead standin ≡ Instead Unavailable
same_standin T standin is = let one : standin ≡ Unavailable = cc in ap Instead one

pub same_failed : (T U : Type 0) (standin : Standin) → ◌≡◌ {A = Result T Standin} (Err standin) (Err Unavailable)
    → ◌≡◌ {A = Result U Standin} (Err standin) (Err Unavailable)
same_failed T U standin is = let one : standin ≡ Unavailable = cc in ap Err one

pub not_spent : (T : Type 0) (standin : Standin) → ◌≢◌ {A = Result T Standin} (Err standin) (Err Spent) → standin ≢ Spent
not_spent T standin other is = other (ap Err is)

-- ---- due deadlines

pub quiet_caught : (w : ServiceWorld) (moment : ℤ) → IsQuiet w.rows moment → CatchesUp w moment w
quiet_caught w moment quiet = record {
  due = record {
    rows = record { deadlines = []; rows = w.rows.invocations; carried = (quiet, refl); after_is = refl };
    results = refl;
    exonerations = refl;
    artifacts = refl;
  };
  kept = refl;
  stored = refl;
}

-- ---- a request's change

-- the plan's request is told its answer, in the world that the plan makes
pub plan_told : (s : Settings) (w : ServiceWorld) (moment : ℤ) (asked : Asked) (plan : PlanState) (is : IsPlanOf s w moment asked plan)
    (after : ServiceWorld) → Carries w plan after → IsTold s w moment asked after is.answer
plan_told s w moment asked plan is after carries =
    let both = is.acts after carries in
    performed (record { caller = is.caller; request = is.request; accepted = is.accepted; acts = both.0; answers = both.1 })

pub change_told : (s : Settings) (w : ServiceWorld) (moment : ℤ) (asked : Asked) (plan : PlanState) (is : IsPlanOf s w moment asked plan)
    (after : ServiceWorld) (answered : Option Answer) (answer : Answer) → Carries w plan after → answered ≡ plan.answer → answered ≡ Some answer
    → IsTold s w moment asked after answer
change_told s w moment asked plan is after answered answer carries given some =
    let same : Some is.answer ≡ Some answer = sym is.answer_is ∙ (sym given ∙ some) in
    let answers : is.answer ≡ answer = cc in
    subst (λ (a : Answer). IsTold s w moment asked after a) answers (plan_told s w moment asked plan is after carries)

pub change_answers : (s : Settings) (w : ServiceWorld) (moment : ℤ) (asked : Asked) (plan : PlanState) (is : IsPlanOf s w moment asked plan)
    (answered : Option Answer) → answered ≡ plan.answer → answered ≡ None → ⊥
change_answers s w moment asked plan is answered given none =
    let no : Some is.answer ≡ None = sym is.answer_is ∙ (sym given ∙ none) in cc

-- what is told where it wasn't recorded
pub change_unrecorded : (s : Settings) (w : ServiceWorld) (moment : ℤ) (asked : Asked) (plan : PlanState) (is : IsPlanOf s w moment asked plan)
    (standin : Standin) (after next : ServiceWorld) → Carries w plan next → after ≡ w → standin ≢ Spent
    → IsToldBy s w moment asked (Instead standin) after
change_unrecorded s w moment asked plan is Unavailable after next carries same unspent =
    (same, (next, is.answer, plan_told s w moment asked plan is next carries, is.changes next carries))
change_unrecorded s w moment asked plan is Memory after next carries same unspent = same
change_unrecorded s w moment asked plan is Spent after next carries same unspent = absurd (unspent refl)

pub told_rose : (T : Type 0) (standin : Standin) (before now : ℕ) → RoseIf (has_failed {T = T} (Err standin)) before now
    → RoseIf (is_unavailable (Instead standin)) before now
told_rose T Unavailable before now rose = rose
told_rose T Memory before now rose = rose
told_rose T Spent before now rose = rose

-- ---- the whole call

-- where the disk failed behind due deadlines, there was something to record
takes_record : (s : Settings) (w between : ServiceWorld) (moment : ℤ) (asked : Asked) → CatchesUp w moment between
    → IsDueAt w.rows moment ⊎ (between ≡ w)
    → ((next : ServiceWorld) × (answer : Answer) × IsTold s between moment asked next answer × next ≢ between) → TakesRecord s w moment asked
takes_record s w between moment asked caught (inl due) changes = inl due
takes_record s w between moment asked caught (inr same) changes =
    inr (record {
      after = changes.0;
      answer = changes.1;
      step = record { between = between; advances = caught; judged = changes.2 };
      other = λ is. changes.3 (is ∙ sym same);
    })

tells_after : (s : Settings) (w between after : ServiceWorld) (e : Entry) (told : Told) → e.rose ≡ is_unavailable told
    → CatchesUp w e.moment between → IsDueAt w.rows e.moment ⊎ (between ≡ w) → IsToldBy s between e.moment e.asked told after → Tells s w e told after
tells_after s w between after e (Made answer) rose caught due told = record { between = between; advances = caught; judged = told }
tells_after s w between after e (Instead Memory) rose caught due told = inr (subst (CatchesUp w e.moment) (sym told) caught)
tells_after s w between after e (Instead Unavailable) rose caught due told = record {
  failed = rose;
  takes_record = takes_record s w between e.moment e.asked caught due told.1;
  no_more = inr (subst (CatchesUp w e.moment) (sym told.0) caught);
}
tells_after s w between after e (Instead Spent) rose caught due told = absurd told

pub serves_after : (s : Settings) (w between after : ServiceWorld) (seat : ℕ) (now moment : ℤ) (asked : Asked) (told : Told)
    → moment ≡ moment_of w.rows.last now → IsCallMoment moment → w.rows.last ≤ℤ moment → CatchesUp w moment between
    → IsDueAt w.rows moment ⊎ (between ≡ w) → IsToldBy s between moment asked told after
    → Leads s w (entry_at w seat now asked told (is_unavailable told)) after
serves_after s w between after seat now moment asked told is call later caught due told_so =
    let e : Entry = entry_at w seat now asked told (is_unavailable told) in
    record {
      moment = subst IsCallMoment is call;
      later = subst (λ (t : ℤ). w.rows.last ≤ℤ t) is later;
      tells = tells_after s w between after e told refl (subst (λ (t : ℤ). CatchesUp w t between) is caught)
          (subst (λ (t : ℤ). IsDueAt w.rows t ⊎ (between ≡ w)) is due) (subst (λ (t : ℤ). IsToldBy s between t asked told after) is told_so);
    }

tells_at_once : (s : Settings) (w after : ServiceWorld) (e : Entry) (standin : Standin) → e.rose ≡ is_unavailable (Instead standin) → after ≡ w
    → IsDueAt w.rows e.moment → standin ≢ Spent → Tells s w e (Instead standin) after
tells_at_once s w after e Unavailable rose same due unspent = record { failed = rose; takes_record = inl due; no_more = inl same }
tells_at_once s w after e Memory rose same due unspent = inl same
tells_at_once s w after e Spent rose same due unspent = absurd (unspent refl)

pub serves_at_once : (s : Settings) (w after : ServiceWorld) (seat : ℕ) (now moment : ℤ) (asked : Asked) (standin : Standin)
    → moment ≡ moment_of w.rows.last now → IsCallMoment moment → w.rows.last ≤ℤ moment → after ≡ w → IsDueAt w.rows moment → standin ≢ Spent
    → Leads s w (entry_at w seat now asked (Instead standin) (is_unavailable (Instead standin))) after
serves_at_once s w after seat now moment asked standin is call later same due unspent =
    let e : Entry = entry_at w seat now asked (Instead standin) (is_unavailable (Instead standin)) in
    record {
      moment = subst IsCallMoment is call;
      later = subst (λ (t : ℤ). w.rows.last ≤ℤ t) is later;
      tells = tells_at_once s w after e standin refl same (subst (λ (t : ℤ). IsDueAt w.rows t) is due) unspent;
    }

-- what was tried behind due deadlines was to be recorded of the entry
pub tried_step : (s : Settings) (w between next : ServiceWorld) (seat : ℕ) (now moment : ℤ) (asked : Asked) (told : Told)
    → moment ≡ moment_of w.rows.last now → CatchesUp w moment between → ((answer : Answer) × IsTold s between moment asked next answer)
    → IsTried s w (entry_at w seat now asked told (is_unavailable told)) next
tried_step s w between next seat now moment asked told is caught step =
    inr (
      step.0,
      record {
        between = between;
        advances = subst (λ (t : ℤ). CatchesUp w t between) is caught;
        judged = subst (λ (t : ℤ). IsTold s between t asked next step.0) is step.1;
      },
    )

pub tried_due : (s : Settings) (w next : ServiceWorld) (seat : ℕ) (now moment : ℤ) (asked : Asked) (told : Told)
    → moment ≡ moment_of w.rows.last now → IsDueAt w.rows moment × CatchesUp w moment next
    → IsTried s w (entry_at w seat now asked told (is_unavailable told)) next
tried_due s w next seat now moment asked told is tried =
    inl (subst (λ (t : ℤ). IsDueAt w.rows t × CatchesUp w t next) is tried)
