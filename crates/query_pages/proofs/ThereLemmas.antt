-- There is a page of each query, as each caller sees it.
use Rattle.std.proofs.Common.{◌≡◌, ◌⊎◌, ℕ, true, false, if◌then◌else◌, List, [], ◌∷◌, take, Option, Some, None, refl, sym, ◌∙◌, subst, inl, inr}
use Rattle.std.specs.List.{slice_get}
use Rattle.std.specs.Option.{option_map}
use Rattle.std.proofs.lemmas.List.Elements.{recursion_from_All}
use Rattle.policy_checks.specs.declared.permission.Permission.{Permission}
use Rattle.policy_checks.specs.declared.permission.Permission.TheVariants.{GetTestExoneration, GetTestResult}
use Rattle.policy_tables.specs.declared.tables.PolicyTables.{PolicyTables}
use Rattle.permissions.specs.Allows.{Allows}
use Rattle.permissions.proofs.AllowLaws.{allows_or_not}
use Rattle.invocations.specs.declared.invocation.Invocation.{Invocation}
use Rattle.test_results.specs.declared.exoneration.TestExoneration.{TestExoneration}
use Rattle.test_results.specs.declared.result.TestResult.{TestResult}
use Rattle.verdict_lists.specs.declared.verdict.Verdict.{Verdict}
use Rattle.verdict_lists.specs.Orders.{id_at}
use Rattle.verdict_lists.specs.Verdicts.{IsVerdict, verdict_key}
use Rattle.verdict_lists.specs.World.{World}
use Rattle.verdict_lists.proofs.ListLemmas.{In, contains_from, every_at, in_from}
use Rattle.verdict_lists.proofs.ThereLemmas.{has_list_is, has_listing_is}
use Rattle.verdict_masks.specs.Masks.{MaySeeResult, ShowsVariant}
use Rattle.verdict_masks.proofs.CutLemmas.{has_cut_is}
use Rattle.verdict_pages.specs.Keys.{by_result, by_verdict, more_results, more_verdicts, result_place, result_rows, verdict_place, verdict_rows}
use Rattle.verdict_pages.specs.Pages.{next_key}
use Rattle.query_pages.specs.Laws.{HasResultPage, HasShownResult, HasVerdictPage}
use Rattle.query_pages.specs.Pages.{after_result, after_verdict}
use Rattle.query_pages.specs.Seen.{SeenVerdict}
use Rattle.query_pages.specs.Shown.{IsExplained, IsShownResult, IsShownVerdict, seen_of}
use Rattle.query_pages.specs.Tokens.{result_token, verdict_token}
use Rattle.query_pages.specs.Unseen.{IsGranted}
use Rattle.query_pages.proofs.RowLemmas.{in_page, in_take}
use Rattle.query_pages.proofs.ZipLemmas.{zip_there}

-- what is granted can be told
granted_by_case : (policy : PolicyTables) (caller : ℕ) (permission : Permission) (invocations : List Invocation) (place : ℕ) (o : Option Invocation)
    → slice_get invocations place ≡ o → IsGranted policy caller permission invocations place ⊎ (IsGranted policy caller permission invocations place → ⊥)
granted_by_case policy caller permission invocations place None e = inr (λ h. let never : None ≡ Some h.0 = sym e ∙ h.1 in cc)
granted_by_case policy caller permission invocations place (Some holder) e = elim (allows_or_not policy caller permission holder.realm) [
  | inl yes_ ↦ inl (holder, e, yes_)
  | inr no_ ↦ inr (λ h.
      let both : Some holder ≡ Some h.0 = sym e ∙ h.1 in
      let same : h.0 ≡ holder = cc in
      no_ (subst (λ (i : Invocation). Allows policy caller permission i.realm) same h.2))
]

granted_or_not : (policy : PolicyTables) (caller : ℕ) (permission : Permission) (invocations : List Invocation) (place : ℕ)
    → IsGranted policy caller permission invocations place ⊎ (IsGranted policy caller permission invocations place → ⊥)
granted_or_not policy caller permission invocations place = granted_by_case policy caller permission invocations place (slice_get invocations place) refl

see_by_case : (world : World) (policy : PolicyTables) (caller place : ℕ) (o : Option TestResult) → slice_get world.results place ≡ o
    → MaySeeResult world policy caller place ⊎ (MaySeeResult world policy caller place → ⊥)
see_by_case world policy caller place None e = inr (λ h. let never : None ≡ Some h.0 = sym e ∙ h.1 in cc)
see_by_case world policy caller place (Some row) e = elim (granted_or_not policy caller GetTestResult world.invocations row.holder) [
  | inl yes_ ↦ inl (row, e, yes_.0, yes_.1, yes_.2)
  | inr no_ ↦ inr (λ h.
      let both : Some row ≡ Some h.0 = sym e ∙ h.1 in
      let same : h.0 ≡ row = cc in
      no_ (subst (λ (r : TestResult). IsGranted policy caller GetTestResult world.invocations r.holder) same (h.2, h.3, h.4)))
]

see_or_not : (world : World) (policy : PolicyTables) (caller place : ℕ) → MaySeeResult world policy caller place ⊎ (MaySeeResult world policy caller place → ⊥)
see_or_not world policy caller place = see_by_case world policy caller place (slice_get world.results place) refl

-- what is shown of a result
pub has_shown_result_is : HasShownResult
has_shown_result_is world policy caller place row e = elim (see_or_not world policy caller place) [
  | inl yes_ ↦ (
    record { invocation = id_at world row.holder; result = seen_of false row.message row },
    record { row = row; there = e; invocation = refl; tells = yes_; shows = refl },
  )
  | inr no_ ↦
      let cut = has_cut_is row.message in (
        record { invocation = id_at world row.holder; result = seen_of true cut.0 row },
        record { row = row; there = e; invocation = refl; tells = no_; shows = (cut.0, cut.1, refl) },
      )
]

-- what is told of an exoneration
explained_by_case : (world : World) (policy : PolicyTables) (caller place : ℕ) (o : Option TestExoneration) → slice_get world.exonerations place ≡ o
    → (told : Option (List ℕ)) × IsExplained world policy caller place told
explained_by_case world policy caller place None e = (None, λ h. let never : None ≡ Some h.0 = sym e ∙ h.1 in cc)
explained_by_case world policy caller place (Some row) e = elim (granted_or_not policy caller GetTestExoneration world.invocations row.holder) [
  | inl yes_ ↦ (Some row.explanation, ((row, e, yes_.0, yes_.1, yes_.2), refl))
  | inr no_ ↦ (
    None,
    λ h.
        let both : Some row ≡ Some h.0 = sym e ∙ h.1 in
        let same : h.0 ≡ row = cc in
        no_ (subst (λ (r : TestExoneration). IsGranted policy caller GetTestExoneration world.invocations r.holder) same (h.2, h.3, h.4)),
  )
]

-- whether one of some results may be seen
one_or_none : (world : World) (policy : PolicyTables) (caller : ℕ) (places : List ℕ)
    → ((p : ℕ) × In p places × MaySeeResult world policy caller p) ⊎ ((p : ℕ) → In p places → MaySeeResult world policy caller p → ⊥)
one_or_none world policy caller [] = inr (λ p i may. i)
one_or_none world policy caller (place ∷ places) = elim (see_or_not world policy caller place) [
  | inl yes_ ↦ inl (place, inl refl, yes_)
  | inr no_ ↦ elim (one_or_none world policy caller places) [
    | inl found ↦ inl (found.0, inr found.1, found.2)
    | inr none ↦ inr (λ p i may. elim i [
      | inl same ↦ no_ (subst (MaySeeResult world policy caller) (sym same) may)
      | inr later ↦ none p later may
    ])
  ]
]

variant_or_not : (world : World) (policy : PolicyTables) (caller : ℕ) (v : Verdict) → ShowsVariant world policy caller v ⊎ (ShowsVariant world policy caller v → ⊥)
variant_or_not world policy caller v = elim (one_or_none world policy caller v.results) [
  | inl found ↦ inl (found.0, contains_from v.results found.0 found.1, found.2)
  | inr none ↦ inr (λ h. none h.0 (in_from v.results h.0 h.1) h.2)
]

-- what is shown of a verdict
has_shown_verdict : (world : World) (roots : List ℕ) (policy : PolicyTables) (caller count : ℕ) (v : Verdict) → IsVerdict world roots v
    → (shown : SeenVerdict) × IsShownVerdict world policy caller count v shown
has_shown_verdict world roots policy caller count v h =
    let results = zip_there (IsShownResult world policy caller) (take count v.results) (λ p i.
    let r = ((h.results p).0 (contains_from v.results p (in_take count v.results p i))).0 in
    has_shown_result_is world policy caller p r.0 r.1) in
    let exonerations = zip_there (IsExplained world policy caller) v.exonerations
    (λ p i. explained_by_case world policy caller p (slice_get world.exonerations p) refl) in
    let key = verdict_key world v in
    elim (variant_or_not world policy caller v) [
      | inl yes_ ↦ (
        record { test = key.test; variant = Some key.pairs; label = v.label; status = v.status; results = results.0; exonerations = exonerations.0 },
        record { test = refl; variant = (yes_, refl); label = refl; status = refl; results = results.1; exonerations = exonerations.1 },
      )
      | inr no_ ↦ (
        record { test = key.test; variant = None; label = v.label; status = v.status; results = results.0; exonerations = exonerations.0 },
        record { test = refl; variant = no_; label = refl; status = refl; results = results.1; exonerations = exonerations.1 },
      )
    ]

pub has_verdict_page_is : HasVerdictPage
has_verdict_page_is world policy caller query =
    let list = has_list_is world query.roots in
    let after = after_verdict query in
    let rows = verdict_rows world list.0 after query.size in
    let shown = zip_there (IsShownVerdict world policy caller query.results) rows (λ v i.
    has_shown_verdict world query.roots policy caller query.results v
    (every_at (IsVerdict world query.roots) list.0 (recursion_from_All (IsVerdict world query.roots) list.0 list.1.each) v
    (in_page by_verdict (verdict_place world) list.0 after query.size v i))) in
    let next : Option (List ℕ) = if more_verdicts world list.0 after query.size
    then option_map (verdict_token query.query) (next_key by_verdict (verdict_place world) list.0 after query.size) else None in
    (record { verdicts = shown.0; next = next }, record { list = list.0; are = list.1; verdicts = shown.1; next = refl })

pub has_result_page_is : HasResultPage
has_result_page_is world policy caller query =
    let list = has_listing_is world query.roots in
    let after = after_result query in
    let rows = result_rows world list.0 after query.size in
    let shown = zip_there (IsShownResult world policy caller) rows (λ p i.
    let r = (list.1.all p).0 (contains_from list.0 p (in_page by_result (result_place world) list.0 after query.size p i)) in
    has_shown_result_is world policy caller p r.0 r.1) in
    let next : Option (List ℕ) = if more_results world list.0 after query.size
    then option_map (result_token query.query) (next_key by_result (result_place world) list.0 after query.size) else None in
    (record { rows = shown.0; next = next }, record { list = list.0; are = list.1; rows = shown.1; next = refl })
