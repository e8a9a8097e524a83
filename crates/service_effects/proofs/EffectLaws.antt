-- What an effect leaves of a valid world.
use Rattle.std.proofs.Common.{◌≡◌, ◌≢◌, ◌<◌, ◌≤◌, ◌+◌, ◌++◌, ℕ, ℤ, List, [], ◌∷◌, length, codes, Option, Some, refl, sym, ap, ◌∙◌, subst, inl, inr, arith, length-append}
use Rattle.std.specs.Prelude.{slice_get}
use Rattle.std.proofs.Common.{true}
use Rattle.std.proofs.lemmas.Bool.{cases_lt}
use Rattle.std.proofs.lemmas.Option.{same_Some}
use Rattle.artifacts.specs.declared.artifact.Artifact.{Artifact}
use Rattle.artifacts.specs.Artifacts as files
use Rattle.names_realms.specs.declared.pairs.Pair.{Pair}
use Rattle.names_realms.specs.declared.states.State.TheVariants.{Active}
use Rattle.inclusion_graph.specs.Edges.{edges_from, fresh, targets_of}
use Rattle.inclusion_graph.specs.Plans.{PlanState}
use Rattle.invocations.specs.declared.invocation.Invocation.{Invocation}
use Rattle.invocations.specs.Rows.{IsInState, begun, with_changed}
use Rattle.test_results.specs.declared.exoneration.TestExoneration.{TestExoneration}
use Rattle.test_results.specs.declared.result.TestResult.{TestResult}
use Rattle.test_results.specs.Exonerations as exonerations
use Rattle.test_results.specs.Results as results
use Rattle.invocation_world.specs.World.{World, IsValid, with_row}
use Rattle.invocation_world.specs.Settling.{Settles}
use Rattle.invocation_world.specs.Changes.{is_update, updated, with_begun, with_edges, with_inclusions, with_moment, with_row_updated, with_update}
use Rattle.invocation_world.proofs.KeepFacts.{MayChange, keeps_added, keeps_included, keeps_moment, keeps_retired, keeps_updated}
use Rattle.invocation_world.proofs.RowFacts.{active≢finalized, active≢finalizing, changed_here, row_in}
use Rattle.invocation_world.proofs.SettleFacts.{ended_or_same, settled_once}
use Rattle.invocation_world.proofs.UpdateFacts.{update_told}
use Rattle.invocation_world.proofs.ValidFacts.{valid_settles}
use Rattle.invocation_world.proofs.WorldFacts.{same_world}
use Rattle.std.proofs.lemmas.Bool.{cond-true}
use Rattle.service_effects.specs.declared.effect.Effect.{Effect}
use Rattle.service_effects.specs.declared.effect.Effect.TheVariants as does
use Rattle.service_effects.specs.Service.{Recorded}
use Rattle.service_effects.specs.Effects.{Does, Makes, artifacts_after, exonerations_after, results_after}
use Rattle.service_effects.specs.Fitting.{IsIncludable, IsTimely, Suits}
use Rattle.service_effects.specs.Refused.{IsUnrefused, table_full}
use Rattle.service_effects.specs.Laws.{EffectsAreChanges}

-- ---- settling

pub one_settling : (moment : ℤ) (w v x : World) → Settles moment w v → Settles moment w x → v ≡ x
one_settling moment w v x s t =
    same_world v x (settled_once moment w.inclusions w.invocations v.invocations x.invocations s.rows t.rows)
    (s.inclusions ∙ sym t.inclusions) (s.last ∙ sym t.last)

-- a change that leaves a valid world leaves nothing to settle
pub after_is : (moment : ℤ) (changed after : World) → IsValid changed → Settles moment changed after → after ≡ changed
after_is moment changed after valid settles = one_settling moment changed after changed settles (valid_settles moment changed valid)

pub settled_valid : (moment : ℤ) (w after : World) → IsValid w → Settles moment w after → IsValid after
settled_valid moment w after valid settles = subst IsValid (sym (after_is moment w after valid settles)) valid

-- ---- valid worlds

-- what may be changed is timely
pub may_change : (w : World) (moment : ℤ) → IsTimely w moment → MayChange moment w
may_change w moment timely = record { valid = timely.valid; call = timely.call; later = timely.later; quiet = timely.quiet }

few_of : (count : ℕ) → (65_536 ≤ count → ⊥) → count < 65_536
few_of count not = elim (cases_lt count 65_536) [ inl less ↦ less | inr many ↦ absurd (not many) ]

few_more : (count : ℕ) → (262_144 < count → ⊥) → count ≤ 262_144
few_more count not = elim (cases_lt 262_144 count) [ inl many ↦ absurd (not many) | inr few ↦ few ]

pub added_valid : (w : World) (moment : ℤ) (row : Invocation) → IsTimely w moment → Suits w moment (does.Add row)
    → length w.invocations < 65_536 → IsValid (with_row w row)
added_valid w moment row timely new few =
    keeps_added moment w row (may_change w moment timely) (new.free, few) new.is_row new.active new.made

pub updated_valid : (w : World) (moment : ℤ) (place : ℕ) (deadline : Option ℤ) (tags : Option (List Pair)) → IsTimely w moment
    → Suits w moment (does.Update place deadline tags) → IsValid (with_update moment place deadline tags w)
updated_valid w moment place deadline tags timely may =
    keeps_updated moment w place deadline tags (may_change w moment timely) may.active may.ahead may.pairs

-- the inclusions of a plan are all new
pub all_new : (w : World) (plan : PlanState) → IsIncludable w plan → fresh (targets_of w.inclusions plan.from) plan.targets ≡ plan.targets
all_new w plan may = ap (λ (held : List ℕ). fresh held plan.targets) (sym may.held) ∙ may.new

pub included_valid : (w : World) (moment : ℤ) (plan : PlanState) → IsTimely w moment → Suits w moment (does.Include plan)
    → length w.inclusions + length plan.targets ≤ 262_144 → IsValid (with_edges moment (edges_from plan.from plan.targets) w)
included_valid w moment plan timely may fit =
    let all = all_new w plan may in
    let same : with_inclusions moment plan.from plan.targets w ≡ with_edges moment (edges_from plan.from plan.targets) w =
    ap (λ (ts : List ℕ). with_edges moment (edges_from plan.from ts) w) all in
    let few : length w.inclusions + length (fresh (targets_of w.inclusions plan.from) plan.targets) ≤ 262_144 =
    subst (λ (ts : List ℕ). length w.inclusions + length ts ≤ 262_144) (sym all) fit in
    subst IsValid same
    (keeps_included moment w plan.from plan.targets (may_change w moment timely) may.active
    (λ k d low. (may.there k d low, may.elsewhere k d low)) few)

-- the moment of the last change alone
pub noted_valid : (w : World) (moment : ℤ) → IsTimely w moment → IsValid (with_moment moment w)
noted_valid w moment timely = keeps_moment moment w (may_change w moment timely)

-- what is refused for no full table has place
row_fits : (w : Recorded) (row : Invocation) → IsUnrefused w (does.Add row) → length w.rows.invocations < 65_536
row_fits w row unbroken =
    few_of (length w.rows.invocations) (λ many. unbroken (table_full (codes "invocations") (length w.rows.invocations)) (many, refl))

edges_fit : (w : Recorded) (plan : PlanState) → IsUnrefused w (does.Include plan)
    → length w.rows.inclusions + length plan.targets ≤ 262_144
edges_fit w plan unbroken =
    few_more (length w.rows.inclusions + length plan.targets)
    (λ many. unbroken (table_full (codes "inclusions") (length w.rows.inclusions)) (many, refl))

-- the invocations stay valid
pub rows_valid : (w : Recorded) (after : World) (moment : ℤ) (effect : Effect) → IsTimely w.rows moment → Suits w.rows moment effect
    → IsUnrefused w effect → Does moment effect w.rows after → IsValid after
rows_valid w after moment does.Nothing timely may unbroken acts = settled_valid moment w.rows after timely.valid acts
rows_valid w after moment (does.Add row) timely may unbroken acts =
    settled_valid moment (with_row w.rows row) after (added_valid w.rows moment row timely may (row_fits w row unbroken)) acts
rows_valid w after moment (does.Update place deadline tags) timely may unbroken acts =
    settled_valid moment (with_update moment place deadline tags w.rows) after (updated_valid w.rows moment place deadline tags timely may) acts
rows_valid w after moment (does.End place) timely may unbroken acts =
    keeps_retired moment w.rows place after (may_change w.rows moment timely) may acts
rows_valid w after moment (does.Include plan) timely may unbroken acts =
    settled_valid moment (with_edges moment (edges_from plan.from plan.targets) w.rows) after
    (included_valid w.rows moment plan timely may (edges_fit w plan unbroken)) acts
rows_valid w after moment (does.Results batch) timely may unbroken acts =
    settled_valid moment (with_moment moment w.rows) after (noted_valid w.rows moment timely) acts
rows_valid w after moment (does.Exonerations batch) timely may unbroken acts =
    settled_valid moment (with_moment moment w.rows) after (noted_valid w.rows moment timely) acts
rows_valid w after moment (does.Artifacts batch) timely may unbroken acts =
    settled_valid moment (with_moment moment w.rows) after (noted_valid w.rows moment timely) acts

-- ---- other worlds

added_other : (w : World) (row : Invocation) (after : World) → after ≡ with_row w row → after ≢ w
added_other w row after is same =
    let lengths : length (w.invocations ++ row ∷ []) ≡ length w.invocations = ap (λ (v : World). length v.invocations) (sym is ∙ same) in
    omega (arith, lengths, length-append w.invocations (row ∷ []))

pub update_here : (moment : ℤ) (place : ℕ) (deadline : Option ℤ) (tags : Option (List Pair)) (w : World) (row : Invocation)
    → slice_get w.invocations place ≡ Some row → is_update deadline tags row ≡ true
    → with_update moment place deadline tags w
    ≡ record { invocations = with_changed (updated deadline tags) w.invocations place; inclusions = w.inclusions; last = moment }
update_here moment place deadline tags w row here told =
    let moved : World = record {
      invocations = with_changed (updated deadline tags) w.invocations place;
      inclusions = w.inclusions;
      last = moment;
    } in
    ap (with_row_updated moment place deadline tags w) here ∙ cond-true (is_update deadline tags row) moved w told

updated_other : (moment : ℤ) (place : ℕ) (deadline : Option ℤ) (tags : Option (List Pair)) (w : World) (row : Invocation) (after : World)
    → slice_get w.invocations place ≡ Some row → is_update deadline tags row ≡ true
    → after ≡ with_update moment place deadline tags w → after ≢ w
updated_other moment place deadline tags w row after here told is same =
    let whole = sym (update_here moment place deadline tags w row here told) ∙ (sym is ∙ same) in
    let rows : with_changed (updated deadline tags) w.invocations place ≡ w.invocations = ap (λ (v : World). v.invocations) whole in
    (update_told deadline tags row).0 told
    (same_Some (updated deadline tags row) row
    (sym (changed_here (updated deadline tags) w.invocations place row here)
    ∙ (ap (λ (rs : List Invocation). slice_get rs place) rows ∙ here)))

-- a row whose finalization began isn't active any more
ended_other : (moment : ℤ) (place : ℕ) (w after : World) → IsInState Active w.invocations place
    → Settles moment (with_begun moment place w) after → after ≢ w
ended_other moment place w after active settles same =
    let mid = with_changed (begun moment) w.invocations place in
    let stood = row_in Active w.invocations place active in
    let stays : slice_get after.invocations place ≡ Some stood.0 =
    ap (λ (v : World). slice_get v.invocations place) same ∙ stood.1 in
    elim (ended_or_same moment w.inclusions mid after.invocations settles.rows place) [
      | inl h ↦ active≢finalized (sym stood.2 ∙ ap (λ (r : Invocation). r.state) (same_Some stood.0 _ (sym stays ∙ h.stands)))
      | inr kept ↦
          active≢finalizing (sym stood.2 ∙ ap (λ (r : Invocation). r.state)
          (same_Some stood.0 (begun moment stood.0)
          (sym stays ∙ (kept.1 ∙ changed_here (begun moment) w.invocations place stood.0 stood.1))))
    ]

included_other : (moment : ℤ) (from : ℕ) (targets : List ℕ) (w after : World) → targets ≢ []
    → after ≡ with_edges moment (edges_from from targets) w → after ≢ w
included_other moment from [] w after some is same = some refl
included_other moment from (target ∷ targets) w after some is same =
    let added = edges_from from (target ∷ targets) in
    let lengths : length (w.inclusions ++ added) ≡ length w.inclusions = ap (λ (v : World). length v.inclusions) (sym is ∙ same) in
    omega (arith, lengths, length-append w.inclusions added)

pub added_differs : (w : Recorded) (after : World) (moment : ℤ) (row : Invocation) → IsTimely w.rows moment → Suits w.rows moment (does.Add row)
    → IsUnrefused w (does.Add row) → Does moment (does.Add row) w.rows after → after ≢ w.rows
added_differs w after moment row timely may unbroken acts =
    added_other w.rows row after
    (after_is moment (with_row w.rows row) after (added_valid w.rows moment row timely may (row_fits w row unbroken)) acts)

pub updated_differs : (w after : World) (moment : ℤ) (place : ℕ) (deadline : Option ℤ) (tags : Option (List Pair)) → IsTimely w moment
    → Suits w moment (does.Update place deadline tags) → Does moment (does.Update place deadline tags) w after → after ≢ w
updated_differs w after moment place deadline tags timely may acts =
    updated_other moment place deadline tags w may.row after may.stands may.other
    (after_is moment (with_update moment place deadline tags w) after (updated_valid w moment place deadline tags timely may) acts)

pub included_differs : (w : Recorded) (after : World) (moment : ℤ) (plan : PlanState) → IsTimely w.rows moment → Suits w.rows moment (does.Include plan)
    → IsUnrefused w (does.Include plan) → Does moment (does.Include plan) w.rows after → after ≢ w.rows
included_differs w after moment plan timely may unbroken acts =
    included_other moment plan.from plan.targets w.rows after may.some
    (after_is moment (with_edges moment (edges_from plan.from plan.targets) w.rows) after
    (included_valid w.rows moment plan timely may (edges_fit w plan unbroken)) acts)

-- rows behind others make another list
longer : {A : Type 0} (rows batch after : List A) → batch ≢ [] → after ≡ rows ++ batch → after ≢ rows
longer rows [] after some is same = some refl
longer rows (x ∷ batch) after some is same =
    let lengths : length (rows ++ x ∷ batch) ≡ length rows = ap (λ xs. length xs) (sym is ∙ same) in
    omega (arith, lengths, length-append rows (x ∷ batch))

some_results : (batch : List TestResult) → results.holders_of batch ≢ [] → batch ≢ []
some_results batch some none = some (ap results.holders_of none)

some_exonerations : (batch : List TestExoneration) → exonerations.holders_of batch ≢ [] → batch ≢ []
some_exonerations batch some none = some (ap exonerations.holders_of none)

some_artifacts : (batch : List Artifact) → files.holders_of batch ≢ [] → batch ≢ []
some_artifacts batch some none = some (ap files.holders_of none)

leaves_other : (w after : Recorded) (moment : ℤ) (effect : Effect) → IsTimely w.rows moment → Suits w.rows moment effect
    → IsUnrefused w effect → Makes moment effect w after → effect ≢ does.Nothing → after ≢ w
leaves_other w after moment does.Nothing timely may unbroken makes some = absurd (some refl)
leaves_other w after moment (does.Add row) timely may unbroken makes some =
    λ same. added_differs w after.rows moment row timely may unbroken makes.rows (ap (λ (v : Recorded). v.rows) same)
leaves_other w after moment (does.Update place deadline tags) timely may unbroken makes some =
    λ same. updated_differs w.rows after.rows moment place deadline tags timely may makes.rows (ap (λ (v : Recorded). v.rows) same)
leaves_other w after moment (does.End place) timely may unbroken makes some =
    λ same. ended_other moment place w.rows after.rows may makes.rows (ap (λ (v : Recorded). v.rows) same)
leaves_other w after moment (does.Include plan) timely may unbroken makes some =
    λ same. included_differs w after.rows moment plan timely may unbroken makes.rows (ap (λ (v : Recorded). v.rows) same)
leaves_other w after moment (does.Results batch) timely may unbroken makes some =
    λ same. longer w.results batch after.results (some_results batch may.some) makes.results (ap (λ (v : Recorded). v.results) same)
leaves_other w after moment (does.Exonerations batch) timely may unbroken makes some =
    λ same. longer w.exonerations batch after.exonerations (some_exonerations batch may.some) makes.exonerations
    (ap (λ (v : Recorded). v.exonerations) same)
leaves_other w after moment (does.Artifacts batch) timely may unbroken makes some =
    λ same. longer w.artifacts batch.rows after.artifacts (some_artifacts batch.rows may.batch.some) makes.artifacts
    (ap (λ (v : Recorded). v.artifacts) same)

-- the invocations stay, where nothing is done
pub stays_same : (w after : World) (moment : ℤ) (effect : Effect) → IsTimely w moment → Does moment effect w after → effect ≡ does.Nothing
    → after ≡ w
stays_same w after moment effect timely acts is =
    after_is moment w after timely.valid (subst (λ (e : Effect). Does moment e w after) is acts)

same_recorded : (v w : Recorded) → v.rows ≡ w.rows → v.results ≡ w.results → v.exonerations ≡ w.exonerations → v.artifacts ≡ w.artifacts
    → v ≡ w
same_recorded v w rows results exonerations artifacts =
    let Of : World → List TestResult → List TestExoneration → List Artifact → Recorded =
    λ a b c d. record { rows = a; results = b; exonerations = c; artifacts = d } in
    ap (λ (a : World). Of a v.results v.exonerations v.artifacts) rows
    ∙ (ap (λ (b : List TestResult). Of w.rows b v.exonerations v.artifacts) results
    ∙ (ap (λ (c : List TestExoneration). Of w.rows w.results c v.artifacts) exonerations
    ∙ ap (Of w.rows w.results w.exonerations) artifacts))

pub all_stays_same : (w after : Recorded) (moment : ℤ) (effect : Effect) → IsTimely w.rows moment → Makes moment effect w after
    → effect ≡ does.Nothing → after ≡ w
all_stays_same w after moment effect timely makes is =
    same_recorded after w (stays_same w.rows after.rows moment effect timely makes.rows is)
    (makes.results ∙ ap (λ (e : Effect). results_after e w.results) is)
    (makes.exonerations ∙ ap (λ (e : Effect). exonerations_after e w.exonerations) is)
    (makes.artifacts ∙ ap (λ (e : Effect). artifacts_after e w.artifacts) is)

pub effects_change : EffectsAreChanges
effects_change w after moment effect timely may unbroken makes =
    (all_stays_same w after moment effect timely makes, leaves_other w after moment effect timely may unbroken makes)
