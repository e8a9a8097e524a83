-- Rows that are there, and the rows of a page.
use Rattle.std.proofs.Common.{◌≡◌, ◌<◌, ◌-◌, ℕ, zero, suc, Bool, true, if◌then◌else◌, List, [], ◌∷◌, length, take, get_or, nat_lt, Option, Some, None, Ordering, sym, ap, ◌∙◌, subst, inl, inr, arith}
use Rattle.std.specs.List.{All, slice_get}
use Rattle.std.specs.Ordering.{is_lt}
use Rattle.std.specs.Option.{option_map}
use Rattle.std.proofs.lemmas.Bool.{ltb-true}
use Rattle.std.proofs.lemmas.List.Elements.{All-from_recursion, recursion_from_All}
use Rattle.policy_checks.specs.declared.permission.Permission.TheVariants.{GetTestExoneration}
use Rattle.policy_tables.specs.declared.tables.PolicyTables.{PolicyTables}
use Rattle.permissions.specs.Allows.{Allows}
use Rattle.invocations.specs.declared.invocation.Invocation.{Invocation}
use Rattle.test_results.specs.declared.exoneration.TestExoneration.{TestExoneration}
use Rattle.test_results.specs.declared.result.TestResult.{TestResult}
use Rattle.verdict_lists.specs.declared.verdict.Verdict.{Verdict}
use Rattle.verdict_lists.specs.Listing.{AreListed}
use Rattle.verdict_lists.specs.Orders.{no_key, result_key}
use Rattle.verdict_lists.specs.Verdicts.{AreVerdicts, IsVerdict, first_key}
use Rattle.verdict_lists.specs.World.{World, AreRoots, IsKept, IsReachedResult}
use Rattle.verdict_lists.proofs.KeptLemmas.{got_or, reached_within}
use Rattle.verdict_lists.proofs.ListLemmas.{In, contains_from, every_at, every_from, from_filter}
use Rattle.verdict_lists.proofs.VerdictLemmas.{mapped_or}
use Rattle.verdict_pages.specs.Keys.{ResultPlace, VerdictPlace, by_result, by_verdict, result_place, result_rows, verdict_place, verdict_rows}
use Rattle.verdict_pages.specs.Pages.{last_key, page_rows}
use Rattle.query_pages.specs.Inside.{HasVerdict}
use Rattle.query_pages.specs.Shown.{HasResult, MaySeeExplanation}

pub got_from : {X : Type 0} (xs ys : List X) (k : ℕ) (x : X) → ys ≡ xs → true ≡ nat_lt k (length ys) → x ≡ get_or ys k x → slice_get xs k ≡ Some x
got_from xs ys k x same within is =
    subst (λ l. slice_get l k ≡ Some x) same (got_or ys k x (ltb-true k (length ys) (sym within)) ∙ ap Some (sym is))

-- what is reached is there
reached_there : (world : World) (roots : List ℕ) → IsKept world → AreRoots world roots → (place : ℕ) → IsReachedResult world roots place → HasResult world place
reached_there world roots kept are place r = (r.0, r.1, reached_within world roots r.0.holder kept are r.2)

verdict_there : (world : World) (roots : List ℕ) → IsKept world → AreRoots world roots → (v : Verdict) → IsVerdict world roots v → HasVerdict world v
verdict_there world roots kept are v h = record {
  some = h.there;
  each = All-from_recursion (HasResult world) v.results (every_from (HasResult world) v.results (λ p i.
      reached_there world roots kept are p ((h.results p).0 (contains_from v.results p i)).0));
}

pub in_take : {X : Type 0} (n : ℕ) (xs : List X) (y : X) → In y (take n xs) → In y xs
in_take zero xs y i = absurd i
in_take (suc n) [] y i = absurd i
in_take (suc n) (x ∷ xs) y (inl e) = inl e
in_take (suc n) (x ∷ xs) y (inr i) = inr (in_take n xs y i)

-- the rows of a page stand in its list
pub in_page : {X K : Type 0} (order : K → K → Ordering) (key : X → K) (list : List X) (after : Option K) (size : ℕ) (y : X)
    → In y (page_rows order key list after size) → In y list
in_page order key list None size y i = in_take size list y i
in_page {X} order key list (Some k) size y i =
    let p : X → Bool = λ row. is_lt (order k (key row)) in
    (from_filter p list y (in_take size _ y i)).0

pub verdicts_there : (world : World) (roots asked : List ℕ) (items list rows : List Verdict) (after : Option VerdictPlace) (size : ℕ) → IsKept world
    → AreRoots world roots → asked ≡ roots → AreVerdicts world asked items → list ≡ items → rows ≡ verdict_rows world list after size → All (HasVerdict world) rows
verdicts_there world roots asked items list rows after size kept are same h copy is =
    All-from_recursion (HasVerdict world) rows (every_from (HasVerdict world) rows (λ v i.
    let at : In v list = in_page by_verdict (verdict_place world) list after size v (subst (In v) is i) in
    let own = every_at (IsVerdict world asked) items (recursion_from_All (IsVerdict world asked) items h.each) v (subst (In v) copy at) in
    verdict_there world roots kept are v (subst (λ l. IsVerdict world l v) same own)))

pub results_there : (world : World) (roots asked items list rows : List ℕ) (after : Option ResultPlace) (size : ℕ) → IsKept world
    → AreRoots world roots → asked ≡ roots → AreListed world asked items → list ≡ items → rows ≡ result_rows world list after size → All (HasResult world) rows
results_there world roots asked items list rows after size kept are same h copy is =
    All-from_recursion (HasResult world) rows (every_from (HasResult world) rows (λ p i.
    let at : In p list = in_page by_result (result_place world) list after size p (subst (In p) is i) in
    let own = (h.all p).0 (contains_from items p (subst (In p) copy at)) in
    reached_there world roots kept are p (subst (λ l. IsReachedResult world l p) same own)))

-- the key of the last row
pub last_is : {X K : Type 0} (order : K → K → Ordering) (key : X → K) (rows : List X) (x : X) (after : Option K)
    → slice_get rows (length rows - 1) ≡ Some x → last_key order key after rows ≡ Some (key x)
last_is order key [] x after e = let never : None ≡ Some x = e in cc
last_is order key (row ∷ []) x after e = let same : row ≡ x = cc in ap (λ y. Some (key y)) same
last_is order key (row ∷ (next ∷ rows)) x after e =
    let at : length (row ∷ (next ∷ rows)) - 1 ≡ suc (length (next ∷ rows) - 1) = omega arith in
    last_is order key (next ∷ rows) x (Some (key row)) (subst (λ n. slice_get (row ∷ (next ∷ rows)) n ≡ Some x) at e)

pub last_token : {X K : Type 0} (order : K → K → Ordering) (key : X → K) (token : K → List ℕ) (rows : List X) (x : X) (more : Bool) (text : List ℕ) (after : Option K)
    → more ≡ true → Some x ≡ slice_get rows (length rows - 1) → text ≡ token (key x) → Some text ≡ (if more then option_map token (last_key order key after rows) else None)
last_token {X} {K} order key token rows x more text after yes_ last is =
    ap Some is
    ∙ ap (λ (o : Option K). option_map token o) (sym (last_is order key rows x after (sym last)))
    ∙ ap (λ b. if b then option_map token (last_key order key after rows) else None) (sym yes_)

-- the test and the pairs of a verdict are those of its first result
pub first_key_is : (world : World) (places : List ℕ) (row : TestResult) → 0 < length places → slice_get world.results (get_or places 0 0) ≡ Some row
    → first_key world places ≡ result_key world row
first_key_is world [] row some e = absurd (omega arith)
first_key_is world (place ∷ places) row some e = mapped_or (result_key world) world.results place row no_key e

-- where the holder's realm doesn't grant it, the explanation isn't seen
pub never_explained : (world : World) (policy : PolicyTables) (caller place : ℕ) (row : TestExoneration) (holder : Invocation)
    → slice_get world.exonerations place ≡ Some row → slice_get world.invocations row.holder ≡ Some holder
    → (Allows policy caller GetTestExoneration holder.realm → ⊥) → MaySeeExplanation world policy caller place → ⊥
never_explained world policy caller place row holder there held never may =
    let both : Some row ≡ Some may.0 = sym there ∙ may.1 in
    let same : row ≡ may.0 = cc in
    let holders : Some holder ≡ Some may.2 = sym held ∙ ap (λ (r : TestExoneration). slice_get world.invocations r.holder) same ∙ may.3 in
    let own : may.2 ≡ holder = cc in
    never (subst (λ (h : Invocation). Allows policy caller GetTestExoneration h.realm) own may.4)
