-- What names rows isn't restricted: they are found alike, and rules are broken alike over them.
use Rattle.std.proofs.Common.{◌≡◌, ◌==◌, ◌&&◌, ℕ, ℤ, List, [], ◌∷◌, Option, Some, None, inl, inr, refl, sym, ap, ◌∙◌}
use Rattle.std.specs.List.{AllZip}
use Rattle.std.specs.Str.{bytes_eq}
use Rattle.std.proofs.lemmas.Option.{none-some}
use Rattle.names_realms.specs.declared.artifact_names.ArtifactName.{ArtifactName}
use Rattle.names_realms.specs.declared.result_names.ResultName.{ResultName}
use Rattle.policy_tables.specs.declared.tables.PolicyTables.{PolicyTables}
use Rattle.invocations.specs.declared.invocation.Invocation.{Invocation}
use Rattle.test_results.specs.declared.result.TestResult.{TestResult}
use Rattle.test_results.specs.Results as results
use Rattle.call_forms.specs.declared.asked.Asked.{Asked}
use Rattle.call_forms.specs.declared.forms.Refusal.{Refusal}
use Rattle.invocation_world.specs.World.{World}
use Rattle.query_pages.specs.Unseen.{AreLike}
use Rattle.service_laws.specs.RequestRules.declared.rules.Rule.{Rule}
use Rattle.service_laws.specs.RequestRules.declared.rules.Rule.TheVariants as rule
use Rattle.request_demands.specs.Settings.{Settings}
use Rattle.service_laws.specs.RequestRules.Named.{has_key, place_held, place_named, place_of_artifact, place_of_result}
use Rattle.request_demands.specs.Demands.{Demand}
use Rattle.request_demands.specs.Order.{FirstOf, Judges}
use Rattle.service_laws.specs.RequestRules.Broken.{IsAbsent, IsBroken, Sought, artifact_named, invocation_with, order, result_named, sought}
use Rattle.service_effects.specs.Service.{ServiceWorld, recorded}
use Rattle.service_laws.specs.RequestEffects.Places.{held_in}
use Rattle.service_laws.specs.ServiceCore.Step.{case_in}
use Rattle.restricted_fields.proofs.ListFacts.{zip_position}
use Rattle.restricted_fields.proofs.FileFacts.{found_files}
use Rattle.restricted_fields.proofs.BesideFacts.{AlikeOver, with_rows}

same_key : (policy : PolicyTables) (caller : ℕ) (rows : List Invocation) (key : results.Key) (a b : TestResult)
    → AreLike policy caller rows a b → has_key key a ≡ has_key key b
same_key policy caller rows key a b (inl same) = ap (has_key key) same
same_key policy caller rows key a b (inr d) =
    ap (λ h. (h == key.holder) && (bytes_eq a.test key.test && bytes_eq a.result key.id)) d.1.holder
    ∙ (ap (λ t. (b.holder == key.holder) && (bytes_eq t key.test && bytes_eq a.result key.id)) d.1.test
    ∙ ap (λ r. (b.holder == key.holder) && (bytes_eq b.test key.test && bytes_eq r key.id)) d.1.result)

held_alike : (policy : PolicyTables) (caller : ℕ) (rows : List Invocation) (xs ys : List TestResult) (name : ResultName) (place : Option ℕ)
    → AllZip (AreLike policy caller rows) xs ys → place_held xs name place ≡ place_held ys name place
held_alike policy caller rows xs ys name None like = refl
held_alike policy caller rows xs ys name (Some holder) like =
    let key = results.named holder name.test name.result in
    zip_position (AreLike policy caller rows) (has_key key) xs ys (same_key policy caller rows key) like

-- in both worlds, over these invocations, each name has one place
pub record FindAlike (rows : List Invocation) (w v : ServiceWorld) : Type 0 where
  pub results : (name : ResultName) → place_of_result rows w.results name ≡ place_of_result rows v.results name
  pub artifacts : (name : ArtifactName) → place_of_artifact rows w.artifacts name ≡ place_of_artifact rows v.artifacts name

pub found_alike : (policy : PolicyTables) (caller : ℕ) (rows : World) (w v : ServiceWorld) → AlikeOver policy caller rows w v
    → FindAlike rows.invocations w v
found_alike policy caller rows w v like = record {
  results = λ name. held_alike policy caller rows.invocations w.results v.results name (place_named rows.invocations name.invocation) like.results;
  artifacts = λ name. found_files policy caller rows.invocations w.artifacts v.artifacts name like.artifacts;
}

found_back : (rows : List Invocation) (w v : ServiceWorld) → FindAlike rows w v → FindAlike rows v w
found_back rows w v same =
    record { results = λ name. sym (same.results name); artifacts = λ name. sym (same.artifacts name) }

-- ---- rules

first_as : {A : Type 0} (this that : A → Type 0) → ((x : A) → this x → that x) → ((x : A) → that x → this x) → (xs : List A)
    (found : Option A) → FirstOf this xs found → FirstOf that xs found
first_as this that f g [] found h = h
first_as this that f g (x ∷ xs) found (inl h) = inl (f x h.0, h.1)
first_as this that f g (x ∷ xs) found (inr h) = inr ((λ y. h.0 (g x y)), first_as this that f g xs found h.1)

judged_as : {K : Type 0} (this that : K → Refusal → Type 0) → ((k : K) (r : Refusal) → this k r → that k r)
    → ((k : K) (r : Refusal) → that k r → this k r) → (rules : List K) (found : Option Refusal) → Judges this rules found
    → Judges that rules found
judged_as this that f g [] found h = h
judged_as this that f g (k ∷ ks) found (inl h) = inl (h.0, f k h.0 h.1, h.2)
judged_as this that f g (k ∷ ks) found (inr h) = inr ((λ r y. h.0 r (g k r y)), judged_as this that f g ks found h.1)

absent_as : (rows : List Invocation) (w v : ServiceWorld) → FindAlike rows w v → (what : Sought)
    → IsAbsent rows (held_in (recorded w)) what → IsAbsent rows (held_in (recorded v)) what
absent_as rows w v same (invocation_with id) h = h
absent_as rows w v same (result_named name) h = sym (same.results name) ∙ h
absent_as rows w v same (artifact_named name) h = sym (same.artifacts name) ∙ h

broken_as : (s : Settings) (rows : World) (w v : ServiceWorld) (moment : ℤ) (asked : Asked) (caller : ℕ) (d : Demand) → d.number ≡ None
    → FindAlike rows.invocations w v → FindAlike rows.invocations v w → (k : Rule) (r : Refusal)
    → IsBroken (case_in s (with_rows rows w) moment asked caller) d k r → IsBroken (case_in s (with_rows rows v) moment asked caller) d k r
broken_as s rows w v moment asked caller d none on back rule.RequestIdReused r h = absurd (none-some h.number (sym none ∙ h.shows))
broken_as s rows w v moment asked caller d none on back rule.NotFound r h = record {
  what = h.what;
  first = first_as (IsAbsent rows.invocations (held_in (recorded w))) (IsAbsent rows.invocations (held_in (recorded v))) (absent_as rows.invocations w v on)
      (absent_as rows.invocations v w back) (sought d) (Some h.what) h.first;
  refusal_is = h.refusal_is;
}
broken_as s rows w v moment asked caller d none on back rule.NoUpdateToken r h = h
broken_as s rows w v moment asked caller d none on back rule.BadUpdateToken r h = h
broken_as s rows w v moment asked caller d none on back rule.Denied r h = h
broken_as s rows w v moment asked caller d none on back rule.NotActive r h = h
broken_as s rows w v moment asked caller d none on back rule.DeadlineRange r h = h
broken_as s rows w v moment asked caller d none on back rule.Itself r h = h
broken_as s rows w v moment asked caller d none on back rule.TooMany r h = h
broken_as s rows w v moment asked caller d none on back rule.Taken r h = h

-- of a demand without a number the same is told in both worlds
pub judged_alike : (s : Settings) (rows : World) (w v : ServiceWorld) (moment : ℤ) (asked : Asked) (caller : ℕ) (d : Demand)
    (found : Option Refusal) → d.number ≡ None → FindAlike rows.invocations w v
    → Judges (IsBroken (case_in s (with_rows rows w) moment asked caller) d) order found
    → Judges (IsBroken (case_in s (with_rows rows v) moment asked caller) d) order found
judged_alike s rows w v moment asked caller d found none same =
    let back = found_back rows.invocations w v same in
    judged_as (IsBroken (case_in s (with_rows rows w) moment asked caller) d) (IsBroken (case_in s (with_rows rows v) moment asked caller) d)
    (broken_as s rows w v moment asked caller d none same back) (broken_as s rows v w moment asked caller d none back same) order found
