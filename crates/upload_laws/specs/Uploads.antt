-- A report that is uploaded within a history, and what stands of it then.
use Rattle.std.specs.Prelude.{◌≡◌, ℕ, List, All, Contains, Some, slice_get}
use Rattle.test_results.specs.declared.result.TestResult.{TestResult}
use Rattle.test_results.specs.Batches.{with_holder}
use Rattle.test_results.specs.Results.{HasUniqueKeys, IsPlaceOf, key_of}
use Rattle.call_forms.specs.declared.asked.Asked.{Asked}
use Rattle.call_forms.specs.declared.forms.Answer.{Answer}
use Rattle.call_forms.specs.declared.forms.Told.TheVariants.{Made}
use Rattle.kept_replies.specs.Kept.{IsFree}
use Rattle.service_laws.specs.RequestRules.Named.{place_named}
use Rattle.service_laws.specs.RequestDemands.Numbered.{digest_of}
use Rattle.service_laws.specs.RequestDemands.Settings.{HasNames, Settings, caller_name, caller_of}
use Rattle.service_effects.specs.Service.{ServiceWorld}
use Rattle.service_laws.specs.ServiceCore.History.{Entry, IsLegal}
use Rattle.service_laws.specs.Validity.{IsValid}
use Rattle.upload_laws.specs.Reports.{CanBeSent, Report, plan_in, results_in}
use Rattle.upload_laws.specs.Sending.{asked_by}

-- The same is asked, by whatever tokens.
pub record IsSameCall (asked other : Asked) : Type 0 where
  pub service : asked.service ≡ other.service
  pub method : asked.method ≡ other.method
  pub body : asked.body ≡ other.body

-- The entry asks this for a caller, and is told a reply of status 200.
pub record Grants (s : Settings) (caller : ℕ) (asked : Asked) (entry : Entry) : Type 0 where
  pub asks : IsSameCall entry.asked asked
  pub caller_is : caller_of s entry.asked.bearer ≡ Some caller
  pub answer : Answer
  pub told : entry.told ≡ Made answer
  pub good : answer.status ≡ 200

-- An entry of the history does.
abbrev pub IsGranted : Settings → ℕ → List Entry → Asked → Type 0
IsGranted s caller h asked =
    (entry : Entry) × Contains h entry × Grants s caller asked entry

-- Nothing else that is asked in the history has the digest of this.
abbrev pub IsAloneIn : List Entry → Asked → Type 0
IsAloneIn h asked =
    All (λ entry. digest_of entry.asked ≡ digest_of asked → IsSameCall entry.asked asked) h

-- Each batch of the report was granted to one caller in a history from this world, in which nothing
-- was kept for its number and the caller; and nothing else that was asked has its digest.
pub record IsUploaded (s : Settings) (w : ServiceWorld) (h : List Entry) (r : Report)
    : Type 0 where
  pub caller : ℕ
  pub granted : All (λ batch. IsGranted s caller h (asked_by r.to batch)) (plan_in r).batches
  pub unused : All (λ batch. IsFree w.kept (caller_name s caller) batch.request_id)
      (plan_in r).batches
  pub alone : All (λ batch. IsAloneIn h (asked_by r.to batch)) (plan_in r).batches

-- The result stands in the invocation with this id, as one row, and no other row has its name.
pub record StandsOnce (w : ServiceWorld) (invocation : List ℕ) (result : TestResult)
    : Type 0 where
  pub holder : ℕ
  pub here : place_named w.rows.invocations invocation ≡ Some holder
  pub place : ℕ
  pub stands : slice_get w.results place ≡ Some (with_holder holder result)
  pub alone : (other : ℕ) → IsPlaceOf w.results (key_of (with_holder holder result)) other
      → other ≡ place

-- Each case of the report stands once, and no two have one name: so the rows under the names that
-- the plan gives are exactly the cases, a row each.
pub record IsRecorded (w : ServiceWorld) (r : Report) : Type 0 where
  pub once : All (StandsOnce w r.to.invocation) (results_in r)
  pub apart : HasUniqueKeys (results_in r)

-- A report that was uploaded within a legal history from a valid world is recorded at its end,
-- however often a batch stands in the history.
abbrev pub UploadedIsRecorded : Type 0
UploadedIsRecorded =
    (s : Settings) (w : ServiceWorld) (h : List Entry) (v : ServiceWorld) (r : Report)
    → HasNames s → IsValid w → IsLegal s w h v → CanBeSent r → IsUploaded s w h r
    → IsRecorded v r
