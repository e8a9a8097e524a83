-- What each request demands of the world, a row for each method.
use Rattle.std.specs.Prelude.{ℕ, ℤ, List, [], ◌∷◌, Option, Some, None, take, codes, if◌then◌else◌}
use Rattle.std.specs.Str.{bytes_eq}
use Rattle.policy_checks.specs.declared.permission.Permission.TheVariants as permission
use Rattle.names_realms.specs.declared.result_names.ResultName.{ResultName}
use Rattle.names_realms.specs.declared.artifact_names.ArtifactName.{ArtifactName}
use Rattle.artifacts.specs.Orders.{invocation_of}
use Rattle.artifacts.specs.declared.new_artifact.NewArtifact.{NewArtifact}
use Rattle.message_forms.specs.declared.requests.Request.{Request}
use Rattle.message_forms.specs.declared.requests.Request.TheVariants as asks
use Rattle.request_demands.specs.declared.grants.Grant.{Grant}
use Rattle.request_demands.specs.declared.grants.Grant.TheVariants.{One, Either}

-- What has to be so for a request to be accepted.
pub record Demand : Type 0 where
  -- the number of the request
  pub number : Option (List ℕ)
  -- the invocations that have to be there, in the order in which they are looked for
  pub named : List (List ℕ)
  -- those to be included, which have to be there after them
  pub included : List (List ℕ)
  -- the test result that has to be there behind these
  pub row : Option ResultName
  -- the artifact that has to be there behind these
  pub artifact : Option ArtifactName
  -- the one that is changed, and whose update token is shown
  pub changed : Option (List ℕ)
  -- the one that has to be active
  pub active : Option (List ℕ)
  -- the deadline that is given
  pub deadline : Option ℤ
  -- the id of a new invocation, which has to be free
  pub makes : Option (List ℕ)
  -- the realm of what is new, and what it takes there, in its order
  pub realm : Option (List ℕ)
  pub takes : List Grant
  -- what it takes in the realm of each invocation that has to be there
  pub of_named : List Grant
  -- what it takes in the realm of each one to be included
  pub of_included : List Grant

abbrev pub nothing : Demand
nothing = record {
  number = None;
  named = [];
  included = [];
  row = None;
  artifact = None;
  changed = None;
  active = None;
  deadline = None;
  makes = None;
  realm = None;
  takes = [];
  of_named = [];
  of_included = [];
}

-- what a new invocation of this id takes: an id that begins with `u-` is for all who may create
abbrev pub to_create : List ℕ → List Grant
to_create id =
    if bytes_eq (take 2 id) (codes "u-") then One permission.CreateInvocation ∷ []
    else One permission.CreateInvocation ∷ One permission.CreateWithReservedId ∷ []

-- to list results is enough to be shown masked ones, and likewise exonerations
abbrev pub list_results : Grant
list_results = Either permission.ListTestResults permission.ListLimitedTestResults

abbrev pub list_exonerations : Grant
list_exonerations =
    Either permission.ListTestExonerations permission.ListLimitedTestExonerations

-- a batch of rows of an invocation, which is changed and has to be active
abbrev pub of_batch : Option (List ℕ) → List ℕ → Demand
of_batch number invocation = record nothing {
  number = number;
  named = invocation ∷ [];
  changed = Some invocation;
  active = Some invocation;
}

-- what is shown of these invocations, with what it takes in the realm of each
abbrev pub to_show : List (List ℕ) → List Grant → Demand
to_show named of_named = record nothing { named = named; of_named = of_named }

-- a batch of artifacts, which stand in the invocation of the first
abbrev pub of_artifacts : Option (List ℕ) → List NewArtifact → Demand
of_artifacts number [] = record nothing { number = number }
of_artifacts number (first ∷ others) = of_batch number (invocation_of first.name.parent)

abbrev pub demand_of : Request → Demand
demand_of (asks.CreateInvocation r) = record nothing {
  number = r.request_id;
  makes = Some r.id;
  realm = Some r.invocation.realm;
  takes = to_create r.id;
  deadline = r.invocation.deadline;
}
demand_of (asks.UpdateInvocation r) = record nothing {
  named = r.id ∷ [];
  changed = Some r.id;
  active = Some r.id;
  deadline = r.deadline;
}
demand_of (asks.FinalizeInvocation r) = record nothing {
  named = r.id ∷ [];
  changed = Some r.id;
}
demand_of (asks.UpdateIncludedInvocations r) = record nothing {
  named = r.including ∷ [];
  included = r.add;
  changed = Some r.including;
  active = Some r.including;
  of_included = One permission.IncludeInvocation ∷ [];
}
demand_of (asks.BatchCreateTestResults r) = of_batch r.request_id r.invocation
demand_of (asks.BatchCreateTestExonerations r) = of_batch r.request_id r.invocation
demand_of (asks.BatchCreateArtifacts r) = of_artifacts r.request_id r.requests
demand_of (asks.GetInvocation r) = to_show (r.id ∷ []) (One permission.GetInvocation ∷ [])
demand_of (asks.GetTestResult r) =
    record (to_show (r.name.invocation ∷ []) (One permission.GetTestResult ∷ [])) {
      row = Some r.name;
    }
demand_of (asks.QueryTestResults r) = to_show r.invocations (list_results ∷ [])
demand_of (asks.QueryTestVariants r) =
    to_show r.invocations (list_results ∷ list_exonerations ∷ [])
demand_of (asks.GetArtifact r) =
    record (to_show (invocation_of r.name.parent ∷ []) (One permission.GetArtifact ∷ [])) {
      artifact = Some r.name;
    }
demand_of (asks.ListArtifacts r) =
    to_show (invocation_of r.parent ∷ []) (One permission.ListArtifacts ∷ [])
