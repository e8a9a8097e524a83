-- The table of methods: the service and the name of each, and the form of its requests; and what a
-- value asks for by it.
use Rattle.std.specs.Prelude.{◌≡◌, ℕ, Bool, ◌&&◌, List, [], ◌∷◌, codes, Option, None}
use Rattle.std.specs.List.{find}
use Rattle.std.specs.Str.{bytes_eq}
use Rattle.serde_json.specs.Data.{Data}
use Rattle.json_fields.specs.declared.faults.FieldFault.{FieldFault}
use Rattle.query_forms.specs.FieldKinds.Requests.{RequestForm}
use Rattle.message_forms.specs.Rows.{Row}
use Rattle.query_forms.specs.InvocationForms.Create.{create_form}
use Rattle.query_forms.specs.InvocationForms.Updates.{update_form}
use Rattle.query_forms.specs.InvocationForms.Included.{include_form}
use Rattle.query_forms.specs.InvocationForms.Named.{named_form}
use Rattle.message_forms.specs.declared.requests.Method.{Method}
use Rattle.message_forms.specs.declared.requests.Method.TheVariants.{CreateInvocation, UpdateInvocation, FinalizeInvocation, UpdateIncludedInvocations, BatchCreateTestResults, BatchCreateTestExonerations, BatchCreateArtifacts, GetInvocation, GetTestResult, QueryTestResults, QueryTestVariants, GetArtifact, ListArtifacts}
use Rattle.message_forms.specs.declared.requests.Request.{Request}
use Rattle.message_forms.specs.declared.requests.Request.TheVariants as asks
use Rattle.query_forms.specs.InvocationForms.declared.create.CreateInvocation.{CreateInvocation as Create}
use Rattle.query_forms.specs.InvocationForms.declared.updates.UpdateInvocation.{UpdateInvocation as Update}
use Rattle.query_forms.specs.InvocationForms.declared.named.NamedInvocation.{NamedInvocation as Named}
use Rattle.query_forms.specs.InvocationForms.declared.included.IncludingInvocation.{IncludingInvocation as Include}
use Rattle.query_forms.specs.ResultForms.Methods.{results_form, exonerations_form}
use Rattle.query_forms.specs.Single.{single_form}
use Rattle.query_forms.specs.Results.{results_form as rows_form}
use Rattle.query_forms.specs.Variants.{variants_form}
use Rattle.artifact_replies.specs.ArtifactForms.Methods.{artifacts_form, artifact_form, list_form}
use Rattle.query_forms.specs.declared.single.GetTestResult.{GetTestResult as Single}
use Rattle.query_forms.specs.declared.results.QueryTestResults.{QueryTestResults as Rows}
use Rattle.query_forms.specs.declared.variants.QueryTestVariants.{QueryTestVariants as Variants}
use Rattle.artifact_replies.specs.ArtifactForms.declared.batches.BatchCreateArtifacts.{BatchCreateArtifacts as Files}
use Rattle.artifact_replies.specs.ArtifactForms.declared.named.GetArtifact.{GetArtifact as File}
use Rattle.artifact_replies.specs.ArtifactForms.declared.listed.ListArtifacts.{ListArtifacts as Page}
use Rattle.query_forms.specs.ResultForms.declared.batches.BatchCreateTestResults.{BatchCreateTestResults as Results}
use Rattle.query_forms.specs.ResultForms.declared.batches.BatchCreateTestExonerations.{BatchCreateTestExonerations as Exonerations}

abbrev pub recorder : {Q : Type 0} → List ℕ → RequestForm Q → (Q → Request) → Row
recorder {Q} name form asks = record {
  service = codes "luci.resultdb.v1.Recorder";
  name = name;
  Said = Q;
  form = form;
  asks = asks;
}

abbrev pub reader : {Q : Type 0} → List ℕ → RequestForm Q → (Q → Request) → Row
reader {Q} name form asks = record {
  service = codes "luci.resultdb.v1.ResultDB";
  name = name;
  Said = Q;
  form = form;
  asks = asks;
}

abbrev pub included_form : RequestForm Include
included_form = include_form (λ q. q.including) (λ q. q.add)

abbrev pub row_of : Method → Row
row_of CreateInvocation =
    recorder (codes "CreateInvocation") create_form asks.CreateInvocation
row_of UpdateInvocation =
    recorder (codes "UpdateInvocation") update_form asks.UpdateInvocation
row_of FinalizeInvocation =
    recorder (codes "FinalizeInvocation") named_form asks.FinalizeInvocation
row_of UpdateIncludedInvocations =
    recorder (codes "UpdateIncludedInvocations") included_form asks.UpdateIncludedInvocations
row_of BatchCreateTestResults =
    recorder (codes "BatchCreateTestResults") results_form asks.BatchCreateTestResults
row_of BatchCreateTestExonerations =
    recorder (codes "BatchCreateTestExonerations") exonerations_form
    asks.BatchCreateTestExonerations
row_of BatchCreateArtifacts =
    recorder (codes "BatchCreateArtifacts") artifacts_form asks.BatchCreateArtifacts
row_of GetInvocation = reader (codes "GetInvocation") named_form asks.GetInvocation
row_of GetTestResult = reader (codes "GetTestResult") single_form asks.GetTestResult
row_of QueryTestResults = reader (codes "QueryTestResults") rows_form asks.QueryTestResults
row_of QueryTestVariants =
    reader (codes "QueryTestVariants") variants_form asks.QueryTestVariants
row_of GetArtifact = reader (codes "GetArtifact") artifact_form asks.GetArtifact
row_of ListArtifacts = reader (codes "ListArtifacts") list_form asks.ListArtifacts

-- every method
abbrev pub every_method : List Method
every_method =
    CreateInvocation
    ∷ UpdateInvocation
    ∷ FinalizeInvocation
    ∷ UpdateIncludedInvocations
    ∷ BatchCreateTestResults
    ∷ BatchCreateTestExonerations
    ∷ BatchCreateArtifacts
    ∷ GetInvocation
    ∷ GetTestResult
    ∷ QueryTestResults
    ∷ QueryTestVariants
    ∷ GetArtifact
    ∷ ListArtifacts
    ∷ []

-- the method that a request is one of, and what the request says by the method's form
abbrev pub method_asked : Request → Method
method_asked (asks.CreateInvocation q) = CreateInvocation
method_asked (asks.UpdateInvocation q) = UpdateInvocation
method_asked (asks.FinalizeInvocation q) = FinalizeInvocation
method_asked (asks.UpdateIncludedInvocations q) = UpdateIncludedInvocations
method_asked (asks.BatchCreateTestResults q) = BatchCreateTestResults
method_asked (asks.BatchCreateTestExonerations q) = BatchCreateTestExonerations
method_asked (asks.BatchCreateArtifacts q) = BatchCreateArtifacts
method_asked (asks.GetInvocation q) = GetInvocation
method_asked (asks.GetTestResult q) = GetTestResult
method_asked (asks.QueryTestResults q) = QueryTestResults
method_asked (asks.QueryTestVariants q) = QueryTestVariants
method_asked (asks.GetArtifact q) = GetArtifact
method_asked (asks.ListArtifacts q) = ListArtifacts

abbrev pub said_in : (q : Request) → (row_of (method_asked q)).Said
said_in (asks.CreateInvocation q) = q
said_in (asks.UpdateInvocation q) = q
said_in (asks.FinalizeInvocation q) = q
said_in (asks.UpdateIncludedInvocations q) = q
said_in (asks.BatchCreateTestResults q) = q
said_in (asks.BatchCreateTestExonerations q) = q
said_in (asks.BatchCreateArtifacts q) = q
said_in (asks.GetInvocation q) = q
said_in (asks.GetTestResult q) = q
said_in (asks.QueryTestResults q) = q
said_in (asks.QueryTestVariants q) = q
said_in (asks.GetArtifact q) = q
said_in (asks.ListArtifacts q) = q

-- what holds of each method in turn holds of every one, and likewise of requests
abbrev pub by_method : (P : Method → Type 0) → P CreateInvocation → P UpdateInvocation
    → P FinalizeInvocation → P UpdateIncludedInvocations → P BatchCreateTestResults
    → P BatchCreateTestExonerations → P BatchCreateArtifacts → P GetInvocation → P GetTestResult
    → P QueryTestResults → P QueryTestVariants → P GetArtifact → P ListArtifacts → (m : Method)
    → P m
by_method P create update end include results exempt files get one rows list file page
    CreateInvocation =
    create
by_method P create update end include results exempt files get one rows list file page
    UpdateInvocation =
    update
by_method P create update end include results exempt files get one rows list file page
    FinalizeInvocation =
    end
by_method P create update end include results exempt files get one rows list file page
    UpdateIncludedInvocations =
    include
by_method P create update end include results exempt files get one rows list file page
    BatchCreateTestResults =
    results
by_method P create update end include results exempt files get one rows list file page
    BatchCreateTestExonerations =
    exempt
by_method P create update end include results exempt files get one rows list file page
    BatchCreateArtifacts =
    files
by_method P create update end include results exempt files get one rows list file page
    GetInvocation =
    get
by_method P create update end include results exempt files get one rows list file page
    GetTestResult =
    one
by_method P create update end include results exempt files get one rows list file page
    QueryTestResults =
    rows
by_method P create update end include results exempt files get one rows list file page
    QueryTestVariants =
    list
by_method P create update end include results exempt files get one rows list file page
    GetArtifact =
    file
by_method P create update end include results exempt files get one rows list file page
    ListArtifacts =
    page

abbrev pub by_request : (P : Request → Type 0)
    → ((q : Create) → P (asks.CreateInvocation q))
    → ((q : Update) → P (asks.UpdateInvocation q))
    → ((q : Named) → P (asks.FinalizeInvocation q))
    → ((q : Include) → P (asks.UpdateIncludedInvocations q))
    → ((q : Results) → P (asks.BatchCreateTestResults q))
    → ((q : Exonerations) → P (asks.BatchCreateTestExonerations q))
    → ((q : Files) → P (asks.BatchCreateArtifacts q))
    → ((q : Named) → P (asks.GetInvocation q))
    → ((q : Single) → P (asks.GetTestResult q))
    → ((q : Rows) → P (asks.QueryTestResults q))
    → ((q : Variants) → P (asks.QueryTestVariants q))
    → ((q : File) → P (asks.GetArtifact q))
    → ((q : Page) → P (asks.ListArtifacts q))
    → (q : Request) → P q
by_request P create update end include results exempt files get one rows list file page
    (asks.CreateInvocation q) =
    create q
by_request P create update end include results exempt files get one rows list file page
    (asks.UpdateInvocation q) =
    update q
by_request P create update end include results exempt files get one rows list file page
    (asks.FinalizeInvocation q) =
    end q
by_request P create update end include results exempt files get one rows list file page
    (asks.UpdateIncludedInvocations q) =
    include q
by_request P create update end include results exempt files get one rows list file page
    (asks.BatchCreateTestResults q) =
    results q
by_request P create update end include results exempt files get one rows list file page
    (asks.BatchCreateTestExonerations q) =
    exempt q
by_request P create update end include results exempt files get one rows list file page
    (asks.BatchCreateArtifacts q) =
    files q
by_request P create update end include results exempt files get one rows list file page
    (asks.GetInvocation q) =
    get q
by_request P create update end include results exempt files get one rows list file page
    (asks.GetTestResult q) =
    one q
by_request P create update end include results exempt files get one rows list file page
    (asks.QueryTestResults q) =
    rows q
by_request P create update end include results exempt files get one rows list file page
    (asks.QueryTestVariants q) =
    list q
by_request P create update end include results exempt files get one rows list file page
    (asks.GetArtifact q) =
    file q
by_request P create update end include results exempt files get one rows list file page
    (asks.ListArtifacts q) =
    page q

abbrev pub service_of : Method → List ℕ
service_of m = (row_of m).service

abbrev pub name_of : Method → List ℕ
name_of m = (row_of m).name

abbrev pub request_fault : Method → Data → Option FieldFault
request_fault m d = (row_of m).form.fault d

-- A service and a name are those of the method.
abbrev pub is_called : List ℕ → List ℕ → Method → Bool
is_called service name m = bytes_eq (service_of m) service && bytes_eq (name_of m) name

-- the method of this name of this service
unfoldable pub method_of : List ℕ → List ℕ → Option Method
method_of service name = find (is_called service name) every_method

-- what a value asks for, by the fields of the request's method
abbrev pub AsksFor : Data → Request → Type 0
AsksFor d (asks.CreateInvocation q) = create_form.means d q
AsksFor d (asks.UpdateInvocation q) = update_form.means d q
AsksFor d (asks.FinalizeInvocation q) = named_form.means d q
AsksFor d (asks.UpdateIncludedInvocations q) = included_form.means d q
AsksFor d (asks.BatchCreateTestResults q) = results_form.means d q
AsksFor d (asks.BatchCreateTestExonerations q) = exonerations_form.means d q
AsksFor d (asks.BatchCreateArtifacts q) = artifacts_form.means d q
AsksFor d (asks.GetInvocation q) = named_form.means d q
AsksFor d (asks.GetTestResult q) = single_form.means d q
AsksFor d (asks.QueryTestResults q) = rows_form.means d q
AsksFor d (asks.QueryTestVariants q) = variants_form.means d q
AsksFor d (asks.GetArtifact q) = artifact_form.means d q
AsksFor d (asks.ListArtifacts q) = list_form.means d q

-- what a value without a fault asks for: a request of this method, as its fields say
abbrev pub Means : Method → Data → Request → Type 0
Means m d q = (method_asked q ≡ m) × AsksFor d q

-- a request's members under their lowerCamelCase names, in byte order
abbrev pub request_data : Request → Data
request_data (asks.CreateInvocation q) = create_form.json q
request_data (asks.UpdateInvocation q) = update_form.json q
request_data (asks.FinalizeInvocation q) = named_form.json q
request_data (asks.UpdateIncludedInvocations q) = included_form.json q
request_data (asks.BatchCreateTestResults q) = results_form.json q
request_data (asks.BatchCreateTestExonerations q) = exonerations_form.json q
request_data (asks.BatchCreateArtifacts q) = artifacts_form.json q
request_data (asks.GetInvocation q) = named_form.json q
request_data (asks.GetTestResult q) = single_form.json q
request_data (asks.QueryTestResults q) = rows_form.json q
request_data (asks.QueryTestVariants q) = variants_form.json q
request_data (asks.GetArtifact q) = artifact_form.json q
request_data (asks.ListArtifacts q) = list_form.json q

-- a request that some body can ask for
abbrev pub CanBeAsked : Request → Type 0
CanBeAsked (asks.CreateInvocation q) = create_form.CanBeAsked q
CanBeAsked (asks.UpdateInvocation q) = update_form.CanBeAsked q
CanBeAsked (asks.FinalizeInvocation q) = named_form.CanBeAsked q
CanBeAsked (asks.UpdateIncludedInvocations q) = included_form.CanBeAsked q
CanBeAsked (asks.BatchCreateTestResults q) = results_form.CanBeAsked q
CanBeAsked (asks.BatchCreateTestExonerations q) = exonerations_form.CanBeAsked q
CanBeAsked (asks.BatchCreateArtifacts q) = artifacts_form.CanBeAsked q
CanBeAsked (asks.GetInvocation q) = named_form.CanBeAsked q
CanBeAsked (asks.GetTestResult q) = single_form.CanBeAsked q
CanBeAsked (asks.QueryTestResults q) = rows_form.CanBeAsked q
CanBeAsked (asks.QueryTestVariants q) = variants_form.CanBeAsked q
CanBeAsked (asks.GetArtifact q) = artifact_form.CanBeAsked q
CanBeAsked (asks.ListArtifacts q) = list_form.CanBeAsked q

-- What is written of the request is read by its method without a fault, as this request.
abbrev pub IsReadAgain : Data → Request → Type 0
IsReadAgain d q = (request_fault (method_asked q) d ≡ None) × AsksFor d q
