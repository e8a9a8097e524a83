-- What is asked of the service that reads: a request of one of its methods, which has no number, and does nothing.
use Rattle.std.proofs.Common.{◌≡◌, ◌&&◌, ℕ, ℤ, Bool, true, false, List, None, refl, ap, ◌∙◌, codes, get_or, arith}
use Rattle.std.specs.Str.{bytes_eq}
use Rattle.std.proofs.lemmas.Slice.Eq.{bytes_eq-Decides}
use Rattle.call_forms.specs.declared.asked.Asked.{Asked}
use Rattle.artifact_forms.specs.declared.listed.ListArtifacts.{ListArtifacts}
use Rattle.artifact_forms.specs.declared.named.GetArtifact.{GetArtifact}
use Rattle.invocation_forms.specs.declared.named.NamedInvocation.{NamedInvocation}
use Rattle.request_demands.specs.QueryForms.declared.results.QueryTestResults.{QueryTestResults}
use Rattle.request_demands.specs.QueryForms.declared.single.GetTestResult.{GetTestResult}
use Rattle.request_demands.specs.QueryForms.declared.variants.QueryTestVariants.{QueryTestVariants}
use Rattle.request_demands.specs.MessageForms.declared.requests.Request.{Request}
use Rattle.request_demands.specs.MessageForms.declared.requests.Request.TheVariants as asks
use Rattle.request_demands.specs.MessageForms.Methods.{every_method, is_called, method_asked, method_of, name_of, service_of}
use Rattle.request_demands.specs.MessageForms.Reading.{Asks}
use Rattle.request_demands.specs.Demands.{demand_of}
use Rattle.service_effects.specs.declared.effect.Effect.TheVariants as does
use Rattle.service_effects.specs.Service.{Recorded}
use Rattle.service_laws.specs.RequestEffects.Effects.{effect_of}
use Rattle.service_laws.specs.RequestEffects.Keeps.{numbered_of}
use Rattle.restricted_fields.proofs.ListFacts.{found_passes}

-- the method of a request is one of the service that reads
abbrev pub Reads : Request → Type 0
Reads request = service_of (method_asked request) ≡ codes "luci.resultdb.v1.ResultDB"

first_and : (a b : Bool) → (a && b) ≡ true → a ≡ true
first_and true b h = refl
first_and false b h = h

same_text : (a b : List ℕ) (c : Bool) → (bytes_eq a b && c) ≡ true → a ≡ b
same_text a b c h = (bytes_eq-Decides a b).0 (first_and (bytes_eq a b) c h)

pub asked_reads : (service name body : List ℕ) (request : Request) → service ≡ codes "luci.resultdb.v1.ResultDB"
    → Asks service name body request → Reads request
unfolding method_of
asked_reads service name body request is asked =
    let method = asked.method in
    let own : service_of method ≡ service = same_text (service_of method) service (bytes_eq (name_of method) name)
    (found_passes (is_called service name) every_method method asked.named) in
    ap service_of asked.meant.0 ∙ (own ∙ is)

recorder_is_other : codes "luci.resultdb.v1.Recorder" ≡ codes "luci.resultdb.v1.ResultDB" → ⊥
recorder_is_other e = let no : 99 ≡ 115 = ap (λ (text : List ℕ). get_or text 19 0) e in omega (arith, no)

-- what holds of each request of the service that reads
pub by_reading : (P : Request → Type 0) → ((q : NamedInvocation) → P (asks.GetInvocation q)) → ((q : GetTestResult) → P (asks.GetTestResult q))
    → ((q : QueryTestResults) → P (asks.QueryTestResults q)) → ((q : QueryTestVariants) → P (asks.QueryTestVariants q))
    → ((q : GetArtifact) → P (asks.GetArtifact q)) → ((q : ListArtifacts) → P (asks.ListArtifacts q))
    → (request : Request) → Reads request → P request
by_reading P get one rows list file files (asks.GetInvocation q) h = get q
by_reading P get one rows list file files (asks.GetTestResult q) h = one q
by_reading P get one rows list file files (asks.QueryTestResults q) h = rows q
by_reading P get one rows list file files (asks.QueryTestVariants q) h = list q
by_reading P get one rows list file files (asks.GetArtifact q) h = file q
by_reading P get one rows list file files (asks.ListArtifacts q) h = files q
by_reading P get one rows list file files _ h = absurd (recorder_is_other h)

pub reads_no_number : (request : Request) → Reads request → (demand_of request).number ≡ None
reads_no_number = by_reading (λ q. (demand_of q).number ≡ None) (λ q. refl) (λ q. refl) (λ q. refl) (λ q. refl) (λ q. refl) (λ q. refl)

pub reads_unnumbered : (asked : Asked) (request : Request) → Reads request → numbered_of asked (demand_of request) ≡ None
reads_unnumbered asked =
    by_reading (λ q. numbered_of asked (demand_of q) ≡ None) (λ q. refl) (λ q. refl) (λ q. refl) (λ q. refl) (λ q. refl) (λ q. refl)

pub reads_nothing : (w : Recorded) (moment : ℤ) (name : List ℕ) (request : Request) → Reads request
    → effect_of w moment name request ≡ does.Nothing
reads_nothing w moment name =
    by_reading (λ q. effect_of w moment name q ≡ does.Nothing) (λ q. refl) (λ q. refl) (λ q. refl) (λ q. refl) (λ q. refl) (λ q. refl)
