-- What is understood of a request.
use Rattle.std.proofs.Common.{◌≡◌, ◌≢◌, ℕ, List, [], false, true, Option, Some, None, IsSome, refl, sym, ap, ◌∙◌, subst, inl, inr}
use Rattle.call_forms.specs.declared.asked.Asked.{Asked}
use Rattle.call_forms.specs.declared.forms.Answer.{Answer}
use Rattle.call_forms.specs.declared.forms.Refusal.{Refusal}
use Rattle.call_forms.specs.Rules.{refusal_answer}
use Rattle.message_forms.specs.declared.requests.Method.{Method}
use Rattle.message_forms.specs.declared.reading.FormFault.{FormFault}
use Rattle.message_forms.specs.declared.reading.FormFault.TheVariants.{Memory}
use Rattle.message_forms.specs.Methods.{method_of}
use Rattle.message_forms.specs.Reading.{HasFault}
use Rattle.message_forms.specs.Refusals.{refusal_of as refusal_of_fault}
use Rattle.request_demands.specs.Settings.{Settings, caller_of}
use Rattle.message_forms.specs.declared.requests.Request.{Request}
use Rattle.request_demands.specs.Order.{IsUnbroken}
use Rattle.request_demands.specs.Alone.{HasNoMethod, IsRefusedAlone, Wants, refusal, target_of}
use Rattle.message_forms.proofs.FaultLaws.{never_both, not_memory}

-- what is understood where the method isn't there, or nobody asks, or the body has a fault
pub no_method : (s : Settings) (asked : Asked) (answer : Answer) → method_of asked.service asked.method ≡ None
    → answer ≡ refusal_answer (refusal 1 (target_of asked))
    → (r : Refusal) × IsRefusedAlone s asked r × (answer ≡ refusal_answer r)
no_method s asked answer none is =
    (refusal 1 (target_of asked), inl (refusal 1 (target_of asked), (none, refl), refl), is)

method_there : (asked : Asked) (o : Option Method) → method_of asked.service asked.method ≡ o → IsSome o
    → IsUnbroken (HasNoMethod asked)
method_there asked None e some r is = let no : false ≡ true = some in cc
method_there asked (Some method) e some r is = let no : Some method ≡ None = sym e ∙ is.0 in cc

pub no_caller : (s : Settings) (asked : Asked) (answer : Answer) → IsSome (method_of asked.service asked.method)
    → caller_of s asked.bearer ≡ None → answer ≡ refusal_answer (refusal 2 [])
    → (r : Refusal) × IsRefusedAlone s asked r × (answer ≡ refusal_answer r)
no_caller s asked answer method none is = (
  refusal 2 [],
  inr (method_there asked (method_of asked.service asked.method) refl method, inl (refusal 2 [], (none, refl), refl)),
  is,
)

bad_body_of : (s : Settings) (asked : Asked) (answer : Answer) (caller : ℕ) (fault : FormFault) (o : Option Method)
    → method_of asked.service asked.method ≡ o → IsSome o → caller_of s asked.bearer ≡ Some caller
    → HasFault asked.service asked.method asked.body fault
    → (r : Refusal) × (refusal_of_fault (target_of asked) fault ≡ Some r) × (answer ≡ refusal_answer r)
    → (r : Refusal) × IsRefusedAlone s asked r × (answer ≡ refusal_answer r)
bad_body_of s asked answer caller fault None e some at has found = let no : false ≡ true = some in cc
bad_body_of s asked answer caller fault (Some method) e some at has found = (
  found.0,
  inr (
    method_there asked (Some method) e some,
    inr (
      λ r is. let no : Some caller ≡ None = sym at ∙ is.0 in cc,
      inl (found.0, record { method = method; named = e; fault = fault; has = has; refusal_is = found.1 }, refl),
    ),
  ),
  found.2,
)

pub bad_body : (s : Settings) (asked : Asked) (answer : Answer) (caller : ℕ) (fault : FormFault)
    → IsSome (method_of asked.service asked.method) → caller_of s asked.bearer ≡ Some caller
    → (fault ≢ Memory → HasFault asked.service asked.method asked.body fault)
    → (r : Refusal) × (refusal_of_fault (target_of asked) fault ≡ Some r) × (answer ≡ refusal_answer r)
    → (r : Refusal) × IsRefusedAlone s asked r × (answer ≡ refusal_answer r)
bad_body s asked answer caller fault some at has found =
    bad_body_of s asked answer caller fault (method_of asked.service asked.method) refl some at
    (has (not_memory (target_of asked) fault found.0 found.1)) found

-- the same of texts that are those of the request
pub fault_of_texts : (asked : Asked) (service method body : List ℕ) (fault : FormFault) → service ≡ asked.service → method ≡ asked.method
    → body ≡ asked.body → HasFault service method body fault → HasFault asked.service asked.method asked.body fault
fault_of_texts asked service method body fault service_is method_is body_is has =
    subst (λ (s : List ℕ). HasFault s asked.method asked.body fault) service_is
    (subst (λ (m : List ℕ). HasFault service m asked.body fault) method_is
    (subst (λ (b : List ℕ). HasFault service method b fault) body_is has))

pub method_of_texts : (asked : Asked) (service name : List ℕ) (method : Method) → Some method ≡ method_of service name
    → service ≡ asked.service → name ≡ asked.method → IsSome (method_of asked.service asked.method)
method_of_texts asked service name method found service_is name_is =
    let at : Some method ≡ method_of asked.service asked.method =
    found ∙ (ap (λ (x : List ℕ). method_of x name) service_is ∙ ap (method_of asked.service) name_is) in
    subst IsSome at refl

pub no_method_of_texts : (asked : Asked) (service name : List ℕ) → None ≡ method_of service name → service ≡ asked.service
    → name ≡ asked.method → method_of asked.service asked.method ≡ None
no_method_of_texts asked service name none service_is name_is =
    sym (none ∙ (ap (λ (x : List ℕ). method_of x name) service_is ∙ ap (method_of asked.service) name_is))

-- what a caller wants breaks no rule by itself
pub wanted_alone : (s : Settings) (asked : Asked) (caller : ℕ) (request : Request) (r : Refusal) → Wants s asked caller request
    → IsRefusedAlone s asked r → ⊥
wanted_alone s asked caller request r wants (inl is) =
    let no : Some wants.asks.method ≡ None = sym wants.asks.named ∙ is.1.0 in cc
wanted_alone s asked caller request r wants (inr (known, inl is)) =
    let no : Some caller ≡ None = sym wants.caller_is ∙ is.1.0 in cc
wanted_alone s asked caller request r wants (inr (known, inr (called, inl is))) =
    never_both asked.service asked.method asked.body request is.1.fault wants.asks is.1.has
wanted_alone s asked caller request r wants (inr (known, inr (called, inr rest))) =
    let no : Some r ≡ None = rest.1 in cc
