-- Laws of requests and their faults: each service, method and body asks for one request or has one
-- fault.
use Rattle.std.specs.Prelude.{◌≡◌, ◌⊎◌, ◌≤◌, ◌≢◌, ℕ, List, Some, None}
use Rattle.message_forms.specs.Forms.{IsOfForm}
use Rattle.message_forms.specs.Methods.{CanBeAsked}
use Rattle.message_forms.specs.Reading.{Asks, HasFault}
use Rattle.message_forms.specs.Refusals.{refusal_of}
use Rattle.message_forms.specs.declared.reading.FormFault.{FormFault}
use Rattle.message_forms.specs.declared.requests.Request.{Request}
use Rattle.message_forms.specs.declared.requests.Request.TheVariants as asks
use Rattle.query_forms.specs.InvocationForms.declared.updates.UpdateInvocation.{UpdateInvocation}
use Rattle.call_forms.specs.declared.forms.Refusal.{Refusal}

-- One body asks for at most one request.
abbrev pub OneRequestAsked : Type 0
OneRequestAsked =
    (service method body : List ℕ) (q r : Request) → Asks service method body q
    → Asks service method body r → q ≡ r

-- It has at most one fault.
abbrev pub OneFault : Type 0
OneFault =
    (service method body : List ℕ) (f g : FormFault) → HasFault service method body f
    → HasFault service method body g → f ≡ g

-- It never asks for a request and has a fault.
abbrev pub NeverBoth : Type 0
NeverBoth =
    (service method body : List ℕ) (q : Request) (f : FormFault) → Asks service method body q
    → ¬ HasFault service method body f

-- It asks for a request, or it has a fault.
abbrev pub IsAskedOrFaulty : List ℕ → List ℕ → List ℕ → Type 0
IsAskedOrFaulty service method body =
    ((q : Request) × Asks service method body q)
    ⊎ ((f : FormFault) × HasFault service method body f)

abbrev pub AsksOrHasFault : Type 0
AsksOrHasFault = (service method body : List ℕ) → IsAskedOrFaulty service method body

-- A fault has a refusal, by rule 1, or one of the rules 3 to 6.
abbrev pub IsRefusedByForm : List ℕ → FormFault → Type 0
IsRefusedByForm target f =
    (r : Refusal) × (refusal_of target f ≡ Some r) × (1 ≤ r.rule) × (r.rule ≤ 6) × (r.rule ≢ 2)

abbrev pub FaultIsRefused : Type 0
FaultIsRefused =
    (service method body target : List ℕ) (f : FormFault) → HasFault service method body f
    → IsRefusedByForm target f

-- What is asked for is of its form.
abbrev pub AskedIsOfForm : Type 0
AskedIsOfForm =
    (service method body : List ℕ) (q : Request) → Asks service method body q → IsOfForm q

-- What is asked for is written so that it is read again.
abbrev pub AskedCanBeWritten : Type 0
AskedCanBeWritten =
    (service method body : List ℕ) (q : Request) → Asks service method body q → CanBeAsked q

-- No body asks for an update that changes nothing.
abbrev pub UpdateChangesSomething : Type 0
UpdateChangesSomething =
    (service method body : List ℕ) (q : UpdateInvocation) → q.deadline ≡ None → q.tags ≡ None
    → ¬ Asks service method body (asks.UpdateInvocation q)
