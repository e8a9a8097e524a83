-- A request breaks a rule by itself, or a caller wants something.
use Rattle.std.proofs.Common.{◌≡◌, ℕ, [], Option, Some, None, inl, inr, refl, sym, ◌∙◌}
use Rattle.std.specs.Prelude.{◌⊎◌}
use Rattle.std.proofs.lemmas.Option.{none-some}
use Rattle.call_forms.specs.declared.asked.Asked.{Asked}
use Rattle.call_forms.specs.declared.forms.Refusal.{Refusal}
use Rattle.message_forms.specs.declared.requests.Method.{Method}
use Rattle.message_forms.specs.declared.requests.Request.{Request}
use Rattle.message_forms.specs.Methods.{method_of}
use Rattle.message_forms.proofs.FaultLaws.{asks_or_has_fault, fault_is_refused}
use Rattle.request_demands.specs.Settings.{Settings, caller_of}
use Rattle.request_demands.specs.Order.{IsUnbroken}
use Rattle.request_demands.specs.Alone.{HasNoMethod, IsRefusedAlone, Wants, refusal, target_of}

abbrev pub IsSaid : Settings → Asked → Type 0
IsSaid s asked =
    ((r : Refusal) × IsRefusedAlone s asked r) ⊎ ((caller : ℕ) × (request : Request) × Wants s asked caller request)

method_there : (asked : Asked) (method : Method) → method_of asked.service asked.method ≡ Some method → IsUnbroken (HasNoMethod asked)
method_there asked method e r is = none-some method (sym is.0 ∙ e)

body_said : (s : Settings) (asked : Asked) (method : Method) (caller : ℕ) → method_of asked.service asked.method ≡ Some method
    → caller_of s asked.bearer ≡ Some caller → IsSaid s asked
body_said s asked method caller e f =
    elim (asks_or_has_fault asked.service asked.method asked.body) [
      | inl asks ↦ inr (caller, asks.0, record { caller_is = f; asks = asks.1 })
      | inr faulty ↦
          let refused = fault_is_refused asked.service asked.method asked.body (target_of asked) faulty.0 faulty.1 in
          inl (
            refused.0,
            inr (
              method_there asked method e,
              inr (
                λ r is. none-some caller (sym is.0 ∙ f),
                inl (
                  refused.0,
                  record { method = method; named = e; fault = faulty.0; has = faulty.1; refusal_is = refused.1 },
                  refl,
                ),
              ),
            ),
          )
    ]

caller_said : (s : Settings) (asked : Asked) (method : Method) (o : Option ℕ) → method_of asked.service asked.method ≡ Some method
    → caller_of s asked.bearer ≡ o → IsSaid s asked
caller_said s asked method None e f =
    inl (refusal 2 [], inr (method_there asked method e, inl (refusal 2 [], (f, refl), refl)))
caller_said s asked method (Some caller) e f = body_said s asked method caller e f

method_said : (s : Settings) (asked : Asked) (o : Option Method) → method_of asked.service asked.method ≡ o → IsSaid s asked
method_said s asked None e = inl (refusal 1 (target_of asked), inl (refusal 1 (target_of asked), (e, refl), refl))
method_said s asked (Some method) e = caller_said s asked method (caller_of s asked.bearer) e refl

pub said : (s : Settings) (asked : Asked) → IsSaid s asked
said s asked = method_said s asked (method_of asked.service asked.method) refl
