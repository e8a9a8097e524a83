-- The laws of each method's form, in the order of the table.
use Rattle.std.proofs.Common.{◌≡◌, ℕ, List, Bool, false, ◌&&◌, bytes_eq, Some, refl, ap, ◌∙◌}
use Rattle.std.proofs.Math.Bool.{and-false}
use Rattle.serde_json.specs.Data.{Data}
use Rattle.message_forms.specs.Methods.{included_form, row_of, by_method, by_request, method_asked, said_in, request_data, is_called, method_of, service_of, name_of, AsksFor, CanBeAsked, Means}
use Rattle.message_forms.specs.declared.requests.Method.{Method}
use Rattle.message_forms.specs.declared.requests.Request.{Request}
use Rattle.json_fields.proofs.PlainLaws.{IsPlain}
use Rattle.query_forms.proofs.FieldKinds.RequestLaws.{IsLawful}
use Rattle.query_forms.proofs.InvocationForms.NamedLaws.{named_lawful}
use Rattle.query_forms.proofs.InvocationForms.CreateLaws.{create_lawful}
use Rattle.query_forms.proofs.InvocationForms.UpdateLaws.{update_lawful}
use Rattle.query_forms.proofs.InvocationForms.IncludedLaws.{include_lawful}
use Rattle.query_forms.proofs.ResultForms.MethodLaws.{results_lawful, exonerations_lawful}
use Rattle.artifact_replies.proofs.ArtifactForms.MethodLaws.{artifacts_lawful, artifact_lawful, list_lawful}
use Rattle.query_forms.proofs.SingleLaws.{single_lawful}
use Rattle.query_forms.proofs.ResultLaws.{results_lawful as rows_lawful}
use Rattle.query_forms.proofs.VariantLaws.{variants_lawful}

included_lawful : IsLawful included_form
included_lawful = include_lawful _ _ (λ x xs. record { including = x; add = xs })
    (λ a b ids others i. record { including = ids i; add = others i }) (λ x xs. refl) (λ x xs. refl)

pub lawful : (m : Method) → IsLawful (row_of m).form
lawful = by_method (λ m. IsLawful (row_of m).form) create_lawful update_lawful named_lawful included_lawful results_lawful exonerations_lawful artifacts_lawful named_lawful
    single_lawful rows_lawful variants_lawful artifact_lawful list_lawful

-- A method is found by its names, and what is asked by it is a request of it, which says that.
pub method_named : (m : Method) → method_of (service_of m) (name_of m) ≡ Some m
unfolding method_of
method_named = by_method (λ m. method_of (service_of m) (name_of m) ≡ Some m) refl refl refl refl refl refl refl refl refl refl refl refl refl

pub asked_of : (m : Method) (d : Data) (a : (row_of m).Said) → (row_of m).form.means d a → Means m d ((row_of m).asks a)
asked_of = by_method (λ m. (d : Data) (a : (row_of m).Said) → (row_of m).form.means d a → Means m d ((row_of m).asks a))
    (λ d a is. (refl, is)) (λ d a is. (refl, is)) (λ d a is. (refl, is)) (λ d a is. (refl, is)) (λ d a is. (refl, is)) (λ d a is. (refl, is)) (λ d a is. (refl, is))
    (λ d a is. (refl, is)) (λ d a is. (refl, is)) (λ d a is. (refl, is)) (λ d a is. (refl, is)) (λ d a is. (refl, is)) (λ d a is. (refl, is))

-- What a value asks for, and which requests a body can ask for, is said by the method's row.
pub said_means : (q : Request) (d : Data) → AsksFor d q → (row_of (method_asked q)).form.means d (said_in q)
said_means = by_request (λ q. (d : Data) → AsksFor d q → (row_of (method_asked q)).form.means d (said_in q))
    (λ q d h. h) (λ q d h. h) (λ q d h. h) (λ q d h. h) (λ q d h. h) (λ q d h. h) (λ q d h. h) (λ q d h. h) (λ q d h. h) (λ q d h. h) (λ q d h. h) (λ q d h. h) (λ q d h. h)

pub said_asked : (q : Request) → (row_of (method_asked q)).form.CanBeAsked (said_in q) → CanBeAsked q
said_asked = by_request (λ q. (row_of (method_asked q)).form.CanBeAsked (said_in q) → CanBeAsked q)
    (λ q h. h) (λ q h. h) (λ q h. h) (λ q h. h) (λ q h. h) (λ q h. h) (λ q h. h) (λ q h. h) (λ q h. h) (λ q h. h) (λ q h. h) (λ q h. h) (λ q h. h)

pub request_plain : (q : Request) → IsPlain 68 (request_data q)
request_plain = by_request (λ q. IsPlain 68 (request_data q))
    create_lawful.plain update_lawful.plain named_lawful.plain included_lawful.plain results_lawful.plain exonerations_lawful.plain artifacts_lawful.plain named_lawful.plain
    single_lawful.plain rows_lawful.plain variants_lawful.plain artifact_lawful.plain list_lawful.plain

-- a method of another name isn't the one that is called
pub not_named : (service name : List ℕ) (m : Method) → bytes_eq (name_of m) name ≡ false → is_called service name m ≡ false
not_named service name m other =
    ap (λ (b : Bool). bytes_eq (service_of m) service && b) other ∙ and-false (bytes_eq (service_of m) service)
