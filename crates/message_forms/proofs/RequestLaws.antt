-- Requests: a value asks for one at most, and for some where it has no fault.
use Rattle.std.proofs.Common.{◌≡◌, ℕ, ℤ, List, Option, Some, None, refl, sym, ap, subst, ◌∙◌}
use Rattle.serde_json.specs.Data.{Data}
use Rattle.json_fields.specs.Fields.{IsJson}
use Rattle.message_forms.specs.Methods.{row_of, by_request, method_asked, said_in, request_fault, AsksFor, Means}
use Rattle.message_forms.specs.Laws.{OneRequestAsked, AskedCanBeWritten, UpdateChangesSomething}
use Rattle.message_forms.specs.Reading.{Asks}
use Rattle.query_forms.specs.InvocationForms.Updates.{ChangesSomething}
use Rattle.json_fields.specs.NamesRealms.declared.pairs.Pair.{Pair}
use Rattle.message_forms.specs.declared.requests.Method.{Method}
use Rattle.message_forms.specs.declared.requests.Request.{Request}
use Rattle.message_forms.specs.declared.requests.Request.TheVariants as asks
use Rattle.query_forms.proofs.FieldKinds.ReadLaws.{value_of_text}
use Rattle.message_forms.proofs.MethodLaws.{lawful, asked_of, said_means, said_asked}

-- a request is what it says, by its method's row
rebuilt : (q : Request) → (row_of (method_asked q)).asks (said_in q) ≡ q
rebuilt = by_request (λ q. (row_of (method_asked q)).asks (said_in q) ≡ q) (λ q. refl) (λ q. refl) (λ q. refl) (λ q. refl) (λ q. refl) (λ q. refl) (λ q. refl) (λ q. refl) (λ q. refl) (λ q. refl) (λ q. refl) (λ q. refl) (λ q. refl)

-- what it says, by the row of a method that it is one of
record SaysBy (m : Method) (q : Request) : Type 0 where
  said : (row_of m).Said
  is : (row_of m).asks said ≡ q
  meant : (d : Data) → AsksFor d q → (row_of m).form.means d said

said_by : (m : Method) (q : Request) → method_asked q ≡ m → SaysBy m q
said_by m q e = subst (λ (n : Method). SaysBy n q) e (record { said = said_in q; is = rebuilt q; meant = said_means q })

one_meant : (m : Method) (d : Data) (q r : Request) → Means m d q → Means m d r → q ≡ r
one_meant m d q r h k =
    let a = said_by m q h.0 in
    let b = said_by m r k.0 in
    sym a.is ∙ (ap (row_of m).asks ((lawful m).one d a.said b.said (a.meant d h.1) (b.meant d k.1)) ∙ b.is)

-- a body is one value
pub one_json : (body : List ℕ) (d e : Data) → IsJson body d → IsJson body e → d ≡ e
one_json body d e is also = let both : Some d ≡ Some e = sym is.1 ∙ also.1 in cc

pub one_request_asked : OneRequestAsked
one_request_asked service name body q r h k =
    let same : Some h.method ≡ Some k.method = sym h.named ∙ k.named in
    let m : h.method ≡ k.method = cc in
    let d : h.value ≡ k.value = one_json body h.value k.value h.json k.json in
    one_meant k.method k.value q r (subst (λ (e : Data). Means k.method e q) d (subst (λ (n : Method). Means n h.value q) m h.meant)) k.meant

pub asked_there : (m : Method) (body : List ℕ) (d : Data) → IsJson body d → request_fault m d ≡ None → (q : Request) × Means m d q
asked_there m body d json h =
    let there = (lawful m).there d (value_of_text body d json.0 json.1) h in
    ((row_of m).asks there.0, asked_of m d there.0 there.1)

-- what is asked for has no fault by its own method
pub own_fault : (service name body : List ℕ) (q : Request) (is : Asks service name body q) → request_fault (method_asked q) is.value ≡ None
own_fault service name body q is = subst (λ (m : Method). request_fault m is.value ≡ None) (sym is.meant.0) is.no_fault

pub asked_can_be_written : AskedCanBeWritten
asked_can_be_written service name body q is =
    said_asked q ((lawful (method_asked q)).asked is.value (said_in q) (own_fault service name body q is) (said_means q is.value is.meant.1))

nothing_given : (o : Option ℤ) (p : Option (List Pair)) → o ≡ None → p ≡ None → ChangesSomething o p → ⊥
nothing_given None None e f h = h
nothing_given None (Some ts) e f h = cc
nothing_given (Some z) p e f h = cc

pub update_changes_something : UpdateChangesSomething
update_changes_something service name body q no_deadline no_tags is =
    nothing_given q.deadline q.tags no_deadline no_tags (asked_can_be_written service name body (asks.UpdateInvocation q) is)
