-- What is told of a fault, and that each service, method and body asks for a request or has a fault.
use Rattle.std.proofs.Common.{◌≡◌, ◌≢◌, ℕ, Bool, true, false, List, Option, Some, None, inl, inr, refl, sym, ap, ◌∙◌, arith}
use Rattle.std.specs.Str.{is_utf8}
use Rattle.std.proofs.lemmas.Str.{IsUtf8-from_is_utf8, is_utf8-from_IsUtf8}
use Rattle.serde_json.specs.Data.{Data}
use Rattle.serde_json.specs.Read.{read}
use Rattle.json_fields.specs.Fields.{IsJson}
use Rattle.json_fields.specs.Faults.{Says}
use Rattle.json_fields.specs.declared.faults.FieldFault.{FieldFault}
use Rattle.json_fields.specs.declared.faults.FaultKind.{FaultKind}
use Rattle.json_fields.specs.declared.faults.FaultKind.TheVariants as kind
use Rattle.json_fields.specs.declared.faults.ReadFault.{ReadFault}
use Rattle.json_fields.specs.declared.faults.ReadFault.TheVariants as fault
use Rattle.json_fields.specs.declared.names.Step.{Step}
use Rattle.message_forms.specs.Methods.{method_of, request_fault}
use Rattle.message_forms.specs.Reading.{HasFault, IsFieldFault, no_method, not_json, in_field, field_fault, told_of}
use Rattle.message_forms.specs.Refusals.{refusal_of}
use Rattle.call_forms.specs.declared.forms.Refusal.{Refusal}
use Rattle.message_forms.specs.Laws.{AsksOrHasFault, FaultIsRefused, IsAskedOrFaulty, IsRefusedByForm, NeverBoth, OneFault}
use Rattle.message_forms.specs.declared.requests.Method.{Method}
use Rattle.message_forms.specs.declared.reading.FormFault.{FormFault}
use Rattle.message_forms.specs.declared.reading.FormFault.TheVariants.{NoMethod, NotJson, Memory}
use Rattle.message_forms.proofs.RequestLaws.{asked_there, one_json}

pub told : (method : Method) (d : Data) (e : ReadFault) → Says e (request_fault method d) → told_of e ≢ Memory → IsFieldFault method d (told_of e)
told method d fault.Memory says h = absurd (h refl)
told method d (fault.Field f) says h = record { found = f; is_first = says; told = refl }

faulty : (service name body : List ℕ) (method : Method) (d : Data) → method_of service name ≡ Some method → IsJson body d
    → (o : Option FieldFault) → request_fault method d ≡ o → IsAskedOrFaulty service name body
faulty service name body method d named json None e =
    let there = asked_there method body d json e in
    inl (there.0, record { method = method; named = named; value = d; json = json; no_fault = e; meant = there.1 })
faulty service name body method d named json (Some f) e =
    inr (field_fault f.kind f.path, in_field method named d json (record { found = f; is_first = e; told = refl }))

json_read : (service name body : List ℕ) (method : Method) → method_of service name ≡ Some method → is_utf8 body ≡ true
    → (o : Option Data) → read body ≡ o → IsAskedOrFaulty service name body
json_read service name body method named utf8 (Some d) e =
    faulty service name body method d named (IsUtf8-from_is_utf8 body utf8, e) (request_fault method d) refl
json_read service name body method named utf8 None e = inr (NotJson, not_json method named (λ d is. let f = is.1 in absurd cc) refl)

utf8_read : (service name body : List ℕ) (method : Method) → method_of service name ≡ Some method → (b : Bool) → is_utf8 body ≡ b
    → IsAskedOrFaulty service name body
utf8_read service name body method named true e = json_read service name body method named e (read body) refl
utf8_read service name body method named false e =
    inr (NotJson, not_json method named (λ d is. let f = is_utf8-from_IsUtf8 body is.0 in absurd cc) refl)

method_read : (service name body : List ℕ) (o : Option Method) → method_of service name ≡ o → IsAskedOrFaulty service name body
method_read service name body None e = inr (NoMethod, no_method e refl)
method_read service name body (Some method) e = utf8_read service name body method e (is_utf8 body) refl

pub asks_or_has_fault : AsksOrHasFault
asks_or_has_fault service name body = method_read service name body (method_of service name) refl

refused_kind : (target : List ℕ) (k : FaultKind) (path : List Step) → IsRefusedByForm target (field_fault k path)
refused_kind target kind.WrongKind path = (_, refl, omega arith, omega arith, λ e. absurd (omega arith))
refused_kind target kind.Missing path = (_, refl, omega arith, omega arith, λ e. absurd (omega arith))
refused_kind target (kind.BadValue why) path = (_, refl, omega arith, omega arith, λ e. absurd (omega arith))

pub fault_is_refused : FaultIsRefused
fault_is_refused service name body target f (no_method none e) = rw e (_, refl, omega arith, omega arith, λ e. absurd (omega arith))
fault_is_refused service name body target f (not_json method named none e) = rw e (_, refl, omega arith, omega arith, λ e. absurd (omega arith))
fault_is_refused service name body target f (in_field method named d json is) = rw is.told (refused_kind target is.found.kind is.found.path)

-- One body has one fault, and none beside a request.
one_method : (m n : Method) (o : Option Method) → o ≡ Some m → o ≡ Some n → m ≡ n
one_method m n o this that = let both : Some m ≡ Some n = sym this ∙ that in cc

same_fault : (m n : Method) (d e : Data) (f g : FormFault) → m ≡ n → d ≡ e → IsFieldFault m d f → IsFieldFault n e g → f ≡ g
same_fault m n d e f g method value this that =
    let found : Some this.found ≡ Some that.found =
    sym this.is_first ∙ (ap (λ (k : Method). request_fault k d) method ∙ (ap (request_fault n) value ∙ that.is_first)) in
    let same : this.found ≡ that.found = cc in
    this.told ∙ (ap (λ (x : FieldFault). field_fault x.kind x.path) same ∙ sym that.told)

pub one_fault : OneFault
one_fault service name body f g (no_method a e) (no_method b h) = e ∙ sym h
one_fault service name body f g (no_method a e) (not_json m b n h) = let no : None ≡ Some m = sym a ∙ b in cc
one_fault service name body f g (no_method a e) (in_field m b d j h) = let no : None ≡ Some m = sym a ∙ b in cc
one_fault service name body f g (not_json m a n e) (no_method b h) = let no : None ≡ Some m = sym b ∙ a in cc
one_fault service name body f g (not_json m a n e) (not_json k b o h) = e ∙ sym h
one_fault service name body f g (not_json m a n e) (in_field k b d j h) = absurd (n d j)
one_fault service name body f g (in_field m a d j e) (no_method b h) = let no : None ≡ Some m = sym b ∙ a in cc
one_fault service name body f g (in_field m a d j e) (not_json k b n h) = absurd (n d j)
one_fault service name body f g (in_field m a d j e) (in_field k b c i h) =
    same_fault m k d c f g (one_method m k (method_of service name) a b) (one_json body d c j i) e h

pub never_both : NeverBoth
never_both service name body q f asks (no_method a e) = let no : None ≡ Some asks.method = sym a ∙ asks.named in cc
never_both service name body q f asks (not_json m a n e) = n asks.value asks.json
never_both service name body q f asks (in_field m a d j e) =
    let method = one_method m asks.method (method_of service name) a asks.named in
    let value = one_json body d asks.value j asks.json in
    let no : Some e.found ≡ None =
    sym e.is_first ∙ (ap (λ (k : Method). request_fault k d) method ∙ (ap (request_fault asks.method) value ∙ asks.no_fault)) in
    cc

-- A fault of a method that is there isn't that there is none, and what is refused isn't want of
-- memory.
field_is_method : (kind : FaultKind) (path : List Step) → field_fault kind path ≡ NoMethod → ⊥
field_is_method kind.WrongKind path e = cc
field_is_method kind.Missing path e = cc
field_is_method (kind.BadValue why) path e = cc

pub method_is_there : (service name body : List ℕ) (method : Method) (f : FormFault) → method_of service name ≡ Some method
    → HasFault service name body f → f ≢ NoMethod
method_is_there service name body method f named (no_method none e) is = let no : Some method ≡ None = sym named ∙ none in cc
method_is_there service name body method f named (not_json m other none e) is = let no : NotJson ≡ NoMethod = sym e ∙ is in cc
method_is_there service name body method f named (in_field m other d json first) is =
    field_is_method first.found.kind first.found.path (sym first.told ∙ is)

pub not_memory : (target : List ℕ) (f : FormFault) (r : Refusal) → refusal_of target f ≡ Some r → f ≢ Memory
not_memory target f r e is = let no : None ≡ Some r = sym (ap (refusal_of target) is) ∙ e in cc
