-- The two methods: their forms, and what a body asks for by them.
use Rattle.std.proofs.Common.{◌≡◌, ℕ, List, ◌∷◌, Some, refl, sym, subst, ◌∙◌, arith}
use Rattle.serde_json.specs.Data.{Data, string}
use Rattle.names_realms.specs.Variants.{label_of}
use Rattle.json_fields.specs.Fields.{IsJson}
use Rattle.json_fields.proofs.PlainLaws.{plain_text}
use Rattle.form_fields.specs.Laws.{IsMadeOf}
use Rattle.form_fields.proofs.MemberLaws.{object_plain}
use Rattle.form_fields.proofs.RequestLaws.{read_again, request_formed, request_lawful}
use Rattle.result_forms.specs.declared.batches.BatchCreateTestResults.{BatchCreateTestResults}
use Rattle.result_forms.specs.declared.batches.BatchCreateTestExonerations.{BatchCreateTestExonerations}
use Rattle.field_kinds.specs.Requests.{RequestForm}
use Rattle.field_kinds.proofs.RequestLaws.{IsLawful}
use Rattle.result_forms.specs.Exonerations.{exoneration_members}
use Rattle.result_forms.specs.Laws.{AsksForOne, AsksOfForm, IsReadAgain, ShowsPlainExonerations, ShowsPlainResults, WritesPlain}
use Rattle.result_forms.specs.Methods.{result_row, exoneration_row, results_of, exonerations_of, results_form, exonerations_form}
use Rattle.result_forms.specs.Names as name
use Rattle.result_forms.specs.Replies.{exoneration_id, name_of_exoneration, name_of_result}
use Rattle.result_forms.specs.Results.{result_members}
use Rattle.result_forms.proofs.BatchLaws.{IsLawfulRow, batch_are, batch_fields, batch_made}
use Rattle.result_forms.proofs.RowLaws.{exoneration_lawful, exoneration_plain, result_lawful, result_plain}

result_row_lawful : IsLawfulRow result_row
result_row_lawful = record { row = result_lawful; apart = refl }

exoneration_row_lawful : IsLawfulRow exoneration_row
exoneration_row_lawful = record { row = exoneration_lawful; apart = refl }

results_made : IsMadeOf results_form (batch_fields result_row)
results_made =
    batch_made result_row results_of (λ b. record { invocation = b.invocation; request_id = b.request_id; requests = b.rows }) (λ b. refl) (λ q. refl)

exonerations_made : IsMadeOf exonerations_form (batch_fields exoneration_row)
exonerations_made =
    batch_made exoneration_row exonerations_of (λ b. record { invocation = b.invocation; request_id = b.request_id; requests = b.rows }) (λ b. refl) (λ q. refl)

pub results_lawful : IsLawful results_form
results_lawful =
    let are = batch_are result_row result_row_lawful in
    request_lawful results_form _ results_made are (request_formed results_form _ results_made are) (omega arith)

pub exonerations_lawful : IsLawful exonerations_form
exonerations_lawful =
    let are = batch_are exoneration_row exoneration_row_lawful in
    request_lawful exonerations_form _ exonerations_made are (request_formed exonerations_form _ exonerations_made are) (omega arith)

-- a body is one value
one_json : (body : List ℕ) (d e : Data) → IsJson body d → IsJson body e → d ≡ e
one_json body d e is also = let both : Some d ≡ Some e = sym is.1 ∙ also.1 in cc

pub asks_for_one : {Q : Type 0} (f : RequestForm Q) → IsLawful f → AsksForOne f
asks_for_one f law body q r h k =
    let d : h.value ≡ k.value = one_json body h.value k.value h.json k.json in
    law.one k.value q r (subst (λ (e : Data). f.means e q) d h.meant) k.meant

pub asks_of_form : {Q : Type 0} (f : RequestForm Q) → IsLawful f → AsksOfForm f
asks_of_form f law body q is = law.formed is.value q is.no_fault is.meant

pub results_again : (q : BatchCreateTestResults) → results_form.CanBeAsked q → IsReadAgain results_form q
results_again q is = read_again results_form _ results_made (batch_are result_row result_row_lawful) q is

pub exonerations_again : (q : BatchCreateTestExonerations) → exonerations_form.CanBeAsked q → IsReadAgain exonerations_form q
exonerations_again q is = read_again exonerations_form _ exonerations_made (batch_are exoneration_row exoneration_row_lawful) q is

-- ---- no float, and few levels

pub results_plain : WritesPlain results_form
results_plain q = let p = results_lawful.plain q in (p.no_float, p.deep)

pub exonerations_plain : WritesPlain exonerations_form
exonerations_plain q = let p = exonerations_lawful.plain q in (p.no_float, p.deep)

pub shown_results_plain : ShowsPlainResults
shown_results_plain id r =
    let p = object_plain 64 ((name.name, Some (string (name_of_result id r))) ∷ (name.variant_hash, Some (string (label_of r.variant))) ∷ result_members r)
    (plain_text 64 (name_of_result id r), (plain_text 64 (label_of r.variant), result_plain r)) in
    (p.no_float, p.deep)

pub shown_exonerations_plain : ShowsPlainExonerations
shown_exonerations_plain id x =
    let p = object_plain 64 ((name.exoneration_id, Some (string (exoneration_id x))) ∷ (name.name, Some (string (name_of_exoneration id x)))
    ∷ (name.variant_hash, Some (string (label_of x.variant))) ∷ exoneration_members x)
    (plain_text 64 (exoneration_id x), (plain_text 64 (name_of_exoneration id x), (plain_text 64 (label_of x.variant), exoneration_plain x))) in
    (p.no_float, p.deep)
