-- What the sink asks by a batch is read as that batch.
use Rattle.std.proofs.Common.{◌≢◌, ℕ, zero, suc, ◌+◌, ◌*◌, ◌^◌, ◌<◌, ◌≤◌, List, [], ◌∷◌, length, take, drop, Some, refl, subst, arith, length-take, length-drop, IsUtf8, codes}
use Rattle.std.specs.Prelude.{All}
use Rattle.std.specs.Int.{div_ceil}
use Rattle.std.proofs.lemmas.List.Elements.{All-append, All-cons, All-drop, All-map, All-nil, All-take}
use Rattle.std.proofs.lemmas.Option.{same_Some}
use Rattle.std.proofs.lemmas.Str.{IsUtf8-append, IsUtf8-from_ascii}
use Rattle.std.proofs.lemmas.Str.Ascii.{IsAscii-from_all}
use Rattle.json.proofs.Printed.Utf8.{IsUtf8-are_ascii}
use Rattle.serde_json.specs.Written.{compact_text}
use Rattle.name_parts.proofs.PartLemmas.{IsPart-utf8}
use Rattle.name_parts.specs.declared.alphabets.Alphabet.TheVariants as alphabet
use Rattle.name_parts.specs.declared.parts.PartForm.TheVariants.{Letters}
use Rattle.names_realms.specs.Names.{IsInvocationId}
use Rattle.names_realms.specs.declared.states.Case.{Case}
use Rattle.test_results.specs.declared.result.TestResult.{TestResult}
use Rattle.text_kinds.specs.Texts.{IsRequestId}
use Rattle.field_kinds.proofs.CompactLaws.{compact_read, compact_utf8}
use Rattle.field_kinds.proofs.ReadValues.{IsReadValue}
use Rattle.result_forms.specs.Batches.{IsBatchOfForm, batch_data, batch_members, element_data}
use Rattle.result_forms.specs.Methods.{result_row, results_of}
use Rattle.result_forms.specs.Names as name
use Rattle.result_forms.specs.Results.{IsResultOfForm}
use Rattle.result_forms.specs.declared.batches.BatchCreateTestResults.{BatchCreateTestResults}
use Rattle.result_forms.proofs.MethodLaws.{results_again, results_lawful}
use Rattle.sink_uploads.specs.MessageForms.Methods.{name_of, request_data, service_of}
use Rattle.sink_uploads.specs.MessageForms.Reading.{Asks}
use Rattle.sink_uploads.specs.MessageForms.declared.requests.Method.TheVariants.{BatchCreateTestResults as CreateResults}
use Rattle.sink_uploads.specs.MessageForms.declared.requests.Request.TheVariants as asks
use Rattle.sink_uploads.proofs.MessageForms.MethodLaws.{method_named}
use Rattle.report_ids.specs.Digests.{IsDigest, report_digest, request_id_text}
use Rattle.report_ids.proofs.DigitLemmas.{numbered_is_name}
use Rattle.sink_plans.specs.Plans.{batch_behind, first_numbers}
use Rattle.sink_plans.specs.Results.{results_from}
use Rattle.sink_plans.specs.declared.plans.Destination.{Destination}
use Rattle.sink_plans.specs.declared.plans.SinkBatch.{SinkBatch}
use Rattle.sink_uploads.specs.Requests.{batch_request}
use Rattle.upload_laws.specs.Reports.{CanBeSaid}
use Rattle.upload_laws.specs.Sending.{AsksFor, BatchesAreRead, asked_by}
use Rattle.upload_laws.proofs.DigestFacts.{report_digest_digits, request_name_is_id}
use Rattle.upload_laws.proofs.ReadFacts.{list_read, object_read}
use Rattle.upload_laws.proofs.ResultFacts.{each_result, element_read, result_right}

-- the cases of a batch are some, not too many, and each of them can be said
record IsAPart (part : List Case) (first : ℕ) : Type 0 where
  some : 0 < length part
  few : first + length part ≤ 2 ^ 64
  said : All CanBeSaid part

part_of : (cases : List Case) (k : ℕ) → length cases ≤ 2 ^ 40 → k < div_ceil (length cases) 200 → All CanBeSaid cases
    → IsAPart (take 200 (drop (200 * k) cases)) (200 * k + 1)
part_of cases k few below said = record {
  some = omega (arith, below, length-take 200 (drop (200 * k) cases), length-drop (200 * k) cases);
  few = omega (arith, few, below, length-take 200 (drop (200 * k) cases));
  said = All-take CanBeSaid 200 (drop (200 * k) cases) (All-drop CanBeSaid (200 * k) cases said);
}

some_results : (digest prefix : List ℕ) (n : ℕ) (cases : List Case) → 0 < length cases → results_from digest prefix n cases ≢ []
some_results digest prefix n [] some none = absurd (omega (arith, some))
some_results digest prefix n (x ∷ xs) some none = absurd cc

request_utf8 : (text : List ℕ) → IsRequestId text → IsUtf8 text
request_utf8 text is = IsUtf8-from_ascii text (IsAscii-from_all text (λ k d low. let within = is.bytes k d low in omega (arith, within.1)))

-- a request with results that can be asked for is read as it is written
results_asked : (q : BatchCreateTestResults) → IsBatchOfForm result_row (results_of q) → IsReadValue (batch_data result_row (results_of q))
    → Asks (service_of CreateResults) (name_of CreateResults) (compact_text (request_data (asks.BatchCreateTestResults q)))
    (asks.BatchCreateTestResults q)
results_asked q right is =
    let again = results_again q right in
    let plain = results_lawful.plain q in
    let value = request_data (asks.BatchCreateTestResults q) in
    record {
      method = CreateResults;
      named = method_named CreateResults;
      value = value;
      json = (compact_utf8 value is plain.no_float, compact_read value is plain.no_float (omega (arith, plain.deep)));
      no_fault = again.0;
      meant = (refl, again.1);
    }

batch_read : (to : Destination) (digest prefix : List ℕ) (cases : List Case) (k : ℕ) → IsDigest digest → IsInvocationId to.invocation → IsUtf8 prefix
    → length cases ≤ 2 ^ 40 → All CanBeSaid cases → k < div_ceil (length cases) 200
    → AsksFor (asked_by to (batch_behind digest prefix cases k)) (batch_request to.invocation (batch_behind digest prefix cases k))
batch_read to digest prefix cases k digits id valid few said below =
    let part = take 200 (drop (200 * k) cases) in
    let has = part_of cases k few below said in
    let number = request_id_text digest (k + 1) in
    let named = request_name_is_id number (numbered_is_name digest (k + 1) digits.0 digits.1 (omega (arith, few, below))) in
    let rows = results_from digest prefix (200 * k + 1) part in
    let q : BatchCreateTestResults = record { invocation = to.invocation; request_id = Some number; requests = rows } in
    results_asked q (record {
      invocation = id;
      request_id = λ text is. subst IsRequestId (same_Some number text is) named;
      some = some_results digest prefix (200 * k + 1) part has.some;
      rows = each_result IsResultOfForm digest prefix (200 * k + 1) part (λ m case fits can. result_right digest prefix m case digits valid fits can)
          has.few has.said;
    })
    (object_read (batch_members result_row (results_of q)) (
      (
        IsUtf8-are_ascii name.invocation.camel refl,
        IsUtf8-append (codes "invocations/") to.invocation (IsUtf8-are_ascii (codes "invocations/") refl)
            (IsPart-utf8 (Letters alphabet.Invocation) to.invocation id),
      ),
      (
        (IsUtf8-are_ascii name.request_id.camel refl, request_utf8 number named),
        (
          (
            IsUtf8-are_ascii name.requests.camel refl,
            list_read (element_data result_row) rows
                (each_result (λ (r : TestResult). IsReadValue (element_data result_row r)) digest prefix (200 * k + 1) part
                (λ m case fits can. element_read digest prefix m case digits valid fits can)
                has.few has.said),
          ),
          tt,
        ),
      ),
    ))

All-first : (P : ℕ → Type 0) (n : ℕ) → ((k : ℕ) → k < n → P k) → All P (first_numbers n)
All-first P zero each = All-nil P
All-first P (suc n) each =
    All-append P (first_numbers n) (n ∷ []) (All-first P n (λ k below. each k (omega (arith, below))))
    (All-cons P n [] (each n (omega arith)) (All-nil P))

pub batches_are_read : BatchesAreRead
batches_are_read r can =
    let digest = report_digest r.to.invocation r.text in
    let digits = report_digest_digits r.to.invocation r.text in
    let count = div_ceil (length r.cases) 200 in
    All-map (λ (b : SinkBatch). AsksFor (asked_by r.to b) (batch_request r.to.invocation b)) (batch_behind digest r.prefix r.cases) (first_numbers count)
    (All-first (λ k. AsksFor (asked_by r.to (batch_behind digest r.prefix r.cases k)) (batch_request r.to.invocation (batch_behind digest r.prefix r.cases k)))
    count (λ k below. batch_read r.to digest r.prefix r.cases k digits can.invocation can.prefix can.few can.said below))
