-- What is written of a report's results is read as they are.
use Rattle.std.proofs.Common.{ℕ, ◌+◌, ◌^◌, ◌<◌, ◌≤◌, List, [], ◌∷◌, length, Some, refl, inl, arith, IsUtf8}
use Rattle.std.specs.Prelude.{All}
use Rattle.std.proofs.lemmas.Str.{IsUtf8-nil}
use Rattle.std.proofs.lemmas.List.Elements.{All-cons, All-head, All-nil, All-tail}
use Rattle.std.proofs.lemmas.Option.{none-some}
use Rattle.json.proofs.Printed.Utf8.{IsUtf8-are_ascii}
use Rattle.serde_json.specs.Data.{string}
use Rattle.name_parts.proofs.PartLemmas.{IsPart-utf8}
use Rattle.name_parts.specs.declared.alphabets.Alphabet.TheVariants as alphabet
use Rattle.name_parts.specs.declared.parts.PartForm.TheVariants.{Letters, TestId}
use Rattle.names_realms.specs.declared.states.Case.{Case}
use Rattle.test_results.specs.declared.result.TestResult.{TestResult}
use Rattle.field_kinds.specs.PairKinds.Tags.{IsPairOfGrammar}
use Rattle.field_kinds.proofs.ReadValues.{IsReadValue}
use Rattle.result_forms.specs.Batches.{element_data}
use Rattle.result_forms.specs.Methods.{result_row}
use Rattle.result_forms.specs.Names as name
use Rattle.result_forms.specs.Results.{IsResultOfForm, more_members, new_result_data, result_members}
use Rattle.result_forms.proofs.KindLaws.{variant_empty}
use Rattle.report_ids.specs.Digests.{IsDigest}
use Rattle.report_ids.proofs.DigitLemmas.{numbered_is_id}
use Rattle.report_ids.proofs.NameLemmas.{test_id_text-IsTestId}
use Rattle.sink_plans.specs.Results.{result_of, results_from}
use Rattle.upload_laws.specs.Reports.{CanBeSaid}
use Rattle.upload_laws.proofs.ReadFacts.{AreRead, MayBeRead, flag_read, object_read, properties_read, reason_read, span_read, status_read, text_read}

result_read : (digest prefix : List ℕ) (n : ℕ) (case : Case) → IsDigest digest → IsUtf8 prefix → n < 2 ^ 64 → CanBeSaid case
    → IsReadValue (new_result_data (result_of digest prefix n case))
result_read digest prefix n case digits valid fits said =
    let result = result_of digest prefix n case in
    let test : MayBeRead name.test_id (Some (string result.test)) =
    (IsUtf8-are_ascii name.test_id.camel refl, IsPart-utf8 TestId result.test (test_id_text-IsTestId prefix case.name valid)) in
    let id : MayBeRead name.result_id (Some (string result.result)) = (
      IsUtf8-are_ascii name.result_id.camel refl,
      IsPart-utf8 (Letters alphabet.Outcome) result.result (numbered_is_id digest n digits.0 digits.1 fits),
    ) in
    let flag = flag_read name.expected case.expected (IsUtf8-are_ascii name.expected.camel refl) in
    let summary = text_read name.summary_html [] (IsUtf8-are_ascii name.summary_html.camel refl) in
    let more : AreRead (more_members result) =
    (tt, (span_read case.duration said.duration, (tt, (reason_read case.message, (properties_read [], tt))))) in
    object_read (result_members result) (test, (id, (tt, (flag, (status_read case.status, (summary, more))))))

pub result_right : (digest prefix : List ℕ) (n : ℕ) (case : Case) → IsDigest digest → IsUtf8 prefix → n < 2 ^ 64 → CanBeSaid case
    → IsResultOfForm (result_of digest prefix n case)
result_right digest prefix n case digits valid fits said = record {
  holder = refl;
  what = record {
    test = test_id_text-IsTestId prefix case.name valid;
    result = numbered_is_id digest n digits.0 digits.1 fits;
    order = variant_empty.0;
    variant = variant_empty.1;
    summary = (IsUtf8-nil, refl);
  };
  more = record {
    start = λ moment never. absurd (none-some moment never);
    duration = said.duration;
    tags = All-nil IsPairOfGrammar;
    message = said.message;
    properties = inl refl;
  };
}

-- what is so of each result is so of those of cases
pub each_result : (P : TestResult → Type 0) (digest prefix : List ℕ) (n : ℕ) (cases : List Case)
    → ((m : ℕ) (case : Case) → m < 2 ^ 64 → CanBeSaid case → P (result_of digest prefix m case)) → n + length cases ≤ 2 ^ 64
    → All CanBeSaid cases → All P (results_from digest prefix n cases)
each_result P digest prefix n [] each few said = All-nil P
each_result P digest prefix n (x ∷ xs) each few said =
    All-cons P (result_of digest prefix n x) (results_from digest prefix (n + 1) xs)
    (each n x (omega (arith, few)) (All-head CanBeSaid x xs said))
    (each_result P digest prefix (n + 1) xs each (omega (arith, few)) (All-tail CanBeSaid x xs said))

-- the element of a batch that says a result
pub element_read : (digest prefix : List ℕ) (n : ℕ) (case : Case) → IsDigest digest → IsUtf8 prefix → n < 2 ^ 64 → CanBeSaid case
    → IsReadValue (element_data result_row (result_of digest prefix n case))
element_read digest prefix n case digits valid fits said =
    object_read ((name.test_result, Some (new_result_data (result_of digest prefix n case))) ∷ [])
    ((IsUtf8-are_ascii name.test_result.camel refl, result_read digest prefix n case digits valid fits said), tt)
