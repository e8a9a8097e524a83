-- The results of a report, batch by batch, and their names.
use Rattle.std.proofs.Common.{◌≡◌, ℕ, zero, suc, ◌+◌, ◌*◌, ◌^◌, ◌<◌, ◌≤◌, List, [], ◌∷◌, ◌++◌, length, take, drop, map, refl, sym, ap, ◌∙◌, arith, append-nil, length-take}
use Rattle.std.specs.Prelude.{All}
use Rattle.std.specs.Fmt.{decimal}
use Rattle.std.specs.Int.{div_ceil}
use Rattle.std.specs.List.{flat_map}
use Rattle.std.proofs.lemmas.Fmt.{decimal_injective}
use Rattle.std.proofs.lemmas.Grind.{flat_map-append}
use Rattle.std.proofs.lemmas.List.{append_cancel_left, map-append, take_all}
use Rattle.std.proofs.lemmas.List.Elements.{All-append, All-head, All-nil, All-tail}
use Rattle.std.proofs.lemmas.Option.{none-some, same_Some}
use Rattle.std.proofs.Math.Seq.{take-add}
use Rattle.names_realms.specs.declared.states.Case.{Case}
use Rattle.test_results.specs.declared.result.TestResult.{TestResult}
use Rattle.test_results.specs.Results.{HasUniqueKeys, IsPlaceOf, Key, key_of}
use Rattle.report_ids.specs.Digests.{report_digest, result_id_text}
use Rattle.sink_plans.specs.Plans.{batch_behind, first_numbers}
use Rattle.sink_plans.specs.Results.{result_of, results_from}
use Rattle.sink_plans.specs.declared.plans.SinkBatch.{SinkBatch}
use Rattle.upload_laws.specs.Reports.{BatchesHaveEachCase}

-- ---- batch by batch

-- cases behind others
from_append : (digest prefix : List ℕ) (n : ℕ) (xs ys : List Case)
    → results_from digest prefix n (xs ++ ys) ≡ results_from digest prefix n xs ++ results_from digest prefix (n + length xs) ys
from_append digest prefix n [] ys = let same : n ≡ n + 0 = omega arith in ap (λ m. results_from digest prefix m ys) same
from_append digest prefix n (x ∷ xs) ys =
    let next : (n + 1) + length xs ≡ n + suc (length xs) = omega arith in
    ap (λ (rs : List TestResult). result_of digest prefix n x ∷ rs)
    (from_append digest prefix (n + 1) xs ys ∙ ap (λ m. results_from digest prefix (n + 1) xs ++ results_from digest prefix m ys) next)

take_none : (xs : List Case) → take 0 xs ≡ []
take_none [] = refl
take_none (x ∷ xs) = refl

-- so many batches have the cases in front
first_batches : (digest prefix : List ℕ) (cases : List Case) (n : ℕ) → 200 * n < length cases + 200
    → flat_map (λ (b : SinkBatch). b.results) (map (batch_behind digest prefix cases) (first_numbers n))
    ≡ results_from digest prefix 1 (take (200 * n) cases)
first_batches digest prefix cases zero few = ap (results_from digest prefix 1) (sym (take_none cases))
first_batches digest prefix cases (suc n) few =
    let Held : SinkBatch → List TestResult = λ b. b.results in
    let behind : ℕ → SinkBatch = batch_behind digest prefix cases in
    let before : List Case = take (200 * n) cases in
    let next : List Case = take 200 (drop (200 * n) cases) in
    let len : 200 * n + 1 ≡ 1 + length before = omega (arith, few, length-take (200 * n) cases) in
    let more : 200 * n + 200 ≡ 200 * suc n = omega arith in
    ap (flat_map Held) (map-append behind (first_numbers n) (n ∷ []))
    ∙ flat_map-append Held (map behind (first_numbers n)) (behind n ∷ [])
    ∙ ap (λ (rs : List TestResult). rs ++ (results_from digest prefix (200 * n + 1) next ++ [])) (first_batches digest prefix cases n (omega (arith, few)))
    ∙ ap (λ (rs : List TestResult). results_from digest prefix 1 before ++ rs)
    (append-nil (results_from digest prefix (200 * n + 1) next) ∙ ap (λ m. results_from digest prefix m next) len)
    ∙ sym (from_append digest prefix 1 before next)
    ∙ ap (results_from digest prefix 1) (sym (take-add (200 * n) 200 cases) ∙ ap (λ m. take m cases) more)

pub batches_have_each_case : BatchesHaveEachCase
batches_have_each_case r =
    let digest = report_digest r.to.invocation r.text in
    let count = div_ceil (length r.cases) 200 in
    first_batches digest r.prefix r.cases count (omega arith)
    ∙ ap (results_from digest r.prefix 1) (take_all (200 * count) r.cases (omega arith))

-- what is so of the results of each batch is so of them all
pub each_gathered : (P : TestResult → Type 0) (batches : List SinkBatch) → All (λ (b : SinkBatch). All P b.results) batches
    → All P (flat_map (λ (b : SinkBatch). b.results) batches)
each_gathered P [] all = All-nil P
each_gathered P (b ∷ bs) all =
    All-append P b.results (flat_map (λ (x : SinkBatch). x.results) bs) (All-head (λ (x : SinkBatch). All P x.results) b bs all)
    (each_gathered P bs (All-tail (λ (x : SinkBatch). All P x.results) b bs all))

-- ---- by their names

-- the id of a result has its number
numbered_at : (digest prefix : List ℕ) (n : ℕ) (xs : List Case) (i : ℕ) (key : Key) → IsPlaceOf (results_from digest prefix n xs) key i
    → (key.id ≡ result_id_text digest (n + i)) × (i < length xs)
numbered_at digest prefix n [] i key at = absurd (none-some key at)
numbered_at digest prefix n (x ∷ xs) zero key at =
    let same : key_of (result_of digest prefix n x) ≡ key = same_Some (key_of (result_of digest prefix n x)) key at in
    let number : n ≡ n + 0 = omega arith in
    (ap (λ (k : Key). k.id) (sym same) ∙ ap (result_id_text digest) number, omega arith)
numbered_at digest prefix n (x ∷ xs) (suc i) key at =
    let rest = numbered_at digest prefix (n + 1) xs i key at in
    let number : (n + 1) + i ≡ n + suc i = omega arith in
    (rest.0 ∙ ap (result_id_text digest) number, omega (arith, rest.1))

-- so no two cases have one name
pub names_differ : (digest prefix : List ℕ) (cases : List Case) → length cases ≤ 2 ^ 40 → HasUniqueKeys (results_from digest prefix 1 cases)
names_differ digest prefix cases few key i j at also =
    let one = numbered_at digest prefix 1 cases i key at in
    let other = numbered_at digest prefix 1 cases j key also in
    let texts : take 8 digest ++ 45 ∷ decimal (1 + i) ≡ take 8 digest ++ 45 ∷ decimal (1 + j) = sym one.0 ∙ other.0 in
    let numbers : 45 ∷ decimal (1 + i) ≡ 45 ∷ decimal (1 + j) = append_cancel_left (take 8 digest) _ _ texts in
    let same : 1 + i ≡ 1 + j = decimal_injective (1 + i) (1 + j) (omega (arith, one.1, few)) (omega (arith, other.1, few)) (ap (drop 1) numbers) in
    omega (arith, same)
