-- Results one by one, batches one by one, and what every one of them has.
use Rattle.std.proofs.Common.{◌≡◌, ℕ, zero, suc, ◌+◌, ◌*◌, ◌^◌, ◌<◌, ◌≤◌, List, [], ◌∷◌, ◌++◌, length, get_or, take, drop, map, refl, sym, ap, ◌∙◌, arith, add-one, length-take, length-drop}
use Rattle.std.specs.Prelude.{All}
use Rattle.std.specs.Int.{div_ceil}
use Rattle.std.specs.Str.{IsUtf8}
use Rattle.std.proofs.lemmas.List.{nil_from_length, take_all, drop_all, map-append, drop-drop}
use Rattle.std.proofs.lemmas.List.Elements.{All-nil, All-cons, All-append, All-map}
use Rattle.names_realms.specs.declared.states.Case.{Case}
use Rattle.test_results.specs.declared.result.TestResult.{TestResult}
use Rattle.report_ids.specs.Digests.{IsDigest, IsRequestName, request_id_text}
use Rattle.report_ids.proofs.NameLemmas.{test_id_text-IsTestId}
use Rattle.report_ids.proofs.DigitLemmas.{numbered_is_id, numbered_is_name}
use Rattle.sink_plans.specs.Results.{result_of, results_from, IsPlain}
use Rattle.sink_plans.specs.Plans.{first_numbers, batch_behind, batches_of}
use Rattle.sink_plans.specs.declared.plans.SinkBatch.{SinkBatch}

-- where no more are left, all were taken
pub all_taken : (xs : List Case) (i j : ℕ) → drop i xs ≡ [] → i ≤ j → (take j xs ≡ take i xs) × (drop j xs ≡ [])
all_taken xs i j none within =
    let few : length xs ≤ i = omega (arith, ap length none, length-drop i xs) in
    (take_all j xs (omega arith) ∙ sym (take_all i xs few), drop_all j xs (omega arith))

suc_within : (n i : ℕ) → (n + 1) + i ≡ n + suc i
suc_within n i = omega arith

-- one result more
pub next_result : (digest prefix : List ℕ) (n : ℕ) (xs : List Case) (i : ℕ) (x : Case) (rest : List Case) → drop i xs ≡ x ∷ rest → (results_from digest prefix n (take (i + 1) xs) ≡ results_from digest prefix n (take i xs) ++ result_of digest prefix (n + i) x ∷ []) × (drop (i + 1) xs ≡ rest)
next_result digest prefix n [] zero x rest e = absurd (let l = ap length e in omega arith)
next_result digest prefix n [] (suc i) x rest e = absurd (let l = ap length e in omega arith)
next_result digest prefix n (y ∷ ys) zero x rest e =
    let same : y ≡ x = ap (λ l. get_or l 0 y) e in
    let number : n ≡ n + 0 = omega arith in
    (ap (λ m. result_of digest prefix m y ∷ []) number ∙ ap (λ z. result_of digest prefix (n + 0) z ∷ []) same, ap (drop 1) e)
next_result digest prefix n (y ∷ ys) (suc i) x rest e =
    let next = next_result digest prefix (n + 1) ys i x rest e in
    let count : suc i + 1 ≡ suc (i + 1) = omega arith in
    rw count (
      ap (λ (rs : List TestResult). result_of digest prefix n y ∷ rs) (next.0 ∙ ap (λ m. results_from digest prefix (n + 1) (take i ys) ++ result_of digest prefix m x ∷ []) (suc_within n i)),
      next.1,
    )

-- a queue that gives nothing is empty
pub none_left : (xs ys : List Case) → xs ≡ ys → ys ≡ drop 1 xs → xs ≡ []
none_left xs ys same rest = nil_from_length xs (omega (arith, ap length same, ap length rest, length-drop 1 xs))

length-results_from : (digest prefix : List ℕ) (n : ℕ) (xs : List Case) → length (results_from digest prefix n xs) ≡ length xs
length-results_from digest prefix n [] = refl
length-results_from digest prefix n (x ∷ xs) = ap suc (length-results_from digest prefix (n + 1) xs)

-- one batch more
pub next_batch : (digest prefix : List ℕ) (cases : List Case) (n : ℕ) → map (batch_behind digest prefix cases) (first_numbers (n + 1)) ≡ map (batch_behind digest prefix cases) (first_numbers n) ++ batch_behind digest prefix cases n ∷ []
next_batch digest prefix cases n =
    ap (λ m. map (batch_behind digest prefix cases) (first_numbers m)) (add-one n) ∙ map-append (batch_behind digest prefix cases) (first_numbers n) (n ∷ [])

pub next_left : (cases : List Case) (n : ℕ) → drop 200 (drop (200 * n) cases) ≡ drop (200 * (n + 1)) cases
next_left cases n = drop-drop 200 (200 * n) cases ∙ ap (λ m. drop m cases) (omega arith)

All-first_numbers : (P : ℕ → Type 0) (n : ℕ) → ((k : ℕ) → k < n → P k) → All P (first_numbers n)
All-first_numbers P zero each = All-nil P
All-first_numbers P (suc n) each =
    All-append P (first_numbers n) (n ∷ []) (All-first_numbers P n (λ k below. each k (omega (arith, below))))
    (All-cons P n [] (each n (omega arith)) (All-nil P))

-- no batch has more than 200 results
pub batches_few : (digest prefix : List ℕ) (cases : List Case) → All (λ (b : SinkBatch). length b.results ≤ 200) (batches_of digest prefix cases)
batches_few digest prefix cases =
    All-map (λ (b : SinkBatch). length b.results ≤ 200) (batch_behind digest prefix cases) (first_numbers (div_ceil (length cases) 200))
    (All-first_numbers (λ k. length (results_from digest prefix (200 * k + 1) (take 200 (drop (200 * k) cases))) ≤ 200) (div_ceil (length cases) 200) (λ k below.
    omega (arith, length-results_from digest prefix (200 * k + 1) (take 200 (drop (200 * k) cases)), length-take 200 (drop (200 * k) cases))))

plain_one : (digest prefix : List ℕ) (n : ℕ) (x : Case) → IsDigest digest → IsUtf8 prefix → n < 2 ^ 64 → IsPlain (result_of digest prefix n x)
plain_one digest prefix n x digits valid fits = record {
  test = test_id_text-IsTestId prefix x.name valid;
  result = numbered_is_id digest n digits.0 digits.1 fits;
  holder = refl;
  variant = refl;
  summary = refl;
  start = refl;
  tags = refl;
  properties = refl;
}

plain_from : (digest prefix : List ℕ) (n : ℕ) (xs : List Case) → IsDigest digest → IsUtf8 prefix → n + length xs ≤ 2 ^ 64 → All IsPlain (results_from digest prefix n xs)
plain_from digest prefix n [] digits valid fits = All-nil IsPlain
plain_from digest prefix n (x ∷ xs) digits valid fits =
    All-cons IsPlain _ _ (plain_one digest prefix n x digits valid (omega (arith, fits))) (plain_from digest prefix (n + 1) xs digits valid (omega (arith, fits)))

count_few : (len k : ℕ) → len < 2 ^ 63 → k < div_ceil len 200 → 200 * k + 201 < 2 ^ 64
count_few len k few below = omega (arith, few, below)

-- each result is plain
pub batches_plain : (digest prefix : List ℕ) (cases : List Case) → IsDigest digest → IsUtf8 prefix → length cases < 2 ^ 63 → All (λ (b : SinkBatch). All IsPlain b.results) (batches_of digest prefix cases)
batches_plain digest prefix cases digits valid few =
    All-map (λ (b : SinkBatch). All IsPlain b.results) (batch_behind digest prefix cases) (first_numbers (div_ceil (length cases) 200))
    (All-first_numbers (λ k. All IsPlain (results_from digest prefix (200 * k + 1) (take 200 (drop (200 * k) cases)))) (div_ceil (length cases) 200) (λ k below.
    plain_from digest prefix (200 * k + 1) (take 200 (drop (200 * k) cases)) digits valid (omega (arith, count_few (length cases) k few below, length-take 200 (drop (200 * k) cases)))))

-- each request has a name, where there aren't too many
pub batches_named : (digest prefix : List ℕ) (cases : List Case) → IsDigest digest → length cases ≤ 2 ^ 40 → All (λ (b : SinkBatch). IsRequestName b.request_id) (batches_of digest prefix cases)
batches_named digest prefix cases digits few =
    All-map (λ (b : SinkBatch). IsRequestName b.request_id) (batch_behind digest prefix cases) (first_numbers (div_ceil (length cases) 200))
    (All-first_numbers (λ k. IsRequestName (request_id_text digest (k + 1))) (div_ceil (length cases) 200) (λ k below.
    numbered_is_name digest (k + 1) digits.0 digits.1 (omega (arith, few, below))))
