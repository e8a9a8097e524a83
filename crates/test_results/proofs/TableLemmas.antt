-- Rows that come behind those of a table.
use Rattle.std.proofs.Common.{◌≡◌, ◌≢◌, ◌⊎◌, ◌<◌, ◌≤◌, ◌+◌, ℕ, zero, suc, List, [], ◌∷◌, ◌++◌, length, get_or, Contains, Some, None, refl, sym, ap, ◌∙◌, subst, inl, inr, arith, append_assoc}
use Rattle.std.specs.List.{All, AllByRecursion, slice_get}
use Rattle.std.proofs.lemmas.Bool.{cases_eq}
use Rattle.std.proofs.lemmas.List.{length-map, length-append, length_push, map_push, append-nil}
use Rattle.std.proofs.lemmas.List.Elements.{recursion_from_All, Contains-append_cases}
use Rattle.std.proofs.lemmas.Option.{get_or_from_slice_get, same_Some, slice_get-get_or, slice_get_within}
use Rattle.test_results.specs.declared.result.TestResult.{TestResult}
use Rattle.test_results.specs.Results.{Key, HasKey, IsTable, holders_of, key_of, keys_of, places_in}
use Rattle.test_results.specs.Places.{places_of}
use Rattle.test_results.specs.Batches.{AreFree, AreOnce, CanAdd}
use Rattle.hash_chains.specs.Chains.{ChainsState}
use Rattle.test_results.specs.Hashes.{hash_of, hashes_of}
use Rattle.test_results.specs.Orders.{IsIndexed}
use Rattle.test_results.proofs.PlaceLemmas.{places_own, places_others}

-- what stands at a place of a list with one value more
pub at_place : {X : Type 0} (xs : List X) (x y : X) (i : ℕ) → slice_get (xs ++ x ∷ []) i ≡ Some y
    → (slice_get xs i ≡ Some y) ⊎ ((i ≡ length xs) × (x ≡ y))
at_place [] x y zero e = inr (refl, same_Some x y e)
at_place [] x y (suc i) e = let no : None ≡ Some y = e in cc
at_place (z ∷ zs) x y zero e = inl e
at_place (z ∷ zs) x y (suc i) e =
    elim (at_place zs x y i e) [ inl h ↦ inl h | inr h ↦ inr (ap suc h.0, h.1) ]

pub has_key : (keys : List Key) (p : ℕ) (key : Key) → slice_get keys p ≡ Some key → Contains keys key
has_key keys p key e = (p, slice_get_within keys p key e, get_or_from_slice_get keys p key key e)

abbrev AreUnique : List Key → Type 0
AreUnique keys = (key : Key) (i j : ℕ) → slice_get keys i ≡ Some key → slice_get keys j ≡ Some key → i ≡ j

unique_keys : (keys : List Key) (new : Key) → AreUnique keys → ¬ Contains keys new → AreUnique (keys ++ new ∷ [])
unique_keys keys new unique free key i j e f =
    elim (at_place keys new key i e) [
      | inl a ↦ elim (at_place keys new key j f) [
        | inl b ↦ unique key i j a b
        | inr b ↦ absurd (free (has_key keys i new (a ∙ ap (λ k. Some k) (sym b.1))))
      ]
      | inr a ↦ elim (at_place keys new key j f) [
        | inl b ↦ absurd (free (has_key keys j new (b ∙ ap (λ k. Some k) (sym a.1))))
        | inr b ↦ a.0 ∙ sym b.0
      ]
    ]

keys_push : (rows : List TestResult) (row : TestResult) → keys_of (rows ++ row ∷ []) ≡ keys_of rows ++ key_of row ∷ []
keys_push rows row = map_push key_of rows row

holders_push : (rows : List TestResult) (row : TestResult) → holders_of (rows ++ row ∷ []) ≡ holders_of rows ++ row.holder ∷ []
holders_push rows row = map_push (λ (r : TestResult). r.holder) rows row

places_push_own : (rows : List TestResult) (row : TestResult)
    → places_in (rows ++ row ∷ []) row.holder ≡ places_in rows row.holder ++ length rows ∷ []
places_push_own rows row =
    ap (λ hs. places_of hs row.holder) (holders_push rows row)
    ∙ places_own (holders_of rows) row.holder
    ∙ ap (λ n. places_in rows row.holder ++ n ∷ []) (length-map rows (λ (r : TestResult). r.holder))

places_push_other : (rows : List TestResult) (row : TestResult) (holder : ℕ) → row.holder ≢ holder
    → places_in (rows ++ row ∷ []) holder ≡ places_in rows holder
places_push_other rows row holder other =
    ap (λ hs. places_of hs holder) (holders_push rows row) ∙ places_others (holders_of rows) row.holder holder other

few_push : (rows : List TestResult) (row : TestResult) (holder : ℕ) → ((h : ℕ) → length (places_in rows h) ≤ 100_000)
    → length (places_in rows row.holder) < 100_000 → length (places_in (rows ++ row ∷ []) holder) ≤ 100_000
few_push rows row holder few below =
    elim (cases_eq row.holder holder) [
      | inl same ↦ subst (λ h. length (places_in (rows ++ row ∷ []) h) ≤ 100_000) same
          (let e = ap (λ ps. length ps) (places_push_own rows row) in
          omega (arith, e, length_push (places_in rows row.holder) (length rows), below))
      | inr other ↦ subst (λ ps. length ps ≤ 100_000) (sym (places_push_other rows row holder other)) (few holder)
    ]

table_push : (rows : List TestResult) (row : TestResult) → IsTable rows → ¬ HasKey rows (key_of row)
    → length (places_in rows row.holder) < 100_000 → IsTable (rows ++ row ∷ [])
table_push rows row table free below = record {
  unique = subst AreUnique (sym (keys_push rows row)) (unique_keys (keys_of rows) (key_of row) table.unique free);
  few = λ holder. few_push rows row holder table.few below;
}

-- a row more, with its place in the list of its holder, and with that of its key
pub indexed_push : (rows : List TestResult) (row : TestResult) (arrived arrived_ : List (List ℕ)) (found found_ : ChainsState)
    → IsIndexed rows arrived found → ¬ HasKey rows (key_of row) → length (places_in rows row.holder) < 100_000
    → get_or arrived_ row.holder [] ≡ get_or arrived row.holder [] ++ length rows ∷ []
    → ((h : ℕ) → h ≢ row.holder → get_or arrived_ h [] ≡ get_or arrived h [])
    → found_.hashes ≡ found.hashes ++ hash_of (key_of row) ∷ [] → IsIndexed (rows ++ row ∷ []) arrived_ found_
indexed_push rows row arrived arrived_ found found_ index free below own others chained = record {
  table = table_push rows row index.table free below;
  places = λ h. elim (cases_eq h row.holder) [
    | inl same ↦ subst (λ k. get_or arrived_ k [] ≡ places_in (rows ++ row ∷ []) k) (sym same)
        (own ∙ ap (λ ps. ps ++ length rows ∷ []) (index.places row.holder) ∙ sym (places_push_own rows row))
    | inr other ↦ others h other ∙ index.places h ∙ sym (places_push_other rows row h (λ e. other (sym e)))
  ];
  chained = chained ∙ ap (λ hs. hs ++ hash_of (key_of row) ∷ []) index.chained
      ∙ sym (ap (λ ks. hashes_of ks) (keys_push rows row) ∙ map_push hash_of (keys_of rows) (key_of row));
}

-- A batch, row by row.

recursion_front : {X : Type 0} (P : X → Type 0) (xs ys : List X) → AllByRecursion P (xs ++ ys) → AllByRecursion P xs
recursion_front P [] ys h = tt
recursion_front P (x ∷ xs) ys h = (h.0, recursion_front P xs ys h.1)

recursion_back : {X : Type 0} (P : X → Type 0) (xs ys : List X) → AllByRecursion P (xs ++ ys) → AllByRecursion P ys
recursion_back P [] ys h = h
recursion_back P (x ∷ xs) ys h = recursion_back P xs ys h.1

key_next : (done : List TestResult) (row : TestResult) (rest : List TestResult)
    → slice_get (keys_of (done ++ row ∷ rest)) (length done) ≡ Some (key_of row)
key_next [] row rest = refl
key_next (x ∷ done) row rest = key_next done row rest

key_before : (done rest : List TestResult) (key : Key) (k : ℕ) → slice_get (keys_of done) k ≡ Some key
    → slice_get (keys_of (done ++ rest)) k ≡ Some key
key_before [] rest key k e = let no : None ≡ Some key = e in cc
key_before (x ∷ done) rest key zero e = e
key_before (x ∷ done) rest key (suc k) e = key_before done rest key k e

keys_append : (rows more : List TestResult) → keys_of (rows ++ more) ≡ keys_of rows ++ keys_of more
keys_append [] more = refl
keys_append (x ∷ rows) more = ap (λ ks. key_of x ∷ ks) (keys_append rows more)

count_more : (rows more : List TestResult) (holder : ℕ) → AllByRecursion (λ (r : TestResult). r.holder ≡ holder) more
    → length (places_in (rows ++ more) holder) ≡ length (places_in rows holder) + length more
count_more rows [] holder held = ap (λ rs. length (places_in rs holder)) (append-nil rows) ∙ omega arith
count_more rows (x ∷ more) holder held =
    let next = rows ++ x ∷ [] in
    let own = subst (λ h. places_in next h ≡ places_in rows h ++ length rows ∷ []) held.0 (places_push_own rows x) in
    let one : length (places_in next holder) ≡ length (places_in rows holder) + 1 =
    ap (λ ps. length ps) own ∙ length_push (places_in rows holder) (length rows) in
    let rest = count_more next more holder held.1 in
    ap (λ rs. length (places_in rs holder)) (sym (append_assoc rows (x ∷ []) more)) ∙ omega (arith, one, rest)

-- what is so of the next row of a batch, when those before it stand in the table
pub record IsNext (rows done : List TestResult) (row : TestResult) (holder count : ℕ) : Type 0 where
  pub own : row.holder ≡ holder
  pub free : ¬ HasKey (rows ++ done) (key_of row)
  pub below : length (places_in (rows ++ done) row.holder) < 100_000
  pub within : length done < count

next_free : (rows done : List TestResult) (row : TestResult) (rest : List TestResult)
    → AreOnce (done ++ row ∷ rest) (length (done ++ row ∷ rest)) → AreFree rows (done ++ row ∷ rest) (length (done ++ row ∷ rest))
    → ¬ HasKey (rows ++ done) (key_of row)
next_free rows done row rest once free held =
    let batch = done ++ row ∷ rest in
    let within : length done < length batch = omega (arith, length-append done (row ∷ rest)) in
    let next = key_next done row rest in
    elim (Contains-append_cases (keys_of rows) (keys_of done) (key_of row) (subst (λ ks. Contains ks (key_of row)) (keys_append rows done) held)) [
      | inl old ↦ free (key_of row) (length done) within next old
      | inr new ↦
          let low : new.0 < length done = omega (arith, new.1, length-map done key_of) in
          let there = key_before done (row ∷ rest) (key_of row) new.0 (slice_get-get_or (keys_of done) new.0 (key_of row) new.1 ∙ ap (λ k. Some k) new.2) in
          let same = once (key_of row) new.0 (length done) (omega (arith, low, within)) within there next in
          omega (arith, same, low)
    ]

pub next_row : (rows batch done : List TestResult) (row : TestResult) (rest : List TestResult) (holder : ℕ)
    → All (λ r. r.holder ≡ holder) batch → CanAdd rows holder batch → batch ≡ done ++ row ∷ rest
    → IsNext rows done row holder (length batch)
next_row rows batch done row rest holder held can is =
    let all = subst (AllByRecursion (λ (r : TestResult). r.holder ≡ holder)) is (recursion_from_All (λ (r : TestResult). r.holder ≡ holder) batch held) in
    let own = (recursion_back (λ (r : TestResult). r.holder ≡ holder) done (row ∷ rest) all).0 in
    let front = recursion_front (λ (r : TestResult). r.holder ≡ holder) done (row ∷ rest) all in
    let count : length batch ≡ length (done ++ row ∷ rest) = ap (λ rs. length rs) is in
    let within : length done < length batch = omega (arith, count, length-append done (row ∷ rest)) in
    record {
      own = own;
      free = next_free rows done row rest (subst (λ rs. AreOnce rs (length rs)) is can.once) (subst (λ rs. AreFree rows rs (length rs)) is can.free);
      below = subst (λ h. length (places_in (rows ++ done) h) < 100_000) (sym own)
          (omega (arith, count_more rows done holder front, can.few, within));
      within = within;
    }

table_after : (rows batch done rest : List TestResult) (holder : ℕ) → All (λ r. r.holder ≡ holder) batch → CanAdd rows holder batch
    → batch ≡ done ++ rest → IsTable (rows ++ done) → IsTable (rows ++ batch)
table_after rows batch done [] holder held can is table =
    subst (λ rs. IsTable (rows ++ rs)) (sym (is ∙ append-nil done)) table
table_after rows batch done (row ∷ rest) holder held can is table =
    let next = next_row rows batch done row rest holder held can is in
    let more = table_push (rows ++ done) row table next.free next.below in
    table_after rows batch (done ++ row ∷ []) rest holder held can (is ∙ sym (append_assoc done (row ∷ []) rest))
    (subst IsTable (append_assoc rows done (row ∷ [])) more)

-- a table that a batch came into is one
pub table_with : (rows batch : List TestResult) (holder : ℕ) → All (λ r. r.holder ≡ holder) batch → CanAdd rows holder batch → IsTable rows
    → IsTable (rows ++ batch)
table_with rows batch holder held can table =
    table_after rows batch [] batch holder held can refl (subst IsTable (sym (append-nil rows)) table)
