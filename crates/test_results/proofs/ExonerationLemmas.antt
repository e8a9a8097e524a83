-- Exonerations that come behind those of a table.
use Rattle.std.proofs.Common.{◌≡◌, ◌≢◌, ◌<◌, ◌≤◌, ◌+◌, ℕ, zero, suc, List, [], ◌∷◌, ◌++◌, length, map, get_or, set, take, drop, Some, refl, sym, ap, ◌∙◌, subst, inl, inr, arith, append_assoc}
use Rattle.std.specs.List.{slice_get}
use Rattle.std.proofs.lemmas.Bool.{cases_eq}
use Rattle.std.proofs.lemmas.List.{length-map, length-append, length_push, map_push, append-nil, take_at, take-append-le}
use Rattle.std.proofs.lemmas.Option.{slice_get_within}
use Rattle.test_results.specs.declared.exoneration.TestExoneration.{TestExoneration}
use Rattle.test_results.specs.Exonerations.{CanAdd, IsIndexed, IsPlaced, IsTable, given, places_in}
use Rattle.test_results.specs.Places.{places_of}
use Rattle.test_results.proofs.PlaceLemmas.{places_own, places_others}
use Rattle.test_results.proofs.TableLemmas.{at_place}

abbrev holder_of : TestExoneration → ℕ
holder_of row = row.holder

holders_push : (rows : List TestExoneration) (row : TestExoneration) → map holder_of (rows ++ row ∷ []) ≡ map holder_of rows ++ row.holder ∷ []
holders_push rows row = map_push holder_of rows row

places_push_own : (rows : List TestExoneration) (row : TestExoneration)
    → places_in (rows ++ row ∷ []) row.holder ≡ places_in rows row.holder ++ length rows ∷ []
places_push_own rows row =
    ap (λ hs. places_of hs row.holder) (holders_push rows row)
    ∙ places_own (map holder_of rows) row.holder
    ∙ ap (λ n. places_in rows row.holder ++ n ∷ []) (length-map rows holder_of)

places_push_other : (rows : List TestExoneration) (row : TestExoneration) (holder : ℕ) → row.holder ≢ holder
    → places_in (rows ++ row ∷ []) holder ≡ places_in rows holder
places_push_other rows row holder other =
    ap (λ hs. places_of hs holder) (holders_push rows row) ∙ places_others (map holder_of rows) row.holder holder other

few_push : (rows : List TestExoneration) (row : TestExoneration) (holder : ℕ) → ((h : ℕ) → length (places_in rows h) ≤ 100_000)
    → length (places_in rows row.holder) < 100_000 → length (places_in (rows ++ row ∷ []) holder) ≤ 100_000
few_push rows row holder few below =
    elim (cases_eq row.holder holder) [
      | inl same ↦ subst (λ h. length (places_in (rows ++ row ∷ []) h) ≤ 100_000) same
          (let e = ap (λ ps. length ps) (places_push_own rows row) in
          omega (arith, e, length_push (places_in rows row.holder) (length rows), below))
      | inr other ↦ subst (λ ps. length ps ≤ 100_000) (sym (places_push_other rows row holder other)) (few holder)
    ]

placed_push : (rows : List TestExoneration) (row : TestExoneration)
    → ((at : ℕ) (r : TestExoneration) → slice_get rows at ≡ Some r → IsPlaced (take at rows) r) → IsPlaced rows row
    → (at : ℕ) (r : TestExoneration) → slice_get (rows ++ row ∷ []) at ≡ Some r → IsPlaced (take at (rows ++ row ∷ [])) r
placed_push rows row placed new at r e =
    elim (at_place rows row r at e) [
      | inl old ↦ let within : at ≤ length rows = omega (arith, slice_get_within rows at r old) in
          subst (λ rs. IsPlaced rs r) (sym (take-append-le at rows (row ∷ []) within)) (placed at r old)
      | inr h ↦ subst (λ rs. IsPlaced rs r) (sym (take_at rows (row ∷ []) at (sym h.0))) (subst (λ x. IsPlaced rows x) h.1 new)
    ]

-- a row more, with its place in the list of its holder
pub indexed_push : (rows : List TestExoneration) (row : TestExoneration) (arrived arrived_ : List (List ℕ))
    → IsIndexed rows arrived → length (places_in rows row.holder) < 100_000 → IsPlaced rows row
    → get_or arrived_ row.holder [] ≡ get_or arrived row.holder [] ++ length rows ∷ []
    → ((h : ℕ) → h ≢ row.holder → get_or arrived_ h [] ≡ get_or arrived h [])
    → IsIndexed (rows ++ row ∷ []) arrived_
indexed_push rows row arrived arrived_ index below placed own others =
    record {
      table = record {
        few = λ holder. few_push rows row holder index.table.few below;
        placed = placed_push rows row index.table.placed placed;
      };
      places = λ h. elim (cases_eq h row.holder) [
        | inl same ↦ subst (λ k. get_or arrived_ k [] ≡ places_in (rows ++ row ∷ []) k) (sym same)
            (own ∙ ap (λ ps. ps ++ length rows ∷ []) (index.places row.holder) ∙ sym (places_push_own rows row))
        | inr other ↦ others h other ∙ index.places h ∙ sym (places_push_other rows row h (λ e. other (sym e)))
      ];
    }

-- A batch, row by row.

-- the next row of a request gets its holder and its place
pub given_more : (holder before : ℕ) (rows : List TestExoneration) (i : ℕ) (row : TestExoneration) (place : ℕ) → i < length rows → place ≡ suc (before + i)
    → row ≡ get_or (given holder before (take i rows) ++ drop i rows) i row
    → set (given holder before (take i rows) ++ drop i rows) i (record row { holder = holder; place = place })
    ≡ given holder before (take (suc i) rows) ++ drop (suc i) rows
given_more holder before [] i row place within at e = absurd (omega arith)
given_more holder before (x ∷ rows) zero row place within at e =
    let first : place ≡ suc before = omega (arith, at) in
    ap (λ (r : TestExoneration). record r { holder = holder; place = place } ∷ rows) e
    ∙ ap (λ p. record x { holder = holder; place = p } ∷ rows) first
given_more holder before (x ∷ rows) (suc i) row place within at e =
    let next : place ≡ suc (suc before + i) = omega (arith, at) in
    ap (λ rs. record x { holder = holder; place = suc before } ∷ rs)
    (given_more holder (suc before) rows i row place (omega arith) next e)

pub given_length : (holder before : ℕ) (rows : List TestExoneration) → length (given holder before rows) ≡ length rows
given_length holder before [] = refl
given_length holder before (x ∷ rows) = ap suc (given_length holder (suc before) rows)

-- what is so of the next row of a batch, when those before it stand in the table
pub record IsNext (rows done : List TestExoneration) (row : TestExoneration) (holder : ℕ) : Type 0 where
  pub own : row.holder ≡ holder
  pub placed : IsPlaced (rows ++ done) row
  pub count : length (places_in (rows ++ done) holder) ≡ length (places_in rows holder) + length done

next_from : (rows done : List TestExoneration) (row : TestExoneration) (rest asked : List TestExoneration) (holder before : ℕ)
    → before ≡ length (places_in rows holder) → done ++ row ∷ rest ≡ given holder before asked → IsNext rows done row holder
next_from rows done row rest [] holder before at is = let no = ap (λ rs. length rs) is in absurd (omega (arith, no, length-append done (row ∷ rest)))
next_from rows [] row rest (x ∷ asked) holder before at is =
    let head : row ≡ record x { holder = holder; place = suc before } = cc in
    let own : row.holder ≡ holder = ap (λ (r : TestExoneration). r.holder) head in
    let place : row.place ≡ suc before = ap (λ (r : TestExoneration). r.place) head in
    let none = ap (λ rs. length (places_in rs holder)) (append-nil rows) in
    record {
      own = own;
      placed = subst (λ h. row.place ≡ length (places_in (rows ++ []) h) + 1) (sym own) (omega (arith, place, at, none));
      count = omega (arith, none);
    }
next_from rows (y ∷ done) row rest (x ∷ asked) holder before at is =
    let head : y ≡ record x { holder = holder; place = suc before } = cc in
    let own : y.holder ≡ holder = ap (λ (r : TestExoneration). r.holder) head in
    let tail : done ++ row ∷ rest ≡ given holder (suc before) asked = cc in
    let more = rows ++ y ∷ [] in
    let places = subst (λ h. places_in more h ≡ places_in rows h ++ length rows ∷ []) own (places_push_own rows y) in
    let one : length (places_in more holder) ≡ length (places_in rows holder) + 1 =
    ap (λ ps. length ps) places ∙ length_push (places_in rows holder) (length rows) in
    let next = next_from more done row rest asked holder (suc before) (omega (arith, at, one)) tail in
    let same : more ++ done ≡ rows ++ y ∷ done = append_assoc rows (y ∷ []) done in
    let count = ap (λ rs. length (places_in rs holder)) same in
    record {
      own = next.own;
      placed = subst (λ rs. IsPlaced rs row) same next.placed;
      count = let old = next.count in omega (arith, count, one, old);
    }

pub next_row : (rows batch done : List TestExoneration) (row : TestExoneration) (rest asked : List TestExoneration) (holder : ℕ)
    → batch ≡ given holder (length (places_in rows holder)) asked → CanAdd rows holder (length batch) → batch ≡ done ++ row ∷ rest
    → (IsNext rows done row holder) × (length (places_in (rows ++ done) row.holder) < 100_000) × (length done < length batch)
next_row rows batch done row rest asked holder is can split =
    let next = next_from rows done row rest asked holder (length (places_in rows holder)) refl (sym split ∙ is) in
    let count : length batch ≡ length (done ++ row ∷ rest) = ap (λ rs. length rs) split in
    let within : length done < length batch = omega (arith, count, length-append done (row ∷ rest)) in (
      next,
      subst (λ h. length (places_in (rows ++ done) h) < 100_000) (sym next.own) (let c = next.count in omega (arith, c, can.few, within)),
      within,
    )

table_push : (rows : List TestExoneration) (row : TestExoneration) → IsTable rows → length (places_in rows row.holder) < 100_000
    → IsPlaced rows row → IsTable (rows ++ row ∷ [])
table_push rows row table below placed = record {
  few = λ holder. few_push rows row holder table.few below;
  placed = placed_push rows row table.placed placed;
}

table_after : (rows batch done rest asked : List TestExoneration) (holder : ℕ)
    → batch ≡ given holder (length (places_in rows holder)) asked → CanAdd rows holder (length batch) → batch ≡ done ++ rest
    → IsTable (rows ++ done) → IsTable (rows ++ batch)
table_after rows batch done [] asked holder is can split table =
    subst (λ rs. IsTable (rows ++ rs)) (sym (split ∙ append-nil done)) table
table_after rows batch done (row ∷ rest) asked holder is can split table =
    let next = next_row rows batch done row rest asked holder is can split in
    table_after rows batch (done ++ row ∷ []) rest asked holder is can (split ∙ sym (append_assoc done (row ∷ []) rest))
    (subst IsTable (append_assoc rows done (row ∷ [])) (table_push (rows ++ done) row table next.1 next.0.placed))

-- a table with a batch that can come in is one
pub table_with : (rows batch : List TestExoneration) (holder : ℕ) (asked : List TestExoneration)
    → batch ≡ given holder (length (places_in rows holder)) asked → CanAdd rows holder (length batch) → IsTable rows
    → IsTable (rows ++ batch)
table_with rows batch holder asked is can table =
    table_after rows batch [] batch asked holder is can refl (subst IsTable (sym (append-nil rows)) table)
