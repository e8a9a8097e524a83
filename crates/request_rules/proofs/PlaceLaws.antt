-- The places of the invocations that are named.
use Rattle.std.proofs.Common.{◌≡◌, ◌<◌, ◌++◌, ℕ, suc, Bool, true, false, cond, List, [], ◌∷◌, length, Option, Some, None, option_map, refl, sym, ap, ◌∙◌, subst, inl, inr, zero, ◌+◌, take, drop, get_or, add-one}
use Rattle.std.specs.Prelude.{◌⊎◌, slice_get, Contains, IfSome, MatchOption, is_some}
use Rattle.std.specs.List.{All, cons_option}
use Rattle.std.proofs.Math.Seq.{take-suc}
use Rattle.std.proofs.lemmas.List.Elements.{All-cons, All-nil, filter_map-append}
use Rattle.std.specs.Str.{bytes_eq}
use Rattle.std.specs.Cmp.Lexicographic.{bytes_decides}
use Rattle.std.proofs.lemmas.List.{get_or-map, length-map, map-append}
use Rattle.std.proofs.lemmas.Option.{slice_get_within, get_or_from_slice_get}
use Rattle.policy_checks.specs.Index.{place_of}
use Rattle.policy_checks.proofs.PlaceLemmas.{place_step, place_of-within}
use Rattle.invocations.specs.declared.invocation.Invocation.{Invocation}
use Rattle.invocations.specs.Rows.{HasId, IsPlaceOf, IsTable, ids_of}
use Rattle.request_rules.specs.Broken.{IsMissing}
use Rattle.request_demands.specs.Order.{FirstOf}
use Rattle.request_rules.proofs.Firsts.{drop_at}
use Rattle.request_rules.specs.Locating.{place_if}
use Rattle.request_rules.specs.Named.{all_found, named, place_named, places_in, places_named, row_at}

-- the place of a name has it
pub place_holds : (x : List ℕ) (names : List (List ℕ)) (q : ℕ) → place_of x names ≡ Some q → slice_get names q ≡ Some x
place_holds x [] q e = let no : None ≡ Some q = e in cc
place_holds x (n ∷ ns) q e = elim (place_step (bytes_eq x n) (place_of x ns) q e) [
  | inl h ↦ ap (λ (i : ℕ). slice_get (n ∷ ns) i) h.1 ∙ ap (λ (y : List ℕ). Some y) (sym ((bytes_decides x n).0 h.0))
  | inr h ↦ let (r, is, next) = h.1 in ap (λ (i : ℕ). slice_get (n ∷ ns) i) next ∙ place_holds x ns r is
]

-- a name that stands somewhere has a place
found_behind : (b : Bool) (o : Option ℕ) → (b ≡ true) ⊎ ((q : ℕ) × (o ≡ Some q))
    → (q : ℕ) × (cond b (Some 0) (option_map suc o) ≡ Some q)
found_behind true o h = (0, refl)
found_behind false o (inl never) = absurd cc
found_behind false o (inr h) = (suc h.0, ap (option_map suc) h.1)

pub place_there : (x : List ℕ) (names : List (List ℕ)) (p : ℕ) → slice_get names p ≡ Some x
    → (q : ℕ) × (place_of x names ≡ Some q)
place_there x [] p e = let no : None ≡ Some x = e in absurd cc
place_there x (n ∷ ns) zero e =
    let same : Some n ≡ Some x = e in
    found_behind (bytes_eq x n) (place_of x ns) (inl ((bytes_decides x n).1 (let is : x ≡ n = cc in is)))
place_there x (n ∷ ns) (suc p) e = found_behind (bytes_eq x n) (place_of x ns) (inr (place_there x ns p e))

-- the place that a table has for an id is the place of the row with this id
pub placed : (rows : List Invocation) (id : List ℕ) (place : ℕ) → IsTable rows → IsPlaceOf rows id place
    → place_named rows id ≡ Some place
placed rows id place table is =
    let found = place_there id (ids_of rows) place is in
    found.1 ∙ ap (λ (p : ℕ). Some p) (table.unique id found.0 place (place_holds id (ids_of rows) found.0 found.1) is)

pub place-within : (rows : List Invocation) (id : List ℕ) (place : ℕ) → place_named rows id ≡ Some place → place < length rows
place-within rows id place e =
    subst (λ (n : ℕ). place < n) (length-map rows (λ row. row.id)) (place_of-within id (ids_of rows) place e)

pub place-named : (rows : List Invocation) (id : List ℕ) (place : ℕ) → place_named rows id ≡ Some place
    → named rows id ≡ slice_get rows place
place-named rows id place e = ap (row_at rows) e

pub slice_get-Contains : {A : Type 0} → (xs : List A) (i : ℕ) (x : A) → slice_get xs i ≡ Some x → Contains xs x
slice_get-Contains xs i x e = (i, slice_get_within xs i x e, get_or_from_slice_get xs i x x e)

pub place-has : (rows : List Invocation) (id : List ℕ) (place : ℕ) → place_named rows id ≡ Some place → HasId rows id
place-has rows id place e = slice_get-Contains (ids_of rows) place id (place_holds id (ids_of rows) place e)

-- an id that has no place is no row's
unplaced_at : (rows : List Invocation) (id : List ℕ) (o : Option ℕ) → place_named rows id ≡ o → (¬ HasId rows id) → o ≡ None
unplaced_at rows id None e absent = refl
unplaced_at rows id (Some place) e absent = absurd (absent (place-has rows id place e))

pub unplaced : (rows : List Invocation) (id : List ℕ) → (¬ HasId rows id) → place_named rows id ≡ None
unplaced rows id absent = unplaced_at rows id (place_named rows id) refl absent

-- what a table finds is the place
pub found_is : (rows : List Invocation) (id : List ℕ) (o : Option ℕ) → IsTable rows
    → MatchOption o (¬ HasId rows id) (IsPlaceOf rows id) → o ≡ place_named rows id
found_is rows id None table absent = sym (unplaced rows id absent)
found_is rows id (Some place) table is = sym (placed rows id place table is)

-- a row that stands where a table finds its id
pub row_found : (rows : List Invocation) (id : List ℕ) (place : ℕ) (row : Invocation) → Some place ≡ place_named rows id
    → slice_get rows place ≡ Some row → Some row ≡ named rows id
row_found rows id place row at stands = sym (place-named rows id place (sym at) ∙ stands)

pub place_of-has : (rows : List Invocation) (id : List ℕ) (place : ℕ) → IsPlaceOf rows id place → HasId rows id
place_of-has rows id place is = slice_get-Contains (ids_of rows) place id is

-- where the ids stand, one id more
pub placed_more : (rows : List Invocation) (ids : List (List ℕ)) (i : ℕ) (id : List ℕ) (old new : List (Option ℕ)) (place : Option ℕ)
    → i < length ids → get_or ids i id ≡ id → old ≡ places_in rows (take i ids) → place ≡ place_named rows id
    → new ≡ old ++ place ∷ [] → new ≡ places_in rows (take (i + 1) ids)
placed_more rows ids i id old new place lt at old_is place_is new_is =
    let more : places_in rows (take (i + 1) ids) ≡ places_in rows (take i ids) ++ place_named rows (get_or ids i id) ∷ [] =
    rw (add-one, take-suc ids i id) (map-append (place_named rows) (take i ids) (get_or ids i id ∷ [])) in
    new_is ∙ (ap (λ (xs : List (Option ℕ)). xs ++ place ∷ []) old_is
    ∙ (ap (λ (o : Option ℕ). places_in rows (take i ids) ++ o ∷ []) (place_is ∙ ap (place_named rows) (sym at)) ∙ sym more))

-- those that are found, one place more
pub found_more : (places : List (Option ℕ)) (i : ℕ) (place : Option ℕ) (old new : List ℕ)
    → i < length places → get_or places i place ≡ place → old ≡ all_found (take i places)
    → new ≡ old ++ cons_option place [] → new ≡ all_found (take (i + 1) places)
found_more places i place old new lt at old_is new_is =
    let more : all_found (take (i + 1) places) ≡ all_found (take i places) ++ cons_option (get_or places i place) [] =
    rw (add-one, take-suc places i place) (filter_map-append (λ o. o) (take i places) (get_or places i place ∷ [])) in
    new_is ∙ (ap (λ (xs : List ℕ). xs ++ cons_option place []) old_is
    ∙ (ap (λ (o : Option ℕ). all_found (take i places) ++ cons_option o []) (sym at) ∙ sym more))

-- those that are found of where the ids stand are the places of those that are there
found_next : (o : Option ℕ) (xs ys : List ℕ) → xs ≡ ys → cons_option o xs ≡ cons_option o ys
found_next o xs ys same = ap (cons_option o) same

pub found_named : (rows : List Invocation) (ids : List (List ℕ)) → all_found (places_in rows ids) ≡ places_named rows ids
found_named rows [] = refl
found_named rows (id ∷ ids) =
    found_next (place_named rows id) (all_found (places_in rows ids)) (places_named rows ids) (found_named rows ids)

-- where the ids stand there are rows
placed_there : (rows : List Invocation) (id : List ℕ) (o : Option ℕ) → place_named rows id ≡ o → IfSome o (λ at. at < length rows)
placed_there rows id None e = tt
placed_there rows id (Some at) e = place-within rows id at e

pub if_there : (rows : List Invocation) (given : Option (List ℕ)) → IfSome (place_if rows given) (λ at. at < length rows)
if_there rows None = tt
if_there rows (Some id) = placed_there rows id (place_named rows id) refl

pub all_there : (rows : List Invocation) (ids : List (List ℕ))
    → All (λ place. IfSome place (λ at. at < length rows)) (places_in rows ids)
all_there rows [] = All-nil (λ place. IfSome place (λ at. at < length rows))
all_there rows (id ∷ ids) =
    All-cons (λ place. IfSome place (λ at. at < length rows)) (place_named rows id) (places_in rows ids)
    (placed_there rows id (place_named rows id) refl) (all_there rows ids)

-- ids whose places are looked at one by one: one that has a place isn't the first that has none
is_there : (o : Option ℕ) → is_some o ≡ true → o ≡ None → ⊥
is_there None e none = absurd cc
is_there (Some place) e none = let no : Some place ≡ None = none in absurd cc

pub missing_later : (rows : List Invocation) (ids : List (List ℕ)) (places : List (Option ℕ)) (i : ℕ) → i < length places
    → places ≡ places_in rows ids → is_some (get_or places i None) ≡ true → (found : Option (List ℕ))
    → FirstOf (IsMissing rows) (drop (i + 1) ids) found → FirstOf (IsMissing rows) (drop i ids) found
missing_later rows ids places i low are there found rest =
    let lt : i < length ids = subst (λ (n : ℕ). i < n) (ap length are ∙ length-map ids (place_named rows)) low in
    let at : get_or places i None ≡ place_named rows (get_or ids i []) =
    ap (λ (ps : List (Option ℕ)). get_or ps i None) are ∙ get_or-map (place_named rows) ids i [] None lt in
    subst (λ (l : List (List ℕ)). FirstOf (IsMissing rows) l found) (sym (drop_at ids i [] lt))
    (inr (is_there (place_named rows (get_or ids i [])) (ap is_some (sym at) ∙ there), rest))
