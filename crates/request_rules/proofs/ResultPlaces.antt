-- The place of a result.
use Rattle.std.proofs.Common.{◌≡◌, ◌<◌, ℕ, true, List, length, map, Option, Some, None, refl, sym, ap, ◌∙◌, subst, inl, inr}
use Rattle.std.specs.Prelude.{◌==◌, ◌&&◌, slice_get, MatchOption}
use Rattle.std.specs.Option.{option_to_list}
use Rattle.std.specs.Str.{bytes_eq}
use Rattle.std.specs.Cmp.Lexicographic.{bytes_decides}
use Rattle.std.proofs.lemmas.Bool.{eq-eqb, eqb-true}
use Rattle.std.proofs.lemmas.Option.{none-some}
use Rattle.test_results.specs.declared.result.TestResult.{TestResult}
use Rattle.test_results.specs.Results.{HasKey, IsPlaceOf, IsTable, Key, key_of, named}
use Rattle.names_realms.specs.declared.result_names.ResultName.{ResultName}
use Rattle.invocations.specs.declared.invocation.Invocation.{Invocation}
use Rattle.request_demands.specs.Order.{FirstOf}
use Rattle.request_rules.specs.Broken.{IsAbsent, Sought, result_named}
use Rattle.request_rules.specs.Locating.{result_if}
use Rattle.request_rules.specs.Held.{Held}
use Rattle.request_rules.specs.Named.{has_key, place_held, place_named, place_of_result, place_with}
use Rattle.request_rules.proofs.PlaceLaws.{place-within}
use Rattle.request_rules.proofs.KeyPlaces.{Decides, all_true, both_true, place_found, placed_row}

-- a row has a key where its own is this one
key_is : (a b : Key) → a.holder ≡ b.holder → a.test ≡ b.test → a.id ≡ b.id → a ≡ b
key_is a b e f g =
    ap (λ (x : ℕ). named x a.test a.id) e ∙ (ap (λ (x : List ℕ). named b.holder x a.id) f
    ∙ ap (named b.holder b.test) g)

has_key_is : (key : Key) (row : TestResult) → has_key key row ≡ true → key_of row ≡ key
has_key_is key row e =
    let first = both_true (row.holder == key.holder) (bytes_eq row.test key.test && bytes_eq row.result key.id) e in
    let others = both_true (bytes_eq row.test key.test) (bytes_eq row.result key.id) first.1 in
    key_is (key_of row) key (eqb-true row.holder key.holder first.0) ((bytes_decides row.test key.test).0 others.0)
    ((bytes_decides row.result key.id).0 others.1)

has_own_key : (key : Key) (row : TestResult) → key_of row ≡ key → has_key key row ≡ true
has_own_key key row e =
    subst (λ (k : Key). has_key k row ≡ true) e
    (all_true (row.holder == row.holder) (bytes_eq row.test row.test) (bytes_eq row.result row.result)
    (eq-eqb row.holder row.holder refl) ((bytes_decides row.test row.test).1 refl) ((bytes_decides row.result row.result).1 refl))

keys_decided : Decides key_of has_key
keys_decided = record { is = has_key_is; own = has_own_key }

-- the place that a table of results has for a key is the place of the first row with this key
pub result_found : (held : List TestResult) (key : Key) (o : Option ℕ) → IsTable held
    → MatchOption o (¬ HasKey held key) (IsPlaceOf held key) → o ≡ place_with held key
result_found held key o table found = place_found key_of has_key keys_decided held key o (λ i j. table.unique key i j) found

-- a row stands at the place of a name, whose invocation is there
result_at : (rows : List Invocation) (held : List TestResult) (name : ResultName) (o : Option ℕ) (place : ℕ)
    → place_named rows name.invocation ≡ o → place_held held name o ≡ Some place
    → (row : TestResult) × (slice_get held place ≡ Some row) × (row.holder < length rows)
result_at rows held name None place e at = let no : None ≡ Some place = at in absurd cc
result_at rows held name (Some holder) place e at =
    let found = placed_row key_of has_key keys_decided held (named holder name.test name.result) place at in
    let same : found.0.holder ≡ holder = ap (λ (k : Key). k.holder) found.2 in
    (found.0, found.1, subst (λ (h : ℕ). h < length rows) (sym same) (place-within rows name.invocation holder e))

pub result_stands : (rows : List Invocation) (held : List TestResult) (name : ResultName) (place : ℕ)
    → place_of_result rows held name ≡ Some place
    → (row : TestResult) × (slice_get held place ≡ Some row) × (row.holder < length rows)
result_stands rows held name place at = result_at rows held name (place_named rows name.invocation) place refl at

-- the result that is looked for, whether or not it is there, and where none is
result_missing : (rows : List Invocation) (held : Held) (row : Option ResultName) (name : ResultName) → row ≡ Some name
    → result_if rows held.results row ≡ None → FirstOf (IsAbsent rows held) (map result_named (option_to_list row)) (Some (result_named name))
result_missing rows held row name is none =
    subst (λ (r : Option ResultName). FirstOf (IsAbsent rows held) (map result_named (option_to_list r)) (Some (result_named name))) (sym is)
    (inl (ap (result_if rows held.results) (sym is) ∙ none, refl))

result_there : (rows : List Invocation) (held : Held) (row : Option ResultName) (name : ResultName) (place : ℕ)
    → row ≡ Some name → result_if rows held.results row ≡ Some place
    → FirstOf (IsAbsent rows held) (map result_named (option_to_list row)) None
result_there rows held row name place is there =
    subst (λ (r : Option ResultName). FirstOf (IsAbsent rows held) (map result_named (option_to_list r)) None) (sym is)
    (inr (λ none. none-some place (sym none ∙ (ap (result_if rows held.results) (sym is) ∙ there)), refl))

pub result_sought : (rows : List Invocation) (held : Held) (row : Option ResultName) (name : ResultName) (place : Option ℕ)
    (found : Option Sought) → row ≡ Some name → result_if rows held.results row ≡ place
    → MatchOption place (found ≡ Some (result_named name)) (λ _. found ≡ None)
    → FirstOf (IsAbsent rows held) (map result_named (option_to_list row)) found
result_sought rows held row name None found is at told =
    subst (FirstOf (IsAbsent rows held) (map result_named (option_to_list row))) (sym told) (result_missing rows held row name is at)
result_sought rows held row name (Some place) found is at told =
    subst (FirstOf (IsAbsent rows held) (map result_named (option_to_list row))) (sym told) (result_there rows held row name place is at)

pub no_result : (rows : List Invocation) (held : Held) (row : Option ResultName) → row ≡ None
    → FirstOf (IsAbsent rows held) (map result_named (option_to_list row)) None
no_result rows held row is =
    subst (λ (r : Option ResultName). FirstOf (IsAbsent rows held) (map result_named (option_to_list r)) None) (sym is) refl
