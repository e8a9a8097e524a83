-- The place of an artifact.
use Rattle.std.proofs.Common.{◌≡◌, ◌<◌, ℕ, Bool, true, false, List, length, map, Option, Some, None, refl, sym, ap, ◌∙◌, subst, inl, inr}
use Rattle.std.specs.Prelude.{◌==◌, ◌&&◌, slice_get, MatchOption}
use Rattle.std.specs.Option.{option_to_list}
use Rattle.std.specs.Str.{bytes_eq}
use Rattle.std.specs.Cmp.Lexicographic.{bytes_decides}
use Rattle.std.proofs.lemmas.Bool.{eq-eqb, eqb-true}
use Rattle.std.proofs.lemmas.Option.{none-some}
use Rattle.names_realms.specs.declared.artifact_names.ArtifactName.{ArtifactName}
use Rattle.names_realms.specs.declared.parents.Parent.{Parent}
use Rattle.names_realms.specs.declared.parents.Parent.TheVariants.{Invocation as OfInvocation, Result as OfResult}
use Rattle.names_realms.specs.declared.result_names.ResultName.{ResultName}
use Rattle.artifacts.specs.declared.artifact.Artifact.{Artifact}
use Rattle.artifacts.specs.Artifacts.{HasKey, IsPlaceOf, IsTable, Key, key_of, named}
use Rattle.artifacts.specs.Orders.{invocation_of}
use Rattle.artifacts.proofs.KeyLemmas.{key_same}
use Rattle.invocations.specs.declared.invocation.Invocation.{Invocation}
use Rattle.request_demands.specs.Order.{FirstOf}
use Rattle.request_rules.specs.Broken.{IsAbsent, Sought, artifact_named}
use Rattle.request_rules.specs.Locating.{artifact_if}
use Rattle.request_rules.specs.Held.{Held}
use Rattle.request_rules.specs.Named.{artifact_held, is_keyed, is_same_parent, place_keyed, place_named, place_of_artifact}
use Rattle.request_rules.proofs.PlaceLaws.{place-within}
use Rattle.request_rules.proofs.KeyPlaces.{Decides, all_true, both_true, place_found, placed_row}

-- whether two parents are the same is decided
name_is : (a b : ResultName) → a.invocation ≡ b.invocation → a.test ≡ b.test → a.result ≡ b.result → a ≡ b
name_is a b e f g =
    let i : List ℕ → ResultName = λ x. record { invocation = x; test = a.test; result = a.result } in
    let t : List ℕ → ResultName = λ x. record { invocation = b.invocation; test = x; result = a.result } in
    let r : List ℕ → ResultName = λ x. record { invocation = b.invocation; test = b.test; result = x } in
    ap i e ∙ (ap t f ∙ ap r g)

parent_is : (a b : Parent) → is_same_parent a b ≡ true → a ≡ b
parent_is (OfInvocation a) (OfInvocation b) e = ap (λ (id : List ℕ). OfInvocation id) ((bytes_decides a b).0 e)
parent_is (OfInvocation a) (OfResult b) e = let no : false ≡ true = e in absurd cc
parent_is (OfResult a) (OfInvocation b) e = let no : false ≡ true = e in absurd cc
parent_is (OfResult a) (OfResult b) e =
    let first = both_true (bytes_eq a.invocation b.invocation) (bytes_eq a.test b.test && bytes_eq a.result b.result) e in
    let others = both_true (bytes_eq a.test b.test) (bytes_eq a.result b.result) first.1 in
    ap (λ (name : ResultName). OfResult name)
    (name_is a b ((bytes_decides a.invocation b.invocation).0 first.0) ((bytes_decides a.test b.test).0 others.0)
    ((bytes_decides a.result b.result).0 others.1))

own_parent : (a : Parent) → is_same_parent a a ≡ true
own_parent (OfInvocation a) = (bytes_decides a a).1 refl
own_parent (OfResult a) =
    all_true (bytes_eq a.invocation a.invocation) (bytes_eq a.test a.test) (bytes_eq a.result a.result) ((bytes_decides a.invocation a.invocation).1 refl)
    ((bytes_decides a.test a.test).1 refl) ((bytes_decides a.result a.result).1 refl)

-- an artifact has a key where its own is this one
keyed_is : (key : Key) (row : Artifact) → is_keyed key row ≡ true → key_of row ≡ key
keyed_is key row e =
    let parents = is_same_parent row.name.parent key.name.parent in
    let ids = bytes_eq row.name.artifact key.name.artifact in
    let first = both_true (row.holder == key.holder) (parents && ids) e in
    let others = both_true parents ids first.1 in
    key_same (key_of row) key (eqb-true row.holder key.holder first.0) (parent_is row.name.parent key.name.parent others.0)
    ((bytes_decides row.name.artifact key.name.artifact).0 others.1)

own_keyed : (key : Key) (row : Artifact) → key_of row ≡ key → is_keyed key row ≡ true
own_keyed key row e =
    subst (λ (k : Key). is_keyed k row ≡ true) e
    (all_true (row.holder == row.holder) (is_same_parent row.name.parent row.name.parent) (bytes_eq row.name.artifact row.name.artifact)
    (eq-eqb row.holder row.holder refl) (own_parent row.name.parent) ((bytes_decides row.name.artifact row.name.artifact).1 refl))

pub keys_decided : Decides key_of is_keyed
keys_decided = record { is = keyed_is; own = own_keyed }

-- the place that a table of artifacts has for a key is the place of the first one with this key
pub artifact_found : (held : List Artifact) (key : Key) (o : Option ℕ) → IsTable held
    → MatchOption o (¬ HasKey held key) (IsPlaceOf held key) → o ≡ place_keyed held key
artifact_found held key o table found = place_found key_of is_keyed keys_decided held key o (λ i j. table.unique key i j) found

-- an artifact stands at the place of a name, whose invocation is there
artifact_at : (rows : List Invocation) (held : List Artifact) (name : ArtifactName) (o : Option ℕ) (place : ℕ)
    → place_named rows (invocation_of name.parent) ≡ o → artifact_held held name o ≡ Some place
    → (row : Artifact) × (slice_get held place ≡ Some row) × (row.holder < length rows)
artifact_at rows held name None place e at = let no : None ≡ Some place = at in absurd cc
artifact_at rows held name (Some holder) place e at =
    let found = placed_row key_of is_keyed keys_decided held (named holder name) place at in
    let same : found.0.holder ≡ holder = ap (λ (k : Key). k.holder) found.2 in
    (found.0, found.1, subst (λ (h : ℕ). h < length rows) (sym same) (place-within rows (invocation_of name.parent) holder e))

pub artifact_stands : (rows : List Invocation) (held : List Artifact) (name : ArtifactName) (place : ℕ)
    → place_of_artifact rows held name ≡ Some place
    → (row : Artifact) × (slice_get held place ≡ Some row) × (row.holder < length rows)
artifact_stands rows held name place at = artifact_at rows held name (place_named rows (invocation_of name.parent)) place refl at

-- the artifact that is looked for, whether or not it is there, and where none is
artifact_missing : (rows : List Invocation) (held : Held) (given : Option ArtifactName) (name : ArtifactName) → given ≡ Some name
    → artifact_if rows held.artifacts given ≡ None
    → FirstOf (IsAbsent rows held) (map artifact_named (option_to_list given)) (Some (artifact_named name))
artifact_missing rows held given name is none =
    subst (λ (r : Option ArtifactName). FirstOf (IsAbsent rows held) (map artifact_named (option_to_list r)) (Some (artifact_named name))) (sym is)
    (inl (ap (artifact_if rows held.artifacts) (sym is) ∙ none, refl))

artifact_there : (rows : List Invocation) (held : Held) (given : Option ArtifactName) (name : ArtifactName) (place : ℕ)
    → given ≡ Some name → artifact_if rows held.artifacts given ≡ Some place
    → FirstOf (IsAbsent rows held) (map artifact_named (option_to_list given)) None
artifact_there rows held given name place is there =
    subst (λ (r : Option ArtifactName). FirstOf (IsAbsent rows held) (map artifact_named (option_to_list r)) None) (sym is)
    (inr (λ none. none-some place (sym none ∙ (ap (artifact_if rows held.artifacts) (sym is) ∙ there)), refl))

pub artifact_sought : (rows : List Invocation) (held : Held) (given : Option ArtifactName) (name : ArtifactName) (place : Option ℕ)
    (found : Option Sought) → given ≡ Some name → artifact_if rows held.artifacts given ≡ place
    → MatchOption place (found ≡ Some (artifact_named name)) (λ _. found ≡ None)
    → FirstOf (IsAbsent rows held) (map artifact_named (option_to_list given)) found
artifact_sought rows held given name None found is at told =
    subst (FirstOf (IsAbsent rows held) (map artifact_named (option_to_list given))) (sym told) (artifact_missing rows held given name is at)
artifact_sought rows held given name (Some place) found is at told =
    subst (FirstOf (IsAbsent rows held) (map artifact_named (option_to_list given))) (sym told) (artifact_there rows held given name place is at)

pub no_artifact : (rows : List Invocation) (held : Held) (given : Option ArtifactName) → given ≡ None
    → FirstOf (IsAbsent rows held) (map artifact_named (option_to_list given)) None
no_artifact rows held given is =
    subst (λ (r : Option ArtifactName). FirstOf (IsAbsent rows held) (map artifact_named (option_to_list r)) None) (sym is) refl
