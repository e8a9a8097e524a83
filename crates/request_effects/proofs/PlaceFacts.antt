-- Rows by their ids and places.
use Rattle.std.proofs.Common.{◌≡◌, ◌≢◌, ◌<◌, ℕ, zero, List, [], ◌∷◌, length, Option, Some, None, refl, sym, ap, ◌∙◌, subst, inl, inr, arith}
use Rattle.std.specs.Prelude.{slice_get, Contains, IfSome}
use Rattle.std.specs.List.{All, cons_option}
use Rattle.std.proofs.lemmas.List.Elements.{All-cons, All-nil}
use Rattle.std.proofs.lemmas.Option.{same_Some, slice_get_read}
use Rattle.inclusion_graph.proofs.EdgeLemmas.{in_rest}
use Rattle.invocations.specs.declared.invocation.Invocation.{Invocation}
use Rattle.invocations.specs.Rows.{HasId, ids_of}
use Rattle.invocation_world.proofs.RowFacts.{stands}
use Rattle.service_effects.proofs.IdFacts.{id_none}
use Rattle.request_rules.specs.MessageForms.declared.requests.Request.{Request}
use Rattle.artifacts.specs.declared.new_artifact.NewArtifact.{NewArtifact}
use Rattle.request_rules.specs.RequestDemands.Demands.{demand_of, of_artifacts}
use Rattle.request_effects.specs.Effects.{place_of_batch}
use Rattle.request_rules.specs.Held.{Held}
use Rattle.request_rules.specs.Locating.{Located, located}
use Rattle.request_rules.specs.Named.{all_found, first_place, place_named, places_in, places_named}
use Rattle.request_rules.proofs.PlaceLaws.{found_named, place-within, place_holds, place_there}

-- an id that a row has is placed
pub named_there : (rows : List Invocation) (id : List ℕ) → HasId rows id → None ≡ place_named rows id → ⊥
named_there rows id has none =
    let here : slice_get (ids_of rows) has.0 ≡ Some id = slice_get_read (ids_of rows) (length (ids_of rows)) has.0 id refl has.1 (sym has.2) in
    let found = place_there id (ids_of rows) has.0 here in
    let both : None ≡ Some found.0 = none ∙ found.1 in
    absurd cc

-- a row stands where an id is placed
pub row_placed : (rows : List Invocation) (id : List ℕ) (place : ℕ) → place_named rows id ≡ Some place
    → (row : Invocation) × (slice_get rows place ≡ Some row)
row_placed rows id place e = elim (stands rows place) [
  | inl h ↦ h
  | inr none ↦
      let no : None ≡ Some id = sym (id_none rows place none) ∙ place_holds id (ids_of rows) place e in absurd cc
]

-- ---- the places of those that are named

placed_step : (P : ℕ → Type 0) (o : Option ℕ) (rest : List ℕ) → ((place : ℕ) → o ≡ Some place → P place) → All P rest
    → All P (cons_option o rest)
placed_step P None rest law all = all
placed_step P (Some place) rest law all = All-cons P place rest (law place refl) all

all_placed : (P : ℕ → Type 0) (rows : List Invocation) (ids : List (List ℕ))
    → ((id : List ℕ) (place : ℕ) → Contains ids id → place_named rows id ≡ Some place → P place) → All P (places_named rows ids)
all_placed P rows [] law = All-nil P
all_placed P rows (id ∷ ids) law =
    placed_step P (place_named rows id) (places_named rows ids) (λ place e. law id place (zero, omega arith, refl) e)
    (all_placed P rows ids (λ x place held e. law x place (in_rest id x ids held) e))

pub places_within : (rows : List Invocation) (ids : List (List ℕ)) → All (λ place. place < length rows) (places_named rows ids)
places_within rows ids = all_placed (λ place. place < length rows) rows ids (λ id place held e. place-within rows id place e)

pub places_elsewhere : (rows : List Invocation) (including : List ℕ) (place : ℕ) (ids : List (List ℕ))
    → place_named rows including ≡ Some place → (Contains ids including → ⊥) → All (λ target. target ≢ place) (places_named rows ids)
places_elsewhere rows including place ids at not = all_placed (λ target. target ≢ place) rows ids
    (λ id target held e same.
    let here : slice_get (ids_of rows) place ≡ Some id = subst (λ (p : ℕ). slice_get (ids_of rows) p ≡ Some id) same (place_holds id (ids_of rows) target e) in
    let is : id ≡ including = same_Some id including (sym here ∙ place_holds including (ids_of rows) place at) in
    not (subst (Contains ids) is held))

-- where the invocations stand that a request demands, the first place is that of the first one
pub first_named : (l : Located) (rows : List Invocation) (held : Held) (request shape : Request) (place : Option ℕ) → l ≡ located rows held (demand_of request)
    → request ≡ shape → place ≡ first_place l.named → place ≡ first_place (places_in rows (demand_of shape).named)
first_named l rows held request shape place are is first =
    first ∙ ap (λ (x : Located). first_place x.named) (are ∙ ap (λ (q : Request). located rows held (demand_of q)) is)

-- the first invocation that a batch of artifacts names is that of its artifacts
pub batch_named : (rows : List Invocation) (number : Option (List ℕ)) (news : List NewArtifact)
    → first_place (places_in rows (of_artifacts number news).named) ≡ place_of_batch rows news
batch_named rows number [] = refl
batch_named rows number (first ∷ others) = refl

pub first_within : (rows : List Invocation) (id : List ℕ) (place : Option ℕ) → place ≡ place_named rows id
    → IfSome place (λ at. at < length rows)
first_within rows id None is = tt
first_within rows id (Some at) is = place-within rows id at (sym is)

-- and those that are found of the ones to be included are theirs
pub targets_named : (l : Located) (rows : List Invocation) (held : Held) (request shape : Request) (targets : List ℕ) → l ≡ located rows held (demand_of request)
    → request ≡ shape → targets ≡ all_found l.included → targets ≡ places_named rows (demand_of shape).included
targets_named l rows held request shape targets are is all =
    all ∙ (ap (λ (x : Located). all_found x.included) (are ∙ ap (λ (q : Request). located rows held (demand_of q)) is)
    ∙ found_named rows (demand_of shape).included)
