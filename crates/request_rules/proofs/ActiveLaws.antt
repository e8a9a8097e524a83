-- Where what is demanded stands; the invocation that has to be active is the first of those that have to be there.
use Rattle.std.proofs.Common.{◌≡◌, ◌∙◌, ℕ, List, [], ◌∷◌, Option, Some, None, sym, ap, subst}
use Rattle.std.proofs.lemmas.Option.{none-some, same_Some}
use Rattle.artifacts.specs.Orders.{invocation_of}
use Rattle.artifacts.specs.declared.new_artifact.NewArtifact.{NewArtifact}
use Rattle.request_demands.specs.MessageForms.declared.requests.Request.{Request}
use Rattle.request_demands.specs.MessageForms.declared.requests.Request.TheVariants as asks
use Rattle.invocations.specs.declared.invocation.Invocation.{Invocation}
use Rattle.request_demands.specs.Demands.{Demand, demand_of, of_artifacts}
use Rattle.request_rules.specs.Held.{Held}
use Rattle.request_rules.specs.Named.{places_in}
use Rattle.request_rules.specs.Locating.{IsActiveFirst, Located, artifact_if, located, place_if, result_if}

alone : (x id : List ℕ) → Some x ≡ Some id → (rest : List (List ℕ)) × (x ∷ [] ≡ id ∷ rest)
alone x id e = ([], ap (λ (y : List ℕ). y ∷ []) (same_Some x id e))

artifacts_first : (number : Option (List ℕ)) (rows : List NewArtifact) → IsActiveFirst (of_artifacts number rows)
artifacts_first number [] id e = absurd (none-some id e)
artifacts_first number (first ∷ others) id e = alone (invocation_of first.name.parent) id e

pub active_first : (q : Request) → IsActiveFirst (demand_of q)
active_first (asks.UpdateInvocation q) id e = alone q.id id e
active_first (asks.UpdateIncludedInvocations q) id e = alone q.including id e
active_first (asks.BatchCreateTestResults q) id e = alone q.invocation id e
active_first (asks.BatchCreateTestExonerations q) id e = alone q.invocation id e
active_first (asks.BatchCreateArtifacts q) id e = artifacts_first q.request_id q.requests id e
active_first _ id e = absurd (none-some id e)

-- what is found of the one that has to be active is where it stands
pub active_is : (rows : List Invocation) (q : Request) (d : Demand) (named : List (Option ℕ)) (found : Option ℕ) → d ≡ demand_of q
    → ((all : List Invocation) → IsActiveFirst d → named ≡ places_in all d.named → found ≡ place_if all d.active)
    → named ≡ places_in rows d.named → found ≡ place_if rows (demand_of q).active
active_is rows q d named found same told are =
    told rows (subst IsActiveFirst (sym same) (active_first q)) are ∙ ap (λ (x : Demand). place_if rows x.active) same

abbrev pub seen : List (Option ℕ) → List (Option ℕ) → Option ℕ → Option ℕ → Option ℕ → Option ℕ → Located
seen named included row artifact active made = record {
  named = named;
  included = included;
  row = row;
  artifact = artifact;
  active = active;
  made = made;
}

-- all that is found is where all that is demanded stands
pub located_as : (rows : List Invocation) (held : Held) (d : Demand) (named included : List (Option ℕ)) (row artifact active made : Option ℕ)
    → named ≡ places_in rows d.named → included ≡ places_in rows d.included → row ≡ result_if rows held.results d.row
    → artifact ≡ artifact_if rows held.artifacts d.artifact → active ≡ place_if rows d.active → made ≡ place_if rows d.makes
    → seen named included row artifact active made ≡ located rows held d
located_as rows held d named included row artifact active made a b c e f g =
    λ i. record { named = a i; included = b i; row = c i; artifact = e i; active = f i; made = g i }
