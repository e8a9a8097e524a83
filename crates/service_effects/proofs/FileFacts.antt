-- Batches of artifacts: what is so of them, and what is planned.
use Rattle.std.proofs.Common.{◌≡◌, ◌≢◌, ◌<◌, ◌+◌, ℕ, true, false, List, [], ◌∷◌, length, get_or, MatchOption, Option, Some, None, refl, sym, ap, ◌∙◌, subst, inl, inr, arith}
use Rattle.std.specs.Prelude.{All, is_some, slice_get}
use Rattle.std.proofs.lemmas.Bool.{cases_lt}
use Rattle.std.proofs.lemmas.List.{get_or-map, length-map}
use Rattle.std.proofs.lemmas.List.Elements.{All-cons, All-nil}
use Rattle.std.proofs.lemmas.Option.{MatchOption-at_none, MatchOption-at_some, same_Some, slice_get_within}
use Rattle.artifacts.specs.declared.artifact.Artifact.{Artifact}
use Rattle.artifacts.specs.declared.faults.ArtifactFault.{ArtifactFault}
use Rattle.artifacts.specs.declared.faults.ArtifactFault.TheVariants as file
use Rattle.artifacts.specs.Artifacts.{HasKey, IsPlaceOf, Key, holders_of, key_of, keys_of, named}
use Rattle.artifacts.specs.Batches.{AreFree, IsBatchFault, IsTaken, given, of_holder, with_holder}
use Rattle.artifacts.specs.Requests.{DigestedState}
use Rattle.artifacts.proofs.BatchLemmas.{key_is}
use Rattle.artifacts.proofs.FaultLemmas.{one_fault}
use Rattle.artifacts.proofs.RequestLemmas.{given_hashed}
use Rattle.artifacts.proofs.TableLemmas.{has_key}
use Rattle.artifacts.specs.Artifacts as files
use Rattle.call_forms.specs.declared.forms.Refusal.{Refusal}
use Rattle.invocations.specs.Rows.{IsInState}
use Rattle.names_realms.specs.declared.states.State.TheVariants.{Active}
use Rattle.invocation_world.specs.World.{World}
use Rattle.service_effects.specs.declared.tables.Tables.{Tables}
use Rattle.service_effects.specs.Service.{Recorded}
use Rattle.service_effects.specs.States.{recorded_in}
use Rattle.service_effects.specs.Fitting.{AreArtifactsFor, IsBatchFor, holder_in}
use Rattle.service_effects.specs.Planned.{IsTakenFile}
use Rattle.service_effects.specs.Refused.{AreArtifactsRefused, IsArtifactsRefusal, file_name, taken}
use Rattle.service_effects.proofs.BatchFacts.{no_place, some_place}

pub given_holder : (holder : ℕ) (rows : List Artifact) → rows ≢ [] → holder_in (holders_of (given holder rows)) ≡ holder
given_holder holder [] some = absurd (some refl)
given_holder holder (row ∷ rows) some = refl

-- ---- names that are taken

-- the key of an artifact of a request, as a holder's
given_key : (holder : ℕ) (rows : List Artifact) (at : ℕ) (row : Artifact) → at < length rows → row ≡ get_or rows at row
    → slice_get (keys_of (given holder rows)) at ≡ Some (named holder row.name)
given_key holder rows at row within is =
    key_is (given holder rows) at (with_holder holder row) (omega (arith, within, length-map rows (with_holder holder)))
    (sym (get_or-map (with_holder holder) rows at row (with_holder holder row) within ∙ ap (with_holder holder) (sym is)))

pub taken_here : (rows batch : List Artifact) (holder at : ℕ) (row : Artifact) (found : Option ℕ) → at < length batch
    → row ≡ get_or batch at row → is_some found ≡ true
    → MatchOption found (¬ HasKey rows (named holder row.name)) (IsPlaceOf rows (named holder row.name))
    → AreFree rows (given holder batch) at → IsTaken rows (given holder batch) at
taken_here rows batch holder at row found within is some told free =
    let key = named holder row.name in
    let place = some_place found some in
    record {
      key = key;
      there = given_key holder batch at row within is;
      held = has_key (keys_of rows) place.0 key (MatchOption-at_some (¬ HasKey rows key) (IsPlaceOf rows key) place.0 place.1 told);
      free = free;
    }

pub free_here : (rows batch : List Artifact) (holder at : ℕ) (row : Artifact) (found : Option ℕ) → at < length batch
    → row ≡ get_or batch at row → is_some found ≡ false
    → MatchOption found (¬ HasKey rows (named holder row.name)) (IsPlaceOf rows (named holder row.name))
    → AreFree rows (given holder batch) at → AreFree rows (given holder batch) (at + 1)
free_here rows batch holder at row found within is none told free key i low there held =
    let own = named holder row.name in
    elim (cases_lt i at) [
      | inl lt ↦ free key i lt there held
      | inr ge ↦
          let same_at : i ≡ at = omega (arith, low, ge) in
          let here = given_key holder batch at row within is in
          let same : key ≡ own = same_Some key own (sym there ∙ ap (slice_get (keys_of (given holder batch))) same_at ∙ here) in
          MatchOption-at_none (¬ HasKey rows own) (IsPlaceOf rows own) (no_place found none) told
          (subst (λ (k : Key). HasKey rows k) same held)
    ]

-- ---- what is refused

pub artifacts_refused : (new : Tables) (old : List Artifact) (asked : DigestedState) (holder : ℕ) (f : ArtifactFault) (r : Refusal)
    → asked.rows ≢ [] → new.artifacts.rows ≡ old → IsBatchFault old holder (of_holder holder asked) f
    → IsArtifactsRefusal (of_holder holder asked) f r → AreArtifactsRefused (recorded_in new) (of_holder holder asked) r
artifacts_refused new old asked holder f r some same has refusal = record {
  fault = f;
  has =
      subst (λ (h : ℕ). IsBatchFault new.artifacts.rows h (of_holder holder asked) f) (sym (given_holder holder asked.rows some))
      (subst (λ (rs : List Artifact). IsBatchFault rs holder (of_holder holder asked) f) (sym same) has);
  refusal_is = refusal;
}

-- the first artifact that is taken is the one that was named
abbrev at_of : ArtifactFault → ℕ
at_of (file.Taken at) = at
at_of _ = 0

pub taken_named : (w : Recorded) (batch : DigestedState) (holder at : ℕ) (name : List ℕ)
    → IsBatchFault w.artifacts holder batch (file.Taken at) → IsTakenFile w batch.rows (Some name)
    → taken name ≡ taken (file_name (slice_get batch.rows at))
taken_named w batch holder at name has named =
    let same : named.0 ≡ at = ap at_of
    (one_fault w.artifacts holder batch (file.Taken named.0) (file.Taken at) (has.0, (has.1.0, has.1.1, named.1)) has) in
    ap taken (named.2 ∙ ap (λ (i : ℕ). file_name (slice_get batch.rows i)) same)

-- and one was
key_within : (batch : List Artifact) (at : ℕ) (key : Key) → slice_get (keys_of batch) at ≡ Some key → at < length batch
key_within batch at key e = omega (arith, slice_get_within (keys_of batch) at key e, length-map batch key_of)

pub taken_is_named : (w : Recorded) (batch : DigestedState) (holder at : ℕ)
    → IsBatchFault w.artifacts holder batch (file.Taken at) → IsTakenFile w batch.rows None → ⊥
taken_is_named w batch holder at has (inl many) = let few = has.0 in omega (arith, few, many)
taken_is_named w batch holder at has (inr free) =
    let t = has.1.2 in free t.key at (key_within batch.rows at t.key t.there) t.there t.held

-- ---- a batch of a request

all_given : (holder : ℕ) (rows : List Artifact) → All (λ h. h ≡ holder) (holders_of (given holder rows))
all_given holder [] = All-nil (λ h. h ≡ holder)
all_given holder (row ∷ rows) = All-cons (λ h. h ≡ holder) holder (holders_of (given holder rows)) refl (all_given holder rows)

-- is for its holder
given_batch : (w : World) (holder : ℕ) (rows : List Artifact) → rows ≢ [] → IsInState Active w.invocations holder
    → IsBatchFor w (holders_of (given holder rows))
given_batch w holder [] some active = absurd (some refl)
given_batch w holder (row ∷ rows) some active = record {
  some = λ e. let no : holder ∷ holders_of (given holder rows) ≡ [] = e in absurd cc;
  one = all_given holder (row ∷ rows);
  active = active;
}

pub artifacts_for : (w : World) (holder : ℕ) (asked : DigestedState) → asked.rows ≢ [] → All files.HasItsHash asked.rows
    → IsInState Active w.invocations holder → AreArtifactsFor w (of_holder holder asked)
artifacts_for w holder asked some hashed active =
    record { batch = given_batch w holder asked.rows some active; hashed = given_hashed holder asked.rows hashed }
