-- Batches: what is so of them, and what is planned.
use Rattle.std.proofs.Common.{◌≡◌, ◌≢◌, ◌<◌, ◌+◌, ℕ, suc, true, false, List, [], ◌∷◌, length, get_or, MatchOption, Option, Some, None, refl, sym, ap, ◌∙◌, subst, inl, inr, arith}
use Rattle.std.specs.Prelude.{All, is_some, slice_get}
use Rattle.std.proofs.lemmas.Bool.{cases_lt}
use Rattle.std.proofs.lemmas.List.{get_or-map, length-map}
use Rattle.std.proofs.lemmas.List.Elements.{All-cons, All-nil}
use Rattle.std.proofs.lemmas.Option.{MatchOption-at_none, MatchOption-at_some, same_Some, slice_get_within}
use Rattle.call_forms.specs.declared.forms.Refusal.{Refusal}
use Rattle.test_results.specs.declared.exoneration.TestExoneration.{TestExoneration}
use Rattle.test_results.specs.declared.faults.BatchFault.{BatchFault}
use Rattle.test_results.specs.declared.faults.BatchFault.TheVariants as batch_fault
use Rattle.test_results.specs.declared.result.TestResult.{TestResult}
use Rattle.test_results.specs.Batches.{AreFree, IsBatchFault, IsTaken, given, with_holder}
use Rattle.test_results.specs.Exonerations as exonerations
use Rattle.test_results.specs.Results.{HasKey, IsPlaceOf, Key, holders_of, key_of, keys_of, named}
use Rattle.test_results.proofs.BatchLemmas.{key_is}
use Rattle.test_results.proofs.TableLemmas.{has_key}
use Rattle.test_results.proofs.FaultLemmas.{one_fault}
use Rattle.invocations.specs.Rows.{IsInState}
use Rattle.names_realms.specs.declared.states.State.TheVariants.{Active}
use Rattle.invocation_world.specs.World.{World}
use Rattle.service_effects.specs.declared.effect.Effect.TheVariants as does
use Rattle.service_effects.specs.declared.tables.Tables.{Tables}
use Rattle.service_effects.specs.Service.{Recorded}
use Rattle.service_effects.specs.States.{recorded_in}
use Rattle.service_effects.specs.Fitting.{ArePlaced, IsBatchFor, holder_in}
use Rattle.service_effects.specs.Planned.{IsTakenName}
use Rattle.service_effects.specs.Refused.{AreExonerationsRefused, AreResultsRefused, IsExonerationsRefusal, IsResultsRefusal, name_by, taken}

-- ---- the holder of what is given

pub given_holder : (holder : ℕ) (rows : List TestResult) → rows ≢ [] → holder_in (holders_of (given holder rows)) ≡ holder
given_holder holder [] some = absurd (some refl)
given_holder holder (row ∷ rows) some = refl

pub placed_holder : (holder before : ℕ) (rows : List TestExoneration) → rows ≢ []
    → holder_in (exonerations.holders_of (exonerations.given holder before rows)) ≡ holder
placed_holder holder before [] some = absurd (some refl)
placed_holder holder before (row ∷ rows) some = refl

-- ---- rows that are taken

-- the key of a row of a request, as a holder's
pub given_key : (holder : ℕ) (rows : List TestResult) (at : ℕ) (row : TestResult) → at < length rows → row ≡ get_or rows at row
    → slice_get (keys_of (given holder rows)) at ≡ Some (named holder row.test row.result)
given_key holder rows at row within is =
    key_is (given holder rows) at (with_holder holder row) (omega (arith, within, length-map rows (with_holder holder)))
    (sym (get_or-map (with_holder holder) rows at row (with_holder holder row) within ∙ ap (with_holder holder) (sym is)))

pub some_place : (o : Option ℕ) → is_some o ≡ true → (place : ℕ) × (o ≡ Some place)
some_place None e = let no : false ≡ true = e in cc
some_place (Some place) e = (place, refl)

pub no_place : (o : Option ℕ) → is_some o ≡ false → o ≡ None
no_place None e = refl
no_place (Some place) e = let no : true ≡ false = e in cc

pub taken_here : (rows batch : List TestResult) (holder at : ℕ) (row : TestResult) (found : Option ℕ) → at < length batch
    → row ≡ get_or batch at row → is_some found ≡ true
    → MatchOption found (¬ HasKey rows (named holder row.test row.result)) (IsPlaceOf rows (named holder row.test row.result))
    → AreFree rows (given holder batch) at → IsTaken rows (given holder batch) at
taken_here rows batch holder at row found within is some told free =
    let key = named holder row.test row.result in
    let place = some_place found some in
    record {
      key = key;
      there = given_key holder batch at row within is;
      held = has_key (keys_of rows) place.0 key (MatchOption-at_some (¬ HasKey rows key) (IsPlaceOf rows key) place.0 place.1 told);
      free = free;
    }

pub free_here : (rows batch : List TestResult) (holder at : ℕ) (row : TestResult) (found : Option ℕ) → at < length batch
    → row ≡ get_or batch at row → is_some found ≡ false
    → MatchOption found (¬ HasKey rows (named holder row.test row.result)) (IsPlaceOf rows (named holder row.test row.result))
    → AreFree rows (given holder batch) at → AreFree rows (given holder batch) (at + 1)
free_here rows batch holder at row found within is none told free key i low there held =
    let own = named holder row.test row.result in
    elim (cases_lt i at) [
      | inl lt ↦ free key i lt there held
      | inr ge ↦
          let same_at : i ≡ at = omega (arith, low, ge) in
          let here = given_key holder batch at row within is in
          let same : key ≡ own = same_Some key own (sym there ∙ ap (slice_get (keys_of (given holder batch))) same_at ∙ here) in
          MatchOption-at_none (¬ HasKey rows own) (IsPlaceOf rows own) (no_place found none) told
          (subst (λ (k : Key). HasKey rows k) same held)
    ]

-- ---- what is refused

pub results_refused : (new : Tables) (old rows : List TestResult) (holder : ℕ) (f : BatchFault) (r : Refusal) → rows ≢ []
    → new.results.rows ≡ old → IsBatchFault old holder (given holder rows) f
    → IsResultsRefusal new.world.world.invocations (given holder rows) f r
    → AreResultsRefused (recorded_in new) (given holder rows) r
results_refused new old rows holder f r some same has refusal = record {
  fault = f;
  has =
      subst (λ (h : ℕ). IsBatchFault new.results.rows h (given holder rows) f) (sym (given_holder holder rows some))
      (subst (λ (rs : List TestResult). IsBatchFault rs holder (given holder rows) f) (sym same) has);
  refusal_is = refusal;
}

pub exonerations_refused : (new : Tables) (old rows : List TestExoneration) (holder before : ℕ) (f : BatchFault) (r : Refusal) → rows ≢ []
    → new.exonerations.rows ≡ old → length (exonerations.given holder before rows) ≡ length rows
    → exonerations.IsBatchFault old holder (length rows) f → IsExonerationsRefusal f r
    → AreExonerationsRefused (recorded_in new) (exonerations.given holder before rows) r
exonerations_refused new old rows holder before f r some same count has refusal = record {
  fault = f;
  has =
      subst (λ (h : ℕ). exonerations.IsBatchFault new.exonerations.rows h (length (exonerations.given holder before rows)) f)
      (sym (placed_holder holder before rows some))
      (subst (λ (n : ℕ). exonerations.IsBatchFault new.exonerations.rows holder n f) (sym count)
      (subst (λ (rs : List TestExoneration). exonerations.IsBatchFault rs holder (length rows) f) (sym same) has));
  refusal_is = refusal;
}

-- the first row that is taken is the one that was named
abbrev at_of : BatchFault → ℕ
at_of (batch_fault.Taken at) = at
at_of (batch_fault.TooMany count) = 0
at_of (batch_fault.Repeated first second) = 0
at_of (batch_fault.Full count) = 0
at_of batch_fault.Memory = 0

pub taken_named : (w : Recorded) (batch : List TestResult) (holder at : ℕ) (name : List ℕ)
    → IsBatchFault w.results holder batch (batch_fault.Taken at) → IsTakenName w batch (Some name)
    → taken name ≡ taken (name_by w.rows.invocations (slice_get batch at))
taken_named w batch holder at name has named =
    let same : named.0 ≡ at = ap at_of
    (one_fault.0 w.results holder batch (batch_fault.Taken named.0) (batch_fault.Taken at) (has.0, has.1, named.1) has) in
    ap taken (named.2 ∙ ap (λ (i : ℕ). name_by w.rows.invocations (slice_get batch i)) same)

-- and one was
key_within : (batch : List TestResult) (at : ℕ) (key : Key) → slice_get (keys_of batch) at ≡ Some key → at < length batch
key_within batch at key e = omega (arith, slice_get_within (keys_of batch) at key e, length-map batch key_of)

pub taken_is_named : (w : Recorded) (batch : List TestResult) (holder at : ℕ)
    → IsBatchFault w.results holder batch (batch_fault.Taken at) → IsTakenName w batch None → ⊥
taken_is_named w batch holder at has (inl many) = let few = has.0 in omega (arith, few, many)
taken_is_named w batch holder at has (inr free) =
    let t = has.2 in free t.key at (key_within batch at t.key t.there) t.there t.held

-- ---- a batch of a request

all_given : (holder : ℕ) (rows : List TestResult) → All (λ h. h ≡ holder) (holders_of (given holder rows))
all_given holder [] = All-nil (λ h. h ≡ holder)
all_given holder (row ∷ rows) = All-cons (λ h. h ≡ holder) holder (holders_of (given holder rows)) refl (all_given holder rows)

all_placed : (holder before : ℕ) (rows : List TestExoneration)
    → All (λ h. h ≡ holder) (exonerations.holders_of (exonerations.given holder before rows))
all_placed holder before [] = All-nil (λ h. h ≡ holder)
all_placed holder before (row ∷ rows) =
    All-cons (λ h. h ≡ holder) holder (exonerations.holders_of (exonerations.given holder (suc before) rows)) refl
    (all_placed holder (suc before) rows)

-- is for its holder
pub given_batch : (w : World) (holder : ℕ) (rows : List TestResult) → rows ≢ [] → IsInState Active w.invocations holder
    → IsBatchFor w (holders_of (given holder rows))
given_batch w holder [] some active = absurd (some refl)
given_batch w holder (row ∷ rows) some active = record {
  some = λ e. let no : holder ∷ holders_of (given holder rows) ≡ [] = e in absurd cc;
  one = all_given holder (row ∷ rows);
  active = active;
}

pub placed_batch : (w : World) (holder before : ℕ) (rows : List TestExoneration) → rows ≢ [] → IsInState Active w.invocations holder
    → IsBatchFor w (exonerations.holders_of (exonerations.given holder before rows))
placed_batch w holder before [] some active = absurd (some refl)
placed_batch w holder before (row ∷ rows) some active = record {
  some = λ e. let no : holder ∷ exonerations.holders_of (exonerations.given holder (suc before) rows) ≡ [] = e in absurd cc;
  one = all_placed holder before (row ∷ rows);
  active = active;
}

-- and exonerations have their places behind those of their holder
pub given_places : (held : List TestExoneration) (holder : ℕ) (rows : List TestExoneration)
    → ArePlaced held (does.Exonerations (exonerations.given holder (length (exonerations.places_in held holder)) rows))
given_places held holder [] = ([], refl)
given_places held holder (row ∷ rows) = (row ∷ rows, refl)
