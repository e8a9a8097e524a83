-- How much of a journal the records take.
use Rattle.std.specs.Prelude.{◌≡◌, ◌⊎◌, ℕ, ◌+◌, ◌<◌, ℤ, List, [], ◌∷◌, ◌++◌, codes, decimal}
use Rattle.call_forms.specs.declared.forms.Refusal.{Refusal}
use Rattle.recorded_calls.specs.Commands.{tick_length}
use Rattle.service_effects.specs.declared.effect.Effect.{Effect}
use Rattle.service_effects.specs.declared.effect.Effect.TheVariants as does
use Rattle.service_effects.specs.Refused.{EffectRefused, IsUnrefused, refusal}
use Rattle.service_effects.specs.Service.{Recorded}

-- Records of requests take no more than 2^30 - 2^22 bytes, so that there is always place for the
-- records of due deadlines: each ends an invocation, and takes 14 bytes.
abbrev pub most_stored : ℕ
most_stored = 1_069_547_520

-- how many bytes the record of an effect takes, where that of a call takes so many: what does
-- nothing isn't recorded
abbrev pub bytes_of : Effect → ℕ → ℕ
bytes_of does.Nothing length = 0
bytes_of (does.Add row) length = length
bytes_of (does.Update place deadline tags) length = length
bytes_of (does.End place) length = length
bytes_of (does.Include plan) length = length
bytes_of (does.Results batch) length = length
bytes_of (does.Exonerations batch) length = length
bytes_of (does.Artifacts batch) length = length

-- how many bytes the records take after these deadlines were carried out, by one record for all
abbrev pub stored_due : List ℤ → ℕ → ℕ
stored_due [] stored = stored
stored_due (deadline ∷ later) stored = stored + tick_length

-- Rule 21: there is place in the journal, whose records take so many bytes, for one of so many.
abbrev pub store_full : ℕ → ℕ → Refusal
store_full stored bytes = refusal 21 (decimal stored ++ (codes " " ++ decimal bytes))

abbrev pub StoreRefused : ℕ → ℕ → Refusal → Type 0
StoreRefused stored bytes r =
    (0 < bytes) × (most_stored < stored + bytes) × (r ≡ store_full stored bytes)

-- It is not refused.
abbrev pub IsStorable : ℕ → ℕ → Type 0
IsStorable stored bytes = (r : Refusal) → ¬ StoreRefused stored bytes r

-- What is done is refused: by the first rule that the effect breaks, or else because its record has
-- no place.
abbrev pub DoingRefused : Recorded → ℕ → Effect → ℕ → Refusal → Type 0
DoingRefused w stored effect bytes r =
    EffectRefused w effect r ⊎ (IsUnrefused w effect × StoreRefused stored bytes r)
