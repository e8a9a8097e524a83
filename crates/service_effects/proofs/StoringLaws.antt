-- Whether there is place in a journal.
use Rattle.std.proofs.Common.{◌≡◌, ◌≢◌, ◌⊎◌, ◌+◌, ◌<◌, ◌≤◌, ℕ, refl, sym, ◌∙◌, inl, inr, arith}
use Rattle.std.proofs.lemmas.Bool.{cases_lt}
use Rattle.call_forms.specs.declared.forms.Refusal.{Refusal}
use Rattle.service_effects.specs.declared.effect.Effect.{Effect}
use Rattle.service_effects.specs.declared.effect.Effect.TheVariants as does
use Rattle.service_effects.specs.Service.{Recorded}
use Rattle.service_effects.specs.Storing.{DoingRefused, IsStorable, StoreRefused, bytes_of, most_stored, store_full}
use Rattle.service_effects.proofs.RefusedLaws.{one_refusal, refused_or_not}

-- what does something is recorded
pub bytes_of_change : (effect : Effect) (length : ℕ) → effect ≢ does.Nothing → bytes_of effect length ≡ length
bytes_of_change does.Nothing length changes = absurd (changes refl)
bytes_of_change (does.Add row) length changes = refl
bytes_of_change (does.Update place deadline tags) length changes = refl
bytes_of_change (does.End place) length changes = refl
bytes_of_change (does.Include plan) length changes = refl
bytes_of_change (does.Results batch) length changes = refl
bytes_of_change (does.Exonerations batch) length changes = refl
bytes_of_change (does.Artifacts batch) length changes = refl

-- what isn't refused has its place
pub storable_fits : (stored bytes : ℕ) → IsStorable stored bytes → 0 < bytes → stored + bytes ≤ most_stored
storable_fits stored bytes free some =
    elim (cases_lt most_stored (stored + bytes)) [
      | inl over ↦ absurd (free (store_full stored bytes) (some, over, refl))
      | inr within ↦ omega (arith, within)
    ]

-- and what has none is refused
pub stored_or_not : (stored bytes : ℕ) → ((r : Refusal) × StoreRefused stored bytes r) ⊎ IsStorable stored bytes
stored_or_not stored bytes =
    elim (cases_lt 0 bytes) [
      | inl some ↦ elim (cases_lt most_stored (stored + bytes)) [
        | inl over ↦ inl (store_full stored bytes, (some, over, refl))
        | inr within ↦ inr (λ r is. omega (arith, within, is.1))
      ]
      | inr none ↦ inr (λ r is. omega (arith, none, is.0))
    ]

-- nothing is always storable
pub nothing_storable : (stored : ℕ) → IsStorable stored 0
nothing_storable stored = λ r is. omega (arith, is.0)

-- what is done is refused, or isn't
pub doing_refused_or_not : (w : Recorded) (stored : ℕ) (effect : Effect) (bytes : ℕ) → ((r : Refusal) × DoingRefused w stored effect bytes r)
    ⊎ ((r : Refusal) → ¬ DoingRefused w stored effect bytes r)
doing_refused_or_not w stored effect bytes =
    elim (refused_or_not w effect) [
      | inl full ↦ inl (full.0, inl full.1)
      | inr room ↦ elim (stored_or_not stored bytes) [
        | inl over ↦ inl (over.0, inr (room, over.1))
        | inr storable ↦ inr (λ r is. elim is [ inl full ↦ room r full | inr over ↦ storable r over.1 ])
      ]
    ]

-- it is refused in one way
pub one_doing : (w : Recorded) (stored : ℕ) (effect : Effect) (bytes : ℕ) (r p : Refusal) → DoingRefused w stored effect bytes r
    → DoingRefused w stored effect bytes p → r ≡ p
one_doing w stored effect bytes r p (inl this) (inl that) = one_refusal w effect r p this that
one_doing w stored effect bytes r p (inl this) (inr that) = absurd (that.0 r this)
one_doing w stored effect bytes r p (inr this) (inl that) = absurd (this.0 p that)
one_doing w stored effect bytes r p (inr this) (inr that) = this.1.2 ∙ sym that.1.2
