-- The count of ends over one read.
use Rattle.std.proofs.Common.{◌≡◌, ◌≢◌, ◌<◌, ℕ, zero, suc, List, [], ◌∷◌, length, refl, arith}
use Rattle.fault_counts.specs.Causes.{counted}
use Rattle.outside.specs.Ends.{ends_after}

-- a read that gave something
pub ends_stay : (ends : ℕ) (room : List ℕ) (count : ℕ) → count ≢ 0 → ends_after ends room count ≡ ends
ends_stay ends [] count some = refl
ends_stay ends (b ∷ bs) zero some = absurd (some refl)
ends_stay ends (b ∷ bs) (suc n) some = refl

-- a read that gave nothing into room
pub ends_rise : (ends : ℕ) (room : List ℕ) (count : ℕ) → count ≡ 0 → 0 < length room → ends_after ends room count ≡ counted ends
ends_rise ends [] count none some = absurd (omega (arith, some))
ends_rise ends (b ∷ bs) zero none some = refl
ends_rise ends (b ∷ bs) (suc n) none some = absurd (omega (arith, none))
