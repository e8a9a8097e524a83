-- The places of rows by their holder.
use Rattle.std.specs.Prelude.{ℕ, suc, Bool, true, false, List, [], ◌∷◌, ◌==◌}

-- with this place in front, where so
abbrev pub place_if : Bool → ℕ → List ℕ → List ℕ
place_if true place places = place ∷ places
place_if false place places = places

-- the places, counted from this one on, at which a holder stands
abbrev pub places_from : ℕ → ℕ → List ℕ → List ℕ
places_from holder place [] = []
places_from holder place (other ∷ others) =
    place_if (other == holder) place (places_from holder (suc place) others)

-- The places at which a holder stands among the holders of rows, counted from 0, in order.
abbrev pub places_of : List ℕ → ℕ → List ℕ
places_of holders holder = places_from holder 0 holders
