-- Where a message is cut.
use Rattle.std.specs.Prelude.{◌≡◌, ◌≤◌, ℕ, Bool, false, ◌&&◌, List, length, nat_le, nat_lt, slice_index, take}

-- At this place of a text stands a byte that goes on with a character which began before: 10xxxxxx
-- in UTF-8 (RFC 3629).
abbrev pub is_inside : List ℕ → ℕ → Bool
is_inside text place =
    nat_lt 0 place && nat_lt place (length text)
    && nat_le 128 (slice_index text place) && nat_lt (slice_index text place) 192

-- A character ends in front of this place, or the text does.
abbrev pub IsBoundary : List ℕ → ℕ → Type 0
IsBoundary text place = (place ≤ length text) × (is_inside text place ≡ false)

-- The longest front of at most 140 bytes that ends where a character does.
pub record IsCut (text cut : List ℕ) : Type 0 where
  pub front : cut ≡ take (length cut) text
  pub few : length cut ≤ 140
  pub boundary : IsBoundary text (length cut)
  pub longest : (place : ℕ) → place ≤ 140 → IsBoundary text place → place ≤ length cut
