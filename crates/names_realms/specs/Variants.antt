-- Variants: pairs in the order of their keys, and their label.
use Rattle.std.specs.Prelude.{◌≡◌, ℕ, List, [], ◌∷◌, ◌++◌, take, slice_get, Some, IsPermutation}
use Rattle.std.specs.Global.{Vec}
use Rattle.std.specs.List.{flat_map}
use Rattle.std.specs.Ordering.{nat_cmp}
use Rattle.std.specs.Cmp.Lexicographic.{slice_cmp}
use Rattle.std.specs.declared.cmp.Ordering.TheVariants.{Less}
use Rattle.sha2.specs.Sha256.{sha256}
use Rattle.hex.specs.Hex.{encode_lower}
use Rattle.names_realms.specs.declared.pairs.Pair.{Pair}

-- the first key comes before the second in the order of bytes
abbrev pub IsBefore : Pair → Pair → Type 0
IsBefore p q = slice_cmp nat_cmp p.key q.key ≡ Less

-- each pair's key comes before the next one's
abbrev pub IsAscending : List Pair → Type 0
IsAscending [] = Unit {0}
IsAscending (p ∷ []) = Unit {0}
IsAscending (p ∷ q ∷ ps) = IsBefore p q × IsAscending (q ∷ ps)

-- The pairs before this place can be put in order, and one of them has the key of the pair at this
-- place.
abbrev pub IsFirstRepeat : List Pair → ℕ → Type 0
IsFirstRepeat pairs at =
    (before : List Pair) × IsPermutation (take at pairs) before × IsAscending before
    × (repeated : Pair) × (slice_get pairs at ≡ Some repeated)
    × (place : ℕ) × (earlier : Pair) × (slice_get before place ≡ Some earlier)
    × (earlier.key ≡ repeated.key)

-- `key`, `:`, `value` and a newline of a pair
abbrev pub pair_bytes : Pair → List ℕ
pair_bytes p = p.key ++ (58 ∷ (p.value ++ 10 ∷ []))

-- the first 16 digits of the digest of the pairs
unfoldable pub label_of : List Pair → List ℕ
label_of pairs = take 16 (encode_lower (sha256 (flat_map pair_bytes pairs)))

-- a key and its value as a pair
abbrev pub pair_of : Vec ℕ × List ℕ → Pair
pair_of e = record { key = e.0.items; value = e.1 }
