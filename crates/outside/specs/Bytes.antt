-- Bytes that an end of the outside gave or took, where it tells them.
use Rattle.std.specs.Prelude.{◌≡◌, ℕ, List, [], ◌++◌, Option, Some, None, take, length, Result, Ok, Err, ◌<◌}

-- Of the bytes that were left, these were given. Of an end that told nothing, nothing is said.
abbrev pub Gave : Option (List ℕ) → List ℕ → Option (List ℕ) → Type 0
Gave None given now = Unit {0}
Gave (Some before) given now = (left : List ℕ) × (now ≡ Some left) × (before ≡ given ++ left)

-- Behind the bytes that were written, these were taken.
abbrev pub Took : Option (List ℕ) → List ℕ → Option (List ℕ) → Type 0
Took None taken now = Unit {0}
Took (Some before) taken now = now ≡ Some (before ++ taken)

-- Nothing is left.
abbrev pub IsEnd : Option (List ℕ) → Type 0
IsEnd None = Unit {0}
IsEnd (Some left) = left ≡ []

-- What a read into room gave: nothing only at the end, or where there is no room. A read that
-- failed gave nothing.
abbrev pub Reads : {E : Type 0} → Option (List ℕ) → List ℕ → Result ℕ E → Option (List ℕ) → Type 0
Reads before room (Ok count) now =
    Gave before (take count room) now × (count ≡ 0 → 0 < length room → IsEnd now)
Reads before room (Err e) now = Gave before [] now

-- What a write of a piece took. A write that failed took nothing.
abbrev pub Writes : {E : Type 0} → Option (List ℕ) → List ℕ → Result ℕ E → Option (List ℕ) → Type 0
Writes before piece (Ok count) now = Took before (take count piece) now
Writes before piece (Err e) now = Took before [] now
