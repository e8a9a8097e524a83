-- The code's own words: where replies stand by their keys.
use Rattle.std.specs.Prelude.{◌≡◌, ◌↔◌, ℕ, List, ◌∷◌, ◌++◌, Some, Vec, map, slice_get}
use Rattle.std.specs.Map.{lookup}
use Rattle.std.specs.Str.{bytes_eq}
use Rattle.std.specs.declared.alloc.Global.{Global}
use Rattle.kept_replies.specs.declared.reply.KeptReply.{KeptReply}

-- the key of a caller's number: the name, a blank, and the number
abbrev pub key_of : List ℕ → List ℕ → List ℕ
key_of caller number = caller ++ 32 ∷ number

abbrev pub keys_of : List KeptReply → List (List ℕ)
keys_of kept = map (λ reply. key_of reply.caller reply.number) kept

-- the map has just the keys of the replies, each with the place of its reply
abbrev pub IsPlaced : List (Vec ℕ Global × ℕ) → List KeptReply → Type 0
IsPlaced places kept =
    (key : Vec ℕ Global) (place : ℕ)
    → (lookup (λ k. bytes_eq key.items k.items) places ≡ Some place)
    ↔ (slice_get (keys_of kept) place ≡ Some key.items)
