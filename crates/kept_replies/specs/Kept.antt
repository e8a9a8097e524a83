-- Kept replies, by their caller and number.
use Rattle.std.specs.Prelude.{◌≡◌, ◌≢◌, ℕ, suc, Bool, ◌&&◌, if◌then◌else◌, List, [], ◌∷◌, All, Option, Some, None, option_map, slice_get}
use Rattle.std.specs.Str.{bytes_eq}
use Rattle.kept_replies.specs.declared.reply.KeptReply.{KeptReply}

-- The replies in order of arrival, and for how many more there is room.
pub record KeptState : Type 0 where
  pub kept : List KeptReply
  pub room : ℕ

-- The text has no blank, as no number has.
abbrev pub IsWord : List ℕ → Type 0
IsWord text = All (λ byte. byte ≢ 32) text

-- The reply is the one for this number of this caller.
abbrev pub IsFor : List ℕ → List ℕ → KeptReply → Type 0
IsFor caller number reply = (reply.caller ≡ caller) × (reply.number ≡ number)

-- No reply is kept for it.
abbrev pub IsFree : List KeptReply → List ℕ → List ℕ → Type 0
IsFree kept caller number = All (λ reply. ¬ IsFor caller number reply) kept

abbrev pub is_for : List ℕ → List ℕ → KeptReply → Bool
is_for caller number reply = bytes_eq reply.caller caller && bytes_eq reply.number number

-- the place of the first reply that is kept for it, counted from 0
abbrev pub place_for : List ℕ → List ℕ → List KeptReply → Option ℕ
place_for caller number [] = None
place_for caller number (reply ∷ kept) =
    if is_for caller number reply then Some 0 else option_map suc (place_for caller number kept)

-- No two are for the same number of the same caller.
abbrev pub IsAlone : List KeptReply → Type 0
IsAlone kept =
    (place other : ℕ) (reply again : KeptReply) → slice_get kept place ≡ Some reply
    → slice_get kept other ≡ Some again → IsFor reply.caller reply.number again → other ≡ place
